-- A whole run: what was taken, what was answered and written, and what a crash leaves.
use Rattle.std.specs.Prelude.{◌≡◌, ◌⊎◌, ◌↔◌, ℕ, suc, ◌<◌, ◌≤◌, Bool, true, false, is_some, List, [], Option, None, Some, Result, Ok, Err}
use Rattle.sb_disk.specs.Causes.{Rose}
use Rattle.sb_disk.specs.Disk.{Mounted, Story}
use Rattle.sb_disk.specs.Moments.{IsSettled, LeavesOnly, MayLeave, moment}
use Rattle.sb_log.specs.declared.geometry.Geometry.{Geometry}
use Rattle.sb_images.specs.Images.{Restores}
use Rattle.sb_images.specs.Layout.{geometry_of, need}
use Rattle.sb_images.specs.Store.{IsMounted}
use Rattle.sb_recover.specs.declared.fault.OpenFault.{OpenFault}
use Rattle.sb_recover.specs.declared.fault.OpenFault.TheVariants.{BadExtensions, Fault, TooSmall}
use Rattle.sb_recover.specs.Formatting.{IsFormatting, KeepsStore}
use Rattle.sb_recover.specs.Geometries.{HoldsNone}
use Rattle.sb_recover.specs.SuperPage.{IsNoStore}
use Rattle.sb_relation.specs.Db.{Db}
use Rattle.sb_plain.specs.declared.reply.Reply.{Reply}
use Rattle.sb_grammar.specs.Columns.{Item}
use Rattle.sb_sound_plays.specs.Posing.{AreSingle}
use Rattle.sb_registry.specs.Boxes.{Meanings, repeated_in}
use Rattle.sb_drive.specs.Spaces.{Wanted}
use Rattle.sb_sound_plays.specs.Keeping.{commit_none}
use Rattle.sb_sound_plays.specs.Named.{Named}
use Rattle.sb_sound_plays.specs.Creating.{CreateErr}
use Rattle.sb_sound_plays.specs.Naming.{HasLive, all_live, named_in}
use Rattle.sb_sound_plays.specs.Opening.{HasBoxes, IsStored, MayRefuse, NamesEntry, NamesMissing, NamesTable, OpeningErr, opened}
use Rattle.sb_sound_plays.specs.DeclaredEnding.{Ending}
use Rattle.sb_sound_plays.specs.Crashes.{HoldsDatabase, next_start}
use Rattle.sb_sound_plays.specs.Ending.{status_of}
use Rattle.sb_sound_plays.specs.Runs.{HasPlayedOut}
use Rattle.sb_sound_plays.specs.Serving.{HasEndedSo}
use Rattle.sb_sound_plays.specs.LawfulPlaysLaws.{IsLawfulOver, IsLawfulPlay}
use Rattle.sb_sound_plays.specs.Laws.{IsSoundOver, IsSoundPlay}
use Rattle.sb_words.specs.declared.words.Words.{Words}
use Rattle.sb_words.specs.Words.{IsRead, IsRefused}
use Rattle.sb_run.specs.declared.report.Report.{Report}
use Rattle.sb_run.specs.Refusing.{IsRefusedBy, RefusesWords, WritesNothing}
use Rattle.sb_run.specs.Starting.{MakesStore}

-- the bytes that the source has left and those that the sink holds, where they tell them
pub record Seen : Type 0 where
  pub left : Option (List ℕ)
  pub held : Option (List ℕ)

abbrev pub seen : Option (List ℕ) → Option (List ℕ) → Seen
seen left held = record { left = left; held = held }

-- what a disk tells, and how often it has failed
pub record Tells (D : Type 0) : Type 0 where
  pub told : D → Option Story
  pub len : D → ℕ
  pub faults : D → ℕ

abbrev pub tells : {D : Type 0} → (D → Option Story) → (D → ℕ) → (D → ℕ) → Tells D
tells told len faults = record { told = told; len = len; faults = faults }

-- ---- runs that begin
-- A session was opened over the mounted disk, with those of the boxes live that were, and the named ones. Meanwhile a crash left what is said of early
-- images.
pub record HasBegun {D : Type 0} (d : Tells D) (m : Meanings) (named : List Named) (IsEarly : List ℕ → Type 0) (mounted : D) : Type 0 where
  pub boxes : Meanings
  pub live : HasLive m named boxes
  pub first : D
  pub later : d.faults mounted ≤ d.faults first
  pub early : LeavesOnly (d.told mounted) (d.told first) IsEarly

-- The items had these replies in a play from the database, with these boxes and a store of these sizes. From the mount until the first item began, a
-- crash left what is said of early images. Over a lawful database all states of the play are lawful, and so is each database that a crash leaves of it;
-- over one whose rules hold they hold.
pub record HasPlayedFrom {D : Type 0} (d : Tells D) (m boxes : Meanings) (g : Geometry) (IsEarly : List ℕ → Type 0) (db : Db) (mounted first now : D)
    (items : List Item) (replies : List Reply) (starts : List ℕ) : Type 0 where
  pub early : (t : ℕ) (image : List ℕ) → moment (d.told mounted) ≤ t → t < next_start starts (suc (moment (d.told now)))
      → MayLeave (d.told now) t image → IsEarly image
  pub played : HasPlayedOut d.told d.faults m g first (opened boxes db) items replies starts now
  pub lawful : IsLawfulOver m db → IsLawfulPlay m (d.told now) starts played.until played.states
  pub sound : IsSoundOver m db → IsSoundPlay m (d.told now) starts played.until played.states

-- So it is without a premise over a new store, whose database is empty.
pub record KeepsRules {D : Type 0} (d : Tells D) (m boxes : Meanings) (g : Geometry) (IsEarly : List ℕ → Type 0) (mounted first now : D) (items : List Item)
    (replies : List Reply) (starts : List ℕ) (from : HasPlayedFrom d m boxes g IsEarly [] mounted first now items replies starts) : Type 0 where
  pub lawful : IsLawfulPlay m (d.told now) starts from.played.until from.played.states
  pub sound : IsSoundPlay m (d.told now) starts from.played.until from.played.states

-- an image holds no store, or the empty database
abbrev pub HoldsNew : Meanings → List ℕ → Type 0
HoldsNew m image = IsNoStore image ⊎ HoldsDatabase m image []

-- No store is opened of which a box is missing. Over contents that stand for a database the session is opened over it, and early images hold it; with
-- boxes that live together the play is from it. A new store is made only on a disk without one: it comes to hold one of the sizes that the words ask for,
-- whose database is empty.
abbrev pub PlaysFrom : {D : Type 0} → Tells D → Meanings → Words → (create : Bool) → (mounted now : D) → List ℕ → List Item → List Reply → Type 0
PlaysFrom d m words false mounted now starts items replies =
    HasBoxes m (d.told mounted)
    × ((g : Geometry) (want : Wanted) (db : Db) (stored : IsStored m (d.told mounted) g want db)
    → (begun : HasBegun d m (named_in stored.committed.kept) (λ image. HoldsDatabase m image db) mounted)
    × (AreSingle (all_live m) → HasPlayedFrom d m begun.boxes g (λ image. HoldsDatabase m image db) db mounted begun.first now items replies starts))
PlaysFrom d m words true mounted now starts items replies =
    HoldsNone (d.told mounted)
    × (is_some (d.told mounted) ≡ true → IsSettled (d.told mounted)
    → (begun : HasBegun d m [] (HoldsNew m) mounted)
    × MakesStore words (d.told mounted) (d.told begun.first)
    × (AreSingle (all_live m) → (from : HasPlayedFrom d m begun.boxes (geometry_of words.pages words.log) (HoldsNew m) [] mounted begun.first now items replies starts)
    × KeepsRules d m begun.boxes (geometry_of words.pages words.log) (HoldsNew m) mounted begun.first now items replies starts from))

-- Where no item can have committed a database, a crash leaves what the contents' store restored at the mount, whatever that stands for.
abbrev pub KeepsPages : {D : Type 0} → Tells D → (create : Bool) → (mounted now : D) → List Item → List Reply → Type 0
KeepsPages d false mounted now items replies = commit_none false items replies ≡ true
    → (want : ℕ → List ℕ) (g : Geometry) → IsMounted want (d.told mounted) g → LeavesOnly (d.told mounted) (d.told now) (Restores g want)
KeepsPages d true mounted now items replies = Unit {0}

-- a store was opened, or made and opened, and items were answered until the run ended
pub record HasRun {D : Type 0} (d : Tells D) (m : Meanings) (words : Words) (most : ℕ) (old new : Seen) (mounted now : D) (report : Report) : Type 0 where
  pub ending : Ending
  pub status : report.status ≡ status_of ending
  pub later : d.faults mounted ≤ d.faults now
  pub ended : HasEndedSo most old.left new.left old.held new.held ending report.starts
      (λ items replies. PlaysFrom d m words words.create mounted now report.starts items replies × KeepsPages d words.create mounted now items replies)

-- ---- runs that don't begin
-- the disk failed a call, where the refusal says so
abbrev pub HasFailedIf : {D : Type 0} → Tells D → OpenFault → D → D → Type 0
HasFailedIf d e mounted now = e ≡ Fault → Rose (d.faults mounted) (d.faults now)

-- Why the store that a disk holds isn't opened. All along a crash leaves what restores the same pages.
pub record IsNotOpened {D : Type 0} (d : Tells D) (m : Meanings) (e : OpenFault) (mounted now : D) : Type 0 where
  pub missing : (n : Meanings) (g : Geometry) (want : Wanted) (db : Db) (stored : IsStored n (d.told mounted) g want db)
      → MayRefuse m (named_in stored.committed.kept) e
  pub table : NamesTable e (d.told mounted)
  pub entry : NamesEntry e (d.told mounted)
  pub absent : NamesMissing m e (d.told mounted)
  pub refused : OpeningErr e (d.told mounted) (d.told now)
  pub leaves : (want : ℕ → List ℕ) (g : Geometry) → IsMounted want (d.told mounted) g → LeavesOnly (d.told mounted) (d.told now) (Restores g want)
  pub fault : HasFailedIf d e mounted now

-- Why no store is made, or the one that was made isn't opened. A store that is there stays as it is; else a crash leaves none all along, or a new one.
pub record IsNotMade {D : Type 0} (d : Tells D) (g : Geometry) (e : OpenFault) (mounted now : D) : Type 0 where
  pub small : (e ≡ TooSmall (d.len mounted) (need g.pages g.log)) ↔ (d.len mounted < need g.pages g.log)
  pub refused : CreateErr d.told e (d.len mounted) g mounted now
  pub keeps : KeepsStore (d.told mounted) (d.told now)
  pub leaves : IsSettled (d.told mounted) → HoldsNone (d.told mounted) → LeavesOnly (d.told mounted) (d.told now) (IsFormatting g)
  pub fault : HasFailedIf d e mounted now

abbrev pub IsNoSession : {D : Type 0} → Tells D → Meanings → Words → (create : Bool) → OpenFault → D → D → Type 0
IsNoSession d m words false e mounted now = IsNotOpened d m e mounted now
IsNoSession d m words true e mounted now = IsNotMade d (geometry_of words.pages words.log) e mounted now

-- What comes of a run over a mounted disk: there is no session over its store, and nothing is read; or items are answered.
pub data RunsMounted {D : Type 0} (d : Tells D) (m : Meanings) (words : Words) (most : ℕ) (old new : Seen) (mounted now : D) (report : Report)
    : Type 0 where
  NotBegun : (e : OpenFault) → IsNoSession d m words words.create e mounted now → new.left ≡ old.left → IsRefusedBy e old.held new.held report
      → RunsMounted d m words most old new mounted now report
  Run : HasRun d m words most old new mounted now report → RunsMounted d m words most old new mounted now report

-- The disk couldn't be mounted: it tells what a mount leaves.
pub record HasNotMounted {D : Type 0} (d : Tells D) (old new : Seen) (disk now : D) (report : Report) : Type 0 where
  pub told : Mounted (d.told disk) (d.told now)
  pub reads : new.left ≡ old.left
  pub writes : WritesNothing 3 old.held new.held report
  pub fault : Rose (d.faults disk) (d.faults now)

-- What comes of a run with words that were read. Behind the mount a code that repeats among the boxes is refused first.
pub data RunsOn {D : Type 0} (d : Tells D) (m : Meanings) (words : Words) (most : ℕ) (old new : Seen) (disk now : D) (report : Report) : Type 0 where
  NotMounted : HasNotMounted d old new disk now report → RunsOn d m words most old new disk now report
  BadBoxes : (code : ℕ) → Mounted (d.told disk) (d.told now) → repeated_in m ≡ Some code → new.left ≡ old.left
      → IsRefusedBy (BadExtensions code) old.held new.held report → RunsOn d m words most old new disk now report
  OnMounted : (mounted : D) → Mounted (d.told disk) (d.told mounted) → d.faults disk ≤ d.faults mounted → repeated_in m ≡ None → RunsMounted d m words most old new mounted now report
      → RunsOn d m words most old new disk now report

-- What comes of a run with these words: clap refuses them, or memory is wanting to read them, or they are read.
pub data IsRun {D : Type 0} (d : Tells D) (m : Meanings) (given : List (List ℕ)) (most : ℕ) (old new : Seen) (disk now : D) (report : Report)
    : Type 0 where
  BadWords : IsRefused given → new.left ≡ old.left → RefusesWords old.held new.held report → now ≡ disk → IsRun d m given most old new disk now report
  Unread : new.left ≡ old.left → WritesNothing 7 old.held new.held report → now ≡ disk → IsRun d m given most old new disk now report
  Read : (words : Words) → IsRead given (Ok (Some words)) → RunsOn d m words most old new disk now report → IsRun d m given most old new disk now report

-- The boxes of a run mean this, or they were refused for a code that repeats among those that mean this.
abbrev pub AreTaken : {B : Type 0} → (B → Meanings) → Result B ℕ → Meanings → Type 0
AreTaken meanings (Ok boxes) m = meanings boxes ≡ m
AreTaken meanings (Err code) m = repeated_in m ≡ Some code
