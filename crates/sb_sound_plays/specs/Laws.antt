-- Plays lead through sound states.
use Rattle.std.specs.Prelude.{ℕ, suc, ◌≤◌, List, [], Option, All}
use Rattle.sb_disk.specs.Causes.{Rose}
use Rattle.sb_disk.specs.Disk.{Story}
use Rattle.sb_disk.specs.Moments.{MayLeave, moment}
use Rattle.sb_relation.specs.Db.{Db}
use Rattle.sb_plain.specs.declared.reply.Reply.{Reply}
use Rattle.sb_plain.specs.State.{State, committed}
use Rattle.sb_grammar.specs.Columns.{Item}
use Rattle.sb_registry.specs.Boxes.{Meanings}
use Rattle.sb_lawful_plays.specs.Working.{extensions_of}
use Rattle.sb_lawful_plays.specs.Laws.{named_of}
use Rattle.sb_lawful_plays.specs.Naming.{HasSameNamed, named_in}
use Rattle.sb_lawful_plays.specs.Opening.{opened}
use Rattle.sb_lawful_plays.specs.Geometry.{Geometry}
use Rattle.sb_lawful_plays.specs.DeclaredEnding.{Ending}
use Rattle.sb_lawful_plays.specs.World.{World, At}
use Rattle.sb_lawful_plays.specs.Plays.{Plays}
use Rattle.sb_lawful_plays.specs.Crashes.{HoldsDatabase, IsLeft, next_start}
use Rattle.sb_lawful_plays.specs.Runs.{HasPlayed, HasPlayedOut}
use Rattle.sb_lawful_plays.specs.Serving.{AnswersItems}
use Rattle.sb_sound_said.specs.Laws.{IsSoundWithin}
use Rattle.sb_sound_said.specs.Written.{IsWrittenItem}

-- ---- states and databases
-- a sound state, with these boxes' extensions
abbrev pub IsSoundFor : Meanings → State → Type 0
IsSoundFor m s = IsSoundWithin (extensions_of m) s

-- a state that is opened over the database is sound, with whichever boxes live
abbrev pub IsSoundOver : Meanings → Db → Type 0
IsSoundOver m db = (boxes : Meanings) → IsSoundFor m (opened boxes db)

-- so it is over each commit of a sound state, and over the last one
pub record HasSoundCommits (m : Meanings) (s : State) : Type 0 where
  pub each : All (IsSoundOver m) s.commits
  pub last : IsSoundOver m (committed s)

abbrev pub CommitsAreSound : Type 0
CommitsAreSound = (m : Meanings) (s : State) → IsSoundFor m s → HasSoundCommits m s

abbrev pub NothingIsSound : Type 0
NothingIsSound = (m : Meanings) → IsSoundOver m []

-- the image holds such a database
pub record HoldsSound (m : Meanings) (image : List ℕ) : Type 0 where
  pub db : Db
  pub holds : HoldsDatabase m image db
  pub sound : IsSoundOver m db

-- what a crash may leave while an item is answered that leads from a sound state to a sound one
abbrev pub CrashesLeaveSound : Type 0
CrashesLeaveSound =
    (m : Meanings) (s t : State) (item : Item) (image : List ℕ) → IsWrittenItem item → IsSoundFor m s → IsSoundFor m t → IsLeft m s item t image
    → HoldsSound m image

-- ---- other boxes
-- a database that is sound with some boxes is so with any others, of which those are the same ones that its relations name
abbrev pub SameBoxesAreSound : Type 0
SameBoxesAreSound = (m n : Meanings) (db : Db) → HasSameNamed (named_of db) m n → IsSoundOver m db → IsSoundOver n db

-- so it is where those are the same that the descriptors in the store name that holds it
abbrev pub HeldBoxesAreSound : Type 0
HeldBoxesAreSound =
    (m n : Meanings) (image : List ℕ) (db : Db) (held : HoldsDatabase m image db) → HasSameNamed (named_in held.committed.kept) m n
    → IsSoundOver m db → IsSoundOver n db

-- ---- plays
-- the states of a play from a sound state
abbrev pub PlaysAreSound : Type 0
PlaysAreSound =
    (m : Meanings) (g : Geometry) (old new : ℕ) (s : State) (items : List Item) (replies : List Reply) (states : List State) → All IsWrittenItem items → IsSoundFor m s
    → Plays m g (Rose old new) s items replies states → All (IsSoundFor m) states

-- those of what a session has played
abbrev pub PlayedAreSound : {B D : Type 0} → World B D → Type 0
PlayedAreSound {B} {D} w =
    (m : Meanings) (g : Geometry) (first : D) (s : State) (items : List Item) (replies : List Reply) (here : At B D) → All IsWrittenItem items → IsSoundFor m s
    → (played : HasPlayed w m g first s items replies here) → All (IsSoundFor m) played.states

-- The states are sound, and since the first item began a crash leaves sound databases alone.
pub record IsSoundPlay (m : Meanings) (told : Option Story) (starts : List ℕ) (until : ℕ) (states : List State) : Type 0 where
  pub sound : All (IsSoundFor m) states
  pub leaves : (t : ℕ) (image : List ℕ) → next_start starts (suc until) ≤ t → t ≤ moment told → MayLeave told t image → HoldsSound m image

-- so it is of what was played when the session was closed
abbrev pub PlayedOutAreSound : {D : Type 0} → (D → Option Story) → (D → ℕ) → Type 0
PlayedOutAreSound {D} told faults =
    (m : Meanings) (g : Geometry) (first : D) (s : State) (items : List Item) (replies : List Reply) (starts : List ℕ) (now : D) → All IsWrittenItem items → IsSoundFor m s
    → (played : HasPlayedOut told faults m g first s items replies starts now) → IsSoundPlay m (told now) starts played.until played.states

-- ---- runs
-- A run over a store is opened over its database, and what lines say is played: where that database was sound, all states are.
abbrev pub RunsAreSound : {D : Type 0} → (D → Option Story) → (D → ℕ) → Type 0
RunsAreSound {D} told faults =
    (m boxes : Meanings) (g : Geometry) (db : Db) (ending : Ending) (taken : List ℕ) (first : D) (items : List Item) (replies : List Reply) (starts : List ℕ) (now : D)
    → IsSoundOver m db → AnswersItems ending taken items → (played : HasPlayedOut told faults m g first (opened boxes db) items replies starts now)
    → IsSoundPlay m (told now) starts played.until played.states

-- a run over a store that it made, whose database is empty
abbrev pub MadeRunsAreSound : {D : Type 0} → (D → Option Story) → (D → ℕ) → Type 0
MadeRunsAreSound {D} told faults =
    (m boxes : Meanings) (g : Geometry) (ending : Ending) (taken : List ℕ) (first : D) (items : List Item) (replies : List Reply) (starts : List ℕ) (now : D)
    → AnswersItems ending taken items → (played : HasPlayedOut told faults m g first (opened boxes []) items replies starts now)
    → IsSoundPlay m (told now) starts played.until played.states
