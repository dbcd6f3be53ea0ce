-- Plays lead through lawful states.
use Rattle.std.specs.Prelude.{ℕ, suc, ◌≤◌, false, List, [], ◌∷◌, map, Option, All}
use Rattle.std.specs.List.{flat_map}
use Rattle.sb_disk.specs.Causes.{Rose}
use Rattle.sb_disk.specs.Disk.{Story}
use Rattle.sb_disk.specs.Moments.{MayLeave, moment}
use Rattle.sb_relation.specs.Db.{Attached, Relation, Db}
use Rattle.sb_plain.specs.declared.reply.Reply.{Reply}
use Rattle.sb_plain.specs.State.{State, committed}
use Rattle.sb_grammar.specs.Columns.{Item}
use Rattle.sb_registry.specs.Boxes.{Meanings}
use Rattle.sb_kernel.specs.Working.{extensions_of}
use Rattle.sb_kernel.specs.Named.{Named}
use Rattle.sb_kernel.specs.Naming.{HasSameNamed, named_in, named_method}
use Rattle.sb_kernel.specs.Opening.{opened}
use Rattle.sb_kernel.specs.Geometry.{Geometry}
use Rattle.sb_kernel.specs.declared.ending.Ending.{Ending}
use Rattle.sb_kernel.specs.World.{World, At}
use Rattle.sb_kernel.specs.Plays.{Plays}
use Rattle.sb_kernel.specs.Crashes.{HoldsDatabase, IsLeft, next_start}
use Rattle.sb_kernel.specs.Runs.{HasPlayed, HasPlayedOut}
use Rattle.sb_kernel.specs.Serving.{AnswersItems}
use Rattle.sb_lawful_steps.specs.Spelling.{rule_code}
use Rattle.sb_said.specs.Laws.{IsLawfulWithin}
use Rattle.sb_said.specs.Written.{IsWrittenItem}

-- ---- items
-- what a run answers is what lines say
abbrev pub AnswersAreWritten : Type 0
AnswersAreWritten = (ending : Ending) (taken : List ℕ) (items : List Item) → AnswersItems ending taken items → All IsWrittenItem items

-- ---- states and databases
-- a lawful state, with these boxes' extensions
abbrev pub IsLawfulFor : Meanings → State → Type 0
IsLawfulFor m s = IsLawfulWithin (extensions_of m) s

-- a state that is opened over the database is lawful, with whichever boxes live
abbrev pub IsLawfulOver : Meanings → Db → Type 0
IsLawfulOver m db = (boxes : Meanings) → IsLawfulFor m (opened boxes db)

-- so it is over each commit of a lawful state, and over the last one
pub record HasLawfulCommits (m : Meanings) (s : State) : Type 0 where
  pub each : All (IsLawfulOver m) s.commits
  pub last : IsLawfulOver m (committed s)

abbrev pub CommitsAreLawful : Type 0
CommitsAreLawful = (m : Meanings) (s : State) → IsLawfulFor m s → HasLawfulCommits m s

abbrev pub NothingIsLawful : Type 0
NothingIsLawful = (m : Meanings) → IsLawfulOver m []

-- the image holds such a database
pub record HoldsLawful (m : Meanings) (image : List ℕ) : Type 0 where
  pub db : Db
  pub holds : HoldsDatabase m image db
  pub lawful : IsLawfulOver m db

-- what a crash may leave while an item is answered that leads from a lawful state to a lawful one
abbrev pub CrashesLeaveLawful : Type 0
CrashesLeaveLawful =
    (m : Meanings) (s t : State) (item : Item) (image : List ℕ) → IsWrittenItem item → IsLawfulFor m s → IsLawfulFor m t → IsLeft m s item t image
    → HoldsLawful m image

-- ---- other boxes
-- the code of an attachment
abbrev pub named_rule : Attached → Named
named_rule a = record { method = false; code = rule_code a.rule }

-- the codes that a relation names: that of its storage method, and then those of its attachments
abbrev pub named_at : Relation → List Named
named_at r = named_method r.method ∷ map named_rule r.attachments

-- those of all relations, in their order
abbrev pub named_of : Db → List Named
named_of db = flat_map (λ e. named_at e.1) db

-- a database that is lawful with some boxes is so with any others, of which those are the same ones that its relations name
abbrev pub SameBoxesAreLawful : Type 0
SameBoxesAreLawful = (m n : Meanings) (db : Db) → HasSameNamed (named_of db) m n → IsLawfulOver m db → IsLawfulOver n db

-- so it is where those are the same that the descriptors in the store name that holds it
abbrev pub HeldBoxesAreLawful : Type 0
HeldBoxesAreLawful =
    (m n : Meanings) (image : List ℕ) (db : Db) (held : HoldsDatabase m image db) → HasSameNamed (named_in held.committed.kept) m n
    → IsLawfulOver m db → IsLawfulOver n db

-- ---- plays
-- the states of a play from a lawful state
abbrev pub PlaysAreLawful : Type 0
PlaysAreLawful =
    (m : Meanings) (g : Geometry) (old new : ℕ) (s : State) (items : List Item) (replies : List Reply) (states : List State) → All IsWrittenItem items → IsLawfulFor m s
    → Plays m g (Rose old new) s items replies states → All (IsLawfulFor m) states

-- those of what a session has played
abbrev pub PlayedAreLawful : {B D : Type 0} → World B D → Type 0
PlayedAreLawful {B} {D} w =
    (m : Meanings) (g : Geometry) (first : D) (s : State) (items : List Item) (replies : List Reply) (here : At B D) → All IsWrittenItem items → IsLawfulFor m s
    → (played : HasPlayed w m g first s items replies here) → All (IsLawfulFor m) played.states

-- The states are lawful, and since the first item began a crash leaves lawful databases alone.
pub record IsLawfulPlay (m : Meanings) (told : Option Story) (starts : List ℕ) (until : ℕ) (states : List State) : Type 0 where
  pub lawful : All (IsLawfulFor m) states
  pub leaves : (t : ℕ) (image : List ℕ) → next_start starts (suc until) ≤ t → t ≤ moment told → MayLeave told t image → HoldsLawful m image

-- so it is of what was played when the session was closed
abbrev pub PlayedOutAreLawful : {D : Type 0} → (D → Option Story) → (D → ℕ) → Type 0
PlayedOutAreLawful {D} told faults =
    (m : Meanings) (g : Geometry) (first : D) (s : State) (items : List Item) (replies : List Reply) (starts : List ℕ) (now : D) → All IsWrittenItem items → IsLawfulFor m s
    → (played : HasPlayedOut told faults m g first s items replies starts now) → IsLawfulPlay m (told now) starts played.until played.states

-- ---- runs
-- A run over a store is opened over its database, and what lines say is played: where that database was lawful, all states are.
abbrev pub RunsAreLawful : {D : Type 0} → (D → Option Story) → (D → ℕ) → Type 0
RunsAreLawful {D} told faults =
    (m boxes : Meanings) (g : Geometry) (db : Db) (ending : Ending) (taken : List ℕ) (first : D) (items : List Item) (replies : List Reply) (starts : List ℕ) (now : D)
    → IsLawfulOver m db → AnswersItems ending taken items → (played : HasPlayedOut told faults m g first (opened boxes db) items replies starts now)
    → IsLawfulPlay m (told now) starts played.until played.states

-- a run over a store that it made, whose database is empty
abbrev pub MadeRunsAreLawful : {D : Type 0} → (D → Option Story) → (D → ℕ) → Type 0
MadeRunsAreLawful {D} told faults =
    (m boxes : Meanings) (g : Geometry) (ending : Ending) (taken : List ℕ) (first : D) (items : List Item) (replies : List Reply) (starts : List ℕ) (now : D)
    → AnswersItems ending taken items → (played : HasPlayedOut told faults m g first (opened boxes []) items replies starts now)
    → IsLawfulPlay m (told now) starts played.until played.states
