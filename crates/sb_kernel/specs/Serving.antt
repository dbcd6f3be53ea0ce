-- Input that is taken a piece at a time, and how a run over it ends.
use Rattle.std.specs.Prelude.{◌≡◌, ◌⊎◌, ℕ, ◌+◌, ◌<◌, ◌≤◌, Bool, false, List, [], ◌++◌, length, Option, Some}
use Rattle.std.specs.declared.ops.ControlFlow.{ControlFlow}
use Rattle.std.specs.declared.ops.ControlFlow.TheVariants.{Break, Continue}
use Rattle.sb_disk.specs.Causes.{Rose}
use Rattle.sb_disk.specs.Streams.{Taken, Given}
use Rattle.sb_plain.specs.declared.reply.Reply.{Reply}
use Rattle.sb_grammar.specs.Columns.{Item}
use Rattle.sb_lines.specs.Lines.{asking, whole_lines, lines_of, AreItems, AreFirstItems, Commands}
use Rattle.sb_registry.specs.Boxes.{Meanings}
use Rattle.sb_kernel.specs.declared.ending.Stop.TheVariants.{SinkFailed, DiskFailed}
use Rattle.sb_kernel.specs.declared.ending.Ending.{Ending}
use Rattle.sb_kernel.specs.declared.ending.Ending.TheVariants.{InputEnded, SourceFailed, MostTaken, Stopped}
use Rattle.sb_kernel.specs.World.{World, At}
use Rattle.sb_kernel.specs.Ending.{AreAnswered, AreReplied, EndsOnce, WritesAtEnd}
use Rattle.sb_kernel.specs.Keeping.{Keeps, KeepsOut}
use Rattle.sb_kernel.specs.Runs.{PlaysOn, PlaysOut, Stands}

-- ---- how a run ends
-- The items answered are those of the whole input, or of all whole lines taken, or, where the run stopped between two lines, of the first lines taken.
abbrev pub AnswersItems : Ending → List ℕ → List Item → Type 0
AnswersItems InputEnded taken items = Commands taken items
AnswersItems SourceFailed taken items = AreItems (asking (whole_lines taken)) items
AnswersItems MostTaken taken items = AreItems (asking (whole_lines taken)) items
AnswersItems (Stopped stop) taken items = AreFirstItems (asking (lines_of taken)) items

-- no byte is left of the input
abbrev pub HasNoneLeft : Option (List ℕ) → Type 0
HasNoneLeft left = (rest : List ℕ) → left ≡ Some rest → rest ≡ []

-- Where the input has ended nothing is left.
abbrev pub LeavesInput : Ending → Option (List ℕ) → Type 0
LeavesInput InputEnded left = HasNoneLeft left
LeavesInput _ left = Unit {0}

-- Bytes without a line end are a line only where the input has ended: while more of it is left, the items are those of whole lines.
abbrev pub CutsNoLine : Ending → List ℕ → List Item → Option (List ℕ) → Type 0
CutsNoLine (Stopped stop) taken items left = AreFirstItems (asking (whole_lines taken)) items ⊎ HasNoneLeft left
CutsNoLine _ taken items left = Unit {0}

-- how many bytes a run takes: the source is asked for more only below the most
abbrev pub TakesUpTo : ℕ → Ending → ℕ → Type 0
TakesUpTo most InputEnded count = count < most
TakesUpTo most SourceFailed count = count < most
TakesUpTo most MostTaken count = count ≡ most
TakesUpTo most (Stopped stop) count = count ≤ most

-- When the source was asked for the last piece, the replies to all lines that had ended were written.
pub record KeepsUp (taken : List ℕ) (replies : List Reply) (written : List ℕ) : Type 0 where
  pub before : List ℕ
  pub piece : List ℕ
  pub is : taken ≡ before ++ piece
  pub short : length piece ≤ 4096
  pub replied : AreReplied (whole_lines before) replies written

-- Where the run stopped between two lines, it had kept up until the last piece; at any other end all replies are written.
abbrev pub WritesInTime : Ending → List ℕ → List Reply → List ℕ → Type 0
WritesInTime (Stopped stop) taken replies written = KeepsUp taken replies written
WritesInTime _ taken replies written = Unit {0}

-- The input has come to its end: the bytes that were taken, and the items begun with their replies. Of the items this is known.
pub record HasEndedSo (most : ℕ) (left left_now held held_now : Option (List ℕ)) (ending : Ending) (starts : List ℕ)
    (IsKnown : List Item → List Reply → Type 0) : Type 0 where
  pub taken : List ℕ
  pub written : List ℕ
  pub items : List Item
  pub replies : List Reply
  pub is_taken : Taken left left_now taken
  pub is_written : Given held held_now written
  pub begun : length items ≡ length starts
  pub answers : AnswersItems ending taken items
  pub whole : CutsNoLine ending taken items left_now
  pub are_answered : AreAnswered items replies
  pub once : EndsOnce ending replies
  pub leaves : LeavesInput ending left_now
  pub within : TakesUpTo most ending (length taken)
  pub writes : WritesAtEnd ending replies written
  pub in_time : WritesInTime ending taken replies written
  pub known : IsKnown items replies

-- the items were played, and this is what they keep
abbrev pub HasEnded : {B D : Type 0} → World B D → Meanings → ℕ → Option (List ℕ) → Option (List ℕ) → Ending → At B D → At B D → Type 0
HasEnded w m most left left_now ending first now =
    HasEndedSo most left left_now first.held now.held ending now.starts (λ items replies. PlaysOn w m items replies first now
    × Keeps w items replies first.disk now.disk first.session now.session)

-- the items were played, and then the session was closed
abbrev pub HasServed : {B D : Type 0} → World B D → Meanings → ℕ → Option (List ℕ) → Option (List ℕ) → Ending → At B D → At B D → Type 0
HasServed w m most left left_now ending first now =
    HasEndedSo most left left_now first.held now.held ending now.starts (λ items replies. PlaysOut w m items replies first now
    × KeepsOut w items replies first now.disk)

-- ---- one piece
-- These bytes were taken, and all of their whole lines were answered.
pub record Serves {B D : Type 0} (w : World B D) (m : Meanings) (bytes : List ℕ) (left left_now : Option (List ℕ)) (line : List ℕ) (first now : At B D)
    : Type 0 where
  pub taken : Taken left left_now bytes
  pub stands : Stands w m bytes line first now

-- So many bytes more were taken.
pub record ServesMore {B D : Type 0} (w : World B D) (m : Meanings) (count room : ℕ) (bytes : List ℕ) (left left_now : Option (List ℕ)) (line : List ℕ)
    (first now : At B D) : Type 0 where
  pub more : List ℕ
  pub count_is : length more ≡ count
  pub some : 0 < count
  pub few : count ≤ room
  pub serves : Serves w m (bytes ++ more) left left_now line first now

-- what comes of one call on the source, which may take so many bytes
abbrev pub PieceLeads : {B D : Type 0} → World B D → Meanings → ControlFlow Ending ℕ → ℕ → List ℕ → Option (List ℕ) → Option (List ℕ) → List ℕ
    → At B D → At B D → Type 0
PieceLeads w m (Continue count) room bytes left left_now line first now = ServesMore w m count room bytes left left_now line first now
PieceLeads w m (Break ending) room bytes left left_now line first now = HasEnded w m (length bytes + room) left left_now ending first now

-- ---- causes
-- how often the source, the sink and the disk have failed
pub record Counts : Type 0 where
  pub source : ℕ
  pub sink : ℕ
  pub disk : ℕ

abbrev pub counted : ℕ → ℕ → ℕ → Counts
counted source sink disk = record { source = source; sink = sink; disk = disk }

pub record NeverFall (before now : Counts) : Type 0 where
  pub source : before.source ≤ now.source
  pub sink : before.sink ≤ now.sink
  pub disk : before.disk ≤ now.disk

-- a failure of the source, the sink or the disk shows in its count
abbrev pub HasEndingCause : Ending → Counts → Counts → Type 0
HasEndingCause SourceFailed before now = Rose before.source now.source
HasEndingCause (Stopped SinkFailed) before now = Rose before.sink now.sink
HasEndingCause (Stopped DiskFailed) before now = Rose before.disk now.disk
HasEndingCause _ before now = Unit {0}

abbrev pub BreaksWithCause : ControlFlow Ending ℕ → Counts → Counts → Type 0
BreaksWithCause (Continue count) before now = Unit {0}
BreaksWithCause (Break ending) before now = HasEndingCause ending before now

-- a piece that was taken has at least one byte, and at most so many
abbrev pub ContinuesWithin : ControlFlow Ending ℕ → ℕ → Type 0
ContinuesWithin (Continue count) room = (0 < count) × (count ≤ room)
ContinuesWithin (Break ending) room = Unit {0}

-- a session with which a run goes on isn't down
abbrev pub GoesOnUp : ControlFlow Ending ℕ → Bool → Type 0
GoesOnUp (Continue count) down = down ≡ false
GoesOnUp (Break ending) down = Unit {0}
