-- How a run ends, and what has been written by then.
use Rattle.std.specs.Prelude.{◌≡◌, ◌≤◌, ◌⊎◌, ℕ, false, List, [], ◌∷◌, ◌++◌, All, length, Result, Err, Ok}
use Rattle.sb_fold.specs.declared.refusal.Refusal.TheVariants as refusal
use Rattle.sb_plain.specs.declared.reply.Reply.{Reply}
use Rattle.sb_plain.specs.declared.reply.Reply.TheVariants.{Refused}
use Rattle.sb_plain.specs.Text.{reply_text, text_of}
use Rattle.sb_grammar.specs.Columns.{Item, Says, Bad}
use Rattle.sb_disk.specs.Causes.{Rose}
use Rattle.sb_lines.specs.Lines.{asking}
use Rattle.sb_opening.specs.Ends.{ends_with}
use Rattle.sb_kernel.specs.declared.ending.Stop.{Stop}
use Rattle.sb_kernel.specs.declared.ending.Stop.TheVariants.{SinkFailed, NoMemory, DiskFailed, Damaged}
use Rattle.sb_kernel.specs.declared.ending.Ending.{Ending}
use Rattle.sb_kernel.specs.declared.ending.Ending.TheVariants.{InputEnded, SourceFailed, MostTaken, Stopped}

-- the exit status
abbrev pub status_of : Ending → ℕ
status_of InputEnded = 0
status_of (Stopped DiskFailed) = 3
status_of SourceFailed = 4
status_of (Stopped SinkFailed) = 5
status_of (Stopped Damaged) = 6
status_of (Stopped NoMemory) = 7
status_of MostTaken = 8

-- the reply says why the run stops
abbrev pub SaysWhy : Stop → Reply → Type 0
SaysWhy DiskFailed reply = reply ≡ Refused refusal.Fault
SaysWhy Damaged reply = (page : ℕ) × (reply ≡ Refused (refusal.Damaged page))
SaysWhy stop reply = ⊥

-- a reply that ends the session stops the run, and others don't
abbrev pub EndsOrNot : Reply → Result (Unit {0}) Stop → Type 0
EndsOrNot reply (Ok x) = ends_with reply ≡ false
EndsOrNot reply (Err stop) = SaysWhy stop reply

-- ---- what is so of replies whatever the pages hold
-- a bad line is answered by the column of its fault
abbrev pub AnswersBad : Item → Reply → Type 0
AnswersBad (Bad column) reply = reply ≡ Refused (refusal.Syntax column)
AnswersBad (Says c) reply = Unit {0}

-- each item has one reply
abbrev pub AreAnswered : List Item → List Reply → Type 0
AreAnswered [] [] = Unit {0}
AreAnswered (item ∷ items) (reply ∷ replies) = AnswersBad item reply × AreAnswered items replies
AreAnswered _ _ = ⊥

-- none of the replies ends the session
abbrev pub GoOn : List Reply → Type 0
GoOn replies = All (λ reply. ends_with reply ≡ false) replies

-- none but the last of them does
pub record GoOnButLast (replies : List Reply) : Type 0 where
  pub first : List Reply
  pub others : List Reply
  pub are : replies ≡ first ++ others
  pub few : length others ≤ 1
  pub on : GoOn first

-- ---- what was written
-- the sink's count of faults never falls, and the stop SinkFailed comes only where it rose
pub record SinkCause {A : Type 0} (before now : ℕ) (result : Result A Stop) : Type 0 where
  pub later : before ≤ now
  pub failed : result ≡ Err SinkFailed → Rose before now

-- the bytes are a front of the text
pub record IsFront (bytes text : List ℕ) : Type 0 where
  pub others : List ℕ
  pub whole : text ≡ bytes ++ others

-- the bytes are a front of the text that lacks its end
pub record BreaksOff (bytes text : List ℕ) : Type 0 where
  pub next : ℕ
  pub others : List ℕ
  pub whole : text ≡ bytes ++ next ∷ others

-- the text of all replies but the last
pub record LacksLast (replies : List Reply) (bytes : List ℕ) : Type 0 where
  pub written : List Reply
  pub last : Reply
  pub are : replies ≡ written ++ last ∷ []
  pub is_text : bytes ≡ text_of written

-- the text of all replies, but for the end of the last one's
pub record LacksEnd (replies : List Reply) (bytes : List ℕ) : Type 0 where
  pub written : List Reply
  pub last : Reply
  pub part : List ℕ
  pub are : replies ≡ written ++ last ∷ []
  pub breaks_off : BreaksOff part (reply_text last)
  pub is_text : bytes ≡ text_of written ++ part

-- the text of all replies, the last of which says why the run stops
pub record SaysLast (stop : Stop) (replies : List Reply) (bytes : List ℕ) : Type 0 where
  pub before : List Reply
  pub last : Reply
  pub are : replies ≡ before ++ last ∷ []
  pub why : SaysWhy stop last
  pub is_text : bytes ≡ text_of replies

-- the replies to these lines were written, before any others
pub record AreReplied (lines : List (List ℕ)) (replies : List Reply) (bytes : List ℕ) : Type 0 where
  pub first : List Reply
  pub others : List Reply
  pub are : replies ≡ first ++ others
  pub each : length first ≡ length (asking lines)
  pub front : IsFront (text_of first) bytes

-- What was written where a run stops between two lines. A sink may fail at any call, and all items but the last have their replies then: so no item
-- begins while a reply is still to be written. Where memory was wanting with all replies written, none of them ended the session.
abbrev pub WritesAtStop : Stop → List Reply → List ℕ → Type 0
WritesAtStop SinkFailed replies bytes = LacksEnd replies bytes
WritesAtStop NoMemory replies bytes = (GoOn replies × (bytes ≡ text_of replies)) ⊎ LacksLast replies bytes
WritesAtStop DiskFailed replies bytes = SaysLast DiskFailed replies bytes
WritesAtStop Damaged replies bytes = SaysLast Damaged replies bytes

-- what was written at the end: where the input ended, the source failed or the most was taken, the text of all replies
abbrev pub WritesAtEnd : Ending → List Reply → List ℕ → Type 0
WritesAtEnd (Stopped stop) replies bytes = WritesAtStop stop replies bytes
WritesAtEnd _ replies bytes = bytes ≡ text_of replies

-- a reply that ends the session is the last one, and the run stops behind it
abbrev pub EndsOnce : Ending → List Reply → Type 0
EndsOnce (Stopped stop) replies = GoOnButLast replies
EndsOnce _ replies = GoOn replies
