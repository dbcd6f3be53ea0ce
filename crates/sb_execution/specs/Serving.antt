-- What comes of a command on an engine, for a state of the plain database.
use Rattle.std.specs.Prelude.{◌≡◌, ℕ, Bool, true, false, not, ◌||◌, ◌&&◌, List, map, Some, None, IfSome}
use Rattle.sb_fold.specs.declared.refusal.Refusal.{Refusal}
use Rattle.sb_fold.specs.declared.refusal.Refusal.TheVariants as refusal
use Rattle.sb_fold.specs.Outcome.{Going, Gone, Queue, Trail}
use Rattle.sb_plain.specs.declared.command.Command.{Command}
use Rattle.sb_plain.specs.declared.command.Command.TheVariants as command
use Rattle.sb_plain.specs.declared.reply.Reply.{Reply}
use Rattle.sb_plain.specs.declared.reply.Reply.TheVariants.{Count, Done, Refused}
use Rattle.sb_plain.specs.Reading.{read}
use Rattle.sb_plain.specs.Refusing.{refused}
use Rattle.sb_plain.specs.State.{State, is_inside, no_queue, none_gone, points_of, view}
use Rattle.sb_plain.specs.Step.{Answer, work_of}
use Rattle.sb_cascade.specs.Runs.{MadeFrom, StopsFrom, is_free, is_room}
use Rattle.sb_registry.specs.Boxes.{Meanings}
use Rattle.sb_drive.specs.Slots.{Slots}
use Rattle.sb_drive.specs.Spaces.{LeadsOn, Wanted}
use Rattle.sb_drive.specs.declared.space.SpaceFault.{SpaceFault}
use Rattle.sb_map.specs.declared.place.Place.{Place}
use Rattle.sb_standing.specs.Tables.{Kept}
use Rattle.sb_txn.specs.Parts.{Parts}
use Rattle.sb_engine.specs.declared.running.Work.{Work as EngineWork}
use Rattle.sb_engine.specs.Opening.{IsKeeping}
use Rattle.sb_engine.specs.Working.{IsStoppedIn, extensions_of}
use Rattle.sb_vectors.specs.Vectors.{live_codes, spare_codes}
use Rattle.sb_session.specs.Commits.{IsStoppedOn, Mounted}
use Rattle.sb_session.specs.Transactions.{IsAt, IsPaidAt}
use Rattle.sb_session.specs.declared.session.Savepoint.{Savepoint}
use Rattle.sb_reads.specs.Reads.{IsAnswer, is_reading}
use Rattle.sb_statements.specs.Posed.{IsPosed, IsWhere}
use Rattle.sb_statements.specs.Statements.{answer_of}
use Rattle.sb_execution.specs.declared.serving.Served.{Served}
use Rattle.sb_execution.specs.declared.serving.Served.TheVariants as served

-- a command that changes a transaction or the boxes, and no relation
abbrev pub is_managing : Command → Bool
is_managing command.Begin = true
is_managing command.Commit = true
is_managing command.Abort = true
is_managing (command.Savepoint name) = true
is_managing (command.Rollback name) = true
is_managing command.Checkpoint = true
is_managing (command.Register method code) = true
is_managing (command.Retire method code) = true
is_managing c = false

-- A command that may commit a database: a commit, and outside of a transaction each that changes a relation.
abbrev pub can_commit : Command → (inside : Bool) → Bool
can_commit command.Commit inside = true
can_commit c inside = not (inside || is_managing c || is_reading c)

-- a reply behind which a database may have been changed: it tells of a change, or that the disk failed; the others are refusals, and what was read
abbrev pub may_have_changed : Reply → Bool
may_have_changed (Done key picks) = true
may_have_changed (Count count picks) = true
may_have_changed (Refused refusal.Fault) = true
may_have_changed reply = false

-- such a command with such a reply may have committed a database; all else leaves what was wanted
abbrev pub may_have_committed : Command → (inside : Bool) → Reply → Bool
may_have_committed c inside reply = can_commit c inside && may_have_changed reply

-- what waits in the transaction of a state
abbrev pub waiting_in : State → Queue
waiting_in s = elim s.transaction [ None ↦ no_queue | Some t ↦ t.queue ]

-- what was dropped and detached there
abbrev pub gone_in : State → Gone
gone_in s = elim s.transaction [ None ↦ none_gone | Some t ↦ t.gone ]

-- The work is that of a state that isn't down, of whose transaction this is told.
pub record IsSeenIn (m : Meanings) (within : Bool) (named : List Savepoint) (s : State) (g : Going) : Type 0 where
  pub up : s.down ≡ false
  pub db : view s ≡ g.db
  pub queue : waiting_in s ≡ g.queue
  pub gone : gone_in s ≡ g.gone
  pub live : s.live ≡ live_codes m
  pub spare : s.spare ≡ spare_codes m
  pub inside : within ≡ is_inside s
  pub points : map (λ p. p.name) named ≡ map (λ p. p.name) (points_of s)

-- the command may be carried out if no test refuses it
abbrev pub IsPosedIn : Meanings → State → Command → Type 0
IsPosedIn m s c = refused (extensions_of m) s c ≡ None → IsPosed m c

-- no test refuses a posed command, and the work is that of the state
pub record MayServe (m : Meanings) (s : State) (c : Command) (g : Going) : Type 0 where
  pub posed : IsPosed m c
  pub passed : refused (extensions_of m) s c ≡ None
  pub is : IsWhere m s g

-- the command has work, which gives the answer
abbrev pub Makes : {S : Type 0} → (Going → S → Type 0) → Meanings → Command → Going → Answer → S → Type 0
Makes IsSo m c g answer new = IfSome (work_of (extensions_of m) c) (λ work. MadeFrom IsSo work g answer new)

-- or which is refused so, where this stops it
abbrev pub IsRefusedIn : {S : Type 0} → (Refusal → Trail → S → Type 0) → Meanings → Command → Going → Refusal → S → Type 0
IsRefusedIn Stopped m c g r new = IfSome (work_of (extensions_of m) c) (λ work. StopsFrom Stopped work g r new)

-- what came of a command was read
abbrev pub is_read : Served → Bool
is_read (served.Read reply) = true
is_read (served.Worked answer) = false

-- what was read is the reply of a reading
abbrev pub IsAnswered : Served → Type 0
IsAnswered (served.Read reply) = IsAnswer reply
IsAnswered (served.Worked answer) = Unit {0}

-- A space that was only looked at, on the way to this one, had kept its pages.
abbrev pub KeepsLooked : {S : Type 0} → (Wanted → Slots → S → Type 0) → (ℕ → S → S → Type 0) → S → S → Type 0
KeepsLooked {S} Has Leads x z = (y : S) → Leads 0 x y → LeadsOn Leads y z → (want : Wanted) (s : Slots) → Has want s x → Has want s y

-- The pages keep what they kept, and what is open are relations of theirs still.
abbrev pub KeepsOpened : {S : Type 0} → (Wanted → Slots → S → Type 0) → Meanings → ℕ → S → S → EngineWork → EngineWork → Type 0
KeepsOpened Has m root x y v w = (want : Wanted) (s : Slots) (kept : List Kept)
    → IsKeeping Has m root want s kept x v.opened.items → IsKeeping Has m root want s kept y w.opened.items

-- A command that no test refuses reads its reply, and the work stands as it was; or its work gives the answer.
abbrev pub IsServed : {S : Type 0} → (Going → S → Type 0) → Meanings → State → Command → Going → Served → S → Type 0
IsServed IsSo m s c g (served.Read reply) new =
    (refused (extensions_of m) s c ≡ None) × (read (extensions_of m) (view s) c ≡ Some reply) × IsSo g new
IsServed IsSo m s c g (served.Worked answer) new =
    (refused (extensions_of m) s c ≡ None) × (read (extensions_of m) (view s) c ≡ None) × Makes IsSo m c g (answer_of answer) new

-- A command is refused: by a test; or by its work; or the space has refused a look at its pages, to which no room is wanting. A test and a look stop it
-- where it began.
pub data IsUnserved {S : Type 0} (Stopped : Refusal → Trail → S → Type 0) (m : Meanings) (s : State) (c : Command) (g : Going) (r : Refusal)
    (new : S) : Type 0 where
  Tested : refused (extensions_of m) s c ≡ Some r → Stopped r g.trail new → IsUnserved Stopped m s c g r new
  Worked : refused (extensions_of m) s c ≡ None → read (extensions_of m) (view s) c ≡ None → IsRefusedIn Stopped m c g r new
      → IsUnserved Stopped m s c g r new
  Looked : is_free r ≡ true → is_room r ≡ false → Stopped r g.trail new → IsUnserved Stopped m s c g r new

-- work in the transaction has come so far, and has paid for its changes
abbrev pub HasPaid : Meanings → Place → Wanted → ℕ → EngineWork → Going → Parts → Type 0
HasPaid m place want tx w g p = IsAt m place want tx g p w × IsPaidAt g p

-- of a command over a space of pages, and of one over a store
abbrev pub IsUnservedIn : {S : Type 0} → (Wanted → Slots → S → Type 0) → (ℕ → S → Type 0) → (ℕ → S → S → Type 0) → (SpaceFault → S → S → Type 0) → (S → ℕ)
    → Meanings → State → Command → Going → Refusal → S → Type 0
IsUnservedIn Has Spent Leads Fails table m s c g r new = IsUnserved (IsStoppedIn Has Spent Leads Fails table m) m s c g r new

abbrev pub IsUnservedOn : {D : Type 0} → (D → ℕ) → Meanings → State → Command → Going → Refusal → Mounted D → Type 0
IsUnservedOn faults m s c g r new = IsUnserved (IsStoppedOn faults m) m s c g r new
