-- What a command answers, and what it makes of a state.
use Rattle.std.specs.Prelude.{◌≡◌, ℕ, Bool, true, false, List, [], ◌∷◌, ◌++◌, drop, Option, Some, None}
use Rattle.sb_relation.specs.Db.{Name, Key, Db, relation_at}
use Rattle.sb_relation.specs.Keys.{Keying, Picked, Coded, Counted, keying_of}
use Rattle.sb_fold.specs.declared.refusal.Refusal.{Refusal}
use Rattle.sb_fold.specs.Building.{create, build, detach, drop_relation}
use Rattle.sb_fold.specs.Extensions.{Extensions}
use Rattle.sb_fold.specs.Finish.{finish, freed}
use Rattle.sb_fold.specs.Fold.{act, first_change}
use Rattle.sb_fold.specs.Outcome.{Reached, Going, Outcome, Gives, Stopped, NoStep, Work, made, ◌>>=◌}
use Rattle.sb_fold.specs.Wishes.{Put, Remove, Replace}
use Rattle.sb_plain.specs.declared.command.Command.{Command}
use Rattle.sb_plain.specs.declared.command.Command.TheVariants as command
use Rattle.sb_plain.specs.declared.reply.Reply.{Reply}
use Rattle.sb_plain.specs.declared.reply.Reply.TheVariants as reply
use Rattle.sb_plain.specs.Reading.{read}
use Rattle.sb_plain.specs.Refusing.{refused}
use Rattle.sb_plain.specs.State.{Point, Transaction, State, committed, view, is_point, points_of, points_to, no_queue, none_gone, with_code, without_code, going_of, with_transaction, kept, ended, with_commit, with_spent, paid, spent_in}

-- ---- what a changing command does
-- what it answers, but for the picks: nothing more, the record key of its row (which may be the first pick), or how many rows it changed
pub data Answer : Type 0 where
  Plain : Answer
  Keyed : Key → Answer
  PickedKey : Key → Answer
  Counts : ℕ → Answer

-- a key that was picked for the command's own row isn't said again
abbrev pub answered : Answer → List Key → Reply
answered Plain picks = reply.Done None picks
answered (Keyed key) picks = reply.Done (Some key) picks
answered (PickedKey key) picks = reply.Done (Some key) (drop 1 picks)
answered (Counts n) picks = reply.Count n picks

abbrev pub keyed_by : Keying → Key → Answer
keyed_by Picked key = PickedKey key
keyed_by Coded key = Keyed key
keyed_by Counted key = Keyed key

abbrev pub row_answer : Db → Name → Option Key → Answer
row_answer db name None = Plain
row_answer db name (Some key) = elim (relation_at db name) [ None ↦ Plain | Some r ↦ keyed_by (keying_of r.method) key ]

abbrev pub plainly : {A : Type 0} → Work A → Work Answer
plainly work = work >>= λ _. made Plain

abbrev pub with_key : Name → Work (Option Key) → Work Answer
with_key name work = work >>= λ key. λ going. made (row_answer going.db name key) going

-- the work of a command; one that changes nothing has none
abbrev pub work_of : Extensions → Command → Option (Work Answer)
work_of ext (command.Create relation method schema key) = Some (plainly (create ext relation method schema key))
work_of ext (command.Drop relation) = Some (plainly (drop_relation ext relation))
work_of ext (command.Attach relation name rule) = Some (plainly (build ext relation name rule))
work_of ext (command.Detach relation name) = Some (plainly (detach ext relation name))
work_of ext (command.Insert relation values) = Some (with_key relation (first_change ext relation (Put values)))
work_of ext (command.Delete relation at) = Some (plainly (first_change ext relation (Remove at)))
work_of ext (command.Update relation at values) = Some (with_key relation (first_change ext relation (Replace at values)))
work_of ext (command.Act action) = Some (act (first_change ext) action >>= λ n. made (Counts n))
work_of ext _ = None

-- ---- turns
-- a reply, or none where these picks give no step; the state after it; the points that the work reached; and what was spent
pub record Turn : Type 0 where
  pub reply : Option Reply
  pub state : State
  pub points : List Reached
  pub spent : ℕ

-- all picks are to be used
abbrev pub if_used : List Key → Reply → Option Reply
if_used [] reply = Some reply
if_used (pick ∷ picks) reply = None

-- Where a command goes through, each of its picks is used; where it is refused, they may be any. After a refusal the state is the given one, but for
-- what was spent.
abbrev pub turn_of : (Going → State) → State → Outcome Answer → Turn
turn_of leave otherwise (Gives answer going) =
    record { reply = if_used going.picks (answered answer going.used); state = leave going; points = going.trail.points; spent = going.trail.spent }
turn_of leave otherwise (Stopped r trail) = record { reply = Some (reply.Refused r); state = with_spent trail.spent otherwise; points = trail.points; spent = trail.spent }
turn_of leave otherwise (NoStep trail) = record { reply = None; state = otherwise; points = trail.points; spent = trail.spent }

-- a refusal, whatever the picks
abbrev pub refusing : State → Refusal → Turn
refusing s r = record { reply = Some (reply.Refused r); state = s; points = []; spent = spent_in s }

-- a reply that wants no picks
abbrev pub reply_without : List Key → Reply → Option Reply
reply_without picks (reply.Refused r) = Some (reply.Refused r)
reply_without picks reply = if_used picks reply

abbrev pub answering : State → List Key → Reply → Turn
answering s picks reply = record { reply = reply_without picks reply; state = s; points = []; spent = spent_in s }

-- ---- commands that change databases
-- what is answered once the pages of what went are given back
abbrev pub freeing : Answer → Work Answer
freeing answer going = Gives answer (freed going)

-- work and what waits, before a commit
abbrev pub finished : Extensions → Work Answer → Work Answer
finished ext work = work >>= λ answer. finish ext >>= λ _. freeing answer

abbrev pub commit_of : State → Going → State
commit_of s going = with_commit s going.db

-- inside a transaction the work is kept there; outside a command begins, works and commits in one
abbrev pub changing : Extensions → State → List Key → Work Answer → Turn
changing ext s picks work = elim s.transaction [
  | None ↦ turn_of (commit_of s) s (finished ext work (going_of s picks))
  | Some t ↦ turn_of (kept s t.points) s (work (going_of s picks))
]

-- a commit that is refused ends the transaction
abbrev pub committing : Extensions → State → List Key → Turn
committing ext s picks = turn_of (commit_of s) (ended s) (finished ext (made Plain) (going_of s picks))

-- ---- commands that change what a transaction or the kernel is
abbrev pub first_spent : State → Transaction
first_spent s = record { db = committed s; queue = no_queue; points = []; gone = none_gone; spent = 0 }

abbrev pub begin : State → State
begin s = with_transaction s (Some (first_spent s))

abbrev pub in_transaction : (Transaction → Transaction) → State → State
in_transaction f s = elim s.transaction [ None ↦ s | Some t ↦ with_transaction s (Some (f t)) ]

abbrev pub with_savepoint : Name → Transaction → Transaction
with_savepoint name t = record t { points = t.points ++ record { name = name; db = t.db; queue = t.queue; gone = t.gone } ∷ [] }

-- the point's database, queue and gone are back; later points go and this one stays
abbrev pub back_to : Name → List Point → Transaction → Transaction
back_to name [] t = t
back_to name (p ∷ points) t =
    elim (is_point name p) [
      | true ↦ record t { db = p.db; queue = p.queue; gone = p.gone; points = points_to name t.points }
      | false ↦ back_to name points t
    ]

abbrev pub register : Bool → ℕ → State → State
register method code s = record s { live = with_code method code s.live; spare = without_code method code s.spare }

abbrev pub retire : Bool → ℕ → State → State
retire method code s = record s { live = without_code method code s.live; spare = with_code method code s.spare }

abbrev pub managed : Command → State → State
managed command.Begin s = begin s
managed command.Abort s = ended s
managed (command.Savepoint name) s = in_transaction (with_savepoint name) s
managed (command.Rollback name) s = in_transaction (back_to name (points_of s)) s
managed (command.Register method code) s = register method code s
managed (command.Retire method code) s = retire method code s
managed c s = s

-- ---- one step
abbrev pub ok : Reply
ok = reply.Done None []

-- a command that only reads answers what it reads; others change a state
abbrev pub managing : State → Command → List Key → Option Reply → Turn
managing s c picks (Some reply) = answering s picks reply
managing s c picks None = answering (managed c s) picks ok

abbrev pub carry_out : Extensions → State → Command → List Key → Option (Work Answer) → Turn
carry_out ext s command.Commit picks work = committing ext s picks
carry_out ext s c picks (Some work) = changing ext s picks work
carry_out ext s c picks None = managing s c picks (read ext (view s) c)

-- a kernel that is down does nothing; each other command costs 1
abbrev pub tested : Extensions → State → Command → List Key → Option Refusal → Turn
tested ext s c picks (Some r) = refusing s r
tested ext s c picks None = carry_out ext s c picks (work_of ext c)

abbrev pub if_up : State → State
if_up s = elim s.down [ true ↦ s | false ↦ paid s ]

abbrev pub step : Extensions → State → Command → List Key → Turn
step ext s c picks = tested ext (if_up s) c picks (refused ext s c)

-- with some picks the step gives this reply and this state
pub record Steps (ext : Extensions) (s : State) (c : Command) (reply : Reply) (t : State) : Type 0 where
  pub picks : List Key
  pub replies : (step ext s c picks).reply ≡ Some reply
  pub leads : (step ext s c picks).state ≡ t
