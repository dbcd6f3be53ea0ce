-- Laws of steps, by cases on the command.
use Rattle.std.proofs.Common.{◌≡◌, ℕ, ◌+◌, Bool, true, false, List, [], ◌∷◌, ◌++◌, ◌⊎◌, Option, Some, None, refl, ◌∙◌, subst, inl, inr}
use Rattle.sb_relation.specs.Db.{Key, Db}
use Rattle.sb_fold.specs.declared.refusal.Refusal.{Refusal}
use Rattle.sb_fold.specs.Extensions.{Extensions}
use Rattle.sb_fold.specs.Outcome.{Going, Outcome, Gives, Stopped, NoStep, Work, made}
use Rattle.sb_plain.specs.declared.command.Command.{Command}
use Rattle.sb_plain.specs.declared.command.Command.TheVariants as command
use Rattle.sb_plain.specs.declared.reply.Reply.{Reply}
use Rattle.sb_plain.specs.declared.reply.Reply.TheVariants as reply
use Rattle.sb_plain.specs.Laws.{IsLeft, RefusedLeaves, AddsOne, OneCommitAtMost}
use Rattle.sb_plain.specs.Refusing.{refused}
use Rattle.sb_plain.specs.State.{Codes, Transaction, State, points_of, with_spent, ended, kept, going_of}
use Rattle.sb_plain.specs.Step as step

-- ---- what is spent, by cases on the transaction and on whether the kernel is down
abbrev state_of : Codes → Codes → List Db → Option Transaction → Bool → State
state_of live spare commits transaction down = record { live = live; spare = spare; commits = commits; transaction = transaction; down = down }

itself : (live spare : Codes) (commits : List Db) (transaction : Option Transaction) (down : Bool) → IsLeft (state_of live spare commits transaction down) (state_of live spare commits transaction down)
itself live spare commits None down = record { spent = 0; is = refl }
itself live spare commits (Some t) down = record { spent = t.spent; is = refl }

left_itself : (s : State) → IsLeft s s
left_itself s = itself s.live s.spare s.commits s.transaction s.down

spent_over : (n : ℕ) (live spare : Codes) (commits : List Db) (transaction : Option Transaction) (down : Bool)
    → with_spent n (step.if_up (state_of live spare commits transaction down)) ≡ with_spent n (state_of live spare commits transaction down)
spent_over n live spare commits transaction true = refl
spent_over n live spare commits None false = refl
spent_over n live spare commits (Some t) false = refl

spent_up : (n : ℕ) (s : State) → with_spent n (step.if_up s) ≡ with_spent n s
spent_up n s = spent_over n s.live s.spare s.commits s.transaction s.down

left_up : (s t : State) → IsLeft (step.if_up s) t → IsLeft s t
left_up s t left = record { spent = left.spent; is = left.is ∙ spent_up left.spent s }

-- ---- replies that are no refusals
abbrev IsRefused : Option Reply → Refusal → Type 0
IsRefused answer r = answer ≡ Some (reply.Refused r)

never_answered : (picks used : List Key) (answer : step.Answer) (r : Refusal) → IsRefused (step.if_used picks (step.answered answer used)) r → ⊥
never_answered [] used step.Plain r e = cc
never_answered [] used (step.Keyed key) r e = cc
never_answered [] used (step.PickedKey key) r e = cc
never_answered [] used (step.Counts n) r e = cc
never_answered (pick ∷ picks) used answer r e = cc

never_ok : (picks : List Key) (r : Refusal) → IsRefused (step.reply_without picks step.ok) r → ⊥
never_ok [] r e = cc
never_ok (pick ∷ picks) r e = cc

-- ---- work that is refused leaves the state
pub left_by : (leave : Going → State) (s : State) (o : Outcome step.Answer) (r : Refusal) → IsRefused (step.turn_of leave s o).reply r → IsLeft s (step.turn_of leave s o).state
left_by leave s (Gives answer going) r e = absurd (never_answered going.picks going.used answer r e)
left_by leave s (Stopped q trail) r e = record { spent = trail.spent; is = refl }
left_by leave s (NoStep trail) r e = absurd (cc)

abbrev turn_reply : step.Turn → Option Reply
turn_reply turn = turn.reply

abbrev turn_state : step.Turn → State
turn_state turn = turn.state

abbrev commits_in : State → List Db
commits_in s = s.commits

left_changing : (ext : Extensions) (s : State) (picks : List Key) (work : Work step.Answer) (r : Refusal) (transaction : Option Transaction)
    → IsRefused (turn_reply (elim transaction [
      | None ↦ step.turn_of (step.commit_of s) s (step.finished ext work (going_of s picks))
      | Some t ↦ step.turn_of (kept s t.points) s (work (going_of s picks))
    ])) r
    → IsLeft s (turn_state (elim transaction [
      | None ↦ step.turn_of (step.commit_of s) s (step.finished ext work (going_of s picks))
      | Some t ↦ step.turn_of (kept s t.points) s (work (going_of s picks))
    ]))
left_changing ext s picks work r None = left_by (step.commit_of s) s (step.finished ext work (going_of s picks)) r
left_changing ext s picks work r (Some t) = left_by (kept s t.points) s (work (going_of s picks)) r

abbrev work_in : Option (Work step.Answer) → Work step.Answer
work_in None = made step.Plain
work_in (Some work) = work

abbrev Leaves : State → Refusal → step.Turn → Type 0
Leaves s r turn = IsRefused turn.reply r → IsLeft s turn.state

left_command : (ext : Extensions) (s : State) (c : Command) (picks : List Key) (r : Refusal) → (c ≡ command.Commit → ⊥) → Leaves s r (step.carry_out ext s c picks (step.work_of ext c))
left_command ext s (command.Create relation method schema key) picks r other = left_changing ext s picks (work_in (step.work_of ext (command.Create relation method schema key))) r s.transaction
left_command ext s (command.Drop relation) picks r other = left_changing ext s picks (work_in (step.work_of ext (command.Drop relation))) r s.transaction
left_command ext s (command.Attach relation name rule) picks r other = left_changing ext s picks (work_in (step.work_of ext (command.Attach relation name rule))) r s.transaction
left_command ext s (command.Detach relation name) picks r other = left_changing ext s picks (work_in (step.work_of ext (command.Detach relation name))) r s.transaction
left_command ext s (command.Insert relation values) picks r other = left_changing ext s picks (work_in (step.work_of ext (command.Insert relation values))) r s.transaction
left_command ext s (command.Delete relation at) picks r other = left_changing ext s picks (work_in (step.work_of ext (command.Delete relation at))) r s.transaction
left_command ext s (command.Update relation at values) picks r other = left_changing ext s picks (work_in (step.work_of ext (command.Update relation at values))) r s.transaction
left_command ext s (command.Act act) picks r other = left_changing ext s picks (work_in (step.work_of ext (command.Act act))) r s.transaction
left_command ext s command.Commit picks r other = absurd (other refl)
left_command ext s command.Begin picks r other = λ e. absurd (never_ok picks r e)
left_command ext s command.Abort picks r other = λ e. absurd (never_ok picks r e)
left_command ext s (command.Savepoint name) picks r other = λ e. absurd (never_ok picks r e)
left_command ext s (command.Rollback name) picks r other = λ e. absurd (never_ok picks r e)
left_command ext s (command.Register method code) picks r other = λ e. absurd (never_ok picks r e)
left_command ext s (command.Retire method code) picks r other = λ e. absurd (never_ok picks r e)
left_command ext s command.Checkpoint picks r other = λ e. absurd (never_ok picks r e)
left_command ext s (command.Get relation at) picks r other = λ e. left_itself s
left_command ext s (command.Scan relation after limit) picks r other = λ e. left_itself s
left_command ext s (command.Lookup relation name values) picks r other = λ e. left_itself s
left_command ext s (command.Range relation name low high) picks r other = λ e. left_itself s
left_command ext s (command.Entries relation name) picks r other = λ e. left_itself s
left_command ext s (command.Show relation) picks r other = λ e. left_itself s
left_command ext s command.Tables picks r other = λ e. left_itself s

left_tested : (ext : Extensions) (s : State) (c : Command) (picks : List Key) (r : Refusal) (first : Option Refusal) → (c ≡ command.Commit → ⊥) → Leaves s r (step.tested ext s c picks first)
left_tested ext s c picks r None other = left_command ext s c picks r other
left_tested ext s c picks r (Some q) other = λ e. left_itself s

pub refused-leaves : RefusedLeaves
refused-leaves ext s c picks r other e = left_up s _ (left_tested ext (step.if_up s) c picks r (refused ext s c) other e)

-- ---- commits
same_in : (f : Transaction → Transaction) (s : State) (transaction : Option Transaction) → commits_in (elim transaction [ None ↦ s | Some t ↦ record s { transaction = Some (f t) } ]) ≡ s.commits
same_in f s None = refl
same_in f s (Some t) = refl

same_spent : (n : ℕ) (s : State) → (with_spent n s).commits ≡ s.commits
same_spent n s = same_in (λ t. record t { spent = n }) s s.transaction

same_down : (s : State) (transaction : Option Transaction) (down : Bool)
    → commits_in (elim down [ true ↦ s | false ↦ elim transaction [ None ↦ s | Some t ↦ with_spent (t.spent + 1) s ] ]) ≡ s.commits
same_down s transaction true = refl
same_down s None false = refl
same_down s (Some t) false = same_spent (t.spent + 1) s

same_up : (s : State) → (step.if_up s).commits ≡ s.commits
same_up s = same_down s s.transaction s.down

adds_by : (leave : Going → State) (otherwise s : State) (o : Outcome step.Answer) → ((going : Going) → AddsOne s (leave going)) → otherwise.commits ≡ s.commits → AddsOne s (step.turn_of leave otherwise o).state
adds_by leave otherwise s (Gives answer going) adds e = adds going
adds_by leave otherwise s (Stopped r trail) adds e = inl (same_spent trail.spent otherwise ∙ e)
adds_by leave otherwise s (NoStep trail) adds e = inl e

adds_changing : (ext : Extensions) (s : State) (picks : List Key) (work : Work step.Answer) (transaction : Option Transaction)
    → AddsOne s (turn_state (elim transaction [
      | None ↦ step.turn_of (step.commit_of s) s (step.finished ext work (going_of s picks))
      | Some t ↦ step.turn_of (kept s t.points) s (work (going_of s picks))
    ]))
adds_changing ext s picks work None = adds_by (step.commit_of s) s s (step.finished ext work (going_of s picks)) (λ going. inr (going.db, refl)) refl
adds_changing ext s picks work (Some t) = adds_by (kept s t.points) s s (work (going_of s picks)) (λ going. inl refl) refl

adds_command : (ext : Extensions) (s : State) (c : Command) (picks : List Key) → AddsOne s (step.carry_out ext s c picks (step.work_of ext c)).state
adds_command ext s (command.Create relation method schema key) picks = adds_changing ext s picks (work_in (step.work_of ext (command.Create relation method schema key))) s.transaction
adds_command ext s (command.Drop relation) picks = adds_changing ext s picks (work_in (step.work_of ext (command.Drop relation))) s.transaction
adds_command ext s (command.Attach relation name rule) picks = adds_changing ext s picks (work_in (step.work_of ext (command.Attach relation name rule))) s.transaction
adds_command ext s (command.Detach relation name) picks = adds_changing ext s picks (work_in (step.work_of ext (command.Detach relation name))) s.transaction
adds_command ext s (command.Insert relation values) picks = adds_changing ext s picks (work_in (step.work_of ext (command.Insert relation values))) s.transaction
adds_command ext s (command.Delete relation at) picks = adds_changing ext s picks (work_in (step.work_of ext (command.Delete relation at))) s.transaction
adds_command ext s (command.Update relation at values) picks = adds_changing ext s picks (work_in (step.work_of ext (command.Update relation at values))) s.transaction
adds_command ext s (command.Act act) picks = adds_changing ext s picks (work_in (step.work_of ext (command.Act act))) s.transaction
adds_command ext s command.Commit picks =
    adds_by (step.commit_of s) (ended s) s (step.finished ext (made step.Plain) (going_of s picks)) (λ going. inr (going.db, refl)) refl
adds_command ext s command.Begin picks = inl refl
adds_command ext s command.Abort picks = inl refl
adds_command ext s (command.Savepoint name) picks = inl (same_in (step.with_savepoint name) s s.transaction)
adds_command ext s (command.Rollback name) picks = inl (same_in (step.back_to name (points_of s)) s s.transaction)
adds_command ext s (command.Register method code) picks = inl refl
adds_command ext s (command.Retire method code) picks = inl refl
adds_command ext s command.Checkpoint picks = inl refl
adds_command ext s (command.Get relation at) picks = inl refl
adds_command ext s (command.Scan relation after limit) picks = inl refl
adds_command ext s (command.Lookup relation name values) picks = inl refl
adds_command ext s (command.Range relation name low high) picks = inl refl
adds_command ext s (command.Entries relation name) picks = inl refl
adds_command ext s (command.Show relation) picks = inl refl
adds_command ext s command.Tables picks = inl refl

adds_tested : (ext : Extensions) (s : State) (c : Command) (picks : List Key) (first : Option Refusal) → AddsOne s (step.tested ext s c picks first).state
adds_tested ext s c picks None = adds_command ext s c picks
adds_tested ext s c picks (Some r) = inl refl

pub one-commit : OneCommitAtMost
one-commit ext s c picks =
    subst (λ (commits : List Db). ((step.step ext s c picks).state.commits ≡ commits) ⊎ ((db : Db) × ((step.step ext s c picks).state.commits ≡ commits ++ db ∷ []))) (same_up s)
    (adds_tested ext (step.if_up s) c picks (refused ext s c))
