-- Steps that leave a lawful state, by cases on the command.
use Rattle.std.proofs.Common.{◌≡◌, ℕ, ◌+◌, Bool, true, false, not, ◌&&◌, List, [], ◌∷◌, ◌⊎◌, Option, Some, None, refl, sym, subst, inl, inr}
use Rattle.std.specs.Prelude.{All, cond}
use Rattle.std.specs.List.{last_or}
use Rattle.std.proofs.lemmas.Bool.{and_parts}
use Rattle.std.proofs.lemmas.List.Elements.{All-nil, All-cons, All-head, All-tail, All-append, All-weaker}
use Rattle.sb_rule.specs.declared.action.Action.{Action}
use Rattle.sb_relation.specs.Db.{Name, Key, Attached, Relation, Db}
use Rattle.sb_relation.specs.Rules.{holds}
use Rattle.sb_relation.specs.Laws.{is_foreign}
use Rattle.sb_fold.specs.declared.refusal.Refusal.{Refusal}
use Rattle.sb_fold.specs.Extensions.{Extensions, box_of}
use Rattle.sb_fold.specs.Finish.{drain_next, drain, first_failing, unless_failing, finish}
use Rattle.sb_fold.specs.Fold.{first_change}
use Rattle.sb_fold.specs.Outcome.{Going, Work, made, continue, begun}
use Rattle.sb_plain.specs.declared.command.Command.{Command}
use Rattle.sb_plain.specs.declared.command.Command.TheVariants as command
use Rattle.sb_plain.specs.declared.reply.Reply.TheVariants.{Refused}
use Rattle.sb_plain.specs.Laws.{IsLeft, OthersLeaveLawful, RefusedLeavesLawful, CommitLeavesLawful}
use Rattle.sb_plain.specs.Lawful.{IsLawful, IsSound, IsSoundNow, IsLawfulPoint, IsLawfulTransaction, MayBeOpen, IsLawfulState, is_deferred}
use Rattle.sb_plain.specs.Refusing.{refused}
use Rattle.sb_plain.specs.State.{Codes, Point, Transaction, State, db_or_empty, committed, is_point, points_of, points_to, no_queue, none_gone, has_waiting, going_of, with_transaction, with_spent, ended, with_commit}
use Rattle.sb_plain.specs.Step as step
use Rattle.sb_plain.proofs.SoundLemmas.{commit_sound}
use Rattle.sb_plain.proofs.StepLaws.{refused-leaves, left_by}

-- ---- databases
sound_now : (ext : Extensions) (db : Db) → IsSound ext db → IsSoundNow ext db
sound_now ext db =
    All-weaker (λ (e : Name × Relation). All (λ a. not (is_foreign a.rule) ≡ true → holds (box_of ext a.rule) db e.0 a.rule ≡ true) e.1.attachments)
    (λ (e : Name × Relation). All (λ a. (not (is_foreign a.rule) && not (is_deferred a.rule)) ≡ true → holds (box_of ext a.rule) db e.0 a.rule ≡ true) e.1.attachments)
    (λ e. All-weaker (λ (a : Attached). not (is_foreign a.rule) ≡ true → holds (box_of ext a.rule) db e.0 a.rule ≡ true)
    (λ (a : Attached). (not (is_foreign a.rule) && not (is_deferred a.rule)) ≡ true → holds (box_of ext a.rule) db e.0 a.rule ≡ true)
    (λ a held both. held (and_parts _ _ both).0) e.1.attachments) db

lawful_empty : (ext : Extensions) → IsLawful ext []
lawful_empty ext = record { rising = tt; relations = All-nil _ }

-- what holds of every database of a list, and of the one before them, holds of the last
of_last : (P : Db → Type 0) (before : Option Db) (dbs : List Db) → P (db_or_empty before) → All P dbs → P (db_or_empty (last_or before dbs))
of_last P before [] first all = first
of_last P before (db ∷ dbs) first all = of_last P (Some db) dbs (All-head P db dbs all) (All-tail P db dbs all)

-- ---- states
pub lawful_with : (ext : Extensions) (s : State) (transaction : Option Transaction) → IsLawfulState ext s → MayBeOpen ext transaction → IsLawfulState ext (with_transaction s transaction)
lawful_with ext s transaction lawful open_one = record { commits = lawful.commits; sound = lawful.sound; open_one = open_one }

in_spent : (ext : Extensions) (n : ℕ) (s : State) (transaction : Option Transaction) → IsLawfulState ext s → MayBeOpen ext transaction
    → IsLawfulState ext (elim transaction [ None ↦ s | Some t ↦ with_transaction s (Some (record t { spent = n })) ])
in_spent ext n s None lawful open_one = lawful
in_spent ext n s (Some t) lawful open_one = lawful_with ext s _ lawful (record { lawful = open_one.lawful; sound = open_one.sound; points = open_one.points })

pub lawful_spent : (ext : Extensions) (n : ℕ) (s : State) → IsLawfulState ext s → IsLawfulState ext (with_spent n s)
lawful_spent ext n s lawful = in_spent ext n s s.transaction lawful lawful.open_one

in_up : (ext : Extensions) (s : State) (down : Bool) (transaction : Option Transaction) → IsLawfulState ext s
    → IsLawfulState ext (elim down [ true ↦ s | false ↦ elim transaction [ None ↦ s | Some t ↦ with_spent (t.spent + 1) s ] ])
in_up ext s true transaction lawful = lawful
in_up ext s false None lawful = lawful
in_up ext s false (Some t) lawful = lawful_spent ext (t.spent + 1) s lawful

pub lawful_up : (ext : Extensions) (s : State) → IsLawfulState ext s → IsLawfulState ext (step.if_up s)
lawful_up ext s lawful = in_up ext s s.down s.transaction lawful

-- ---- transactions
in_changed : (ext : Extensions) (f : Transaction → Transaction) (s : State) (transaction : Option Transaction) → ((t : Transaction) → IsLawfulTransaction ext t → IsLawfulTransaction ext (f t))
    → IsLawfulState ext s → MayBeOpen ext transaction → IsLawfulState ext (elim transaction [ None ↦ s | Some t ↦ with_transaction s (Some (f t)) ])
in_changed ext f s None keeps lawful open_one = lawful
in_changed ext f s (Some t) keeps lawful open_one = lawful_with ext s _ lawful (keeps t open_one)

lawful_begin : (ext : Extensions) (s : State) → IsLawfulState ext s → IsLawfulState ext (step.begin s)
lawful_begin ext s lawful = lawful_with ext s _ lawful (record {
  lawful = of_last (IsLawful ext) None s.commits (lawful_empty ext) lawful.commits;
  sound = sound_now ext _ (of_last (IsSound ext) None s.commits (All-nil _) lawful.sound);
  points = All-nil _;
})

lawful_savepoint : (ext : Extensions) (name : Name) (t : Transaction) → IsLawfulTransaction ext t → IsLawfulTransaction ext (step.with_savepoint name t)
lawful_savepoint ext name t lawful = record {
  lawful = lawful.lawful;
  sound = lawful.sound;
  points = All-append (IsLawfulPoint ext) t.points _ lawful.points (All-cons (IsLawfulPoint ext) _ [] (record { lawful = lawful.lawful; sound = lawful.sound }) (All-nil _));
}

-- the points up to a name are some of the points
all_to : (P : Point → Type 0) (name : Name) (points : List Point) → All P points → All P (points_to name points)
all_to P name [] all = All-nil _
all_to P name (p ∷ points) all = All-cons P p _ (All-head P p points all) (of_test (is_point name p) (all_to P name points (All-tail P p points all)))
  where
    of_test : (b : Bool) → All P (points_to name points) → All P (cond b [] (points_to name points))
    of_test true rest = All-nil _
    of_test false rest = rest

lawful_back : (ext : Extensions) (name : Name) (t : Transaction) (points : List Point) → IsLawfulTransaction ext t → All (IsLawfulPoint ext) points → IsLawfulTransaction ext (step.back_to name points t)
lawful_back ext name t [] lawful all = lawful
lawful_back ext name t (p ∷ points) lawful all = of_test (is_point name p) (lawful_back ext name t points lawful (All-tail (IsLawfulPoint ext) p points all))
  where
    point : IsLawfulPoint ext p
    point = All-head (IsLawfulPoint ext) p points all

    of_test : (b : Bool) → IsLawfulTransaction ext (step.back_to name points t) → IsLawfulTransaction ext (elim b [
      | true ↦ record t { db = p.db; queue = p.queue; gone = p.gone; points = points_to name t.points }
      | false ↦ step.back_to name points t
    ])
    of_test true rest = record { lawful = point.lawful; sound = point.sound; points = all_to (IsLawfulPoint ext) name t.points lawful.points }
    of_test false rest = rest

open_points : (ext : Extensions) (transaction : Option Transaction) → MayBeOpen ext transaction → All (IsLawfulPoint ext) (elim transaction [ None ↦ [] | Some t ↦ t.points ])
open_points ext None open_one = All-nil _
open_points ext (Some t) open_one = open_one.points

lawful_rollback : (ext : Extensions) (name : Name) (s : State) → IsLawfulState ext s → IsLawfulState ext (step.in_transaction (step.back_to name (points_of s)) s)
lawful_rollback ext name s lawful =
    in_changed ext (step.back_to name (points_of s)) s s.transaction (λ t open_one. lawful_back ext name t (points_of s) open_one (open_points ext s.transaction lawful.open_one)) lawful lawful.open_one

-- ---- commands that change no database
lawful_command : (ext : Extensions) (s : State) (c : Command) (picks : List Key) → (c ≡ command.Commit → ⊥) → step.work_of ext c ≡ None → IsLawfulState ext s
    → IsLawfulState ext (step.carry_out ext s c picks (step.work_of ext c)).state
lawful_command ext s (command.Create relation method schema key) picks other none lawful = absurd (cc)
lawful_command ext s (command.Drop relation) picks other none lawful = absurd (cc)
lawful_command ext s (command.Attach relation name rule) picks other none lawful = absurd (cc)
lawful_command ext s (command.Detach relation name) picks other none lawful = absurd (cc)
lawful_command ext s (command.Insert relation values) picks other none lawful = absurd (cc)
lawful_command ext s (command.Delete relation at) picks other none lawful = absurd (cc)
lawful_command ext s (command.Update relation at values) picks other none lawful = absurd (cc)
lawful_command ext s (command.Act act) picks other none lawful = absurd (cc)
lawful_command ext s command.Commit picks other none lawful = absurd (other refl)
lawful_command ext s command.Begin picks other none lawful = lawful_begin ext s lawful
lawful_command ext s command.Abort picks other none lawful = lawful_with ext s None lawful tt
lawful_command ext s (command.Savepoint name) picks other none lawful = in_changed ext (step.with_savepoint name) s s.transaction (lawful_savepoint ext name) lawful lawful.open_one
lawful_command ext s (command.Rollback name) picks other none lawful = lawful_rollback ext name s lawful
lawful_command ext s (command.Register method code) picks other none lawful = record { commits = lawful.commits; sound = lawful.sound; open_one = lawful.open_one }
lawful_command ext s (command.Retire method code) picks other none lawful = record { commits = lawful.commits; sound = lawful.sound; open_one = lawful.open_one }
lawful_command ext s command.Checkpoint picks other none lawful = lawful
lawful_command ext s (command.Get relation at) picks other none lawful = lawful
lawful_command ext s (command.Scan relation after limit) picks other none lawful = lawful
lawful_command ext s (command.Lookup relation name values) picks other none lawful = lawful
lawful_command ext s (command.Range relation name low high) picks other none lawful = lawful
lawful_command ext s (command.Entries relation name) picks other none lawful = lawful
lawful_command ext s (command.Show relation) picks other none lawful = lawful
lawful_command ext s command.Tables picks other none lawful = lawful

lawful_tested : (ext : Extensions) (s : State) (c : Command) (picks : List Key) (first : Option Refusal) → (c ≡ command.Commit → ⊥) → step.work_of ext c ≡ None → IsLawfulState ext s
    → IsLawfulState ext (step.tested ext s c picks first).state
lawful_tested ext s c picks None other none lawful = lawful_command ext s c picks other none lawful
lawful_tested ext s c picks (Some r) other none lawful = lawful

pub others-lawful : OthersLeaveLawful
others-lawful ext s c picks other none lawful = lawful_tested ext (step.if_up s) c picks (refused ext s c) other none (lawful_up ext s lawful)

-- ---- refusals
commit_or_other : (c : Command) → (c ≡ command.Commit) ⊎ (c ≡ command.Commit → ⊥)
commit_or_other command.Commit = inl refl
commit_or_other _ = inr (λ e. absurd (cc))

lawful_left : (ext : Extensions) (s t : State) → IsLeft s t → IsLawfulState ext s → IsLawfulState ext t
lawful_left ext s t left lawful = subst (IsLawfulState ext) (sym left.is) (lawful_spent ext left.spent s lawful)

lawful_end : (ext : Extensions) (s : State) → IsLawfulState ext s → IsLawfulState ext (ended s)
lawful_end ext s lawful = lawful_with ext s None lawful tt

-- one that is refused ends its transaction, or is refused beforehand
refused_commit : (ext : Extensions) (s : State) (picks : List Key) (r : Refusal) (first : Option Refusal) → (step.tested ext s command.Commit picks first).reply ≡ Some (Refused r)
    → IsLawfulState ext s → IsLawfulState ext (step.tested ext s command.Commit picks first).state
refused_commit ext s picks r None e lawful = lawful_left ext (ended s) _ (left_by (step.commit_of s) (ended s) (step.finished ext (made step.Plain) (going_of s picks)) r e) (lawful_end ext s lawful)
refused_commit ext s picks r (Some q) e lawful = lawful

of_refused : (ext : Extensions) (s : State) (c : Command) (picks : List Key) (r : Refusal) → (c ≡ command.Commit) ⊎ (c ≡ command.Commit → ⊥)
    → (step.step ext s c picks).reply ≡ Some (Refused r) → IsLawfulState ext s → IsLawfulState ext (step.step ext s c picks).state
of_refused ext s c picks r (inl commit) e lawful =
    subst (λ (k : Command). (step.step ext s k picks).reply ≡ Some (Refused r) → IsLawfulState ext (step.step ext s k picks).state) (sym commit)
    (λ f. refused_commit ext (step.if_up s) picks r (refused ext s command.Commit) f (lawful_up ext s lawful)) e
of_refused ext s c picks r (inr other) e lawful = lawful_left ext s _ (refused-leaves ext s c picks r other e) lawful

pub refused-lawful : RefusedLeavesLawful
refused-lawful ext s c picks r = of_refused ext s c picks r (commit_or_other c)

-- ---- a commit for which no action waits
-- what it begins with
pub record Started (ext : Extensions) (going : Going) : Type 0 where
  pub empty : going.queue.actions ≡ []
  pub lawful : IsLawful ext going.db
  pub sound : IsSoundNow ext going.db

nothing_waits : (actions : List Action) → (elim actions [ [] ↦ false | a ∷ others ↦ true ]) ≡ false → actions ≡ []
nothing_waits [] e = refl
nothing_waits (a ∷ actions) e = absurd (cc)

abbrev going_in : State → Option Transaction → List Key → Going
going_in s transaction picks = elim transaction [ None ↦ begun (committed s) no_queue none_gone 1 picks | Some t ↦ begun t.db t.queue t.gone t.spent picks ]

pub in_lawful : (ext : Extensions) (s : State) (transaction : Option Transaction) (picks : List Key) → IsLawfulState ext s → MayBeOpen ext transaction → IsLawful ext (going_in s transaction picks).db
in_lawful ext s None picks lawful open_one = of_last (IsLawful ext) None s.commits (lawful_empty ext) lawful.commits
in_lawful ext s (Some t) picks lawful open_one = open_one.lawful

pub in_sound : (ext : Extensions) (s : State) (transaction : Option Transaction) (picks : List Key) → IsLawfulState ext s → MayBeOpen ext transaction → IsSoundNow ext (going_in s transaction picks).db
in_sound ext s None picks lawful open_one = sound_now ext _ (of_last (IsSound ext) None s.commits (All-nil _) lawful.sound)
in_sound ext s (Some t) picks lawful open_one = open_one.sound

in_empty : (s : State) (transaction : Option Transaction) (picks : List Key) → (elim transaction [ None ↦ false | Some t ↦ elim t.queue.actions [ [] ↦ false | a ∷ actions ↦ true ] ]) ≡ false
    → (going_in s transaction picks).queue.actions ≡ []
in_empty s None picks e = refl
in_empty s (Some t) picks e = nothing_waits t.queue.actions e

lawful_commit : (ext : Extensions) (s : State) (db : Db) → IsLawfulState ext s → IsLawful ext db → IsSound ext db → IsLawfulState ext (with_commit s db)
lawful_commit ext s db lawful one sound = record {
  commits = All-append (IsLawful ext) s.commits _ lawful.commits (All-cons (IsLawful ext) db [] one (All-nil _));
  sound = All-append (IsSound ext) s.commits _ lawful.sound (All-cons (IsSound ext) db [] sound (All-nil _));
  open_one = tt;
}

abbrev pub state_of : step.Turn → State
state_of turn = turn.state

of_failing : (ext : Extensions) (s otherwise : State) (answer : step.Answer) (going : Going) (failing : Option (Name × Name)) → first_failing ext going.db going.db ≡ failing
    → IsLawfulState ext s → IsLawfulState ext otherwise → Started ext going → IsLawfulState ext (state_of (step.turn_of (step.commit_of s) otherwise (continue (λ _. step.freeing answer) (unless_failing failing going))))
of_failing ext s otherwise answer going None none lawful other start = lawful_commit ext s going.db lawful start.lawful (commit_sound ext going.db start.lawful start.sound none)
of_failing ext s otherwise answer going (Some (relation, name)) fails lawful other start = lawful_spent ext going.trail.spent otherwise other

of_actions : (ext : Extensions) (s otherwise : State) (answer : step.Answer) (going : Going) (actions : List Action) (rest : Work (Unit {0})) → actions ≡ [] → IsLawfulState ext s → IsLawfulState ext otherwise
    → Started ext going → IsLawfulState ext (state_of (step.turn_of (step.commit_of s) otherwise
    (continue (λ _. step.freeing answer) (continue (λ _. (λ g. unless_failing (first_failing ext g.db g.db) g)) (drain_next (first_change ext) rest actions going)))))
of_actions ext s otherwise answer going [] rest e lawful other start = of_failing ext s otherwise answer going (first_failing ext going.db going.db) refl lawful other start
of_actions ext s otherwise answer going (a ∷ actions) rest e lawful other start = absurd (cc)

-- what was worked is finished, and committed
pub lawful_finish : (ext : Extensions) (s otherwise : State) (answer : step.Answer) (going : Going) → IsLawfulState ext s → IsLawfulState ext otherwise → Started ext going
    → IsLawfulState ext (state_of (step.turn_of (step.commit_of s) otherwise (continue (λ _. step.freeing answer) (finish ext going))))
lawful_finish ext s otherwise answer going lawful other start = of_actions ext s otherwise answer going going.queue.actions (drain ext 999) start.empty lawful other start

lawful_committing : (ext : Extensions) (s : State) (picks : List Key) → IsLawfulState ext s → has_waiting s ≡ false → IsLawfulState ext (step.committing ext s picks).state
lawful_committing ext s picks lawful e =
    lawful_finish ext s (ended s) step.Plain (going_of s picks) lawful (lawful_end ext s lawful) (record {
      empty = in_empty s s.transaction picks e;
      lawful = in_lawful ext s s.transaction picks lawful lawful.open_one;
      sound = in_sound ext s s.transaction picks lawful lawful.open_one;
    })

-- what the command itself costs leaves what waits
in_waiting : (live spare : Codes) (commits : List Db) (down : Bool) (transaction : Option Transaction)
    → has_waiting (record { live = live; spare = spare; commits = commits; transaction = transaction; down = down }) ≡ false
    → has_waiting (step.if_up (record { live = live; spare = spare; commits = commits; transaction = transaction; down = down })) ≡ false
in_waiting live spare commits true transaction e = e
in_waiting live spare commits false None e = e
in_waiting live spare commits false (Some t) e = e

commit_tested : (ext : Extensions) (s : State) (picks : List Key) (first : Option Refusal) → IsLawfulState ext s → has_waiting s ≡ false → IsLawfulState ext (step.tested ext s command.Commit picks first).state
commit_tested ext s picks None lawful e = lawful_committing ext s picks lawful e
commit_tested ext s picks (Some r) lawful e = lawful

pub commits-lawful : CommitLeavesLawful
commits-lawful ext s picks none lawful =
    commit_tested ext (step.if_up s) picks (refused ext s command.Commit) (lawful_up ext s lawful) (in_waiting s.live s.spare s.commits s.down s.transaction none)
