-- What a step leaves of the databases of a state, where the work of its command keeps what holds.
use Rattle.std.proofs.Common.{◌≡◌, ℕ, Bool, true, false, List, [], ◌∷◌, ◌++◌, map, Option, Some, None, refl, sym, ap, subst, ◌∙◌}
use Rattle.std.specs.Prelude.{All}
use Rattle.std.specs.List.{last_or}
use Rattle.std.proofs.lemmas.List.Elements.{All-nil, All-cons, All-head, All-tail, All-append}
use Rattle.sb_rule.specs.declared.action.Action.{Action}
use Rattle.sb_relation.specs.Db.{Name, Key, Db}
use Rattle.sb_fold.specs.Extensions.{Extensions}
use Rattle.sb_fold.specs.Finish.{drain_next, drain, first_failing, unless_failing, finish}
use Rattle.sb_fold.specs.Fold.{first_change}
use Rattle.sb_fold.specs.Outcome.{Going, Outcome, Gives, Stopped, NoStep, Work, continue}
use Rattle.sb_plain.specs.State.{Codes, Transaction, State, db_or_empty, view, going_of, with_spent, with_commit, kept}
use Rattle.sb_plain.specs.Step as step
use Rattle.sb_lawful.specs.Laws.{open_ones, databases, Leaves}

abbrev of_parts : Codes → Codes → List Db → Option Transaction → Bool → State
of_parts live spare commits transaction down = record { live = live; spare = spare; commits = commits; transaction = transaction; down = down }

abbrev pub state_of : step.Turn → State
state_of turn = turn.state

-- ---- lists
last_push : (o : Option Db) (dbs : List Db) (db : Db) → last_or o (dbs ++ db ∷ []) ≡ Some db
last_push o [] db = refl
last_push o (x ∷ dbs) db = last_push (Some x) dbs db

-- ---- what a state sees
pub going_view : (s : State) (picks : List Key) → (going_of s picks).db ≡ view s
going_view s picks = by s.live s.spare s.commits s.transaction s.down
  where
    by : (live spare : Codes) (commits : List Db) (transaction : Option Transaction) (down : Bool) → (going_of (of_parts live spare commits transaction down) picks).db ≡ view (of_parts live spare commits transaction down)
    by live spare commits None down = refl
    by live spare commits (Some t) down = refl

pub view_up : (s : State) → view (step.if_up s) ≡ view s
view_up s = by s.live s.spare s.commits s.transaction s.down
  where
    by : (live spare : Codes) (commits : List Db) (transaction : Option Transaction) (down : Bool) → view (step.if_up (of_parts live spare commits transaction down)) ≡ view (of_parts live spare commits transaction down)
    by live spare commits transaction true = refl
    by live spare commits None false = refl
    by live spare commits (Some t) false = refl

module _ (P : Db → Type 0) where
  all_left : (xs ys : List Db) → All P (xs ++ ys) → All P xs
  all_left [] ys all = All-nil P
  all_left (x ∷ xs) ys all = All-cons P x xs (All-head P x (xs ++ ys) all) (all_left xs ys (All-tail P x (xs ++ ys) all))

  all_right : (xs ys : List Db) → All P (xs ++ ys) → All P ys
  all_right [] ys all = all
  all_right (x ∷ xs) ys all = all_right xs ys (All-tail P x (xs ++ ys) all)

  of_last : (before : Option Db) (dbs : List Db) → P (db_or_empty before) → All P dbs → P (db_or_empty (last_or before dbs))
  of_last before [] first all = first
  of_last before (db ∷ dbs) first all = of_last (Some db) dbs (All-head P db dbs all) (All-tail P db dbs all)

  -- ---- steps that leave the databases
  pub leaves_itself : (s : State) → Leaves P s s
  leaves_itself s = record { now = λ p. p; all = λ all. all }

  pub leaves_then : (s t u : State) → Leaves P s t → Leaves P t u → Leaves P s u
  leaves_then s t u first second = record { now = λ p. second.now (first.now p); all = λ all. second.all (first.all all) }

  spent_leaves : (n : ℕ) (s : State) → Leaves P s (with_spent n s)
  spent_leaves n s = by s.live s.spare s.commits s.transaction s.down
    where
      by : (live spare : Codes) (commits : List Db) (transaction : Option Transaction) (down : Bool) → Leaves P (of_parts live spare commits transaction down) (with_spent n (of_parts live spare commits transaction down))
      by live spare commits None down = record { now = λ p. p; all = λ all. all }
      by live spare commits (Some t) down = record { now = λ p. p; all = λ all. all }

  pub up_leaves : (s : State) → Leaves P s (step.if_up s)
  up_leaves s = by s.live s.spare s.commits s.transaction s.down
    where
      by : (live spare : Codes) (commits : List Db) (transaction : Option Transaction) (down : Bool) → Leaves P (of_parts live spare commits transaction down) (step.if_up (of_parts live spare commits transaction down))
      by live spare commits transaction true = record { now = λ p. p; all = λ all. all }
      by live spare commits None false = record { now = λ p. p; all = λ all. all }
      by live spare commits (Some t) false = record { now = λ p. p; all = λ all. all }

  -- ---- a database more; the empty one, which a state without commits sees, has what all have
  module _ (empty : P []) where
    pub of_view : (s : State) → All P (databases s) → P (view s)
    of_view s all = by s.live s.spare s.commits s.transaction s.down all
      where
        by : (live spare : Codes) (commits : List Db) (transaction : Option Transaction) (down : Bool) → All P (commits ++ open_ones transaction) → P (view (of_parts live spare commits transaction down))
        by live spare commits None down every = of_last None commits empty (all_left commits [] every)
        by live spare commits (Some t) down every = All-head P t.db (map (λ p. p.db) t.points) (all_right commits (t.db ∷ map (λ p. p.db) t.points) every)

    commit_leaves : (s : State) (db : Db) → (P (view s) → P db) → Leaves P s (with_commit s db)
    commit_leaves s db keeps = record {
      now = λ p. subst P (sym (ap db_or_empty (last_push None s.commits db))) (keeps p);
      all = λ all.
          All-append P (s.commits ++ db ∷ []) []
          (All-append P s.commits (db ∷ []) (all_left s.commits (open_ones s.transaction) all) (All-cons P db [] (keeps (of_view s all)) (All-nil P))) (All-nil P);
    }

    kept_leaves : (s : State) (t : Transaction) (g : Going) → s.transaction ≡ Some t → (P (view s) → P g.db) → Leaves P s (kept s t.points g)
    kept_leaves s t g e keeps = record {
      now = keeps;
      all = λ all.
          let rest : All P (t.db ∷ map (λ p. p.db) t.points) = subst (λ (o : Option Transaction). All P (open_ones o)) e (all_right s.commits (open_ones s.transaction) all) in
          All-append P s.commits (g.db ∷ map (λ p. p.db) t.points) (all_left s.commits (open_ones s.transaction) all)
          (All-cons P g.db (map (λ p. p.db) t.points) (keeps (of_view s all)) (All-tail P t.db (map (λ p. p.db) t.points) rest));
    }

    -- ---- work that keeps what holds, and puts nothing off
    abbrev pub Keeps : State → Going → Outcome step.Answer → Type 0
    Keeps s start (Gives answer g) = (g.queue.actions ≡ start.queue.actions) × (P (view s) → P g.db)
    Keeps s start (Stopped r trail) = Unit {0}
    Keeps s start (NoStep trail) = Unit {0}

    of_failing : (s : State) (answer : step.Answer) (g : Going) (failing : Option (Name × Name)) → (P (view s) → P g.db)
        → Leaves P s (state_of (step.turn_of (step.commit_of s) s (continue (λ _. step.freeing answer) (unless_failing failing g))))
    of_failing s answer g None keeps = commit_leaves s g.db keeps
    of_failing s answer g (Some (relation, name)) keeps = spent_leaves g.trail.spent s

    of_actions : (ext : Extensions) (s : State) (answer : step.Answer) (g : Going) (actions : List Action) (rest : Work (Unit {0})) → actions ≡ [] → (P (view s) → P g.db)
        → Leaves P s (state_of (step.turn_of (step.commit_of s) s
        (continue (λ _. step.freeing answer) (continue (λ _. (λ x. unless_failing (first_failing ext x.db x.db) x)) (drain_next (first_change ext) rest actions g)))))
    of_actions ext s answer g [] rest e keeps = of_failing s answer g (first_failing ext g.db g.db) keeps
    of_actions ext s answer g (a ∷ actions) rest e keeps = absurd (cc)

    of_finish : (ext : Extensions) (s : State) (answer : step.Answer) (g : Going) → g.queue.actions ≡ [] → (P (view s) → P g.db)
        → Leaves P s (state_of (step.turn_of (step.commit_of s) s (continue (λ _. step.freeing answer) (finish ext g))))
    of_finish ext s answer g e keeps = of_actions ext s answer g g.queue.actions (drain ext 999) e keeps

    of_commit : (ext : Extensions) (s : State) (start : Going) (o : Outcome step.Answer) → start.queue.actions ≡ [] → Keeps s start o
        → Leaves P s (state_of (step.turn_of (step.commit_of s) s (continue (λ answer. (λ g. continue (λ _. step.freeing answer) (finish ext g))) o)))
    of_commit ext s start (Gives answer g) e keeps = of_finish ext s answer g (keeps.0 ∙ e) keeps.1
    of_commit ext s start (Stopped r trail) e keeps = spent_leaves trail.spent s
    of_commit ext s start (NoStep trail) e keeps = leaves_itself s

    of_open : (s : State) (t : Transaction) (start : Going) (o : Outcome step.Answer) → s.transaction ≡ Some t → Keeps s start o → Leaves P s (state_of (step.turn_of (kept s t.points) s o))
    of_open s t start (Gives answer g) e keeps = kept_leaves s t g e keeps.1
    of_open s t start (Stopped r trail) e keeps = spent_leaves trail.spent s
    of_open s t start (NoStep trail) e keeps = leaves_itself s

    in_changing : (ext : Extensions) (s : State) (picks : List Key) (work : Work step.Answer) (transaction : Option Transaction) → s.transaction ≡ transaction → Keeps s (going_of s picks) (work (going_of s picks))
        → Leaves P s (state_of (elim transaction [
          | None ↦ step.turn_of (step.commit_of s) s (step.finished ext work (going_of s picks))
          | Some t ↦ step.turn_of (kept s t.points) s (work (going_of s picks))
        ]))
    in_changing ext s picks work None e keeps =
        of_commit ext s (going_of s picks) (work (going_of s picks)) (ap (λ (t : Option Transaction). (going_of (record s { transaction = t }) picks).queue.actions) e) keeps
    in_changing ext s picks work (Some t) e keeps = of_open s t (going_of s picks) (work (going_of s picks)) e keeps

    pub changing_leaves : (ext : Extensions) (s : State) (picks : List Key) (work : Work step.Answer) → Keeps s (going_of s picks) (work (going_of s picks)) → Leaves P s (step.changing ext s picks work).state
    changing_leaves ext s picks work keeps = in_changing ext s picks work s.transaction refl keeps
