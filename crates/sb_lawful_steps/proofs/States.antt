-- Steps of all commands but those that build, where each change keeps what holds of every database of the state.
use Rattle.std.proofs.Common.{ℕ, ◌+◌, Bool, true, false, List, [], ◌∷◌, ◌++◌, map, Option, Some, None, sym, subst}
use Rattle.std.specs.Prelude.{All, cond}
use Rattle.std.specs.List.{last_or}
use Rattle.std.proofs.lemmas.List.Elements.{All-nil, All-cons, All-head, All-tail, All-append, All-map}
use Rattle.sb_rule.specs.declared.change.Change.{Change}
use Rattle.sb_relation.specs.Changes.{changed}
use Rattle.sb_relation.specs.Db.{Name, Key, Db}
use Rattle.sb_fold.specs.declared.refusal.Refusal.{Refusal}
use Rattle.sb_fold.specs.Extensions.{Extensions}
use Rattle.sb_fold.specs.Finish.{finish}
use Rattle.sb_fold.specs.Fold.{act, first_change}
use Rattle.sb_fold.specs.Outcome.{Going, Outcome, Gives, Stopped, NoStep, Work, made, ◌>>=◌}
use Rattle.sb_fold.specs.Wishes.{Wish, Put, Remove, Replace}
use Rattle.sb_plain.specs.declared.command.Command.{Command}
use Rattle.sb_plain.specs.declared.command.Command.TheVariants as command
use Rattle.sb_plain.specs.Refusing.{refused}
use Rattle.sb_plain.specs.State.{Point, Transaction, State, db_or_empty, committed, is_point, points_of, points_to, going_of, with_transaction, with_spent, kept, ended}
use Rattle.sb_plain.specs.Step as step
use Rattle.sb_lawful.specs.Laws.{open_ones, databases}
use Rattle.sb_lawful.proofs.Steps.{going_view}
use Rattle.sb_lawful_steps.proofs.Keeping.{Ends, Keeps, then_keeps, act_keeps, first_keeps, finish_keeps}

-- ---- what holds of every database of a state
-- of the database of a transaction, and of those of its savepoints
pub record EachPoint (P : Db → Type 0) (t : Transaction) : Type 0 where
  pub now : P t.db
  pub points : All (λ p. P p.db) t.points

abbrev pub EachOpen : (Db → Type 0) → Option Transaction → Type 0
EachOpen P None = Unit {0}
EachOpen P (Some t) = EachPoint P t

pub record Each (P : Db → Type 0) (s : State) : Type 0 where
  pub commits : All P s.commits
  pub open_one : EachOpen P s.transaction

-- a command that doesn't build
abbrev pub BuildsNothing : Command → Type 0
BuildsNothing (command.Create relation method schema key) = ⊥
BuildsNothing (command.Drop relation) = ⊥
BuildsNothing (command.Attach relation name rule) = ⊥
BuildsNothing (command.Detach relation name) = ⊥
BuildsNothing _ = Unit {0}

module _ (P : Db → Type 0) where
  -- ---- as a list
  all_left : (xs ys : List Db) → All P (xs ++ ys) → All P xs
  all_left [] ys all = All-nil P
  all_left (x ∷ xs) ys all = All-cons P x xs (All-head P x (xs ++ ys) all) (all_left xs ys (All-tail P x (xs ++ ys) all))

  all_right : (xs ys : List Db) → All P (xs ++ ys) → All P ys
  all_right [] ys all = all
  all_right (x ∷ xs) ys all = all_right xs ys (All-tail P x (xs ++ ys) all)

  all_points : (points : List Point) → All P (map (λ p. p.db) points) → All (λ p. P p.db) points
  all_points [] all = All-nil _
  all_points (p ∷ points) all = All-cons (λ (q : Point). P q.db) p points (All-head P p.db (map (λ q. q.db) points) all) (all_points points (All-tail P p.db (map (λ q. q.db) points) all))

  each_open : (transaction : Option Transaction) → All P (open_ones transaction) → EachOpen P transaction
  each_open None all = tt
  each_open (Some t) all = record { now = All-head P t.db (map (λ p. p.db) t.points) all; points = all_points t.points (All-tail P t.db (map (λ p. p.db) t.points) all) }

  open_each : (transaction : Option Transaction) → EachOpen P transaction → All P (open_ones transaction)
  open_each None each = All-nil P
  open_each (Some t) each = All-cons P t.db (map (λ p. p.db) t.points) each.now (All-map P (λ p. p.db) t.points each.points)

  pub to_each : (s : State) → All P (databases s) → Each P s
  to_each s all = record { commits = all_left s.commits (open_ones s.transaction) all; open_one = each_open s.transaction (all_right s.commits (open_ones s.transaction) all) }

  pub of_each : (s : State) → Each P s → All P (databases s)
  of_each s each = All-append P s.commits (open_ones s.transaction) each.commits (open_each s.transaction each.open_one)

  -- ---- states
  with_one : (s : State) (transaction : Option Transaction) → Each P s → EachOpen P transaction → Each P (with_transaction s transaction)
  with_one s transaction each open_one = record { commits = each.commits; open_one = open_one }

  in_changed : (f : Transaction → Transaction) (s : State) (transaction : Option Transaction) → ((t : Transaction) → EachPoint P t → EachPoint P (f t)) → Each P s → EachOpen P transaction
      → Each P (elim transaction [ None ↦ s | Some t ↦ with_transaction s (Some (f t)) ])
  in_changed f s None keeps each open_one = each
  in_changed f s (Some t) keeps each open_one = with_one s _ each (keeps t open_one)

  when_spent : (n : ℕ) (s : State) → Each P s → Each P (with_spent n s)
  when_spent n s each = in_changed (λ t. record t { spent = n }) s s.transaction (λ t points. record { now = points.now; points = points.points }) each each.open_one

  in_up : (s : State) (down : Bool) (transaction : Option Transaction) → Each P s → Each P (elim down [ true ↦ s | false ↦ elim transaction [ None ↦ s | Some t ↦ with_spent (t.spent + 1) s ] ])
  in_up s true transaction each = each
  in_up s false None each = each
  in_up s false (Some t) each = when_spent (t.spent + 1) s each

  when_up : (s : State) → Each P s → Each P (step.if_up s)
  when_up s each = in_up s s.down s.transaction each

  when_ended : (s : State) → Each P s → Each P (ended s)
  when_ended s each = with_one s None each tt

  when_committed : (s : State) (g : Going) → Each P s → P g.db → Each P (step.commit_of s g)
  when_committed s g each p = record { commits = All-append P s.commits (g.db ∷ []) each.commits (All-cons P g.db [] p (All-nil P)); open_one = tt }

  when_kept : (s : State) (points : List Point) (g : Going) → Each P s → All (λ p. P p.db) points → P g.db → Each P (kept s points g)
  when_kept s points g each all p = with_one s _ each (record { now = p; points = all })

  -- ---- savepoints
  with_point_more : (name : Name) (t : Transaction) → EachPoint P t → EachPoint P (step.with_savepoint name t)
  with_point_more name t each = record {
    now = each.now;
    points =
        All-append (λ (p : Point). P p.db) t.points _ each.points
        (All-cons (λ (p : Point). P p.db) (record { name = name; db = t.db; queue = t.queue; gone = t.gone }) [] each.now (All-nil (λ (p : Point). P p.db)));
  }

  -- the points up to a name are some of the points
  all_to : (name : Name) (points : List Point) → All (λ p. P p.db) points → All (λ p. P p.db) (points_to name points)
  all_to name [] all = All-nil _
  all_to name (p ∷ points) all =
      All-cons (λ (q : Point). P q.db) p _ (All-head (λ (q : Point). P q.db) p points all) (of_test (is_point name p) (all_to name points (All-tail (λ (q : Point). P q.db) p points all)))
    where
      of_test : (b : Bool) → All (λ q. P q.db) (points_to name points) → All (λ q. P q.db) (cond b [] (points_to name points))
      of_test true rest = All-nil _
      of_test false rest = rest

  when_back : (name : Name) (t : Transaction) (points : List Point) → EachPoint P t → All (λ p. P p.db) points → EachPoint P (step.back_to name points t)
  when_back name t [] each all = each
  when_back name t (p ∷ points) each all = of_test (is_point name p) (when_back name t points each (All-tail (λ (q : Point). P q.db) p points all))
    where
      of_test : (b : Bool) → EachPoint P (step.back_to name points t) → EachPoint P (elim b [
        | true ↦ record t { db = p.db; queue = p.queue; gone = p.gone; points = points_to name t.points }
        | false ↦ step.back_to name points t
      ])
      of_test true rest = record { now = All-head (λ (q : Point). P q.db) p points all; points = all_to name t.points each.points }
      of_test false rest = rest

  open_points : (transaction : Option Transaction) → EachOpen P transaction → All (λ p. P p.db) (elim transaction [ None ↦ [] | Some t ↦ t.points ])
  open_points None each = All-nil _
  open_points (Some t) each = each.points

  -- ---- what a state sees
  module _ (empty : P []) where
    of_last : (before : Option Db) (dbs : List Db) → P (db_or_empty before) → All P dbs → P (db_or_empty (last_or before dbs))
    of_last before [] first all = first
    of_last before (db ∷ dbs) first all = of_last (Some db) dbs (All-head P db dbs all) (All-tail P db dbs all)

    in_view : (s : State) (transaction : Option Transaction) → Each P s → EachOpen P transaction → P (elim transaction [ None ↦ committed s | Some t ↦ t.db ])
    in_view s None each open_one = of_last None s.commits empty each.commits
    in_view s (Some t) each open_one = open_one.now

    begins : (s : State) (picks : List Key) → Each P s → P (going_of s picks).db
    begins s picks each = subst P (sym (going_view s picks)) (in_view s s.transaction each each.open_one)

    when_begun : (s : State) → Each P s → Each P (step.begin s)
    when_begun s each = with_one s _ each (record { now = of_last None s.commits empty each.commits; points = All-nil _ })

    -- ---- turns
    abbrev state_of : step.Turn → State
    state_of turn = turn.state

    of_turn : (leave : Going → State) (otherwise : State) (o : Outcome step.Answer) → ((g : Going) → P g.db → Each P (leave g)) → Each P otherwise → Ends P o
        → Each P (state_of (step.turn_of leave otherwise o))
    of_turn leave otherwise (Gives answer g) leaves other ends = leaves g ends
    of_turn leave otherwise (Stopped r trail) leaves other ends = when_spent trail.spent otherwise other
    of_turn leave otherwise (NoStep trail) leaves other ends = other

    module _ (changes_keep : (db : Db) (name : Name) (c : Change) → P db → P (changed db name c)) (ext : Extensions) where
      finished_keeps : (work : Work step.Answer) → Keeps P work → Keeps P (step.finished ext work)
      finished_keeps work keeps =
          then_keeps P work (λ answer. (finish ext >>= λ _. step.freeing answer)) keeps (λ answer. then_keeps P (finish ext) (λ _. step.freeing answer) (finish_keeps P changes_keep ext) (λ _ g p. p))

      in_changing : (s : State) (picks : List Key) (work : Work step.Answer) (transaction : Option Transaction) → Each P s → EachOpen P transaction → Keeps P work
          → Each P (state_of (elim transaction [
            | None ↦ step.turn_of (step.commit_of s) s (step.finished ext work (going_of s picks))
            | Some t ↦ step.turn_of (kept s t.points) s (work (going_of s picks))
          ]))
      in_changing s picks work None each open_one keeps =
          of_turn (step.commit_of s) s (step.finished ext work (going_of s picks)) (λ g p. when_committed s g each p) each (finished_keeps work keeps (going_of s picks) (begins s picks each))
      in_changing s picks work (Some t) each open_one keeps =
          of_turn (kept s t.points) s (work (going_of s picks)) (λ g p. when_kept s t.points g each open_one.points p) each (keeps (going_of s picks) (begins s picks each))

      changing_keeps : (s : State) (picks : List Key) (work : Work step.Answer) → Each P s → Keeps P work → Each P (step.changing ext s picks work).state
      changing_keeps s picks work each keeps = in_changing s picks work s.transaction each each.open_one keeps

      keyed_keeps : (relation : Name) (wish : Wish) → Keeps P (step.with_key relation (first_change ext relation wish))
      keyed_keeps relation wish =
          then_keeps P (first_change ext relation wish) (λ key going. made (step.row_answer going.db relation key) going) (first_keeps P changes_keep ext relation wish) (λ key g p. p)

      -- ---- commands
      carried : (s : State) (c : Command) (picks : List Key) → BuildsNothing c → Each P s → Each P (step.carry_out ext s c picks (step.work_of ext c)).state
      carried s (command.Insert relation values) picks none each = changing_keeps s picks (step.with_key relation (first_change ext relation (Put values))) each (keyed_keeps relation (Put values))
      carried s (command.Delete relation at) picks none each =
          changing_keeps s picks (step.plainly (first_change ext relation (Remove at))) each
          (then_keeps P (first_change ext relation (Remove at)) (λ _. made step.Plain) (first_keeps P changes_keep ext relation (Remove at)) (λ _ g p. p))
      carried s (command.Update relation at values) picks none each =
          changing_keeps s picks (step.with_key relation (first_change ext relation (Replace at values))) each (keyed_keeps relation (Replace at values))
      carried s (command.Act a) picks none each =
          changing_keeps s picks (act (first_change ext) a >>= λ n. made (step.Counts n)) each
          (then_keeps P (act (first_change ext) a) (λ n. made (step.Counts n)) (act_keeps P (first_change ext) (first_keeps P changes_keep ext) a) (λ n g p. p))
      carried s command.Commit picks none each =
          of_turn (step.commit_of s) (ended s) (step.finished ext (made step.Plain) (going_of s picks)) (λ g p. when_committed s g each p) (when_ended s each)
          (finished_keeps (made step.Plain) (λ g p. p) (going_of s picks) (begins s picks each))
      carried s command.Begin picks none each = when_begun s each
      carried s command.Abort picks none each = when_ended s each
      carried s (command.Savepoint name) picks none each = in_changed (step.with_savepoint name) s s.transaction (with_point_more name) each each.open_one
      carried s (command.Rollback name) picks none each =
          in_changed (step.back_to name (points_of s)) s s.transaction (λ t point. when_back name t (points_of s) point (open_points s.transaction each.open_one)) each each.open_one
      carried s (command.Register method code) picks none each = record { commits = each.commits; open_one = each.open_one }
      carried s (command.Retire method code) picks none each = record { commits = each.commits; open_one = each.open_one }
      carried s command.Checkpoint picks none each = each
      carried s (command.Get relation at) picks none each = each
      carried s (command.Scan relation after limit) picks none each = each
      carried s (command.Lookup relation name values) picks none each = each
      carried s (command.Range relation name low high) picks none each = each
      carried s (command.Entries relation name) picks none each = each
      carried s (command.Show relation) picks none each = each
      carried s command.Tables picks none each = each
      carried s _ picks none each = absurd none

      tested : (s : State) (c : Command) (picks : List Key) (first : Option Refusal) → BuildsNothing c → Each P s → Each P (step.tested ext s c picks first).state
      tested s c picks None none each = carried s c picks none each
      tested s c picks (Some r) none each = each

      pub step_keeps : (s : State) (c : Command) (picks : List Key) → BuildsNothing c → Each P s → Each P (step.step ext s c picks).state
      step_keeps s c picks none each = tested (step.if_up s) c picks (refused ext s c) none (when_up s each)
