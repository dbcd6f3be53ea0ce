-- Steps of commands on rows, of commits and of commands that work on no database.
use Rattle.std.proofs.Common.{◌≡◌, ℕ, ◌+◌, Bool, true, false, not, List, [], ◌∷◌, ◌⊎◌, Option, Some, None, option_map, refl, sym, subst, inl, inr, arith}
use Rattle.std.specs.Prelude.{All, cond}
use Rattle.std.specs.List.{last_or}
use Rattle.std.proofs.lemmas.List.Elements.{All-nil, All-cons, All-head, All-tail, All-append}
use Rattle.sb_value.specs.Fits.{first_misfit}
use Rattle.sb_value.proofs.Truths.{is_none-none}
use Rattle.sb_rule.specs.declared.action.Action.{Action}
use Rattle.sb_relation.specs.Db.{Name, Key, Db, schema_at}
use Rattle.sb_relation.specs.Fits.{first_missing}
use Rattle.sb_fold.specs.declared.refusal.Refusal.{Refusal}
use Rattle.sb_fold.specs.declared.refusal.Refusal.TheVariants as refusal
use Rattle.sb_fold.specs.Extensions.{Extensions}
use Rattle.sb_fold.specs.Finish.{finish, freed}
use Rattle.sb_fold.specs.Fold.{act, first_change}
use Rattle.sb_fold.specs.Outcome.{Going, Outcome, Gives, Stopped, NoStep, Work, made, continue, begun}
use Rattle.sb_fold.specs.Wishes.{Wish, Put, Remove, Replace}
use Rattle.sb_cascade.proofs.FittingTerms.{fitting}
use Rattle.sb_plain.specs.declared.command.Command.{Command}
use Rattle.sb_plain.specs.declared.command.Command.TheVariants as command
use Rattle.sb_plain.specs.declared.reply.Reply.TheVariants.{Refused}
use Rattle.sb_plain.specs.Laws.{IsLeft}
use Rattle.sb_plain.specs.Refusing.{refused, tests, first_of, refuse_where, is_well_kinded, relations_of}
use Rattle.sb_plain.specs.State.{Codes, Point, Transaction, State, db_or_empty, committed, view, is_point, points_of, points_to, no_queue, none_gone, going_of, with_transaction, with_spent, kept, ended}
use Rattle.sb_plain.specs.Step as step
use Rattle.sb_plain.proofs.StepLaws.{refused-leaves}
use Rattle.sb_lawful_rows.specs.Laws.{RowsStepLawful, CommitsStepLawful, OthersStepLawful, RefusedLeaveLawful}
use Rattle.sb_lawful_rows.specs.States.{IsRowCommand, HasLawfulPoints, MayBeOpen, HasLawfulDatabases, IsLawfulTurn}
use Rattle.sb_lawful_rows.specs.Work.{IsWishOf, MayAct, IsLawfulWith, IsLawfulPoint, IsLawfulWork}
use Rattle.sb_lawful_rows.proofs.Changing.{change_goes, action_goes, finish_goes}
use Rattle.sb_lawful_rows.proofs.Wishing.{OfEnd, of_next}

-- ---- databases
lawful_empty : (ext : Extensions) → IsLawfulWith ext [] []
lawful_empty ext = record { lawful = record { rising = tt; relations = All-nil _ }; triggers = All-nil _; waiting = All-nil _ }

-- what holds of every database of a list, and of the one before them, holds of the last
of_last : (P : Db → Type 0) (before : Option Db) (dbs : List Db) → P (db_or_empty before) → All P dbs → P (db_or_empty (last_or before dbs))
of_last P before [] first all = first
of_last P before (db ∷ dbs) first all = of_last P (Some db) dbs (All-head P db dbs all) (All-tail P db dbs all)

alone : (ext : Extensions) (db : Db) (actions : List Action) → IsLawfulWith ext db actions → IsLawfulWith ext db []
alone ext db actions with_it = record { lawful = with_it.lawful; triggers = with_it.triggers; waiting = All-nil _ }

-- ---- states
pub with_one : (ext : Extensions) (s : State) (transaction : Option Transaction) → HasLawfulDatabases ext s → MayBeOpen ext transaction → HasLawfulDatabases ext (with_transaction s transaction)
with_one ext s transaction lawful open_one = record { commits = lawful.commits; open_one = open_one }

in_spent : (ext : Extensions) (n : ℕ) (s : State) (transaction : Option Transaction) → HasLawfulDatabases ext s → MayBeOpen ext transaction
    → HasLawfulDatabases ext (elim transaction [ None ↦ s | Some t ↦ with_transaction s (Some (record t { spent = n })) ])
in_spent ext n s None lawful open_one = lawful
in_spent ext n s (Some t) lawful open_one = with_one ext s _ lawful (record { stands = open_one.stands; points = open_one.points })

pub when_spent : (ext : Extensions) (n : ℕ) (s : State) → HasLawfulDatabases ext s → HasLawfulDatabases ext (with_spent n s)
when_spent ext n s lawful = in_spent ext n s s.transaction lawful lawful.open_one

in_up : (ext : Extensions) (s : State) (down : Bool) (transaction : Option Transaction) → HasLawfulDatabases ext s
    → HasLawfulDatabases ext (elim down [ true ↦ s | false ↦ elim transaction [ None ↦ s | Some t ↦ with_spent (t.spent + 1) s ] ])
in_up ext s true transaction lawful = lawful
in_up ext s false None lawful = lawful
in_up ext s false (Some t) lawful = when_spent ext (t.spent + 1) s lawful

pub when_up : (ext : Extensions) (s : State) → HasLawfulDatabases ext s → HasLawfulDatabases ext (step.if_up s)
when_up ext s lawful = in_up ext s s.down s.transaction lawful

when_ended : (ext : Extensions) (s : State) → HasLawfulDatabases ext s → HasLawfulDatabases ext (ended s)
when_ended ext s lawful = with_one ext s None lawful tt

when_committed : (ext : Extensions) (s : State) (g : Going) → HasLawfulDatabases ext s → IsLawfulWork ext g → HasLawfulDatabases ext (step.commit_of s g)
when_committed ext s g lawful work = record {
  commits =
      All-append (λ db. IsLawfulWith ext db []) s.commits (g.db ∷ []) lawful.commits
      (All-cons (λ db. IsLawfulWith ext db []) g.db [] (alone ext g.db g.queue.actions work.stands) (All-nil (λ db. IsLawfulWith ext db [])));
  open_one = tt;
}

when_kept : (ext : Extensions) (s : State) (points : List Point) (g : Going) → HasLawfulDatabases ext s → All (λ p. IsLawfulWith ext p.db p.queue.actions) points → IsLawfulWork ext g
    → HasLawfulDatabases ext (kept s points g)
when_kept ext s points g lawful all work = with_one ext s _ lawful (record { stands = work.stands; points = all })

-- ---- what work begins with
abbrev going_in : State → Option Transaction → List Key → Going
going_in s transaction picks = elim transaction [ None ↦ begun (committed s) no_queue none_gone 1 picks | Some t ↦ begun t.db t.queue t.gone t.spent picks ]

begins_in : (ext : Extensions) (s : State) (transaction : Option Transaction) (picks : List Key) → HasLawfulDatabases ext s → MayBeOpen ext transaction → IsLawfulWork ext (going_in s transaction picks)
begins_in ext s None picks lawful open_one = record { stands = of_last (λ db. IsLawfulWith ext db []) None s.commits (lawful_empty ext) lawful.commits; trail = All-nil (IsLawfulPoint ext) }
begins_in ext s (Some t) picks lawful open_one = record { stands = open_one.stands; trail = All-nil (IsLawfulPoint ext) }

begins : (ext : Extensions) (s : State) (picks : List Key) → HasLawfulDatabases ext s → IsLawfulWork ext (going_of s picks)
begins ext s picks lawful = begins_in ext s s.transaction picks lawful lawful.open_one

pub start_may : (ext : Extensions) (s : State) (picks : List Key) → HasLawfulDatabases ext s → IsLawfulWith ext (going_of s picks).db (going_of s picks).queue.actions
start_may ext s picks lawful = (begins ext s picks lawful).stands

-- ---- turns
abbrev Works : {A : Type 0} → Extensions → Outcome A → Type 0
Works ext o = OfEnd ext (λ _ g. IsLawfulWork ext g) o

of_turn : (ext : Extensions) (leave : Going → State) (otherwise : State) (o : Outcome step.Answer) → ((g : Going) → IsLawfulWork ext g → HasLawfulDatabases ext (leave g)) → HasLawfulDatabases ext otherwise
    → Works ext o → IsLawfulTurn ext (step.turn_of leave otherwise o)
of_turn ext leave otherwise (Gives answer g) leaves other works = record { state = leaves g works; points = works.trail }
of_turn ext leave otherwise (Stopped r trail) leaves other works = record { state = when_spent ext trail.spent otherwise other; points = works }
of_turn ext leave otherwise (NoStep trail) leaves other works = record { state = other; points = works }

-- to give pages back leaves what is lawful
pub freed_goes : (ext : Extensions) (g : Going) → IsLawfulWork ext g → IsLawfulWork ext (freed g)
freed_goes ext g works = record { stands = works.stands; trail = works.trail }

of_finished : (ext : Extensions) (work : Work step.Answer) (g : Going) → Works ext (work g) → Works ext (step.finished ext work g)
of_finished ext work g works =
    of_next ext (λ _ left. IsLawfulWork ext left) (λ _ left. IsLawfulWork ext left) (work g) (λ answer. (λ left. continue (λ _. step.freeing answer) (finish ext left))) works
    (λ answer left lawful.
    of_next ext (λ _ last. IsLawfulWork ext last) (λ _ last. IsLawfulWork ext last) (finish ext left) (λ _. step.freeing answer) (finish_goes ext left lawful) (λ _ last ends. freed_goes ext last ends))

in_changing : (ext : Extensions) (s : State) (picks : List Key) (work : Work step.Answer) (transaction : Option Transaction) → HasLawfulDatabases ext s → MayBeOpen ext transaction
    → Works ext (work (going_of s picks))
    → IsLawfulTurn ext (elim transaction [
      | None ↦ step.turn_of (step.commit_of s) s (step.finished ext work (going_of s picks))
      | Some t ↦ step.turn_of (kept s t.points) s (work (going_of s picks))
    ])
in_changing ext s picks work None lawful open_one works =
    of_turn ext (step.commit_of s) s (step.finished ext work (going_of s picks)) (λ g left. when_committed ext s g lawful left) lawful (of_finished ext work (going_of s picks) works)
in_changing ext s picks work (Some t) lawful open_one works =
    of_turn ext (kept s t.points) s (work (going_of s picks)) (λ g left. when_kept ext s t.points g lawful open_one.points left) lawful works

changing_lawful : (ext : Extensions) (s : State) (picks : List Key) (work : Work step.Answer) → HasLawfulDatabases ext s → Works ext (work (going_of s picks))
    → IsLawfulTurn ext (step.changing ext s picks work)
changing_lawful ext s picks work lawful works = in_changing ext s picks work s.transaction lawful lawful.open_one works

refusing_lawful : (ext : Extensions) (s : State) (r : Refusal) → HasLawfulDatabases ext s → IsLawfulTurn ext (step.refusing s r)
refusing_lawful ext s r lawful = record { state = lawful; points = All-nil (IsLawfulPoint ext) }

-- ---- what a command sees
going_sees : (live spare : Codes) (commits : List Db) (down : Bool) (transaction : Option Transaction) (picks : List Key)
    → (going_of (step.if_up (record { live = live; spare = spare; commits = commits; transaction = transaction; down = down })) picks).db
    ≡ view (record { live = live; spare = spare; commits = commits; transaction = transaction; down = down })
going_sees live spare commits true None picks = refl
going_sees live spare commits true (Some t) picks = refl
going_sees live spare commits false None picks = refl
going_sees live spare commits false (Some t) picks = refl

pub sees : (s : State) (picks : List Key) → (going_of (step.if_up s) picks).db ≡ view s
sees s picks = going_sees s.live s.spare s.commits s.down s.transaction picks

-- ---- a command that isn't refused fits
pub none_of_them : (items : List (Option Refusal)) → first_of items ≡ None → All (λ o. o ≡ None) items
none_of_them [] e = All-nil _
none_of_them (None ∷ items) e = All-cons (λ o. o ≡ None) None items refl (none_of_them items e)
none_of_them (Some r ∷ items) e = absurd (cc)

it_fits : (b : Bool) (r : Refusal) → refuse_where (not b) r ≡ None → b ≡ true
it_fits true r e = refl
it_fits false r e = absurd (cc)

none_missing : (o : Option Name) → option_map refusal.NoRelation o ≡ None → o ≡ None
none_missing None e = refl
none_missing (Some name) e = absurd (cc)

-- the eighth test, and the third
is_kinded : (ext : Extensions) (s : State) (c : Command) → refused ext s c ≡ None → is_well_kinded ext (view s) c ≡ true
is_kinded ext s c none = it_fits (is_well_kinded ext (view s) c) refusal.Mistyped (none_of_them (tests ext s c) none 7 None (omega arith))

is_there : (ext : Extensions) (s : State) (c : Command) → refused ext s c ≡ None → first_missing (view s) (relations_of c) ≡ None
is_there ext s c none = none_missing (first_missing (view s) (relations_of c)) (none_of_them (tests ext s c) none 2 None (omega arith))

-- ---- commands on rows
module _ (ext : Extensions) (s : State) (picks : List Key) (lawful : HasLawfulDatabases ext (step.if_up s)) where
  start : Going
  start = going_of (step.if_up s) picks

  wish_works : (relation : Name) (wish : Wish) → IsWishOf (schema_at (view s) relation) wish → Works ext (first_change ext relation wish (going_of (step.if_up s) picks))
  wish_works relation wish is =
      change_goes ext 16 relation wish (going_of (step.if_up s) picks) (begins ext (step.if_up s) picks lawful)
      (subst (λ (d : Db). IsWishOf (schema_at d relation) wish) (sym (sees s picks)) is)

  keyed_turn : (relation : Name) (wish : Wish) → IsWishOf (schema_at (view s) relation) wish
      → IsLawfulTurn ext (step.changing ext (step.if_up s) picks (step.with_key relation (first_change ext relation wish)))
  keyed_turn relation wish is =
      changing_lawful ext (step.if_up s) picks (step.with_key relation (first_change ext relation wish)) lawful
      (of_next ext (λ key g. IsLawfulWork ext g) (λ answer g. IsLawfulWork ext g) (first_change ext relation wish (going_of (step.if_up s) picks))
      (λ key. λ going. made (step.row_answer going.db relation key) going) (wish_works relation wish is) (λ key g left. left))

  row_turn : (c : Command) → IsRowCommand c → first_missing (view s) (relations_of c) ≡ None → is_well_kinded ext (view s) c ≡ true
      → IsLawfulTurn ext (step.carry_out ext (step.if_up s) c picks (step.work_of ext c))
  row_turn (command.Insert relation values) is there fits = keyed_turn relation (Put values) (is, is_none-none (first_misfit (schema_at (view s) relation) values) fits)
  row_turn (command.Delete relation at) is there fits =
      changing_lawful ext (step.if_up s) picks (step.plainly (first_change ext relation (Remove at))) lawful
      (of_next ext (λ key g. IsLawfulWork ext g) (λ answer g. IsLawfulWork ext g) (first_change ext relation (Remove at) (going_of (step.if_up s) picks))
      (λ _. made step.Plain) (wish_works relation (Remove at) tt) (λ key g left. left))
  row_turn (command.Update relation at values) is there fits = keyed_turn relation (Replace at values) (is, is_none-none (first_misfit (schema_at (view s) relation) values) fits)
  row_turn (command.Act a) is there fits =
      changing_lawful ext (step.if_up s) picks (λ going. continue (λ n. made (step.Counts n)) (act (first_change ext) a going)) lawful
      (of_next ext (λ n g. IsLawfulWork ext g) (λ answer g. IsLawfulWork ext g) (act (first_change ext) a (going_of (step.if_up s) picks)) (λ n. made (step.Counts n))
      (action_goes ext 16 a (going_of (step.if_up s) picks) (begins ext (step.if_up s) picks lawful)
      (subst (λ (d : Db). MayAct d a) (sym (sees s picks)) (record { fits = fitting (view s) a there fits; puts = is }))) (λ n g left. left))
  row_turn _ is there fits = absurd is

row_tested : (ext : Extensions) (s : State) (c : Command) (picks : List Key) (first : Option Refusal) → refused ext s c ≡ first → IsRowCommand c → HasLawfulDatabases ext (step.if_up s)
    → IsLawfulTurn ext (step.tested ext (step.if_up s) c picks first)
row_tested ext s c picks None none is lawful = row_turn ext s picks lawful c is (is_there ext s c none) (is_kinded ext s c none)
row_tested ext s c picks (Some r) none is lawful = refusing_lawful ext (step.if_up s) r lawful

pub rows-step : RowsStepLawful
rows-step ext s c picks is lawful = row_tested ext s c picks (refused ext s c) refl is (when_up ext s lawful)

-- ---- commits
committing_lawful : (ext : Extensions) (s : State) (picks : List Key) → HasLawfulDatabases ext s → IsLawfulTurn ext (step.committing ext s picks)
committing_lawful ext s picks lawful =
    of_turn ext (step.commit_of s) (ended s) (step.finished ext (made step.Plain) (going_of s picks)) (λ g left. when_committed ext s g lawful left) (when_ended ext s lawful)
    (of_finished ext (made step.Plain) (going_of s picks) (begins ext s picks lawful))

commit_tested : (ext : Extensions) (s : State) (picks : List Key) (first : Option Refusal) → HasLawfulDatabases ext s → IsLawfulTurn ext (step.tested ext s command.Commit picks first)
commit_tested ext s picks None lawful = committing_lawful ext s picks lawful
commit_tested ext s picks (Some r) lawful = refusing_lawful ext s r lawful

pub commits-step : CommitsStepLawful
commits-step ext s picks lawful = commit_tested ext (step.if_up s) picks (refused ext s command.Commit) (when_up ext s lawful)

-- ---- transactions and savepoints
in_changed : (ext : Extensions) (f : Transaction → Transaction) (s : State) (transaction : Option Transaction) → ((t : Transaction) → HasLawfulPoints ext t → HasLawfulPoints ext (f t))
    → HasLawfulDatabases ext s → MayBeOpen ext transaction → HasLawfulDatabases ext (elim transaction [ None ↦ s | Some t ↦ with_transaction s (Some (f t)) ])
in_changed ext f s None keeps lawful open_one = lawful
in_changed ext f s (Some t) keeps lawful open_one = with_one ext s _ lawful (keeps t open_one)

when_begun : (ext : Extensions) (s : State) → HasLawfulDatabases ext s → HasLawfulDatabases ext (step.begin s)
when_begun ext s lawful = with_one ext s _ lawful (record { stands = of_last (λ db. IsLawfulWith ext db []) None s.commits (lawful_empty ext) lawful.commits; points = All-nil _ })

abbrev IsSavepoint : Extensions → Point → Type 0
IsSavepoint ext p = IsLawfulWith ext p.db p.queue.actions

with_point_more : (ext : Extensions) (name : Name) (t : Transaction) → HasLawfulPoints ext t → HasLawfulPoints ext (step.with_savepoint name t)
with_point_more ext name t lawful = record {
  stands = lawful.stands;
  points =
      All-append (IsSavepoint ext) t.points _ lawful.points
      (All-cons (IsSavepoint ext) (record { name = name; db = t.db; queue = t.queue; gone = t.gone }) [] lawful.stands (All-nil (IsSavepoint ext)));
}

-- the points up to a name are some of the points
all_to : (P : Point → Type 0) (name : Name) (points : List Point) → All P points → All P (points_to name points)
all_to P name [] all = All-nil _
all_to P name (p ∷ points) all = All-cons P p _ (All-head P p points all) (of_test (is_point name p) (all_to P name points (All-tail P p points all)))
  where
    of_test : (b : Bool) → All P (points_to name points) → All P (cond b [] (points_to name points))
    of_test true rest = All-nil _
    of_test false rest = rest

when_back : (ext : Extensions) (name : Name) (t : Transaction) (points : List Point) → HasLawfulPoints ext t → All (IsSavepoint ext) points → HasLawfulPoints ext (step.back_to name points t)
when_back ext name t [] lawful all = lawful
when_back ext name t (p ∷ points) lawful all = of_test (is_point name p) (when_back ext name t points lawful (All-tail (IsSavepoint ext) p points all))
  where
    of_test : (b : Bool) → HasLawfulPoints ext (step.back_to name points t) → HasLawfulPoints ext (elim b [
      | true ↦ record t { db = p.db; queue = p.queue; gone = p.gone; points = points_to name t.points }
      | false ↦ step.back_to name points t
    ])
    of_test true rest = record { stands = All-head (IsSavepoint ext) p points all; points = all_to (IsSavepoint ext) name t.points lawful.points }
    of_test false rest = rest

open_points : (ext : Extensions) (transaction : Option Transaction) → MayBeOpen ext transaction → All (IsSavepoint ext) (elim transaction [ None ↦ [] | Some t ↦ t.points ])
open_points ext None open_one = All-nil (IsSavepoint ext)
open_points ext (Some t) open_one = open_one.points

when_rolled_back : (ext : Extensions) (name : Name) (s : State) → HasLawfulDatabases ext s → HasLawfulDatabases ext (step.in_transaction (step.back_to name (points_of s)) s)
when_rolled_back ext name s lawful =
    in_changed ext (step.back_to name (points_of s)) s s.transaction (λ t open_one. when_back ext name t (points_of s) open_one (open_points ext s.transaction lawful.open_one)) lawful lawful.open_one

-- ---- commands that work on no database
abbrev StaysLawful : Extensions → step.Turn → Type 0
StaysLawful ext turn = IsLawfulTurn ext turn

as_turn : (ext : Extensions) (turn : step.Turn) → turn.points ≡ [] → HasLawfulDatabases ext turn.state → StaysLawful ext turn
as_turn ext turn none lawful = record { state = lawful; points = subst (All (IsLawfulPoint ext)) (sym none) (All-nil (IsLawfulPoint ext)) }

other_turn : (ext : Extensions) (s : State) (c : Command) (picks : List Key) → (c ≡ command.Commit → ⊥) → step.work_of ext c ≡ None → HasLawfulDatabases ext s
    → StaysLawful ext (step.carry_out ext s c picks (step.work_of ext c))
other_turn ext s (command.Create relation method schema key) picks other none lawful = absurd (cc)
other_turn ext s (command.Drop relation) picks other none lawful = absurd (cc)
other_turn ext s (command.Attach relation name rule) picks other none lawful = absurd (cc)
other_turn ext s (command.Detach relation name) picks other none lawful = absurd (cc)
other_turn ext s (command.Insert relation values) picks other none lawful = absurd (cc)
other_turn ext s (command.Delete relation at) picks other none lawful = absurd (cc)
other_turn ext s (command.Update relation at values) picks other none lawful = absurd (cc)
other_turn ext s (command.Act act) picks other none lawful = absurd (cc)
other_turn ext s command.Commit picks other none lawful = absurd (other refl)
other_turn ext s command.Begin picks other none lawful = as_turn ext _ refl (when_begun ext s lawful)
other_turn ext s command.Abort picks other none lawful = as_turn ext _ refl (when_ended ext s lawful)
other_turn ext s (command.Savepoint name) picks other none lawful = as_turn ext _ refl (in_changed ext (step.with_savepoint name) s s.transaction (with_point_more ext name) lawful lawful.open_one)
other_turn ext s (command.Rollback name) picks other none lawful = as_turn ext _ refl (when_rolled_back ext name s lawful)
other_turn ext s (command.Register method code) picks other none lawful = as_turn ext _ refl (record { commits = lawful.commits; open_one = lawful.open_one })
other_turn ext s (command.Retire method code) picks other none lawful = as_turn ext _ refl (record { commits = lawful.commits; open_one = lawful.open_one })
other_turn ext s command.Checkpoint picks other none lawful = as_turn ext _ refl lawful
other_turn ext s (command.Get relation at) picks other none lawful = as_turn ext _ refl lawful
other_turn ext s (command.Scan relation after limit) picks other none lawful = as_turn ext _ refl lawful
other_turn ext s (command.Lookup relation name values) picks other none lawful = as_turn ext _ refl lawful
other_turn ext s (command.Range relation name low high) picks other none lawful = as_turn ext _ refl lawful
other_turn ext s (command.Entries relation name) picks other none lawful = as_turn ext _ refl lawful
other_turn ext s (command.Show relation) picks other none lawful = as_turn ext _ refl lawful
other_turn ext s command.Tables picks other none lawful = as_turn ext _ refl lawful

other_tested : (ext : Extensions) (s : State) (c : Command) (picks : List Key) (first : Option Refusal) → (c ≡ command.Commit → ⊥) → step.work_of ext c ≡ None → HasLawfulDatabases ext s
    → IsLawfulTurn ext (step.tested ext s c picks first)
other_tested ext s c picks None other none lawful = other_turn ext s c picks other none lawful
other_tested ext s c picks (Some r) other none lawful = refusing_lawful ext s r lawful

pub others-step : OthersStepLawful
others-step ext s c picks other none lawful = other_tested ext (step.if_up s) c picks (refused ext s c) other none (when_up ext s lawful)

-- ---- refusals
commit_or_other : (c : Command) → (c ≡ command.Commit) ⊎ (c ≡ command.Commit → ⊥)
commit_or_other command.Commit = inl refl
commit_or_other _ = inr (λ e. absurd (cc))

when_left : (ext : Extensions) (s t : State) → IsLeft s t → HasLawfulDatabases ext s → HasLawfulDatabases ext t
when_left ext s t left lawful = subst (HasLawfulDatabases ext) (sym left.is) (when_spent ext left.spent s lawful)

of_refused : (ext : Extensions) (s : State) (c : Command) (picks : List Key) (r : Refusal) → (c ≡ command.Commit) ⊎ (c ≡ command.Commit → ⊥)
    → (step.step ext s c picks).reply ≡ Some (Refused r) → HasLawfulDatabases ext s → HasLawfulDatabases ext (step.step ext s c picks).state
of_refused ext s c picks r (inl commit) e lawful = subst (λ (k : Command). HasLawfulDatabases ext (step.step ext s k picks).state) (sym commit) (commits-step ext s picks lawful).state
of_refused ext s c picks r (inr other) e lawful = when_left ext s _ (refused-leaves ext s c picks r other e) lawful

pub refused-leave : RefusedLeaveLawful
refused-leave ext s c picks r = of_refused ext s c picks r (commit_or_other c)
