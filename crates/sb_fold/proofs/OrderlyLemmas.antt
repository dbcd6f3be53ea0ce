-- Work uses its picks in order.
use Rattle.std.proofs.Common.{◌≡◌, ℕ, zero, suc, ◌+◌, Bool, true, false, cond, List, [], ◌∷◌, ◌++◌, Option, Some, None, refl, sym, ◌∙◌, ap, subst, append_assoc, not}
use Rattle.std.specs.List.{flat_map}
use Rattle.sb_value.specs.declared.value.Value.{Value}
use Rattle.sb_value.specs.declared.value.Value.TheVariants.{Int, Text}
use Rattle.sb_value.specs.declared.schema.Column.{Column}
use Rattle.sb_pred.specs.Columns.{column_value}
use Rattle.sb_rule.specs.declared.action.Action.{Action}
use Rattle.sb_rule.specs.declared.action.Action.TheVariants as action
use Rattle.sb_rule.specs.declared.change.Change.{Change}
use Rattle.sb_rule.specs.declared.rule.Rule.{Rule}
use Rattle.sb_relation.specs.Build.{with_rule}
use Rattle.sb_relation.specs.Db.{Name, Key, Row, Rows, Relation, Db, relation_at, rows_at, schema_at, row_at, key_of}
use Rattle.sb_relation.specs.Fits.{relation_of}
use Rattle.sb_relation.specs.Keys.{NewKeys, AnyOf, Just, Taken, NoGreater, keying_of, new_keys}
use Rattle.sb_relation.specs.Rules.{holds}
use Rattle.sb_fold.specs.declared.refusal.Refusal.{Refusal}
use Rattle.sb_fold.specs.declared.refusal.Refusal.TheVariants.{NoRecord, TooLong, Range, Duplicate, Veto, Depth, DeferLimit}
use Rattle.sb_fold.specs.Building as building
use Rattle.sb_fold.specs.Extensions.{Extensions, box_of}
use Rattle.sb_fold.specs.Finish as finishing
use Rattle.sb_fold.specs.Fold as fold
use Rattle.sb_fold.specs.Laws.{OfMade, more, WithMore, IsOrderly}
use Rattle.sb_fold.specs.Outcome.{Queue, Going, Outcome, Gives, Stopped, NoStep, Work, made, refuse, no_step, continue, ◌>>=◌, refuse_if, change_to, with_db}
use Rattle.sb_fold.specs.Wishes as wishes

-- ---- the three makers
pub orderly_made : {A : Type 0} (x : A) → IsOrderly (made x)
orderly_made x = record { uses = λ going. refl; passes = λ picks going. refl }

pub orderly_refuse : {A : Type 0} (r : Refusal) → IsOrderly (refuse {A = A} r)
orderly_refuse r = record { uses = λ going. tt; passes = λ picks going. refl }

pub orderly_no_step : {A : Type 0} → IsOrderly (no_step {A = A})
orderly_no_step = record { uses = λ going. tt; passes = λ picks going. tt }

-- ---- work behind work
abbrev Given : Going → Going → Type 0
Given going left = left.used ++ left.picks ≡ going.used ++ going.picks

from_there : {A : Type 0} (going mid : Going) (o : Outcome A) → Given going mid → OfMade (Given mid) o → OfMade (Given going) o
from_there going mid (Gives x left) e f = f ∙ e
from_there going mid (Stopped r trail) e f = tt
from_there going mid (NoStep trail) e f = tt

uses_next : {A B : Type 0} (going : Going) (o : Outcome A) (next : A → Work B) → ((x : A) → IsOrderly (next x)) → OfMade (Given going) o → OfMade (Given going) (continue next o)
uses_next going (Gives x mid) next orderly e = from_there going mid (next x mid) e ((orderly x).uses mid)
uses_next going (Stopped r trail) next orderly e = tt
uses_next going (NoStep trail) next orderly e = tt

passes_next : {A B : Type 0} (picks : List Key) (o p : Outcome A) (next : A → Work B) → ((x : A) → IsOrderly (next x)) → WithMore picks o p → WithMore picks (continue next o) (continue next p)
passes_next picks (Gives x mid) p next orderly e = subst (λ q. WithMore picks (next x mid) (continue next q)) (sym e) ((orderly x).passes picks mid)
passes_next picks (Stopped r trail) p next orderly e = ap (continue next) e
passes_next picks (NoStep trail) p next orderly e = tt

pub orderly_next : {A B : Type 0} (work : Work A) (next : A → Work B) → IsOrderly work → ((x : A) → IsOrderly (next x)) → IsOrderly (work >>= next)
orderly_next work next first orderly = record {
  uses = λ going. uses_next going (work going) next orderly (first.uses going);
  passes = λ picks going. passes_next picks (work going) (work (more picks going)) next orderly (first.passes picks going);
}

-- work that looks at the database and at what waits
pub orderly_at : {A : Type 0} (work : Db → Queue → Work A) → ((db : Db) (queue : Queue) → IsOrderly (work db queue)) → IsOrderly (λ going. work going.db going.queue going)
orderly_at work orderly = record {
  uses = λ going. (orderly going.db going.queue).uses going;
  passes = λ picks going. (orderly going.db going.queue).passes picks going;
}

pub orderly_cond : {A : Type 0} (b : Bool) (x y : Work A) → IsOrderly x → IsOrderly y → IsOrderly (cond b x y)
orderly_cond true x y p q = p
orderly_cond false x y p q = q

pub orderly_refuse_if : (b : Bool) (r : Refusal) → IsOrderly (refuse_if b r)
orderly_refuse_if true r = orderly_refuse r
orderly_refuse_if false r = orderly_made tt

-- a change of what stands that leaves the picks alone
pub record IsCalm (f : Going → Going) : Type 0 where
  pub used : (going : Going) → (f going).used ≡ going.used
  pub picks : (going : Going) → (f going).picks ≡ going.picks
  pub passes : (picks : List Key) (going : Going) → f (more picks going) ≡ more picks (f going)

pub orderly_change : (f : Going → Going) → IsCalm f → IsOrderly (change_to f)
orderly_change f calm = record {
  uses = λ going. ap (λ (used : List Key). used ++ (f going).picks) (calm.used going) ∙ ap (λ (picks : List Key). going.used ++ picks) (calm.picks going);
  passes = λ picks going. ap (λ (left : Going). Gives tt left) (calm.passes picks going);
}

-- ---- record keys
uses_pick : (may : Key → Bool) (picks : List Key) (going : Going) → going.picks ≡ picks → OfMade (Given going) (wishes.pick may picks going)
uses_pick may [] going e = tt
uses_pick may (key ∷ picks) going e = of_cond (may key)
  where
    of_cond : (b : Bool) → OfMade (Given going) (cond b (made key (record going { picks = picks; used = going.used ++ key ∷ [] })) (no_step going))
    of_cond true = append_assoc going.used (key ∷ []) picks ∙ ap (λ (p : List Key). going.used ++ p) (sym e)
    of_cond false = tt

passes_pick : (may : Key → Bool) (picks others : List Key) (going : Going) → WithMore others (wishes.pick may picks going) (wishes.pick may (picks ++ others) (more others going))
passes_pick may [] others going = tt
passes_pick may (key ∷ picks) others going = of_cond (may key)
  where
    of_cond : (b : Bool) → WithMore others (cond b (made key (record going { picks = picks; used = going.used ++ key ∷ [] })) (no_step going))
        (cond b (made key (record going { picks = picks ++ others; used = going.used ++ key ∷ [] })) (no_step going))
    of_cond true = refl
    of_cond false = tt

orderly_take : (name : Name) (keys : NewKeys) → IsOrderly (wishes.take_key name keys)
orderly_take name (AnyOf may) = record { uses = λ going. uses_pick may going.picks going refl; passes = λ picks going. passes_pick may going.picks picks going }
orderly_take name (Just key) = orderly_made key
orderly_take name Taken = orderly_refuse (Duplicate name)
orderly_take name NoGreater = orderly_refuse (Range name)

-- ---- wishes
orderly_found : (name : Name) (row : Option Row) → IsOrderly (wishes.found name row)
orderly_found name None = orderly_refuse (NoRecord name)
orderly_found name (Some row) = orderly_made row

orderly_raised : (name : Name) (schema : List Column) (column : Name) (by : _) (row : Row) (v : Option Value) → IsOrderly (wishes.raised name schema column by row v)
orderly_raised name schema column by row (Some (Int n)) = orderly_cond _ _ _ (orderly_made _) (orderly_refuse (Range name))
orderly_raised name schema column by row (Some (Text s)) = orderly_made row
orderly_raised name schema column by row None = orderly_made row

orderly_edit : (name : Name) (r : Relation) (wish : wishes.Wish) → IsOrderly (wishes.edit_of name r wish)
orderly_edit name r (wishes.Put row) = orderly_made _
orderly_edit name r (wishes.Remove key) = orderly_next _ _ (orderly_found name (row_at r.rows key)) (λ old. orderly_made _)
orderly_edit name r (wishes.Replace key new) = orderly_next _ _ (orderly_found name (row_at r.rows key)) (λ old. orderly_made _)
orderly_edit name r (wishes.Raise key column by) =
    orderly_next _ _ (orderly_found name (row_at r.rows key)) (λ old. orderly_next _ _ (orderly_raised name r.schema column by old (column_value r.schema (Some old) column)) (λ new. orderly_made _))

orderly_change_of : (name : Name) (r : Relation) (edit : wishes.Edit) → IsOrderly (wishes.change_of name r edit)
orderly_change_of name r (wishes.Adds row) = orderly_next _ _ (orderly_take name (new_keys (keying_of r.method) r.rows None (key_of r row))) (λ key. orderly_made _)
orderly_change_of name r (wishes.Takes key old) = orderly_made _
orderly_change_of name r (wishes.Turns key old new) = orderly_next _ _ (orderly_take name (new_keys (keying_of r.method) r.rows (Some key) (key_of r new))) (λ to. orderly_made _)

orderly_wished : (name : Name) (r : Relation) (wish : wishes.Wish) → IsOrderly (wishes.wished name r wish)
orderly_wished name r wish =
    orderly_next _ _ (orderly_edit name r wish) (λ edit.
    orderly_next _ _ (orderly_refuse_if (wishes.is_long_edit r edit) (TooLong name)) (λ _. orderly_change_of name r edit))

-- ---- actions, whose changes are orderly
abbrev AreOrderly : fold.Changes → Type 0
AreOrderly changes = (name : Name) (wish : wishes.Wish) → IsOrderly (changes name wish)

orderly_if : (changes : fold.Changes) → AreOrderly changes → (name : Name) (wish : Option wishes.Wish) → IsOrderly (fold.change_if changes name wish)
orderly_if changes all name None = orderly_made 0
orderly_if changes all name (Some wish) = orderly_next _ _ (all name wish) (λ _. orderly_made 1)

orderly_each : (changes : fold.Changes) → AreOrderly changes → (a : Action) (keys : List Key) → IsOrderly (fold.change_each changes a keys)
orderly_each changes all a [] = orderly_made 0
orderly_each changes all a (key ∷ keys) =
    orderly_next _ _
    (orderly_at (λ db queue. fold.change_if changes (relation_of a) (fold.wish_for (schema_at db (relation_of a)) a key (row_at (rows_at db (relation_of a)) key))) (λ db queue. orderly_if changes all (relation_of a) _))
    (λ one. orderly_next _ _ (orderly_each changes all a keys) (λ others. orderly_made (one + others)))

pub orderly_act : (changes : fold.Changes) → AreOrderly changes → (a : Action) → IsOrderly (fold.act changes a)
orderly_act changes all (action.Insert relation terms) = orderly_next _ _ (all relation (wishes.Put (flat_map wishes.const_of terms))) (λ _. orderly_made 1)
orderly_act changes all (action.Delete relation pairs) =
    orderly_at (λ db queue. fold.change_each changes (action.Delete relation pairs) (fold.matching db (action.Delete relation pairs)))
    (λ db queue. orderly_each changes all (action.Delete relation pairs) (fold.matching db (action.Delete relation pairs)))
orderly_act changes all (action.Set relation column term pairs) =
    orderly_at (λ db queue. fold.change_each changes (action.Set relation column term pairs) (fold.matching db (action.Set relation column term pairs)))
    (λ db queue. orderly_each changes all (action.Set relation column term pairs) (fold.matching db (action.Set relation column term pairs)))
orderly_act changes all (action.Add relation column term pairs) =
    orderly_at (λ db queue. fold.change_each changes (action.Add relation column term pairs) (fold.matching db (action.Add relation column term pairs)))
    (λ db queue. orderly_each changes all (action.Add relation column term pairs) (fold.matching db (action.Add relation column term pairs)))

orderly_act_all : (changes : fold.Changes) → AreOrderly changes → (actions : List Action) → IsOrderly (fold.act_all changes actions)
orderly_act_all changes all [] = orderly_made tt
orderly_act_all changes all (a ∷ actions) = orderly_next _ _ (orderly_act changes all a) (λ _. orderly_act_all changes all actions)

-- ---- one change
orderly_vetoed : (name : Name) (veto : Option Name) → IsOrderly (fold.unless_vetoed name veto)
orderly_vetoed name None = orderly_made tt
orderly_vetoed name (Some attachment) = orderly_refuse (Veto name attachment)

calm_queue : (name : Name) (c : Change) → IsCalm (fold.queue_late name c)
calm_queue name c = record { used = λ going. refl; picks = λ going. refl; passes = λ picks going. refl }

calm_reach : (ext : Extensions) (name : Name) (r : Relation) (c : Change) → IsCalm (fold.reach_change ext name r c)
calm_reach ext name r c = record { used = λ going. refl; picks = λ going. refl; passes = λ picks going. refl }

orderly_answer : (ext : Extensions) (below : fold.Changes) → AreOrderly below → (name : Name) (c : Change) → IsOrderly (fold.answer_change ext below name c)
orderly_answer ext below all name c =
    orderly_next _ _ (orderly_at (λ db queue. fold.unless_vetoed name (fold.vetoing ext db name c (fold.attachments_at db name))) (λ db queue. orderly_vetoed name _)) (λ _.
    orderly_next _ _ (orderly_change (fold.queue_late name c) (calm_queue name c)) (λ _.
    orderly_next _ _ (orderly_at (λ db queue. fold.act_all below (fold.following db name c)) (λ db queue. orderly_act_all below all _)) (λ _. orderly_made (fold.key_after c))))

orderly_one : (ext : Extensions) (below : fold.Changes) → AreOrderly below → (name : Name) (wish : wishes.Wish) (r : Option Relation) → IsOrderly (fold.one_change ext below name wish r)
orderly_one ext below all name wish None = orderly_no_step
orderly_one ext below all name wish (Some r) =
    orderly_next _ _ (orderly_wished name r wish) (λ c.
    orderly_next _ _ (orderly_change (fold.reach_change ext name r c) (calm_reach ext name r c)) (λ _. orderly_answer ext below all name c))

pub orderly_within : (ext : Extensions) (levels : ℕ) → AreOrderly (fold.change_within ext levels)
orderly_within ext zero name wish = orderly_refuse Depth
orderly_within ext (suc levels) name wish =
    orderly_at (λ db queue. fold.one_change ext (fold.change_within ext levels) name wish (relation_at db name))
    (λ db queue. orderly_one ext (fold.change_within ext levels) (orderly_within ext levels) name wish (relation_at db name))

-- ---- before a commit
calm_actions : (actions : List Action) → IsCalm (finishing.with_actions actions)
calm_actions actions = record { used = λ going. refl; picks = λ going. refl; passes = λ picks going. refl }

orderly_drain_next : (changes : fold.Changes) → AreOrderly changes → (rest : Work (Unit {0})) → IsOrderly rest → (actions : List Action) → IsOrderly (finishing.drain_next changes rest actions)
orderly_drain_next changes all rest orderly [] = orderly_made tt
orderly_drain_next changes all rest orderly (a ∷ actions) =
    orderly_next _ _ (orderly_change (finishing.with_actions actions) (calm_actions actions)) (λ _. orderly_next _ _ (orderly_act changes all a) (λ _. orderly))

orderly_waiting : (actions : List Action) → IsOrderly (finishing.unless_waiting actions)
orderly_waiting [] = orderly_made tt
orderly_waiting (a ∷ actions) = orderly_refuse DeferLimit

orderly_drain : (ext : Extensions) (most : ℕ) → IsOrderly (finishing.drain ext most)
orderly_drain ext zero = orderly_at (λ db queue. finishing.unless_waiting queue.actions) (λ db queue. orderly_waiting queue.actions)
orderly_drain ext (suc most) =
    orderly_at (λ db queue. finishing.drain_next (fold.first_change ext) (finishing.drain ext most) queue.actions)
    (λ db queue. orderly_drain_next (fold.first_change ext) (orderly_within ext 16) (finishing.drain ext most) (orderly_drain ext most) queue.actions)

orderly_failing : (failing : Option (Name × Name)) → IsOrderly (finishing.unless_failing failing)
orderly_failing None = orderly_made tt
orderly_failing (Some (relation, name)) = orderly_refuse (Veto relation name)

pub orderly_finish : (ext : Extensions) → IsOrderly (finishing.finish ext)
orderly_finish ext =
    orderly_next _ _ (orderly_drain ext 1000)
    (λ _. orderly_at (λ db queue. finishing.unless_failing (finishing.first_failing ext db db)) (λ db queue. orderly_failing (finishing.first_failing ext db db)))

-- ---- a build
used_rows : (ext : Extensions) (name : Name) (rule : Rule) (rows : Rows) (buckets : ℕ) (built : Rows) (going : Going) → (building.build_rows ext name rule buckets built rows going).used ≡ going.used
used_rows ext name rule [] buckets built going = refl
used_rows ext name rule (row ∷ rows) buckets built going = used_rows ext name rule rows _ _ _

picks_rows : (ext : Extensions) (name : Name) (rule : Rule) (rows : Rows) (buckets : ℕ) (built : Rows) (going : Going) → (building.build_rows ext name rule buckets built rows going).picks ≡ going.picks
picks_rows ext name rule [] buckets built going = refl
picks_rows ext name rule (row ∷ rows) buckets built going = picks_rows ext name rule rows _ _ _

more_rows : (ext : Extensions) (name : Name) (rule : Rule) (rows : Rows) (buckets : ℕ) (built : Rows) (picks : List Key) (going : Going)
    → building.build_rows ext name rule buckets built rows (more picks going) ≡ more picks (building.build_rows ext name rule buckets built rows going)
more_rows ext name rule [] buckets built picks going = refl
more_rows ext name rule (row ∷ rows) buckets built picks going = more_rows ext name rule rows _ _ picks _

calm_build : (ext : Extensions) (name : Name) (rule : Rule) → IsCalm (building.reach_build ext name rule)
calm_build ext name rule = record {
  used = λ going. used_rows ext name rule (rows_at going.db name) _ [] _;
  picks = λ going. picks_rows ext name rule (rows_at going.db name) _ [] _;
  passes = λ picks going. more_rows ext name rule (rows_at going.db name) _ [] picks _;
}

calm_rule : (relation name : Name) (rule : Rule) → IsCalm (λ going. with_db (with_rule going.db relation name rule) going)
calm_rule relation name rule = record { used = λ going. refl; picks = λ going. refl; passes = λ picks going. refl }

pub orderly_build : (ext : Extensions) (relation name : Name) (rule : Rule) → IsOrderly (building.build ext relation name rule)
orderly_build ext relation name rule =
    orderly_next _ _ (orderly_change (building.reach_build ext relation rule) (calm_build ext relation rule)) (λ _.
    orderly_next _ _ (orderly_at (λ db queue. refuse_if (building.has_long_row db relation rule) (TooLong relation)) (λ db queue. orderly_refuse_if _ _)) (λ _.
    orderly_next _ _ (orderly_at (λ db queue. refuse_if (not (holds (box_of ext rule) db relation rule)) (Veto relation name)) (λ db queue. orderly_refuse_if _ _)) (λ _.
    orderly_change _ (calm_rule relation name rule))))
