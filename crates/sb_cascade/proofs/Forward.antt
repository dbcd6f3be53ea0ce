-- Work only lengthens its trail.
use Rattle.std.proofs.Common.{◌≤◌, ℕ, zero, suc, ◌+◌, Bool, true, false, cond, List, [], ◌∷◌, ◌++◌, Option, Some, None, refl, sym, ◌∙◌, ap, append_assoc, append-nil, arith}
use Rattle.std.specs.List.{flat_map}
use Rattle.sb_value.specs.declared.value.Value.{Value}
use Rattle.sb_value.specs.declared.value.Value.TheVariants.{Int, Text}
use Rattle.sb_value.specs.declared.schema.Column.{Column}
use Rattle.sb_pred.specs.Columns.{column_value}
use Rattle.sb_rule.specs.declared.action.Action.{Action}
use Rattle.sb_rule.specs.declared.action.Action.TheVariants as action
use Rattle.sb_rule.specs.declared.change.Change.{Change}
use Rattle.sb_relation.specs.Db.{Name, Key, Row, Relation, relation_at, row_at, key_of}
use Rattle.sb_relation.specs.Fits.{relation_of}
use Rattle.sb_relation.specs.Keys.{NewKeys, AnyOf, Just, Taken, NoGreater, keying_of, new_keys}
use Rattle.sb_fold.specs.declared.refusal.Refusal.{Refusal}
use Rattle.sb_fold.specs.declared.refusal.Refusal.TheVariants.{NoRecord, TooLong, Range, Duplicate, Veto, Depth, DeferLimit}
use Rattle.sb_fold.specs.Costs.{change_cost}
use Rattle.sb_fold.specs.Extensions.{Extensions}
use Rattle.sb_fold.specs.Finish as finishing
use Rattle.sb_fold.specs.Fold as fold
use Rattle.sb_fold.specs.Outcome.{Trail, Going, Outcome, Gives, Stopped, NoStep, Work, made, refuse, no_step, continue, ◌>>=◌, refuse_if, change_to, trail_of}
use Rattle.sb_fold.specs.Wishes as wishes
use Rattle.sb_cascade.specs.Runs.{GoesOn}
use Rattle.sb_cascade.specs.Steps.{ask_all, change_key, wish_there}

pub record IsForward {A : Type 0} (work : Work A) : Type 0 where
  pub goes : (g : Going) → GoesOn g.trail (trail_of (work g))

-- ---- trails
pub goes_here : (t : Trail) → GoesOn t t
goes_here t = record { points = []; more = sym (append-nil t.points); spent = omega arith }

pub goes_then : {a b c : Trail} → GoesOn a b → GoesOn b c → GoesOn a c
goes_then {a = a} {b = b} {c = c} p q = record {
  points = p.points ++ q.points;
  more = q.more ∙ ap (λ points. points ++ q.points) p.more ∙ append_assoc a.points p.points q.points;
  spent = omega (arith, p.spent, q.spent);
}

-- ---- the makers
pub forward_made : {A : Type 0} (x : A) → IsForward (made x)
forward_made x = record { goes = λ g. goes_here g.trail }

pub forward_refuse : {A : Type 0} (r : Refusal) → IsForward (refuse {A = A} r)
forward_refuse r = record { goes = λ g. goes_here g.trail }

pub forward_no_step : {A : Type 0} → IsForward (no_step {A = A})
forward_no_step = record { goes = λ g. goes_here g.trail }

pub forward_change : (f : Going → Going) → ((g : Going) → GoesOn g.trail (f g).trail) → IsForward (change_to f)
forward_change f goes = record { goes = goes }

-- ---- work behind work
pub goes_next : {A B : Type 0} (t : Trail) (o : Outcome A) (next : A → Work B) → ((x : A) → IsForward (next x)) → GoesOn t (trail_of o) → GoesOn t (trail_of (continue next o))
goes_next t (Gives x mid) next forward p = goes_then p ((forward x).goes mid)
goes_next t (Stopped r trail) next forward p = p
goes_next t (NoStep trail) next forward p = p

pub forward_next : {A B : Type 0} (work : Work A) (next : A → Work B) → IsForward work → ((x : A) → IsForward (next x)) → IsForward (work >>= next)
forward_next work next first forward = record { goes = λ g. goes_next g.trail (work g) next forward (first.goes g) }

-- work that looks at what stands
pub forward_at : {A : Type 0} (work : Going → Work A) → ((g : Going) → IsForward (work g)) → IsForward (λ g. work g g)
forward_at work forward = record { goes = λ g. (forward g).goes g }

forward_cond : {A : Type 0} (b : Bool) (x y : Work A) → IsForward x → IsForward y → IsForward (cond b x y)
forward_cond true x y p q = p
forward_cond false x y p q = q

forward_refuse_if : (b : Bool) (r : Refusal) → IsForward (refuse_if b r)
forward_refuse_if true r = forward_refuse r
forward_refuse_if false r = forward_made tt

-- ---- record keys
goes_pick : (may : Key → Bool) (picks : List Key) (g : Going) → GoesOn g.trail (trail_of (wishes.pick may picks g))
goes_pick may [] g = goes_here g.trail
goes_pick may (key ∷ picks) g = of_cond (may key)
  where
    of_cond : (b : Bool) → GoesOn g.trail (trail_of (cond b (made key (record g { picks = picks; used = g.used ++ key ∷ [] })) (no_step g)))
    of_cond true = goes_here g.trail
    of_cond false = goes_here g.trail

forward_take : (name : Name) (keys : NewKeys) → IsForward (wishes.take_key name keys)
forward_take name (AnyOf may) = record { goes = λ g. goes_pick may g.picks g }
forward_take name (Just key) = forward_made key
forward_take name Taken = forward_refuse (Duplicate name)
forward_take name NoGreater = forward_refuse (Range name)

-- ---- wishes
forward_found : (name : Name) (row : Option Row) → IsForward (wishes.found name row)
forward_found name None = forward_refuse (NoRecord name)
forward_found name (Some row) = forward_made row

forward_raised : (name : Name) (schema : List Column) (column : Name) (by : _) (row : Row) (v : Option Value) → IsForward (wishes.raised name schema column by row v)
forward_raised name schema column by row (Some (Int n)) = forward_cond _ _ _ (forward_made _) (forward_refuse (Range name))
forward_raised name schema column by row (Some (Text s)) = forward_made row
forward_raised name schema column by row None = forward_made row

forward_edit : (name : Name) (r : Relation) (wish : wishes.Wish) → IsForward (wishes.edit_of name r wish)
forward_edit name r (wishes.Put row) = forward_made _
forward_edit name r (wishes.Remove key) = forward_next _ _ (forward_found name (row_at r.rows key)) (λ old. forward_made _)
forward_edit name r (wishes.Replace key new) = forward_next _ _ (forward_found name (row_at r.rows key)) (λ old. forward_made _)
forward_edit name r (wishes.Raise key column by) =
    forward_next _ _ (forward_found name (row_at r.rows key)) (λ old. forward_next _ _ (forward_raised name r.schema column by old (column_value r.schema (Some old) column)) (λ new. forward_made _))

forward_change_of : (name : Name) (r : Relation) (edit : wishes.Edit) → IsForward (wishes.change_of name r edit)
forward_change_of name r (wishes.Adds row) = forward_next _ _ (forward_take name (new_keys (keying_of r.method) r.rows None (key_of r row))) (λ key. forward_made _)
forward_change_of name r (wishes.Takes key old) = forward_made _
forward_change_of name r (wishes.Turns key old new) = forward_next _ _ (forward_take name (new_keys (keying_of r.method) r.rows (Some key) (key_of r new))) (λ to. forward_made _)

pub forward_wished : (name : Name) (r : Relation) (wish : wishes.Wish) → IsForward (wishes.wished name r wish)
forward_wished name r wish =
    forward_next _ _ (forward_edit name r wish) (λ edit.
    forward_next _ _ (forward_refuse_if (wishes.is_long_edit r edit) (TooLong name)) (λ _. forward_change_of name r edit))

-- ---- actions, whose changes go on
abbrev pub AreForward : fold.Changes → Type 0
AreForward changes = (name : Name) (wish : wishes.Wish) → IsForward (changes name wish)

forward_if : (changes : fold.Changes) → AreForward changes → (name : Name) (wish : Option wishes.Wish) → IsForward (fold.change_if changes name wish)
forward_if changes all name None = forward_made 0
forward_if changes all name (Some wish) = forward_next _ _ (all name wish) (λ _. forward_made 1)

pub forward_key : (changes : fold.Changes) → AreForward changes → (a : Action) (key : Key) → IsForward (change_key changes a key)
forward_key changes all a key =
    forward_at (λ g. fold.change_if changes (relation_of a) (wish_there g.db a key))
    (λ g. forward_if changes all (relation_of a) _)

pub forward_each : (changes : fold.Changes) → AreForward changes → (a : Action) (keys : List Key) → IsForward (fold.change_each changes a keys)
forward_each changes all a [] = forward_made 0
forward_each changes all a (key ∷ keys) =
    forward_next _ _ (forward_key changes all a key) (λ one. forward_next _ _ (forward_each changes all a keys) (λ others. forward_made (one + others)))

forward_matching : (changes : fold.Changes) → AreForward changes → (a : Action) → IsForward (λ g. fold.change_each changes a (fold.matching g.db a) g)
forward_matching changes all a = forward_at (λ g. fold.change_each changes a (fold.matching g.db a)) (λ g. forward_each changes all a (fold.matching g.db a))

pub forward_act : (changes : fold.Changes) → AreForward changes → (a : Action) → IsForward (fold.act changes a)
forward_act changes all (action.Insert relation terms) = forward_next _ _ (all relation (wishes.Put (flat_map wishes.const_of terms))) (λ _. forward_made 1)
forward_act changes all (action.Delete relation pairs) = forward_matching changes all (action.Delete relation pairs)
forward_act changes all (action.Set relation column term pairs) = forward_matching changes all (action.Set relation column term pairs)
forward_act changes all (action.Add relation column term pairs) = forward_matching changes all (action.Add relation column term pairs)

pub forward_act_all : (changes : fold.Changes) → AreForward changes → (actions : List Action) → IsForward (fold.act_all changes actions)
forward_act_all changes all [] = forward_made tt
forward_act_all changes all (a ∷ actions) = forward_next _ _ (forward_act changes all a) (λ _. forward_act_all changes all actions)

-- ---- one change
forward_vetoed : (name : Name) (veto : Option Name) → IsForward (fold.unless_vetoed name veto)
forward_vetoed name None = forward_made tt
forward_vetoed name (Some attachment) = forward_refuse (Veto name attachment)

forward_veto : (ext : Extensions) (name : Name) (c : Change) → IsForward (λ g. fold.unless_vetoed name (fold.vetoing ext g.db name c (fold.attachments_at g.db name)) g)
forward_veto ext name c = forward_at (λ g. fold.unless_vetoed name (fold.vetoing ext g.db name c (fold.attachments_at g.db name))) (λ g. forward_vetoed name _)

forward_queue : (name : Name) (c : Change) → IsForward (change_to (fold.queue_late name c))
forward_queue name c = forward_change (fold.queue_late name c) (λ g. goes_here g.trail)

pub forward_ask_all : (ext : Extensions) (name : Name) (c : Change) → IsForward (ask_all ext name c)
forward_ask_all ext name c =
    forward_next _ _ (forward_veto ext name c) (λ _.
    forward_next _ _ (forward_queue name c) (λ _. forward_at (λ g. made (fold.following g.db name c)) (λ g. forward_made _)))

forward_answer : (ext : Extensions) (below : fold.Changes) → AreForward below → (name : Name) (c : Change) → IsForward (fold.answer_change ext below name c)
forward_answer ext below all name c =
    forward_next _ _ (forward_veto ext name c) (λ _.
    forward_next _ _ (forward_queue name c) (λ _.
    forward_next _ _ (forward_at (λ g. fold.act_all below (fold.following g.db name c)) (λ g. forward_act_all below all _)) (λ _. forward_made (fold.key_after c))))

goes_reach : (ext : Extensions) (name : Name) (r : Relation) (c : Change) (g : Going) → GoesOn g.trail (fold.reach_change ext name r c g).trail
goes_reach ext name r c g = record { points = _; more = refl; spent = at_least g.trail.spent (change_cost ext g.db name r c) }
  where
    at_least : (m n : ℕ) → m ≤ m + n
    at_least m n = omega arith

pub forward_reach : (ext : Extensions) (name : Name) (r : Relation) (c : Change) → IsForward (change_to (fold.reach_change ext name r c))
forward_reach ext name r c = forward_change (fold.reach_change ext name r c) (goes_reach ext name r c)

forward_one : (ext : Extensions) (below : fold.Changes) → AreForward below → (name : Name) (wish : wishes.Wish) (r : Option Relation) → IsForward (fold.one_change ext below name wish r)
forward_one ext below all name wish None = forward_no_step
forward_one ext below all name wish (Some r) =
    forward_next _ _ (forward_wished name r wish) (λ c. forward_next _ _ (forward_reach ext name r c) (λ _. forward_answer ext below all name c))

pub forward_within : (ext : Extensions) (levels : ℕ) → AreForward (fold.change_within ext levels)
forward_within ext zero name wish = forward_refuse Depth
forward_within ext (suc levels) name wish =
    forward_at (λ g. fold.one_change ext (fold.change_within ext levels) name wish (relation_at g.db name))
    (λ g. forward_one ext (fold.change_within ext levels) (forward_within ext levels) name wish (relation_at g.db name))

-- ---- before a commit
forward_drain_next : (changes : fold.Changes) → AreForward changes → (rest : Work (Unit {0})) → IsForward rest → (actions : List Action) → IsForward (finishing.drain_next changes rest actions)
forward_drain_next changes all rest forward [] = forward_made tt
forward_drain_next changes all rest forward (a ∷ actions) =
    forward_next _ _ (forward_change (finishing.with_actions actions) (λ g. goes_here g.trail)) (λ _. forward_next _ _ (forward_act changes all a) (λ _. forward))

forward_waiting : (actions : List Action) → IsForward (finishing.unless_waiting actions)
forward_waiting [] = forward_made tt
forward_waiting (a ∷ actions) = forward_refuse DeferLimit

pub forward_drain : (ext : Extensions) (most : ℕ) → IsForward (finishing.drain ext most)
forward_drain ext zero = forward_at (λ g. finishing.unless_waiting g.queue.actions) (λ g. forward_waiting g.queue.actions)
forward_drain ext (suc most) =
    forward_at (λ g. finishing.drain_next (fold.first_change ext) (finishing.drain ext most) g.queue.actions)
    (λ g. forward_drain_next (fold.first_change ext) (forward_within ext 16) (finishing.drain ext most) (forward_drain ext most) g.queue.actions)

forward_failing : (failing : Option (Name × Name)) → IsForward (finishing.unless_failing failing)
forward_failing None = forward_made tt
forward_failing (Some (relation, name)) = forward_refuse (Veto relation name)

-- the rules that wait, over what stands
pub forward_late : (ext : Extensions) → IsForward (λ g. finishing.unless_failing (finishing.first_failing ext g.db g.db) g)
forward_late ext = forward_at (λ g. finishing.unless_failing (finishing.first_failing ext g.db g.db)) (λ g. forward_failing (finishing.first_failing ext g.db g.db))

pub forward_finish : (ext : Extensions) → IsForward (finishing.finish ext)
forward_finish ext = forward_next _ _ (forward_drain ext 1000) (λ _. forward_late ext)
