-- What each change of a row keeps, all work on rows keeps: whatever follows, what waits, and whether rows fit or not.
use Rattle.std.proofs.Common.{ℕ, zero, suc, ◌+◌, Bool, true, false, List, [], ◌∷◌, ◌++◌, Option, Some, None}
use Rattle.std.specs.Prelude.{cond, ℤ, ◌+ℤ◌}
use Rattle.std.specs.List.{flat_map}
use Rattle.sb_value.specs.declared.schema.Column.{Column}
use Rattle.sb_value.specs.declared.value.Value.{Value}
use Rattle.sb_value.specs.declared.value.Value.TheVariants.{Int, Text}
use Rattle.sb_pred.specs.Columns.{column_value}
use Rattle.sb_rule.specs.declared.action.Action.{Action}
use Rattle.sb_rule.specs.declared.action.Action.TheVariants as action
use Rattle.sb_rule.specs.declared.change.Change.{Change}
use Rattle.sb_rule.specs.declared.change.Change.TheVariants as change
use Rattle.sb_relation.specs.Changes.{changed}
use Rattle.sb_relation.specs.Db.{Name, Key, Row, Relation, Db, relation_at, rows_at, schema_at, row_at, key_of}
use Rattle.sb_relation.specs.Fits.{relation_of}
use Rattle.sb_relation.specs.Keys.{NewKeys, AnyOf, Just, Taken, NoGreater, keying_of, new_keys}
use Rattle.sb_fold.specs.declared.refusal.Refusal.{Refusal}
use Rattle.sb_fold.specs.declared.refusal.Refusal.TheVariants.{TooLong, Range}
use Rattle.sb_fold.specs.Extensions.{Extensions}
use Rattle.sb_fold.specs.Finish.{with_actions, drain_next, unless_waiting, drain, first_failing, unless_failing, finish}
use Rattle.sb_fold.specs.Fold as fold
use Rattle.sb_fold.specs.Outcome.{Going, Outcome, Gives, Stopped, NoStep, Work, made, refuse, no_step, continue, refuse_if, change_to, ◌>>=◌}
use Rattle.sb_fold.specs.Wishes.{Wish, Put, Remove, Replace, Raise, Edit, Adds, Takes, Turns, is_i64, with_value, raised, found, edit_of, is_long_edit, pick, take_key, key_for, change_of, wished, const_of}

-- ---- work that keeps what holds of the database
-- what work gives has it
abbrev pub Ends : {A : Type 0} → (Db → Type 0) → Outcome A → Type 0
Ends P (Gives x g) = P g.db
Ends P (Stopped r trail) = Unit {0}
Ends P (NoStep trail) = Unit {0}

abbrev pub Keeps : {A : Type 0} → (Db → Type 0) → Work A → Type 0
Keeps P work = (g : Going) → P g.db → Ends P (work g)

next_ends : {A B : Type 0} (P : Db → Type 0) (o : Outcome A) (next : A → Work B) → Ends P o → ((x : A) → Keeps P (next x)) → Ends P (continue next o)
next_ends P (Gives x g) next ends keeps = keeps x g ends
next_ends P (Stopped r trail) next ends keeps = tt
next_ends P (NoStep trail) next ends keeps = tt

pub then_keeps : {A B : Type 0} (P : Db → Type 0) (work : Work A) (next : A → Work B) → Keeps P work → ((x : A) → Keeps P (next x)) → Keeps P (work >>= next)
then_keeps P work next first keeps g p = next_ends P (work g) next (first g p) keeps

module _ (P : Db → Type 0) where
  -- ---- the change of a wish
  pick_keeps : (may : Key → Bool) (picks : List Key) → Keeps P (pick may picks)
  pick_keeps may [] g p = tt
  pick_keeps may (key ∷ picks) g p = of_test (may key)
    where
      of_test : (b : Bool) → Ends P (cond b (made key (record g { picks = picks; used = g.used ++ key ∷ [] })) (no_step {A = Key} g))
      of_test true = p
      of_test false = tt

  take_keeps : (name : Name) (keys : NewKeys) → Keeps P (take_key name keys)
  take_keeps name (AnyOf may) g p = pick_keeps may g.picks g p
  take_keeps name (Just key) g p = p
  take_keeps name Taken g p = tt
  take_keeps name NoGreater g p = tt

  found_keeps : (name : Name) (o : Option Row) → Keeps P (found name o)
  found_keeps name None g p = tt
  found_keeps name (Some row) g p = p

  raised_keeps : (name : Name) (schema : List Column) (column : Name) (more : ℤ) (row : Row) (o : Option Value) → Keeps P (raised name schema column more row o)
  raised_keeps name schema column more row None g p = p
  raised_keeps name schema column more row (Some (Text s)) g p = p
  raised_keeps name schema column more row (Some (Int n)) g p = of_test (is_i64 (n +ℤ more))
    where
      of_test : (b : Bool) → Ends P (cond b (made (with_value schema column (Int (n +ℤ more)) row)) (refuse {A = Row} (Range name)) g)
      of_test true = p
      of_test false = tt

  edit_keeps : (name : Name) (r : Relation) (wish : Wish) → Keeps P (edit_of name r wish)
  edit_keeps name r (Put row) = λ g p. p
  edit_keeps name r (Remove key) = then_keeps P (found name (row_at r.rows key)) (λ old. made (Takes key old)) (found_keeps name (row_at r.rows key)) (λ old g p. p)
  edit_keeps name r (Replace key new) = then_keeps P (found name (row_at r.rows key)) (λ old. made (Turns key old new)) (found_keeps name (row_at r.rows key)) (λ old g p. p)
  edit_keeps name r (Raise key column more) =
      then_keeps P (found name (row_at r.rows key)) (λ old. (raised name r.schema column more old (column_value r.schema (Some old) column) >>= λ new. made (Turns key old new)))
      (found_keeps name (row_at r.rows key))
      (λ old.
      then_keeps P (raised name r.schema column more old (column_value r.schema (Some old) column)) (λ new. made (Turns key old new))
      (raised_keeps name r.schema column more old (column_value r.schema (Some old) column)) (λ new g p. p))

  long_keeps : (b : Bool) (r : Refusal) → Keeps P (refuse_if b r)
  long_keeps true r g p = tt
  long_keeps false r g p = p

  change_keeps : (name : Name) (r : Relation) (edit : Edit) → Keeps P (change_of name r edit)
  change_keeps name r (Adds row) =
      then_keeps P (key_for name r None row) (λ key. made (change.Insert key row)) (take_keeps name (new_keys (keying_of r.method) r.rows None (key_of r row))) (λ key g p. p)
  change_keeps name r (Takes key old) = λ g p. p
  change_keeps name r (Turns key old new) =
      then_keeps P (key_for name r (Some key) new) (λ to. made (change.Update key old to new)) (take_keeps name (new_keys (keying_of r.method) r.rows (Some key) (key_of r new))) (λ to g p. p)

  wished_keeps : (name : Name) (r : Relation) (wish : Wish) → Keeps P (wished name r wish)
  wished_keeps name r wish =
      then_keeps P (edit_of name r wish) (λ edit. (refuse_if (is_long_edit r edit) (TooLong name) >>= λ _. change_of name r edit)) (edit_keeps name r wish)
      (λ edit. then_keeps P (refuse_if (is_long_edit r edit) (TooLong name)) (λ _. change_of name r edit) (long_keeps (is_long_edit r edit) (TooLong name)) (λ _. change_keeps name r edit))

  -- ---- actions, whose changes keep it
  abbrev pub EachKeeps : fold.Changes → Type 0
  EachKeeps changes = (name : Name) (wish : Wish) → Keeps P (changes name wish)

  module _ (changes : fold.Changes) (each : EachKeeps changes) where
    if_keeps : (name : Name) (wish : Option Wish) → Keeps P (fold.change_if changes name wish)
    if_keeps name None = λ g p. p
    if_keeps name (Some wish) = then_keeps P (changes name wish) (λ _. made 1) (each name wish) (λ _ g p. p)

    rows_keep : (a : Action) (keys : List Key) → Keeps P (fold.change_each changes a keys)
    rows_keep a [] g p = p
    rows_keep a (key ∷ keys) g p =
        let wish : Option Wish = fold.wish_for (schema_at g.db (relation_of a)) a key (row_at (rows_at g.db (relation_of a)) key) in
        next_ends P (fold.change_if changes (relation_of a) wish g) (λ one. (fold.change_each changes a keys >>= λ others. made (one + others))) (if_keeps (relation_of a) wish g p)
        (λ one. then_keeps P (fold.change_each changes a keys) (λ others. made (one + others)) (rows_keep a keys) (λ others h q. q))

    pub act_keeps : (a : Action) → Keeps P (fold.act changes a)
    act_keeps (action.Insert relation terms) = then_keeps P (changes relation (Put (flat_map const_of terms))) (λ _. made 1) (each relation (Put (flat_map const_of terms))) (λ _ g p. p)
    act_keeps (action.Delete relation pairs) = λ g. rows_keep (action.Delete relation pairs) (fold.matching g.db (action.Delete relation pairs)) g
    act_keeps (action.Set relation column term pairs) = λ g. rows_keep (action.Set relation column term pairs) (fold.matching g.db (action.Set relation column term pairs)) g
    act_keeps (action.Add relation column term pairs) = λ g. rows_keep (action.Add relation column term pairs) (fold.matching g.db (action.Add relation column term pairs)) g

    all_keep : (actions : List Action) → Keeps P (fold.act_all changes actions)
    all_keep [] = λ g p. p
    all_keep (a ∷ actions) = then_keeps P (fold.act changes a) (λ _. fold.act_all changes actions) (act_keeps a) (λ _. all_keep actions)

    veto_keeps : (name : Name) (veto : Option Name) → Keeps P (fold.unless_vetoed name veto)
    veto_keeps name None g p = p
    veto_keeps name (Some attachment) g p = tt

    answer_keeps : (ext : Extensions) (name : Name) (c : Change) → Keeps P (fold.answer_change ext changes name c)
    answer_keeps ext name c g p =
        next_ends P (fold.unless_vetoed name (fold.vetoing ext g.db name c (fold.attachments_at g.db name)) g)
        (λ _. (change_to (fold.queue_late name c) >>= λ _. ((λ going. fold.act_all changes (fold.following going.db name c) going) >>= λ _. made (fold.key_after c))))
        (veto_keeps name (fold.vetoing ext g.db name c (fold.attachments_at g.db name)) g p)
        (λ _ h q.
        next_ends P (fold.act_all changes (fold.following h.db name c) (fold.queue_late name c h)) (λ _. made (fold.key_after c))
        (all_keep (fold.following h.db name c) (fold.queue_late name c h) q) (λ _ i z. z))

  -- ---- one change, and all that follows from it
  module _ (changes_keep : (db : Db) (name : Name) (c : Change) → P db → P (changed db name c)) where
    one_keeps : (ext : Extensions) (below : fold.Changes) → EachKeeps below → (name : Name) (wish : Wish) (o : Option Relation) → Keeps P (fold.one_change ext below name wish o)
    one_keeps ext below each name wish None = λ g p. tt
    one_keeps ext below each name wish (Some r) =
        then_keeps P (wished name r wish) (λ c. (change_to (fold.reach_change ext name r c) >>= λ _. fold.answer_change ext below name c)) (wished_keeps name r wish)
        (λ c h q. answer_keeps below each ext name c (fold.reach_change ext name r c h) (changes_keep h.db name c q))

    within_keeps : (ext : Extensions) (levels : ℕ) → EachKeeps (fold.change_within ext levels)
    within_keeps ext zero name wish g p = tt
    within_keeps ext (suc levels) name wish g p = one_keeps ext (fold.change_within ext levels) (within_keeps ext levels) name wish (relation_at g.db name) g p

    pub first_keeps : (ext : Extensions) → EachKeeps (fold.first_change ext)
    first_keeps ext = within_keeps ext 16

    -- ---- before a commit
    next_keeps : (ext : Extensions) (rest : Work (Unit {0})) → Keeps P rest → (actions : List Action) → Keeps P (drain_next (fold.first_change ext) rest actions)
    next_keeps ext rest keeps [] g p = p
    next_keeps ext rest keeps (a ∷ actions) g p =
        next_ends P (fold.act (fold.first_change ext) a (with_actions actions g)) (λ _. rest) (act_keeps (fold.first_change ext) (first_keeps ext) a (with_actions actions g) p) (λ _. keeps)

    few_keep : (actions : List Action) → Keeps P (unless_waiting actions)
    few_keep [] g p = p
    few_keep (a ∷ actions) g p = tt

    drain_keeps : (ext : Extensions) (most : ℕ) → Keeps P (drain ext most)
    drain_keeps ext zero g p = few_keep g.queue.actions g p
    drain_keeps ext (suc most) g p = next_keeps ext (drain ext most) (drain_keeps ext most) g.queue.actions g p

    failing_keeps : (failing : Option (Name × Name)) → Keeps P (unless_failing failing)
    failing_keeps None g p = p
    failing_keeps (Some (relation, name)) g p = tt

    pub finish_keeps : (ext : Extensions) → Keeps P (finish ext)
    finish_keeps ext =
        then_keeps P (drain ext 1000) (λ _ going. unless_failing (first_failing ext going.db going.db) going) (drain_keeps ext 1000)
        (λ _ h q. failing_keeps (first_failing ext h.db h.db) h q)
