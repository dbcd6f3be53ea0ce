-- Which record keys a change takes of the picks.
use Rattle.std.proofs.Common.{◌≡◌, Bool, true, false, cond, List, [], ◌∷◌, ◌++◌, Option, Some, None, refl, sym, ap, ◌∙◌, subst, append-nil}
use Rattle.std.specs.Prelude.{ℤ, ◌+ℤ◌}
use Rattle.sb_value.specs.declared.value.Value.{Value}
use Rattle.sb_value.specs.declared.value.Value.TheVariants.{Int, Text}
use Rattle.sb_value.specs.declared.schema.Column.{Column}
use Rattle.sb_pred.specs.Columns.{column_value}
use Rattle.sb_rule.specs.declared.change.Change.{Change}
use Rattle.sb_rule.specs.declared.change.Change.TheVariants as change
use Rattle.sb_relation.specs.Db.{Name, Key, Row, Relation, row_at, key_of}
use Rattle.sb_relation.specs.Keys.{Keying, Picked, Coded, Counted, NewKeys, AnyOf, Just, Taken, NoGreater, keying_of, new_keys}
use Rattle.sb_fold.specs.declared.refusal.Refusal.{Refusal}
use Rattle.sb_fold.specs.declared.refusal.Refusal.TheVariants.{Range, TooLong}
use Rattle.sb_fold.specs.Outcome.{Going, Outcome, Gives, Stopped, NoStep, Work, made, refuse, no_step, continue, refuse_if, ◌>>=◌, with_picks, Leads}
use Rattle.sb_fold.specs.Wishes.{Wish, Put, Remove, Replace, Raise, Edit, Adds, Takes, Turns, found, raised, edit_of, is_i64, is_long_edit, change_of, pick, take_key, key_for, wished, with_value}
use Rattle.sb_cascade.specs.Runs.{is_free}
use Rattle.sb_engine.specs.Picks.{picked_by, picks_of}

-- what is so of what work gives
abbrev IfGives : {A : Type 0} → (A → Going → Type 0) → Outcome A → Type 0
IfGives P (Gives x g) = P x g
IfGives P (Stopped r trail) = Unit {0}
IfGives P (NoStep trail) = Unit {0}

gives_next : {A B : Type 0} (P : A → Going → Type 0) (Q : B → Going → Type 0) (o : Outcome A) (next : A → Work B) → IfGives P o
    → ((x : A) (g : Going) → P x g → IfGives Q (next x g)) → IfGives Q (continue next o)
gives_next P Q (Gives x g) next is step = step x g is
gives_next P Q (Stopped r trail) next is step = tt
gives_next P Q (NoStep trail) next is step = tt

-- ---- edits leave all that stands
abbrev Same : {A : Type 0} → Going → A → Going → Type 0
Same g x new = new ≡ g

row_same : (name : Name) (o : Option Row) (g : Going) → IfGives (Same g) (found name o g)
row_same name None g = tt
row_same name (Some row) g = refl

raised_same : (name : Name) (schema : List Column) (column : Name) (by : ℤ) (row : Row) (o : Option Value) (g : Going) → IfGives (Same g) (raised name schema column by row o g)
raised_same name schema column by row (Some (Int n)) g = of_test (is_i64 (n +ℤ by))
  where
    of_test : (b : Bool) → IfGives (Same g) (cond b (made (with_value schema column (Int (n +ℤ by)) row)) (refuse {A = Row} (Range name)) g)
    of_test true = refl
    of_test false = tt
raised_same name schema column by row (Some (Text s)) g = refl
raised_same name schema column by row None g = refl

then_same : {A B : Type 0} (g : Going) (o : Outcome A) (next : A → Work B) → IfGives (Same g) o → ((x : A) → IfGives (Same g) (next x g)) → IfGives (Same g) (continue next o)
then_same g o next is step = gives_next (Same g) (Same g) o next is (λ x new same. subst (λ (h : Going). IfGives (Same g) (next x h)) (sym same) (step x))

edit_same : (name : Name) (r : Relation) (wish : Wish) (g : Going) → IfGives (Same g) (edit_of name r wish g)
edit_same name r (Put row) g = refl
edit_same name r (Remove key) g = then_same g (found name (row_at r.rows key) g) _ (row_same name (row_at r.rows key) g) (λ old. refl)
edit_same name r (Replace key new) g = then_same g (found name (row_at r.rows key) g) _ (row_same name (row_at r.rows key) g) (λ old. refl)
edit_same name r (Raise key column by) g =
    then_same g (found name (row_at r.rows key) g) _ (row_same name (row_at r.rows key) g)
    (λ old. then_same g (raised name r.schema column by old (column_value r.schema (Some old) column) g) _ (raised_same name r.schema column by old (column_value r.schema (Some old) column) g) (λ new. refl))

-- ---- a record key is picked, or it isn't
-- the key that a row got is noted as picked where the method picks
abbrev Takes_of : Going → List Key → Going → Type 0
Takes_of g keys new = new.used ≡ g.used ++ keys

none_taken : (g : Going) → Takes_of g [] g
none_taken g = sym (append-nil g.used)

abbrev picked_key : Keying → Key → List Key
picked_key Picked key = key ∷ []
picked_key Coded key = []
picked_key Counted key = []

pick_takes : (may : Key → Bool) (picks : List Key) (g : Going) → IfGives (λ key new. Takes_of g (key ∷ []) new) (pick may picks g)
pick_takes may [] g = tt
pick_takes may (key ∷ picks) g = of_test (may key)
  where
    of_test : (b : Bool) → IfGives (λ k new. Takes_of g (k ∷ []) new) (cond b (made key (record g { picks = picks; used = g.used ++ key ∷ [] })) (no_step g))
    of_test true = refl
    of_test false = tt

just_takes : (name : Name) (b : Bool) (key : Key) (g : Going) → IfGives (λ k new. Takes_of g [] new) (take_key name (cond b (Just key) Taken) g)
just_takes name true key g = none_taken g
just_takes name false key g = tt

count_takes : (name : Name) (b : Bool) (key : Key) (g : Going) → IfGives (λ k new. Takes_of g [] new) (take_key name (cond b (Just key) NoGreater) g)
count_takes name true key g = none_taken g
count_takes name false key g = tt

key_takes : (name : Name) (k : Keying) (rows : _) (own : Option Key) (code : Key) (g : Going) → IfGives (λ key new. Takes_of g (picked_key k key) new) (take_key name (new_keys k rows own code) g)
key_takes name Picked rows own code g = pick_takes _ g.picks g
key_takes name Coded rows own code g = just_takes name _ code g
key_takes name Counted rows (Some own) code g = none_taken g
key_takes name Counted rows None code g = count_takes name _ _ g

insert_key : (k : Keying) (key : Key) (row : Row) → picked_key k key ≡ picked_by k (change.Insert key row)
insert_key Picked key row = refl
insert_key Coded key row = refl
insert_key Counted key row = refl

update_key : (k : Keying) (key to : Key) (old new : Row) → picked_key k to ≡ picked_by k (change.Update key old to new)
update_key Picked key to old new = refl
update_key Coded key to old new = refl
update_key Counted key to old new = refl

delete_key : (k : Keying) (key : Key) (old : Row) → [] ≡ picked_by k (change.Delete key old)
delete_key Picked key old = refl
delete_key Coded key old = refl
delete_key Counted key old = refl

change_takes : (name : Name) (r : Relation) (edit : Edit) (g : Going) → IfGives (λ c new. Takes_of g (picks_of r.method c) new) (change_of name r edit g)
change_takes name r (Adds row) g =
    gives_next (λ key new. Takes_of g (picked_key (keying_of r.method) key) new) (λ c new. Takes_of g (picks_of r.method c) new) (key_for name r None row g) (λ key. made (change.Insert key row))
    (key_takes name (keying_of r.method) r.rows None (key_of r row) g)
    (λ key new is. is ∙ ap (λ (keys : List Key). g.used ++ keys) (insert_key (keying_of r.method) key row))
change_takes name r (Takes key old) g = none_taken g ∙ ap (λ (keys : List Key). g.used ++ keys) (delete_key (keying_of r.method) key old)
change_takes name r (Turns key old row) g =
    gives_next (λ to new. Takes_of g (picked_key (keying_of r.method) to) new) (λ c new. Takes_of g (picks_of r.method c) new) (key_for name r (Some key) row g) (λ to. made (change.Update key old to row))
    (key_takes name (keying_of r.method) r.rows (Some key) (key_of r row) g)
    (λ to new is. is ∙ ap (λ (keys : List Key). g.used ++ keys) (update_key (keying_of r.method) key to old row))

-- ---- what a wish takes
short_same : (b : Bool) (name : Name) (g : Going) → IfGives (Same g) (refuse_if b (TooLong name) g)
short_same true name g = tt
short_same false name g = refl

wished_takes : (name : Name) (r : Relation) (wish : Wish) (g : Going) → IfGives (λ c new. Takes_of g (picks_of r.method c) new) (wished name r wish g)
wished_takes name r wish g =
    gives_next (Same g) (λ c new. Takes_of g (picks_of r.method c) new) (edit_of name r wish g) (λ edit. refuse_if (is_long_edit r edit) (TooLong name) >>= λ _. change_of name r edit)
    (edit_same name r wish g)
    (λ edit mid same. subst (λ (h : Going). IfGives (λ c new. Takes_of g (picks_of r.method c) new) ((refuse_if (is_long_edit r edit) (TooLong name) >>= λ _. change_of name r edit) h)) (sym same)
    (gives_next (Same g) (λ c new. Takes_of g (picks_of r.method c) new) (refuse_if (is_long_edit r edit) (TooLong name) g) (λ _. change_of name r edit)
    (short_same (is_long_edit r edit) name g)
    (λ _ after still. subst (λ (h : Going). IfGives (λ c new. Takes_of g (picks_of r.method c) new) (change_of name r edit h)) (sym still) (change_takes name r edit g))))

-- so these are the picks of a run
pub leads-picks : (name : Name) (r : Relation) (wish : Wish) (g : Going) (picks : List Key) (c : Change)
    → Leads (wished name r wish) g picks (made c) (record g { used = g.used ++ picks }) → g.used ++ picks ≡ g.used ++ picks_of r.method c
leads-picks name r wish g picks c run =
    subst (IfGives (λ d new. Takes_of g (picks_of r.method d) new)) (run.leads []) (wished_takes name r wish (with_picks g (picks ++ [])))

-- ---- what refuses a wish
-- so it is of what refuses work
abbrev IfStops : {A : Type 0} → Outcome A → Type 0
IfStops (Gives x g) = Unit {0}
IfStops (Stopped r trail) = is_free r ≡ false
IfStops (NoStep trail) = Unit {0}

stops_next : {A B : Type 0} (o : Outcome A) (next : A → Work B) → IfStops o → ((x : A) (g : Going) → IfStops (next x g)) → IfStops (continue next o)
stops_next (Gives x g) next is step = step x g
stops_next (Stopped r trail) next is step = is
stops_next (NoStep trail) next is step = tt

found_stops : (name : Name) (o : Option Row) (g : Going) → IfStops (found name o g)
found_stops name None g = refl
found_stops name (Some row) g = tt

raised_stops : (name : Name) (schema : List Column) (column : Name) (by : ℤ) (row : Row) (o : Option Value) (g : Going) → IfStops (raised name schema column by row o g)
raised_stops name schema column by row (Some (Int n)) g = of_test (is_i64 (n +ℤ by))
  where
    of_test : (b : Bool) → IfStops (cond b (made (with_value schema column (Int (n +ℤ by)) row)) (refuse {A = Row} (Range name)) g)
    of_test true = tt
    of_test false = refl
raised_stops name schema column by row (Some (Text s)) g = tt
raised_stops name schema column by row None g = tt

edit_stops : (name : Name) (r : Relation) (wish : Wish) (g : Going) → IfStops (edit_of name r wish g)
edit_stops name r (Put row) g = tt
edit_stops name r (Remove key) g = stops_next (found name (row_at r.rows key) g) _ (found_stops name (row_at r.rows key) g) (λ old new. tt)
edit_stops name r (Replace key row) g = stops_next (found name (row_at r.rows key) g) _ (found_stops name (row_at r.rows key) g) (λ old new. tt)
edit_stops name r (Raise key column by) g =
    stops_next (found name (row_at r.rows key) g) _ (found_stops name (row_at r.rows key) g)
    (λ old mid. stops_next (raised name r.schema column by old (column_value r.schema (Some old) column) mid) _ (raised_stops name r.schema column by old (column_value r.schema (Some old) column) mid) (λ new h. tt))

pick_stops : (may : Key → Bool) (picks : List Key) (g : Going) → IfStops (pick may picks g)
pick_stops may [] g = tt
pick_stops may (key ∷ picks) g = of_test (may key)
  where
    of_test : (b : Bool) → IfStops (cond b (made key (record g { picks = picks; used = g.used ++ key ∷ [] })) (no_step g))
    of_test true = tt
    of_test false = tt

take_stops : (name : Name) (keys : NewKeys) (g : Going) → IfStops (take_key name keys g)
take_stops name (AnyOf may) g = pick_stops may g.picks g
take_stops name (Just key) g = tt
take_stops name Taken g = refl
take_stops name NoGreater g = refl

change_stops : (name : Name) (r : Relation) (edit : Edit) (g : Going) → IfStops (change_of name r edit g)
change_stops name r (Adds row) g = stops_next (key_for name r None row g) _ (take_stops name (new_keys (keying_of r.method) r.rows None (key_of r row)) g) (λ key h. tt)
change_stops name r (Takes key old) g = tt
change_stops name r (Turns key old row) g = stops_next (key_for name r (Some key) row g) _ (take_stops name (new_keys (keying_of r.method) r.rows (Some key) (key_of r row)) g) (λ key h. tt)

short_stops : (b : Bool) (name : Name) (g : Going) → IfStops (refuse_if b (TooLong name) g)
short_stops true name g = refl
short_stops false name g = tt

wished_stops : (name : Name) (r : Relation) (wish : Wish) (g : Going) → IfStops (wished name r wish g)
wished_stops name r wish g =
    stops_next (edit_of name r wish g) (λ edit. refuse_if (is_long_edit r edit) (TooLong name) >>= λ _. change_of name r edit) (edit_stops name r wish g)
    (λ edit mid. stops_next (refuse_if (is_long_edit r edit) (TooLong name) mid) (λ _. change_of name r edit) (short_stops (is_long_edit r edit) name mid) (λ _ h. change_stops name r edit h))

-- it is none of the free ones
pub leads-quiet : (name : Name) (r : Relation) (wish : Wish) (g : Going) (picks : List Key) (e : Refusal) (new : Going) → Leads (wished name r wish) g picks (refuse e) new → is_free e ≡ false
leads-quiet name r wish g picks e new run = subst IfStops (run.leads []) (wished_stops name r wish (with_picks g (picks ++ [])))
