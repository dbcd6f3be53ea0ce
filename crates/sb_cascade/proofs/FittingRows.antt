-- Changes that wishes make of rows that fit.
use Rattle.std.proofs.Common.{◌≡◌, ◌++◌, Bool, true, false, cond, List, [], ◌∷◌, Option, Some, None, refl, sym, ap, subst, ◌∙◌}
use Rattle.std.specs.Prelude.{All, ◌+ℤ◌, IfSome, not}
use Rattle.std.specs.Str.{bytes_eq}
use Rattle.std.specs.declared.cmp.Ordering.{Ordering}
use Rattle.std.specs.declared.cmp.Ordering.TheVariants.{Less, Equal, Greater}
use Rattle.std.specs.Ordering.{eq_by_cmp}
use Rattle.std.specs.FinMap.Entries as entries
use Rattle.std.proofs.lemmas.Cmp.{nat_list_cmp_total}
use Rattle.std.proofs.lemmas.List.Elements.{All-nil, All-cons, All-head, All-tail, All-filter}
use Rattle.std.proofs.lemmas.Option.{same_Some}
use Rattle.sb_value.specs.declared.schema.Column.{Column}
use Rattle.sb_value.specs.declared.value.Value.{Value}
use Rattle.sb_value.specs.declared.value.Value.TheVariants.{Int, Text}
use Rattle.sb_value.specs.Fits.{Fits}
use Rattle.sb_value.specs.Order.{bytes_cmp}
use Rattle.sb_pred.specs.Columns.{column_value}
use Rattle.sb_rule.specs.declared.change.Change.{Change}
use Rattle.sb_rule.specs.declared.change.Change.TheVariants as change
use Rattle.sb_rule.specs.Bound.{FitsSchema}
use Rattle.sb_relation.specs.Changes.{changed, changed_rows, with_change}
use Rattle.sb_relation.specs.Db.{Name, Key, Row, Rows, Relation, Db, relation_at, row_at, rows_at, schema_at, without_row}
use Rattle.sb_relation.specs.Fits.{relation_of}
use Rattle.sb_relation.specs.Keys.{NewKeys, AnyOf, Just, Taken, NoGreater}
use Rattle.sb_fold.specs.declared.refusal.Refusal.TheVariants.{TooLong, Range}
use Rattle.sb_fold.specs.Fold.{reach_change, wish_for}
use Rattle.sb_fold.specs.Outcome.{Going, Outcome, Gives, Stopped, NoStep, Work, made, refuse, no_step, continue, refuse_if, ◌>>=◌}
use Rattle.sb_fold.specs.Wishes.{Wish, Put, Remove, Replace, Raise, Edit, Adds, Takes, Turns, is_i64, with_value, raised, found, edit_of, is_long_edit, pick, take_key, key_for, change_of, wished, is_match, pairs_of, wish_of}
use Rattle.sb_cascade.specs.Runs.{row_of_relation}
use Rattle.sb_cascade.specs.Fitting.{WishFits, IsFittingWish, AllRowsFit}
use Rattle.sb_cascade.specs.FittingLaws.{OfGiven, WishesThereFit, ChangesFit, RowsStay}
use Rattle.sb_cascade.proofs.FittingColumns.{with_value_fits}
use Rattle.sb_cascade.proofs.Staying.{changed_in, changed_columns}
use Rattle.sb_cascade.proofs.Wishing.{wishes-fit}

-- ---- what work gives
pub of_next : {A B : Type 0} (P : A → Going → Type 0) (Q : B → Going → Type 0) (o : Outcome A) (next : A → Work B) → OfGiven P o → ((x : A) (g : Going) → P x g → OfGiven Q (next x g))
    → OfGiven Q (continue next o)
of_next P Q (Gives x g) next given then = then x g given
of_next P Q (Stopped r trail) next given then = tt
of_next P Q (NoStep trail) next given then = tt

pub of_weaker : {A : Type 0} (P Q : A → Going → Type 0) (o : Outcome A) → OfGiven P o → ((x : A) (g : Going) → P x g → Q x g) → OfGiven Q o
of_weaker P Q (Gives x g) given weaker = weaker x g given
of_weaker P Q (Stopped r trail) given weaker = tt
of_weaker P Q (NoStep trail) given weaker = tt

-- the database and what waits stand as they did
pub record Same (old new : Going) : Type 0 where
  pub db : new.db ≡ old.db
  pub queue : new.queue ≡ old.queue

same_here : (g : Going) → Same g g
same_here g = record { db = refl; queue = refl }

same_then : {a b c : Going} → Same a b → Same b c → Same a c
same_then p q = record { db = q.db ∙ p.db; queue = q.queue ∙ p.queue }

-- ---- rows under their keys
put_all : {X : Type 0} (P : X → Type 0) (k : Key) (v : X) (es : List (Key × X)) → All (λ e. P e.1) es → P v → All (λ e. P e.1) (entries.put bytes_cmp k v es)
put_all P k v [] all new = All-cons (λ e. P e.1) (k, v) [] new (All-nil _)
put_all {X = X} P k v (e ∷ es) all new = of_order (bytes_cmp k e.0) (put_all P k v es (All-tail (λ e. P e.1) e es all) new)
  where
    of_order : (o : Ordering) → All (λ x. P x.1) (entries.put bytes_cmp k v es) → All (λ x. P x.1) (entries.by_order o ((k, v) ∷ e ∷ es) ((e.0, v) ∷ es) (e ∷ entries.put bytes_cmp k v es))
    of_order Less rest = All-cons (λ (x : Key × X). P x.1) (k, v) (e ∷ es) new all
    of_order Equal rest = All-cons (λ (x : Key × X). P x.1) (e.0, v) es new (All-tail (λ x. P x.1) e es all)
    of_order Greater rest = All-cons (λ (x : Key × X). P x.1) e (entries.put bytes_cmp k v es) (All-head (λ x. P x.1) e es all) rest

found_in : {X : Type 0} (P : X → Type 0) (es : List (Key × X)) (k : Key) (v : X) → All (λ e. P e.1) es → entries.find bytes_cmp k es ≡ Some v → P v
found_in P [] k v all e = absurd (cc)
found_in {X = X} P (x ∷ es) k v all e = of_test (eq_by_cmp bytes_cmp k x.0) e (found_in P es k v (All-tail (λ y. P y.1) x es all))
  where
    of_test : (b : Bool) → cond b (Some x.1) (entries.find bytes_cmp k es) ≡ Some v → (entries.find bytes_cmp k es ≡ Some v → P v) → P v
    of_test true is rest = subst P (same_Some x.1 v is) (All-head (λ y. P y.1) x es all)
    of_test false is rest = rest is

abbrev RowsFit : List Column → Rows → Type 0
RowsFit schema rows = All (λ row. Fits schema row.1) rows

rows_after : (schema : List Column) (rows : Rows) (c : Change) → FitsSchema schema c → RowsFit schema rows → RowsFit schema (changed_rows rows c)
rows_after schema rows (change.Insert key new) fits all = put_all (Fits schema) key new rows all fits.after
rows_after schema rows (change.Delete key old) fits all = All-filter (λ row. not (bytes_eq row.0 key)) (λ row. Fits schema row.1) rows all
rows_after schema rows (change.Update from old to new) fits all =
    put_all (Fits schema) to new (without_row rows from) (All-filter (λ row. not (bytes_eq row.0 from)) (λ row. Fits schema row.1) rows all) fits.after

-- ---- the rows of a relation
abbrev RowsIn : Option Relation → Type 0
RowsIn o = RowsFit (elim o [ None ↦ [] | Some r ↦ r.schema ]) (elim o [ None ↦ [] | Some r ↦ r.rows ])

pub schema-there : (db : Db) (name : Name) (r : Relation) → relation_at db name ≡ Some r → schema_at db name ≡ r.schema
schema-there db name r there = ap (λ (o : Option Relation). elim o as (λ _. List Column) [ None ↦ [] | Some q ↦ q.schema ]) there

rows_there : (db : Db) (name : Name) (r : Relation) → relation_at db name ≡ Some r → AllRowsFit db → RowsFit r.schema r.rows
rows_there db name r there rows = subst RowsIn there (rows name)

pub rows-stay : RowsStay
rows-stay db name c rows fits other = of_relation (relation_at db name) refl
  where
    of_relation : (o : Option Relation) → relation_at db name ≡ o → RowsIn (relation_at (changed_in db name c o) other)
    of_relation None there = rows other
    of_relation (Some r) there = subst RowsIn (sym (entries.find-put bytes_cmp nat_list_cmp_total other name after db)) (of_test (eq_by_cmp bytes_cmp other name))
      where
        after : Relation
        after = with_change r c (changed_rows r.rows c)

        of_test : (b : Bool) → RowsIn (cond b (Some after) (relation_at db other))
        of_test true = rows_after r.schema r.rows c (subst (λ (s : List Column). FitsSchema s c) (schema-there db name r there) fits) (rows_there db name r there rows)
        of_test false = rows other

-- ---- what an action wishes of the row of a key
pub wishes-there-fit : WishesThereFit
wishes-there-fit db a key rows fits = of_row (row_at (rows_at db (relation_of a)) key) refl
  where
    schema : List Column
    schema = schema_at db (relation_of a)

    of_match : (row : Row) → Fits schema row → (b : Bool) → IfSome (cond b (wish_of schema a key row) None) (IsFittingWish db (relation_of a))
    of_match row is true = wishes-fit db a key row fits is
    of_match row is false = tt

    of_row : (o : Option Row) → row_at (rows_at db (relation_of a)) key ≡ o → IfSome (wish_for schema a key o) (IsFittingWish db (relation_of a))
    of_row None there = tt
    of_row (Some row) there = of_match row (found_in (Fits schema) (rows_at db (relation_of a)) key row (rows (relation_of a)) there) (is_match schema (pairs_of a) row)

-- ---- the change of a wish
abbrev EditFits : List Column → Edit → Type 0
EditFits schema (Adds row) = Fits schema row
EditFits schema (Takes key old) = Fits schema old
EditFits schema (Turns key old new) = Fits schema old × Fits schema new

edit_fits : (name : Name) (r : Relation) (wish : Wish) (g : Going) → RowsFit r.schema r.rows → WishFits r.schema wish → OfGiven (λ e new. EditFits r.schema e × Same g new) (edit_of name r wish g)
edit_fits name r (Put row) g rows fits = (fits, same_here g)
edit_fits name r (Remove key) g rows fits = of_found (row_at r.rows key) refl
  where
    of_found : (o : Option Row) → row_at r.rows key ≡ o → OfGiven (λ e new. EditFits r.schema e × Same g new) (continue (λ old. made (Takes key old)) (found name o g))
    of_found None there = tt
    of_found (Some old) there = (found_in (Fits r.schema) r.rows key old rows there, same_here g)
edit_fits name r (Replace key row) g rows fits = of_found (row_at r.rows key) refl
  where
    of_found : (o : Option Row) → row_at r.rows key ≡ o → OfGiven (λ e new. EditFits r.schema e × Same g new) (continue (λ old. made (Turns key old row)) (found name o g))
    of_found None there = tt
    of_found (Some old) there = ((found_in (Fits r.schema) r.rows key old rows there, fits), same_here g)
edit_fits name r (Raise key column by) g rows fits = of_found (row_at r.rows key) refl
  where
    of_sum : (old new : Row) → Fits r.schema old → Fits r.schema new → (b : Bool)
        → OfGiven (λ e left. EditFits r.schema e × Same g left) (continue (λ row. made (Turns key old row)) (cond b (made new) (refuse {A = Row} (Range name)) g))
    of_sum old new is will true = ((is, will), same_here g)
    of_sum old new is will false = tt

    of_value : (old : Row) → Fits r.schema old → (v : Option Value)
        → OfGiven (λ e left. EditFits r.schema e × Same g left) (continue (λ row. made (Turns key old row)) (raised name r.schema column by old v g))
    of_value old is None = ((is, is), same_here g)
    of_value old is (Some (Text s)) = ((is, is), same_here g)
    of_value old is (Some (Int n)) = of_sum old (with_value r.schema column (Int (n +ℤ by)) old) is (with_value_fits r.schema column (Int (n +ℤ by)) old fits is) (is_i64 (n +ℤ by))

    of_found : (o : Option Row) → row_at r.rows key ≡ o
        → OfGiven (λ e left. EditFits r.schema e × Same g left) (continue (λ old. (raised name r.schema column by old (column_value r.schema (Some old) column) >>= λ row. made (Turns key old row))) (found name o g))
    of_found None there = tt
    of_found (Some old) there = of_value old (found_in (Fits r.schema) r.rows key old rows there) (column_value r.schema (Some old) column)

same_pick : (may : Key → Bool) (picks : List Key) (g : Going) → OfGiven (λ key new. Same g new) (pick may picks g)
same_pick may [] g = tt
same_pick may (key ∷ picks) g = of_test (may key)
  where
    of_test : (b : Bool) → OfGiven (λ k new. Same g new) (cond b (made key (record g { picks = picks; used = g.used ++ key ∷ [] })) (no_step {A = Key} g))
    of_test true = record { db = refl; queue = refl }
    of_test false = tt

same_take : (name : Name) (keys : NewKeys) (g : Going) → OfGiven (λ key new. Same g new) (take_key name keys g)
same_take name (AnyOf may) g = same_pick may g.picks g
same_take name (Just key) g = same_here g
same_take name Taken g = tt
same_take name NoGreater g = tt

change_fits : (name : Name) (r : Relation) (edit : Edit) (g : Going) → EditFits r.schema edit → OfGiven (λ c new. FitsSchema r.schema c × Same g new) (change_of name r edit g)
change_fits name r (Adds row) g fits =
    of_next (λ key new. Same g new) (λ c new. FitsSchema r.schema c × Same g new) (key_for name r None row g) (λ key. made (change.Insert key row)) (same_take name _ g)
    (λ key new same. (record { before = tt; after = fits }, same))
change_fits name r (Takes key old) g fits = (record { before = fits; after = tt }, same_here g)
change_fits name r (Turns key old new) g fits =
    of_next (λ to left. Same g left) (λ c left. FitsSchema r.schema c × Same g left) (key_for name r (Some key) new g) (λ to. made (change.Update key old to new)) (same_take name _ g)
    (λ to left same. (record { before = fits.0; after = fits.1 }, same))

pub wished_fits : (name : Name) (r : Relation) (wish : Wish) (g : Going) → RowsFit r.schema r.rows → WishFits r.schema wish → OfGiven (λ c new. FitsSchema r.schema c × Same g new) (wished name r wish g)
wished_fits name r wish g rows fits =
    of_next (λ e new. EditFits r.schema e × Same g new) (λ c new. FitsSchema r.schema c × Same g new) (edit_of name r wish g)
    (λ edit. (refuse_if (is_long_edit r edit) (TooLong name) >>= λ _. change_of name r edit)) (edit_fits name r wish g rows fits) (λ edit mid is. of_long edit mid is.0 is.1 (is_long_edit r edit))
  where
    of_long : (edit : Edit) (mid : Going) → EditFits r.schema edit → Same g mid → (b : Bool)
        → OfGiven (λ c new. FitsSchema r.schema c × Same g new) (continue (λ _. change_of name r edit) (refuse_if b (TooLong name) mid))
    of_long edit mid is same true = tt
    of_long edit mid is same false =
        of_weaker (λ c new. FitsSchema r.schema c × Same mid new) (λ c new. FitsSchema r.schema c × Same g new) (change_of name r edit mid) (change_fits name r edit mid is)
        (λ c new made_it. (made_it.0, same_then same made_it.1))

-- a change that was wished, over the database that stood and over the changed one
pub fits_here : (g mid : Going) (name : Name) (r : Relation) (c : Change) → relation_at g.db name ≡ Some r → FitsSchema r.schema c → Same g mid → FitsSchema (schema_at mid.db name) c
fits_here g mid name r c there fits same =
    subst (λ (s : List Column). FitsSchema s c) (sym (ap (λ (d : Db). schema_at d name) same.db ∙ schema-there g.db name r there)) fits

pub fits_after : (db : Db) (name : Name) (c : Change) → FitsSchema (schema_at db name) c → FitsSchema (schema_at (changed db name c) name) c
fits_after db name c fits = subst (λ (s : List Column). FitsSchema s c) ((changed_columns db name c).schema name) fits

pub wished_there : (name : Name) (r : Relation) (wish : Wish) (g : Going) → relation_at g.db name ≡ Some r → AllRowsFit g.db → IsFittingWish g.db name wish
    → OfGiven (λ c new. FitsSchema r.schema c × Same g new) (wished name r wish g)
wished_there name r wish g there rows fits =
    wished_fits name r wish g (rows_there g.db name r there rows) (subst (λ (s : List Column). WishFits s wish) (schema-there g.db name r there) fits.fits)

pub changes-fit : ChangesFit
changes-fit ext name wish g rows fits = of_relation (relation_at g.db name) refl
  where
    of_relation : (o : Option Relation) → relation_at g.db name ≡ o → OfGiven (λ c new. FitsSchema (schema_at new.db name) c × AllRowsFit new.db) (row_of_relation ext name wish o g)
    of_relation None there = tt
    of_relation (Some r) there =
        of_next (λ c mid. FitsSchema r.schema c × Same g mid) (λ c new. FitsSchema (schema_at new.db name) c × AllRowsFit new.db) (wished name r wish g)
        (λ c mid. made c (reach_change ext name r c mid)) (wished_there name r wish g there rows fits)
        (λ c mid is.
        let here : FitsSchema (schema_at mid.db name) c = fits_here g mid name r c there is.0 is.1 in
        (fits_after mid.db name c here, rows-stay mid.db name c (subst AllRowsFit (sym is.1.db) rows) here))
