-- The columns of a schema by their names, and that a predicate asks for no more of a row than what it has under them.
use Rattle.std.proofs.Common.{zero, suc, ◌≡◌, ℕ, ◌+◌, ◌<◌, ◌≤◌, Bool, true, false, cond, not, ◌&&◌, ◌||◌, List, [], ◌∷◌, ◌++◌, length, take, get_or, All, Option, Some, None, is_some, is_none, option_map, option_and_then, refl, ap, sym, ◌∙◌, subst, add-one}
use Rattle.std.specs.List.{position_from, filter_map, cons_option, slice_get, IsDistinct, AllByRecursion}
use Rattle.std.specs.Str.{bytes_eq}
use Rattle.std.proofs.lemmas.Iterator.Adapters.{position_from-zero}
use Rattle.std.proofs.lemmas.List.Elements.{All-nil, All-head, All-tail, All-more, All-weaker, All-same}
use Rattle.std.proofs.lemmas.List.{take_all}
use Rattle.std.proofs.lemmas.Option.{slice_get_read}
use Rattle.sb_value.specs.declared.value.Value.{Value}
use Rattle.sb_value.specs.declared.schema.Kind.{Kind}
use Rattle.sb_value.specs.declared.schema.Column.{Column}
use Rattle.sb_value.specs.Equal.{bytes_same}
use Rattle.sb_value.specs.Fits.{Fits, first_misfit, is_of_kind}
use Rattle.sb_pred.specs.declared.predicate.Term.{Term}
use Rattle.sb_pred.specs.declared.predicate.Term.TheVariants.{Const, New, Old}
use Rattle.sb_pred.specs.Columns.{place_of, column_kind, column_value}
use Rattle.sb_pred.specs.Tree.{Tree, Always, Compare, Both, Either, Fails}
use Rattle.sb_pred.specs.Truth.{term_value, compares, truth}
use Rattle.sb_relation.specs.Db.{Name, Row, values_in}
use Rattle.sb_relation.specs.Fits.{first_unnamed, places_in}
use Rattle.sb_rules.specs.Checks.{is_in, AreNames}

-- ---- the place of a name
position_from-suc : {X : Type 0} (p : X → Bool) (i : ℕ) (xs : List X) → position_from p (i + 1) xs ≡ option_map (λ n. suc n) (position_from p i xs)
position_from-suc p i [] = refl
position_from-suc p i (x ∷ xs) =
    elim (p x) as (λ t. cond t (Some (i + 1)) (position_from p (i + 1 + 1) xs) ≡ option_map (λ n. suc n) (cond t (Some i) (position_from p (i + 1) xs)))
    [ true ↦ ap Some (add-one i) | false ↦ position_from-suc p (i + 1) xs ]

place_of-cons : (c : Column) (schema : List Column) (name : Name) → place_of (c ∷ schema) name ≡ cond (bytes_eq c.name name) (Some 0) (option_map (λ n. suc n) (place_of schema name))
place_of-cons c schema name =
    let p : Column → Bool = λ c. bytes_eq c.name name in
    position_from-zero p (c ∷ schema)
    ∙ ap (cond (p c) (Some 0)) (position_from-suc p 0 schema ∙ ap (option_map (λ n. suc n)) (sym (position_from-zero p schema)))

item-cons : {X : Type 0} (x : X) (xs : List X) (t : Bool) (o : Option ℕ)
    → option_and_then (λ i. slice_get (x ∷ xs) i) (cond t (Some 0) (option_map (λ n. suc n) o)) ≡ cond t (Some x) (option_and_then (λ i. slice_get xs i) o)
item-cons x xs true o = refl
item-cons x xs false None = refl
item-cons x xs false (Some i) = refl

column_value-cons : (c : Column) (schema : List Column) (v : Value) (row : Row) (name : Name)
    → column_value (c ∷ schema) (Some (v ∷ row)) name ≡ cond (bytes_eq c.name name) (Some v) (column_value schema (Some row) name)
column_value-cons c schema v row name =
    ap (option_and_then (λ i. slice_get (v ∷ row) i)) (place_of-cons c schema name) ∙ item-cons v row (bytes_eq c.name name) (place_of schema name)

kind_or : (t : Bool) (c : Column) (o : Option Column) → option_map (λ c. c.kind) (cond t (Some c) o) ≡ cond t (Some c.kind) (option_map (λ c. c.kind) o)
kind_or true c o = refl
kind_or false c o = refl

column_kind-cons : (c : Column) (schema : List Column) (name : Name) → column_kind (c ∷ schema) name ≡ cond (bytes_eq c.name name) (Some c.kind) (column_kind schema name)
column_kind-cons c schema name =
    ap (λ o. option_map (λ c. c.kind) o) (ap (option_and_then (λ i. slice_get (c ∷ schema) i)) (place_of-cons c schema name) ∙ item-cons c schema (bytes_eq c.name name) (place_of schema name))
    ∙ kind_or (bytes_eq c.name name) c (option_and_then (λ i. slice_get schema i) (place_of schema name))

-- ---- a row that fits has a value under each name of a column
rest_fits : (t : Bool) (o : Option ℕ) → cond t (option_map suc o) (Some 0) ≡ None → o ≡ None
rest_fits true None e = refl
rest_fits true (Some i) e = cc
rest_fits false o e = cc

both_some : {X Y : Type 0} (t : Bool) (x : X) (y : Y) (o : Option X) (p : Option Y) → is_some o ≡ is_some p → is_some (cond t (Some x) o) ≡ is_some (cond t (Some y) p)
both_some true x y o p same = refl
both_some false x y o p same = same

value_there : (schema : List Column) (row : Row) (name : Name) → Fits schema row → is_some (column_value schema (Some row) name) ≡ is_some (column_kind schema name)
value_there [] [] name fits = refl
value_there [] (v ∷ row) name fits = cc
value_there (c ∷ schema) [] name fits = cc
value_there (c ∷ schema) (v ∷ row) name fits =
    ap is_some (column_value-cons c schema v row name)
    ∙ both_some (bytes_eq c.name name) v c.kind (column_value schema (Some row) name) (column_kind schema name)
    (value_there schema row name (rest_fits (is_of_kind c.kind v) (first_misfit schema row) fits))
    ∙ ap is_some (sym (column_kind-cons c schema name))

-- ---- names, each once
-- a name that isn't one of some is put to them
once_more : (names : List Name) (name : Name) → IsDistinct bytes_eq names → is_in names name ≡ false → IsDistinct bytes_eq (names ++ name ∷ [])
unfolding IsDistinct
once_more [] name once new = (tt, tt)
once_more (n ∷ names) name once new =
    let parts = neither (bytes_eq n name) (is_in names name) new in
    (and_last names once.0 parts.0, once_more names name once.1 parts.1)
  where
    neither : (a b : Bool) → (a || b) ≡ false → (a ≡ false) × (b ≡ false)
    neither false b e = (refl, e)
    neither true b e = cc

    and_last : (others : List Name) → AllByRecursion (λ m. bytes_eq n m ≡ false) others → bytes_eq n name ≡ false → AllByRecursion (λ m. bytes_eq n m ≡ false) (others ++ name ∷ [])
    and_last [] each last = (last, tt)
    and_last (m ∷ others) each last = (each.0, and_last others each.1 last)

either_more : (t a b : Bool) → (t || a) ≡ true → (a ≡ true → b ≡ true) → (t || b) ≡ true
either_more true a b e more = refl
either_more false a b e more = more e

pub still_in : (names more : List Name) (name : Name) → is_in names name ≡ true → is_in (names ++ more) name ≡ true
still_in [] more name there = cc
still_in (n ∷ names) more name there = either_more (bytes_eq n name) (is_in names name) (is_in (names ++ more) name) there (still_in names more name)

or_true : (t : Bool) → (t || true) ≡ true
or_true true = refl
or_true false = refl

pub last_in : (names : List Name) (name : Name) → is_in (names ++ name ∷ []) name ≡ true
last_in [] name = ap (λ t. t || false) ((bytes_same name name).1 refl)
last_in (n ∷ names) name = ap (λ t. bytes_eq n name || t) (last_in names name) ∙ or_true (bytes_eq n name)

-- each column has a name that is one of a column
same_column : (x y : Column) → Some x ≡ Some y → x ≡ y
same_column x y e = cc

kind_there : (t : Bool) (k : Kind) (o : Option Kind) → is_some o ≡ true → is_some (cond t (Some k) o) ≡ true
kind_there true k o e = refl
kind_there false k o e = e

column_there : (schema : List Column) (i : ℕ) (c : Column) → slice_get schema i ≡ Some c → is_some (column_kind schema c.name) ≡ true
column_there [] i c at = cc
column_there (d ∷ schema) zero c at =
    ap is_some (column_kind-cons d schema c.name)
    ∙ ap (λ t. is_some (cond t (Some d.kind) (column_kind schema c.name))) (ap (λ (e : Column). bytes_eq e.name c.name) (same_column d c at) ∙ (bytes_same c.name c.name).1 refl)
column_there (d ∷ schema) (suc i) c at =
    ap is_some (column_kind-cons d schema c.name) ∙ kind_there (bytes_eq d.name c.name) d.kind (column_kind schema c.name) (column_there schema i c at)

none_more : {X : Type 0} (t : Bool) (x : X) (o p : Option X) → cond t (Some x) o ≡ None → (o ≡ None → p ≡ None) → cond t (Some x) p ≡ None
none_more true x o p e more = cc
none_more false x o p e more = more e

there_named : {X Y : Type 0} (o : Option X) (y : Y) → is_some o ≡ true → cond (is_none o) (Some y) None ≡ None
there_named None y there = cc
there_named (Some k) y there = refl

named_more : (schema : List Column) (names : List Name) (name : Name) → first_unnamed (places_in schema names) ≡ None → is_some (column_kind schema name) ≡ true
    → first_unnamed (places_in schema (names ++ name ∷ [])) ≡ None
named_more schema [] name named there = there_named (column_kind schema name) (schema, name) there
named_more schema (n ∷ names) name named there =
    none_more (is_none (column_kind schema n)) (schema, n) (first_unnamed (places_in schema names)) (first_unnamed (places_in schema (names ++ name ∷ []))) named
    (λ e. named_more schema names name e there)

-- ---- rows that agree under these names agree under all
name_in : (names : List Name) (name : Name) (schema : List Column) → All (λ c. is_in names c.name ≡ true) schema → is_some (column_kind schema name) ≡ true → is_in names name ≡ true
name_in names name [] all there = cc
name_in names name (c ∷ schema) all there =
    by (bytes_eq c.name name) refl (sym (ap is_some (column_kind-cons c schema name)) ∙ there) (name_in names name schema (All-tail (λ c. is_in names c.name ≡ true) c schema all))
  where
    by : (t : Bool) → bytes_eq c.name name ≡ t → is_some (cond t (Some c.kind) (column_kind schema name)) ≡ true
        → (is_some (column_kind schema name) ≡ true → is_in names name ≡ true) → is_in names name ≡ true
    by true same there more = subst (λ n. is_in names n ≡ true) ((bytes_same c.name name).0 same) (All-head (λ c. is_in names c.name ≡ true) c schema all)
    by false other there more = more there

first_same : (x y : Value) (xs ys : List Value) → x ∷ xs ≡ y ∷ ys → Some x ≡ Some y
first_same x y xs ys e = cc

rest_same : (x y : Value) (xs ys : List Value) → x ∷ xs ≡ y ∷ ys → xs ≡ ys
rest_same x y xs ys e = cc

same_each : (f g : Name → Option Value) (names : List Name) → AllByRecursion (λ n. is_some (f n) ≡ true) names → AllByRecursion (λ n. is_some (g n) ≡ true) names
    → filter_map f names ≡ filter_map g names → AllByRecursion (λ n. f n ≡ g n) names
same_each f g [] one other same = tt
same_each f g (n ∷ names) one other same = by (f n) (g n) refl refl one.0 other.0 same (same_each f g names one.1 other.1)
  where
    by : (o p : Option Value) → f n ≡ o → g n ≡ p → is_some o ≡ true → is_some p ≡ true → cons_option o (filter_map f names) ≡ cons_option p (filter_map g names)
        → (filter_map f names ≡ filter_map g names → AllByRecursion (λ n. f n ≡ g n) names) → AllByRecursion (λ n. f n ≡ g n) (n ∷ names)
    by None p is also a b e more = cc
    by (Some x) None is also a b e more = cc
    by (Some x) (Some y) is also a b e more = (is ∙ first_same x y (filter_map f names) (filter_map g names) e ∙ sym also, more (rest_same x y (filter_map f names) (filter_map g names) e))

at_one : (f g : Name → Option Value) (names : List Name) (name : Name) → AllByRecursion (λ n. f n ≡ g n) names → is_in names name ≡ true → f name ≡ g name
at_one f g [] name same there = cc
at_one f g (n ∷ names) name same there = by (bytes_eq n name) refl there (at_one f g names name same.1)
  where
    by : (t : Bool) → bytes_eq n name ≡ t → (t || is_in names name) ≡ true → (is_in names name ≡ true → f name ≡ g name) → f name ≡ g name
    by true one there more = subst (λ m. f m ≡ g m) ((bytes_same n name).0 one) same.0
    by false other there more = more there

all_there : (schema : List Column) (row : Row) (names : List Name) → Fits schema row → first_unnamed (places_in schema names) ≡ None
    → AllByRecursion (λ n. is_some (column_value schema (Some row) n) ≡ true) names
all_there schema row [] fits named = tt
all_there schema row (n ∷ names) fits named =
    let parts = by (column_kind schema n) named in
    (value_there schema row n fits ∙ parts.0, all_there schema row names fits parts.1)
  where
    by : (o : Option Kind) → cond (is_none o) (Some (schema, n)) (first_unnamed (places_in schema names)) ≡ None → (is_some o ≡ true) × (first_unnamed (places_in schema names) ≡ None)
    by None e = cc
    by (Some k) e = (refl, e)

pub agree : (schema : List Column) (r t : Row) (names : List Name) → AreNames schema names → Fits schema r → Fits schema t → values_in schema r names ≡ values_in schema t names
    → (name : Name) → column_value schema (Some r) name ≡ column_value schema (Some t) name
agree schema r t names are one other same name = by (is_some (column_kind schema name)) refl
  where
    f : Name → Option Value
    f = column_value schema (Some r)

    g : Name → Option Value
    g = column_value schema (Some t)

    none : (o : Option Value) → is_some o ≡ false → o ≡ None
    none None e = refl
    none (Some v) e = cc

    by : (b : Bool) → is_some (column_kind schema name) ≡ b → column_value schema (Some r) name ≡ column_value schema (Some t) name
    by true there = at_one f g names name (same_each f g names (all_there schema r names one are.named) (all_there schema t names other are.named) same) (name_in names name schema are.all there)
    by false none_there =
        none (column_value schema (Some r) name) (value_there schema r name one ∙ none_there)
        ∙ sym (none (column_value schema (Some t) name) (value_there schema t name other ∙ none_there))

-- ---- a predicate's truth depends only on what a row has under each name
truth_same : (schema : List Column) (r t : Row) → ((name : Name) → column_value schema (Some r) name ≡ column_value schema (Some t) name)
    → (pred : Tree) → truth schema None (Some r) pred ≡ truth schema None (Some t) pred
truth_same schema r t same Always = refl
truth_same schema r t same (Compare op a b) = ap (λ v. compares op v (term_value schema None (Some r) b)) (term a) ∙ ap (compares op (term_value schema None (Some t) a)) (term b)
  where
    term : (a : Term) → term_value schema None (Some r) a ≡ term_value schema None (Some t) a
    term (Const v) = refl
    term (New name) = same name
    term (Old name) = refl
truth_same schema r t same (Both p q) = ap (λ b. b && truth schema None (Some r) q) (truth_same schema r t same p) ∙ ap (λ b. truth schema None (Some t) p && b) (truth_same schema r t same q)
truth_same schema r t same (Either p q) = ap (λ b. b || truth schema None (Some r) q) (truth_same schema r t same p) ∙ ap (λ b. truth schema None (Some t) p || b) (truth_same schema r t same q)
truth_same schema r t same (Fails p) = ap not (truth_same schema r t same p)

pub truth_under : (schema : List Column) (r t : Row) (names : List Name) (pred : Tree) → AreNames schema names → Fits schema r → Fits schema t → values_in schema r names ≡ values_in schema t names
    → truth schema None (Some r) pred ≡ truth schema None (Some t) pred
truth_under schema r t names pred are one other same = truth_same schema r t (agree schema r t names are one other same) pred

-- ---- names of the first columns
pub record AreFirst (schema : List Column) (so_far : List Column) (names : List Name) : Type 0 where
  pub once : IsDistinct bytes_eq names
  pub all : All (λ c. is_in names c.name ≡ true) so_far
  pub named : first_unnamed (places_in schema names) ≡ None

pub AreFirst-none : (schema : List Column) → AreFirst schema [] []
unfolding IsDistinct
AreFirst-none schema = record { once = tt; all = All-nil (λ c. is_in [] c.name ≡ true); named = refl }

-- one column more, whose name is known or is put to them
pub AreFirst-known : (schema : List Column) (i : ℕ) (c : Column) (names : List Name) → i < length schema → c ≡ get_or schema i c → is_in names c.name ≡ true
    → AreFirst schema (take i schema) names → AreFirst schema (take (i + 1) schema) names
AreFirst-known schema i c names within at known so_far = record {
  once = so_far.once;
  all = All-more (λ d. is_in names d.name ≡ true) schema i c within so_far.all (subst (λ (d : Column). is_in names d.name ≡ true) at known);
  named = so_far.named;
}

pub AreFirst-new : (schema : List Column) (i : ℕ) (c : Column) (names : List Name) → i < length schema → c ≡ get_or schema i c → is_in names c.name ≡ false
    → AreFirst schema (take i schema) names → AreFirst schema (take (i + 1) schema) (names ++ c.name ∷ [])
AreFirst-new schema i c names within at new so_far = record {
  once = once_more names c.name so_far.once new;
  all = All-more (λ d. is_in (names ++ c.name ∷ []) d.name ≡ true) schema i c within
      (All-weaker (λ d. is_in names d.name ≡ true) (λ d. is_in (names ++ c.name ∷ []) d.name ≡ true) (λ d. still_in names (c.name ∷ []) d.name) (take i schema) so_far.all)
      (subst (λ (d : Column). is_in (names ++ c.name ∷ []) d.name ≡ true) at (last_in names c.name));
  named = named_more schema names c.name so_far.named (column_there schema i c (slice_get_read schema (length schema) i c refl within at));
}

pub AreNames-all : (schema : List Column) (i : ℕ) (names : List Name) → length schema ≤ i → AreFirst schema (take i schema) names → AreNames schema names
AreNames-all schema i names past so_far = record {
  once = so_far.once;
  all = All-same (λ d. is_in names d.name ≡ true) schema (take i schema) (sym (take_all i schema past)) so_far.all;
  named = so_far.named;
}
