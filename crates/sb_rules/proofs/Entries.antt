-- Which rows an entry names, and what a find says of them.
use Rattle.std.proofs.Common.{suc, arith, ◌≡◌, ℕ, ◌==◌, Bool, true, false, cond, not, ◌&&◌, ◌||◌, List, [], ◌∷◌, map, filter, length, All, Option, Some, None, is_none, option_map, IfSome, MatchOption, Result, Ok, Err, IsOk, is_err, refl, ap, sym, ◌∙◌, subst, true≢false}
use Rattle.std.specs.List.{find as first, list_any, list_all}
use Rattle.std.specs.Str.{bytes_eq}
use Rattle.std.specs.Cmp.Lexicographic.{pointwise, pointwise_decides}
use Rattle.std.proofs.lemmas.Bool.Decides.{nat_tests}
use Rattle.std.proofs.lemmas.List.Elements.{All-head, All-tail}
use Rattle.sb_value.specs.declared.value.Value.{Value}
use Rattle.sb_value.specs.declared.schema.Column.{Column}
use Rattle.sb_value.specs.declared.schema.TypeFault.{TypeFault}
use Rattle.sb_value.specs.Equal.{tuple_eq, tuple_same, bytes_same}
use Rattle.sb_value.specs.Fits.{Fits}
use Rattle.sb_codec.specs.Tuples.{IsTuple, tuple_spelling}
use Rattle.sb_codec.proofs.TupleLaws.{one_tuple}
use Rattle.sb_pred.specs.Tree.{Tree}
use Rattle.sb_pred.specs.Truth.{truth}
use Rattle.sb_relation.specs.Db.{Name, Key, Row, Rows, Db, rows_at, schema_at, values_in}
use Rattle.sb_relation.specs.Fits.{first_unnamed, places_in}
use Rattle.sb_relation.specs.Lawful.{IsRow}
use Rattle.sb_relation.specs.Rules.{has_values, spells}
use Rattle.sb_ctx.specs.declared.held.Found.{Found}
use Rattle.sb_ctx.specs.View.{keys_with, is_answer_to}
use Rattle.sb_rules.specs.Checks.{AreNames}
use Rattle.sb_rules.proofs.Columns.{truth_under}

-- ---- tests of rows
none_any : {X : Type 0} (P : X → Type 0) (p : X → Bool) → ((x : X) → P x → p x ≡ false) → (xs : List X) → All P xs → list_any p xs ≡ false
none_any P p fails [] each = refl
none_any P p fails (x ∷ xs) each =
    ap (λ t. t || list_any p xs) (fails x (All-head P x xs each)) ∙ none_any P p fails xs (All-tail P x xs each)

-- where each row that passes one test passes another, and none passes that
none_passes : {X : Type 0} (P : X → Type 0) (p q : X → Bool) → ((x : X) → P x → q x ≡ false → p x ≡ false) → (xs : List X) → All P xs → list_any q xs ≡ false → list_any p xs ≡ false
none_passes P p q fails [] each none = refl
none_passes P p q fails (x ∷ xs) each none =
    let parts = neither (q x) (list_any q xs) none in
    ap (λ t. t || list_any p xs) (fails x (All-head P x xs each) parts.0) ∙ none_passes P p q fails xs (All-tail P x xs each) parts.1
  where
    neither : (a b : Bool) → (a || b) ≡ false → (a ≡ false) × (b ≡ false)
    neither false b e = (refl, e)
    neither true b e = cc

-- where a row that passes one test fails another, not all pass that
not_all : {X : Type 0} (P : X → Type 0) (p q : X → Bool) → ((x : X) → P x → p x ≡ true → q x ≡ false) → (xs : List X) → All P xs → list_any p xs ≡ true → list_all q xs ≡ false
not_all P p q fails [] each some = cc
not_all P p q fails (x ∷ xs) each some = by (p x) (q x) (fails x (All-head P x xs each)) some (not_all P p q fails xs (All-tail P x xs each))
  where
    by : (a b : Bool) → (a ≡ true → b ≡ false) → (a || list_any p xs) ≡ true → (list_any p xs ≡ true → list_all q xs ≡ false) → (b && list_all q xs) ≡ false
    by true true fails some more = absurd (true≢false (fails refl))
    by true false fails some more = refl
    by false true fails some more = more some
    by false false fails some more = refl

-- ---- rows that fail
-- the entry spells this row, and the predicate fails of it
abbrev pub fails_at : List Column → Tree → List ℕ → Key × Row → Bool
fails_at schema pred entry row = spells entry row.1 && not (truth schema None (Some row.1) pred)

abbrev IsRowOf : List Column → Key × Row → Type 0
IsRowOf schema row = IsRow schema row.1

no_failure : (spelled passes : Bool) → (spelled ≡ true → passes ≡ true) → (spelled && not passes) ≡ false
no_failure true passes h = ap not (h refl)
no_failure false passes h = refl

-- where it passes of each row that the entry spells, none fails
pub none_fails : (schema : List Column) (pred : Tree) (entry : List ℕ) → ((row : Row) → IsRow schema row → entry ≡ tuple_spelling row → truth schema None (Some row) pred ≡ true)
    → (rows : Rows) → All (λ row. IsRow schema row.1) rows → list_any (fails_at schema pred entry) rows ≡ false
none_fails schema pred entry passes rows each =
    none_any (IsRowOf schema) (fails_at schema pred entry)
    (λ row is. no_failure (spells entry row.1) (truth schema None (Some row.1) pred) (λ e. passes row.1 is ((bytes_same entry (tuple_spelling row.1)).0 e))) rows each

-- ---- the rows with the values of a row of which the predicate doesn't hold
-- such a row fails too
pub whole_fails : (schema : List Column) (pred : Tree) (names : List Name) (t : Row) → AreNames schema names → Fits schema t → truth schema None (Some t) pred ≡ false
    → (rows : Rows) → All (λ row. IsRow schema row.1) rows → list_any (λ row. has_values schema names (values_in schema t names) row.1) rows ≡ true
    → list_all (λ row. truth schema None (Some row.1) pred) rows ≡ false
whole_fails schema pred names t are fits fails =
    not_all (IsRowOf schema) (λ row. has_values schema names (values_in schema t names) row.1) (λ row. truth schema None (Some row.1) pred)
    (λ row is same. truth_under schema row.1 t names pred are is.fits fits ((tuple_same (values_in schema row.1 names) (values_in schema t names)).0 same) ∙ fails)

-- where there is none, no row fails that the entry spells
pub none_stands_so : (schema : List Column) (pred : Tree) (entry : List ℕ) (names : List Name) (t : Row) → IsTuple t → entry ≡ tuple_spelling t
    → (rows : Rows) → All (λ row. IsRow schema row.1) rows → list_any (λ row. has_values schema names (values_in schema t names) row.1) rows ≡ false
    → list_any (fails_at schema pred entry) rows ≡ false
none_stands_so schema pred entry names t tuple spelled =
    none_passes (IsRowOf schema) (fails_at schema pred entry) (λ row. has_values schema names (values_in schema t names) row.1)
    (λ row is other. other_row row.1 is other (spells entry row.1) refl)
  where
    other_row : (row : Row) → IsRow schema row → has_values schema names (values_in schema t names) row ≡ false → (b : Bool) → spells entry row ≡ b
        → (b && not (truth schema None (Some row) pred)) ≡ false
    other_row row is other false e = refl
    other_row row is other true e =
        let same : row ≡ t = one_tuple row t is.tuple tuple (sym ((bytes_same entry (tuple_spelling row)).0 e) ∙ spelled) in
        let has : has_values schema names (values_in schema t names) row ≡ true = (tuple_same (values_in schema row names) (values_in schema t names)).1 (ap (λ r. values_in schema r names) same) in
        absurd (true≢false (sym has ∙ other))

-- ---- the keys that a find gives
not_zero : (n : ℕ) → (suc n == 0) ≡ false
not_zero n = grind (arith, nat_tests)

none_kept : {X Y : Type 0} (f : X → Y) (q : X → Bool) (xs : List X) → (length (map f (filter q xs)) == 0) ≡ not (list_any q xs)
none_kept f q [] = refl
none_kept f q (x ∷ xs) = elim (q x) as (λ t. (length (map f (cond t (x ∷ filter q xs) (filter q xs))) == 0) ≡ not (t || list_any q xs)) [ true ↦ not_zero (length (map f (filter q xs))) | false ↦ none_kept f q xs ]

pub no_keys : (db : Db) (name : Name) (schema : List Column) (names : List Name) (values : List Value) → schema_at db name ≡ schema → first_unnamed (places_in schema names) ≡ None
    → (length (keys_with db name names values) == 0) ≡ not (list_any (λ row. has_values schema names values row.1) (rows_at db name))
no_keys db name schema names values is named =
    ap (λ s. length (cond (is_none (first_unnamed (places_in s names))) (map (λ row. row.0) (filter (λ row. has_values s names values row.1) (rows_at db name))) []) == 0) is
    ∙ ap (λ o. length (cond (is_none o) (map (λ row. row.0) (filter (λ row. has_values schema names values row.1) (rows_at db name))) []) == 0) named
    ∙ none_kept (λ row. row.0) (λ row. has_values schema names values row.1) (rows_at db name)

-- what a Ctx has found over a database
both_true : (a b : Bool) → (a && b) ≡ true → (a ≡ true) × (b ≡ true)
both_true true true e = (refl, refl)
both_true true false e = cc
both_true false b e = cc

answered : (db : Db) (relation : Name) (columns : List Name) (values : List Value) (f : Found) → is_answer_to relation columns values f ≡ true
    → f.keys ≡ keys_with db f.relation f.columns f.values → f.keys ≡ keys_with db relation columns values
answered db relation columns values f is keys =
    let two = both_true (bytes_eq f.relation relation && pointwise bytes_eq f.columns columns) (tuple_eq f.values values) is in
    let one = both_true (bytes_eq f.relation relation) (pointwise bytes_eq f.columns columns) two.0 in
    keys
    ∙ ap (λ r. keys_with db r f.columns f.values) ((bytes_same f.relation relation).0 one.0)
    ∙ ap (λ cs. keys_with db relation cs f.values) ((pointwise_decides bytes_same f.columns columns).0 one.1)
    ∙ ap (keys_with db relation columns) ((tuple_same f.values values).0 two.1)

found_first : (db : Db) (relation : Name) (columns : List Name) (values : List Value) (f : Found) (rest : Option (List Key)) (keys : List Key) (t : Bool)
    → is_answer_to relation columns values f ≡ t → f.keys ≡ keys_with db f.relation f.columns f.values
    → cond t (Some f.keys) rest ≡ Some keys → (rest ≡ Some keys → keys ≡ keys_with db relation columns values) → keys ≡ keys_with db relation columns values
found_first db relation columns values f rest keys true is over e more = let here : keys ≡ f.keys = cc in here ∙ answered db relation columns values f is over
found_first db relation columns values f rest keys false is over e more = more e

keys_or : (t : Bool) (f : Found) (o : Option Found) → option_map (λ f. f.keys) (cond t (Some f) o) ≡ cond t (Some f.keys) (option_map (λ f. f.keys) o)
keys_or true f o = refl
keys_or false f o = refl

pub found_keys : (db : Db) (relation : Name) (columns : List Name) (values : List Value) (found : List Found) (keys : List Key) → All (λ f. f.keys ≡ keys_with db f.relation f.columns f.values) found
    → option_map (λ f. f.keys) (first (is_answer_to relation columns values) found) ≡ Some keys → keys ≡ keys_with db relation columns values
found_keys db relation columns values [] keys over e = cc
found_keys db relation columns values (f ∷ found) keys over e =
    found_first db relation columns values f (option_map (λ f. f.keys) (first (is_answer_to relation columns values) found)) keys (is_answer_to relation columns values f) refl
    (All-head (λ f. f.keys ≡ keys_with db f.relation f.columns f.values) f found over)
    (sym (keys_or (is_answer_to relation columns values f) f (first (is_answer_to relation columns values) found)) ∙ e)
    (found_keys db relation columns values found keys (All-tail (λ f. f.keys ≡ keys_with db f.relation f.columns f.values) f found over))

-- ---- what a reader answered
pub not_none_is : {X : Type 0} (o : Option X) (x : X) → o ≡ None → o ≡ Some x → ⊥
not_none_is o x none some = cc

pub one_row : (o : Option Row) (row t : Row) → o ≡ Some row → o ≡ Some t → row ≡ t
one_row o row t a b = cc

pub at_some : (o : Option Row) (P : Row → Type 0) (row : Row) → o ≡ Some row → IfSome o P → P row
at_some None P row e h = cc
at_some (Some t) P row e h = let same : t ≡ row = cc in subst P same h

pub fits_so : (o : Option ℕ) (r : Result (Unit {0}) TypeFault) → MatchOption o (IsOk r) (λ n. r ≡ Err (record { column = n })) → is_err r ≡ false → o ≡ None
fits_so None r h e = refl
fits_so (Some n) (Ok u) h e = cc
fits_so (Some n) (Err x) h e = cc

pub misfit_not_none : (o : Option ℕ) (r : Result (Unit {0}) TypeFault) → MatchOption o (IsOk r) (λ n. r ≡ Err (record { column = n })) → is_err r ≡ true → o ≡ None → ⊥
misfit_not_none None (Ok u) h e none = cc
misfit_not_none None (Err x) h e none = cc
misfit_not_none (Some n) r h e none = cc
