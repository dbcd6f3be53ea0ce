-- What actions bring into rows.
use Rattle.std.proofs.Common.{◌≡◌, ◌≤◌, ℕ, zero, suc, true, List, [], ◌∷◌, length, map, Option, Some, None, refl, sym, ap, subst}
use Rattle.std.specs.Prelude.{All, IfSome, slice_get, option_and_then, false}
use Rattle.std.specs.List.{flat_map}
use Rattle.std.proofs.lemmas.Bool.{and_parts}
use Rattle.std.proofs.lemmas.List.{length-map}
use Rattle.std.proofs.lemmas.List.Elements.{All-nil, All-cons, All-head, All-tail, All-map, All-weaker}
use Rattle.std.proofs.lemmas.Option.{same_Some}
use Rattle.sb_value.specs.declared.value.Value.{Value}
use Rattle.sb_value.specs.declared.value.Value.TheVariants.{Int, Text}
use Rattle.sb_value.specs.declared.schema.Column.{Column}
use Rattle.sb_value.specs.Fits.{Fits, kind_of}
use Rattle.sb_value.specs.Spelling.{IsStorable}
use Rattle.sb_pred.specs.declared.predicate.Term.{Term}
use Rattle.sb_pred.specs.declared.predicate.Term.TheVariants.{Const, New, Old}
use Rattle.sb_pred.specs.Columns.{place_of, column_kind, column_value}
use Rattle.sb_pred.specs.Truth.{term_value}
use Rattle.sb_pred.specs.Typing.{term_kind, is_one_kind}
use Rattle.sb_rule.specs.Bound.{row_before, row_after, constant_or, bound_term, bound, FitsSchema, IsConstant}
use Rattle.sb_rule.specs.declared.action.Action.{Action}
use Rattle.sb_rule.specs.declared.action.Action.TheVariants as action
use Rattle.sb_rule.specs.declared.change.Change.{Change}
use Rattle.sb_relation.specs.Db.{Name, Key, Row, Db, schema_at}
use Rattle.sb_relation.specs.Fits.{relation_of, pairs_fit}
use Rattle.sb_relation.specs.Lawful.{IsRow}
use Rattle.sb_fold.specs.Wishes.{Put, const_of, set_wish, add_wish, wish_of}
use Rattle.sb_cascade.proofs.FittingTerms.{terms-values}
use Rattle.sb_cascade.proofs.Staying.{SameColumns}
use Rattle.sb_cascade.proofs.Wishing.{inserts-fit}
use Rattle.sb_plain.proofs.ValueLemmas.{same_kind, fits_with, tuple_with}
use Rattle.sb_lawful_rows.specs.Storable.{HasStorableValue, PutsStorable}
use Rattle.sb_lawful_rows.specs.Work.{IsWishOf, MayAct}

-- ---- values of rows
slice_storable : (row : Row) (i : ℕ) (v : Value) → All IsStorable row → slice_get row i ≡ Some v → IsStorable v
slice_storable [] i v all is = absurd (cc)
slice_storable (w ∷ row) zero v all is = subst IsStorable (same_Some w v is) (All-head IsStorable w row all)
slice_storable (w ∷ row) (suc i) v all is = slice_storable row i v (All-tail IsStorable w row all) is

place_storable : (row : Row) (place : Option ℕ) (v : Value) → All IsStorable row → option_and_then (λ i. slice_get row i) place ≡ Some v → IsStorable v
place_storable row None v all is = absurd (cc)
place_storable row (Some i) v all is = slice_storable row i v all is

column_storable : (schema : List Column) (row : Option Row) (name : Name) (v : Value) → IfSome row (IsRow schema) → column_value schema row name ≡ Some v → IsStorable v
column_storable schema None name v rows is = absurd (cc)
column_storable schema (Some row) name v rows is = place_storable row (place_of schema name) v rows.tuple.storable is

-- the rows of a change have these columns
pub record HasRows (schema : List Column) (c : Change) : Type 0 where
  pub before : IfSome (row_before c) (IsRow schema)
  pub after : IfSome (row_after c) (IsRow schema)

if_fits : (schema : List Column) (row : Option Row) → IfSome row (IsRow schema) → IfSome row (Fits schema)
if_fits schema None is = tt
if_fits schema (Some row) is = is.fits

pub rows_fit : (schema : List Column) (c : Change) → HasRows schema c → FitsSchema schema c
rows_fit schema c rows = record { before = if_fits schema (row_before c) rows.before; after = if_fits schema (row_after c) rows.after }

-- ---- actions that are bound to a change
constant_storable : (t : Term) (o : Option Value) → HasStorableValue t → ((v : Value) → o ≡ Some v → IsStorable v) → HasStorableValue (constant_or t o)
constant_storable t None one each = one
constant_storable t (Some v) one each = each v refl

module _ (schema : List Column) (c : Change) (rows : HasRows schema c) where
  value_storable : (t : Term) → HasStorableValue t → (v : Value) → term_value schema (row_before c) (row_after c) t ≡ Some v → IsStorable v
  value_storable (Const w) one v is = subst IsStorable (same_Some w v is) one
  value_storable (New name) one v is = column_storable schema (row_after c) name v rows.after is
  value_storable (Old name) one v is = column_storable schema (row_before c) name v rows.before is

  bound_storable : (t : Term) → HasStorableValue t → HasStorableValue (bound_term schema c t)
  bound_storable t one = constant_storable t (term_value schema (row_before c) (row_after c) t) one (value_storable t one)

  pub bound_puts : (a : Action) → PutsStorable a → PutsStorable (bound schema c a)
  bound_puts (action.Insert relation terms) puts =
      let same : length (map (bound_term schema c) terms) ≡ length terms = length-map terms (bound_term schema c) in (
        subst (λ (n : ℕ). 1 ≤ n) (sym same) puts.0,
        subst (λ (n : ℕ). n ≤ 16) (sym same) puts.1,
        All-map HasStorableValue (bound_term schema c) terms (All-weaker HasStorableValue (λ t. HasStorableValue (bound_term schema c t)) (λ t one. bound_storable t one) terms puts.2),
      )
  bound_puts (action.Delete relation pairs) puts = tt
  bound_puts (action.Set relation column term pairs) puts = bound_storable term puts
  bound_puts (action.Add relation column term pairs) puts = tt

-- ---- what an action brings
constants_length : (terms : List Term) → All IsConstant terms → length (flat_map const_of terms) ≡ length terms
constants_length [] all = refl
constants_length (Const v ∷ terms) all = ap suc (constants_length terms (All-tail IsConstant (Const v) terms all))
constants_length (New name ∷ terms) all = absurd (All-head IsConstant (New name) terms all)
constants_length (Old name ∷ terms) all = absurd (All-head IsConstant (Old name) terms all)

constants_storable : (terms : List Term) → All HasStorableValue terms → All IsStorable (flat_map const_of terms)
constants_storable [] all = All-nil IsStorable
constants_storable (Const v ∷ terms) all =
    All-cons IsStorable v (flat_map const_of terms) (All-head HasStorableValue (Const v) terms all) (constants_storable terms (All-tail HasStorableValue (Const v) terms all))
constants_storable (New name ∷ terms) all = constants_storable terms (All-tail HasStorableValue (New name) terms all)
constants_storable (Old name ∷ terms) all = constants_storable terms (All-tail HasStorableValue (Old name) terms all)

-- a value that can be stored, of the column's kind
abbrev IsValueOf : List Column → Name → Value → Type 0
IsValueOf schema column v = IsStorable v × (column_kind schema column ≡ Some (kind_of v))

-- a new row has the relation's columns, and a value that is set is one of its column
abbrev BringsTo : List Column → Action → Type 0
BringsTo schema (action.Insert relation terms) = IsWishOf schema (Put (flat_map const_of terms))
BringsTo schema (action.Delete relation pairs) = Unit {0}
BringsTo schema (action.Set relation column term pairs) = All (IsValueOf schema column) (const_of term)
BringsTo schema (action.Add relation column term pairs) = Unit {0}

abbrev pub Brings : Db → Action → Type 0
Brings db a = BringsTo (schema_at db (relation_of a)) a

pub still_brings : (db other : Db) → SameColumns db other → (a : Action) → Brings db a → Brings other a
still_brings db other same a brings = subst (λ (s : List Column). BringsTo s a) (same.schema (relation_of a)) brings

pub may_bring : (db : Db) (a : Action) → MayAct db a → Brings db a
may_bring db (action.Insert relation terms) may =
    let same : length (flat_map const_of terms) ≡ length terms = constants_length terms (terms-values db (action.Insert relation terms) may.fits) in (
      record {
        some = subst (λ (n : ℕ). 1 ≤ n) (sym same) may.puts.0;
        few = subst (λ (n : ℕ). n ≤ 16) (sym same) may.puts.1;
        storable = constants_storable terms may.puts.2;
      },
      (inserts-fit db relation terms may.fits).fits,
    )
may_bring db (action.Delete relation pairs) may = tt
may_bring db (action.Set relation column term pairs) may =
    of_term term (and_parts (is_one_kind (column_kind (schema_at db relation) column) (term_kind [] false false term)) (pairs_fit (schema_at db relation) (term_kind [] false false) pairs) may.fits.fits).0 may.puts
  where
    of_term : (t : Term) → is_one_kind (column_kind (schema_at db relation) column) (term_kind [] false false t) ≡ true → HasStorableValue t → All (IsValueOf (schema_at db relation) column) (const_of t)
    of_term (Const v) alike one =
        All-cons (IsValueOf (schema_at db relation) column) v [] (one, same_kind (column_kind (schema_at db relation) column) (kind_of v) alike) (All-nil (IsValueOf (schema_at db relation) column))
    of_term (New name) alike one = All-nil (IsValueOf (schema_at db relation) column)
    of_term (Old name) alike one = All-nil (IsValueOf (schema_at db relation) column)
may_bring db (action.Add relation column term pairs) may = tt

-- ---- what it wishes of a row that stands
pub wish_brought : (schema : List Column) (a : Action) (key : Key) (row : Row) → IsRow schema row → BringsTo schema a → IfSome (wish_of schema a key row) (IsWishOf schema)
wish_brought schema (action.Insert relation terms) key row is brings = tt
wish_brought schema (action.Delete relation pairs) key row is brings = tt
wish_brought schema (action.Set relation column term pairs) key row is brings = of_values (const_of term) brings
  where
    of_values : (values : List Value) → All (IsValueOf schema column) values → IfSome (set_wish schema column values key row) (IsWishOf schema)
    of_values [] all = tt
    of_values (v ∷ values) all =
        let one : IsValueOf schema column v = All-head (IsValueOf schema column) v values all in
        (tuple_with schema column v row one.0 is.tuple, fits_with schema column v row one.1 is.fits)
wish_brought schema (action.Add relation column term pairs) key row is brings = of_values (const_of term)
  where
    of_values : (values : List Value) → IfSome (add_wish column values key) (IsWishOf schema)
    of_values [] = tt
    of_values (Int n ∷ values) = tt
    of_values (Text s ∷ values) = tt
