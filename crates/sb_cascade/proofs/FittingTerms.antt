-- Actions whose terms are values.
use Rattle.std.proofs.Common.{◌≡◌, true, false, ◌&&◌, cond, List, [], ◌∷◌, ◌++◌, Option, Some, None, map, refl, ap, ◌∙◌}
use Rattle.std.specs.Prelude.{is_some, is_none, zip}
use Rattle.std.specs.List.{flat_map, cons_option}
use Rattle.std.specs.Prelude.{All}
use Rattle.std.proofs.lemmas.Bool.{and_from, and_parts}
use Rattle.std.proofs.lemmas.List.Elements.{All-nil, All-cons}
use Rattle.sb_value.specs.declared.value.Value.{Value}
use Rattle.sb_value.specs.declared.schema.Kind.{Kind}
use Rattle.sb_value.specs.declared.schema.Kind.TheVariants as kind
use Rattle.sb_value.specs.declared.schema.Column.{Column}
use Rattle.sb_value.specs.Fits.{Fits, kind_of}
use Rattle.sb_pred.specs.declared.predicate.Term.{Term}
use Rattle.sb_pred.specs.declared.predicate.Term.TheVariants.{Const, New, Old}
use Rattle.sb_pred.specs.Columns.{column_kind, column_value}
use Rattle.sb_pred.specs.Typing.{term_kind, is_one_kind}
use Rattle.sb_rule.specs.declared.action.Action.{Action}
use Rattle.sb_rule.specs.declared.action.Action.TheVariants as action
use Rattle.sb_rule.specs.declared.change.Change.{Change}
use Rattle.sb_rule.specs.declared.change.Change.TheVariants as change
use Rattle.sb_rule.specs.declared.rule.Event.{Event}
use Rattle.sb_rule.specs.declared.rule.Event.TheVariants as event
use Rattle.sb_rule.specs.Bound.{row_before, row_after, bound_term, bound_pair, bound, EachTerm, FitsSchema, IsConstant}
use Rattle.sb_relation.specs.Db.{Name, Row, Db, schema_at, values_in}
use Rattle.sb_relation.specs.Fits.{Places, relation_of, first_missing, term_places, pair_places, action_places, first_unnamed, kinds_at, are_one_kind, has_old, has_new, pairs_fit, action_fits}
use Rattle.sb_relation.specs.Rules.{is_event}
use Rattle.sb_cascade.specs.Fitting.{IsFitting}
use Rattle.sb_cascade.specs.FittingLaws.{TermsAreValues}
use Rattle.sb_cascade.proofs.FittingColumns.{one_kind, are_alike, IsValueOf, value_in, bound_kind}

-- ---- where the kinds are right, the columns are there
no_place : (t : Term) (k : Kind) → term_kind [] false false t ≡ Some k → term_places [] t ≡ []
no_place (Const v) k e = refl
no_place (New name) k e = absurd (cc)
no_place (Old name) k e = absurd (cc)

no_places : (kinds : List (Option Kind)) (terms : List Term) → are_one_kind kinds (map (term_kind [] false false) terms) ≡ true → flat_map (term_places []) terms ≡ []
no_places [] [] e = refl
no_places [] (t ∷ terms) e = absurd (cc)
no_places (k ∷ kinds) [] e = absurd (cc)
no_places (k ∷ kinds) (t ∷ terms) e =
    let parts = and_parts (is_one_kind k (term_kind [] false false t)) (are_one_kind kinds (map (term_kind [] false false) terms)) e in
    let one = one_kind k (term_kind [] false false t) parts.0 in
    λ i. no_place t one.0 one.2 i ++ no_places kinds terms parts.1 i

place_passes : (own : List Column) (name : Name) (k : Kind) (places rest : Places) → column_kind own name ≡ Some k → places ≡ [] → first_unnamed rest ≡ None
    → first_unnamed ((own, name) ∷ places ++ rest) ≡ None
place_passes own name k places rest is none passes =
    (λ i. cond (is_none (is i)) (Some (own, name)) (first_unnamed (none i ++ rest))) ∙ passes

one_passes : (own : List Column) (name : Name) (t : Term) (rest : Places) → is_one_kind (column_kind own name) (term_kind [] false false t) ≡ true → first_unnamed rest ≡ None
    → first_unnamed ((own, name) ∷ term_places [] t ++ rest) ≡ None
one_passes own name t rest e passes =
    let one = one_kind (column_kind own name) (term_kind [] false false t) e in
    place_passes own name one.0 (term_places [] t) rest one.1 (no_place t one.0 one.2) passes

pairs_pass : (own : List Column) (pairs : List (Name × Term)) → pairs_fit own (term_kind [] false false) pairs ≡ true → first_unnamed (pair_places own [] pairs) ≡ None
pairs_pass own [] e = refl
pairs_pass own (pair ∷ pairs) e =
    let parts = and_parts (is_one_kind (column_kind own pair.0) (term_kind [] false false pair.1)) (pairs_fit own (term_kind [] false false) pairs) e in
    one_passes own pair.0 pair.1 (pair_places own [] pairs) parts.0 (pairs_pass own pairs parts.1)

named : (own : List Column) (a : Action) → action_fits own (term_kind [] false false) a ≡ true → first_unnamed (action_places own [] a) ≡ None
named own (action.Insert relation terms) e = ap first_unnamed (no_places (map (λ c. Some c.kind) own) terms e)
named own (action.Delete relation pairs) e = pairs_pass own pairs e
named own (action.Set relation column term pairs) e =
    let parts = and_parts (is_one_kind (column_kind own column) (term_kind [] false false term)) (pairs_fit own (term_kind [] false false) pairs) e in
    one_passes own column term (pair_places own [] pairs) parts.0 (pairs_pass own pairs parts.1)
named own (action.Add relation column term pairs) e =
    let parts = and_parts (is_one_kind (column_kind own column) (Some kind.Int) && is_one_kind (Some kind.Int) (term_kind [] false false term)) (pairs_fit own (term_kind [] false false) pairs) e in
    let both = and_parts (is_one_kind (column_kind own column) (Some kind.Int)) (is_one_kind (Some kind.Int) (term_kind [] false false term)) parts.0 in
    let first = one_kind (column_kind own column) (Some kind.Int) both.0 in
    let second = one_kind (Some kind.Int) (term_kind [] false false term) both.1 in
    place_passes own column first.0 (term_places [] term) (pair_places own [] pairs) first.1 (no_place term second.0 second.2) (pairs_pass own pairs parts.1)

-- so it is enough that the relation is there and that the kinds are right
pub fitting : (db : Db) (a : Action) → first_missing db (relation_of a ∷ []) ≡ None → action_fits (schema_at db (relation_of a)) (term_kind [] false false) a ≡ true → IsFitting db a
fitting db a there fits = record { there = there; named = named (schema_at db (relation_of a)) a fits; fits = fits }

-- ---- bound terms are values of the kinds that their columns have
abbrev pub kind_over : List Column → Change → Term → Option Kind
kind_over schema c t = term_kind schema (is_some (row_before c)) (is_some (row_after c)) t

module _ (schema : List Column) (c : Change) (fits : FitsSchema schema c) where
  bound_one : (k : Option Kind) (t : Term) → is_one_kind k (kind_over schema c t) ≡ true → is_one_kind k (term_kind [] false false (bound_term schema c t)) ≡ true
  bound_one k t e =
      let one = one_kind k (kind_over schema c t) e in
      are_alike k (term_kind [] false false (bound_term schema c t)) one.0 one.1 (bound_kind schema c fits t one.0 one.2)

  bound_kinds : (kinds : List (Option Kind)) (terms : List Term) → are_one_kind kinds (map (kind_over schema c) terms) ≡ true
      → are_one_kind kinds (map (term_kind [] false false) (map (bound_term schema c) terms)) ≡ true
  bound_kinds [] [] e = refl
  bound_kinds [] (t ∷ terms) e = absurd (cc)
  bound_kinds (k ∷ kinds) [] e = absurd (cc)
  bound_kinds (k ∷ kinds) (t ∷ terms) e =
      let parts = and_parts (is_one_kind k (kind_over schema c t)) (are_one_kind kinds (map (kind_over schema c) terms)) e in
      and_from _ _ (bound_one k t parts.0) (bound_kinds kinds terms parts.1)

  bound_pairs : (own : List Column) (pairs : List (Name × Term)) → pairs_fit own (kind_over schema c) pairs ≡ true
      → pairs_fit own (term_kind [] false false) (map (bound_pair schema c) pairs) ≡ true
  bound_pairs own [] e = refl
  bound_pairs own (pair ∷ pairs) e =
      let parts = and_parts (is_one_kind (column_kind own pair.0) (kind_over schema c pair.1)) (pairs_fit own (kind_over schema c) pairs) e in
      and_from _ _ (bound_one (column_kind own pair.0) pair.1 parts.0) (bound_pairs own pairs parts.1)

  bound_fits : (own : List Column) (a : Action) → action_fits own (kind_over schema c) a ≡ true → action_fits own (term_kind [] false false) (bound schema c a) ≡ true
  bound_fits own (action.Insert relation terms) e = bound_kinds (map (λ x. Some x.kind) own) terms e
  bound_fits own (action.Delete relation pairs) e = bound_pairs own pairs e
  bound_fits own (action.Set relation column term pairs) e =
      let parts = and_parts (is_one_kind (column_kind own column) (kind_over schema c term)) (pairs_fit own (kind_over schema c) pairs) e in
      and_from _ _ (bound_one (column_kind own column) term parts.0) (bound_pairs own pairs parts.1)
  bound_fits own (action.Add relation column term pairs) e =
      let parts = and_parts (is_one_kind (column_kind own column) (Some kind.Int) && is_one_kind (Some kind.Int) (kind_over schema c term)) (pairs_fit own (kind_over schema c) pairs) e in
      let both = and_parts (is_one_kind (column_kind own column) (Some kind.Int)) (is_one_kind (Some kind.Int) (kind_over schema c term)) parts.0 in
      and_from _ _ (and_from _ _ both.0 (bound_one (Some kind.Int) term both.1)) (bound_pairs own pairs parts.1)

  pub bound_fitting : (db : Db) (a : Action) → first_missing db (relation_of a ∷ []) ≡ None → action_fits (schema_at db (relation_of a)) (kind_over schema c) a ≡ true → IsFitting db (bound schema c a)
  bound_fitting db (action.Insert relation terms) there e = fitting db (bound schema c (action.Insert relation terms)) there (bound_fits (schema_at db relation) (action.Insert relation terms) e)
  bound_fitting db (action.Delete relation pairs) there e = fitting db (bound schema c (action.Delete relation pairs)) there (bound_fits (schema_at db relation) (action.Delete relation pairs) e)
  bound_fitting db (action.Set relation column term pairs) there e =
      fitting db (bound schema c (action.Set relation column term pairs)) there (bound_fits (schema_at db relation) (action.Set relation column term pairs) e)
  bound_fitting db (action.Add relation column term pairs) there e =
      fitting db (bound schema c (action.Add relation column term pairs)) there (bound_fits (schema_at db relation) (action.Add relation column term pairs) e)

-- a change of an event has the rows that the event has
pub rows_of_event : (on : Event) (c : Change) → is_event on c ≡ true → (has_old on ≡ is_some (row_before c)) × (has_new on ≡ is_some (row_after c))
rows_of_event event.Insert (change.Insert key new) e = (refl, refl)
rows_of_event event.Insert (change.Delete key old) e = absurd (cc)
rows_of_event event.Insert (change.Update from old to new) e = absurd (cc)
rows_of_event event.Delete (change.Insert key new) e = absurd (cc)
rows_of_event event.Delete (change.Delete key old) e = (refl, refl)
rows_of_event event.Delete (change.Update from old to new) e = absurd (cc)
rows_of_event event.Update (change.Insert key new) e = absurd (cc)
rows_of_event event.Update (change.Delete key old) e = absurd (cc)
rows_of_event event.Update (change.Update from old to new) e = (refl, refl)

-- ---- the values of a row in columns of the same kinds
pub values_pair : (own schema : List Column) (row : Row) (columns others : List Name) → Fits schema row → are_one_kind (kinds_at schema columns) (kinds_at own others) ≡ true
    → pairs_fit own (term_kind [] false false) (map (λ pair. (pair.0, Const pair.1)) (zip others (values_in schema row columns))) ≡ true
values_pair own schema row [] [] fits e = refl
values_pair own schema row [] (other ∷ others) fits e = absurd (cc)
values_pair own schema row (column ∷ columns) [] fits e = absurd (cc)
values_pair own schema row (column ∷ columns) (other ∷ others) fits e =
    let parts = and_parts (is_one_kind (column_kind schema column) (column_kind own other)) (are_one_kind (kinds_at schema columns) (kinds_at own others)) e in
    let one = one_kind (column_kind schema column) (column_kind own other) parts.0 in
    let found : IsValueOf one.0 (column_value schema (Some row) column) = value_in schema row column one.0 fits one.1 in
    ap (λ (o : Option Value). pairs_fit own (term_kind [] false false) (map (λ pair. (pair.0, Const pair.1)) (zip (other ∷ others) (cons_option o (values_in schema row columns))))) found.there
    ∙ and_from _ _ (are_alike (column_kind own other) (Some (kind_of found.value)) one.0 one.2 (ap (λ (k : Kind). Some k) found.kinded)) (values_pair own schema row columns others fits parts.1)

-- ---- terms that have a kind without a row are values
constant_by_kind : (t : Term) (k : Kind) → term_kind [] false false t ≡ Some k → IsConstant t
constant_by_kind (Const v) k e = tt
constant_by_kind (New name) k e = absurd (cc)
constant_by_kind (Old name) k e = absurd (cc)

constant_where : (k : Option Kind) (t : Term) → is_one_kind k (term_kind [] false false t) ≡ true → IsConstant t
constant_where k t e = let one = one_kind k (term_kind [] false false t) e in constant_by_kind t one.0 one.2

constants : (kinds : List (Option Kind)) (terms : List Term) → are_one_kind kinds (map (term_kind [] false false) terms) ≡ true → All IsConstant terms
constants [] [] e = All-nil IsConstant
constants [] (t ∷ terms) e = absurd (cc)
constants (k ∷ kinds) [] e = absurd (cc)
constants (k ∷ kinds) (t ∷ terms) e =
    let parts = and_parts (is_one_kind k (term_kind [] false false t)) (are_one_kind kinds (map (term_kind [] false false) terms)) e in
    All-cons IsConstant t terms (constant_where k t parts.0) (constants kinds terms parts.1)

constant_pairs : (own : List Column) (pairs : List (Name × Term)) → pairs_fit own (term_kind [] false false) pairs ≡ true → All (λ pair. IsConstant pair.1) pairs
constant_pairs own [] e = All-nil (λ (pair : Name × Term). IsConstant pair.1)
constant_pairs own (pair ∷ pairs) e =
    let parts = and_parts (is_one_kind (column_kind own pair.0) (term_kind [] false false pair.1)) (pairs_fit own (term_kind [] false false) pairs) e in
    All-cons (λ (x : Name × Term). IsConstant x.1) pair pairs (constant_where (column_kind own pair.0) pair.1 parts.0) (constant_pairs own pairs parts.1)

all_values : (own : List Column) (a : Action) → action_fits own (term_kind [] false false) a ≡ true → EachTerm IsConstant a
all_values own (action.Insert relation terms) e = constants (map (λ c. Some c.kind) own) terms e
all_values own (action.Delete relation pairs) e = constant_pairs own pairs e
all_values own (action.Set relation column term pairs) e =
    let parts = and_parts (is_one_kind (column_kind own column) (term_kind [] false false term)) (pairs_fit own (term_kind [] false false) pairs) e in
    (constant_where (column_kind own column) term parts.0, constant_pairs own pairs parts.1)
all_values own (action.Add relation column term pairs) e =
    let parts = and_parts (is_one_kind (column_kind own column) (Some kind.Int) && is_one_kind (Some kind.Int) (term_kind [] false false term)) (pairs_fit own (term_kind [] false false) pairs) e in (
      constant_where (Some kind.Int) term (and_parts (is_one_kind (column_kind own column) (Some kind.Int)) (is_one_kind (Some kind.Int) (term_kind [] false false term)) parts.0).1,
      constant_pairs own pairs parts.1,
    )

pub terms-values : TermsAreValues
terms-values db a fits = all_values (schema_at db (relation_of a)) a fits.fits
