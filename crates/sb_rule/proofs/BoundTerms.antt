-- Bound terms are constants where their columns are there.
use Rattle.std.proofs.Common.{◌≡◌, List, map, All, Option, Some, None, IsSome, IsTrue, is_some, refl, sym, subst}
use Rattle.std.proofs.lemmas.List.Elements.{All-map}
use Rattle.sb_value.specs.declared.value.Value.{Value}
use Rattle.sb_value.specs.declared.schema.Column.{Column}
use Rattle.sb_value.specs.declared.schema.Kind.{Kind}
use Rattle.sb_value.specs.declared.schema.Kind.TheVariants as kind
use Rattle.sb_pred.specs.declared.predicate.Op.TheVariants.{Eq}
use Rattle.sb_pred.specs.declared.predicate.Term.{Term}
use Rattle.sb_pred.specs.Truth.{term_value, HaveOneKind}
use Rattle.sb_pred.specs.Typing.{term_kind, is_one_kind}
use Rattle.sb_pred.proofs.Typed.{sides_have_values}
use Rattle.sb_rule.specs.Rows.{Name}
use Rattle.sb_rule.specs.declared.change.Change.{Change}
use Rattle.sb_rule.specs.Bound.{row_before, row_after, constant_or, bound_term, bound_pair, FitsSchema, IsThere, IsConstant}

one_kind_self : (o : Option Kind) → IsSome o → IsTrue (is_one_kind o o)
one_kind_self (Some kind.Int) h = refl
one_kind_self (Some kind.Text) h = refl
one_kind_self None h = absurd (cc)

constant_from_value : (t : Term) (v : Option Value) → HaveOneKind v v → IsConstant (constant_or t v)
constant_from_value t (Some v) h = tt
constant_from_value t None h = absurd h

constant : (schema : List Column) (c : Change) (t : Term) → FitsSchema schema c → IsThere schema c t → IsConstant (bound_term schema c t)
constant schema c t f there =
    constant_from_value t (term_value schema (row_before c) (row_after c) t)
    (sides_have_values schema (row_before c) (row_after c) Eq t t f.before f.after (one_kind_self (term_kind schema (is_some (row_before c)) (is_some (row_after c)) t) there))

pub term_closed : (schema : List Column) (c : Change) (t b : Term) → FitsSchema schema c → IsThere schema c t → b ≡ bound_term schema c t → IsConstant b
term_closed schema c t b f there e = subst IsConstant (sym e) (constant schema c t f there)

pub terms_closed : (schema : List Column) (c : Change) (terms found : List Term) → FitsSchema schema c → All (IsThere schema c) terms
    → found ≡ map (bound_term schema c) terms → All IsConstant found
terms_closed schema c terms found f there e =
    subst (All IsConstant) (sym e) (All-map IsConstant (bound_term schema c) terms (λ k d l. constant schema c _ f (there k d l)))

pub pairs_closed : (schema : List Column) (c : Change) (pairs found : List (Name × Term)) → FitsSchema schema c → All (λ pair. IsThere schema c pair.1) pairs
    → found ≡ map (bound_pair schema c) pairs → All (λ (pair : Name × Term). IsConstant pair.1) found
pairs_closed schema c pairs found f there e =
    subst (All (λ (pair : Name × Term). IsConstant pair.1)) (sym e)
    (All-map (λ (pair : Name × Term). IsConstant pair.1) (bound_pair schema c) pairs (λ k d l. constant schema c _ f (there k d l)))
