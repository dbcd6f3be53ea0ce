-- Whether a tuple fits the columns of a relation.
use Rattle.std.specs.Prelude.{◌≡◌, ℕ, suc, nat_le, Bool, true, false, cond, ◌&&◌, List, [], ◌∷◌, length, Option, Some, None, option_map}
use Rattle.sb_value.specs.declared.value.Value.{Value}
use Rattle.sb_value.specs.declared.value.Value.TheVariants.{Int, Text}
use Rattle.sb_value.specs.declared.schema.Kind.{Kind}
use Rattle.sb_value.specs.declared.schema.Kind.TheVariants as kind
use Rattle.sb_value.specs.declared.schema.Column.{Column}

abbrev pub kind_of : Value → Kind
kind_of (Int n) = kind.Int
kind_of (Text s) = kind.Text

abbrev pub is_of_kind : Kind → Value → Bool
is_of_kind kind.Int (Int n) = true
is_of_kind kind.Text (Text s) = true
is_of_kind kind.Int (Text s) = false
is_of_kind kind.Text (Int n) = false

-- the first place where a value is missing, is one too many or is of another kind
abbrev pub first_misfit : List Column → List Value → Option ℕ
first_misfit [] [] = None
first_misfit [] (v ∷ vs) = Some 0
first_misfit (c ∷ cs) [] = Some 0
first_misfit (c ∷ cs) (v ∷ vs) = cond (is_of_kind c.kind v) (option_map suc (first_misfit cs vs)) (Some 0)

-- each column has a value of its kind, and there are no others
abbrev pub Fits : List Column → List Value → Type 0
Fits schema tuple = first_misfit schema tuple ≡ None

abbrev pub is_within : Column → Value → Bool
is_within c (Int n) = true
is_within c (Text s) = nat_le (length s) c.limit

-- no text is longer than its column allows
abbrev pub is_short_enough : List Column → List Value → Bool
is_short_enough [] vs = true
is_short_enough (c ∷ cs) [] = true
is_short_enough (c ∷ cs) (v ∷ vs) = is_within c v && is_short_enough cs vs
