-- Constants of the columns that an action names.
use Rattle.std.specs.Prelude.{Bool, true, List, [], ◌∷◌, Option, Some, None}
use Rattle.std.specs.Str.{bytes_eq}
use Rattle.sb_value.specs.declared.value.Value.{Value}
use Rattle.sb_pred.specs.declared.predicate.Term.{Term}
use Rattle.sb_pred.specs.declared.predicate.Term.TheVariants.{Const}
use Rattle.sb_relation.specs.Db.{Name}

-- the constant of a term that is the one to take; else what is found behind it
abbrev pub const_or : Bool → Term → Option Value → Option Value
const_or true (Const value) found = Some value
const_or _ term found = found

-- the constant of the first pair of a name that has one
abbrev pub const_at : List (Name × Term) → Name → Option Value
const_at [] name = None
const_at (pair ∷ pairs) name = const_or (bytes_eq pair.0 name) pair.1 (const_at pairs name)
