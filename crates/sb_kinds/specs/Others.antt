-- The second relation of a rule, and what is known of it beforehand.
use Rattle.std.specs.Prelude.{◌≡◌, ℕ, Bool, List, [], ◌∷◌, Option, Some, None, option_map}
use Rattle.sb_value.specs.declared.schema.Column.{Column}
use Rattle.sb_rule.specs.declared.rule.Rule.{Rule}
use Rattle.sb_rule.specs.declared.rule.Rule.TheVariants.{JoinIndex, Refers, Trigger, Foreign}
use Rattle.sb_relation.specs.Db.{Name, Db, relation_at, schema_at}
use Rattle.sb_relation.specs.Fits.{relation_of, foreign_rule_fits}
use Rattle.sb_relation.specs.Foreign.{AttachRules}

-- the second relation of a rule
abbrev pub tied_by : Rule → Option Name
tied_by (JoinIndex side columns other others) = Some other
tied_by (Refers side columns other others mode deferred) = Some other
tied_by (Trigger on pred act deferred) = Some (relation_of act)
tied_by _ = None

-- a name that may be
abbrev pub names_of : Option Name → List Name
names_of None = []
names_of (Some name) = name ∷ []

-- these are the columns of the second relation that the rule names, if it names one
pub record IsBeside (db : Db) (rule : Rule) (columns : List Column) : Type 0 where
  pub second : (name : Name) → tied_by rule ≡ Some name → schema_at db name ≡ columns

-- the second relation that the rule names, if it names one, is there with these columns; or there are none, and it isn't there
pub record Knows (db : Db) (rule : Rule) (other : Option (List Column)) : Type 0 where
  pub second : (name : Name) → tied_by rule ≡ Some name → option_map (λ r. r.schema) (relation_at db name) ≡ other

-- whether the extension of a foreign rule's code lets it stand on these columns
pub record SaysFits (box : Option AttachRules) (schema : List Column) (rule : Rule) (fits : Bool) : Type 0 where
  pub foreign : (code : ℕ) (desc : List ℕ) → rule ≡ Foreign code desc → foreign_rule_fits box schema desc ≡ fits
