-- What holds of rules, whatever they are.
use Rattle.std.specs.Prelude.{◌≡◌, Bool, true, false, not, List, [], replicate, Option, Some, ℤ, pos}
use Rattle.std.specs.List.{list_all}
use Rattle.sb_rule.specs.declared.change.Change.TheVariants.{Insert}
use Rattle.sb_rule.specs.declared.rule.Side.TheVariants.{Main}
use Rattle.sb_rule.specs.declared.rule.Rule.{Rule}
use Rattle.sb_rule.specs.declared.rule.Rule.TheVariants.{TreeIndex, Stats, Check, Refers, Foreign}
use Rattle.sb_relation.specs.Build.{mirror_of, main_of}
use Rattle.sb_relation.specs.Db.{Name, Db, rows_at}
use Rattle.sb_relation.specs.Foreign.{AttachRules}
use Rattle.sb_relation.specs.Images.{image}
use Rattle.sb_relation.specs.Rules.{admits, holds}

-- the main instance of a rule's mirror is the rule
abbrev pub MirrorsMirror : Type 0
MirrorsMirror = (name other : Name) (rule mirror : Rule) → mirror_of name rule ≡ Some (other, mirror) → main_of other mirror ≡ Some (name, rule)

abbrev pub is_foreign : Rule → Bool
is_foreign (Foreign code desc) = true
is_foreign _ = false

-- a count, a sum and 16 buckets of stats
abbrev pub no_sums : Rule → List ℤ
no_sums (Stats column low width) = replicate 18 (pos 0)
no_sums _ = []

-- without rows an attachment with a code of ours has no entries, and its sums are 0
pub record IsEmptyImage (box : Option AttachRules) (db : Db) (name : Name) (rule : Rule) : Type 0 where
  pub entries : (image box db name rule).entries ≡ []
  pub sums : (image box db name rule).sums ≡ no_sums rule

abbrev pub NoRowsNoImage : Type 0
NoRowsNoImage = (box : Option AttachRules) (db : Db) (name : Name) (rule : Rule) → is_foreign rule ≡ false → rows_at db name ≡ [] → IsEmptyImage box db name rule

-- the rules that are tested of each new row alone, at once
abbrev pub is_by_rows : Rule → Bool
is_by_rows (TreeIndex columns unique) = not unique
is_by_rows (Check pred deferred) = not deferred
is_by_rows (Refers Main columns other others mode deferred) = not deferred
is_by_rows (Refers side columns other others mode deferred) = false
is_by_rows _ = true

-- such a rule holds where each row is admitted as an insert
abbrev pub HoldsRowByRow : Type 0
HoldsRowByRow =
    (box : Option AttachRules) (db : Db) (name : Name) (rule : Rule) → is_by_rows rule ≡ true
    → holds box db name rule ≡ list_all (λ row. admits box db name rule (Insert row.0 row.1)) (rows_at db name)
