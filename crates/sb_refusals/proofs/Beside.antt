-- What is seen of the second relation that a rule names.
use Rattle.std.proofs.Common.{◌≡◌, List, Option, sym, ap, ◌∙◌}
use Rattle.sb_value.specs.declared.schema.Column.{Column}
use Rattle.sb_rule.specs.declared.rule.Rule.{Rule}
use Rattle.sb_relation.specs.Db.{Name, Db}
use Rattle.sb_kinds.specs.Others.{tied_by, IsBeside}
use Rattle.sb_refusals.specs.Seen.{columns_of, relation_named}

-- its columns, or none where it isn't there
pub beside_named : (db : Db) (rule : Rule) (columns : List Column) → columns ≡ columns_of (relation_named db (tied_by rule)) → IsBeside db rule columns
beside_named db rule columns e = record { second = λ name is. sym (e ∙ ap (λ (o : Option Name). columns_of (relation_named db o)) is) }
