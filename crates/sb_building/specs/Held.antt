-- Whether a rule holds of the rows that are built so far.
use Rattle.std.specs.Prelude.{Bool, not, ◌||◌, Option}
use Rattle.std.specs.List.{list_all}
use Rattle.sb_rule.specs.declared.change.Change.TheVariants.{Insert}
use Rattle.sb_rule.specs.declared.rule.Rule.{Rule}
use Rattle.sb_rule.specs.declared.rule.Rule.TheVariants.{TreeIndex}
use Rattle.sb_relation.specs.Db.{Name, Rows, Db, schema_at}
use Rattle.sb_relation.specs.Foreign.{AttachRules}
use Rattle.sb_relation.specs.Rules.{admits, is_unique}
use Rattle.sb_ctx.specs.AttachAnswers.{at_once}

-- of a unique index no two of them agree; of any other rule each of them is admitted as an insert into the whole database
abbrev pub holds_of : Option AttachRules → Db → Name → Rule → Rows → Bool
holds_of box db name (TreeIndex columns unique) built = not unique || is_unique (schema_at db name) columns built
holds_of box db name rule built = list_all (λ row. admits box db name (at_once rule) (Insert row.0 row.1)) built
