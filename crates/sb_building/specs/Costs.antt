-- How many changes the definitions charge for a rule that is attached.
use Rattle.std.specs.Prelude.{ℕ, ◌+◌, [], ◌∷◌, ◌++◌}
use Rattle.sb_rule.specs.declared.rule.Rule.{Rule}
use Rattle.sb_rule.specs.declared.change.Change.TheVariants.{Insert}
use Rattle.sb_relation.specs.Buckets.{standing_buckets}
use Rattle.sb_relation.specs.Db.{Key, Name, Row, Rows, Db, rows_at, with_rows}
use Rattle.sb_fold.specs.Building.{reach_build}
use Rattle.sb_fold.specs.Costs.{descriptor_cost, rule_cost}
use Rattle.sb_fold.specs.Extensions.{Extensions}
use Rattle.sb_fold.specs.Outcome.{Going, begun}

-- work on a database where nothing was spent
abbrev pub at_first : Db → Going
at_first db = begun db (record { actions = []; entries = [] }) (record { durable = []; others = [] }) 0 []

-- what its build spends, from its preparation to the last row
abbrev pub build_cost : Extensions → Db → Name → Rule → ℕ
build_cost ext db relation rule = (reach_build ext relation rule (at_first db)).trail.spent

-- a row that is built behind others, and all rows that stand behind those that were built
abbrev pub row_cost : Extensions → Db → Name → Rule → Rows → Key × Row → ℕ
row_cost ext db relation rule built row =
    rule_cost ext (with_rows db relation built) relation rule (standing_buckets rule built) (Insert row.0 row.1)

abbrev pub rest_cost : Extensions → Db → Name → Rule → Rows → Rows → ℕ
rest_cost ext db relation rule built [] = 0
rest_cost ext db relation rule built (row ∷ rows) =
    row_cost ext db relation rule built row + rest_cost ext db relation rule (built ++ row ∷ []) rows

abbrev pub rows_cost : Extensions → Db → Name → Rule → Rows → ℕ
rows_cost ext db relation rule rows = rest_cost ext db relation rule [] rows

-- what is left once the instance was prepared: its rows, and its place in the descriptor
abbrev pub build_left : Extensions → Db → Name → Rule → ℕ
build_left ext db relation rule = rows_cost ext db relation rule (rows_at db relation) + descriptor_cost ext db
