-- How many buckets a hash index has: 4 for no rows, and one more for each insert that leaves more than 8 rows a bucket.
use Rattle.std.specs.Prelude.{ℕ, ◌+◌, ◌*◌, nat_lt, cond, [], ◌∷◌, length}
use Rattle.sb_rule.specs.declared.change.Change.{Change}
use Rattle.sb_rule.specs.declared.change.Change.TheVariants.{Insert}
use Rattle.sb_rule.specs.declared.rule.Rule.{Rule}
use Rattle.sb_rule.specs.declared.rule.Rule.TheVariants.{HashIndex}
use Rattle.sb_relation.specs.Db.{Rows, Attached}

-- over no rows; a rule of another kind has no buckets
abbrev pub first_buckets : Rule → ℕ
first_buckets (HashIndex columns) = 4
first_buckets _ = 0

-- one more bucket where there are more than 8 rows a bucket
abbrev pub buckets_with : ℕ → ℕ → ℕ
buckets_with rows buckets = cond (nat_lt (8 * buckets) rows) (buckets + 1) buckets

-- after a change that left these rows
abbrev pub next_buckets : Rule → Change → Rows → ℕ → ℕ
next_buckets (HashIndex columns) (Insert key new) rows buckets = buckets_with (length rows) buckets
next_buckets _ c rows buckets = buckets

-- with so many rows already, and with each of these rows inserted behind them, one by one
abbrev pub counted_buckets : ℕ → Rows → ℕ → ℕ
counted_buckets before [] buckets = buckets
counted_buckets before (row ∷ rows) buckets = counted_buckets (before + 1) rows (buckets_with (before + 1) buckets)

-- over rows that stand when the rule is attached, each counted as an insert
abbrev pub standing_buckets : Rule → Rows → ℕ
standing_buckets (HashIndex columns) rows = counted_buckets 0 rows (first_buckets (HashIndex columns))
standing_buckets rule rows = first_buckets rule

-- an attachment after a change that left these rows
abbrev pub grown : Change → Rows → Attached → Attached
grown c rows a = record a { buckets = next_buckets a.rule c rows a.buckets }
