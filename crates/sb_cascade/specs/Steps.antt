-- The steps of a change, as this crate takes them.
use Rattle.std.specs.Prelude.{ℕ, List, Option}
use Rattle.sb_rule.specs.declared.action.Action.{Action}
use Rattle.sb_rule.specs.declared.change.Change.{Change}
use Rattle.sb_relation.specs.Db.{Name, Key, Db, rows_at, schema_at, row_at}
use Rattle.sb_relation.specs.Fits.{relation_of}
use Rattle.sb_fold.specs.Extensions.{Extensions}
use Rattle.sb_fold.specs.Fold.{Changes, attachments_at, change_if, following, queue_late, unless_vetoed, vetoing, wish_for}
use Rattle.sb_fold.specs.Outcome.{Work, made, change_to, ◌>>=◌}
use Rattle.sb_fold.specs.Wishes.{Wish}

-- the attachments test a change; what is late waits; and these are the actions that follow at once
abbrev pub ask_all : Extensions → Name → Change → Work (List Action)
ask_all ext name c =
    (λ going. unless_vetoed name (vetoing ext going.db name c (attachments_at going.db name)) going)
    >>= λ _. change_to (queue_late name c)
    >>= λ _. (λ going. made (following going.db name c) going)

-- what an action wishes of the row of a key, where it still stands and still matches
abbrev pub wish_there : Db → Action → Key → Option Wish
wish_there db a key = wish_for (schema_at db (relation_of a)) a key (row_at (rows_at db (relation_of a)) key)

-- that row, and how many rows that is
abbrev pub change_key : Changes → Action → Key → Work ℕ
change_key changes a key = λ going. change_if changes (relation_of a) (wish_there going.db a key) going
