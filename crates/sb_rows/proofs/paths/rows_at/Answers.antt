use Rattle.std.proofs.Common.{◌∙◌, sym}
use Rattle.sb_rows.proofs.paths.rows_at.Goals as goal

pub returns-clause-rows : goal.returns-clause-rows
returns-clause-rows g c = λ want s rows has h. c.in_ok-found.ensures ∙ sym (c.in_ok-row.ensures.row want s rows has h)
