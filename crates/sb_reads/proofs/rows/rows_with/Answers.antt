use Rattle.std.proofs.Common.{◌∙◌}
use Rattle.sb_drive.specs.Slots.{owned}
use Rattle.sb_relation.specs.Rules.{has_values}
use Rattle.sb_reads.proofs.RowsLemmas.{passed}
use Rattle.sb_reads.proofs.rows.rows_with.Goals as goal

pub returns-clause-reply : goal.returns-clause-reply
returns-clause-reply g c = λ want s rows has h.
    let table = c.args.table.now in
    let law = (h.live.law.formed table (owned s table.owner) rows h.holds).lawful in
    let said = c.in_ok-rows.ensures.rows want s rows has h ∙ passed (has_values table.schema c.args.columns.now c.args.values.now) rows law.few in
    cc
