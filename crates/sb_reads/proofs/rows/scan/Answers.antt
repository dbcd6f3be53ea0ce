use Rattle.std.proofs.Common.{◌∙◌, true, ap}
use Rattle.sb_drive.specs.Slots.{owned}
use Rattle.std.proofs.Common.{take}
use Rattle.std.specs.List.{filter}
use Rattle.sb_rows.specs.Scans.{rows_above}
use Rattle.sb_plain.specs.declared.reply.Reply.TheVariants.{Rows as Rowed}
use Rattle.sb_reads.proofs.RowsLemmas.{scanned}
use Rattle.sb_reads.proofs.rows.scan.Goals as goal

pub returns-clause-reply : goal.returns-clause-reply
returns-clause-reply g c = λ want s rows has h.
    let table = c.args.table.now in
    let law = (h.live.law.formed table (owned s table.owner) rows h.holds).lawful in
    ap Rowed
    (c.from_vec.ensures ∙ c.in_ok-rows.ensures.rows want s rows has h ∙ (λ i. take (c.most_rows.ensures i) (filter (λ row. true) (rows_above (c.in_ok-low.ensures i) rows))) ∙ scanned c.args.after.now c.args.limit rows law.few)
