use Rattle.std.proofs.Common.{sym, ◌∙◌}
use Rattle.sb_relation.specs.Db.{relation_at}
use Rattle.sb_standing.specs.Tables.{db_of}
use Rattle.sb_drive.proofs.SpacesLemmas.{IfErr-passed}
use Rattle.sb_rows.proofs.CallsLemmas.{Looks-made}
use Rattle.sb_reads.proofs.ReadsLemmas.{shown-absent, shown-there}
use Rattle.sb_reads.proofs.lines.making_lines.Goals as goal

pub returns-in_err-lines-clause-undamaged : goal.returns-in_err-lines-clause-undamaged
returns-in_err-lines-clause-undamaged g c =
    IfErr-passed c.from_residual.result c.in_err-lines.field-0.0 _ c.from_residual.ensures.1 (λ m want s kept has tables there. c.in_err-lines.ensures.undamaged m want s kept has tables)

pub returns-in_default-clause-undamaged : goal.returns-in_default-clause-undamaged
returns-in_default-clause-undamaged g c = λ m want s kept has tables there.
    let name = c.args.relation.now in
    shown-absent name (relation_at (db_of kept) name) (sym c.in_default.is ∙ c.in_ok-lines.ensures.lines m want s kept has tables) there

pub returns-clause-lines : goal.returns-clause-lines
returns-clause-lines g c = λ m want s kept has tables.
    let name = c.args.relation.now in
    shown-there name (relation_at (db_of kept) name) c.in-Some.lines (sym c.in-Some.is ∙ c.in_ok-lines.ensures.lines m want s kept has tables)

pub returns-clause-looks : goal.returns-clause-looks
returns-clause-looks g c =
    Looks-made g.S.PageSpace.has g.S.PageSpace.leads g.S.PageSpace.fails c.args.space.now c.show.new.space c.in_ok-lines.field-0 _ c.in_ok-lines.ensures.looks
