use Rattle.sb_standing.specs.Tables.{db_of}
use Rattle.sb_drive.proofs.SpacesLemmas.{IfErr-passed}
use Rattle.sb_reads.proofs.ReadsLemmas.{may-show, read-show}
use Rattle.sb_reads.proofs.reading.read_catalogue.Goals as goal

pub returns-in_err-lines-in-Show-clause-undamaged : goal.returns-in_err-lines-in-Show-clause-undamaged
returns-in_err-lines-in-Show-clause-undamaged g c =
    IfErr-passed c.from_residual-in_err-lines-in-Show.result c.in_err-lines-in-Show.field-0.0 _ c.from_residual-in_err-lines-in-Show.ensures.1 (λ want s gone kept has keeps may.
    c.in_err-lines-in-Show.ensures.undamaged (g.B.Boxes.meanings c.args.boxes.now) want s kept has keeps.tables (may-show (db_of kept) c.args.command.now c.in-Show.relation c.in-Show.is may))

pub returns-in_ok-lines-in-Show-clause-reply : goal.returns-in_ok-lines-in-Show-clause-reply
returns-in_ok-lines-in-Show-clause-reply g c = λ want s gone kept ext has keeps may.
    read-show ext (db_of kept) c.args.command.now c.in-Show.relation c.in_ok-lines-in-Show.lines c.in-Show.is
    (c.in_ok-lines-in-Show.ensures.lines (g.B.Boxes.meanings c.args.boxes.now) want s kept has keeps.tables)
