use Rattle.std.proofs.Common.{◌≡◌, ◌∙◌, ◌==◌, not, length, Bool, ap, take, filter}
use Rattle.sb_relation.specs.Db.{Key, Row, Rows}
use Rattle.sb_relation.specs.Lawful.{is_long_for}
use Rattle.sb_drive.proofs.SpacesLemmas.{IfErr-passed}
use Rattle.sb_rows.proofs.CallsLemmas.{Looks-made, Looks-passed}
use Rattle.sb_rows.proofs.ScansLemmas.{rows_above-all}
use Rattle.sb_building.proofs.LengthLemmas.{any-taken}
use Rattle.sb_building.proofs.lengths.has_long_row.Goals as goal

pub returns-in_err-found-clause-looks : goal.returns-in_err-found-clause-looks
returns-in_err-found-clause-looks g c =
    Looks-passed g.S.PageSpace.has g.S.PageSpace.leads g.S.PageSpace.fails c.args.space.now c.rows_where.new.space c.from_residual.result c.in_err-found.field-0.0 c.from_residual.ensures.1 c.in_err-found.ensures.looks

pub returns-in_err-found-clause-undamaged : goal.returns-in_err-found-clause-undamaged
returns-in_err-found-clause-undamaged g c = IfErr-passed c.from_residual.result c.in_err-found.field-0.0 _ c.from_residual.ensures.1 c.in_err-found.ensures.undamaged

pub returns-clause-long : goal.returns-clause-long
returns-clause-long g c = λ want s rows has h.
    let test : Key × Row → Bool = λ row. is_long_for c.args.table.now.schema row.1 c.args.rule.now in
    let items : c.in_ok-found.found.items ≡ take 1 (filter test rows) = c.in_ok-found.ensures.rows want s rows has h ∙ ap (λ (l : Rows). take 1 (filter test l)) (rows_above-all rows) in
    c.has_some.ensures ∙ ap (λ (l : Rows). not (length l == 0)) (c.deref.ensures.value ∙ items) ∙ any-taken test rows

pub returns-clause-looks : goal.returns-clause-looks
returns-clause-looks g c = Looks-made g.S.PageSpace.has g.S.PageSpace.leads g.S.PageSpace.fails c.args.space.now c.rows_where.new.space c.in_ok-found.found _ c.in_ok-found.ensures.looks
