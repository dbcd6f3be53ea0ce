use Rattle.std.proofs.Common.{◌≡◌, Ok, Err, Some, option_copied, sym, ap, ◌∙◌}
use Rattle.sb_drive.proofs.SpacesLemmas.{IfErr-passed}
use Rattle.sb_standing.proofs.CallsLemmas.{Looks-later, Looks-made, Looks-passed}
use Rattle.sb_opened.specs.Opened.{header_of}
use Rattle.sb_opened.proofs.Entries.{MayOpen-first}
use Rattle.sb_opened.proofs.opening.next_relation.Goals as goal

pub returns-in_err-name-clause-undamaged : goal.returns-in_err-name-clause-undamaged
returns-in_err-name-clause-undamaged g c =
    IfErr-passed c.from_residual.result c.in_err-name.field-0.0 _ c.from_residual.ensures.1
    (λ want s kept has tables stand. c.in_err-name.ensures.undamaged (g.B.Boxes.meanings c.args.boxes.now) want s kept has tables)

pub returns-in_default-clause-found : goal.returns-in_default-clause-found
returns-in_default-clause-found g c = λ want s kept has tables.
    sym c.in_default.is ∙ c.in_ok-name.ensures.found (g.B.Boxes.meanings c.args.boxes.now) want s kept has tables

pub returns-in_err-next-clause-undamaged : goal.returns-in_err-next-clause-undamaged
returns-in_err-next-clause-undamaged g c =
    IfErr-passed c.from_residual-in_err-next.result c.in_err-next.field-0.0 _ c.from_residual-in_err-next.ensures.1
    (λ want s kept has tables stand.
    let m = g.B.Boxes.meanings c.args.boxes.now in
    let read = sym c.in-Some.is ∙ c.in_ok-name.ensures.found m want s kept has tables in
    c.in_err-next.ensures.undamaged want s kept (c.in_ok-name.ensures.looks.same want s has) tables
    (MayOpen-first m c.args.place.root s kept (option_copied c.args.after) c.in-Some.name c.in-Some.descriptor tables stand read))

pub returns-in_err-next-clause-looks : goal.returns-in_err-next-clause-looks
returns-in_err-next-clause-looks g c =
    let first = c.in_ok-name.ensures.looks in
    Looks-passed g.S.PageSpace.has g.S.PageSpace.leads g.S.PageSpace.fails c.args.space.now c.open.new.space c.from_residual-in_err-next.result c.in_err-next.field-0.0 c.from_residual-in_err-next.ensures.1
    (Looks-later g.S.PageSpace.has g.S.PageSpace.leads g.S.PageSpace.fails c.args.space.now c.next_descriptor.new.space c.open.new.space (Err c.in_err-next.field-0.0) g.met.S.PageSpace.goes_on g.met.S.PageSpace.fails_on first.leads first.same c.in_err-next.ensures.looks)

pub returns-clause-found : goal.returns-clause-found
returns-clause-found g c = λ want s kept has tables.
    let read = sym c.in-Some.is ∙ c.in_ok-name.ensures.found (g.B.Boxes.meanings c.args.boxes.now) want s kept has tables in
    ap Some c.in_ok-next.ensures.header ∙ read

pub returns-clause-looks : goal.returns-clause-looks
returns-clause-looks g c =
    let first = c.in_ok-name.ensures.looks in
    Looks-made g.S.PageSpace.has g.S.PageSpace.leads g.S.PageSpace.fails c.args.space.now c.open.new.space c.in_ok-next.next _
    (Looks-later g.S.PageSpace.has g.S.PageSpace.leads g.S.PageSpace.fails c.args.space.now c.next_descriptor.new.space c.open.new.space (Ok c.in_ok-next.next) g.met.S.PageSpace.goes_on g.met.S.PageSpace.fails_on first.leads first.same c.in_ok-next.ensures.looks)
