use Rattle.std.proofs.Common.{◌≡◌, Ok, Err, Some, sym, ap, subst, ◌∙◌}
use Rattle.sb_relation.specs.Db.{Name}
use Rattle.sb_catalog.specs.declared.descriptor.Descriptor.{Descriptor}
use Rattle.sb_drive.proofs.SpacesLemmas.{IfErr-passed}
use Rattle.sb_standing.proofs.CallsLemmas.{Looks-later, Looks-made, Looks-passed}
use Rattle.sb_standing.specs.Tables.{db_of}
use Rattle.sb_opened.specs.Opened.{MayOpen}
use Rattle.sb_opened.proofs.Entries.{MayOpen-at}
use Rattle.sb_opened.proofs.opening.open_relation.Goals as goal

pub returns-in_err-descriptor-clause-undamaged : goal.returns-in_err-descriptor-clause-undamaged
returns-in_err-descriptor-clause-undamaged g c =
    IfErr-passed c.from_residual.result c.in_err-descriptor.field-0.0 _ c.from_residual.ensures.1
    (λ want s kept has tables stand. c.in_err-descriptor.ensures.undamaged (g.B.Boxes.meanings c.args.boxes.now) want s kept has tables)

pub returns-in_default-clause-found : goal.returns-in_default-clause-found
returns-in_default-clause-found g c = λ want s kept has tables.
    sym c.in_default.is ∙ c.in_ok-descriptor.ensures.found (g.B.Boxes.meanings c.args.boxes.now) want s kept has tables

pub returns-in_err-open-clause-undamaged : goal.returns-in_err-open-clause-undamaged
returns-in_err-open-clause-undamaged g c =
    IfErr-passed c.from_residual-in_err-open.result c.in_err-open.field-0.0 _ c.from_residual-in_err-open.ensures.1
    (λ want s kept has tables stand.
    let m = g.B.Boxes.meanings c.args.boxes.now in
    let read = sym c.in-Some.is ∙ c.in_ok-descriptor.ensures.found m want s kept has tables in
    let may = MayOpen-at m c.args.place.root s kept c.args.name.now c.in-Some.descriptor tables stand read in
    c.in_err-open.ensures.undamaged want s kept (c.in_ok-descriptor.ensures.looks.same want s has) tables
    (subst (λ (name : Name). MayOpen m (db_of kept) name c.in-Some.descriptor) (sym c.in_ok-copy.ensures) may))

pub returns-in_err-open-clause-looks : goal.returns-in_err-open-clause-looks
returns-in_err-open-clause-looks g c =
    let first = c.in_ok-descriptor.ensures.looks in
    Looks-passed g.S.PageSpace.has g.S.PageSpace.leads g.S.PageSpace.fails c.args.space.now c.open.new.space c.from_residual-in_err-open.result c.in_err-open.field-0.0 c.from_residual-in_err-open.ensures.1
    (Looks-later g.S.PageSpace.has g.S.PageSpace.leads g.S.PageSpace.fails c.args.space.now c.descriptor_at.new.space c.open.new.space (Err c.in_err-open.field-0.0) g.met.S.PageSpace.goes_on g.met.S.PageSpace.fails_on first.leads first.same c.in_err-open.ensures.looks)

pub returns-clause-found : goal.returns-clause-found
returns-clause-found g c = λ want s kept has tables.
    let read = sym c.in-Some.is ∙ c.in_ok-descriptor.ensures.found (g.B.Boxes.meanings c.args.boxes.now) want s kept has tables in
    ap (λ (header : Name × Descriptor). Some header.1) c.in_ok-open.ensures.header ∙ read

pub returns-clause-looks : goal.returns-clause-looks
returns-clause-looks g c =
    let first = c.in_ok-descriptor.ensures.looks in
    Looks-made g.S.PageSpace.has g.S.PageSpace.leads g.S.PageSpace.fails c.args.space.now c.open.new.space c.in_ok-open.open _
    (Looks-later g.S.PageSpace.has g.S.PageSpace.leads g.S.PageSpace.fails c.args.space.now c.descriptor_at.new.space c.open.new.space (Ok c.in_ok-open.open) g.met.S.PageSpace.goes_on g.met.S.PageSpace.fails_on first.leads first.same c.in_ok-open.ensures.looks)
