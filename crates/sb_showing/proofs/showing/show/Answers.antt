use Rattle.std.proofs.Common.{Option, Some, IfSome, sym, ap, subst, ◌∙◌}
use Rattle.sb_relation.specs.Db.{Name}
use Rattle.sb_catalog.specs.declared.descriptor.Descriptor.{Descriptor}
use Rattle.sb_catalog.specs.Descriptors.{IsStorableDescriptor}
use Rattle.sb_drive.specs.declared.space.SpaceFault.TheVariants.{NoMemory}
use Rattle.sb_drive.proofs.SpacesLemmas.{IfErr-passed}
use Rattle.sb_opened.proofs.CallsLemmas.{Looks-made, Looks-no_memory}
use Rattle.sb_showing.specs.Lines.{descriptor_lines}
use Rattle.sb_showing.proofs.LinesLemmas.{shown-kept, shown-none}
use Rattle.sb_showing.proofs.showing.show.Goals as goal

pub returns-in_err-descriptor-clause-undamaged : goal.returns-in_err-descriptor-clause-undamaged
returns-in_err-descriptor-clause-undamaged g c =
    IfErr-passed c.from_residual.result c.in_err-descriptor.field-0.0 _ c.from_residual.ensures.1 c.in_err-descriptor.ensures.undamaged

pub returns-in_default-clause-lines : goal.returns-in_default-clause-lines
returns-in_default-clause-lines g c = λ m want s kept has tables.
    shown-none kept c.args.relation.now (sym c.in_default.is ∙ c.in_ok-descriptor.ensures.found m want s kept has tables)

pub lines_of-requires : goal.lines_of-requires
lines_of-requires g c = record { storable = subst (λ (x : Option Descriptor). IfSome x IsStorableDescriptor) c.in-Some.is c.in_ok-descriptor.ensures.storable }

pub returns-in_err-lines-clause-undamaged : goal.returns-in_err-lines-clause-undamaged
returns-in_err-lines-clause-undamaged g c =
    IfErr-passed c.from_residual-in_err-lines.result NoMemory _ c.from_residual-in_err-lines.ensures.1 (λ m want s kept has tables. tt)

pub returns-in_err-lines-clause-looks : goal.returns-in_err-lines-clause-looks
returns-in_err-lines-clause-looks g c =
    let looks = c.in_ok-descriptor.ensures.looks in
    Looks-no_memory g.S.PageSpace.has g.S.PageSpace.leads g.S.PageSpace.fails c.args.space.now c.descriptor_at.new.space c.from_residual-in_err-lines.result c.from_residual-in_err-lines.ensures.1
    looks.leads looks.same

pub returns-clause-lines : goal.returns-clause-lines
returns-clause-lines g c = λ m want s kept has tables.
    let d = c.in-Some.descriptor in
    ap Some (c.in_ok-lines.ensures ∙ ap (λ (name : Name). descriptor_lines name d) c.as_str.ensures)
    ∙ shown-kept m c.args.place.root s kept c.args.relation.now d tables (sym c.in-Some.is ∙ c.in_ok-descriptor.ensures.found m want s kept has tables)

pub returns-clause-looks : goal.returns-clause-looks
returns-clause-looks g c =
    Looks-made g.S.PageSpace.has g.S.PageSpace.leads g.S.PageSpace.fails c.args.space.now c.descriptor_at.new.space c.in_ok-descriptor.field-0 _ c.in_ok-descriptor.ensures.looks
