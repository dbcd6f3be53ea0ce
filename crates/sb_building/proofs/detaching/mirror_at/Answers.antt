use Rattle.std.proofs.Common.{◌≡◌, List, Option, Some, None, option_map, sym, ap, ◌∙◌}
use Rattle.sb_drive.proofs.SpacesLemmas.{IfErr-passed}
use Rattle.sb_tables.specs.OpenRelation.{OpenRelation}
use Rattle.sb_catalog.specs.declared.descriptor.Attached.{Attached}
use Rattle.sb_tables.proofs.DetachedLemmas.{not_kept, open_refused}
use Rattle.sb_building.specs.Detaching.{mirror_among}
use Rattle.sb_building.proofs.DetachLemmas.{kept-found, mirror_kept}
use Rattle.sb_building.proofs.detaching.mirror_at.Goals as goal

pub returns-in_err-one-clause-refused : goal.returns-in_err-one-clause-refused
returns-in_err-one-clause-refused g c =
    IfErr-passed c.from_residual.result c.in_err-one.field-0.0 _ c.from_residual.ensures.1
    (λ gone aside db keeps.
    open_refused g.S.PageSpace.has g.S.PageSpace.fails _ (g.B.Boxes.meanings c.args.boxes.now) c.args.place.root gone aside db c.args.space.now c.open_relation.new.space c.in_err-one.field-0.0
    c.in_err-one.ensures.looks.refused c.in_err-one.ensures.undamaged keeps)

pub returns-in_default-clause-mirror : goal.returns-in_default-clause-mirror
returns-in_default-clause-mirror g c = λ gone aside db a keeps at.
    let found = ap (λ (o : Option OpenRelation). option_map (λ (x : OpenRelation). x.descriptor) o) (sym c.in_default.is)
    ∙ c.in_ok-one.ensures.found keeps.want keeps.slots keeps.kept keeps.has keeps.keeps.tables in
    let kept = kept-found g.S.PageSpace.has (g.B.Boxes.meanings c.args.boxes.now) c.args.place.root gone aside db c.args.space.now c.args.relation.now c.args.name.now a keeps at in
    absurd (let both : None ≡ Some kept.k = sym (not_kept keeps.kept c.args.relation.now found) ∙ kept.there in cc)

pub returns-clause-mirror : goal.returns-clause-mirror
returns-clause-mirror g c = λ gone aside db a keeps at.
    let found = ap (λ (o : Option OpenRelation). option_map (λ (x : OpenRelation). x.descriptor) o) (sym c.in-Some.is)
    ∙ c.in_ok-one.ensures.found keeps.want keeps.slots keeps.kept keeps.has keeps.keeps.tables in
    c.in_ok-mirror.ensures
    ∙ ap (λ (ds : List Attached). mirror_among ds c.args.relation.now c.args.name.now) c.as_slice.ensures
    ∙ mirror_kept g.S.PageSpace.has (g.B.Boxes.meanings c.args.boxes.now) c.args.place.root gone aside db c.args.space.now c.args.relation.now c.args.name.now a c.in-Some.one.descriptor keeps at found
