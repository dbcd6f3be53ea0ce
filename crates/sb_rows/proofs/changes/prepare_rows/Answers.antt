use Rattle.std.proofs.Common.{[], Ok, Err, refl}
use Rattle.sb_treemethod.specs.MethodCall.TheVariants.{Prepare}
use Rattle.sb_registry.specs.Slots.{owned}
use Rattle.sb_registry.proofs.SpacesLemmas.{IfErr-passed}
use Rattle.sb_rows.proofs.CallsLemmas.{CostsBy-within, Works-made, Works-passed}
use Rattle.sb_rows.proofs.LackingLemmas.{lacks}
use Rattle.sb_rows.proofs.PlacingsLemmas.{LeavesRows-own, prepared}
use Rattle.sb_rows.proofs.changes.prepare_rows.Goals as goal

pub returns-in_err-made-clause-costs : goal.returns-in_err-made-clause-costs
returns-in_err-made-clause-costs g c = λ want s has new live.
    CostsBy-within g.S.PageSpace.leads live.box c.args.inst.now Prepare [] c.args.space.now c.run_method-made.new.space (Err c.in_err-made.field-0.0) ((c.in_err-made.ensures.runs live).costs want s [] has (new, refl))

pub returns-in_err-made-clause-works : goal.returns-in_err-made-clause-works
returns-in_err-made-clause-works g c =
    Works-passed g.S.PageSpace.has g.S.PageSpace.leads g.S.PageSpace.fails g.S.PageSpace.durable g.S.PageSpace.total c.args.inst.now.owner c.args.space.now c.run_method-made.new.space c.from_residual.result c.in_err-made.field-0.0 c.from_residual.ensures.1 c.in_err-made.ensures.works

pub returns-in_err-made-clause-full : goal.returns-in_err-made-clause-full
returns-in_err-made-clause-full g c =
    IfErr-passed c.from_residual.result c.in_err-made.field-0.0 _ c.from_residual.ensures.1 (λ want s has new live.
    lacks g.S.PageSpace.leads g.S.PageSpace.durable g.S.PageSpace.total live.box c.args.inst.now Prepare c.args.space.now s [] _ _ (λ ctx room. room [] (new, refl)) c.in_err-made.field-0.0
    ((c.in_err-made.ensures.runs live).full want s has))

pub returns-in_err-made-clause-undamaged : goal.returns-in_err-made-clause-undamaged
returns-in_err-made-clause-undamaged g c =
    IfErr-passed c.from_residual.result c.in_err-made.field-0.0 _ c.from_residual.ensures.1 (λ want s has new. (c.in_err-made.ensures.runs c.requires.live).sound want s [] has (new, refl))

pub returns-clause-prepared : goal.returns-clause-prepared
returns-clause-prepared g c = λ want s has new.
    let live = c.requires.live in
    let inst = c.args.inst.now in
    let left = (c.in_ok-made.ensures.runs live).answers want s has in
    LeavesRows-own g.S.PageSpace.has _ inst want s c.run_method-made.new.space _ left live []
    (prepared live.box inst (owned s inst.owner) (owned left.slots inst.owner) c.in_ok-made.made c.in_ok-made.ensures.may c.in_ok-made.ensures.ends left.own new)

pub returns-clause-costs : goal.returns-clause-costs
returns-clause-costs g c = λ want s has new live.
    CostsBy-within g.S.PageSpace.leads live.box c.args.inst.now Prepare [] c.args.space.now c.run_method-made.new.space (Ok c.in_ok-made.made) ((c.in_ok-made.ensures.runs live).costs want s [] has (new, refl))

pub returns-clause-works : goal.returns-clause-works
returns-clause-works g c = Works-made g.S.PageSpace.has g.S.PageSpace.leads g.S.PageSpace.fails g.S.PageSpace.durable g.S.PageSpace.total c.args.inst.now.owner c.args.space.now c.run_method-made.new.space c.in_ok-made.made _ c.in_ok-made.ensures.works
