use Rattle.std.proofs.Common.{Bool, cond, sym, ap, ◌∙◌}
use Rattle.sb_rows.proofs.PlacingsLemmas.{IsDoneOrNone-ended, IsGone-left}
use Rattle.sb_treemethod.specs.MethodCall.TheVariants.{Delete}
use Rattle.sb_registry.proofs.SpacesLemmas.{IfErr-passed}
use Rattle.sb_rows.proofs.LackingLemmas.{lacks}
use Rattle.sb_rows.proofs.CallsLemmas.{RowCosts-made, RowCosts-passed, Works-made, Works-passed, gone_cost}
use Rattle.sb_rows.proofs.changes.delete_row.Goals as goal

pub is_gone-gone-requires : goal.is_gone-gone-requires
is_gone-gone-requires g c = IsDoneOrNone-ended c.args.inst.now c.args.key c.in_ok-made.made c.in_ok-made.ensures.may c.in_ok-made.ensures.ends

pub returns-in_err-made-clause-costs : goal.returns-in_err-made-clause-costs
returns-in_err-made-clause-costs g c = λ want s rows has h.
    RowCosts-passed g.S.PageSpace.leads h.live.box c.args.inst.now (Delete c.args.key) rows c.args.space.now c.run_method-made.new.space (λ gone. gone) c.from_residual.result c.in_err-made.field-0.0 c.from_residual.ensures.1
    ((c.in_err-made.ensures.runs h.live).costs want s rows has h.holds)

pub returns-in_err-made-clause-works : goal.returns-in_err-made-clause-works
returns-in_err-made-clause-works g c =
    Works-passed g.S.PageSpace.has g.S.PageSpace.leads g.S.PageSpace.fails g.S.PageSpace.durable g.S.PageSpace.total c.args.inst.now.owner c.args.space.now c.run_method-made.new.space c.from_residual.result c.in_err-made.field-0.0 c.from_residual.ensures.1 c.in_err-made.ensures.works

pub returns-in_err-made-clause-full : goal.returns-in_err-made-clause-full
returns-in_err-made-clause-full g c =
    IfErr-passed c.from_residual.result c.in_err-made.field-0.0 _ c.from_residual.ensures.1 (λ want s rows has h.
    lacks g.S.PageSpace.leads g.S.PageSpace.durable g.S.PageSpace.total h.live.box c.args.inst.now (Delete c.args.key) c.args.space.now s rows _ _ (λ ctx room. room rows h.holds) c.in_err-made.field-0.0
    ((c.in_err-made.ensures.runs h.live).full want s has))

pub returns-in_err-made-clause-undamaged : goal.returns-in_err-made-clause-undamaged
returns-in_err-made-clause-undamaged g c =
    IfErr-passed c.from_residual.result c.in_err-made.field-0.0 _ c.from_residual.ensures.1 (λ want s rows has h. (c.in_err-made.ensures.runs h.live).sound want s rows has h.holds)

pub returns-clause-gone : goal.returns-clause-gone
returns-clause-gone g c = λ want s rows has h.
    let is = IsDoneOrNone-ended c.args.inst.now c.args.key c.in_ok-made.made c.in_ok-made.ensures.may c.in_ok-made.ensures.ends in
    IsGone-left g.S.PageSpace.has _ c.args.inst.now c.args.key want s c.run_method-made.new.space rows c.in_ok-made.made c.is_gone-gone.result h c.is_gone-gone.ensures is
    ((c.in_ok-made.ensures.runs h.live).answers want s has)

pub returns-clause-costs : goal.returns-clause-costs
returns-clause-costs g c = λ want s rows has h.
    let is = IsDoneOrNone-ended c.args.inst.now c.args.key c.in_ok-made.made c.in_ok-made.ensures.may c.in_ok-made.ensures.ends in
    RowCosts-made g.S.PageSpace.leads h.live.box c.args.inst.now (Delete c.args.key) rows c.args.space.now c.run_method-made.new.space c.in_ok-made.made (λ gone. gone) c.is_gone-gone.result
    (gone_cost h.live.box (Delete c.args.key) rows c.in_ok-made.made is ∙ ap (λ (b : Bool). cond b (h.live.box.cost (Delete c.args.key) rows) 0) (sym c.is_gone-gone.ensures))
    ((c.in_ok-made.ensures.runs h.live).costs want s rows has h.holds)

pub returns-clause-works : goal.returns-clause-works
returns-clause-works g c = Works-made g.S.PageSpace.has g.S.PageSpace.leads g.S.PageSpace.fails g.S.PageSpace.durable g.S.PageSpace.total c.args.inst.now.owner c.args.space.now c.run_method-made.new.space c.in_ok-made.made c.is_gone-gone.result c.in_ok-made.ensures.works
