use Rattle.std.proofs.Common.{◌≡◌, true, cond, sym, ap, subst, ◌∙◌}
use Rattle.sb_relation.specs.Keys.{is_record_key}
use Rattle.sb_rows.specs.declared.changes.Placing.{Placing}
use Rattle.sb_rows.specs.Placings.{OfKey, has_key}
use Rattle.sb_rows.proofs.PlacingsLemmas.{IsPlaced-left, IsPlacing-ended, OfKey-placed}
use Rattle.sb_treemethod.specs.MethodCall.TheVariants.{Insert}
use Rattle.sb_registry.proofs.SpacesLemmas.{IfErr-passed}
use Rattle.sb_rows.proofs.LackingLemmas.{lacks}
use Rattle.sb_rows.proofs.CallsLemmas.{RowCosts-made, RowCosts-passed, Works-made, Works-passed, placing_cost}
use Rattle.sb_rows.proofs.changes.insert_row.Goals as goal

pub placing_in-requires : goal.placing_in-requires
placing_in-requires g c = IsPlacing-ended c.args.inst.now c.args.row c.in_ok-made.made c.in_ok-made.ensures.may c.in_ok-made.ensures.ends

pub returns-in_err-made-clause-costs : goal.returns-in_err-made-clause-costs
returns-in_err-made-clause-costs g c = λ want s rows has h.
    RowCosts-passed g.S.PageSpace.leads h.live.box c.args.inst.now (Insert c.args.row) rows c.args.space.now c.run_method.new.space has_key c.from_residual.result c.in_err-made.field-0.0 c.from_residual.ensures.1
    ((c.in_err-made.ensures.runs h.live).costs want s rows has h.holds)

pub returns-in_err-made-clause-works : goal.returns-in_err-made-clause-works
returns-in_err-made-clause-works g c =
    Works-passed g.S.PageSpace.has g.S.PageSpace.leads g.S.PageSpace.fails g.S.PageSpace.durable g.S.PageSpace.total c.args.inst.now.owner c.args.space.now c.run_method.new.space c.from_residual.result c.in_err-made.field-0.0 c.from_residual.ensures.1 c.in_err-made.ensures.works

pub returns-in_err-made-clause-full : goal.returns-in_err-made-clause-full
returns-in_err-made-clause-full g c =
    IfErr-passed c.from_residual.result c.in_err-made.field-0.0 _ c.from_residual.ensures.1 (λ want s rows has h.
    lacks g.S.PageSpace.leads g.S.PageSpace.durable g.S.PageSpace.total h.live.box c.args.inst.now (Insert c.args.row) c.args.space.now s rows _ _ (λ ctx room. room rows h.holds) c.in_err-made.field-0.0
    ((c.in_err-made.ensures.runs h.live).full want s has))

pub returns-in_err-made-clause-undamaged : goal.returns-in_err-made-clause-undamaged
returns-in_err-made-clause-undamaged g c =
    IfErr-passed c.from_residual.result c.in_err-made.field-0.0 _ c.from_residual.ensures.1 (λ want s rows has h. (c.in_err-made.ensures.runs h.live).sound want s rows has h.holds)

pub returns-clause-placed : goal.returns-clause-placed
returns-clause-placed g c = λ want s rows has h.
    let is = IsPlacing-ended c.args.inst.now c.args.row c.in_ok-made.made c.in_ok-made.ensures.may c.in_ok-made.ensures.ends in
    IsPlaced-left g.S.PageSpace.has _ c.args.inst.now c.args.row want s c.run_method.new.space rows c.in_ok-made.made c.placing_in.result h c.placing_in.ensures is
    ((c.in_ok-made.ensures.runs h.live).answers want s has)

pub returns-clause-is_key : goal.returns-clause-is_key
returns-clause-is_key g c =
    subst (λ (p : Placing). OfKey p (λ key. is_record_key key ≡ true)) (sym c.placing_in.ensures) (OfKey-placed c.args.inst.now c.args.row c.in_ok-made.made c.in_ok-made.ensures.may)

pub returns-clause-costs : goal.returns-clause-costs
returns-clause-costs g c = λ want s rows has h.
    let is = IsPlacing-ended c.args.inst.now c.args.row c.in_ok-made.made c.in_ok-made.ensures.may c.in_ok-made.ensures.ends in
    RowCosts-made g.S.PageSpace.leads h.live.box c.args.inst.now (Insert c.args.row) rows c.args.space.now c.run_method.new.space c.in_ok-made.made has_key c.placing_in.result
    (placing_cost h.live.box (Insert c.args.row) rows c.in_ok-made.made is ∙ ap (λ (p : Placing). cond (has_key p) (h.live.box.cost (Insert c.args.row) rows) 0) (sym c.placing_in.ensures))
    ((c.in_ok-made.ensures.runs h.live).costs want s rows has h.holds)

pub returns-clause-works : goal.returns-clause-works
returns-clause-works g c = Works-made g.S.PageSpace.has g.S.PageSpace.leads g.S.PageSpace.fails g.S.PageSpace.durable g.S.PageSpace.total c.args.inst.now.owner c.args.space.now c.run_method.new.space c.in_ok-made.made c.placing_in.result c.in_ok-made.ensures.works
