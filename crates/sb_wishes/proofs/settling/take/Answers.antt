use Rattle.std.proofs.Common.{inl}
use Rattle.sb_drive.specs.declared.space.SpaceFault.TheVariants.{NoMemory}
use Rattle.sb_drive.proofs.SpacesLemmas.{IfErr-passed}
use Rattle.sb_standing.proofs.LackingLemmas.{where_short}
use Rattle.sb_wishes.proofs.BegunLemmas.{begins_take, begun_within}
use Rattle.sb_wishes.proofs.LackingLemmas.{lacks_take}
use Rattle.sb_wishes.proofs.WorksLemmas.{Works-no_memory}
use Rattle.sb_wishes.proofs.SettledLemmas.{Comes-take}
use Rattle.sb_wishes.proofs.settling.take.Goals as goal

pub returns-in_err-relation-clause-works : goal.returns-in_err-relation-clause-works
returns-in_err-relation-clause-works g c =
    Works-no_memory g.S.PageSpace.has g.S.PageSpace.leads g.S.PageSpace.fails g.S.PageSpace.durable g.S.PageSpace.total c.args.table.now.owner c.args.space.now c.args.space.now c.from_residual.result c.from_residual.ensures.1
    (g.met.S.PageSpace.stays c.args.space.now) (g.met.S.PageSpace.stays c.args.space.now) (λ want s has. has)

pub returns-in_err-at-clause-works : goal.returns-in_err-at-clause-works
returns-in_err-at-clause-works g c =
    Works-no_memory g.S.PageSpace.has g.S.PageSpace.leads g.S.PageSpace.fails g.S.PageSpace.durable g.S.PageSpace.total c.args.table.now.owner c.args.space.now c.args.space.now c.from_residual-in_err-at.result c.from_residual-in_err-at.ensures.1
    (g.met.S.PageSpace.stays c.args.space.now) (g.met.S.PageSpace.stays c.args.space.now) (λ want s has. has)

pub returns-in_err-relation-clause-full : goal.returns-in_err-relation-clause-full
returns-in_err-relation-clause-full g c = IfErr-passed c.from_residual.result NoMemory _ c.from_residual.ensures.1 (λ want s r has h there. tt)

pub returns-in_err-at-clause-full : goal.returns-in_err-at-clause-full
returns-in_err-at-clause-full g c = IfErr-passed c.from_residual-in_err-at.result NoMemory _ c.from_residual-in_err-at.ensures.1 (λ want s r has h there. tt)

pub returns-in_err-gone-clause-full : goal.returns-in_err-gone-clause-full
returns-in_err-gone-clause-full g c =
    IfErr-passed c.from_residual-in_err-gone.result c.in_err-gone.field-0.0 _ c.from_residual-in_err-gone.ensures.1
    (λ want s r has h there.
    where_short c.in_err-gone.field-0.0 _ _
    (λ total lacks. lacks_take (g.B.Boxes.meanings c.args.boxes.now) s c.args.table.now r h total g.S.PageSpace.leads c.args.space.now c.delete_row.new.space c.args.key c.in_ok-at.at c.args.old c.in_ok-at.ensures there lacks
    (begun_within g.S.PageSpace.leads _ c.args.space.now c.delete_row.new.space (c.in_err-gone.ensures.costs want s r.rows has h)))
    (c.in_err-gone.ensures.full want s r.rows has h))

pub returns-clause-comes : goal.returns-clause-comes
returns-clause-comes g c = λ want s r has h there.
    Comes-take g.S.PageSpace.has g.S.PageSpace.leads (g.B.Boxes.meanings c.args.boxes.now) c.args.table.now want s c.args.space.now c.delete_row.new.space r h c.in_ok-relation.relation c.args.key c.in_ok-at.at c.args.old c.in_ok-gone.gone c.taken.result
    c.in_ok-relation.ensures c.in_ok-at.ensures c.taken.ensures there c.requires.may.0 (c.in_ok-gone.ensures.gone want s r.rows has h) (c.in_ok-gone.ensures.costs want s r.rows has h)

pub returns-in_err-relation-clause-begins : goal.returns-in_err-relation-clause-begins
returns-in_err-relation-clause-begins g c = IfErr-passed c.from_residual.result NoMemory _ c.from_residual.ensures.1 (λ want s r has h there. inl (g.met.S.PageSpace.stays c.args.space.now))

pub returns-in_err-at-clause-begins : goal.returns-in_err-at-clause-begins
returns-in_err-at-clause-begins g c = IfErr-passed c.from_residual-in_err-at.result NoMemory _ c.from_residual-in_err-at.ensures.1 (λ want s r has h there. inl (g.met.S.PageSpace.stays c.args.space.now))

pub returns-in_err-gone-clause-begins : goal.returns-in_err-gone-clause-begins
returns-in_err-gone-clause-begins g c =
    IfErr-passed c.from_residual-in_err-gone.result c.in_err-gone.field-0.0 _ c.from_residual-in_err-gone.ensures.1
    (λ want s r has h there.
    begins_take g.S.PageSpace.leads (g.B.Boxes.meanings c.args.boxes.now) s c.args.table.now r h c.args.space.now c.delete_row.new.space c.args.key c.in_ok-at.at c.args.old c.in_ok-at.ensures
    (c.in_err-gone.ensures.costs want s r.rows has h))
