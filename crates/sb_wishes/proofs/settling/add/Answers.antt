use Rattle.std.proofs.Common.{inl, refl, sym, subst, ◌∙◌}
use Rattle.sb_relation.specs.Db.{Name}
use Rattle.sb_fold.specs.declared.refusal.Refusal.TheVariants.{TooLong}
use Rattle.sb_fold.specs.Wishes.{Adds}
use Rattle.sb_wishes.specs.declared.settling.Outcome.{Outcome}
use Rattle.sb_wishes.specs.Edits.{settled}
use Rattle.sb_wishes.specs.Outcomes.{Meets, Refuses}
use Rattle.sb_drive.specs.declared.space.SpaceFault.TheVariants.{NoMemory}
use Rattle.sb_drive.proofs.SpacesLemmas.{IfErr-passed}
use Rattle.sb_standing.proofs.LackingLemmas.{where_short}
use Rattle.sb_wishes.proofs.BegunLemmas.{begins_add, begun_within}
use Rattle.sb_wishes.proofs.LackingLemmas.{lacks_add}
use Rattle.sb_wishes.proofs.WorksLemmas.{Works-no_memory}
use Rattle.sb_wishes.proofs.SettledLemmas.{Comes-add, Comes-long, Meets-added}
use Rattle.sb_wishes.proofs.settling.add.Goals as goal

pub returns-in_err-relation-clause-works : goal.returns-in_err-relation-clause-works
returns-in_err-relation-clause-works g c =
    Works-no_memory g.S.PageSpace.has g.S.PageSpace.leads g.S.PageSpace.fails g.S.PageSpace.durable g.S.PageSpace.total c.args.table.now.owner c.args.space.now c.args.space.now c.from_residual.result c.from_residual.ensures.1
    (g.met.S.PageSpace.stays c.args.space.now) (g.met.S.PageSpace.stays c.args.space.now) (λ want s has. has)

pub returns-then-is_too_long-clause-comes : goal.returns-then-is_too_long-clause-comes
returns-then-is_too_long-clause-comes g c = λ want s r has t h.
    subst (λ (n : Name). Refuses g.S.PageSpace.has g.S.PageSpace.leads (g.B.Boxes.meanings c.args.boxes.now) c.args.table.now want s c.args.space.now c.args.space.now r (settled c.args.table.now.relation r (Adds c.args.new)) (TooLong n)) (sym c.in_ok-relation.ensures)
    (Comes-long g.S.PageSpace.has g.S.PageSpace.leads (g.B.Boxes.meanings c.args.boxes.now) c.args.table.now want s c.args.space.now c.args.space.now c.args.rules.now r h (Adds c.args.new) c.args.new t refl
    (sym c.is_too_long.ensures.is ∙ c.if-is_too_long.true) has (g.met.S.PageSpace.stays c.args.space.now))

pub returns-in_err-row-clause-works : goal.returns-in_err-row-clause-works
returns-in_err-row-clause-works g c =
    Works-no_memory g.S.PageSpace.has g.S.PageSpace.leads g.S.PageSpace.fails g.S.PageSpace.durable g.S.PageSpace.total c.args.table.now.owner c.args.space.now c.args.space.now c.from_residual-in_err-row.result c.from_residual-in_err-row.ensures.1
    (g.met.S.PageSpace.stays c.args.space.now) (g.met.S.PageSpace.stays c.args.space.now) (λ want s has. has)

pub returns-in_err-relation-clause-full : goal.returns-in_err-relation-clause-full
returns-in_err-relation-clause-full g c = IfErr-passed c.from_residual.result NoMemory _ c.from_residual.ensures.1 (λ want s r has t h. tt)

pub returns-in_err-row-clause-full : goal.returns-in_err-row-clause-full
returns-in_err-row-clause-full g c = IfErr-passed c.from_residual-in_err-row.result NoMemory _ c.from_residual-in_err-row.ensures.1 (λ want s r has t h. tt)

pub returns-in_err-placed-clause-full : goal.returns-in_err-placed-clause-full
returns-in_err-placed-clause-full g c =
    IfErr-passed c.from_residual-in_err-placed.result c.in_err-placed.field-0.0 _ c.from_residual-in_err-placed.ensures.1
    (λ want s r has t h.
    where_short c.in_err-placed.field-0.0 _ _
    (λ total lacks. lacks_add (g.B.Boxes.meanings c.args.boxes.now) s c.args.table.now r h total g.S.PageSpace.leads c.args.space.now c.insert_row.new.space c.args.rules.now c.args.new c.in_ok-row.row c.in_ok-row.ensures t
    (sym c.is_too_long.ensures.is ∙ c.if-is_too_long.false) lacks
    (begun_within g.S.PageSpace.leads _ c.args.space.now c.insert_row.new.space (c.in_err-placed.ensures.costs want s r.rows has h)))
    (c.in_err-placed.ensures.full want s r.rows has h))

pub returns-clause-comes : goal.returns-clause-comes
returns-clause-comes g c = λ want s r has t h.
    Comes-add g.S.PageSpace.has g.S.PageSpace.leads (g.B.Boxes.meanings c.args.boxes.now) c.args.table.now want s c.args.space.now c.insert_row.new.space c.args.rules.now r h c.in_ok-relation.relation c.args.new c.in_ok-row.row c.in_ok-placed.placed c.added.result
    c.in_ok-relation.ensures c.in_ok-row.ensures c.added.ensures t (sym c.is_too_long.ensures.is ∙ c.if-is_too_long.false) (c.is_too_long.ensures.row c.if-is_too_long.false) c.in_ok-placed.ensures.is_key
    (c.in_ok-placed.ensures.placed want s r.rows has h) (c.in_ok-placed.ensures.costs want s r.rows has h)

pub returns-clause-meets : goal.returns-clause-meets
returns-clause-meets g c =
    subst (λ (o : Outcome). Meets c.args.table.now.schema c.args.rules.now o) (sym c.added.ensures)
    (Meets-added c.args.table.now c.args.rules.now c.in_ok-relation.relation c.args.new c.in_ok-placed.placed (sym c.is_too_long.ensures.is ∙ c.if-is_too_long.false) (c.is_too_long.ensures.row c.if-is_too_long.false) c.in_ok-placed.ensures.is_key)

pub returns-in_err-relation-clause-begins : goal.returns-in_err-relation-clause-begins
returns-in_err-relation-clause-begins g c = IfErr-passed c.from_residual.result NoMemory _ c.from_residual.ensures.1 (λ want s r has t h. inl (g.met.S.PageSpace.stays c.args.space.now))

pub returns-in_err-row-clause-begins : goal.returns-in_err-row-clause-begins
returns-in_err-row-clause-begins g c = IfErr-passed c.from_residual-in_err-row.result NoMemory _ c.from_residual-in_err-row.ensures.1 (λ want s r has t h. inl (g.met.S.PageSpace.stays c.args.space.now))

pub returns-in_err-placed-clause-begins : goal.returns-in_err-placed-clause-begins
returns-in_err-placed-clause-begins g c =
    IfErr-passed c.from_residual-in_err-placed.result c.in_err-placed.field-0.0 _ c.from_residual-in_err-placed.ensures.1
    (λ want s r has t h.
    begins_add g.S.PageSpace.leads (g.B.Boxes.meanings c.args.boxes.now) s c.args.table.now r h c.args.space.now c.insert_row.new.space c.args.rules.now c.args.new c.in_ok-row.row c.in_ok-row.ensures t
    (sym c.is_too_long.ensures.is ∙ c.if-is_too_long.false) (c.in_err-placed.ensures.costs want s r.rows has h))
