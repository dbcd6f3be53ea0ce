use Rattle.std.proofs.Common.{inl, refl, sym, subst, ◌∙◌}
use Rattle.sb_relation.specs.Db.{Name}
use Rattle.sb_fold.specs.declared.refusal.Refusal.TheVariants.{TooLong}
use Rattle.sb_fold.specs.Wishes.{Turns}
use Rattle.sb_wishes.specs.declared.settling.Outcome.{Outcome}
use Rattle.sb_wishes.specs.Edits.{settled}
use Rattle.sb_wishes.specs.Outcomes.{Meets, Refuses}
use Rattle.sb_drive.specs.declared.space.SpaceFault.TheVariants.{NoMemory}
use Rattle.sb_drive.proofs.SpacesLemmas.{IfErr-passed}
use Rattle.sb_standing.proofs.LackingLemmas.{where_short}
use Rattle.sb_wishes.proofs.BegunLemmas.{begins_turn, begun_within}
use Rattle.sb_wishes.proofs.LackingLemmas.{lacks_turn}
use Rattle.sb_wishes.proofs.WorksLemmas.{Works-no_memory}
use Rattle.sb_wishes.proofs.SettledLemmas.{Comes-turn, Comes-long, Meets-turned}
use Rattle.sb_wishes.proofs.settling.turn.Goals as goal

pub returns-in_err-relation-clause-works : goal.returns-in_err-relation-clause-works
returns-in_err-relation-clause-works g c =
    Works-no_memory g.S.PageSpace.has g.S.PageSpace.leads g.S.PageSpace.fails g.S.PageSpace.durable g.S.PageSpace.total c.args.table.now.owner c.args.space.now c.args.space.now c.from_residual.result c.from_residual.ensures.1
    (g.met.S.PageSpace.stays c.args.space.now) (g.met.S.PageSpace.stays c.args.space.now) (λ want s has. has)

pub returns-then-is_too_long-clause-comes : goal.returns-then-is_too_long-clause-comes
returns-then-is_too_long-clause-comes g c = λ want s r has t h there.
    subst (λ (n : Name). Refuses g.S.PageSpace.has g.S.PageSpace.leads (g.B.Boxes.meanings c.args.boxes.now) c.args.table.now want s c.args.space.now c.args.space.now r (settled c.args.table.now.relation r (Turns c.args.key c.args.old c.args.new)) (TooLong n)) (sym c.in_ok-relation.ensures)
    (Comes-long g.S.PageSpace.has g.S.PageSpace.leads (g.B.Boxes.meanings c.args.boxes.now) c.args.table.now want s c.args.space.now c.args.space.now c.args.rules.now r h (Turns c.args.key c.args.old c.args.new) c.args.new t refl
    (sym c.is_too_long.ensures.is ∙ c.if-is_too_long.true) has (g.met.S.PageSpace.stays c.args.space.now))

pub returns-in_err-at-clause-works : goal.returns-in_err-at-clause-works
returns-in_err-at-clause-works g c =
    Works-no_memory g.S.PageSpace.has g.S.PageSpace.leads g.S.PageSpace.fails g.S.PageSpace.durable g.S.PageSpace.total c.args.table.now.owner c.args.space.now c.args.space.now c.from_residual-in_err-at.result c.from_residual-in_err-at.ensures.1
    (g.met.S.PageSpace.stays c.args.space.now) (g.met.S.PageSpace.stays c.args.space.now) (λ want s has. has)

pub returns-in_err-row-clause-works : goal.returns-in_err-row-clause-works
returns-in_err-row-clause-works g c =
    Works-no_memory g.S.PageSpace.has g.S.PageSpace.leads g.S.PageSpace.fails g.S.PageSpace.durable g.S.PageSpace.total c.args.table.now.owner c.args.space.now c.args.space.now c.from_residual-in_err-row.result c.from_residual-in_err-row.ensures.1
    (g.met.S.PageSpace.stays c.args.space.now) (g.met.S.PageSpace.stays c.args.space.now) (λ want s has. has)

pub returns-in_err-relation-clause-full : goal.returns-in_err-relation-clause-full
returns-in_err-relation-clause-full g c = IfErr-passed c.from_residual.result NoMemory _ c.from_residual.ensures.1 (λ want s r has t h there. tt)

pub returns-in_err-at-clause-full : goal.returns-in_err-at-clause-full
returns-in_err-at-clause-full g c = IfErr-passed c.from_residual-in_err-at.result NoMemory _ c.from_residual-in_err-at.ensures.1 (λ want s r has t h there. tt)

pub returns-in_err-row-clause-full : goal.returns-in_err-row-clause-full
returns-in_err-row-clause-full g c = IfErr-passed c.from_residual-in_err-row.result NoMemory _ c.from_residual-in_err-row.ensures.1 (λ want s r has t h there. tt)

pub returns-in_err-placed-clause-full : goal.returns-in_err-placed-clause-full
returns-in_err-placed-clause-full g c =
    IfErr-passed c.from_residual-in_err-placed.result c.in_err-placed.field-0.0 _ c.from_residual-in_err-placed.ensures.1
    (λ want s r has t h there.
    where_short c.in_err-placed.field-0.0 _ _
    (λ total lacks. lacks_turn (g.B.Boxes.meanings c.args.boxes.now) s c.args.table.now r h total g.S.PageSpace.leads c.args.space.now c.update_row.new.space c.args.rules.now c.args.key c.in_ok-at.at c.args.old c.args.new c.in_ok-row.row
    c.in_ok-at.ensures c.in_ok-row.ensures t there (sym c.is_too_long.ensures.is ∙ c.if-is_too_long.false) lacks
    (begun_within g.S.PageSpace.leads _ c.args.space.now c.update_row.new.space (c.in_err-placed.ensures.costs want s r.rows has h)))
    (c.in_err-placed.ensures.full want s r.rows has h))

pub returns-clause-comes : goal.returns-clause-comes
returns-clause-comes g c = λ want s r has t h there.
    Comes-turn g.S.PageSpace.has g.S.PageSpace.leads (g.B.Boxes.meanings c.args.boxes.now) c.args.table.now want s c.args.space.now c.update_row.new.space c.args.rules.now r h c.in_ok-relation.relation c.args.key c.in_ok-at.at c.args.old c.args.new c.in_ok-row.row c.in_ok-placed.placed c.turned.result
    c.in_ok-relation.ensures c.in_ok-at.ensures c.in_ok-row.ensures c.turned.ensures t there c.requires.may.0 (sym c.is_too_long.ensures.is ∙ c.if-is_too_long.false) (c.is_too_long.ensures.row c.if-is_too_long.false) c.in_ok-placed.ensures.is_key
    (c.in_ok-placed.ensures.placed want s r.rows has h) (c.in_ok-placed.ensures.costs want s r.rows has h)

pub returns-clause-meets : goal.returns-clause-meets
returns-clause-meets g c =
    subst (λ (o : Outcome). Meets c.args.table.now.schema c.args.rules.now o) (sym c.turned.ensures)
    (Meets-turned c.args.table.now c.args.rules.now c.in_ok-relation.relation c.args.key c.args.old c.args.new c.in_ok-placed.placed c.requires.may.0 c.requires.may.1
    (sym c.is_too_long.ensures.is ∙ c.if-is_too_long.false) (c.is_too_long.ensures.row c.if-is_too_long.false) c.in_ok-placed.ensures.is_key)

pub returns-in_err-relation-clause-begins : goal.returns-in_err-relation-clause-begins
returns-in_err-relation-clause-begins g c = IfErr-passed c.from_residual.result NoMemory _ c.from_residual.ensures.1 (λ want s r has t h there. inl (g.met.S.PageSpace.stays c.args.space.now))

pub returns-in_err-at-clause-begins : goal.returns-in_err-at-clause-begins
returns-in_err-at-clause-begins g c = IfErr-passed c.from_residual-in_err-at.result NoMemory _ c.from_residual-in_err-at.ensures.1 (λ want s r has t h there. inl (g.met.S.PageSpace.stays c.args.space.now))

pub returns-in_err-row-clause-begins : goal.returns-in_err-row-clause-begins
returns-in_err-row-clause-begins g c = IfErr-passed c.from_residual-in_err-row.result NoMemory _ c.from_residual-in_err-row.ensures.1 (λ want s r has t h there. inl (g.met.S.PageSpace.stays c.args.space.now))

pub returns-in_err-placed-clause-begins : goal.returns-in_err-placed-clause-begins
returns-in_err-placed-clause-begins g c =
    IfErr-passed c.from_residual-in_err-placed.result c.in_err-placed.field-0.0 _ c.from_residual-in_err-placed.ensures.1
    (λ want s r has t h there.
    begins_turn g.S.PageSpace.leads (g.B.Boxes.meanings c.args.boxes.now) s c.args.table.now r h c.args.space.now c.update_row.new.space c.args.rules.now c.args.key c.in_ok-at.at c.args.old c.args.new c.in_ok-row.row
    c.in_ok-at.ensures c.in_ok-row.ensures t (sym c.is_too_long.ensures.is ∙ c.if-is_too_long.false) (c.in_err-placed.ensures.costs want s r.rows has h))
