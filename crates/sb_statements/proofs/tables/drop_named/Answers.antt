use Rattle.sb_fold.specs.Building.{drop_relation}
use Rattle.sb_building.specs.Working.{IsStoppedFor, StandsFor, extensions_in}
use Rattle.sb_plain.specs.Step.{Plain}
use Rattle.sb_statements.proofs.AnswerLemmas.{answered_made, answered_stopped}
use Rattle.sb_statements.proofs.tables.drop_named.Goals as goal

pub returns-in-Ok-clause-done : goal.returns-in-Ok-clause-done
returns-in-Ok-clause-done g c = λ h stands may.
    let meanings = g.B.Boxes.meanings in
    let ext = extensions_in meanings c.args.running.now in
    answered_made (StandsFor g.S.PageSpace.has g.S.PageSpace.spent meanings) (IsStoppedFor g.S.PageSpace.has g.S.PageSpace.spent g.S.PageSpace.leads g.S.PageSpace.fails g.S.PageSpace.table meanings) (drop_relation ext c.args.relation.now) h c.drop_relation.new.running (λ _. Plain) tt
    (c.in-Ok.ensures.made h stands may)

pub returns-in-Err-clause-stopped : goal.returns-in-Err-clause-stopped
returns-in-Err-clause-stopped g c = λ h stands may.
    let meanings = g.B.Boxes.meanings in
    let ext = extensions_in meanings c.args.running.now in
    answered_stopped (StandsFor g.S.PageSpace.has g.S.PageSpace.spent meanings) (IsStoppedFor g.S.PageSpace.has g.S.PageSpace.spent g.S.PageSpace.leads g.S.PageSpace.fails g.S.PageSpace.table meanings) (drop_relation ext c.args.relation.now) h c.drop_relation.new.running (λ _. Plain) c.in-Err.refusal
    (c.in-Err.ensures.refused h stands may)
