use Rattle.std.proofs.Common.{IfErr, IfOk, subst}
use Rattle.sb_relation.specs.Db.{Key}
use Rattle.sb_fold.specs.Fold.{first_change}
use Rattle.sb_fold.specs.Wishes.{Remove}
use Rattle.sb_cascade.proofs.Forward.{forward_within}
use Rattle.sb_building.specs.Goings.{goes_none}
use Rattle.sb_building.specs.Working.{IsStoppedFor, extensions_in}
use Rattle.sb_plain.specs.declared.command.Command.TheVariants as command
use Rattle.sb_statements.specs.Statements.{IsDone, IsStopped, answer_of}
use Rattle.sb_statements.proofs.AnswerLemmas.{wanting_plainly}
use Rattle.sb_statements.proofs.rows.delete.Goals as goal

pub returns-in_default-clause-stopped : goal.returns-in_default-clause-stopped
returns-in_default-clause-stopped g c = λ h stands fits.
    let ext = extensions_in g.B.Boxes.meanings c.args.running.now in
    let relation = c.args.relation.now in
    wanting_plainly (IsStoppedFor g.S.PageSpace.has g.S.PageSpace.spent g.S.PageSpace.leads g.S.PageSpace.fails g.S.PageSpace.table g.B.Boxes.meanings) (first_change ext relation (Remove c.args.at.now)) h c.args.running.now (forward_within ext 16 relation (Remove c.args.at.now)) (record { cause = tt; licensed = tt; paid = stands.paid })

pub returns-in_default-clause-goes : goal.returns-in_default-clause-goes
returns-in_default-clause-goes g c = goes_none g.S.PageSpace.leads g.met.S.PageSpace.stays c.args.running.now

pub returns-clause-done : goal.returns-clause-done
returns-clause-done g c =
    subst (λ (x : Key). IfOk c.change_plainly.result (λ y. IsDone g.S.PageSpace.has g.S.PageSpace.spent g.B.Boxes.meanings (command.Delete c.args.relation.now x) c.args.running.now (answer_of y) c.change_plainly.new.running)) c.in-Ok.ensures
    (c.change_plainly.ensures.made)

pub returns-clause-stopped : goal.returns-clause-stopped
returns-clause-stopped g c =
    subst (λ (x : Key). IfErr c.change_plainly.result (λ r. IsStopped g.S.PageSpace.has g.S.PageSpace.spent g.S.PageSpace.leads g.S.PageSpace.fails g.S.PageSpace.table g.B.Boxes.meanings (command.Delete c.args.relation.now x) c.args.running.now r c.change_plainly.new.running)) c.in-Ok.ensures
    (c.change_plainly.ensures.refused)
