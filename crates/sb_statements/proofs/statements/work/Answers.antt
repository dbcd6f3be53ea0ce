use Rattle.std.proofs.Common.{IfErr, IfOk, sym, subst}
use Rattle.sb_plain.specs.declared.command.Command.{Command}
use Rattle.sb_statements.specs.Statements.{IsDone, IsStopped, answer_of}
use Rattle.sb_statements.proofs.statements.work.Goals as goal

pub returns-in-Attach-clause-done : goal.returns-in-Attach-clause-done
returns-in-Attach-clause-done g c =
    subst (λ (x : Command). IfOk c.attach_rule.result (λ y. IsDone g.S.PageSpace.has g.S.PageSpace.spent g.B.Boxes.meanings x c.args.running.now (answer_of y) c.attach_rule.new.running)) (sym c.in-Attach.is) c.attach_rule.ensures.done

pub returns-in-Attach-clause-stopped : goal.returns-in-Attach-clause-stopped
returns-in-Attach-clause-stopped g c =
    subst (λ (x : Command). IfErr c.attach_rule.result (λ r. IsStopped g.S.PageSpace.has g.S.PageSpace.spent g.S.PageSpace.leads g.S.PageSpace.fails g.S.PageSpace.table g.B.Boxes.meanings x c.args.running.now r c.attach_rule.new.running)) (sym c.in-Attach.is) c.attach_rule.ensures.stopped

pub returns-in-Insert-clause-done : goal.returns-in-Insert-clause-done
returns-in-Insert-clause-done g c =
    subst (λ (x : Command). IfOk c.insert.result (λ y. IsDone g.S.PageSpace.has g.S.PageSpace.spent g.B.Boxes.meanings x c.args.running.now (answer_of y) c.insert.new.running)) (sym c.in-Insert.is) c.insert.ensures.done

pub returns-in-Insert-clause-stopped : goal.returns-in-Insert-clause-stopped
returns-in-Insert-clause-stopped g c =
    subst (λ (x : Command). IfErr c.insert.result (λ r. IsStopped g.S.PageSpace.has g.S.PageSpace.spent g.S.PageSpace.leads g.S.PageSpace.fails g.S.PageSpace.table g.B.Boxes.meanings x c.args.running.now r c.insert.new.running)) (sym c.in-Insert.is) c.insert.ensures.stopped

pub returns-in-Delete-clause-done : goal.returns-in-Delete-clause-done
returns-in-Delete-clause-done g c =
    subst (λ (x : Command). IfOk c.delete.result (λ y. IsDone g.S.PageSpace.has g.S.PageSpace.spent g.B.Boxes.meanings x c.args.running.now (answer_of y) c.delete.new.running)) (sym c.in-Delete.is) c.delete.ensures.done

pub returns-in-Delete-clause-stopped : goal.returns-in-Delete-clause-stopped
returns-in-Delete-clause-stopped g c =
    subst (λ (x : Command). IfErr c.delete.result (λ r. IsStopped g.S.PageSpace.has g.S.PageSpace.spent g.S.PageSpace.leads g.S.PageSpace.fails g.S.PageSpace.table g.B.Boxes.meanings x c.args.running.now r c.delete.new.running)) (sym c.in-Delete.is) c.delete.ensures.stopped

pub returns-in-Update-clause-done : goal.returns-in-Update-clause-done
returns-in-Update-clause-done g c =
    subst (λ (x : Command). IfOk c.update.result (λ y. IsDone g.S.PageSpace.has g.S.PageSpace.spent g.B.Boxes.meanings x c.args.running.now (answer_of y) c.update.new.running)) (sym c.in-Update.is) c.update.ensures.done

pub returns-in-Update-clause-stopped : goal.returns-in-Update-clause-stopped
returns-in-Update-clause-stopped g c =
    subst (λ (x : Command). IfErr c.update.result (λ r. IsStopped g.S.PageSpace.has g.S.PageSpace.spent g.S.PageSpace.leads g.S.PageSpace.fails g.S.PageSpace.table g.B.Boxes.meanings x c.args.running.now r c.update.new.running)) (sym c.in-Update.is) c.update.ensures.stopped

pub returns-in-Create-clause-stopped : goal.returns-in-Create-clause-stopped
returns-in-Create-clause-stopped g c =
    subst (λ (x : Command). IfErr c.create_relation.result (λ r. IsStopped g.S.PageSpace.has g.S.PageSpace.spent g.S.PageSpace.leads g.S.PageSpace.fails g.S.PageSpace.table g.B.Boxes.meanings x c.args.running.now r c.create_relation.new.running)) (sym c.in-Create.is) c.create_relation.ensures.stopped

pub returns-in-Drop-clause-stopped : goal.returns-in-Drop-clause-stopped
returns-in-Drop-clause-stopped g c =
    subst (λ (x : Command). IfErr c.drop_named.result (λ r. IsStopped g.S.PageSpace.has g.S.PageSpace.spent g.S.PageSpace.leads g.S.PageSpace.fails g.S.PageSpace.table g.B.Boxes.meanings x c.args.running.now r c.drop_named.new.running)) (sym c.in-Drop.is) c.drop_named.ensures.stopped

pub returns-in-Detach-clause-stopped : goal.returns-in-Detach-clause-stopped
returns-in-Detach-clause-stopped g c =
    subst (λ (x : Command). IfErr c.detach_rule.result (λ r. IsStopped g.S.PageSpace.has g.S.PageSpace.spent g.S.PageSpace.leads g.S.PageSpace.fails g.S.PageSpace.table g.B.Boxes.meanings x c.args.running.now r c.detach_rule.new.running)) (sym c.in-Detach.is) c.detach_rule.ensures.stopped

pub returns-in-Act-clause-stopped : goal.returns-in-Act-clause-stopped
returns-in-Act-clause-stopped g c =
    subst (λ (x : Command). IfErr c.act_on.result (λ r. IsStopped g.S.PageSpace.has g.S.PageSpace.spent g.S.PageSpace.leads g.S.PageSpace.fails g.S.PageSpace.table g.B.Boxes.meanings x c.args.running.now r c.act_on.new.running)) (sym c.in-Act.is) c.act_on.ensures.stopped
