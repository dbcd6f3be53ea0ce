use Rattle.std.proofs.Common.{ℕ, Err, sym, subst}
use Rattle.sb_fold.specs.declared.refusal.Refusal.TheVariants.{Syntax}
use Rattle.sb_plain.specs.declared.reply.Reply.TheVariants.{Refused}
use Rattle.sb_reader.specs.declared.line.LineFault.{LineFault}
use Rattle.sb_reader.specs.Line.{IsRead}
use Rattle.sb_kernel.specs.World.{world}
use Rattle.sb_kernel.specs.Answering.{HasReplied}
use Rattle.sb_kernel.proofs.MovedLemmas.{HasReplied-bad}
use Rattle.sb_kernel.proofs.answering.answer_line.Goals as goal

pub returns-in_ok-push-in-Err-Syntax-clause-replied : goal.returns-in_ok-push-in-Err-Syntax-clause-replied
returns-in_ok-push-in-Err-Syntax-clause-replied g c =
    let w = world g.B.Boxes.meanings g.D.Disk.told g.D.Disk.len g.D.Disk.clock g.D.Disk.faults in
    let d = c.args.disk.now in
    let x = c.args.session.now in
    subst (λ (column : ℕ). HasReplied w c.args.line.now d d x x (Refused (Syntax column))) (sym c.in-Err-Syntax.column-is)
    (HasReplied-bad w c.args.line.now c.in-Err-Syntax.column d x c.requires.up
    (subst (λ (e : LineFault). IsRead c.args.line.now (Err e)) c.in-Err-Syntax.field-0-is c.in-Err-Syntax.ensures.read))
