use Rattle.std.proofs.Common.{ap, ◌∙◌}
use Rattle.sb_rules.specs.Checks.{verdict_of}
use Rattle.sb_rules.proofs.Calls.{Changes-built}
use Rattle.sb_rules.proofs.Meaning.{Changes-memory-build}
use Rattle.sb_rules.proofs.check.CheckAttachment.on_build.Goals as goal

pub returns-in-Ok : goal.returns-in-Ok
returns-in-Ok c =
    Changes-built c.args.inst.now c.in-Ok.kept.pred c.in-Ok.kept.deferred c.args._key.now c.args.tuple.now c.args._ctx.now c.verdict.result
    c.requires.clean c.in-Ok.ensures (c.verdict.ensures ∙ ap verdict_of c.eval.ensures)

pub returns-in-Err : goal.returns-in-Err
returns-in-Err c = Changes-memory-build 5 c.args.inst.now c.args._key.now c.args.tuple.now c.args._ctx.now c.requires.clean
