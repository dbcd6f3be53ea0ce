use Rattle.std.proofs.Common.{sym, ◌∙◌, ap}
use Rattle.std.specs.Option.{option_copied}
use Rattle.sb_rules.specs.Checks.{verdict_of}
use Rattle.sb_rules.proofs.Calls.{Changes-tested, Changes-gone, Changes-left}
use Rattle.sb_rules.proofs.Meaning.{Changes-memory}
use Rattle.sb_rules.proofs.check.CheckAttachment.on_change.Goals as goal

pub returns : goal.returns
returns c =
    Changes-tested c.args.inst.now c.args.change.now c.args._ctx.now c.in-Ok.kept.pred c.in-Ok.kept.deferred c.in-Some.new.now c.verdict.result
    c.requires.clean c.in-Ok.ensures c.if-kept.false (sym c.in-Some.ensures) (c.verdict.ensures ∙ ap verdict_of c.eval.ensures)

pub returns-in_default : goal.returns-in_default
returns-in_default c = Changes-memory 5 c.args.inst.now c.args.change.now c.args._ctx.now c.requires.clean

pub returns-in_default-new_row : goal.returns-in_default-new_row
returns-in_default-new_row c =
    Changes-gone c.args.inst.now c.args.change.now c.args._ctx.now c.in-Ok.kept.pred c.in-Ok.kept.deferred
    c.requires.clean c.in-Ok.ensures (sym c.new_row.ensures ∙ ap option_copied c.in_default-new_row.is)

pub returns-then-kept : goal.returns-then-kept
returns-then-kept c =
    Changes-left c.args.inst.now c.args.change.now c.args._ctx.now c.in-Ok.kept.pred c.in-Ok.kept.deferred c.in-Some.new.now c.queue.result
    c.requires.clean c.in-Ok.ensures c.if-kept.true (sym c.in-Some.ensures) c.queue.ensures
