use Rattle.std.proofs.Common.{ap, sym, ◌∙◌}
use Rattle.sb_ctx.specs.declared.calls.AttachCall.TheVariants.{Late, NextEntry, Sums, Seek}
use Rattle.sb_drive.proofs.AttachLemmas.{Changes-Looks-is}
use Rattle.sb_drive.proofs.attachments.make_call.Goals as goal

pub returns-in-Late-clause-changes : goal.returns-in-Late-clause-changes
returns-in-Late-clause-changes g c =
    Changes-Looks-is ((goal.Attachment-dyn g c.args.boxed.now).attachment c.args.boxed.now.1) c.args.inst.now c.args.call.now (Late c.in-Late.entry) c.args.ctx.now c.late_check.new.ctx c.late_check.result
    c.in-Late.is c.requires.clean c.late_check.ensures

pub returns-in-NextEntry-clause-changes : goal.returns-in-NextEntry-clause-changes
returns-in-NextEntry-clause-changes g c =
    Changes-Looks-is ((goal.Attachment-dyn g c.args.boxed.now).attachment c.args.boxed.now.1) c.args.inst.now c.args.call.now (NextEntry c.in-NextEntry.low _) c.args.ctx.now c.next_entry.new.ctx c.next_entry.result
    (c.in-NextEntry.is ∙ ap (NextEntry c.in-NextEntry.low) (sym c.as_ref.ensures.value)) c.requires.clean c.next_entry.ensures

pub returns-in-Sums-clause-changes : goal.returns-in-Sums-clause-changes
returns-in-Sums-clause-changes g c =
    Changes-Looks-is ((goal.Attachment-dyn g c.args.boxed.now).attachment c.args.boxed.now.1) c.args.inst.now c.args.call.now Sums c.args.ctx.now c.sums.new.ctx c.sums.result
    c.in-Sums.is c.requires.clean c.sums.ensures

pub returns-in-Seek-clause-changes : goal.returns-in-Seek-clause-changes
returns-in-Seek-clause-changes g c =
    Changes-Looks-is ((goal.Attachment-dyn g c.args.boxed.now).attachment c.args.boxed.now.1) c.args.inst.now c.args.call.now (Seek c.in-Seek.query) c.args.ctx.now c.seek.new.ctx c.seek.result
    c.in-Seek.is c.requires.clean c.seek.ensures
