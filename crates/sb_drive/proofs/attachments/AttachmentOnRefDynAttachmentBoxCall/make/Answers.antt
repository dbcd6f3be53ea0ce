use Rattle.sb_drive.proofs.AttachLemmas.{KeepsPromise-changes}
use Rattle.sb_drive.proofs.TurnsLemmas.{Reads-attachment}
use Rattle.sb_drive.proofs.attachments.AttachmentOnRefDynAttachmentBoxCall.make.Goals as goal

pub returns-clause-keeps : goal.returns-clause-keeps
returns-clause-keeps g c = λ handed found.
    let turn = c.args.self.now in
    KeepsPromise-changes ((goal.Attachment-dyn g turn.boxed.now).attachment turn.boxed.now.1) turn.inst.now turn.call.now c.args.ctx.now handed c.make_call.new.ctx c.make_call.result found c.make_call.ensures.changes

pub returns-clause-looks : goal.returns-clause-looks
returns-clause-looks g c = λ reading. Reads-attachment c.args.self.now.call.now c.make_call.result (c.make_call.ensures.looks reading)
