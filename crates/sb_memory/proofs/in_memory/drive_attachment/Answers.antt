use Rattle.sb_ctx.specs.AttachAnswers.{Answers}
use Rattle.sb_drive.specs.AttachCalls.{HandsUpIn}
use Rattle.sb_memory.specs.AttachCalls.{HandsUp}
use Rattle.sb_memory.specs.MemorySpaces.{IsChanged}
use Rattle.sb_memory.specs.Contents.{pages_of, slots}
use Rattle.sb_memory.proofs.AttachLemmas.{HasCause-in_memory, OnFind-so}
use Rattle.sb_memory.proofs.MemoryLemmas.{Has, no_want, own-Leaves, HandsUp-in, Keeps-Leaves}
use Rattle.sb_memory.proofs.in_memory.drive_attachment.Goals as goal

pub returns-in_err-run_attachment-clause-damaged : goal.returns-in_err-run_attachment-clause-damaged
returns-in_err-run_attachment-clause-damaged g c =
    let a = (goal.Attachment-dyn g c.args.boxed.now).attachment c.args.boxed.now.1 in
    HasCause-in_memory a c.args.inst.now c.args.call.now (pages_of c.args.memory.now.now c.args.inst.now.owner) c.from_residual.result c.in_err-run_attachment.field-0.0
    c.from_residual.ensures.1 (c.in_err-run_attachment.ensures.damaged no_want (slots c.args.memory.now.now) c.are_pages.ensures.has)

pub returns-clause-answers : goal.returns-clause-answers
returns-clause-answers g c =
    let a = (goal.Attachment-dyn g c.args.boxed.now).attachment c.args.boxed.now.1 in
    let inst = c.args.inst.now in
    let s = slots c.args.memory.now.now in
    own-Leaves inst.owner s c.run_attachment.new.space (λ after. Answers a inst c.args.call.now c.args.ctx.now (pages_of c.args.memory.now.now inst.owner) after c.in_ok-run_attachment.field-0)
    (c.in_ok-run_attachment.ensures.answers no_want s c.are_pages.ensures.has)

pub returns-clause-find : goal.returns-clause-find
returns-clause-find g c =
    let owner = c.args.inst.now.owner in
    let old = c.args.memory.now in
    let new = c.run_attachment.new.space in
    let ctx = c.run_attachment.new.ctx in
    let end = c.in_ok-run_attachment.field-0 in
    OnFind-so end (HandsUpIn Has IsChanged owner old new ctx end) (HandsUp owner old new ctx end) (HandsUp-in owner old new ctx end c.are_pages.ensures.has) c.in_ok-run_attachment.ensures.find

pub returns-clause-others : goal.returns-clause-others
returns-clause-others g c =
    Keeps-Leaves c.args.inst.now.owner c.args.memory.now c.run_attachment.new.space (λ after. Unit {0}) (c.in_ok-run_attachment.ensures.others no_want (slots c.args.memory.now.now) c.are_pages.ensures.has)
    c.in_ok-run_attachment.ensures.leads
