use Rattle.std.proofs.Common.{◌≡◌, Some, arith, subst, sym}
use Rattle.sb_node.proofs.Runs.{form_size}
use Rattle.sb_ctx.specs.View.{View, page_of}
use Rattle.sb_ctx.proofs.ViewLaws.{page_of-same}
use Rattle.sb_heap.specs.Links.{StayReady, StayWhole}
use Rattle.sb_heap.proofs.Writes.{Made-written, edited, ready-written, room_held, whole-written}
use Rattle.sb_heap.proofs.page.put_page.Goals as goal

pub edit-requires-clause-room : goal.edit-requires-clause-room
edit-requires-clause-room c = omega (arith, c.requires.room, form_size c.args.bytes.now c.requires.form)

pub returns-clause-made : goal.returns-clause-made
returns-clause-made c = Made-written c.args.ctx.now c.edit.new.self c.args.n c.args.bytes.now c.requires.room c.requires.form c.in_ok-edit.ensures.ok

pub returns-clause-ready : goal.returns-clause-ready
returns-clause-ready c =
    subst (StayReady c.args.ctx.now) (sym (edited c.args.ctx.now c.edit.new.self c.args.n c.args.bytes.now c.requires.room (form_size c.args.bytes.now c.requires.form) c.in_ok-edit.ensures.ok))
    (ready-written c.args.ctx.now c.args.n c.args.bytes.now c.requires.form)

pub returns-clause-there : goal.returns-clause-there
returns-clause-there c =
    subst (λ (v : View). page_of v c.args.n ≡ Some c.args.bytes.now)
    (sym (edited c.args.ctx.now c.edit.new.self c.args.n c.args.bytes.now c.requires.room (form_size c.args.bytes.now c.requires.form) c.in_ok-edit.ensures.ok))
    (page_of-same c.args.ctx.now c.args.n c.args.bytes.now (room_held c.args.ctx.now c.args.n c.requires.room))

pub returns-clause-whole : goal.returns-clause-whole
returns-clause-whole c =
    subst (StayWhole c.args.ctx.now) (sym (edited c.args.ctx.now c.edit.new.self c.args.n c.args.bytes.now c.requires.room (form_size c.args.bytes.now c.requires.form) c.in_ok-edit.ensures.ok))
    (whole-written c.args.ctx.now c.args.n c.args.bytes.now (form_size c.args.bytes.now c.requires.form))
