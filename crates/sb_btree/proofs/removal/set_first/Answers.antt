use Rattle.std.proofs.Common.{◌∙◌, ◌+◌, ◌≤◌, sym, subst, arith}
use Rattle.sb_ctx.proofs.ViewLaws.{room_of-page}
use Rattle.sb_node.proofs.Runs.{form_size}
use Rattle.sb_btree.proofs.Tops.{edit_given}
use Rattle.sb_ctx.specs.View.{View, edits_of}
use Rattle.sb_btree.specs.Spending.{written}
use Rattle.sb_btree.proofs.Edits.{edited}
use Rattle.sb_btree.proofs.Written.{edits-over}
use Rattle.sb_btree.proofs.removal.set_first.Goals as goal

pub returns-clause-given : goal.returns-clause-given
returns-clause-given c =
    edit_given c.args.ctx.now c.edit.new.self c.args.page c.set_head.new.page (room_of-page c.args.ctx.now c.args.page c.args.copy.now c.requires.same ∙ form_size c.args.copy.now c.requires.form)
    (form_size c.set_head.new.page c.set_head.ensures.form) c.in_ok-edit.ensures.ok

pub returns-clause-edits : goal.returns-clause-edits
returns-clause-edits c =
    let room = room_of-page c.args.ctx.now c.args.page c.args.copy.now c.requires.same ∙ form_size c.args.copy.now c.requires.form in
    let long = form_size c.set_head.new.page c.set_head.ensures.form in
    let now = edited c.args.ctx.now c.edit.new.self c.args.page c.set_head.new.page room long c.in_ok-edit.ensures.ok in
    subst (λ (v : View). edits_of v + written c.args.ctx.now c.args.page ≤ edits_of c.args.ctx.now + written v c.args.page) (sym now)
    (omega (arith, edits-over c.args.ctx.now c.args.page c.set_head.new.page room long))
