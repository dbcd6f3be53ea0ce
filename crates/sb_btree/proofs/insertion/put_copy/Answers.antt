use Rattle.std.proofs.Common.{Some, ap, ◌∙◌, arith}
use Rattle.sb_node.proofs.Runs.{form_size}
use Rattle.sb_btree.proofs.Tops.{edit_given}
use Rattle.sb_ctx.specs.View.{edits_of}
use Rattle.sb_btree.specs.Spending.{taken_of}
use Rattle.sb_btree.proofs.Edits.{edited}
use Rattle.sb_btree.proofs.Written.{edits-whole, taken-whole}
use Rattle.sb_node.proofs.Edited.{node_of-form}
use Rattle.sb_btree.proofs.insertion.put_copy.Goals as goal

pub edit-requires-clause-room : goal.edit-requires-clause-room
edit-requires-clause-room c = omega (arith, c.requires.room, form_size c.put_in.new.page (c.put_in.ensures.put c.if-put_in.true).form)

pub returns-in_ok-edit-clause-put : goal.returns-in_ok-edit-clause-put
returns-in_ok-edit-clause-put c =
    let made = c.put_in.ensures.put c.if-put_in.true in (
      c.requires.lacks,
      record {
        bytes = c.put_in.new.page;
        changed = edited c.args.ctx.now c.edit.new.self c.args.page c.put_in.new.page c.requires.room (form_size c.put_in.new.page made.form) c.in_ok-edit.ensures.ok;
        node_is = node_of-form c.put_in.new.page made.form ∙ ap Some made.node_is;
      },
    )

pub returns-in_ok-edit-clause-given : goal.returns-in_ok-edit-clause-given
returns-in_ok-edit-clause-given c =
    edit_given c.args.ctx.now c.edit.new.self c.args.page c.put_in.new.page c.requires.room
    (form_size c.put_in.new.page (c.put_in.ensures.put c.if-put_in.true).form) c.in_ok-edit.ensures.ok

pub returns-in_ok-edit-clause-edits : goal.returns-in_ok-edit-clause-edits
returns-in_ok-edit-clause-edits c =
    let room = c.requires.room in
    let long = form_size c.put_in.new.page (c.put_in.ensures.put c.if-put_in.true).form in
    omega (arith, edits-whole c.args.ctx.now c.args.page c.put_in.new.page room long, ap edits_of (edited c.args.ctx.now c.edit.new.self c.args.page c.put_in.new.page room long c.in_ok-edit.ensures.ok))

pub returns-in_ok-edit-clause-room : goal.returns-in_ok-edit-clause-room
returns-in_ok-edit-clause-room c =
    let room = c.requires.room in
    let long = form_size c.put_in.new.page (c.put_in.ensures.put c.if-put_in.true).form in
    ap taken_of (edited c.args.ctx.now c.edit.new.self c.args.page c.put_in.new.page room long c.in_ok-edit.ensures.ok) ∙ taken-whole c.args.ctx.now c.args.page c.put_in.new.page room long
