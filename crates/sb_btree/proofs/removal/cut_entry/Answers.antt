use Rattle.std.proofs.Common.{◌∙◌, ap, arith}
use Rattle.sb_ctx.proofs.ViewLaws.{room_of-page}
use Rattle.sb_node.proofs.Runs.{form_size}
use Rattle.sb_btree.proofs.Tops.{edit_given}
use Rattle.sb_ctx.specs.View.{edits_of}
use Rattle.sb_btree.proofs.Edits.{edited}
use Rattle.sb_btree.proofs.Written.{edits-whole}
use Rattle.sb_btree.proofs.removal.cut_entry.Goals as goal

pub returns-clause-given : goal.returns-clause-given
returns-clause-given c =
    edit_given c.args.ctx.now c.edit.new.self c.args.page c.cut.new.page (room_of-page c.args.ctx.now c.args.page c.args.copy.now c.requires.same ∙ form_size c.args.copy.now c.requires.form)
    (form_size c.cut.new.page c.cut.ensures.form) c.in_ok-edit.ensures.ok

pub returns-clause-edits : goal.returns-clause-edits
returns-clause-edits c =
    let room = room_of-page c.args.ctx.now c.args.page c.args.copy.now c.requires.same ∙ form_size c.args.copy.now c.requires.form in
    let long = form_size c.cut.new.page c.cut.ensures.form in
    omega (arith, edits-whole c.args.ctx.now c.args.page c.cut.new.page room long, ap edits_of (edited c.args.ctx.now c.edit.new.self c.args.page c.cut.new.page room long c.in_ok-edit.ensures.ok))
