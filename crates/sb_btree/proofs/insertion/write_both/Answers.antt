use Rattle.std.proofs.Common.{ap, ◌∙◌, arith}
use Rattle.sb_ctx.specs.View.{View, dropped, with_page}
use Rattle.sb_btree.proofs.Edits.{edited}
use Rattle.sb_btree.proofs.Tops.{writes, edit_given, room_held}
use Rattle.sb_btree.proofs.insertion.write_both.Goals as goal

pub edit-requires-clause-held : goal.edit-requires-clause-held
edit-requires-clause-held c = room_held c.args.ctx.now c.args.first c.requires.rooms.0

pub edit-requires-clause-room : goal.edit-requires-clause-room
edit-requires-clause-room c = omega (arith, c.requires.rooms.0, c.requires.long.0)

pub edit-requires-2-clause-held : goal.edit-requires-2-clause-held
edit-requires-2-clause-held c =
    let w = writes c.args.ctx.now c.edit.new.self c.args.first c.args.second c.args.one.now c.requires.apart c.requires.rooms c.requires.long.0 c.in_ok-edit.ensures.ok in
    room_held c.edit.new.self c.args.second w.room

pub edit-requires-2-clause-room : goal.edit-requires-2-clause-room
edit-requires-2-clause-room c =
    let w = writes c.args.ctx.now c.edit.new.self c.args.first c.args.second c.args.one.now c.requires.apart c.requires.rooms c.requires.long.0 c.in_ok-edit.ensures.ok in
    omega (arith, w.room, c.requires.long.1)

pub returns-in_err-edit-2-clause-given : goal.returns-in_err-edit-2-clause-given
returns-in_err-edit-2-clause-given c =
    let w = writes c.args.ctx.now c.edit.new.self c.args.first c.args.second c.args.one.now c.requires.apart c.requires.rooms c.requires.long.0 c.in_ok-edit.ensures.ok in
    ap dropped c.in_err-edit-2.ensures.err ∙ w.given

pub returns-clause-given : goal.returns-clause-given
returns-clause-given c =
    let w = writes c.args.ctx.now c.edit.new.self c.args.first c.args.second c.args.one.now c.requires.apart c.requires.rooms c.requires.long.0 c.in_ok-edit.ensures.ok in
    edit_given c.edit.new.self c.edit-2.new.self c.args.second c.args.two.now w.room c.requires.long.1 c.in_ok-edit-2.ensures.ok ∙ w.given

pub returns-clause-written : goal.returns-clause-written
returns-clause-written c =
    let w = writes c.args.ctx.now c.edit.new.self c.args.first c.args.second c.args.one.now c.requires.apart c.requires.rooms c.requires.long.0 c.in_ok-edit.ensures.ok in
    edited c.edit.new.self c.edit-2.new.self c.args.second c.args.two.now w.room c.requires.long.1 c.in_ok-edit-2.ensures.ok ∙ ap (λ (v : View). with_page c.args.second c.args.two.now v) w.changed
