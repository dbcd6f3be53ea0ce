use Rattle.std.proofs.Common.{sym, ap, ◌∙◌, refl}
use Rattle.sb_ctx.specs.View.{View, with_page}
use Rattle.sb_btree.proofs.Tops.{takes}
use Rattle.sb_btree.proofs.Written.{left_edits, halves_double}
use Rattle.sb_btree.proofs.insertion.store_halves.Goals as goal

pub write_both-requires-clause-apart : goal.write_both-requires-clause-apart
write_both-requires-clause-apart c =
    let t = takes c.args.ctx.now c.fresh.new.self c.args.page c.in-Some.next c.in-Some.ensures.sound c.in-Some.ensures.number c.in-Some.ensures.taken c.requires.page in
    λ e. t.other (sym e)

pub write_both-requires-clause-rooms : goal.write_both-requires-clause-rooms
write_both-requires-clause-rooms c =
    let t = takes c.args.ctx.now c.fresh.new.self c.args.page c.in-Some.next c.in-Some.ensures.sound c.in-Some.ensures.number c.in-Some.ensures.taken c.requires.page in
    (t.room, t.fresh_room)

pub returns-in_err-write_both-clause-given : goal.returns-in_err-write_both-clause-given
returns-in_err-write_both-clause-given c =
    let t = takes c.args.ctx.now c.fresh.new.self c.args.page c.in-Some.next c.in-Some.ensures.sound c.in-Some.ensures.number c.in-Some.ensures.taken c.requires.page in
    c.write_both.ensures.given ∙ t.given

pub returns-clause-given : goal.returns-clause-given
returns-clause-given c =
    let t = takes c.args.ctx.now c.fresh.new.self c.args.page c.in-Some.next c.in-Some.ensures.sound c.in-Some.ensures.number c.in-Some.ensures.taken c.requires.page in
    c.write_both.ensures.given ∙ t.given

pub returns-clause-stored : goal.returns-clause-stored
returns-clause-stored c =
    let t = takes c.args.ctx.now c.fresh.new.self c.args.page c.in-Some.next c.in-Some.ensures.sound c.in-Some.ensures.number c.in-Some.ensures.taken c.requires.page in
    (refl, t.free, c.in_ok-write_both.ensures.written ∙ ap (λ (v : View). with_page c.in-Some.next c.args.right.now (with_page c.args.page c.args.left.now v)) t.taken)

pub returns-in_err-write_both-clause-edits : goal.returns-in_err-write_both-clause-edits
returns-in_err-write_both-clause-edits c =
    let t = takes c.args.ctx.now c.fresh.new.self c.args.page c.in-Some.next c.in-Some.ensures.sound c.in-Some.ensures.number c.in-Some.ensures.taken c.requires.page in
    left_edits c.args.ctx.now c.fresh.new.self c.write_both.new.ctx c.args.page c.in-Some.next t c.args.left.now c.requires.left c.in_err-write_both.ensures.stopped

pub returns-clause-edits : goal.returns-clause-edits
returns-clause-edits c =
    let t = takes c.args.ctx.now c.fresh.new.self c.args.page c.in-Some.next c.in-Some.ensures.sound c.in-Some.ensures.number c.in-Some.ensures.taken c.requires.page in
    (halves_double c.args.ctx.now c.fresh.new.self c.write_both.new.ctx c.args.page c.in-Some.next t c.requires.page c.args.left.now c.args.right.now c.requires.left c.requires.right c.in_ok-write_both.ensures.written).edits

pub returns-clause-takes : goal.returns-clause-takes
returns-clause-takes c =
    let t = takes c.args.ctx.now c.fresh.new.self c.args.page c.in-Some.next c.in-Some.ensures.sound c.in-Some.ensures.number c.in-Some.ensures.taken c.requires.page in
    (halves_double c.args.ctx.now c.fresh.new.self c.write_both.new.ctx c.args.page c.in-Some.next t c.requires.page c.args.left.now c.args.right.now c.requires.left c.requires.right c.in_ok-write_both.ensures.written).taken
