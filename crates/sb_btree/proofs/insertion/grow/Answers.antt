use Rattle.std.proofs.Common.{◌≡◌, ap, ◌∙◌, arith, length}
use Rattle.sb_ctx.specs.View.{with_page}
use Rattle.sb_node.proofs.Runs.{form_size}
use Rattle.sb_btree.proofs.Edits.{tree_at}
use Rattle.sb_btree.proofs.Tops.{takes, grows}
use Rattle.sb_btree.proofs.Written.{right_edits, top_double}
use Rattle.sb_btree.proofs.insertion.grow.Goals as goal

pub write_both-requires-clause-apart : goal.write_both-requires-clause-apart
write_both-requires-clause-apart c =
    let a = tree_at c.args.ctx.now c.args.level c.args.root c.in-Some.bytes.now c.in-Some.ensures c.requires.held in
    let t = takes c.args.ctx.now c.fresh.new.self c.args.root c.in-Some-fresh.first c.in-Some-fresh.ensures.sound c.in-Some-fresh.ensures.number c.in-Some-fresh.ensures.taken a.room in
    t.other

pub write_both-requires-clause-rooms : goal.write_both-requires-clause-rooms
write_both-requires-clause-rooms c =
    let a = tree_at c.args.ctx.now c.args.level c.args.root c.in-Some.bytes.now c.in-Some.ensures c.requires.held in
    let t = takes c.args.ctx.now c.fresh.new.self c.args.root c.in-Some-fresh.first c.in-Some-fresh.ensures.sound c.in-Some-fresh.ensures.number c.in-Some-fresh.ensures.taken a.room in
    (t.fresh_room, t.room)

pub write_both-requires-clause-long : goal.write_both-requires-clause-long
write_both-requires-clause-long c =
    let a = tree_at c.args.ctx.now c.args.level c.args.root c.in-Some.bytes.now c.in-Some.ensures c.requires.held in
    (ap length (c.deref.ensures.value ∙ c.in_ok-content.ensures) ∙ form_size c.in-Some.bytes.now a.form, omega arith)

pub returns-in_err-write_both-clause-given : goal.returns-in_err-write_both-clause-given
returns-in_err-write_both-clause-given c =
    let a = tree_at c.args.ctx.now c.args.level c.args.root c.in-Some.bytes.now c.in-Some.ensures c.requires.held in
    let t = takes c.args.ctx.now c.fresh.new.self c.args.root c.in-Some-fresh.first c.in-Some-fresh.ensures.sound c.in-Some-fresh.ensures.number c.in-Some-fresh.ensures.taken a.room in
    c.write_both.ensures.given ∙ t.given

pub returns-clause-given : goal.returns-clause-given
returns-clause-given c =
    let a = tree_at c.args.ctx.now c.args.level c.args.root c.in-Some.bytes.now c.in-Some.ensures c.requires.held in
    let t = takes c.args.ctx.now c.fresh.new.self c.args.root c.in-Some-fresh.first c.in-Some-fresh.ensures.sound c.in-Some-fresh.ensures.number c.in-Some-fresh.ensures.taken a.room in
    c.write_both.ensures.given ∙ t.given

pub returns-clause-grows : goal.returns-clause-grows
returns-clause-grows c =
    let a = tree_at c.args.ctx.now c.args.level c.args.root c.in-Some.bytes.now c.in-Some.ensures c.requires.held in
    let t = takes c.args.ctx.now c.fresh.new.self c.args.root c.in-Some-fresh.first c.in-Some-fresh.ensures.sound c.in-Some-fresh.ensures.number c.in-Some-fresh.ensures.taken a.room in
    let same : c.deref.result.now ≡ c.in-Some.bytes.now = c.deref.ensures.value ∙ c.in_ok-content.ensures in
    let changed = c.in_ok-write_both.ensures.written ∙ (λ i. with_page c.args.root c.make_top.new.page (with_page c.in-Some-fresh.first (same i) (t.taken i))) in
    (grows c.args.ctx.now c.write_both.new.ctx c.args.root c.args.level c.in-Some-fresh.first c.args.next c.args.bound.now c.in-Some.bytes.now c.make_top.new.page a.held t.free changed c.make_top.ensures, omega arith)

pub returns-in_err-write_both-clause-edits : goal.returns-in_err-write_both-clause-edits
returns-in_err-write_both-clause-edits c =
    let a = tree_at c.args.ctx.now c.args.level c.args.root c.in-Some.bytes.now c.in-Some.ensures c.requires.held in
    let t = takes c.args.ctx.now c.fresh.new.self c.args.root c.in-Some-fresh.first c.in-Some-fresh.ensures.sound c.in-Some-fresh.ensures.number c.in-Some-fresh.ensures.taken a.room in
    right_edits c.args.ctx.now c.fresh.new.self c.write_both.new.ctx c.args.root c.in-Some-fresh.first t c.deref.result.now (ap length (c.deref.ensures.value ∙ c.in_ok-content.ensures) ∙ form_size c.in-Some.bytes.now a.form) c.in_err-write_both.ensures.stopped

pub returns-clause-edits : goal.returns-clause-edits
returns-clause-edits c =
    let a = tree_at c.args.ctx.now c.args.level c.args.root c.in-Some.bytes.now c.in-Some.ensures c.requires.held in
    let t = takes c.args.ctx.now c.fresh.new.self c.args.root c.in-Some-fresh.first c.in-Some-fresh.ensures.sound c.in-Some-fresh.ensures.number c.in-Some-fresh.ensures.taken a.room in
    omega (arith, (top_double c.args.ctx.now c.fresh.new.self c.write_both.new.ctx c.args.root c.in-Some-fresh.first t a.room c.make_top.new.page c.deref.result.now (omega arith) (ap length (c.deref.ensures.value ∙ c.in_ok-content.ensures) ∙ form_size c.in-Some.bytes.now a.form) c.in_ok-write_both.ensures.written).edits)

pub returns-clause-takes : goal.returns-clause-takes
returns-clause-takes c =
    let a = tree_at c.args.ctx.now c.args.level c.args.root c.in-Some.bytes.now c.in-Some.ensures c.requires.held in
    let t = takes c.args.ctx.now c.fresh.new.self c.args.root c.in-Some-fresh.first c.in-Some-fresh.ensures.sound c.in-Some-fresh.ensures.number c.in-Some-fresh.ensures.taken a.room in
    (top_double c.args.ctx.now c.fresh.new.self c.write_both.new.ctx c.args.root c.in-Some-fresh.first t a.room c.make_top.new.page c.deref.result.now (omega arith) (ap length (c.deref.ensures.value ∙ c.in_ok-content.ensures) ∙ form_size c.in-Some.bytes.now a.form) c.in_ok-write_both.ensures.written).taken
