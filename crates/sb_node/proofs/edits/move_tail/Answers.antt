use Rattle.std.proofs.Common.{◌≡◌, ◌-◌, ◌+◌, arith, length, drop, length-take}
use Rattle.sb_node.proofs.Numbers.{wrote_number}
use Rattle.sb_node.proofs.Tails.{front_kept, tail_moved}
use Rattle.sb_node.proofs.Runs.{form_size, form_room, head_count}
use Rattle.sb_node.proofs.edits.move_tail.Goals as goal

pub start_of-at-requires-clause-within : goal.start_of-at-requires-clause-within
start_of-at-requires-clause-within c = omega (arith, head_count c.args.page.now)

pub get_u16-count-requires : goal.get_u16-count-requires
get_u16-count-requires c = omega (arith, form_size c.args.page.now c.requires.form)

pub get_u16-requires : goal.get_u16-requires
get_u16-requires c = omega (arith, form_size c.args.page.now c.requires.form)

pub slice_bounds-put_bytes-end : goal.slice_bounds-put_bytes-end
slice_bounds-put_bytes-end c = omega (arith, form_size c.args.page.now c.requires.form, form_room c.args.page.now c.requires.form, c.get_u16.ensures)

-- what stands behind the head still fits behind a head
pub put_bytes-requires : goal.put_bytes-requires
put_bytes-requires c =
    let size = form_size c.args.other.now c.requires.other in
    let room = form_room c.args.page.now c.requires.form in
    omega (arith, size, room, c.get_u16.ensures, length-take (24 + c.get_u16.result - c.start_of-at.result) (drop c.start_of-at.result c.args.page.now))

pub overflow_sub-count : goal.overflow_sub-count
overflow_sub-count c = omega (arith, head_count c.args.page.now, c.get_u16-count.ensures)

pub put_u16-requires : goal.put_u16-requires
put_u16-requires c = omega (arith, form_size c.args.other.now c.requires.other, c.put_bytes.ensures.len)

pub put_u16-requires-2 : goal.put_u16-requires-2
put_u16-requires-2 c =
    let size = form_size c.args.other.now c.requires.other in
    let one = wrote_number 2 2 (c.get_u16-count.result - c.args.i) c.put_bytes.new.page c.put_u16.new.b (omega (arith, size, c.put_bytes.ensures.len)) c.put_u16.ensures in
    omega (arith, size, c.put_bytes.ensures.len, one.len)

pub put_u16-requires-3 : goal.put_u16-requires-3
put_u16-requires-3 c = omega (arith, form_size c.args.page.now c.requires.form)

pub put_u16-requires-4 : goal.put_u16-requires-4
put_u16-requires-4 c =
    let size = form_size c.args.page.now c.requires.form in
    let one = wrote_number 2 2 c.args.i c.args.page.now c.put_u16-3.new.b (omega (arith, size)) c.put_u16-3.ensures in
    omega (arith, size, one.len)

pub returns-clause-front : goal.returns-clause-front
returns-clause-front c =
    let size = form_size c.args.page.now c.requires.form in
    let one = wrote_number 2 2 c.args.i c.args.page.now c.put_u16-3.new.b (omega (arith, size)) c.put_u16-3.ensures in
    let two = wrote_number 2 4 (c.start_of-at.result - 24) c.put_u16-3.new.b c.put_u16-4.new.b (omega (arith, size, one.len)) c.put_u16-4.ensures in
    front_kept c.args.page.now c.put_u16-3.new.b c.put_u16-4.new.b c.args.i c.start_of-at.result c.requires.form (omega (arith, head_count c.args.page.now)) c.start_of-at.ensures.start c.start_of-at.ensures.inside one two

pub returns-clause-tail : goal.returns-clause-tail
returns-clause-tail c =
    let size = form_size c.args.other.now c.requires.other in
    let used = 24 + c.get_u16.result - c.start_of-at.result in
    let long : length c.put_bytes.new.page ≡ 4096 = omega (arith, size, c.put_bytes.ensures.len) in
    let one = wrote_number 2 2 (c.get_u16-count.result - c.args.i) c.put_bytes.new.page c.put_u16.new.b (omega (arith, long)) c.put_u16.ensures in
    let two = wrote_number 2 4 used c.put_u16.new.b c.put_u16-2.new.b (omega (arith, long, one.len)) c.put_u16-2.ensures in
    tail_moved c.args.page.now c.args.other.now c.put_bytes.new.page c.put_u16.new.b c.put_u16-2.new.b c.args.i c.start_of-at.result (c.get_u16-count.result - c.args.i) used c.requires.form (omega (arith, head_count c.args.page.now))
    c.start_of-at.ensures.start c.start_of-at.ensures.inside size (omega (arith, c.get_u16-count.ensures)) (omega (arith, c.get_u16.ensures)) c.put_bytes.ensures one two
