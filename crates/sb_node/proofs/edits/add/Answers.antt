use Rattle.std.proofs.Common.{◌≡◌, ◌≤◌, ◌-◌, ◌+◌, subst, refl, ◌∙◌, arith, length}
use Rattle.std.specs.List.{CopiedTo}
use Rattle.sb_node.specs.Page.{node_in}
use Rattle.sb_node.proofs.Numbers.{wrote_number}
use Rattle.sb_node.proofs.Added.{added}
use Rattle.sb_node.proofs.Placed.{scanned, err_within}
use Rattle.sb_node.proofs.Runs.{form_size, head_used, count_short}
use Rattle.sb_node.proofs.Sizes.{count_is}
use Rattle.sb_node.proofs.edits.add.Goals as goal

pub start_of-at-requires-clause-within : goal.start_of-at-requires-clause-within
start_of-at-requires-clause-within c =
    omega (arith, (err_within c.args.key.now 0 (node_in c.args.page.now).entries c.args.i (scanned c.args.page.now c.args.key.now c.requires.form ∙ c.requires.place)).1, count_is c.args.page.now)

pub get_u16-count-requires : goal.get_u16-count-requires
get_u16-count-requires c = omega (arith, form_size c.args.page.now c.requires.form)

pub get_u16-used-requires : goal.get_u16-used-requires
get_u16-used-requires c = omega (arith, form_size c.args.page.now c.requires.form)

pub copy_within-requires-clause-in_bounds : goal.copy_within-requires-clause-in_bounds
copy_within-requires-clause-in_bounds c = omega (arith, form_size c.args.page.now c.requires.form, head_used c.args.page.now, c.get_u16-used.ensures)

pub copy_within-requires-clause-dest_in_bounds : goal.copy_within-requires-clause-dest_in_bounds
copy_within-requires-clause-dest_in_bounds c =
    let size = form_size c.args.page.now c.requires.form in
    let all : c.start_of-at.result + (4 + length c.args.key.now + length c.args.value.now) + (24 + c.get_u16-used.result - c.start_of-at.result) ≤ length c.args.page.now =
    omega (arith, c.get_u16-used.ensures, head_used c.args.page.now, size) in
    all

pub put_entry-requires-clause-room : goal.put_entry-requires-clause-room
put_entry-requires-clause-room c = omega (arith, form_size c.args.page.now c.requires.form, head_used c.args.page.now, c.copy_within.ensures.len)

pub overflow_add-count : goal.overflow_add-count
overflow_add-count c = omega (arith, c.get_u16-count.ensures, count_short c.args.page.now c.requires.form)

pub put_u16-requires : goal.put_u16-requires
put_u16-requires c = omega (arith, form_size c.args.page.now c.requires.form, c.copy_within.ensures.len, c.put_entry.ensures.len)

pub overflow_add-used-2 : goal.overflow_add-used-2
overflow_add-used-2 c = omega (arith, head_used c.args.page.now, c.get_u16-used.ensures)

pub put_u16-requires-2 : goal.put_u16-requires-2
put_u16-requires-2 c =
    let size = form_size c.args.page.now c.requires.form in
    let one = wrote_number 2 2 (c.get_u16-count.result + 1) c.put_entry.new.page c.put_u16.new.b (omega (arith, size, c.copy_within.ensures.len, c.put_entry.ensures.len)) c.put_u16.ensures in
    omega (arith, size, c.copy_within.ensures.len, c.put_entry.ensures.len, one.len)

pub returns : goal.returns
returns c =
    let size = form_size c.args.page.now c.requires.form in
    let bytes = 4 + length c.args.key.now + length c.args.value.now in
    let long : length c.put_entry.new.page ≡ 4096 = omega (arith, size, c.copy_within.ensures.len, c.put_entry.ensures.len) in
    let one = wrote_number 2 2 (c.get_u16-count.result + 1) c.put_entry.new.page c.put_u16.new.b (omega (arith, long)) c.put_u16.ensures in
    let two = wrote_number 2 4 (c.get_u16-used.result + bytes) c.put_u16.new.b c.put_u16-2.new.b (omega (arith, long, one.len)) c.put_u16-2.ensures in
    let copied = subst (λ u. CopiedTo c.args.page.now c.copy_within.new.self c.start_of-at.result (c.start_of-at.result + bytes) (24 + u - c.start_of-at.result)) c.get_u16-used.ensures c.copy_within.ensures.by_index.0 in
    added c.args.page.now c.copy_within.new.self c.put_entry.new.page c.put_u16.new.b c.put_u16-2.new.b c.args.i c.start_of-at.result bytes (c.get_u16-count.result + 1) (c.get_u16-used.result + bytes) c.args.key.now c.args.value.now
    c.requires.form c.requires.place c.start_of-at.ensures.start c.start_of-at.ensures.inside refl (omega (arith, head_used c.args.page.now)) c.copy_within.ensures.len copied c.copy_within.ensures.by_index.1 c.put_entry.ensures one two
    (omega (arith, c.get_u16-count.ensures)) (omega (arith, c.get_u16-count.ensures, count_short c.args.page.now c.requires.form)) (omega (arith, c.get_u16-used.ensures))
