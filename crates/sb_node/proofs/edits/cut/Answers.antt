use Rattle.std.proofs.Common.{arith, ◌-◌}
use Rattle.sb_node.proofs.Numbers.{wrote_number}
use Rattle.sb_node.proofs.Removed.{cut_out}
use Rattle.sb_node.proofs.Runs.{head_count}
use Rattle.sb_node.proofs.edits.cut.Goals as goal

pub span_of-at-requires-clause-within : goal.span_of-at-requires-clause-within
span_of-at-requires-clause-within c = omega (arith, head_count c.args.page.now)

pub overflow_sub-count : goal.overflow_sub-count
overflow_sub-count c = omega (arith, head_count c.args.page.now, c.get_u16-count.ensures)

pub returns : goal.returns
returns c =
    let one = wrote_number 2 2 (c.get_u16-count.result - 1) c.copy_within.new.self c.put_u16.new.b (omega (arith, c.span_of-at.ensures.size, c.copy_within.ensures.len)) c.put_u16.ensures in
    let two = wrote_number 2 4 (c.get_u16-used.result - (c.span_of-at.result.1 - c.span_of-at.result.0)) c.put_u16.new.b c.put_u16-2.new.b (omega (arith, c.span_of-at.ensures.size, c.copy_within.ensures.len, one.len)) c.put_u16-2.ensures in
    cut_out c.args.page.now c.copy_within.new.self c.put_u16.new.b c.put_u16-2.new.b c.args.i c.span_of-at.result.0 c.span_of-at.result.1 c.get_u16-count.result c.get_u16-used.result c.requires.form
    (omega (arith, head_count c.args.page.now)) c.span_of-at.ensures.start c.span_of-at.ensures.end c.get_u16-count.ensures c.get_u16-used.ensures c.copy_within.ensures.len c.copy_within.ensures.by_index.0 c.copy_within.ensures.by_index.1 one two
