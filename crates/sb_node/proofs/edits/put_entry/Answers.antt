use Rattle.std.proofs.Common.{arith, length, ◌+◌}
use Rattle.std.specs.Int.{bytes_high_first}
use Rattle.sb_node.proofs.Numbers.{wrote_number, wrote_then}
use Rattle.sb_node.proofs.edits.put_entry.Goals as goal

pub returns : goal.returns
returns c =
    let one = wrote_number 2 c.args.at (length c.args.key.now) c.args.page.now c.put_u16.new.b (omega arith) c.put_u16.ensures in
    let two = wrote_number 2 (c.args.at + 2) (length c.args.value.now) c.put_u16.new.b c.put_u16-2.new.b (omega (arith, one.len)) c.put_u16-2.ensures in
    wrote_then _ _ _ c.args.at (c.args.at + 4 + length c.args.key.now) _ c.args.value.now
    (wrote_then _ _ _ c.args.at (c.args.at + 4) _ c.args.key.now (wrote_then _ _ _ c.args.at (c.args.at + 2) (bytes_high_first 2 (length c.args.key.now)) (bytes_high_first 2 (length c.args.value.now)) one two (omega arith)) c.put_bytes.ensures (omega arith))
    c.put_bytes-2.ensures (omega arith)
