use Rattle.std.proofs.Common.{arith}
use Rattle.sb_node.proofs.Numbers.{wrote_number}
use Rattle.sb_node.proofs.Heads.{emptied}
use Rattle.sb_node.proofs.head.clear.Goals as goal

pub put_u16-requires : goal.put_u16-requires
put_u16-requires c = omega (arith, c.put_fields.ensures.len)

pub put_u16-requires-2 : goal.put_u16-requires-2
put_u16-requires-2 c = let one = wrote_number 2 2 0 c.put_fields.new.page c.put_u16.new.b (omega (arith, c.put_fields.ensures.len)) c.put_u16.ensures in omega (arith, c.put_fields.ensures.len, one.len)

pub returns : goal.returns
returns c =
    let one = wrote_number 2 2 0 c.put_fields.new.page c.put_u16.new.b (omega (arith, c.put_fields.ensures.len)) c.put_u16.ensures in
    let two = wrote_number 2 4 0 c.put_u16.new.b c.put_u16-2.new.b (omega (arith, c.put_fields.ensures.len, one.len)) c.put_u16-2.ensures in
    emptied c.args.page.now c.put_fields.new.page c.put_u16.new.b c.put_u16-2.new.b c.args.kind c.args.level c.requires c.put_fields.ensures one two
