use Rattle.std.proofs.Common.{arith}
use Rattle.sb_node.proofs.Heads.{fields_written}
use Rattle.sb_node.proofs.head.put_fields.Goals as goal

pub returns : goal.returns
returns c =
    fields_written c.args.page.now c.put_u32.new.b c.put_u32-2.new.b c.put_u32-3.new.b c.args.head c.requires (omega arith) (omega arith) (omega arith) c.put_u32.ensures c.put_u32-2.ensures c.put_u32-3.ensures
