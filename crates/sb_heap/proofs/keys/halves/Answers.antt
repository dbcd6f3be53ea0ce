use Rattle.std.proofs.Common.{arith}
use Rattle.sb_heap.proofs.KeyBytes.{parted}
use Rattle.sb_heap.proofs.keys.halves.Goals as goal

pub returns : goal.returns
returns c = parted c.args.bytes.now c.get_u32.result (λ i. omega (arith, c.type_inv.bytes i)) c.if-bytes-ne-KEY_SIZE.false c.get_u32.ensures (omega (arith, c.get_u32.type_inv))
