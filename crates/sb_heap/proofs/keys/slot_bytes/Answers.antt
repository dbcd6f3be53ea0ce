use Rattle.sb_bytes.specs.Field.{with_number}
use Rattle.sb_heap.proofs.keys.slot_bytes.Goals as goal

pub returns : goal.returns
unfolding with_number
returns c = c.put_u16.ensures
