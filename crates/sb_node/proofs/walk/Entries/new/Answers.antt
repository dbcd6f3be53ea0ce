use Rattle.std.proofs.Common.{arith}
use Rattle.sb_node.proofs.Runs.{form_size, is_formed}
use Rattle.sb_node.proofs.walk.Entries.new.Goals as goal

pub get_u16-requires : goal.get_u16-requires
get_u16-requires c = omega (arith, form_size c.args.page.now c.requires)

pub invariant_of-result : goal.invariant_of-result
invariant_of-result c = record { form = c.requires; filled = rw c.get_u16.ensures (is_formed c.args.page.now c.requires).run }
