use Rattle.std.proofs.Common.{arith}
use Rattle.sb_node.proofs.Runs.{form_size, form_room, head_used}
use Rattle.sb_node.proofs.head.room.Goals as goal

pub get_u16-requires : goal.get_u16-requires
get_u16-requires c = omega (arith, form_size c.args.page.now c.requires)

pub overflow_sub-result : goal.overflow_sub-result
overflow_sub-result c = omega (arith, form_room c.args.page.now c.requires, c.get_u16.ensures)

pub returns-clause-used : goal.returns-clause-used
returns-clause-used c = omega (arith, form_room c.args.page.now c.requires, head_used c.args.page.now)

pub returns-clause-left : goal.returns-clause-left
returns-clause-left c = omega (arith, c.get_u16.ensures, head_used c.args.page.now)
