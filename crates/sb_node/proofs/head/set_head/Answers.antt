use Rattle.std.proofs.Common.{arith}
use Rattle.sb_node.proofs.Runs.{form_size}
use Rattle.sb_node.proofs.Heads.{headed}
use Rattle.sb_node.proofs.head.set_head.Goals as goal

pub put_fields-requires : goal.put_fields-requires
put_fields-requires c = omega (arith, form_size c.args.page.now c.requires)

pub returns : goal.returns
returns c = headed c.args.page.now c.put_fields.new.page c.args.head c.requires c.put_fields.ensures
