use Rattle.std.proofs.Common.{◌∙◌}
use Rattle.sb_node.proofs.Runs.{form_size}
use Rattle.sb_ctx.proofs.ViewLaws.{room_of-page}
use Rattle.sb_heap.proofs.Writes.{Made-headed}
use Rattle.sb_heap.proofs.list.write_copy.Goals as goal

pub put_page-requires-clause-room : goal.put_page-requires-clause-room
put_page-requires-clause-room c = room_of-page c.args.ctx.now c.args.page c.args.copy.now c.requires.same ∙ form_size c.args.copy.now c.requires.form

pub returns-clause-made : goal.returns-clause-made
returns-clause-made c =
    Made-headed c.args.ctx.now c.put_page.new.ctx c.args.page c.args.copy.now c.set_head.new.page c.args.head c.put_page.result c.requires.same c.requires.form c.set_head.ensures c.put_page.ensures.made
