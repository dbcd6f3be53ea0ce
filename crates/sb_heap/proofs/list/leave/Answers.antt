use Rattle.sb_heap.specs.Links.{if_page, linked_before, placed, with_before, with_node}
use Rattle.sb_heap.proofs.Writes.{Made-three}
use Rattle.sb_heap.proofs.list.leave.Goals as goal

pub returns-clause-made : goal.returns-clause-made
returns-clause-made c =
    Made-three (with_node c.args.page (placed 0 0)) (linked_before c.args.root c.args.before c.args.after) (if_page c.args.after (with_node c.args.after (with_before c.args.before)))
    c.args.ctx.now c.set_place.new.ctx c.set_after.new.ctx c.set_before.new.ctx c.set_before.result c.in_ok-set_place.ensures.made c.in_ok-set_after.ensures.made c.set_before.ensures.made
