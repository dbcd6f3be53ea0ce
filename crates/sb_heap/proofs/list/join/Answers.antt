use Rattle.sb_heap.specs.Links.{if_page, placed, with_before, with_first, with_node}
use Rattle.sb_heap.proofs.Writes.{Made-three}
use Rattle.sb_heap.proofs.list.join.Goals as goal

pub returns-clause-made : goal.returns-clause-made
returns-clause-made c =
    Made-three (with_node c.args.page (placed 1 c.args.first)) (if_page c.args.first (with_node c.args.first (with_before c.args.page))) (with_node c.args.root (with_first c.args.page))
    c.args.ctx.now c.set_place.new.ctx c.set_before.new.ctx c.set_first.new.ctx c.set_first.result c.in_ok-set_place.ensures.made c.in_ok-set_before.ensures.made c.set_first.ensures.made
