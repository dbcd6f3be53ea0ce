use Rattle.std.proofs.Common.{sym, ap}
use Rattle.sb_node.specs.declared.head.Head.{Head}
use Rattle.sb_node.specs.Page.{with_head}
use Rattle.sb_heap.specs.Links.{with_first}
use Rattle.sb_heap.proofs.Writes.{Made-changed}
use Rattle.sb_heap.proofs.list.set_first.Goals as goal

pub returns-clause-made : goal.returns-clause-made
returns-clause-made c =
    Made-changed (with_first c.args.first) c.args.ctx.now c.write_head.new.ctx c.args.root c.head_of-head.result (record c.head_of-head.result { c = c.args.first }) c.write_head.result c.requires c.head_of-head.ensures
    (λ x is. ap (λ (h : Head). with_head (record h { c = c.args.first }) x) (sym is)) c.write_head.ensures.made
