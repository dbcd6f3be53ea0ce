use Rattle.std.proofs.Common.{sym, ap}
use Rattle.sb_node.specs.declared.head.Head.{Head}
use Rattle.sb_node.specs.Page.{with_head}
use Rattle.sb_heap.specs.Links.{placed}
use Rattle.sb_heap.proofs.Writes.{Made-changed}
use Rattle.sb_heap.proofs.list.set_place.Goals as goal

pub returns-clause-made : goal.returns-clause-made
returns-clause-made c =
    Made-changed (placed c.args.level c.args.after) c.args.ctx.now c.write_head.new.ctx c.args.page c.head_of-head.result (record c.head_of-head.result { level = c.args.level; a = c.args.after; b = 0 }) c.write_head.result c.requires c.head_of-head.ensures
    (λ x is. ap (λ (h : Head). with_head (record h { level = c.args.level; a = c.args.after; b = 0 }) x) (sym is)) c.write_head.ensures.made
