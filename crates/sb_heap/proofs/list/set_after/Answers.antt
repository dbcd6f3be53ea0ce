use Rattle.std.proofs.Common.{sym, ap}
use Rattle.sb_node.specs.declared.head.Head.{Head}
use Rattle.sb_node.specs.Page.{with_head}
use Rattle.sb_heap.specs.Links.{with_after, with_first, with_node, linked_before}
use Rattle.sb_heap.proofs.Writes.{Made-changed, Made-same, linked_before-root, linked_before-page}
use Rattle.sb_heap.proofs.list.set_after.Goals as goal

pub returns-then-page-eq0-clause-made : goal.returns-then-page-eq0-clause-made
returns-then-page-eq0-clause-made c =
    Made-same (with_node c.args.root (with_first c.args.after)) (linked_before c.args.root c.args.page c.args.after) 1 c.args.ctx.now c.set_first.new.ctx c.set_first.result
    (λ N. sym (linked_before-root c.args.root c.args.page c.args.after N c.if-page-eq0.true)) c.set_first.ensures.made

pub returns-clause-made : goal.returns-clause-made
returns-clause-made c =
    Made-same (with_node c.args.page (with_after c.args.after)) (linked_before c.args.root c.args.page c.args.after) 1 c.args.ctx.now c.write_head.new.ctx c.write_head.result
    (λ N. sym (linked_before-page c.args.root c.args.page c.args.after N c.if-page-eq0.false))
    (Made-changed (with_after c.args.after) c.args.ctx.now c.write_head.new.ctx c.args.page c.head_of-head.result (record c.head_of-head.result { a = c.args.after }) c.write_head.result (c.requires.page c.if-page-eq0.false) c.head_of-head.ensures
    (λ x is. ap (λ (h : Head). with_head (record h { a = c.args.after }) x) (sym is)) c.write_head.ensures.made)
