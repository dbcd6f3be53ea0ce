use Rattle.std.proofs.Common.{sym, ap}
use Rattle.sb_node.specs.declared.head.Head.{Head}
use Rattle.sb_node.specs.Page.{with_head}
use Rattle.sb_heap.specs.Links.{with_before, with_node, if_page}
use Rattle.sb_heap.proofs.Writes.{Made-changed, Made-same, Made-none, if_page-none, if_page-some}
use Rattle.sb_heap.proofs.list.set_before.Goals as goal

pub returns-then-page-eq0-clause-made : goal.returns-then-page-eq0-clause-made
returns-then-page-eq0-clause-made c =
    Made-same (λ N. N) (if_page c.args.page (with_node c.args.page (with_before c.args.before))) 1 c.args.ctx.now c.args.ctx.now _
    (λ N. sym (if_page-none c.args.page (with_node c.args.page (with_before c.args.before)) N c.if-page-eq0.true)) (Made-none 1 c.args.ctx.now)

pub returns-clause-made : goal.returns-clause-made
returns-clause-made c =
    Made-same (with_node c.args.page (with_before c.args.before)) (if_page c.args.page (with_node c.args.page (with_before c.args.before))) 1 c.args.ctx.now c.write_head.new.ctx c.write_head.result
    (λ N. sym (if_page-some c.args.page (with_node c.args.page (with_before c.args.before)) N c.if-page-eq0.false))
    (Made-changed (with_before c.args.before) c.args.ctx.now c.write_head.new.ctx c.args.page c.head_of-head.result (record c.head_of-head.result { b = c.args.before }) c.write_head.result (c.requires c.if-page-eq0.false) c.head_of-head.ensures
    (λ x is. ap (λ (h : Head). with_head (record h { b = c.args.before }) x) (sym is)) c.write_head.ensures.made)
