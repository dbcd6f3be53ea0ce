use Rattle.std.proofs.Common.{sym, ◌∙◌}
use Rattle.sb_ctx.proofs.ViewLaws.{room_of-page}
use Rattle.sb_heap.proofs.Spotting.{new_root_is, page_number, prepares}
use Rattle.sb_heap.proofs.page.prepare_root.Goals as goal

pub returns : goal.returns
returns c =
    prepares c.args.ctx.now c.put_page.new.ctx c.args.root c.set_head.new.page c.put_page.result (page_number c.args.root (sym c.if-not-is_page.ensures))
    (room_of-page c.args.ctx.now c.args.root c.in-Some.page.now (sym c.in-Some.ensures) ∙ c.if-page-ne-PAGE_LEN.false) c.set_head.ensures.form (new_root_is c.args.root c.clear.new.page c.set_head.new.page c.clear.ensures.node_is c.set_head.ensures.node_is) c.put_page.ensures.made
