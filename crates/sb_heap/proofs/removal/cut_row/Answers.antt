use Rattle.std.proofs.Common.{◌≡◌, Some, ap, ◌∙◌}
use Rattle.sb_node.proofs.Runs.{form_size}
use Rattle.sb_node.proofs.Edited.{node_of-form}
use Rattle.sb_node.specs.Entries.{without}
use Rattle.sb_node.specs.Page.{node_in, with_entries}
use Rattle.sb_ctx.specs.View.{page_of}
use Rattle.sb_heap.specs.Broken.{held_node}
use Rattle.sb_heap.proofs.Writes.{rewrites_to}
use Rattle.sb_ctx.proofs.ViewLaws.{room_of-page}
use Rattle.sb_heap.proofs.removal.cut_row.Goals as goal

pub write_page-requires-clause-room : goal.write_page-requires-clause-room
write_page-requires-clause-room c = room_of-page c.args.ctx.now c.args.page c.args.copy.now c.requires.same ∙ form_size c.args.copy.now c.requires.form

pub returns : goal.returns
returns c =
    let x = node_in c.args.copy.now in
    let held : held_node (page_of c.args.ctx.now c.args.page) ≡ Some x = ap held_node c.requires.same ∙ node_of-form c.args.copy.now c.requires.form in
    rewrites_to c.args.ctx.now c.write_page.new.ctx c.args.root c.args.page x (with_entries (without c.args.i x.entries) x) c.cut.new.page c.write_page.result held c.cut.ensures.node_is c.write_page.ensures
