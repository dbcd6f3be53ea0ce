use Rattle.std.proofs.Common.{ap, ◌∙◌}
use Rattle.std.specs.FinMap.Entries.{find}
use Rattle.sb_node.specs.Entries.{key_cmp}
use Rattle.sb_node.specs.Page.{Node, node_in}
use Rattle.sb_node.proofs.Runs.{form_size}
use Rattle.sb_ctx.proofs.ViewLaws.{room_of-page}
use Rattle.sb_heap.proofs.Slots.{cut_entries, entry_within, find-without}
use Rattle.sb_heap.proofs.update.replace_row.Goals as goal

pub cut-requires-clause-within : goal.cut-requires-clause-within
cut-requires-clause-within c = entry_within c.args.copy.now c.args.slot.now c.args.at.i c.requires.form c.requires.place

pub move_row-requires-clause-room : goal.move_row-requires-clause-room
move_row-requires-clause-room c = room_of-page c.args.ctx.now c.args.at.page c.args.copy.now c.requires.same ∙ form_size c.args.copy.now c.requires.form

pub put_row-requires-clause-free : goal.put_row-requires-clause-free
put_row-requires-clause-free c =
    ap (λ (x : Node). find key_cmp c.args.slot.now x.entries) c.cut.ensures.node_is
    ∙ ap (find key_cmp c.args.slot.now) (cut_entries c.args.copy.now c.args.slot.now c.args.at.i c.requires.form c.requires.place) ∙ find-without c.args.slot.now (node_in c.args.copy.now).entries

pub write_page-requires-clause-room : goal.write_page-requires-clause-room
write_page-requires-clause-room c = room_of-page c.args.ctx.now c.args.at.page c.args.copy.now c.requires.same ∙ form_size c.args.copy.now c.requires.form
