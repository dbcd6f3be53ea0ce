use Rattle.std.proofs.Common.{◌∙◌, sym, subst}
use Rattle.sb_node.specs.Page.{node_in}
use Rattle.sb_btree.specs.Removes.{CutsEntry}
use Rattle.sb_btree.proofs.Edits.{tree_at}
use Rattle.sb_btree.proofs.Cutting.{entry_within, entry_taken}
use Rattle.sb_btree.proofs.removal.take_entry.Goals as goal

pub cut_entry-requires-clause-within : goal.cut_entry-requires-clause-within
cut_entry-requires-clause-within c =
    let a = tree_at c.args.ctx.now 0 c.args.page c.in-Some.bytes.now c.in-Some.ensures c.requires in
    entry_within c.in-Some.bytes.now c.deref_mut.result.now c.args.key.now c.in-Ok.i (c.deref_mut.ensures.value ∙ c.in_ok-copy.ensures) a.form (sym c.in-Ok.ensures)

pub returns-clause-takes : goal.returns-clause-takes
returns-clause-takes c =
    let a = tree_at c.args.ctx.now 0 c.args.page c.in-Some.bytes.now c.in-Some.ensures c.requires in
    entry_taken c.args.ctx.now c.cut_entry.new.ctx c.args.page c.in-Ok.i c.in-Some.bytes.now c.args.key.now c.cut_entry.result a.held a.form (sym c.in-Ok.ensures)
    (subst (λ b. CutsEntry c.args.ctx.now c.cut_entry.new.ctx c.args.page (node_in b) c.in-Ok.i c.cut_entry.result) (c.deref_mut.ensures.value ∙ c.in_ok-copy.ensures) c.cut_entry.ensures.cuts)
