use Rattle.std.proofs.Common.{◌≡◌, ◌∙◌, Some, true, false, ap, sym, subst}
use Rattle.std.specs.FinMap.Entries.{find}
use Rattle.sb_node.specs.Entries.{key_cmp, size_of, without}
use Rattle.sb_node.specs.Page.{Node, node_in, with_entries}
use Rattle.sb_btree.specs.Inserts.{PutAt}
use Rattle.sb_btree.specs.Spending.{TakesAt}
use Rattle.sb_btree.proofs.Cutting.{entry_within}
use Rattle.sb_btree.proofs.Edits.{tree_at}
use Rattle.sb_btree.proofs.Replacing.{cut_lacks, replaced, replaced_takes}
use Rattle.sb_btree.proofs.insertion.replace_at.Goals as goal

pub cut-requires-clause-within : goal.cut-requires-clause-within
cut-requires-clause-within c =
    let a = tree_at c.args.ctx.now c.args.level c.args.page c.in-Some.bytes.now c.in-Some.ensures c.requires.held in
    entry_within c.in-Some.bytes.now c.as_mut_slice-copy.result.now c.args.key.now c.in-Ok.i (c.as_mut_slice-copy.ensures.value ∙ c.in_ok-copy.ensures) a.form (sym c.in-Ok.ensures)

pub put_copy-requires-clause-room : goal.put_copy-requires-clause-room
put_copy-requires-clause-room c = (tree_at c.args.ctx.now c.args.level c.args.page c.in-Some.bytes.now c.in-Some.ensures c.requires.held).room

pub put_copy-requires-clause-lacks : goal.put_copy-requires-clause-lacks
put_copy-requires-clause-lacks c =
    let a = tree_at c.args.ctx.now c.args.level c.args.page c.in-Some.bytes.now c.in-Some.ensures c.requires.held in
    let same = c.as_mut_slice-copy.ensures.value ∙ c.in_ok-copy.ensures in
    let node : node_in c.cut.new.page ≡ with_entries (without c.in-Ok.i (node_in c.in-Some.bytes.now).entries) (node_in c.in-Some.bytes.now) = c.cut.ensures.node_is ∙ ap (λ b. with_entries (without c.in-Ok.i (node_in b).entries) (node_in b)) same in
    ap (λ (n : Node). find key_cmp c.args.key.now n.entries) node ∙ cut_lacks c.args.ctx.now c.args.ctx.now c.args.level c.args.page c.in-Some.bytes.now c.args.key.now c.args.value.now c.in-Ok.i a.form (sym c.in-Ok.ensures)

pub returns-clause-put : goal.returns-clause-put
returns-clause-put c =
    let a = tree_at c.args.ctx.now c.args.level c.args.page c.in-Some.bytes.now c.in-Some.ensures c.requires.held in
    let same = c.as_mut_slice-copy.ensures.value ∙ c.in_ok-copy.ensures in
    let node : node_in c.cut.new.page ≡ with_entries (without c.in-Ok.i (node_in c.in-Some.bytes.now).entries) (node_in c.in-Some.bytes.now) = c.cut.ensures.node_is ∙ ap (λ b. with_entries (without c.in-Ok.i (node_in b).entries) (node_in b)) same in
    subst (λ o. PutAt true c.args.ctx.now c.put_copy.new.ctx c.args.level c.args.page o c.args.key.now c.args.value.now c.put_copy.result) (sym a.node_is)
    (replaced c.args.ctx.now c.put_copy.new.ctx c.args.level c.args.page c.in-Some.bytes.now c.args.key.now c.args.value.now c.in-Ok.i a.form (sym c.in-Ok.ensures) c.put_copy.result
    (subst (λ n. PutAt false c.args.ctx.now c.put_copy.new.ctx c.args.level c.args.page (Some n) c.args.key.now c.args.value.now c.put_copy.result) node c.put_copy.ensures.put))

pub returns-clause-room : goal.returns-clause-room
returns-clause-room c =
    let a = tree_at c.args.ctx.now c.args.level c.args.page c.in-Some.bytes.now c.in-Some.ensures c.requires.held in
    let same = c.as_mut_slice-copy.ensures.value ∙ c.in_ok-copy.ensures in
    let node : node_in c.cut.new.page ≡ with_entries (without c.in-Ok.i (node_in c.in-Some.bytes.now).entries) (node_in c.in-Some.bytes.now) = c.cut.ensures.node_is ∙ ap (λ b. with_entries (without c.in-Ok.i (node_in b).entries) (node_in b)) same in
    subst (λ o. TakesAt c.args.ctx.now c.put_copy.new.ctx (size_of (c.args.key.now, c.args.value.now)) o c.put_copy.result) (sym a.node_is)
    (replaced_takes c.args.ctx.now c.put_copy.new.ctx c.args.level c.args.page c.in-Some.bytes.now c.args.key.now c.args.value.now c.in-Ok.i a.form (sym c.in-Ok.ensures) (size_of (c.args.key.now, c.args.value.now)) c.put_copy.result
    (subst (λ n. TakesAt c.args.ctx.now c.put_copy.new.ctx (size_of (c.args.key.now, c.args.value.now)) (Some n) c.put_copy.result) node c.put_copy.ensures.room))
