use Rattle.std.proofs.Common.{List, ℕ, arith, sym, subst, ◌∙◌}
use Rattle.sb_ctx.specs.declared.calls.MethodCall.TheVariants.{Delete}
use Rattle.sb_ctx.specs.MethodAnswers.{Changes}
use Rattle.sb_btree.specs.Inserts.{OverTrees}
use Rattle.sb_btree.specs.Removes.{Removes}
use Rattle.sb_treemethod.specs.TreeMethod.{tree_method}
use Rattle.sb_ctx.specs.Costs.{tree_cost}
use Rattle.sb_btree.specs.Removes.{is_on_removal_way}
use Rattle.sb_btree.specs.Walks.{Needs, OnTree}
use Rattle.sb_treemethod.proofs.RemoveLaws.{Changes-removed}
use Rattle.sb_treemethod.proofs.Within.{tree_bounds}
use Rattle.sb_treemethod.proofs.method.TreeMethodStorageMethod.delete.Goals as goal

pub returns : goal.returns
returns c =
    let old = c.args.ctx.now in
    let new = c.remove.new.ctx in
    let inst = c.args.inst.now in
    let root = inst.root in
    let made = c.remove.ensures in
    let clean = c.requires.clean.unchanged in
    subst (Changes tree_method c.args.inst.now (Delete c.args.key.now) old new) (sym c.removed.ensures)
    (Changes-removed c.args.inst.now c.args.key.now old new c.remove.result clean (made.given ∙ clean) made.asks made.broken
    (subst (λ (key : List ℕ). OverTrees old root (λ P es. Removes old new root key P es c.remove.result)) c.as_slice.ensures made.removes)
    (tree_bounds inst (Delete c.args.key.now) old new c.remove.result (λ P. is_on_removal_way root P c.args.key.now) tree_cost clean (λ P es read n is. is) (λ n. omega arith)
    (subst (λ (key : List ℕ). OnTree old root (λ P. Needs (is_on_removal_way root P key) c.remove.result)) c.as_slice.ensures made.way)
    (λ P es read. let few = made.edits P es read in omega (arith, few)) made.room (λ P part rows f is. tt)))
