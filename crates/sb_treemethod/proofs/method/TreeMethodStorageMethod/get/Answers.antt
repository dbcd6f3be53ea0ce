use Rattle.std.proofs.Common.{List, ℕ, Some, option_map, ◌≡◌, subst}
use Rattle.sb_btree.specs.Leaves.{entry_at, entry_in}
use Rattle.sb_ctx.specs.declared.calls.MethodCall.TheVariants.{Get}
use Rattle.sb_btree.specs.Walks.{Gives, Needs, OnTree, OverTree}
use Rattle.sb_btree.specs.Ways.{is_on_way}
use Rattle.sb_treemethod.proofs.MethodLaws.{Looks-got}
use Rattle.sb_treemethod.proofs.Within.{look_bounds}
use Rattle.sb_treemethod.proofs.method.TreeMethodStorageMethod.get.Goals as goal

pub returns : goal.returns
returns c =
    let walk = c.find-walk.ensures in
    let old = c.args.ctx.now in
    let inst = c.args.inst.now in
    let root = inst.root in
    Looks-got c.args.inst.now c.args.key.now c.args.ctx.now c.find-walk.result c.got.result c.requires.clean.unchanged walk.asks walk.broken walk.stands
    (subst (λ (key : List ℕ). OverTree c.args.ctx.now c.args.inst.now.root (λ es. Gives (λ found. option_map entry_in found ≡ entry_at key es) c.find-walk.result)) c.as_slice.ensures walk.gives) c.got.ensures
    (look_bounds inst (Get c.args.key.now) old c.find-walk.result (λ P. is_on_way root P (Some c.args.key.now)) c.requires.clean.unchanged walk.asks (λ P es read n is. is)
    (subst (λ (key : List ℕ). OnTree old root (λ P. Needs (is_on_way root P (Some key)) c.find-walk.result)) c.as_slice.ensures walk.way))
