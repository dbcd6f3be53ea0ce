use Rattle.std.proofs.Common.{◌≡◌, Option, option_map, subst}
use Rattle.std.specs.List.{find as first}
use Rattle.sb_relation.specs.Db.{Key}
use Rattle.sb_ctx.specs.declared.calls.MethodCall.TheVariants.{Next}
use Rattle.sb_btree.specs.Leaves.{entry_in}
use Rattle.sb_btree.specs.Walks.{Gives, Needs, OnTree, OverTree}
use Rattle.sb_btree.specs.Ways.{is_behind, is_on_next_ways}
use Rattle.sb_treemethod.proofs.MethodLaws.{Looks-next}
use Rattle.sb_treemethod.proofs.Within.{look_bounds}
use Rattle.sb_treemethod.proofs.method.TreeMethodStorageMethod.next.Goals as goal

pub returns : goal.returns
returns c =
    let walk = c.next-walk.ensures in
    let old = c.args.ctx.now in
    let inst = c.args.inst.now in
    let root = inst.root in
    let low = option_map (λ key. key.now) c.args.after in
    Looks-next c.args.inst.now low c.args.ctx.now c.next-walk.result c.stepped.result c.requires.clean.unchanged walk.asks walk.broken walk.stands
    (subst (λ (key : Option Key). OverTree c.args.ctx.now c.args.inst.now.root (λ es. Gives (λ next. option_map entry_in next ≡ first (is_behind key) es) c.next-walk.result)) c.bytes_of.ensures walk.gives) c.stepped.ensures
    (look_bounds inst (Next low) old c.next-walk.result (λ P. is_on_next_ways root P low) c.requires.clean.unchanged walk.asks (λ P es read n is. is)
    (subst (λ (key : Option Key). OnTree old root (λ P. Needs (is_on_next_ways root P key) c.next-walk.result)) c.bytes_of.ensures walk.way))
