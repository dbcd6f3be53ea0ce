use Rattle.std.proofs.Common.{List, ℕ, Some, arith, sym, subst, ◌∙◌}
use Rattle.sb_ctx.specs.declared.calls.MethodCall.TheVariants.{Insert}
use Rattle.sb_ctx.specs.MethodAnswers.{Changes}
use Rattle.sb_btree.specs.Inserts.{Inserts, OverTrees}
use Rattle.sb_treemethod.specs.TreeMethod.{tree_method}
use Rattle.sb_treemethod.proofs.MethodLaws.{Changes-memory}
use Rattle.sb_ctx.specs.Costs.{tree_cost}
use Rattle.sb_ctx.specs.Method.{code_of}
use Rattle.sb_btree.specs.Walks.{Needs, OnTree}
use Rattle.sb_btree.specs.Ways.{is_on_way}
use Rattle.sb_treemethod.proofs.PutLaws.{Changes-put, put_gets}
use Rattle.sb_treemethod.proofs.Within.{tree_bounds}
use Rattle.sb_treemethod.proofs.method.TreeMethodStorageMethod.insert.Goals as goal

pub returns-in_default : goal.returns-in_default
returns-in_default c = Changes-memory c.args.inst.now _ c.args.ctx.now c.requires.clean.unchanged

pub returns : goal.returns
returns c =
    let old = c.args.ctx.now in
    let new = c.insert-walk.new.ctx in
    let inst = c.args.inst.now in
    let root = inst.root in
    let made = c.insert-walk.ensures in
    let clean = c.requires.clean.unchanged in
    let inserts =
    subst (λ (value : List ℕ). OverTrees old root (λ P es. Inserts old new root c.in-Ok.key value P es c.insert-walk.result)) c.as_slice-2.ensures
    (subst (λ (key : List ℕ). OverTrees old root (λ P es. Inserts old new root key c.as_slice-2.result.now P es c.insert-walk.result)) c.as_slice.ensures made.inserts) in
    subst (Changes tree_method c.args.inst.now (Insert c.args.tuple.now) old new) (sym c.inserted.ensures)
    (Changes-put c.args.inst.now c.args.tuple.now c.in-Ok.key c.in-Ok.value old new c.insert-walk.result clean (made.given ∙ clean) made.asks made.broken inserts c.requires.row c.in-Ok.ensures
    (tree_bounds inst (Insert c.args.tuple.now) old new c.insert-walk.result (λ P. is_on_way root P (Some (code_of inst c.args.tuple.now))) tree_cost clean (λ P es read n is. is) (λ n. omega arith)
    (subst (λ (key : List ℕ). OnTree old root (λ P. Needs (is_on_way root P (Some key)) c.insert-walk.result)) (c.as_slice.ensures ∙ c.in-Ok.ensures.key_is) made.way) made.edits made.room
    (put_gets inst c.args.tuple.now c.in-Ok.key c.in-Ok.value old new c.insert-walk.result clean c.in-Ok.ensures inserts)))
