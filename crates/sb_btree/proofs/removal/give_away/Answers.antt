use Rattle.std.proofs.Common.{◌≡◌, ◌-◌, ◌⊎◌, ◌∙◌, inl, inr, refl, sym, ap, suc, arith, length}
use Rattle.std.specs.Prelude.{slice_get}
use Rattle.sb_ctx.proofs.ViewLaws.{dropped-with_page}
use Rattle.sb_ctx.specs.View.{dropped, edits_of, page_of}
use Rattle.sb_node.specs.declared.head.Head.{Head}
use Rattle.sb_node.specs.Page.{node_in}
use Rattle.sb_btree.specs.Broken.{held_node}
use Rattle.sb_btree.specs.Held.{nth_child}
use Rattle.sb_forms.specs.Tree.{entries_of}
use Rattle.sb_btree.specs.declared.walk.Stop.TheVariants.{Broken}
use Rattle.sb_btree.proofs.Edits.{tree_at}
use Rattle.sb_btree.proofs.Cutting.{count_of, count_none}
use Rattle.sb_btree.proofs.Giving.{has_room, like_node, takes_nodes, long_bound, beside_place, gave_stop, gave}
use Rattle.sb_btree.proofs.Sparing.{beside_freed}
use Rattle.sb_btree.proofs.Weights.{edits-freed}
use Rattle.sb_btree.proofs.removal.give_away.Goals as goal
use Rattle.sb_btree.proofs.removal.give_away.Goals.{then-i-eq0, else-i-eq0}

pub returns-then-head-eq0-clause-gives : goal.returns-then-head-eq0-clause-gives
returns-then-head-eq0-clause-gives c =
    let down : c.args.level ≡ suc (c.args.level - 1) = omega arith in
    let a = tree_at c.args.ctx.now c.args.level c.args.page c.in-Some.bytes.now c.in-Some.ensures c.requires.held in
    gave_stop c.args.ctx.now c.args.level (c.args.level - 1) c.args.page (node_in c.in-Some.bytes.now) c.args.i c.args.child c.args.left down a.node_is c.args.ctx.now (Broken c.args.page)
    (inl (refl, inr (count_none c.in-Some.bytes.now c.in-Some-form.head c.in-Some-form.ensures.head c.if-head-eq0.true)))

pub entry-requires-clause-within : goal.entry-requires-clause-within
entry-requires-clause-within c =
    let a = tree_at c.args.ctx.now c.args.level c.args.page c.in-Some.bytes.now c.in-Some.ensures c.requires.held in
    let n = count_of c.in-Some.bytes.now c.in-Some-form.head c.in-Some-form.ensures.head in
    let all = ap (λ o. length (entries_of o)) a.node_is in
    let same = ap (λ (h : Head). h.count) c.in-Some-form.ensures.head in
    omega (arith, n, all, same, c.requires.within, c.if-head-eq0.false, c.saturating_sub.ensures)

pub returns-then-bound-gt-MOST_KEY-clause-gives : goal.returns-then-bound-gt-MOST_KEY-clause-gives
returns-then-bound-gt-MOST_KEY-clause-gives c =
    let down : c.args.level ≡ suc (c.args.level - 1) = omega arith in
    let a = tree_at c.args.ctx.now c.args.level c.args.page c.in-Some.bytes.now c.in-Some.ensures c.requires.held in
    gave_stop c.args.ctx.now c.args.level (c.args.level - 1) c.args.page (node_in c.in-Some.bytes.now) c.args.i c.args.child c.args.left down a.node_is c.args.ctx.now (Broken c.args.page)
    (inl (refl, inl (long_bound (node_in c.in-Some.bytes.now).entries c.saturating_sub.result (c.entry.result.0.now, c.entry.result.1.now) c.entry.ensures c.if-bound-gt-MOST_KEY.true)))

pub child_at-requires-clause-within : goal.child_at-requires-clause-within
child_at-requires-clause-within c =
    let a = tree_at c.args.ctx.now c.args.level c.args.page c.in-Some.bytes.now c.in-Some.ensures c.requires.held in
    let n = count_of c.in-Some.bytes.now c.in-Some-form.head c.in-Some-form.ensures.head in
    let all = ap (λ o. length (entries_of o)) a.node_is in
    let same = ap (λ (h : Head). h.count) c.in-Some-form.ensures.head in
    elim c.if-i-eq0.branch [
      | then-i-eq0 w ↦ omega (arith, n, all, same, c.requires.within, c.if-head-eq0.false, w.beside-is)
      | else-i-eq0 w ↦ omega (arith, n, all, same, c.requires.within, c.if-head-eq0.false, w.beside-is)
    ]

pub free-requires : goal.free-requires
free-requires c =
    let has = takes_nodes c.args.ctx.now c.take_child.new.ctx (c.args.level - 1) c.in-Some-child_at.beside c.as_slice.result.now c.args.left _ c.in_ok-put.put c.in_ok-put.ensures.takes c.args.child (like_node (c.args.level - 1) (held_node (page_of c.args.ctx.now c.args.child)) c.requires.child) in
    let room = has_room c.take_child.new.ctx c.args.child has in
    (λ none. omega (arith, room, none))

pub returns-clause-given : goal.returns-clause-given
returns-clause-given c = ap dropped c.in_ok-free.ensures.ok ∙ dropped-with_page c.take_child.new.ctx c.args.child _ ∙ c.take_child.ensures.given

pub returns-clause-gives : goal.returns-clause-gives
returns-clause-gives c =
    let down : c.args.level ≡ suc (c.args.level - 1) = omega arith in
    let a = tree_at c.args.ctx.now c.args.level c.args.page c.in-Some.bytes.now c.in-Some.ensures c.requires.held in
    let which : ((c.args.i ≡ 0) × (c.if-i-eq0.beside ≡ 1)) ⊎ ((c.args.i ≡ 0 → ⊥) × (c.if-i-eq0.beside ≡ c.args.i - 1)) =
    elim c.if-i-eq0.branch [ then-i-eq0 w ↦ inl (w.if-i-eq0.true, w.beside-is) | else-i-eq0 w ↦ inr (w.if-i-eq0.false, w.beside-is) ] in
    let beside = c.in-Some-child_at.ensures ∙ (λ t. nth_child (c.in-Some-form.ensures.head t).a (node_in c.in-Some.bytes.now).entries (beside_place c.args.i c.if-i-eq0.beside which t)) in
    let bound : c.as_slice.result.now ≡ c.entry.result.0.now = c.as_slice.ensures ∙ c.from_vec-bound.ensures ∙ c.in_ok-copied.ensures in
    gave c.args.ctx.now c.args.level (c.args.level - 1) c.args.page (node_in c.in-Some.bytes.now) c.args.i c.args.child c.args.left down a.node_is c.take_child.new.ctx c.free.new.self (c.args.level - 1) c.in-Some-child_at.beside (c.entry.result.0.now, c.entry.result.1.now)
    c.as_slice.result.now _ c.in_ok-put.put refl (ap (slice_get (node_in c.in-Some.bytes.now).entries) (sym c.saturating_sub.ensures) ∙ c.entry.ensures) (omega (arith, c.if-bound-gt-MOST_KEY.false)) beside bound refl c.in_ok-put.ensures.takes c.in_ok-free.ensures.ok

pub returns-clause-edits : goal.returns-clause-edits
returns-clause-edits c = omega (arith, ap edits_of c.in_ok-free.ensures.ok, edits-freed c.take_child.new.ctx c.args.child, c.in_ok-put.ensures.edits)

pub returns-clause-room : goal.returns-clause-room
returns-clause-room c = beside_freed c.args.ctx.now c.take_child.new.ctx c.free.new.self c.args.child c.in_ok-put.put c.in_ok-free.ensures.ok c.in_ok-put.ensures.room
