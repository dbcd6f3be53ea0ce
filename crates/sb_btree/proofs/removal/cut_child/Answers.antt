use Rattle.std.proofs.Common.{◌≡◌, ◌+◌, ◌≤◌, ◌∙◌, ◌⊎◌, inl, inr, refl, sym, subst, arith}
use Rattle.sb_ctx.proofs.ViewLaws.{room_of-page}
use Rattle.sb_node.proofs.Runs.{form_size}
use Rattle.sb_btree.proofs.Placing.{page_count}
use Rattle.sb_btree.proofs.Tops.{edit_given}
use Rattle.sb_btree.proofs.Cutting.{count_of, count_none, first_left, child_cut}
use Rattle.sb_ctx.specs.View.{View, edits_of}
use Rattle.sb_btree.specs.Spending.{written}
use Rattle.sb_btree.proofs.Edits.{edited}
use Rattle.sb_btree.proofs.Written.{edits-over}
use Rattle.sb_btree.proofs.removal.cut_child.Goals as goal
use Rattle.sb_btree.proofs.removal.cut_child.Goals.{then-i-eq0, else-i-eq0}

pub returns-then-head-eq0-clause-drops : goal.returns-then-head-eq0-clause-drops
returns-then-head-eq0-clause-drops c = (refl, inr (count_none c.args.copy.now c.in-Some.head c.in-Some.ensures.head c.if-head-eq0.true))

pub cut-requires-clause-within : goal.cut-requires-clause-within
cut-requires-clause-within c = omega (arith, count_of c.args.copy.now c.in-Some.head c.in-Some.ensures.head, page_count c.args.copy.now, c.requires.within, c.if-head-eq0.false, c.saturating_sub.ensures)

pub returns-then-head-eq1-clause-given : goal.returns-then-head-eq1-clause-given
returns-then-head-eq1-clause-given c =
    edit_given c.args.ctx.now c.edit.new.self c.args.page c.set_head.new.page (room_of-page c.args.ctx.now c.args.page c.args.copy.now c.requires.same ∙ form_size c.args.copy.now c.requires.form)
    (form_size c.set_head.new.page c.set_head.ensures.form) c.in_ok-edit.ensures.ok

pub returns-then-head-eq1-clause-drops : goal.returns-then-head-eq1-clause-drops
returns-then-head-eq1-clause-drops c =
    let which : ((c.args.i ≡ 0) × (c.if-i-eq0.first ≡ 1)) ⊎ ((c.args.i ≡ 0 → ⊥) × (c.if-i-eq0.first ≡ 0)) =
    elim c.if-i-eq0.branch [ then-i-eq0 w ↦ inl (w.if-i-eq0.true, w.first-is) | else-i-eq0 w ↦ inr (w.if-i-eq0.false, w.first-is) ] in
    let first = first_left c.args.copy.now c.in-Some.head c.args.i c.if-i-eq0.first c.in-Some-child_at.first c.in-Some.ensures.head c.in-Some-child_at.ensures which in (
      sym (count_of c.args.copy.now c.in-Some.head c.in-Some.ensures.head) ∙ c.if-head-eq1.true,
      first,
      child_cut c.args.ctx.now c.edit.new.self c.args.page c.args.i c.saturating_sub.result c.in-Some-child_at.first c.args.copy.now c.cut.new.page c.set_head.new.page c.in-Some.head c.requires.same c.requires.form c.in-Some.ensures.head first c.saturating_sub.ensures c.cut.ensures c.set_head.ensures c.in_ok-edit.ensures.ok,
    )

pub returns-else-head-eq1-clause-given : goal.returns-else-head-eq1-clause-given
returns-else-head-eq1-clause-given c =
    edit_given c.args.ctx.now c.edit.new.self c.args.page c.set_head.new.page (room_of-page c.args.ctx.now c.args.page c.args.copy.now c.requires.same ∙ form_size c.args.copy.now c.requires.form)
    (form_size c.set_head.new.page c.set_head.ensures.form) c.in_ok-edit.ensures.ok

pub returns-else-head-eq1-clause-drops : goal.returns-else-head-eq1-clause-drops
returns-else-head-eq1-clause-drops c =
    let which : ((c.args.i ≡ 0) × (c.if-i-eq0.first ≡ 1)) ⊎ ((c.args.i ≡ 0 → ⊥) × (c.if-i-eq0.first ≡ 0)) =
    elim c.if-i-eq0.branch [ then-i-eq0 w ↦ inl (w.if-i-eq0.true, w.first-is) | else-i-eq0 w ↦ inr (w.if-i-eq0.false, w.first-is) ] in
    let first = first_left c.args.copy.now c.in-Some.head c.args.i c.if-i-eq0.first c.in-Some-child_at.first c.in-Some.ensures.head c.in-Some-child_at.ensures which in (
      omega (arith, count_of c.args.copy.now c.in-Some.head c.in-Some.ensures.head, c.if-head-eq0.false, c.if-head-eq1.false),
      child_cut c.args.ctx.now c.edit.new.self c.args.page c.args.i c.saturating_sub.result c.in-Some-child_at.first c.args.copy.now c.cut.new.page c.set_head.new.page c.in-Some.head c.requires.same c.requires.form c.in-Some.ensures.head first c.saturating_sub.ensures c.cut.ensures c.set_head.ensures c.in_ok-edit.ensures.ok,
    )

pub returns-then-head-eq1-clause-edits : goal.returns-then-head-eq1-clause-edits
returns-then-head-eq1-clause-edits c =
    let room = room_of-page c.args.ctx.now c.args.page c.args.copy.now c.requires.same ∙ form_size c.args.copy.now c.requires.form in
    let long = form_size c.set_head.new.page c.set_head.ensures.form in
    let now = edited c.args.ctx.now c.edit.new.self c.args.page c.set_head.new.page room long c.in_ok-edit.ensures.ok in
    subst (λ (v : View). edits_of v + written c.args.ctx.now c.args.page ≤ edits_of c.args.ctx.now + written v c.args.page) (sym now)
    (omega (arith, edits-over c.args.ctx.now c.args.page c.set_head.new.page room long))

pub returns-else-head-eq1-clause-edits : goal.returns-else-head-eq1-clause-edits
returns-else-head-eq1-clause-edits c =
    let room = room_of-page c.args.ctx.now c.args.page c.args.copy.now c.requires.same ∙ form_size c.args.copy.now c.requires.form in
    let long = form_size c.set_head.new.page c.set_head.ensures.form in
    let now = edited c.args.ctx.now c.edit.new.self c.args.page c.set_head.new.page room long c.in_ok-edit.ensures.ok in
    subst (λ (v : View). edits_of v + written c.args.ctx.now c.args.page ≤ edits_of c.args.ctx.now + written v c.args.page) (sym now)
    (omega (arith, edits-over c.args.ctx.now c.args.page c.set_head.new.page room long))
