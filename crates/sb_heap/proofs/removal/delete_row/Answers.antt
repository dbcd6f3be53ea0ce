use Rattle.std.proofs.Common.{◌≡◌, ◌<◌, ℕ, List, true, sym, ap, ◌∙◌, rules, subst, arith}
use Rattle.std.proofs.lemmas.Result.{err_from_is_err_and}
use Rattle.sb_node.specs.declared.head.Head.{Head}
use Rattle.sb_node.specs.Entries.{without}
use Rattle.sb_node.specs.Page.{node_in, with_entries}
use Rattle.sb_node.proofs.Edited.{node_of-form}
use Rattle.sb_node.proofs.Runs.{form_size}
use Rattle.sb_forms.specs.Read.{has}
use Rattle.sb_ctx.specs.declared.calls.MethodCall.TheVariants.{Delete}
use Rattle.sb_ctx.proofs.ViewLaws.{room_of-page}
use Rattle.sb_heap.specs.Broken.{held_node}
use Rattle.sb_heap.specs.Held.{turn_pages}
use Rattle.sb_heap.specs.Spots.{IsRewritten}
use Rattle.sb_heap.proofs.Slots.{entry_within}
use Rattle.sb_heap.proofs.Outcomes.{Changes-memory, Changes-stop, Stopped-own}
use Rattle.sb_heap.proofs.Changing.{Bare, Changes-lacks-delete, Lacks, Short, Stopped-turn, asked_own_delete, asked_turn_delete, deleting}
use Rattle.sb_heap.proofs.Changed.{Changes-cut, Changes-dropped}
use Rattle.sb_heap.proofs.removal.delete_row.Goals as goal
use Rattle.sb_heap.proofs.removal.delete_row.Goals.{else-head-eq1-via-then-head-eq1+else-page-root, else-head-eq1-via-else-head-eq1}

pub returns-then-not-is_page : goal.returns-then-not-is_page
returns-then-not-is_page c = Changes-memory c.args.inst.now (Delete c.args.key.now) c.args.ctx.now (deleting c.args.inst.now c.args.key.now) c.requires.clean.unchanged

pub returns-in_default : goal.returns-in_default
returns-in_default c = Changes-lacks-delete c.args.inst.now c.args.key.now c.args.ctx.now c.requires.clean.unchanged (Short c.in_default.ensures)

pub returns-in_err-bytes : goal.returns-in_err-bytes
returns-in_err-bytes c =
    let p = err_from_is_err_and c.from_residual.result c.from_residual.ensures.1 in
    let inst = c.args.inst.now in
    let key = c.args.key.now in
    let old = c.args.ctx.now in
    let own = c.in_err-bytes.ensures.stops in
    rw (p.1, p.2) (Changes-stop inst (Delete key) old old c.in_err-bytes.field-0.0 (deleting inst key) c.requires.clean.unchanged c.requires.clean.unchanged (omega arith)
    (Stopped-own inst (Delete key) old c.in-Some.page c.in_err-bytes.field-0.0 (asked_own_delete inst old key c.in-Some.page c.in-Some.slot.now c.in-Some.ensures own.some) own))

pub returns-in_default-2 : goal.returns-in_default-2
returns-in_default-2 c =
    Changes-lacks-delete c.args.inst.now c.args.key.now c.args.ctx.now c.requires.clean.unchanged (Bare c.in-Some.page c.in-Some.slot.now c.in-Some.ensures (rw c.in_default-2.is at c.in_ok-bytes.ensures.ok))

pub returns-in_default-place : goal.returns-in_default-place
returns-in_default-place c =
    let own = rw c.in-Some-2.is at c.in_ok-bytes.ensures.ok in
    Changes-lacks-delete c.args.inst.now c.args.key.now c.args.ctx.now c.requires.clean.unchanged
    (Lacks c.in-Some.page c.in-Some.slot.now c.in-Some-2.bytes.now c.in-Some-2.head c.in_default-place.field-0 c.in-Some.ensures own.1 own.2 (sym c.in_default-place.ensures))

pub drop_page-requires-clause-room : goal.drop_page-requires-clause-room
drop_page-requires-clause-room c =
    let own = rw c.in-Some-2.is at c.in_ok-bytes.ensures.ok in
    room_of-page c.args.ctx.now c.in-Some.page c.in-Some-2.bytes.now own.2.held_is ∙ form_size c.in-Some-2.bytes.now own.2.form

pub returns-in_err-drop_page : goal.returns-in_err-drop_page
returns-in_err-drop_page c =
    let p = err_from_is_err_and c.from_residual-in_err-drop_page.result c.from_residual-in_err-drop_page.ensures.1 in
    let inst = c.args.inst.now in
    let key = c.args.key.now in
    let old = c.args.ctx.now in
    let clean = c.requires.clean.unchanged in
    let own = rw c.in-Some-2.is at c.in_ok-bytes.ensures.ok in
    let x = node_in c.in-Some-2.bytes.now in
    let there = ap held_node own.2.held_is ∙ node_of-form c.in-Some-2.bytes.now own.2.form in
    rw (p.1, p.2) (Stopped-turn inst (Delete key) old c.drop_page.new.ctx 4 c.in-Some-2.head c.in_err-drop_page.field-0.0
    (λ n had. asked_turn_delete inst old key c.in-Some.page c.in-Some.slot.now x clean c.in-Some.ensures there n (subst (λ (h : Head). has n (turn_pages old inst.root h) ≡ true) own.2.head_is had))
    (omega arith) (deleting inst key) clean c.in_err-drop_page.ensures)

pub returns-in_err-copy : goal.returns-in_err-copy
returns-in_err-copy c =
    let p = err_from_is_err_and c.from_residual-in_err-copy.result c.from_residual-in_err-copy.ensures.1 in
    rw (p.1, p.2) (Changes-memory c.args.inst.now (Delete c.args.key.now) c.args.ctx.now (deleting c.args.inst.now c.args.key.now) c.requires.clean.unchanged)

pub cut_row-requires-clause-within : goal.cut_row-requires-clause-within
cut_row-requires-clause-within c =
    let own = rw c.in-Some-2.is at c.in_ok-bytes.ensures.ok in
    let same : c.deref_mut.result.now ≡ c.in-Some-2.bytes.now = search rules in
    subst (λ (b : List ℕ). c.in-Ok.i < (node_in b).head.count) (sym same) (entry_within c.in-Some-2.bytes.now c.in-Some.slot.now c.in-Ok.i own.2.form (sym c.in-Ok.ensures))

pub returns-in_err-cut_row : goal.returns-in_err-cut_row
returns-in_err-cut_row c =
    let p = err_from_is_err_and c.from_residual-in_err-cut_row.result c.from_residual-in_err-cut_row.ensures.1 in
    let inst = c.args.inst.now in
    let key = c.args.key.now in
    let old = c.args.ctx.now in
    let clean = c.requires.clean.unchanged in
    let own = rw c.in-Some-2.is at c.in_ok-bytes.ensures.ok in
    let x = node_in c.in-Some-2.bytes.now in
    let there = ap held_node own.2.held_is ∙ node_of-form c.in-Some-2.bytes.now own.2.form in
    let same : c.deref_mut.result.now ≡ c.in-Some-2.bytes.now = search rules in
    rw (p.1, p.2) (Stopped-turn inst (Delete key) old c.cut_row.new.ctx 4 (node_in c.deref_mut.result.now).head c.in_err-cut_row.field-0.0
    (λ n had. asked_turn_delete inst old key c.in-Some.page c.in-Some.slot.now x clean c.in-Some.ensures there n (subst (λ (b : List ℕ). has n (turn_pages old inst.root (node_in b).head) ≡ true) same had))
    (omega arith) (deleting inst key) clean c.in_err-cut_row.ensures)

pub returns-in_ok-cut_row : goal.returns-in_ok-cut_row
returns-in_ok-cut_row c =
    let inst = c.args.inst.now in
    let old = c.args.ctx.now in
    let own = rw c.in-Some-2.is at c.in_ok-bytes.ensures.ok in
    let same : c.deref_mut.result.now ≡ c.in-Some-2.bytes.now = search rules in
    Changes-cut inst old c.cut_row.new.ctx c.args.key.now c.in-Some.page c.in-Some.slot.now c.in-Some-2.bytes.now c.in-Some-2.head c.in-Ok.i c.requires.clean.unchanged
    (record { parts = c.in-Some.ensures; low = own.1; held = own.2; place = sym c.in-Ok.ensures })
    (λ other. elim c.else-head-eq1.branch [
      | else-head-eq1-via-then-head-eq1+else-page-root w ↦ λ one. other w.if-page-root.false
      | else-head-eq1-via-else-head-eq1 w ↦ w.if-head-eq1.false
    ])
    (subst (λ (b : List ℕ). IsRewritten old c.cut_row.new.ctx inst.root c.in-Some.page (node_in b) (with_entries (without c.in-Ok.i (node_in b).entries) (node_in b))) same c.in_ok-cut_row.ensures)

pub returns-in_ok-drop_page : goal.returns-in_ok-drop_page
returns-in_ok-drop_page c =
    let own = rw c.in-Some-2.is at c.in_ok-bytes.ensures.ok in
    Changes-dropped c.args.inst.now c.args.ctx.now c.drop_page.new.ctx c.args.key.now c.in-Some.page c.in-Some.slot.now c.in-Some-2.bytes.now c.in-Some-2.head c.in-Ok.i c.requires.clean.unchanged
    (record { parts = c.in-Some.ensures; low = own.1; held = own.2; place = sym c.in-Ok.ensures }) c.if-page-root.true c.if-head-eq1.true c.in_ok-drop_page.ensures
