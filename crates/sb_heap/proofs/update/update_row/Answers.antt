use Rattle.std.proofs.Common.{◌≡◌, ℕ, List, true, Ok, inl, inr, sym, ap, ◌∙◌, rules, subst, arith}
use Rattle.std.proofs.lemmas.Result.{err_from_is_err_and}
use Rattle.sb_node.specs.Page.{node_in}
use Rattle.sb_node.proofs.Edited.{node_of-form}
use Rattle.sb_forms.specs.Read.{has}
use Rattle.sb_ctx.specs.declared.calls.MethodCall.TheVariants.{Update}
use Rattle.sb_heap.specs.Broken.{held_node}
use Rattle.sb_heap.specs.Held.{turn_pages}
use Rattle.sb_heap.specs.Spots.{Replaces}
use Rattle.sb_heap.specs.Heap.{heap_method}
use Rattle.sb_ctx.specs.MethodAnswers.{Changes}
use Rattle.sb_ctx.specs.declared.moves.Move.TheVariants.{Key as Keyed}
use Rattle.sb_heap.proofs.Outcomes.{Changes-memory, Changes-stop, Stopped-own}
use Rattle.sb_heap.proofs.Changing.{Bare, Changes-lacks-update, Lacks, Short, Stopped-replace, asked_own_update, asked_turn_update, updating}
use Rattle.sb_heap.proofs.Changed.{IsAtPlace}
use Rattle.sb_heap.proofs.Replaced.{Changes-moved, Changes-replaced}
use Rattle.sb_heap.proofs.update.update_row.Goals as goal

pub returns-then-not-is_page : goal.returns-then-not-is_page
returns-then-not-is_page c = Changes-memory c.args.inst.now (Update c.args.key.now c.args.tuple.now) c.args.ctx.now (updating c.args.inst.now c.args.key.now c.args.tuple.now) c.requires.clean.unchanged

pub returns-in_default : goal.returns-in_default
returns-in_default c = Changes-lacks-update c.args.inst.now c.args.key.now c.args.tuple.now c.args.ctx.now c.requires.clean.unchanged (Short c.in_default.ensures)

pub returns-in_err-bytes : goal.returns-in_err-bytes
returns-in_err-bytes c =
    let p = err_from_is_err_and c.from_residual.result c.from_residual.ensures.1 in
    let inst = c.args.inst.now in
    let key = c.args.key.now in
    let old = c.args.ctx.now in
    let own = c.in_err-bytes.ensures.stops in
    rw (p.1, p.2) (Changes-stop inst (Update key c.args.tuple.now) old old c.in_err-bytes.field-0.0 (updating inst key c.args.tuple.now) c.requires.clean.unchanged c.requires.clean.unchanged (omega arith)
    (Stopped-own inst (Update key c.args.tuple.now) old c.in-Some.page c.in_err-bytes.field-0.0 (asked_own_update inst old key c.args.tuple.now c.in-Some.page c.in-Some.slot.now c.in-Some.ensures own.some) own))

pub returns-in_default-2 : goal.returns-in_default-2
returns-in_default-2 c =
    Changes-lacks-update c.args.inst.now c.args.key.now c.args.tuple.now c.args.ctx.now c.requires.clean.unchanged (Bare c.in-Some.page c.in-Some.slot.now c.in-Some.ensures (rw c.in_default-2.is at c.in_ok-bytes.ensures.ok))

pub returns-in_default-place : goal.returns-in_default-place
returns-in_default-place c =
    let own = rw c.in-Some-2.is at c.in_ok-bytes.ensures.ok in
    Changes-lacks-update c.args.inst.now c.args.key.now c.args.tuple.now c.args.ctx.now c.requires.clean.unchanged
    (Lacks c.in-Some.page c.in-Some.slot.now c.in-Some-2.bytes.now c.in-Some-2.head c.in_default-place.field-0 c.in-Some.ensures own.1 own.2 (sym c.in_default-place.ensures))

pub returns-in_err-row : goal.returns-in_err-row
returns-in_err-row c =
    let p = err_from_is_err_and c.from_residual-in_err-row.result c.from_residual-in_err-row.ensures.1 in
    rw (p.1, p.2) (Changes-memory c.args.inst.now (Update c.args.key.now c.args.tuple.now) c.args.ctx.now (updating c.args.inst.now c.args.key.now c.args.tuple.now) c.requires.clean.unchanged)

pub returns-in_err-copy : goal.returns-in_err-copy
returns-in_err-copy c =
    let p = err_from_is_err_and c.from_residual-in_err-copy.result c.from_residual-in_err-copy.ensures.1 in
    rw (p.1, p.2) (Changes-memory c.args.inst.now (Update c.args.key.now c.args.tuple.now) c.args.ctx.now (updating c.args.inst.now c.args.key.now c.args.tuple.now) c.requires.clean.unchanged)

pub returns-in_err-now : goal.returns-in_err-now
returns-in_err-now c =
    let p = err_from_is_err_and c.from_residual-in_err-now.result c.from_residual-in_err-now.ensures.1 in
    let inst = c.args.inst.now in
    let key = c.args.key.now in
    let old = c.args.ctx.now in
    let clean = c.requires.clean.unchanged in
    let own = rw c.in-Some-2.is at c.in_ok-bytes.ensures.ok in
    let x = node_in c.in-Some-2.bytes.now in
    let there = ap held_node own.2.held_is ∙ node_of-form c.in-Some-2.bytes.now own.2.form in
    let same : c.deref_mut.result.now ≡ c.in-Some-2.bytes.now = search rules in
    rw (p.1, p.2) (Stopped-replace inst key c.args.tuple.now old c.replace_row.new.ctx (node_in c.deref_mut.result.now).head c.in_err-now.field-0.0
    (λ n had. asked_turn_update inst old key c.args.tuple.now c.in-Some.page c.in-Some.slot.now x clean c.in-Some.ensures there n (subst (λ (b : List ℕ). has n (turn_pages old inst.root (node_in b).head) ≡ true) same had))
    clean c.in_err-now.ensures)

pub returns : goal.returns
returns c =
    let inst = c.args.inst.now in
    let key = c.args.key.now in
    let old = c.args.ctx.now in
    let new = c.replace_row.new.ctx in
    let row = c.as_slice.result.now in
    let own = rw c.in-Some-2.is at c.in_ok-bytes.ensures.ok in
    let same : c.deref_mut.result.now ≡ c.in-Some-2.bytes.now = search rules in
    let at : IsAtPlace old key c.in-Some.page c.in-Some.slot.now c.in-Some-2.bytes.now c.in-Some-2.head c.in-Ok.i = record { parts = c.in-Some.ensures; low = own.1; held = own.2; place = sym c.in-Ok.ensures } in
    let spelled = c.as_slice.ensures ∙ c.in_ok-row.ensures.spelled in
    elim (subst (λ (b : List ℕ). Replaces old new inst.root c.in-Some.page (node_in b) c.in-Ok.i c.in-Some.slot.now row key (Ok c.in_ok-now.now)) same c.in_ok-now.ensures) [
      | inl kept ↦ subst (λ (k : List ℕ). Changes heap_method inst (Update key c.args.tuple.now) old new (Keyed k)) (sym kept.0)
          (Changes-replaced inst c.args.tuple.now row old new key c.in-Some.page c.in-Some.slot.now c.in-Some-2.bytes.now c.in-Some-2.head c.in-Ok.i c.requires.clean.unchanged c.requires.row spelled at kept.1)
      | inr moved ↦ Changes-moved inst c.args.tuple.now row old new key c.in_ok-now.now c.in-Some.page c.in-Some.slot.now c.in-Some-2.bytes.now c.in-Some-2.head c.in-Ok.i c.requires.clean.unchanged c.requires.row spelled at moved.0 moved.1
    ]
