use Rattle.std.proofs.Common.{◌≡◌, ◌<◌, ℕ, Some, length, insert, set, slice_get, refl, sym, ap, ◌∙◌, arith}
use Rattle.std.proofs.lemmas.Option.{slice_get_read, slice_get_within, same_Some}
use Rattle.sb_ctx.specs.View.{HeldPage}
use Rattle.sb_ctx.specs.Held.{Entries}
use Rattle.sb_ctx.proofs.HeldLemmas.{place, put-set, put-insert}
use Rattle.sb_ctx.proofs.ctx.put.Goals as goal
use Rattle.sb_ctx.proofs.ctx.put.Goals.{else-place-len-via-then-place-len+else-number, else-place-len-via-else-place-len}

pub returns-then-number-clause-ok : goal.returns-then-number-clause-ok
returns-then-number-clause-ok c =
    let held : Entries = c.args.held.now.items in
    let at : c.lesser-place.result ≡ place c.args.page.0 held = c.lesser-place.ensures ∙ (λ i. place (c.number.ensures i) (c.deref.ensures.value i)) in
    let within : c.lesser-place.result < length held = omega (arith, c.args.held.now.ok.0) in
    let there : slice_get held c.lesser-place.result ≡ Some c.index.result.now = slice_get_read held (length held) c.lesser-place.result c.index.result.now refl within c.index.ensures in
    let number : c.index.result.now.0 ≡ c.args.page.0 = sym c.number-then-place-len.ensures ∙ c.if-number.true ∙ c.number-then-place-len-2.ensures in
    ap (λ i. set held i c.args.page) at ∙ sym (put-set held c.args.page.0 c.args.page.1 c.index.result.now (ap (slice_get held) (sym at) ∙ there) number)

pub returns-in_ok-insert-clause-ok : goal.returns-in_ok-insert-clause-ok
returns-in_ok-insert-clause-ok c =
    let held : Entries = c.args.held.now.items in
    let at : c.lesser-place.result ≡ place c.args.page.0 held = c.lesser-place.ensures ∙ (λ i. place (c.number.ensures i) (c.deref.ensures.value i)) in
    let not_there : (e : ℕ × HeldPage) → slice_get held c.lesser-place.result ≡ Some e → e.0 ≡ c.args.page.0 → ⊥ = λ e there number.
    elim c.else-place-len.branch [
      | else-place-len-via-then-place-len+else-number w ↦
          let within : c.lesser-place.result < length held = omega (arith, c.args.held.now.ok.0) in
          let read : slice_get held c.lesser-place.result ≡ Some w.index.result.now = slice_get_read held (length held) c.lesser-place.result w.index.result.now refl within w.index.ensures in
          w.if-number.false
          (w.number-then-place-len.ensures ∙ ap (λ (x : ℕ × HeldPage). x.0) (same_Some w.index.result.now e (sym read ∙ there)) ∙ number ∙ sym w.number-then-place-len-2.ensures)
      | else-place-len-via-else-place-len w ↦ omega (arith, c.args.held.now.ok.0, slice_get_within held c.lesser-place.result e there)
    ] in
    c.in_ok-insert.ensures.items ∙ ap (λ i. insert held i c.args.page) at ∙ sym (put-insert held c.args.page.0 c.args.page.1 (λ e there number. not_there e (ap (slice_get held) at ∙ there) number))
