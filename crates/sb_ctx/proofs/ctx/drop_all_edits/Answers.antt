use Rattle.std.proofs.Common.{ℕ, set, sym, ap, ◌∙◌, arith}
use Rattle.std.proofs.lemmas.List.Edits.{map_over_more}
use Rattle.sb_ctx.specs.View.{HeldPage, as_given}
use Rattle.sb_ctx.proofs.ctx.drop_all_edits.Goals as goal

pub loop-page-preserved : goal.loop-page-preserved
loop-page-preserved c =
    ap (λ x. set c.loop-page.held c.loop-page.page-index x) (c.drop_edits.ensures ∙ ap (λ (e : ℕ × HeldPage). (e.0, as_given e.1)) (sym c.page-item.is))
    ∙ map_over_more (λ (e : ℕ × HeldPage). (e.0, as_given e.1)) c.args.held.now c.loop-page.held c.loop-page.page-index c.page-item.result (omega arith) c.loop-page.invariant c.page-item.is
