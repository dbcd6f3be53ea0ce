use Rattle.std.proofs.Common.{◌≡◌, Some, None, position, option_map, sym, ap, ◌∙◌}
use Rattle.sb_ctx.specs.Held.{has_number}
use Rattle.sb_ctx.proofs.HeldLemmas.{IsFirst-read, page_of-first, page_of-none}
use Rattle.sb_ctx.proofs.ctx.Ctx.page.Goals as goal

pub returns-in_err-i : goal.returns-in_err-i
returns-in_err-i c =
    let none : position (has_number c.args.n) c.self.inside.held.items ≡ None = sym (ap (position (has_number c.args.n)) c.deref.ensures.value) ∙ sym c.place_of.ensures ∙ c.in_err-i.was in
    ap (option_map (λ bytes. bytes.now)) c.from_residual.ensures ∙ sym (page_of-none c.self.view_is c.args.n none)

pub returns : goal.returns
returns c =
    let at : position (has_number c.args.n) c.self.inside.held.items ≡ Some c.in_ok-i.i = sym (ap (position (has_number c.args.n)) c.deref.ensures.value) ∙ sym c.place_of.ensures ∙ c.in_ok-i.was in
    ap Some c.bytes.ensures ∙ sym (page_of-first c.self.view_is c.args.n c.in_ok-i.i c.index.result.now (IsFirst-read (has_number c.args.n) c.self.inside.held.items c.in_ok-i.i c.index.result.now at c.index.ensures))
