use Rattle.std.proofs.Common.{◌≡◌, Some, None, position, sym, ap, ◌∙◌}
use Rattle.sb_ctx.specs.Held.{has_number}
use Rattle.sb_ctx.proofs.HeldLemmas.{IsFirst-read, holds_fresh-first, holds_fresh-none}
use Rattle.sb_ctx.proofs.ctx.Ctx.holds_fresh.Goals as goal

pub returns-in-Some : goal.returns-in-Some
returns-in-Some c =
    let at : position (has_number c.args.n) c.self.inside.held.items ≡ Some c.in-Some.i = sym (ap (position (has_number c.args.n)) c.deref.ensures.value) ∙ sym c.place_of.ensures ∙ c.in-Some.is in
    c.is_fresh.ensures ∙ sym (holds_fresh-first c.self.view_is c.args.n c.in-Some.i c.index.result.now (IsFirst-read (has_number c.args.n) c.self.inside.held.items c.in-Some.i c.index.result.now at c.index.ensures))

pub returns-in-None : goal.returns-in-None
returns-in-None c =
    let none : position (has_number c.args.n) c.self.inside.held.items ≡ None = sym (ap (position (has_number c.args.n)) c.deref.ensures.value) ∙ sym c.place_of.ensures ∙ c.in-None.is in
    sym (holds_fresh-none c.self.view_is c.args.n none)
