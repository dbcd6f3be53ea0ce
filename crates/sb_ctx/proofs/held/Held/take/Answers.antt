use Rattle.std.proofs.Common.{◌≡◌, ℕ, true, replicate, length, sym, ap, ◌∙◌}
use Rattle.std.specs.Vec.{with_items}
use Rattle.std.proofs.lemmas.List.{with_items_is, length-replicate}
use Rattle.sb_forms.specs.Pages.{zeros}
use Rattle.sb_ctx.specs.Uses.{is_fresh_use}
use Rattle.sb_ctx.specs.View.{HeldPage}
use Rattle.sb_ctx.proofs.HeldLemmas.{fresh_room}
use Rattle.sb_ctx.proofs.held.Held.take.Goals as goal

pub returns : goal.returns
unfolding zeros
returns c =
    let seen = c.self.view_is in
    let fresh : is_fresh_use c.self.inside.state ≡ true = ap (λ (h : ℕ × HeldPage). h.1.fresh) seen ∙ c.requires in
    let cleared : c.clear.new.page ≡ zeros = c.clear.ensures ∙ ap (λ n. replicate n 0) (ap length c.deref_mut.ensures.value ∙ fresh_room c.self.inside.state c.self.inside.given.items c.self.inside.work.items fresh c.self.invariant) in
    let work : (with_items c.self.inside.work c.clear.new.page).items ≡ zeros = with_items_is c.self.inside.work c.clear.new.page (ap length c.clear.ensures ∙ length-replicate (length c.deref_mut.result.now) 0 ∙ c.deref_mut.ensures.len) ∙ cleared in
    λ i. ((seen i).0, record { given = (seen i).1.given; now = work i; fresh = (sym c.requires) i })
