use Rattle.std.proofs.Common.{◌≡◌, length, sym, ap, subst, ◌∙◌}
use Rattle.std.specs.Vec.{with_items}
use Rattle.std.proofs.lemmas.List.{with_items_is, length-map}
use Rattle.sb_ctx.specs.View.{as_given}
use Rattle.sb_ctx.specs.Held.{each}
use Rattle.sb_ctx.specs.Sound.{AreSound}
use Rattle.sb_ctx.proofs.SoundLaws.{AreSound-as_given}
use Rattle.sb_ctx.specs.Sized.{AreSized}
use Rattle.sb_ctx.proofs.SizedLemmas.{AreSized-as_given}
use Rattle.sb_ctx.proofs.HeldLemmas.{each-dropped}
use Rattle.sb_ctx.proofs.ctx.Ctx.drop_edits.Goals as goal

dropped_all : (c : goal.After-self-1) → (with_items c.self.inside.held c.drop_all_edits.new.held).items ≡ each as_given c.self.inside.held.items
dropped_all c =
    with_items_is c.self.inside.held c.drop_all_edits.new.held (ap length c.drop_all_edits.ensures ∙ length-map c.deref_mut.result.now (λ e. (e.0, as_given e.1)) ∙ c.deref_mut.ensures.len)
    ∙ c.drop_all_edits.ensures ∙ ap (each as_given) c.deref_mut.ensures.value

pub invariant_of-self : goal.invariant_of-self
invariant_of-self c = (
  subst AreSound (sym (dropped_all c)) (AreSound-as_given c.self.inside.held.items c.self.invariant.0),
  subst AreSized (sym (dropped_all c)) (AreSized-as_given c.self.inside.held.items c.self.invariant.0 c.self.invariant.1),
)

pub returns : goal.returns
returns c = each-dropped c.self.view_is (with_items c.self.inside.held c.drop_all_edits.new.held).items (dropped_all c)
