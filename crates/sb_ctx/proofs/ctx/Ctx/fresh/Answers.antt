use Rattle.std.proofs.Common.{◌≡◌, Some, None, position, sym, ap, ◌∙◌}
use Rattle.std.proofs.lemmas.Bool.{and_parts}
use Rattle.sb_forms.specs.Fits.{is_empty}
use Rattle.sb_forms.specs.Pages.{zeros}
use Rattle.sb_ctx.proofs.HeldLemmas.{is_free, IsFirst-read, free_page-first, free_page-none, AreSound-set, set-with_page, number_at}
use Rattle.sb_ctx.proofs.SizedLemmas.{IsSized-at, AreSized-set, taken-sized, length-zeros, zeros-bytes}
use Rattle.sb_ctx.proofs.ctx.Ctx.fresh.Goals as goal

pub returns-in_err-i-clause-number : goal.returns-in_err-i-clause-number
returns-in_err-i-clause-number c =
    let none : position is_free c.self.inside.held.items ≡ None = sym (ap (position is_free) c.deref.ensures.value) ∙ sym c.free_place.ensures ∙ c.in_err-i.was in
    c.from_residual.ensures ∙ sym (free_page-none c.self.view_is none)

pub take-requires : goal.take-requires
take-requires c =
    let at : position is_free c.self.inside.held.items ≡ Some c.in_ok-i.i = sym (ap (position is_free) c.deref.ensures.value) ∙ sym c.free_place.ensures ∙ c.in_ok-i.was in
    let found = IsFirst-read is_free c.self.inside.held.items c.in_ok-i.i c.index_mut.result.now at c.index_mut.ensures.value in
    (and_parts c.index_mut.result.now.1.fresh (is_empty c.index_mut.result.now.1.now) found.passes).0

pub invariant_of-self : goal.invariant_of-self
invariant_of-self c =
    let at : position is_free c.self.inside.held.items ≡ Some c.in_ok-i.i = sym (ap (position is_free) c.deref.ensures.value) ∙ sym c.free_place.ensures ∙ c.in_ok-i.was in
    let found = IsFirst-read is_free c.self.inside.held.items c.in_ok-i.i c.index_mut.result.now at c.index_mut.ensures.value in
    let sized = IsSized-at c.self.inside.held.items c.in_ok-i.i c.index_mut.result.now c.self.invariant.0 found.there c.self.invariant.1 in (
      AreSound-set c.self.inside.held.items c.in_ok-i.i c.index_mut.result.now c.take.new.self zeros c.self.invariant.0 found.there c.take.ensures,
      AreSized-set c.self.inside.held.items c.in_ok-i.i c.index_mut.result.now c.take.new.self zeros c.self.invariant.0 found.there c.take.ensures
          (taken-sized c.index_mut.result.now.1 zeros (and_parts c.index_mut.result.now.1.fresh (is_empty c.index_mut.result.now.1.now) found.passes).0 length-zeros zeros-bytes sized) c.self.invariant.1,
    )

pub returns-clause-number : goal.returns-clause-number
returns-clause-number c =
    let at : position is_free c.self.inside.held.items ≡ Some c.in_ok-i.i = sym (ap (position is_free) c.deref.ensures.value) ∙ sym c.free_place.ensures ∙ c.in_ok-i.was in
    let found = IsFirst-read is_free c.self.inside.held.items c.in_ok-i.i c.index_mut.result.now at c.index_mut.ensures.value in
    let number = number_at c.self.inside.held.items c.in_ok-i.i c.index_mut.result.now c.take.new.self c.index.result.now found.there c.index.ensures (ap (λ x. x.0) c.take.ensures) in
    ap Some (c.number.ensures ∙ number) ∙ sym (free_page-first c.self.view_is c.in_ok-i.i c.index_mut.result.now found)

pub returns-clause-taken : goal.returns-clause-taken
returns-clause-taken c =
    let at : position is_free c.self.inside.held.items ≡ Some c.in_ok-i.i = sym (ap (position is_free) c.deref.ensures.value) ∙ sym c.free_place.ensures ∙ c.in_ok-i.was in
    let found = IsFirst-read is_free c.self.inside.held.items c.in_ok-i.i c.index_mut.result.now at c.index_mut.ensures.value in
    let number = number_at c.self.inside.held.items c.in_ok-i.i c.index_mut.result.now c.take.new.self c.index.result.now found.there c.index.ensures (ap (λ x. x.0) c.take.ensures) in
    set-with_page c.self.view_is c.number.result c.in_ok-i.i c.index_mut.result.now c.take.new.self zeros c.self.invariant.0.rises found.there (sym (c.number.ensures ∙ number)) c.take.ensures
