use Rattle.std.proofs.Common.{◌≡◌, [], Some, None, position, sym, ap, ◌∙◌, eqb-true}
use Rattle.sb_ctx.specs.Held.{has_number}
use Rattle.sb_ctx.proofs.ViewLaws.{room_of-none}
use Rattle.sb_ctx.proofs.HeldLemmas.{IsFirst-read, page_of-none, AreSound-set, set-with_page}
use Rattle.sb_ctx.proofs.SizedLemmas.{IsSized-at, AreSized-set, freed-sized}
use Rattle.sb_ctx.proofs.ctx.Ctx.free.Goals as goal

pub invariant_of-self : goal.invariant_of-self
invariant_of-self c =
    let at : position (has_number c.args.n) c.self.inside.held.items ≡ Some c.in-Some.i = sym (ap (position (has_number c.args.n)) c.deref.ensures.value) ∙ sym c.place_of.ensures ∙ c.in-Some.is in
    let found = IsFirst-read (has_number c.args.n) c.self.inside.held.items c.in-Some.i c.index_mut.result.now at c.index_mut.ensures.value in
    let sized = IsSized-at c.self.inside.held.items c.in-Some.i c.index_mut.result.now c.self.invariant.0 found.there c.self.invariant.1 in (
      AreSound-set c.self.inside.held.items c.in-Some.i c.index_mut.result.now c.free.new.self [] c.self.invariant.0 found.there c.free.ensures,
      AreSized-set c.self.inside.held.items c.in-Some.i c.index_mut.result.now c.free.new.self [] c.self.invariant.0 found.there c.free.ensures (freed-sized c.index_mut.result.now.1 sized) c.self.invariant.1,
    )

pub unreachable-requires : goal.unreachable-requires
unreachable-requires c =
    let none : position (has_number c.args.n) c.self.inside.held.items ≡ None = sym (ap (position (has_number c.args.n)) c.deref.ensures.value) ∙ sym c.place_of.ensures ∙ c.in-None.is in
    c.requires (room_of-none c.args.self.now c.args.n (page_of-none c.self.view_is c.args.n none))

pub returns-clause-ok : goal.returns-clause-ok
returns-clause-ok c =
    let at : position (has_number c.args.n) c.self.inside.held.items ≡ Some c.in-Some.i = sym (ap (position (has_number c.args.n)) c.deref.ensures.value) ∙ sym c.place_of.ensures ∙ c.in-Some.is in
    let found = IsFirst-read (has_number c.args.n) c.self.inside.held.items c.in-Some.i c.index_mut.result.now at c.index_mut.ensures.value in
    set-with_page c.self.view_is c.args.n c.in-Some.i c.index_mut.result.now c.free.new.self [] c.self.invariant.0.rises found.there (eqb-true c.index_mut.result.now.0 c.args.n found.passes) c.free.ensures
