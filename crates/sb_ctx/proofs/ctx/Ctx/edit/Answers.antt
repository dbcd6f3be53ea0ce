use Rattle.std.proofs.Common.{◌≡◌, ◌+◌, ◌≤◌, length, Some, None, position, sym, ap, ◌∙◌, eqb-true, true≢false, is_some, arith}
use Rattle.std.proofs.lemmas.Result.{on_ok_weaker}
use Rattle.sb_bytes.specs.Bytes.{splice}
use Rattle.sb_ctx.specs.Held.{has_number}
use Rattle.sb_ctx.proofs.ViewLaws.{room_of-page}
use Rattle.sb_ctx.proofs.HeldLemmas.{IsFirst-read, page_of-first, page_of-none, IfSome-at, AreSound-edited, set-with_page}
use Rattle.sb_ctx.proofs.SizedLemmas.{IsSized-at, AreSized-edited, splice-sized}
use Rattle.sb_ctx.proofs.ctx.Ctx.edit.Goals as goal

pub edit-requires : goal.edit-requires
edit-requires c =
    let at : position (has_number c.args.n) c.self.inside.held.items ≡ Some c.in-Some.i = sym (ap (position (has_number c.args.n)) c.deref.ensures.value) ∙ sym c.place_of.ensures ∙ c.in-Some.is in
    let page = page_of-first c.self.view_is c.args.n c.in-Some.i c.index_mut.result.now (IsFirst-read (has_number c.args.n) c.self.inside.held.items c.in-Some.i c.index_mut.result.now at c.index_mut.ensures.value) in
    omega (arith, room_of-page c.args.self.now c.args.n c.index_mut.result.now.1.now page)

pub invariant_of-self : goal.invariant_of-self
invariant_of-self c =
    let at : position (has_number c.args.n) c.self.inside.held.items ≡ Some c.in-Some.i = sym (ap (position (has_number c.args.n)) c.deref.ensures.value) ∙ sym c.place_of.ensures ∙ c.in-Some.is in
    let found = IsFirst-read (has_number c.args.n) c.self.inside.held.items c.in-Some.i c.index_mut.result.now at c.index_mut.ensures.value in
    let sized = IsSized-at c.self.inside.held.items c.in-Some.i c.index_mut.result.now c.self.invariant.0 found.there c.self.invariant.1 in
    let page = page_of-first c.self.view_is c.args.n c.in-Some.i c.index_mut.result.now found in
    let fits : c.args.offset + length c.args.bytes.now ≤ length c.index_mut.result.now.1.now = omega (arith, room_of-page c.args.self.now c.args.n c.index_mut.result.now.1.now page) in (
      AreSound-edited c.edit.result c.self.inside.held.items c.in-Some.i c.index_mut.result.now c.edit.new.self _ c.self.invariant.0 found.there c.edit.ensures.ok c.edit.ensures.err,
      AreSized-edited c.edit.result c.self.inside.held.items c.in-Some.i c.index_mut.result.now c.edit.new.self _ c.self.invariant.0 found.there c.edit.ensures.ok c.edit.ensures.err
          (splice-sized c.index_mut.result.now.1 c.args.offset c.args.bytes.now fits c.edit.ensures.bytes sized) c.self.invariant.1,
    )

pub unreachable-requires : goal.unreachable-requires
unreachable-requires c =
    let none : position (has_number c.args.n) c.self.inside.held.items ≡ None = sym (ap (position (has_number c.args.n)) c.deref.ensures.value) ∙ sym c.place_of.ensures ∙ c.in-None.is in
    true≢false (sym c.requires.held ∙ ap is_some (page_of-none c.self.view_is c.args.n none))

pub returns-clause-ok : goal.returns-clause-ok
returns-clause-ok c =
    let at : position (has_number c.args.n) c.self.inside.held.items ≡ Some c.in-Some.i = sym (ap (position (has_number c.args.n)) c.deref.ensures.value) ∙ sym c.place_of.ensures ∙ c.in-Some.is in
    let found = IsFirst-read (has_number c.args.n) c.self.inside.held.items c.in-Some.i c.index_mut.result.now at c.index_mut.ensures.value in
    on_ok_weaker c.edit.result (λ is. IfSome-at _ _ _ (page_of-first c.self.view_is c.args.n c.in-Some.i c.index_mut.result.now found)
    (set-with_page c.self.view_is c.args.n c.in-Some.i c.index_mut.result.now c.edit.new.self (splice c.args.offset c.args.bytes.now c.index_mut.result.now.1.now) c.self.invariant.0.rises found.there (eqb-true c.index_mut.result.now.0 c.args.n found.passes) is)) c.edit.ensures.ok
