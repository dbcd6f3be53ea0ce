use Rattle.std.proofs.Common.{◌≡◌, false, ◌∙◌, ap, sym}
use Rattle.std.proofs.lemmas.Result.{IfOk-weaker, IfErr-weaker}
use Rattle.sb_fold.specs.Extensions.{Extensions}
use Rattle.sb_plain.specs.Refusing.{first_of, refused}
use Rattle.sb_plain.specs.State.{State, view}
use Rattle.sb_refusals.specs.Catalogue.{is_damage}
use Rattle.sb_refusals.specs.Refusing.{seen_tests}
use Rattle.sb_refusals.specs.Seen.{AreSeen}
use Rattle.sb_refusals.proofs.InOrder.{behind_place}
use Rattle.sb_refusals.proofs.refusing.refuse.Goals as goal

pub returns-clause-refused : goal.returns-clause-refused
returns-clause-refused g c =
    let same = g.met.C.Catalogue.same c.args.catalogue.now c.see_named.new.catalogue c.see_named.ensures.leads in
    IfOk-weaker c.refuse_seen-made.result
    (λ r. (s : State) → g.C.Catalogue.sees s c.see_named.new.catalogue → AreSeen (view s) c.args.command.now c.in_ok-named.named
    → (r ≡ first_of (seen_tests (g.C.Catalogue.extensions c.see_named.new.catalogue) s c.args.command.now)) × g.C.Catalogue.sees s c.refuse_seen-made.new.catalogue)
    (λ r. (s : State) → g.C.Catalogue.sees s c.args.catalogue.now
    → (r ≡ refused (g.C.Catalogue.extensions c.args.catalogue.now) s c.args.command.now) × g.C.Catalogue.sees s c.refuse_seen-made.new.catalogue)
    (λ r h s sees.
    let seen = c.in_ok-named.ensures.seen s sees in
    let found = h s seen.1 seen.0 in (
      behind_place (g.C.Catalogue.extensions c.args.catalogue.now) s c.args.command.now r (sym c.in_default.is ∙ c.refuse_place.ensures.refused s sees)
          (found.0 ∙ ap (λ (ext : Extensions). first_of (seen_tests ext s c.args.command.now)) same),
      found.1,
    ))
    c.refuse_seen-made.ensures.refused

pub returns-clause-fails : goal.returns-clause-fails
returns-clause-fails g c =
    IfErr-weaker c.refuse_seen-made.result (λ r. g.C.Catalogue.fails r c.see_named.new.catalogue c.refuse_seen-made.new.catalogue)
    (λ r. g.C.Catalogue.fails r c.args.catalogue.now c.refuse_seen-made.new.catalogue)
    (λ r h. g.met.C.Catalogue.fails_on r c.args.catalogue.now c.see_named.new.catalogue c.refuse_seen-made.new.catalogue c.see_named.ensures.leads h) c.refuse_seen-made.ensures.fails

pub returns-clause-undamaged : goal.returns-clause-undamaged
returns-clause-undamaged g c =
    IfErr-weaker c.refuse_seen-made.result (λ r. (s : State) → g.C.Catalogue.sees s c.see_named.new.catalogue → is_damage r ≡ false)
    (λ r. (s : State) → g.C.Catalogue.sees s c.args.catalogue.now → is_damage r ≡ false)
    (λ r h s sees. h s (c.in_ok-named.ensures.seen s sees).1) c.refuse_seen-made.ensures.undamaged
