use Rattle.std.proofs.Common.{◌≡◌, true≢false, List, Option, Some, None, Bor, is_some, sym, ap, ◌∙◌}
use Rattle.std.specs.Option.{option_copied}
use Rattle.sb_cascade.specs.Wishes.{wish_of}
use Rattle.sb_drive.proofs.SpacesLemmas.{IfErr-passed}
use Rattle.sb_building.specs.Tables.{db_of}
use Rattle.sb_building.specs.OpenRelation.{OpenRelation}
use Rattle.sb_building.specs.Working.{open_at}
use Rattle.sb_building.proofs.OpenedLemmas.{has_open, schema_there}
use Rattle.sb_building.proofs.OpeningLemmas.{fitting_kept}
use Rattle.sb_statements.proofs.OpenLemmas.{wished_there}
use Rattle.sb_statements.proofs.opening.open_fitting.Goals as goal

pub returns-in_err-open_named-clause-undamaged : goal.returns-in_err-open_named-clause-undamaged
returns-in_err-open_named-clause-undamaged g c =
    IfErr-passed c.from_residual.result c.in_err-open_named.field-0.0 _ c.from_residual.ensures.1 (λ want s kept keeping rules fits. c.in_err-open_named.ensures.undamaged want s kept keeping rules)

pub returns-in-Some-clause-may : goal.returns-in-Some-clause-may
returns-in-Some-clause-may g c = record {
  one = c.in-Some.one.now;
  at = ap (λ (l : List OpenRelation). open_at l c.args.name.now) (sym c.deref.ensures.value) ∙ sym c.open_at.ensures ∙ ap (λ (o : Option (Bor OpenRelation)). option_copied o) c.in-Some.is;
  fits = c.may_be_wished.ensures.fits c.if-may_be_wished.true;
}

pub returns-in_default-clause-undamaged : goal.returns-in_default-clause-undamaged
returns-in_default-clause-undamaged g c = λ want s kept keeping rules fits.
    let name = c.args.name.now in
    let wish = wish_of c.args.wish.now in
    let opened = c.open_named.new.opened.items in
    let one = c.in-Some.one.now in
    let at : open_at opened name ≡ Some one =
    ap (λ (l : List OpenRelation). open_at l name) (sym c.deref.ensures.value) ∙ sym c.open_at.ensures ∙ ap (λ (o : Option (Bor OpenRelation)). option_copied o) c.in-Some.is in
    let h = has_open (g.B.Boxes.meanings c.args.boxes.now) c.args.place.root s kept opened name one keeping.tables (c.in_ok-open_named.ensures.opened want s kept keeping) at in
    true≢false (sym (c.may_be_wished.ensures.only (wished_there (db_of kept) name wish one.descriptor.schema (schema_there (db_of kept) name h.k.relation h.there ∙ sym h.is.schema) fits)) ∙ c.if-may_be_wished.false)

pub returns-in_default-2-clause-undamaged : goal.returns-in_default-2-clause-undamaged
returns-in_default-2-clause-undamaged g c = λ want s kept keeping rules fits.
    let name = c.args.name.now in
    let opened = c.open_named.new.opened.items in
    let at : open_at opened name ≡ None =
    ap (λ (l : List OpenRelation). open_at l name) (sym c.deref.ensures.value) ∙ sym c.open_at.ensures ∙ ap (λ (o : Option (Bor OpenRelation)). option_copied o) c.in_default.is in
    let found = c.in_ok-open_named.ensures.found want s kept keeping in
    true≢false (sym (fitting_kept kept name fits.there) ∙ sym found ∙ c.in_ok-open_named.ensures.there ∙ ap (λ (o : Option OpenRelation). is_some o) at)
