use Rattle.std.proofs.Common.{◌≡◌, true≢false, List, Option, Some, None, Bor, is_some, sym, ap, ◌∙◌}
use Rattle.std.specs.Option.{option_copied}
use Rattle.sb_drive.proofs.SpacesLemmas.{IfErr-passed}
use Rattle.sb_relation.specs.Db.{Name}
use Rattle.sb_relation.specs.Fits.{relation_of}
use Rattle.sb_standing.specs.Tables.{db_of, kept_at}
use Rattle.sb_asking.specs.OpenRelation.{OpenRelation}
use Rattle.sb_engine.specs.Working.{open_at}
use Rattle.sb_engine.proofs.OpenedLemmas.{has_open, schema_there}
use Rattle.sb_engine.proofs.OpeningLemmas.{fits_test, fitting_kept, may_do}
use Rattle.sb_engine.proofs.fitting.prepare.Goals as goal

pub returns-in_err-open_named-clause-undamaged : goal.returns-in_err-open_named-clause-undamaged
returns-in_err-open_named-clause-undamaged g c =
    IfErr-passed c.from_residual.result c.in_err-open_named.field-0.0 _ c.from_residual.ensures.1 (λ want s kept keeping rules fits. c.in_err-open_named.ensures.undamaged want s kept keeping rules)

pub returns-in-Some-clause-may : goal.returns-in-Some-clause-may
returns-in-Some-clause-may g c =
    let a = c.args.action.now in
    let opened = c.open_named.new.opened.items in
    let at : open_at opened (relation_of a) ≡ Some c.in-Some.one.now =
    ap (λ (l : List OpenRelation). open_at l (relation_of a)) (sym c.deref.ensures.value) ∙ ap (λ (n : Name). open_at c.deref.result.now n) (sym c.relation_of-relation.ensures)
    ∙ sym c.open_at.ensures ∙ ap (λ (o : Option (Bor OpenRelation)). option_copied o) c.in-Some.is in
    may_do opened a c.in-Some.one.now at (sym c.may_be_done.ensures ∙ c.if-may_be_done.true)

pub returns-in_default-clause-undamaged : goal.returns-in_default-clause-undamaged
returns-in_default-clause-undamaged g c = λ want s kept keeping rules fits.
    let a = c.args.action.now in
    let opened = c.open_named.new.opened.items in
    let at : open_at opened (relation_of a) ≡ Some c.in-Some.one.now =
    ap (λ (l : List OpenRelation). open_at l (relation_of a)) (sym c.deref.ensures.value) ∙ ap (λ (n : Name). open_at c.deref.result.now n) (sym c.relation_of-relation.ensures)
    ∙ sym c.open_at.ensures ∙ ap (λ (o : Option (Bor OpenRelation)). option_copied o) c.in-Some.is in
    let h = has_open (g.B.Boxes.meanings c.args.boxes.now) c.args.place.root s kept opened (relation_of a) c.in-Some.one.now keeping.tables (c.in_ok-open_named.ensures.opened want s kept keeping) at in
    true≢false (sym (fits_test (db_of kept) a c.in-Some.one.now.descriptor.schema (schema_there (db_of kept) (relation_of a) h.k.relation h.there ∙ sym h.is.schema) fits) ∙ sym c.may_be_done.ensures ∙ c.if-may_be_done.false)

pub returns-in_default-2-clause-undamaged : goal.returns-in_default-2-clause-undamaged
returns-in_default-2-clause-undamaged g c = λ want s kept keeping rules fits.
    let a = c.args.action.now in
    let opened = c.open_named.new.opened.items in
    let at : open_at opened (relation_of a) ≡ None =
    ap (λ (l : List OpenRelation). open_at l (relation_of a)) (sym c.deref.ensures.value) ∙ ap (λ (n : Name). open_at c.deref.result.now n) (sym c.relation_of-relation.ensures)
    ∙ sym c.open_at.ensures ∙ ap (λ (o : Option (Bor OpenRelation)). option_copied o) c.in_default.is in
    let there = c.in_ok-open_named.ensures.there in
    let found = c.in_ok-open_named.ensures.found want s kept keeping in
    let name = c.relation_of-relation.ensures in
    true≢false (sym (fitting_kept kept (relation_of a) fits.there) ∙ ap (λ (n : Name). is_some (kept_at kept n)) (sym name) ∙ sym found ∙ there ∙ ap (λ (n : Name). is_some (open_at opened n)) name ∙ ap (λ (o : Option OpenRelation). is_some o) at)
