use Rattle.std.proofs.Common.{◌≡◌, Option, Some, IfSome, option_map, sym, ap, ◌∙◌, subst}
use Rattle.std.specs.List.{slice_get}
use Rattle.std.proofs.lemmas.Option.{same_Some}
use Rattle.std.proofs.lemmas.Result.{IfOk-weaker, IfErr-weaker}
use Rattle.sb_fold.specs.Outcome.{Entry}
use Rattle.sb_deferred.specs.Waiting.{check_of}
use Rattle.sb_drive.proofs.SpacesLemmas.{IfErr-passed}
use Rattle.sb_standing.proofs.CallsLemmas.{Looks-later}
use Rattle.sb_standing.specs.Tables.{db_of}
use Rattle.sb_standing.proofs.StandLemmas.{StandRules-keeps}
use Rattle.sb_asking.specs.OpenRelation.{OpenRelation}
use Rattle.sb_asking.specs.Opened.{IsDurable, IsOpen}
use Rattle.sb_engine.specs.Failing.{FailsNowhere}
use Rattle.sb_engine.proofs.FailingLemmas.{nowhere_none, nowhere_there}
use Rattle.sb_engine.proofs.OpeningLemmas.{opened_of}
use Rattle.sb_engine.proofs.waiting.waiting_fails.Goals as goal

pub returns-in_err-one-clause-undamaged : goal.returns-in_err-one-clause-undamaged
returns-in_err-one-clause-undamaged g c =
    IfErr-passed c.from_residual.result c.in_err-one.field-0.0 _ c.from_residual.ensures.1
    (λ want s gone kept has keeps. c.in_err-one.ensures.undamaged want s kept has keeps.tables (StandRules-keeps (g.B.Boxes.meanings c.args.boxes.now) IsDurable c.args.place.root s gone kept keeps))

-- its relation isn't there
pub returns-in_default-2-clause-none : goal.returns-in_default-2-clause-none
returns-in_default-2-clause-none g c = λ want s gone kept has keeps passes e waits.
    let x : Entry = check_of c.in-Some.relation.now c.in-Some.name.now c.in-Some.entry.now in
    let found = sym (ap (λ (o : Option OpenRelation). option_map (λ (y : OpenRelation). y.descriptor) o) c.in_default-2.is) ∙ c.in_ok-one.ensures.found want s kept has keeps.tables in
    let at : slice_get c.args.queue.now.entries c.args.i ≡ Some x = sym c.in-Some.ensures.check in
    subst (λ (y : Entry). FailsNowhere (db_of kept) y) (same_Some x e (sym at ∙ waits)) (nowhere_none kept x found)

-- it is
pub returns-clause-none : goal.returns-clause-none
returns-clause-none g c =
    let m = g.B.Boxes.meanings c.args.boxes.now in
    let x : Entry = check_of c.in-Some.relation.now c.in-Some.name.now c.in-Some.entry.now in
    let is_open = subst (λ (o : Option OpenRelation). IfSome o (λ y. IsOpen m y × (y.name ≡ c.in-Some.relation.now))) c.in-Some-2.is c.in_ok-one.ensures.opened in
    IfOk-weaker c.named_fails.result _ _ (λ fails none want s gone kept has keeps passes e waits.
    let found = sym (ap (λ (o : Option OpenRelation). option_map (λ (y : OpenRelation). y.descriptor) o) c.in-Some-2.is) ∙ c.in_ok-one.ensures.found want s kept has keeps.tables in
    let is = opened_of m kept c.in-Some-2.one c.in-Some.relation.now is_open.0 is_open.1 found in
    let at : slice_get c.args.queue.now.entries c.args.i ≡ Some x = sym c.in-Some.ensures.check in
    subst (λ (y : Entry). FailsNowhere (db_of kept) y) (same_Some x e (sym at ∙ waits))
    (nowhere_there m kept c.in-Some-2.one x is is_open.1 (none want s gone kept (c.in_ok-one.ensures.looks.same want s has) keeps passes is))) c.named_fails.ensures.none

pub returns-clause-undamaged : goal.returns-clause-undamaged
returns-clause-undamaged g c =
    let m = g.B.Boxes.meanings c.args.boxes.now in
    let is_open = subst (λ (o : Option OpenRelation). IfSome o (λ y. IsOpen m y × (y.name ≡ c.in-Some.relation.now))) c.in-Some-2.is c.in_ok-one.ensures.opened in
    IfErr-weaker c.named_fails.result _ _ (λ e sound want s gone kept has keeps.
    let found = sym (ap (λ (o : Option OpenRelation). option_map (λ (y : OpenRelation). y.descriptor) o) c.in-Some-2.is) ∙ c.in_ok-one.ensures.found want s kept has keeps.tables in
    sound want s gone kept (c.in_ok-one.ensures.looks.same want s has) keeps (opened_of m kept c.in-Some-2.one c.in-Some.relation.now is_open.0 is_open.1 found)) c.named_fails.ensures.undamaged

pub returns-clause-looks : goal.returns-clause-looks
returns-clause-looks g c =
    let first = c.in_ok-one.ensures.looks in
    Looks-later g.S.PageSpace.has g.S.PageSpace.leads g.S.PageSpace.fails c.args.space.now c.open_relation.new.space c.named_fails.new.space c.named_fails.result g.met.S.PageSpace.goes_on g.met.S.PageSpace.fails_on
    first.leads first.same c.named_fails.ensures.looks
