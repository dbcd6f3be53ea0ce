use Rattle.std.proofs.Common.{true, ◌≡◌, ◌∷◌, ◌++◌, [], List, Option, Some, None, All, IfSome, is_some, sym, ap, ◌∙◌, subst}
use Rattle.std.proofs.lemmas.List.{append-nil}
use Rattle.std.proofs.lemmas.List.Elements.{All-append, All-cons, All-nil}
use Rattle.sb_drive.proofs.SpacesLemmas.{IfErr-passed}
use Rattle.sb_catalog.specs.declared.descriptor.Descriptor.{Descriptor}
use Rattle.sb_standing.specs.Tables.{Kept, kept_at}
use Rattle.sb_asking.specs.OpenRelation.{OpenRelation}
use Rattle.sb_asking.specs.Opened.{IsOpen}
use Rattle.sb_engine.specs.Working.{AreOpened, IsOpened, open_at}
use Rattle.sb_engine.proofs.OpeningLemmas.{copied_some, open_kept, open_pushed, opened_of, same_there}
use Rattle.sb_engine.proofs.opening.open_named.Goals as goal

pub returns-then-is_some-clause-found : goal.returns-then-is_some-clause-found
returns-then-is_some-clause-found g c = λ want s kept keeping.
    let there : is_some (open_at c.args.opened.now.items c.args.name.now) ≡ true =
    ap (λ (l : List OpenRelation). is_some (open_at l c.args.name.now)) (sym c.deref.ensures.value) ∙ ap (λ (o : Option OpenRelation). is_some o) (sym c.open_at.ensures)
    ∙ copied_some c.open_at.result ∙ sym c.is_some.ensures ∙ c.if-is_some.true in
    open_kept (g.B.Boxes.meanings c.args.boxes.now) kept c.args.opened.now.items c.args.name.now keeping.opened there

pub returns-in_err-open_relation-clause-undamaged : goal.returns-in_err-open_relation-clause-undamaged
returns-in_err-open_relation-clause-undamaged g c =
    IfErr-passed c.from_residual.result c.in_err-open_relation.field-0.0 _ c.from_residual.ensures.1 (λ want s kept keeping rules. c.in_err-open_relation.ensures.undamaged want s kept keeping.has keeping.tables rules)

pub returns-in-None-clause-found : goal.returns-in-None-clause-found
returns-in-None-clause-found g c = λ want s kept keeping.
    sym (ap (λ (o : Option OpenRelation). is_some o) c.in-None.is)
    ∙ same_there (λ (o : OpenRelation). o.descriptor) (λ (k : Kept). k.descriptor) c.in_ok-open_relation.field-0 (kept_at kept c.args.name.now) (c.in_ok-open_relation.ensures.found want s kept keeping.has keeping.tables)

pub returns-in-Ok-clause-there : goal.returns-in-Ok-clause-there
returns-in-Ok-clause-there g c =
    let is = subst (λ (o : Option OpenRelation). IfSome o (λ x. IsOpen (g.B.Boxes.meanings c.args.boxes.now) x × (x.name ≡ c.args.name.now))) c.in-Some.is c.in_ok-open_relation.ensures.opened in
    let items : c.push.new.self.items ≡ c.args.opened.now.items ++ c.in-Some.relation ∷ [] = c.in-Ok.ensures.items in
    open_pushed c.args.opened.now.items c.args.name.now c.in-Some.relation is.1 ∙ ap (λ (l : List OpenRelation). is_some (open_at l c.args.name.now)) (sym items)

pub returns-in-Ok-clause-found : goal.returns-in-Ok-clause-found
returns-in-Ok-clause-found g c = λ want s kept keeping.
    sym (ap (λ (o : Option OpenRelation). is_some o) c.in-Some.is)
    ∙ same_there (λ (o : OpenRelation). o.descriptor) (λ (k : Kept). k.descriptor) c.in_ok-open_relation.field-0 (kept_at kept c.args.name.now) (c.in_ok-open_relation.ensures.found want s kept keeping.has keeping.tables)

pub returns-in-Ok-clause-opened : goal.returns-in-Ok-clause-opened
returns-in-Ok-clause-opened g c = λ want s kept keeping.
    let m = g.B.Boxes.meanings c.args.boxes.now in
    let is = subst (λ (o : Option OpenRelation). IfSome o (λ x. IsOpen m x × (x.name ≡ c.args.name.now))) c.in-Some.is c.in_ok-open_relation.ensures.opened in
    let items : c.push.new.self.items ≡ c.args.opened.now.items ++ c.in-Some.relation ∷ [] = c.in-Ok.ensures.items in
    let found : Some c.in-Some.relation.descriptor ≡ _ = ap (λ (o : Option OpenRelation). elim o as (λ _. Option Descriptor) [ None ↦ None | Some x ↦ Some x.descriptor ]) (sym c.in-Some.is) ∙ c.in_ok-open_relation.ensures.found want s kept keeping.has keeping.tables in
    subst (λ (l : List OpenRelation). AreOpened m kept l) (sym items)
    (All-append (IsOpened m kept) c.args.opened.now.items (c.in-Some.relation ∷ []) keeping.opened
    (All-cons (IsOpened m kept) c.in-Some.relation [] (opened_of m kept c.in-Some.relation c.args.name.now is.0 is.1 found) (All-nil (IsOpened m kept))))

pub returns-in-Ok-clause-are_open : goal.returns-in-Ok-clause-are_open
returns-in-Ok-clause-are_open g c =
    let m = g.B.Boxes.meanings c.args.boxes.now in
    let is = subst (λ (o : Option OpenRelation). IfSome o (λ x. IsOpen m x × (x.name ≡ c.args.name.now))) c.in-Some.is c.in_ok-open_relation.ensures.opened in
    let items : c.push.new.self.items ≡ c.args.opened.now.items ++ c.in-Some.relation ∷ [] = c.in-Ok.ensures.items in
    subst (λ (l : List OpenRelation). All (IsOpen m) l) (sym items)
    (All-append (IsOpen m) c.args.opened.now.items (c.in-Some.relation ∷ []) c.requires.are_open (All-cons (IsOpen m) c.in-Some.relation [] is.0 (All-nil (IsOpen m))))

-- where memory was wanting, no relation more is open
pub returns-in-Err-clause-grows : goal.returns-in-Err-clause-grows
returns-in-Err-clause-grows g c = record { more = []; is = c.in-Err.ensures.items ∙ sym (append-nil c.args.opened.now.items) }
