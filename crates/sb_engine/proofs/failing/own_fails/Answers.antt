use Rattle.std.proofs.Common.{◌≡◌, ℕ, List, Option, Some, None, Bor, sym, ap, ◌∙◌, subst}
use Rattle.std.specs.List.{slice_get}
use Rattle.std.specs.Option.{option_copied}
use Rattle.std.proofs.lemmas.Option.{same_Some}
use Rattle.std.proofs.lemmas.Result.{IfOk-weaker}
use Rattle.sb_fold.specs.Outcome.{Entry}
use Rattle.sb_deferred.specs.Waiting.{check_of}
use Rattle.sb_catalog.specs.declared.descriptor.Attached.{Attached}
use Rattle.sb_standing.specs.Tables.{db_of}
use Rattle.sb_engine.specs.Failing.{Tells}
use Rattle.sb_engine.proofs.FailingLemmas.{as_described, kept_as, not_own, tells_own}
use Rattle.sb_engine.proofs.PlacedLemmas.{absent}
use Rattle.sb_engine.proofs.failing.own_fails.Goals as goal

-- there is none in this place
pub returns-in_default-attached_at-clause-tells : goal.returns-in_default-attached_at-clause-tells
returns-in_default-attached_at-clause-tells g c = λ want s gone kept has keeps is a there e waits own.
    let one = c.args.one.now in
    let none : slice_get one.descriptor.attachments c.args.i ≡ None = sym c.attached_at.ensures ∙ ap (λ (o : Option (Bor Attached)). option_copied o) c.in_default-attached_at.is in
    absurd (absent one.descriptor.attachments is.one.relation.attachments c.args.i a (as_described (g.B.Boxes.meanings c.args.boxes.now) c.args.place.root s gone kept one is keeps) none there)

-- the entry is the attachment's
pub returns-then-is_own-clause-tells : goal.returns-then-is_own-clause-tells
returns-then-is_own-clause-tells g c =
    let one = c.args.one.now in
    let x : Entry = check_of c.in-Some.relation.now c.in-Some.label.now c.in-Some.entry.now in
    IfOk-weaker c.entry_fails.result _ _ (λ fails tells want s gone kept has keeps is a there e waits.
    let at : slice_get c.args.queue.now.entries c.args.j ≡ Some x = sym c.in-Some.ensures.check in
    let same : x ≡ e = same_Some x e (sym at ∙ waits) in
    tells_own (db_of kept) one.name a e fails (subst (λ (l : List ℕ). Tells (db_of kept) one.name a.rule l fails) (ap (λ (y : Entry). y.entry) same) (tells want s gone kept has keeps is a there)))
    c.entry_fails.ensures.tells

-- or another's
pub returns-clause-tells : goal.returns-clause-tells
returns-clause-tells g c = λ want s gone kept has keeps is a there e waits own.
    let one = c.args.one.now in
    let d = c.in-Some-attached_at.attached.now in
    let x : Entry = check_of c.in-Some.relation.now c.in-Some.label.now c.in-Some.entry.now in
    let at : slice_get one.descriptor.attachments c.args.i ≡ Some d = sym c.attached_at.ensures ∙ ap (λ (o : Option (Bor Attached)). option_copied o) c.in-Some-attached_at.is in
    let waiting : slice_get c.args.queue.now.entries c.args.j ≡ Some x = sym c.in-Some.ensures.check in
    let alike = kept_as (g.B.Boxes.meanings c.args.boxes.now) c.args.place.root s gone kept one is c.args.i d a keeps at there in
    absurd (not_own one.name d a x e alike (same_Some x e (sym waiting ∙ waits)) (sym (c.is_own.ensures c.in-Some.entry.now) ∙ c.if-is_own.false) own)
