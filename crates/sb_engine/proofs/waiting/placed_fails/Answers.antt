use Rattle.std.proofs.Common.{◌≡◌, true≢false, Option, Some, None, Bor, sym, ap, ◌∙◌}
use Rattle.std.specs.List.{slice_get}
use Rattle.std.specs.Option.{option_copied}
use Rattle.std.proofs.lemmas.Result.{IfOk-weaker}
use Rattle.sb_value.specs.Equal.{bytes_same}
use Rattle.sb_catalog.specs.declared.descriptor.Attached.{Attached}
use Rattle.sb_standing.specs.Tables.{db_of}
use Rattle.sb_engine.proofs.FailingLemmas.{as_described, kept_as, tells_false}
use Rattle.sb_engine.proofs.PlacedLemmas.{absent}
use Rattle.sb_engine.proofs.waiting.placed_fails.Goals as goal

pub returns-in_default-clause-none : goal.returns-in_default-clause-none
returns-in_default-clause-none g c = λ want s gone kept has keeps passes is a there named.
    let one = c.args.one.now in
    let none : slice_get one.descriptor.attachments c.args.i ≡ None = sym c.attached_at.ensures ∙ ap (λ (o : Option (Bor Attached)). option_copied o) c.in_default.is in
    absurd (absent one.descriptor.attachments is.one.relation.attachments c.args.i a (as_described (g.B.Boxes.meanings c.args.boxes.now) c.args.place.root s gone kept one is keeps) none there)

pub returns-then-eq-clause-none : goal.returns-then-eq-clause-none
returns-then-eq-clause-none g c =
    IfOk-weaker c.entry_fails.result _ _ (λ fails tells want s gone kept has keeps passes is a there named.
    tells_false (db_of kept) c.args.one.now.name a.rule c.args.entry.now fails passes (tells want s gone kept has keeps is a there)) c.entry_fails.ensures.tells

-- it has another name
pub returns-clause-none : goal.returns-clause-none
returns-clause-none g c = λ want s gone kept has keeps passes is a there named.
    let one = c.args.one.now in
    let d = c.in-Some.attached.now in
    let at : slice_get one.descriptor.attachments c.args.i ≡ Some d = sym c.attached_at.ensures ∙ ap (λ (o : Option (Bor Attached)). option_copied o) c.in-Some.is in
    let same = kept_as (g.B.Boxes.meanings c.args.boxes.now) c.args.place.root s gone kept one is c.args.i d a keeps at there in
    absurd (true≢false (sym ((bytes_same d.name c.args.name.now).1 (same.name ∙ named)) ∙ (sym c.eq.ensures ∙ c.if-eq.false)))
