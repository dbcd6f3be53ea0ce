use Rattle.std.proofs.Common.{◌≡◌, Bool, true, false, cond, Option, Some, None, Bor, sym, ap, ◌∙◌}
use Rattle.std.specs.List.{slice_get}
use Rattle.std.specs.Option.{option_copied}
use Rattle.sb_rule.specs.declared.rule.Rule.{Rule}
use Rattle.sb_relation.specs.Db.{Name}
use Rattle.sb_fold.specs.Finish.{is_tested_late}
use Rattle.sb_catalog.specs.declared.descriptor.Attached.{Attached}
use Rattle.sb_standing.specs.Tables.{db_of}
use Rattle.sb_engine.specs.Working.{extensions_of}
use Rattle.sb_engine.proofs.FailingLemmas.{as_described, fails_not, kept_as}
use Rattle.sb_engine.proofs.PlacedLemmas.{absent}
use Rattle.sb_engine.proofs.failing.late_at.Goals as goal

pub returns-in_default-clause-found : goal.returns-in_default-clause-found
returns-in_default-clause-found g c = λ want s gone kept has keeps is a there complete.
    let one = c.args.one.now in
    let none : slice_get one.descriptor.attachments c.args.i ≡ None = sym c.attached_at.ensures ∙ ap (λ (o : Option (Bor Attached)). option_copied o) c.in_default.is in
    absurd (absent one.descriptor.attachments is.one.relation.attachments c.args.i a (as_described (g.B.Boxes.meanings c.args.boxes.now) c.args.place.root s gone kept one is keeps) none there)

-- it isn't tested at the commit
pub returns-then-not-is_tested_late-clause-found : goal.returns-then-not-is_tested_late-clause-found
returns-then-not-is_tested_late-clause-found g c = λ want s gone kept has keeps is a there complete.
    let m = g.B.Boxes.meanings c.args.boxes.now in
    let one = c.args.one.now in
    let d = c.in-Some.attached.now in
    let at : slice_get one.descriptor.attachments c.args.i ≡ Some d = sym c.attached_at.ensures ∙ ap (λ (o : Option (Bor Attached)). option_copied o) c.in-Some.is in
    let alike = kept_as m c.args.place.root s gone kept one is c.args.i d a keeps at there in
    let early : is_tested_late a.rule ≡ false = ap (λ (r : Rule). is_tested_late r) (sym alike.rule) ∙ (sym c.is_tested_late.ensures ∙ c.if-not-is_tested_late.true) in
    sym (ap (λ (b : Bool). cond b (Some a.name) None) (fails_not (extensions_of m) (db_of kept) one.name a early))

-- it doesn't hold
pub returns-then-branch-clause-found : goal.returns-then-branch-clause-found
returns-then-branch-clause-found g c = λ want s gone kept has keeps is a there complete.
    let m = g.B.Boxes.meanings c.args.boxes.now in
    let one = c.args.one.now in
    let d = c.in-Some.attached.now in
    let at : slice_get one.descriptor.attachments c.args.i ≡ Some d = sym c.attached_at.ensures ∙ ap (λ (o : Option (Bor Attached)). option_copied o) c.in-Some.is in
    let alike = kept_as m c.args.place.root s gone kept one is c.args.i d a keeps at there in
    let late : is_tested_late a.rule ≡ true = ap (λ (r : Rule). is_tested_late r) (sym alike.rule) ∙ (sym c.is_tested_late.ensures ∙ c.if-not-is_tested_late.false) in
    ap (λ (n : Name). Some n) (c.in_ok-name.ensures ∙ alike.name)
    ∙ sym (ap (λ (b : Bool). cond b (Some a.name) None) (c.in_ok-rule_fails.ensures.fails want s gone kept has keeps is a there complete late ∙ c.if-branch.true))

-- it holds
pub returns-clause-found : goal.returns-clause-found
returns-clause-found g c = λ want s gone kept has keeps is a there complete.
    let m = g.B.Boxes.meanings c.args.boxes.now in
    let one = c.args.one.now in
    let d = c.in-Some.attached.now in
    let at : slice_get one.descriptor.attachments c.args.i ≡ Some d = sym c.attached_at.ensures ∙ ap (λ (o : Option (Bor Attached)). option_copied o) c.in-Some.is in
    let alike = kept_as m c.args.place.root s gone kept one is c.args.i d a keeps at there in
    let late : is_tested_late a.rule ≡ true = ap (λ (r : Rule). is_tested_late r) (sym alike.rule) ∙ (sym c.is_tested_late.ensures ∙ c.if-not-is_tested_late.false) in
    sym (ap (λ (b : Bool). cond b (Some a.name) None) (c.in_ok-rule_fails.ensures.fails want s gone kept has keeps is a there complete late ∙ c.if-branch.false))
