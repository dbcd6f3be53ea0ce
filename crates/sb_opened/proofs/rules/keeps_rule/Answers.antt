use Rattle.std.proofs.Common.{sym, ◌∙◌, ◌≡◌, true, option_copied, true≢false}
use Rattle.sb_kinds.proofs.Bare.{bare, bare-knows}
use Rattle.sb_opened.proofs.Standing.{HasPlace-stands, IsLiveRule-kept, MayStand-stands, is_live-stands, rules_at}
use Rattle.sb_opened.proofs.rules.keeps_rule.Goals as goal

pub returns-then-not-has_rule-clause-stands : goal.returns-then-not-has_rule-clause-stands
returns-then-not-has_rule-clause-stands g c = λ a base knows stands.
    let live = is_live-stands (g.B.Boxes.meanings c.args.boxes.now) c.args.name.now c.args.descriptor.now c.args.attached.now a base stands in
    absurd (true≢false (sym live ∙ (sym c.has_rule.ensures ∙ c.if-not-has_rule.true)))

pub returns-then-not-has_place-clause-stands : goal.returns-then-not-has_place-clause-stands
returns-then-not-has_place-clause-stands g c = λ a base knows stands.
    let place = HasPlace-stands (g.B.Boxes.meanings c.args.boxes.now) c.args.name.now c.args.descriptor.now c.args.attached.now a base c.requires.storable stands in
    absurd (true≢false (sym (c.has_place.ensures.1 place) ∙ c.if-not-has_place.true))

pub returns-clause-live : goal.returns-clause-live
returns-clause-live g c = λ so.
    let m = g.B.Boxes.meanings c.args.boxes.now in
    let name = c.args.name.now in
    let d = c.args.descriptor.now in
    let a = c.args.attached.now in
    let other = option_copied c.args.other in
    let may = c.may_stand.ensures (rules_at m a.code) (bare name d.schema a.rule other) (bare-knows name d.schema a.rule other c.requires.own) c.foreign_fits-fits.ensures in
    IsLiveRule-kept m name d a other (sym c.has_rule.ensures ∙ c.if-not-has_rule.false) c.learn_rule.ensures c.requires.storable (c.has_place.ensures.0 c.if-not-has_place.false) (may.0 so)

pub returns-clause-stands : goal.returns-clause-stands
returns-clause-stands g c = λ other base knows stands.
    let m = g.B.Boxes.meanings c.args.boxes.now in
    let a = c.args.attached.now in
    (c.may_stand.ensures (rules_at m a.code) base knows c.foreign_fits-fits.ensures).1 (MayStand-stands m c.args.name.now c.args.descriptor.now a other base c.requires.storable stands)
