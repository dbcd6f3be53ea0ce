use Rattle.std.proofs.Common.{sym, subst}
use Rattle.sb_rule.specs.Spelling.{SpellsRule}
use Rattle.sb_catalog.proofs.Parts.{too_few, no_rule}
use Rattle.sb_catalog.proofs.reading.rule_of.Goals as goal

pub returns-then-rest-len : goal.returns-then-rest-len
returns-then-rest-len c x rest fits e =
    let len = rw c.in-Some.is at c.short_of.ensures in
    too_few c.args.code _ _ _ len.0 len.1 c.if-rest-len.true x rest fits e

pub returns-in-None : goal.returns-in-None
returns-in-None c x rest fits e =
    let len = rw c.in-Some.is at c.short_of.ensures in
    no_rule c.args.code _ _ _ len.0 len.1 c.if-rest-len.false
    (λ rule s. let spells = subst (λ b. SpellsRule c.args.code b rule) (sym c.split_at.ensures.front) s in cc (c.in_ok-rule.ensures.only rule spells, c.in-None.is))
    x rest fits e
