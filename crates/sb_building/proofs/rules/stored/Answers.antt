use Rattle.std.proofs.Common.{◌∙◌, sym, true≢false}
use Rattle.sb_rule.proofs.StorableRules.{IsShortRule_from_storable}
use Rattle.sb_building.proofs.rules.stored.Goals as goal
use Rattle.sb_building.proofs.rules.stored.Goals.{then-not-is_short-via-then-not-is_short, then-not-is_short-via-else-not-is_short+then-not-is_within_limits}

pub returns-then-not-is_short-clause-only : goal.returns-then-not-is_short-clause-only
returns-then-not-is_short-clause-only c = λ counted.
    elim c.then-not-is_short.branch [
      | then-not-is_short-via-then-not-is_short w ↦
          absurd (true≢false (sym (c.is_short.ensures.1 (IsShortRule_from_storable c.args.rule.now counted.storable)) ∙ w.if-not-is_short.true))
      | then-not-is_short-via-else-not-is_short+then-not-is_within_limits w ↦
          absurd (true≢false (sym (w.is_within_limits.ensures.1 counted.limited) ∙ w.if-not-is_within_limits.true))
    ]
