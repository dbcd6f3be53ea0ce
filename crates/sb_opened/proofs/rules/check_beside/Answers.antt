use Rattle.std.proofs.Common.{sym, ◌∙◌, true≢false}
use Rattle.sb_opened.proofs.rules.check_beside.Goals as goal

pub returns-else-keeps_rule-clause-undamaged : goal.returns-else-keeps_rule-clause-undamaged
returns-else-keeps_rule-clause-undamaged g c = λ a base knows stands. true≢false (sym (c.keeps_rule.ensures.stands a base knows stands) ∙ c.if-keeps_rule.false)
