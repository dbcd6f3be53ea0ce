use Rattle.sb_weights.proofs.Charged.{asking-is-charged, method-is-charged, prepare-is-charged, rule-is-charged}
use Rattle.sb_weights.proofs.laws.calls_are_charged.Goals as goal

pub returns-clause-method : goal.returns-clause-method
returns-clause-method c = method-is-charged

pub returns-clause-rule : goal.returns-clause-rule
returns-clause-rule c = rule-is-charged

pub returns-clause-asking : goal.returns-clause-asking
returns-clause-asking c = asking-is-charged

pub returns-clause-prepare : goal.returns-clause-prepare
returns-clause-prepare c = prepare-is-charged
