use Rattle.sb_rule.proofs.Laws.{no_action}
use Rattle.sb_rule.proofs.reading.reaction_of.Goals as goal

pub returns-in_default-2 : goal.returns-in_default-2
returns-in_default-2 c x rest fits e =
    let pred = rw c.in-Some.is at c.in_ok-pred.ensures in
    let none = rw c.in_default-2.is at c.in_ok-action.ensures in
    no_action _ _ _ pred.0 pred.1 none x rest fits e
