use Rattle.sb_rule.proofs.Laws.{no_low, no_width_behind}
use Rattle.sb_rule.proofs.reading.stats_of.Goals as goal

pub returns-in_default-number_of : goal.returns-in_default-number_of
returns-in_default-number_of c x rest fits e =
    let column = rw c.in-Some.is at c.in_ok-column.ensures in
    no_low _ _ _ column.0 column.1 c.in_default-number_of.ensures x rest fits e

pub returns-in_default-width_of : goal.returns-in_default-width_of
returns-in_default-width_of c x rest fits e =
    let column = rw c.in-Some.is at c.in_ok-column.ensures in
    let low = c.in-Some-number_of.ensures in
    no_width_behind _ _ _ _ _ column.0 column.1 low.0 low.1 c.in_default-width_of.ensures x rest fits e
