use Rattle.sb_rule.proofs.Actions.{no_other, no_others}
use Rattle.sb_rule.proofs.parts.tie_of.Goals as goal

pub returns-in_default-2 : goal.returns-in_default-2
returns-in_default-2 c x rest fits e =
    let columns = rw c.in-Some.is at c.in_ok-columns.ensures in
    let none = rw c.in_default-2.is at c.in_ok-other.ensures in
    no_other _ _ _ columns.0 columns.1 none x rest fits e

pub returns-in_default-3 : goal.returns-in_default-3
returns-in_default-3 c x rest fits e =
    let columns = rw c.in-Some.is at c.in_ok-columns.ensures in
    let other = rw c.in-Some-2.is at c.in_ok-other.ensures in
    let none = rw c.in_default-3.is at c.in_ok-others.ensures in
    no_others _ _ _ _ _ columns.0 columns.1 other.0 other.1 none x rest fits e
