use Rattle.sb_rule.proofs.Actions.{no_column, no_term, no_pairs, found_assignment}
use Rattle.sb_rule.proofs.parts.assignment_of.Goals as goal

pub returns-in_default-2 : goal.returns-in_default-2
returns-in_default-2 c x rest fits e =
    let relation = rw c.in-Some.is at c.in_ok-relation.ensures in
    let none = rw c.in_default-2.is at c.in_ok-column.ensures in
    no_column _ _ _ relation.0 relation.1 none x rest fits e

pub returns-in_default-3 : goal.returns-in_default-3
returns-in_default-3 c x rest fits e =
    let relation = rw c.in-Some.is at c.in_ok-relation.ensures in
    let column = rw c.in-Some-2.is at c.in_ok-column.ensures in
    let none = rw c.in_default-3.is at c.in_ok-term.ensures in
    no_term _ _ _ _ _ relation.0 relation.1 column.0 column.1 none x rest fits e

pub returns-in_default-4 : goal.returns-in_default-4
returns-in_default-4 c x rest fits e =
    let relation = rw c.in-Some.is at c.in_ok-relation.ensures in
    let column = rw c.in-Some-2.is at c.in_ok-column.ensures in
    let term = rw c.in-Some-3.is at c.in_ok-term.ensures in
    let none = rw c.in_default-4.is at c.in_ok-pairs.ensures in
    no_pairs _ _ _ _ _ _ _ relation.0 relation.1 column.0 column.1 term.0 term.1 none x rest fits e

pub returns : goal.returns
returns c =
    let relation = rw c.in-Some.is at c.in_ok-relation.ensures in
    let column = rw c.in-Some-2.is at c.in_ok-column.ensures in
    let term = rw c.in-Some-3.is at c.in_ok-term.ensures in
    let pairs = rw c.in-Some-4.is at c.in_ok-pairs.ensures in
    ((relation.0, column.0, term.0, pairs.0), found_assignment _ _ _ _ _ _ _ _ _ relation.1 column.1 term.1 pairs.1)
