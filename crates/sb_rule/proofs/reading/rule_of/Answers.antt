use Rattle.sb_rule.proofs.Laws.{no_tree, no_join, no_stats, no_check, no_refers, no_trigger}
use Rattle.sb_rule.proofs.reading.rule_of.Goals as goal

pub returns-in-None : goal.returns-in-None
returns-in-None c x rest fits e =
    let none = rw c.in-None.is at c.in_ok-parts-in-1.ensures in
    no_tree c.args.code c.args.bytes.now c.in-1.is none x rest fits e

pub returns-in-None-3 : goal.returns-in-None-3
returns-in-None-3 c x rest fits e =
    let none = rw c.in-None-3.is at c.in_ok-parts-in-3.ensures in
    no_join c.args.code c.args.bytes.now c.in-3.is none x rest fits e

pub returns-in-None-4 : goal.returns-in-None-4
returns-in-None-4 c x rest fits e =
    let none = rw c.in-None-4.is at c.in_ok-column-in-4.ensures in
    no_stats c.args.code c.args.bytes.now c.in-4.is none x rest fits e

pub returns-in-None-5 : goal.returns-in-None-5
returns-in-None-5 c x rest fits e =
    let none = rw c.in-None-5.is at c.in_ok-deferred-in-5.ensures in
    no_check c.args.code c.args.bytes.now c.in-5.is none x rest fits e

pub returns-in-None-6 : goal.returns-in-None-6
returns-in-None-6 c x rest fits e =
    let none = rw c.in-None-6.is at c.in_ok-parts-in-6.ensures in
    no_refers c.args.code c.args.bytes.now c.in-6.is none x rest fits e

pub returns-in-None-7 : goal.returns-in-None-7
returns-in-None-7 c x rest fits e =
    let none = rw c.in-None-7.is at c.in_ok-parts-in-7.ensures in
    no_trigger c.args.code c.args.bytes.now c.in-7.is none x rest fits e

pub returns-in-Some-3 : goal.returns-in-Some-3
returns-in-Some-3 c =
    let found = rw c.in-Some-3.is at c.in_ok-parts-in-3.ensures in
    rw c.join_index.ensures ((c.in-3.is, found.0, tt), found.1)

pub returns-in-Some-6 : goal.returns-in-Some-6
returns-in-Some-6 c =
    let found = rw c.in-Some-6.is at c.in_ok-parts-in-6.ensures in
    rw c.refers.ensures ((c.in-6.is, found.0, tt), found.1)
