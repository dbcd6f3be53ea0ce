use Rattle.sb_catalog.proofs.Parts.{no_instance, no_name, no_rule_behind}
use Rattle.sb_catalog.proofs.reading.attached_of.Goals as goal

pub returns-in_default : goal.returns-in_default
returns-in_default c x rest fits e =
    let none = rw c.in_default.is at c.instance_of.ensures in
    no_instance c.args.bytes.now none x rest fits e

pub returns-in_default-2 : goal.returns-in_default-2
returns-in_default-2 c x rest fits e =
    let instance = rw c.in-Some.is at c.instance_of.ensures in
    let none = rw c.in_default-2.is at c.in_ok-name.ensures in
    no_name _ _ _ instance.0 instance.1 none x rest fits e

pub returns-in_default-3 : goal.returns-in_default-3
returns-in_default-3 c x rest fits e =
    let instance = rw c.in-Some.is at c.instance_of.ensures in
    let name = rw c.in-Some-2.is at c.in_ok-name.ensures in
    let none = rw c.in_default-3.is at c.in_ok-rule.ensures in
    no_rule_behind _ _ _ (c.in-Some.code, c.in-Some.owner, c.in-Some.root) _ instance.0 instance.1 name.0 name.1 none x rest fits e
