use Rattle.sb_catalog.proofs.Numbers.{no_owner, no_root}
use Rattle.sb_catalog.proofs.reading.instance_of.Goals as goal

pub returns-in_default-short_of : goal.returns-in_default-short_of
returns-in_default-short_of c x rest fits e =
    let code = rw c.in-Some.is at c.short_of.ensures in
    let none = rw c.in_default-short_of.is at c.short_of-2.ensures in
    no_owner _ _ _ code.0 code.1 none x rest fits e

pub returns-in_default-long_of : goal.returns-in_default-long_of
returns-in_default-long_of c x rest fits e =
    let code = rw c.in-Some.is at c.short_of.ensures in
    let owner = rw c.in-Some-short_of.is at c.short_of-2.ensures in
    let none = rw c.in_default-long_of.is at c.long_of.ensures in
    no_root _ _ _ _ _ code.0 code.1 owner.0 owner.1 none x rest fits e
