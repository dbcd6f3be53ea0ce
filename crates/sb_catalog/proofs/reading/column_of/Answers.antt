use Rattle.sb_catalog.proofs.Parts.{no_type}
use Rattle.sb_catalog.proofs.reading.column_of.Goals as goal

pub returns-in_default-type_of : goal.returns-in_default-type_of
returns-in_default-type_of c x rest fits e =
    let name = rw c.in-Some.is at c.in_ok-name.ensures in
    let none = rw c.in_default-type_of.is at c.type_of.ensures in
    no_type _ _ _ name.0 name.1 none x rest fits e
