use Rattle.sb_pred.specs.Spelling.{name_spelling, IsStorableName, IsStorableTerm}
use Rattle.sb_rule.specs.Spelling.{terms_spelling, IsShortList}
use Rattle.sb_rule.proofs.Fronts.{no_second, name_front}
use Rattle.sb_rule.proofs.parts.insert_of.Goals as goal

pub returns-in_default-2 : goal.returns-in_default-2
returns-in_default-2 c x rest fits e =
    let first = rw c.in-Some.is at c.in_ok-relation.ensures in
    let none = rw c.in_default-2.is at c.in_ok-terms.ensures in
    no_second IsStorableName name_spelling (IsShortList IsStorableTerm) terms_spelling name_front _ _ _ first.0 first.1 none (x.0, x.1) rest (fits.0, fits.1) e
