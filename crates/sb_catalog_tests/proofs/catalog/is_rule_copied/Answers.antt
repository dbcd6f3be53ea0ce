use Rattle.sb_rule.proofs.StorableRules.{IsShortRule_from_storable}
use Rattle.sb_catalog_tests.proofs.catalog.is_rule_copied.Goals as goal

pub is_copied-is_copied-requires : goal.is_copied-is_copied-requires
is_copied-is_copied-requires c =
    let found = rw c.in-Some.is at c.in_ok-rule.ensures.found in
    IsShortRule_from_storable c.in-Some.rule found.storable
