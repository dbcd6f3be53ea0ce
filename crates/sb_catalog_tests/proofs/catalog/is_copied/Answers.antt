use Rattle.sb_catalog_tests.proofs.catalog.is_copied.Goals as goal

pub write_rule-requires : goal.write_rule-requires
write_rule-requires c = rw c.in_ok-copy.ensures c.requires
