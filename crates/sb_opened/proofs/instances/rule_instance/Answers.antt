use Rattle.sb_rule.proofs.StorableRules.{IsShortRule_from_storable}
use Rattle.sb_opened.proofs.instances.rule_instance.Goals as goal

pub write_rule-requires : goal.write_rule-requires
write_rule-requires c = IsShortRule_from_storable c.args.attached.now.rule c.requires.2.storable
