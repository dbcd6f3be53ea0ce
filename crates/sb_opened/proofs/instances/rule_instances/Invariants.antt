use Rattle.std.proofs.Common.{◌≡◌, map, take}
use Rattle.sb_opened.specs.Opened.{rule_of}
use Rattle.sb_opened.proofs.instances.rule_instances.Given as goal

abbrev pub invariant-loop-attached : goal.invariant-loop-attached
invariant-loop-attached l = l.rules.items ≡ map (rule_of l.name l.descriptor) (take l.attached-index l.attachments)
