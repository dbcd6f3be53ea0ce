use Rattle.std.proofs.Common.{◌≡◌, take}
use Rattle.sb_catalog.proofs.descriptor.AttachedList.copy.Given as goal

abbrev pub invariant-loop-attached : goal.invariant-loop-attached
invariant-loop-attached l = l.attachments.items ≡ take l.attached-index l.attached-items
