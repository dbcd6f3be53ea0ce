use Rattle.std.proofs.Common.{◌≡◌, ◌+◌, ◌-◌, ◌^◌, min, take, length}
use Rattle.std.specs.List.{flat_map}
use Rattle.sb_catalog.specs.Descriptors.{attached_spelling}
use Rattle.sb_catalog.proofs.lengths.attachments_len.Given as goal

abbrev pub invariant-loop-attached : goal.invariant-loop-attached
invariant-loop-attached l = l.len ≡ min (1 + length (flat_map attached_spelling (take l.attached-index l.attachments))) (2 ^ 64 - 1)
