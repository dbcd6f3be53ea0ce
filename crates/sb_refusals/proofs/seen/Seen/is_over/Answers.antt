use Rattle.std.proofs.Common.{◌-◌, ◌^◌, arith, length}
use Rattle.sb_catalog.specs.Descriptors.{descriptor_spelling}
use Rattle.sb_refusals.proofs.Seeing.{over_seen}
use Rattle.sb_refusals.proofs.Growing.{over_counted}
use Rattle.sb_refusals.proofs.seen.Seen.is_over.Goals as goal

pub returns-in-Some : goal.returns-in-Some
returns-in-Some c r n seen e =
    over_seen r c.args.self.now c.in-Some.descriptor n _ seen c.in-Some.is
    (over_counted (length (descriptor_spelling c.in-Some.descriptor)) c.args.more n c.saturating_add.result (2 ^ 64 - 1) c.descriptor_len.result (omega arith) c.descriptor_len.ensures.len e c.saturating_add.ensures)
