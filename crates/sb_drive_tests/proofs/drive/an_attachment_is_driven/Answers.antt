use Rattle.std.proofs.Common.{refl}
use Rattle.sb_drive_tests.proofs.drive.an_attachment_is_driven.Goals as goal
use Rattle.sb_drive_tests.proofs.Boxes.{IsAttached-plain}

pub drive_attachment-end-requires-clause-inst : goal.drive_attachment-end-requires-clause-inst
drive_attachment-end-requires-clause-inst g c = IsAttached-plain _ c.instance-inst.result refl refl c.instance-inst.ensures
