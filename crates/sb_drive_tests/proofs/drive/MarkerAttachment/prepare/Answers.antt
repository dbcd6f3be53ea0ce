use Rattle.std.proofs.Common.{refl}
use Rattle.sb_ctx.proofs.BoundLaws.{Changes-memory_for}
use Rattle.sb_drive_tests.proofs.drive.MarkerAttachment.prepare.Goals as goal

pub returns : goal.returns
returns c = Changes-memory_for _ _ _ _ (record { bound = λ content. refl; cost = λ call before after. refl; path = λ inst P call n. refl; code = refl }) c.requires.clean.unchanged
