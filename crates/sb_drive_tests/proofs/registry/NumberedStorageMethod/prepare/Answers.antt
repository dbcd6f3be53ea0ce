use Rattle.std.proofs.Common.{refl}
use Rattle.sb_ctx.proofs.BoundLaws.{Changes-memory}
use Rattle.sb_drive_tests.proofs.registry.NumberedStorageMethod.prepare.Goals as goal
use Rattle.sb_drive_tests.proofs.Boxes.{Picked-above}

pub returns : goal.returns
returns c = Changes-memory _ _ _ _ (record { bound = λ rows. refl; cost = λ call rows. refl; path = λ inst P call n. refl; picks = Picked-above c.args.self.now.number }) c.requires.clean.unchanged
