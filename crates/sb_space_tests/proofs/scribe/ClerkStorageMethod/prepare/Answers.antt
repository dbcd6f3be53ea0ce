use Rattle.std.proofs.Common.{refl}
use Rattle.sb_ctx.proofs.BoundLaws.{Changes-memory}
use Rattle.sb_space_tests.proofs.scribe.ClerkStorageMethod.prepare.Goals as goal

pub returns : goal.returns
returns c = Changes-memory _ _ _ _ (record { bound = λ rows. refl; cost = λ call rows. refl; path = λ inst P call n. refl; picks = refl }) c.requires.clean.unchanged
