use Rattle.std.proofs.Common.{refl}
use Rattle.sb_space_tests.proofs.scribe.ClerkStorageMethod.delete.Goals as goal
use Rattle.sb_space_tests.proofs.Made.{Changes-made}

pub returns : goal.returns
returns c = Changes-made _ _ _ _ _ _ (λ P. refl) (λ inst held n. refl) c.obey.ensures.given c.obey.ensures.asks c.obey.ensures.made
