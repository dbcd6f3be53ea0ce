use Rattle.sb_kernel.proofs.HeldLemmas.{held-stored}
use Rattle.sb_kernel.proofs.laws.held_images_are_stored.Goals as goal

pub returns : goal.returns
returns c = held-stored
