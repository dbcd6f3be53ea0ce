use Rattle.sb_images.proofs.ImageLemmas.{Restores-one}
use Rattle.sb_images.proofs.laws.restores_one_way.Goals as goal

pub returns : goal.returns
returns c = Restores-one
