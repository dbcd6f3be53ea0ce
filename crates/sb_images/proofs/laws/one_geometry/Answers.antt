use Rattle.sb_images.proofs.LayoutLemmas.{one_geometry}
use Rattle.sb_images.proofs.laws.one_geometry.Goals as goal

pub returns : goal.returns
returns c = one_geometry
