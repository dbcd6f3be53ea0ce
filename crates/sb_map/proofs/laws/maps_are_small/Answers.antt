use Rattle.sb_map.proofs.Mapping.{maps_are_small}
use Rattle.sb_map.proofs.laws.maps_are_small.Goals as goal

pub returns : goal.returns
returns c = maps_are_small
