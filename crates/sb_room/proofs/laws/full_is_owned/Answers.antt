use Rattle.sb_room.proofs.Owning.{full-is-owned}
use Rattle.sb_room.proofs.laws.full_is_owned.Goals as goal

pub returns : goal.returns
returns c = record { owned = full-is-owned }
