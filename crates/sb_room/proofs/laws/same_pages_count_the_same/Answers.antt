use Rattle.sb_room.proofs.Owning.{pages-same}
use Rattle.sb_room.proofs.laws.same_pages_count_the_same.Goals as goal

pub returns : goal.returns
returns c = record { same = pages-same }
