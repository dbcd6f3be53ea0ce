use Rattle.sb_memory.proofs.StackLemmas.{goes_back, keeps_writes}
use Rattle.sb_memory.proofs.laws.going_back_gives_what_was.Goals as goal

pub returns : goal.returns
returns c = record { back = goes_back; writes = keeps_writes }
