use Rattle.sb_memory.proofs.Memories.{Leaves-cleared}
use Rattle.sb_memory.proofs.owners.MemoryOwners.free_owner.Goals as goal

pub returns-clause-pages : goal.returns-clause-pages
returns-clause-pages c = λ want s has. Leaves-cleared want s c.args.owner c.args.self.now c.clear.new.memory c.in_ok-clear.ensures.cleared c.are_pages.ensures.has has
