use Rattle.sb_memory.specs.Contents.{pages_of}
use Rattle.sb_memory.proofs.SearchLemmas.{IsNext-from, IsNext-first}
use Rattle.sb_memory.proofs.memory.Memory.next_page.Goals as goal

pub returns-in-Some : goal.returns-in-Some
returns-in-Some c = IsNext-from (pages_of c.args.self.now.now c.args.owner) c.args.low c.in-Some.n c.next_from.result c.in-Some.is c.next_from.ensures

pub returns-in-None : goal.returns-in-None
returns-in-None c = IsNext-first (pages_of c.args.self.now.now c.args.owner) c.args.low c.next_from-in-None.result c.in-None.is c.next_from-in-None.ensures
