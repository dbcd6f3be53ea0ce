use Rattle.sb_memory.specs.Contents.{slots}
use Rattle.sb_memory.proofs.Freeing.{FreesBelow}
use Rattle.sb_memory.proofs.owners.freeing.Given as goal

abbrev pub invariant-loop-number : goal.invariant-loop-number
invariant-loop-number l = FreesBelow l.owner l.number (slots l.memory.now) l.writes.items
