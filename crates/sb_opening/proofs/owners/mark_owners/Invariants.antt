use Rattle.std.proofs.Common.{take}
use Rattle.sb_opening.specs.Owners.{AreMarks}
use Rattle.sb_opening.proofs.owners.mark_owners.Given as goal

-- those so far are marked
abbrev pub invariant-loop-owner : goal.invariant-loop-owner
invariant-loop-owner l = record { marked : AreMarks (take l.owner-index l.owners) l.marks }
