use Rattle.std.proofs.Common.{ℕ, ◌<◌, ◌≤◌}
use Rattle.sb_drive.specs.Instances.{IsUsed}
use Rattle.sb_memory.specs.Contents.{slots}
use Rattle.sb_memory.proofs.memory.Memory.unused_owner.Given as goal

abbrev pub invariant-loop-owner : goal.invariant-loop-owner
invariant-loop-owner l = (o : ℕ) → 3 ≤ o → o < l.owner → IsUsed (slots l.self.now) l.taken o
