use Rattle.std.proofs.Common.{◌≡◌, ℕ, ◌<◌, ◌≤◌, []}
use Rattle.sb_memory.specs.Contents.{pages_of}
use Rattle.sb_memory.proofs.memory.Memory.next_from.Given as goal

abbrev pub invariant-loop-n : goal.invariant-loop-n
invariant-loop-n l = (m : ℕ) → l.first ≤ m → m < l.n → pages_of l.self.now l.owner m ≡ []
