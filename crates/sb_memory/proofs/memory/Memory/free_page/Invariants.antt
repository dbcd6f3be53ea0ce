use Rattle.std.proofs.Common.{◌≢◌, ℕ, ◌<◌}
use Rattle.sb_memory.specs.Contents.{slots}
use Rattle.sb_memory.proofs.memory.Memory.free_page.Given as goal

abbrev pub invariant-loop-n : goal.invariant-loop-n
invariant-loop-n l = (m : ℕ) → m < l.n → (slots l.self.now m).0 ≢ 0
