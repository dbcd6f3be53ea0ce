use Rattle.std.proofs.Common.{◌≡◌, ℕ, ◌<◌, true}
use Rattle.sb_ctx.specs.View.{holds_fresh}
use Rattle.sb_memory.specs.Contents.{slots}
use Rattle.sb_memory.proofs.asks.fresh_page.Given as goal

abbrev pub invariant-loop-n : goal.invariant-loop-n
invariant-loop-n l = (m : ℕ) → m < l.n → (slots l.memory.now m).0 ≡ 0 → holds_fresh l.ctx m ≡ true
