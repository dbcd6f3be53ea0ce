use Rattle.std.proofs.Common.{◌≡◌, ℕ, ◌<◌, ◌≤◌, true, false, get_or}
use Rattle.sb_space.proofs.instances.unused_owner.Given as goal

-- the owners before this one are marked
abbrev pub invariant-loop-owner : goal.invariant-loop-owner
invariant-loop-owner l = record { marked : (o : ℕ) → 3 ≤ o → o < l.owner → get_or l.marks o false ≡ true }
