use Rattle.std.proofs.Common.{◌≡◌, ℕ, ◌*◌, ◌<◌, ◌≤◌}
use Rattle.sb_bytes.specs.Field.{number_at}
use Rattle.sb_space.specs.Instances.{entry_without}
use Rattle.sb_space.proofs.entries.clear_owner.Given as goal

-- the entries before this one are cleared, and the others are as they were
abbrev pub invariant-loop-i : goal.invariant-loop-i
invariant-loop-i l = record {
  done : (m : ℕ) → m < l.i → number_at 2 l.table (2 * m) ≡ entry_without l.owner (number_at 2 l.fn.table (2 * m));
  rest : (m : ℕ) → l.i ≤ m → m < 2048 → number_at 2 l.table (2 * m) ≡ number_at 2 l.fn.table (2 * m);
}
