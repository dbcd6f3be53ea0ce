use Rattle.std.proofs.Common.{ℕ, ◌+◌, ◌*◌, ◌<◌}
use Rattle.sb_bytes.specs.Field.{number_at}
use Rattle.sb_space.specs.Opening.{IsEntry}
use Rattle.sb_space.proofs.opening.are_entries.Given as goal

-- the entries so far may be
abbrev pub invariant-loop-k : goal.invariant-loop-k
invariant-loop-k l = record { so_far : (k : ℕ) → k < l.k → IsEntry l.pages (2048 * l.p + k) (number_at 2 l.bytes (2 * k)) }
