-- The calls that make a chunk count.
use Rattle.std.specs.Prelude.{ℕ, List, [], ◌∷◌}
use Rattle.std.specs.Int.{to_be_bytes, w32}
use Rattle.sb_disk.specs.Moments.{Step}
use Rattle.sb_disk.specs.Moments.Step.{Write, Sync}

-- its length in front of it, and once that is synced its gate
abbrev pub sealing : ℕ → ℕ → ℕ → List Step
sealing at len gate = Write at (to_be_bytes w32 len) ∷ Sync ∷ Write gate (165 ∷ []) ∷ Sync ∷ []
