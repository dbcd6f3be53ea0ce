-- What a transaction that is aborted leaves of the volatile half.
use Rattle.std.specs.Prelude.{◌≡◌, ℕ, [], take}
use Rattle.sb_memory.specs.Contents.{Contents, stack}
use Rattle.sb_memory.specs.MemorySpaces.{IsChanged}

-- going back to where no write stood gives the memory of then, where none stood then
abbrev pub AbortsGiveBack : Type 0
AbortsGiveBack = (k : ℕ) (begun now after : Contents) → begun.past ≡ [] → IsChanged k begun now → stack after ≡ take 1 (stack now) → after ≡ begun
