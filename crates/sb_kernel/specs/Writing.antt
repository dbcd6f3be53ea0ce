-- Bytes written to a sink.
use Rattle.std.specs.Prelude.{ℕ, Option, List, Result, Ok, Err}
use Rattle.sb_disk.specs.Streams.{Given}
use Rattle.sb_kernel.specs.Ending.{BreaksOff}

-- a front of the bytes was given, and not their end
pub record GivenFront (old new : Option (List ℕ)) (bytes : List ℕ) : Type 0 where
  pub written : List ℕ
  pub is_written : Given old new written
  pub front : BreaksOff written bytes

-- All of the bytes were given, or a front of them where the sink failed.
abbrev pub Wrote : {E : Type 0} → Option (List ℕ) → Option (List ℕ) → List ℕ → Result (Unit {0}) E → Type 0
Wrote old new bytes (Ok x) = Given old new bytes
Wrote old new bytes (Err e) = GivenFront old new bytes
