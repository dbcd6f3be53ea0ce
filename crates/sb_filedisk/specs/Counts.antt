-- What a failure leaves of a device.
use Rattle.std.specs.Prelude.{◌≡◌, ℕ, ◌+◌, ◌-◌, ◌^◌, min, cond, Result, is_err, IsErr}

-- one failure more where the call failed, up to the greatest u64, and else as many as before
abbrev pub Counts : {T E : Type 0} → ℕ → ℕ → Result T E → Type 0
Counts before now result = now ≡ cond (is_err result) (min (before + 1) (2 ^ 64 - 1)) before

-- The call fails and leaves the file alone.
pub record IsLatched {F T E : Type 0} (old new : F) (result : Result T E) : Type 0 where
  pub fails : IsErr result
  pub file : new ≡ old
