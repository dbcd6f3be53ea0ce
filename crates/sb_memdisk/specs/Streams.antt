-- When a memory source or a memory sink fails.
use Rattle.std.specs.Prelude.{◌≡◌, ℕ, ◌+◌, ◌-◌, ◌^◌, ◌==◌, min, cond, Bool, false, Option, Some, None, List, Result, is_err}
use Rattle.sb_memdisk.specs.declared.pace.Pace.{Pace}

-- a source as contracts see it: the bytes that are left, and its pace
pub record SourceState : Type 0 where
  pub left : List ℕ
  pub pace : Pace

-- a sink as contracts see it: the bytes that it took, and its pace
pub record SinkState : Type 0 where
  pub held : List ℕ
  pub pace : Pace

-- the call with this number is the one that is to fail
abbrev pub is_call : Option ℕ → ℕ → Bool
is_call None number = false
is_call (Some call) number = call == number

-- the next call is to fail
abbrev pub is_due : Pace → Bool
is_due pace = is_call pace.fail_at pace.calls

-- at the start: no call was made
abbrev pub new_pace : ℕ → Option ℕ → Pace
new_pace piece fail_at = record { piece = piece; fail_at = fail_at; calls = 0; faults = 0 }

-- One call more was counted, and a failure where it failed. The size of a piece and the call that is to fail are as before.
pub record GoesOn {T E : Type 0} (old new : Pace) (result : Result T E) : Type 0 where
  pub calls : new.calls ≡ min (old.calls + 1) (2 ^ 64 - 1)
  pub faults : new.faults ≡ cond (is_err result) (min (old.faults + 1) (2 ^ 64 - 1)) old.faults
  pub piece : new.piece ≡ old.piece
  pub fail_at : new.fail_at ≡ old.fail_at
