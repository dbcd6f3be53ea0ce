-- When the calls of a memory disk fail, and what they leave then.
use Rattle.std.specs.Prelude.{◌≡◌, ℕ, ◌+◌, ◌-◌, ◌^◌, ◌<◌, ◌==◌, ◌||◌, min, nat_lt, nat_le, cond, Bool, true, false, Option, Some, None, List, length, take, Result, is_err, IsErr, OnErr}
use Rattle.std.specs.List.{list_any}
use Rattle.sb_bytes.specs.Bytes.{splice}
use Rattle.sb_disk.specs.Disk.{Story, after_write, after_idle}
use Rattle.sb_memdisk.specs.declared.past.Stop.{Stop}
use Rattle.sb_memdisk.specs.State.{State}

-- the writes and syncs so far
abbrev pub clock_of : State → ℕ
clock_of s = length s.story.before

-- the next call is one of those that are to fail
abbrev pub is_named : State → Bool
is_named s = list_any (λ call. call == s.calls) s.fails

-- the write or sync at which the disk stops is among the first so many
abbrev pub has_stopped : Option Stop → ℕ → Bool
has_stopped None clock = false
has_stopped (Some stop) clock = nat_lt stop.call clock

-- the next call fails where it is a read: it is named, or the disk has stopped
abbrev pub is_failing_read : State → Bool
is_failing_read s = is_named s || has_stopped s.stop (clock_of s)

-- the next call fails where it is a write or a sync: it is named, or the disk has stopped or stops at it, or the clock is at its end
abbrev pub is_failing_on_clock : State → Bool
is_failing_on_clock s = is_named s || (has_stopped s.stop (clock_of s + 1) || nat_le (2 ^ 64 - 1) (clock_of s))

-- how many bytes of a write of so many are stored: some at the number at which the disk stops, and none behind it
abbrev pub torn_len : Option Stop → ℕ → ℕ → ℕ
torn_len None clock count = count
torn_len (Some stop) clock count = cond (nat_lt clock stop.call) count (cond (clock == stop.call) (min stop.torn count) 0)

-- the same of the next write, which stores nothing where it is one of those that are to fail
abbrev pub stored_len : State → ℕ → ℕ
stored_len s count = cond (is_named s) 0 (torn_len s.stop (clock_of s) count)

-- what is told after a write that is to fail: the bytes that were to be stored are, where there are some
abbrev pub torn_story : State → ℕ → List ℕ → Story
torn_story s at bytes = cond (stored_len s (length bytes) == 0)
    (after_idle s.story)
    (after_write at (length bytes) (splice at (take (stored_len s (length bytes)) bytes) s.story.now.reads) s.story)

-- a disk that is to stop at this call; one that has stopped stays so
abbrev pub stopping : Stop → State → State
stopping stop s = record s { stop = cond (has_stopped s.stop (clock_of s)) s.stop (Some stop) }

-- One call more was counted, and a failure where it failed. What is to fail is as before.
pub record Counted {T E : Type 0} (old new : State) (result : Result T E) : Type 0 where
  pub calls : new.calls ≡ min (old.calls + 1) (2 ^ 64 - 1)
  pub faults : new.faults ≡ cond (is_err result) (min (old.faults + 1) (2 ^ 64 - 1)) old.faults
  pub fails : new.fails ≡ old.fails
  pub stop : new.stop ≡ old.stop

-- a read or a sync, of which it is known whether it is to fail
pub record GoesToPlan {T E : Type 0} (old new : State) (fails : Bool) (result : Result T E) : Type 0 where
  pub counted : Counted old new result
  pub exactly : is_err result ≡ fails

-- A write fails where it is to, and then leaves what was to be stored. It fails else for want of memory alone, and then leaves nothing.
pub record WritesToPlan {T E : Type 0} (old new : State) (at : ℕ) (bytes : List ℕ) (result : Result T E) : Type 0 where
  pub counted : Counted old new result
  pub fails : is_failing_on_clock old ≡ true → IsErr result
  pub planned : is_failing_on_clock old ≡ true → clock_of old < 2 ^ 64 - 1 → new.story ≡ torn_story old at bytes
  pub wanting : is_failing_on_clock old ≡ false → OnErr result (new.story ≡ after_idle old.story)
