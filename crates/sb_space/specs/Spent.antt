-- What a transaction has taken of its log.
use Rattle.std.specs.Prelude.{◌≡◌, ℕ, ◌+◌, ◌*◌, ◌≤◌, false}
use Rattle.sb_journal.specs.State.{used_of}
use Rattle.sb_txn.specs.State.{State}
use Rattle.sb_txn.specs.Tied.{gates_used}

-- beside half of its bytes and half of its gates no more is taken than so many changes take
pub record TakesNoMore (n : ℕ) (s : State) : Type 0 where
  pub bytes : 2 * used_of s.journal ≤ s.pool.geometry.log + 2 * (12400 * n)
  pub gates : gates_used s.journal ≤ 32769 + 3 * n

-- so it is until a call on the disk has failed
abbrev pub HasSpent : ℕ → State → Type 0
HasSpent n s = s.book.down ≡ false → TakesNoMore n s
