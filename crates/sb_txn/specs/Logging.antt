-- What records more leave of a journal and its disk.
use Rattle.std.specs.Prelude.{◌≡◌, ℕ, ◌+◌, ◌≤◌, cond, false, Option, is_some, Result, OnOk, OnErr, [], ◌∷◌}
use Rattle.sb_disk.specs.Causes.{Rose}
use Rattle.sb_disk.specs.Disk.{Story, WhereTold, AgreesBut}
use Rattle.sb_journal.specs.Chunks.{bytes_of}
use Rattle.sb_journal.specs.State.{after_append}
use Rattle.sb_journal.specs.State as journal
use Rattle.sb_journal.specs.declared.fault.JournalFault.{JournalFault}
use Rattle.sb_txn.specs.declared.changing.Wants.{Wants}

-- a journal that hasn't failed has room for so many bytes more, and a length field
pub record HasSpace (n : ℕ) (j : journal.State) : Type 0 where
  pub up : j.failed ≡ false
  pub bytes : bytes_of j.lens + 4 + j.pending + n ≤ j.log.len

-- So many bytes more are pending, and outside the log the disk is as it was. Where they have room, it fails only for a fault of the disk.
pub record LogsMore {D T : Type 0} (told : D → Option Story) (faults : D → ℕ) (old new : D) (j k : journal.State) (n : ℕ)
    (result : Result T JournalFault) : Type 0 where
  pub tells : is_some (told old) ≡ is_some (told new)
  pub later : faults old ≤ faults new
  pub done : OnOk result (k ≡ after_append n j)
  pub elsewhere : OnOk result (WhereTold (told old) (told new) (λ s t. AgreesBut (j.log ∷ []) s.now.reads t.now.reads))
  pub cause : HasSpace n j → OnErr result (Rose (faults old) (faults new))

-- the bytes of a record of so many bytes, with the records that are wanted before it
abbrev pub records_len : Wants → ℕ → ℕ
records_len w n = cond w.begin 5 0 + cond w.back 9 0 + cond w.image 4101 0 + n
