-- What zeros over a range make of a disk.
use Rattle.std.specs.Prelude.{◌≡◌, ℕ, ◌+◌, ◌<◌, ◌≤◌, [], ◌∷◌, slice_index}
use Rattle.sb_disk.specs.Disk.{Story, AgreesBut}

-- zeros in this range, on the disk, and elsewhere what was there
pub record Zeroed (at count : ℕ) (s t : Story) : Type 0 where
  pub zeros : (i : ℕ) → at ≤ i → i < at + count → slice_index t.now.reads i ≡ 0
  pub elsewhere : AgreesBut (record { start = at; len = count } ∷ []) s.now.reads t.now.reads
  pub settled : t.now.written ≡ []
