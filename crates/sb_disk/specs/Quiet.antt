-- A reading of a disk that doesn't see some of its bytes.
use Rattle.std.specs.Prelude.{◌≡◌, ℕ, List, length, slice_index}
use Rattle.sb_disk.specs.Disk.{Story, Covered}

-- what is pending lies in the zone
abbrev pub IsQuiet : (ℕ → Type 0) → Story → Type 0
IsQuiet Zone s = (i : ℕ) → Covered i s.now.written → Zone i

-- Bytes that differ from these in the zone alone are read alike.
abbrev pub Ignores : {X : Type 0} → (List ℕ → X) → (ℕ → Type 0) → List ℕ → Type 0
Ignores read Zone old = (new : List ℕ) → length old ≡ length new
    → ((i : ℕ) → ¬ Zone i → slice_index old i ≡ slice_index new i) → read new ≡ read old
