-- Changes of a page that can be undone.
use Rattle.std.specs.Prelude.{◌≡◌, ◌⊎◌, ℕ, ◌+◌, ◌≤◌, Bool, true, List, [], ◌∷◌, length, take, drop}
use Rattle.sb_bytes.specs.Bytes.{splice}
use Rattle.sb_log.specs.Records.{Change}

-- their ranges don't overlap
abbrev pub AreApart : Change → Change → Type 0
AreApart c d = (c.offset + length c.after ≤ d.offset) ⊎ (d.offset + length d.after ≤ c.offset)

-- each of these changes is of the same transaction, or elsewhere
abbrev pub IsClearOf : Change → List Change → Type 0
IsClearOf c [] = Unit {0}
IsClearOf c (d ∷ ds) = ((d.tx ≡ c.tx) ⊎ AreApart c d) × IsClearOf c ds

-- its bytes before are what stands in its range
pub record IsBeneath (bytes : List ℕ) (c : Change) : Type 0 where
  pub size : length c.before ≡ length c.after
  pub is : c.before ≡ take (length c.after) (drop c.offset bytes)

-- Written over these bytes in order, each change of an active transaction has its bytes before beneath it, and no later one of another meets it.
abbrev pub AreUndoable : (ℕ → Bool) → ℕ → List ℕ → List Change → Type 0
AreUndoable active size bytes [] = Unit {0}
AreUndoable active size bytes (c ∷ cs) =
    (c.offset + length c.after ≤ size) × (active c.tx ≡ true → IsBeneath bytes c × IsClearOf c cs)
    × AreUndoable active size (splice c.offset c.after bytes) cs

-- the range is clear of what stands of the other active transactions
abbrev pub IsFree : (ℕ → Bool) → Change → List Change → Type 0
IsFree active c [] = Unit {0}
IsFree active c (d ∷ ds) = (active d.tx ≡ true → (c.tx ≡ d.tx) ⊎ AreApart d c) × IsFree active c ds
