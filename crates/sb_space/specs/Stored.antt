-- What is stored of the pages of one owner.
use Rattle.std.specs.Prelude.{◌≡◌, ℕ, ◌==◌, Bool, true, false, List, map, filter, Result, Ok, Err}
use Rattle.std.specs.List.{list_any}
use Rattle.sb_drive.specs.Slots.{Slots, owned}
use Rattle.sb_drive.specs.Spaces.{Wanted}
use Rattle.sb_txn.specs.Parts.{Parts}
use Rattle.sb_space.specs.Works.{HasPages}

-- a change that is made where the call went well
abbrev pub if_ok : {T E A : Type 0} → Result T E → (A → A) → A → A
if_ok (Ok x) f a = f a
if_ok (Err e) f a = a

-- the fresh pages that were taken
abbrev pub taken_in : List (ℕ × Bool) → List ℕ
taken_in fresh = map (λ e. e.0) (filter (λ e. e.1) fresh)

abbrev pub is_among : List ℕ → ℕ → Bool
is_among ns m = list_any (λ n. n == m) ns

-- the pages of all other owners stay
abbrev pub KeepsOthers : ℕ → Slots → Slots → Type 0
KeepsOthers owner s t = (o : ℕ) → (o ≡ owner → ⊥) → owned t o ≡ owned s o

-- the owner's pages stay, but for these
abbrev pub Touches : ℕ → List ℕ → Slots → Slots → Type 0
Touches owner ns s t = (m : ℕ) → is_among ns m ≡ false → owned t owner m ≡ owned s owner m

-- one page of the owner has these bytes, and its others stay
pub record IsSet (owner n : ℕ) (bytes : List ℕ) (s t : Slots) : Type 0 where
  pub here : owned t owner n ≡ bytes
  pub rest : (m : ℕ) → (n ≡ m → ⊥) → owned t owner m ≡ owned s owner m

-- these pages of the owner have such bytes, and its others stay
pub record AreSet (owner : ℕ) (ns : List ℕ) (bytes : ℕ → List ℕ) (s t : Slots) : Type 0 where
  pub here : (m : ℕ) → is_among ns m ≡ true → owned t owner m ≡ bytes m
  pub rest : Touches owner ns s t

-- There are pages now, with those of all other owners as they were, of which this is so.
pub record Ends (owner : ℕ) (want : Wanted) (s : Slots) (new : Parts) (IsSo : Slots → Type 0) : Type 0 where
  pub slots : Slots
  pub has : HasPages want slots new
  pub others : KeepsOthers owner s slots
  pub is : IsSo slots
