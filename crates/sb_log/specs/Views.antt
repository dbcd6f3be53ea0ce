-- The pages as they are while transactions are active.
use Rattle.std.specs.Prelude.{◌≡◌, ℕ, Bool, false, ◌||◌, ◌==◌, List, [], ◌∷◌, length}
use Rattle.sb_log.specs.Records.{Change, Record, Back, Commit}
use Rattle.sb_log.specs.Standing.{keep, standing, committed}
use Rattle.sb_log.specs.Restored.{over, counting}
use Rattle.sb_log.specs.Undoing.{AreUndoable}

-- an active transaction, and how many of its changes stand
pub record Active : Type 0 where
  pub tx : ℕ
  pub n : ℕ

-- the transaction, with so many changes that stand
abbrev pub active_with : ℕ → ℕ → Active
active_with tx n = record { tx = tx; n = n }

-- the records that would commit them all, with just the changes that stand
abbrev pub ending : List Active → List Record
ending [] = []
ending (a ∷ active) = Back a.tx a.n ∷ Commit a.tx ∷ ending active

-- the transaction is one of them
abbrev pub is_active : List Active → ℕ → Bool
is_active [] tx = false
is_active (a ∷ active) tx = (a.tx == tx) || is_active active tx

-- the changes, cut back to those of each active transaction that stand
abbrev pub cut : List Active → List Change → List Change
cut [] cs = cs
cut (a ∷ active) cs = cut active (keep a.tx a.n cs)

-- the transaction is committed or active
abbrev pub counts : List Record → List Active → ℕ → Bool
counts recs active tx = committed recs tx || is_active active tx

-- the changes of page p that count now
abbrev pub changes : List Record → List Active → ℕ → List Change
changes recs active p = counting (counts recs active) p (cut active (standing recs))

-- the transaction is none of them
abbrev pub IsInactive : ℕ → List Active → Type 0
IsInactive tx [] = Unit {0}
IsInactive tx (a ∷ active) = (a.tx ≡ tx → ⊥) × IsInactive tx active

-- none of them is committed, and each is there once
abbrev pub AreActive : List Record → List Active → Type 0
AreActive recs [] = Unit {0}
AreActive recs (a ∷ active) = (committed recs a.tx ≡ false) × IsInactive a.tx active × AreActive recs active

-- Page p, whose base is these bytes, is so now, and each change of an active transaction can be undone.
pub record IsPage (recs : List Record) (active : List Active) (bytes now : List ℕ) (p : ℕ) : Type 0 where
  pub long : length bytes ≡ 4096
  pub is : over (changes recs active p) bytes ≡ now
  pub undo : AreUndoable (is_active active) 4096 bytes (changes recs active p)
