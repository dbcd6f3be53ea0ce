-- Two active transactions together, as the tests drive them: the changes of one lie below byte 100 of their pages, those of the other from it on.
use Rattle.std.specs.Prelude.{◌≡◌, ◌⊎◌, ℕ, ◌+◌, ◌≤◌, Bool, true, false, not, List, [], ◌∷◌, length}
use Rattle.std.specs.List.{All}
use Rattle.sb_txn.specs.Book.{Undo, ActiveTransaction}

-- so many bytes from a place on lie below byte 100, or from it on
abbrev pub IsOn : Bool → ℕ → ℕ → Type 0
IsOn true offset count = offset + count ≤ 100
IsOn false offset count = 100 ≤ offset

-- so do the changes of a transaction that stand
abbrev pub AreOn : Bool → List Undo → Type 0
AreOn low undos = All (λ u. IsOn low u.offset (length u.before)) undos

-- One transaction is active, and its changes are on this side.
pub record IsOne (low : Bool) (tx : ℕ) (actives : List ActiveTransaction) : Type 0 where
  pub first : ActiveTransaction
  pub is : actives ≡ first ∷ []
  pub own : first.tx ≡ tx
  pub on : AreOn low first.undos

-- Two are active, in some order, and the changes of each are on a side of their own.
pub record AreTwo (low : Bool) (tx other : ℕ) (actives : List ActiveTransaction) : Type 0 where
  pub first : ActiveTransaction
  pub second : ActiveTransaction
  pub own : first.tx ≡ tx
  pub others : second.tx ≡ other
  pub differ : tx ≡ other → ⊥
  pub on : AreOn low first.undos
  pub beside : AreOn (not low) second.undos
  pub is : (actives ≡ first ∷ second ∷ []) ⊎ (actives ≡ second ∷ first ∷ [])
