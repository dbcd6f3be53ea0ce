-- What a change makes of neighbours in a tree.
use Rattle.std.specs.Prelude.{ℕ, ◌≡◌, ◌⊎◌, false, List, Option, Some, None}
use Rattle.sb_forms.specs.Pages.{Pages}
use Rattle.sb_node.specs.Entries.{Entry, is_below}
use Rattle.sb_forms.specs.Tree.{nodes, Child, over, items, met, IsUnder, IsWithin, next_low, GoesTo, AreChildren, IsChild, IsTree, Has, Apart}

-- one bound is no higher than another; None is higher than all
abbrev pub UpTo : Option (List ℕ) → Option (List ℕ) → Type 0
UpTo a None = Unit {0}
UpTo None (Some b) = ⊥
UpTo (Some a) (Some b) = is_below b a ≡ false

-- Neighbours of one level that met the pages `old` among P, from the bound `start` on, became the children `now` up to the bound `high` among the pages Q. They have the entries `want`, and took the pages `fresh`; the pages `freed` are met no more.
pub record Became (l : ℕ) (P Q : Pages) (old : List ℕ) (start high : Option (List ℕ)) (now : List Child) (want : List Entry) (fresh freed : List ℕ) : Type 0 where
  pub in_order : AreChildren (IsChild l (nodes Q)) (items l (nodes Q)) high now
  pub starts : UpTo start (next_low high now)
  pub entries : over (items l (nodes Q)) now ≡ want
  pub apart : Apart (over (met l (nodes Q)) now)
  pub from : (x : ℕ) → Has x (over (met l (nodes Q)) now) → Has x old ⊎ Has x fresh
  pub to : (x : ℕ) → Has x old ⊎ Has x fresh → Has x (over (met l (nodes Q)) now) ⊎ Has x freed
  pub keeps : (x : ℕ) → (Has x old → ⊥) → (Has x fresh → ⊥) → Q x ≡ P x

-- a tree whose keys lie between bounds, and a key between them
pub record IsPlace (l : ℕ) (P : Pages) (p : ℕ) (low : List ℕ) (high : Option (List ℕ)) (key : List ℕ) : Type 0 where
  pub tree : IsTree l (nodes P) p
  pub apart : Apart (met l (nodes P) p)
  pub within : IsWithin low high (items l (nodes P) p)
  pub above : is_below key low ≡ false
  pub under : IsUnder high key
  pub goes : GoesTo low high
