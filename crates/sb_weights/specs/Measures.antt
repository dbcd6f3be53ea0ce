-- Owners of pages against bounds that are held aside for them.
use Rattle.std.specs.Prelude.{◌≡◌, ℕ, ◌≤◌, List, sum_by}
use Rattle.sb_forms.specs.Pages.{page_count}
use Rattle.sb_drive.specs.Slots.{Slots, owned}

-- a measure of pages: of none it is 0, and of more it is no less
pub record IsMeasure (f : ℕ → ℕ) : Type 0 where
  pub none : f 0 ≡ 0
  pub rises : (a b : ℕ) → a ≤ b → f a ≤ f b

-- owners by the measure of their pages
abbrev pub measured : (ℕ → ℕ) → Slots → List ℕ → ℕ
measured f s owners = sum_by (λ o. f (page_count (owned s o))) owners

-- By any measure owners come to no more than these bounds: each of them has a bound of its own, and no more pages.
abbrev pub AreHeld : Slots → List ℕ → List ℕ → Type 0
AreHeld s owners bounds = (f : ℕ → ℕ) → IsMeasure f → measured f s owners ≤ sum_by f bounds

-- by any measure these bounds are within those
abbrev pub IsWithin : List ℕ → List ℕ → Type 0
IsWithin few more = (f : ℕ → ℕ) → IsMeasure f → sum_by f few ≤ sum_by f more
