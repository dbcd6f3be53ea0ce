-- Codes that repeat, and boxes that move from one list to another.
use Rattle.std.specs.Prelude.{◌≡◌, ℕ, ◌==◌, Bool, true, false, cond, List, [], ◌∷◌, ◌++◌, Option, Some, None}
use Rattle.std.specs.List.{list_any, AllByRecursion}
use Rattle.std.specs.Option.{option_or}

-- the first code that stands already among those before it
abbrev pub first_repeat : List ℕ → List ℕ → Option ℕ
first_repeat before [] = None
first_repeat before (code ∷ codes) = cond (list_any (λ c. c == code) before) (Some code) (first_repeat (before ++ code ∷ []) codes)

-- the first of two lists of codes in which one repeats, and that code
abbrev pub repeated : List ℕ → List ℕ → Option ℕ
repeated methods attachments = option_or (first_repeat [] methods) (first_repeat [] attachments)

-- a box with this code goes from one list to the end of another
pub record Goes {B : Type 0} (has_code : B → Bool) (from to from_after to_after : List B) : Type 0 where
  pub front : List B
  pub box : B
  pub back : List B
  pub stood : from ≡ front ++ box ∷ back
  pub code : has_code box ≡ true
  pub left : from_after ≡ front ++ back
  pub comes : to_after ≡ to ++ box ∷ []

-- no box has this code, and both lists stay
pub record Stay {B : Type 0} (has_code : B → Bool) (from to from_after to_after : List B) : Type 0 where
  pub none : AllByRecursion (λ box. has_code box ≡ false) from
  pub from_same : from_after ≡ from
  pub to_same : to_after ≡ to

-- whether one went
abbrev pub GoesIf : {B : Type 0} → Bool → (B → Bool) → List B → List B → List B → List B → Type 0
GoesIf true has_code from to from_after to_after = Goes has_code from to from_after to_after
GoesIf false has_code from to from_after to_after = Stay has_code from to from_after to_after
