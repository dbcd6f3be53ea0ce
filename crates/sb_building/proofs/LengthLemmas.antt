-- Rows that are found, or none.
use Rattle.std.proofs.Common.{◌≡◌, ◌==◌, Bool, true, false, cond, not, ◌||◌, List, [], ◌∷◌, length, take, filter, refl}
use Rattle.std.specs.List.{list_any}

-- one that passes is taken where some passes
pub any-taken : {X : Type 0} (p : X → Bool) (xs : List X) → not (length (take 1 (filter p xs)) == 0) ≡ list_any p xs
any-taken p [] = refl
any-taken p (x ∷ xs) = by (p x) (any-taken p xs)
  where
    by : (b : Bool) → not (length (take 1 (filter p xs)) == 0) ≡ list_any p xs → not (length (take 1 (cond b (x ∷ filter p xs) (filter p xs))) == 0) ≡ (b || list_any p xs)
    by true rest = refl
    by false rest = rest
