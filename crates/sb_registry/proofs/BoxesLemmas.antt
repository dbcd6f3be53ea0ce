-- The codes of boxes are those of what they mean.
use Rattle.std.proofs.Common.{◌≡◌, ℕ, List, [], ◌++◌, map, Option, Some, ap, sym, ◌∙◌}
use Rattle.std.specs.Option.{option_or}
use Rattle.std.proofs.lemmas.List.{map-append}
use Rattle.std.proofs.lemmas.Simd.{map-map}
use Rattle.sb_registry.specs.Codes.{first_repeat, repeated}

codes : {B M : Type 0} (f : B → M) (code : M → ℕ) (live spare : List B) → map code (map f live ++ map f spare) ≡ map (λ b. code (f b)) (live ++ spare)
codes f code live spare = ap (map code) (sym (map-append f live spare)) ∙ map-map code f (live ++ spare)

-- the codes of lists that are these
pub of_lists : {B : Type 0} (f : B → ℕ) (xs ys live spare : List B) (found : Option ℕ) → found ≡ first_repeat [] (map f (xs ++ ys)) → xs ≡ live → ys ≡ spare
    → found ≡ first_repeat [] (map f (live ++ spare))
of_lists f xs ys live spare found e a b = cc

-- the first list of codes has one that repeats, or else the second one
pub repeated_by : {B M C A : Type 0} (f : B → M) (code : M → ℕ) (g : C → A) (other : A → ℕ) (live spare : List B) (lives spares : List C) (first second : Option ℕ)
    → first ≡ first_repeat [] (map (λ b. code (f b)) (live ++ spare)) → second ≡ first_repeat [] (map (λ c. other (g c)) (lives ++ spares))
    → option_or first second ≡ repeated (map code (map f live ++ map f spare)) (map other (map g lives ++ map g spares))
repeated_by f code g other live spare lives spares first second a b =
    ap (λ o. option_or o second) (a ∙ ap (first_repeat []) (sym (codes f code live spare)))
    ∙ ap (option_or (first_repeat [] (map code (map f live ++ map f spare)))) (b ∙ ap (first_repeat []) (sym (codes g other lives spares)))

-- the second list isn't looked at where the first one has such a code
pub repeated_first : {B M : Type 0} (f : B → M) (code : M → ℕ) (live spare : List B) (others : List ℕ) (found : ℕ)
    → Some found ≡ first_repeat [] (map (λ b. code (f b)) (live ++ spare)) → Some found ≡ repeated (map code (map f live ++ map f spare)) others
repeated_first f code live spare others found a = ap (λ o. option_or o (first_repeat [] others)) (a ∙ ap (first_repeat []) (sym (codes f code live spare)))
