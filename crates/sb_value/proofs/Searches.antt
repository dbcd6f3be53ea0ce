-- What a search through a list finds.
use Rattle.std.proofs.Common.{◌≡◌, ℕ, suc, ◌+◌, Bool, true, false, cond, not, nat_lt, List, [], ◌∷◌, length, All, Some, None, option_map, refl, ap, ◌∙◌, arith}
use Rattle.std.specs.List.{find, position, position_or_len}
use Rattle.std.proofs.lemmas.Bool.{le-leb}
use Rattle.std.proofs.lemmas.List.Elements.{All-nil, All-cons}

-- where nothing is found, nothing passes
pub find-none : {A : Type 0} (test : A → Bool) (items : List A) → find test items ≡ None → All (λ a. test a ≡ false) items
find-none test [] is = All-nil _
find-none test (x ∷ xs) is = by (test x) refl is (find-none test xs)
  where
    by : (b : Bool) → test x ≡ b → cond b (Some x) (find test xs) ≡ None → (find test xs ≡ None → All (λ a. test a ≡ false) xs) → All (λ a. test a ≡ false) (x ∷ xs)
    by true passes none rest = absurd (cc)
    by false passes none rest = All-cons (λ a. test a ≡ false) x xs passes (rest none)

less-suc : (a b : ℕ) → nat_lt (1 + a) (suc b) ≡ nat_lt a b
less-suc a b = grind arith

-- the place of the first that passes, by whether the first of all does
pub position-cons : {A : Type 0} (test : A → Bool) (x : A) (xs : List A) → position test (x ∷ xs) ≡ cond (test x) (Some 0) (option_map suc (position test xs))
position-cons test x xs = of_test (test x)
  where
    of_less : (b : Bool) (n : ℕ) → cond b (Some (1 + n)) None ≡ option_map suc (cond b (Some n) None)
    of_less true n = ap (λ (m : ℕ). Some m) (omega arith)
    of_less false n = refl

    of_test : (b : Bool) → (cond (nat_lt (cond (not b) (1 + position_or_len test xs) 0) (suc (length xs))) (Some (cond (not b) (1 + position_or_len test xs) 0)) None) ≡ cond b (Some 0) (option_map suc (position test xs))
    of_test true = ap (λ (t : Bool). cond t (Some 0) None) (le-leb 1 (suc (length xs)) (omega arith))
    of_test false =
        ap (λ (t : Bool). cond t (Some (1 + position_or_len test xs)) None) (less-suc (position_or_len test xs) (length xs))
        ∙ of_less (nat_lt (position_or_len test xs) (length xs)) (position_or_len test xs)
