-- Texts with an escaped zero and an end: their order, and that none begins another.
use Rattle.std.proofs.Common.{◌≡◌, ℕ, zero, suc, ◌+◌, ◌≤◌, List, [], false, cond, ◌∷◌, ◌++◌, length, get_or, ◌⊎◌, inl, inr, count_by, ◌==◌, refl, ap, append_assoc, arith}
use Rattle.std.specs.List.{flat_map}
use Rattle.std.specs.Ordering.{nat_cmp, ordering_then}
use Rattle.std.specs.declared.cmp.Ordering.TheVariants.{Less, Greater}
use Rattle.std.specs.Cmp.{nat_cmp_is}
use Rattle.std.specs.Cmp.Lexicographic.{slice_cmp}
use Rattle.std.proofs.lemmas.Bool.Decides.{nat_tests}
use Rattle.std.proofs.lemmas.List.Sums.{sum_by-cons}
use Rattle.sb_bytes.proofs.Fronts.{ordering_then_assoc}
use Rattle.sb_value.specs.Code.{escaped}

-- a text's bytes, its end, and what follows
abbrev pub ended : List ℕ → List ℕ → List ℕ
ended s x = flat_map escaped s ++ 0 ∷ 0 ∷ x

pub escaped-suc : (b : ℕ) → escaped (suc b) ≡ suc b ∷ []
escaped-suc b =
    let full : (suc b == 0) ≡ false = grind (arith, nat_tests) in
    rw full refl

pub ended-code : (s x : List ℕ) → (flat_map escaped s ++ 0 ∷ 0 ∷ []) ++ x ≡ ended s x
ended-code s x = append_assoc (flat_map escaped s) (0 ∷ 0 ∷ []) x

below : (b : ℕ) → Less ≡ nat_cmp 0 (suc b)
below b = nat_cmp_is 0 (suc b) Less (omega arith)

above : (b : ℕ) → Greater ≡ nat_cmp (suc b) 0
above b = nat_cmp_is (suc b) 0 Greater (omega arith)

-- the order of the texts, and then of what follows
pub slice_cmp-ended : (s t x y : List ℕ) → slice_cmp nat_cmp (ended s x) (ended t y) ≡ ordering_then (slice_cmp nat_cmp s t) (slice_cmp nat_cmp x y)
slice_cmp-ended [] [] x y = refl
slice_cmp-ended [] (zero ∷ t) x y = refl
slice_cmp-ended [] (suc c ∷ t) x y = rw (escaped-suc c, ← below c) refl
slice_cmp-ended (zero ∷ s) [] x y = refl
slice_cmp-ended (suc b ∷ s) [] x y = rw (escaped-suc b, ← above b) refl
slice_cmp-ended (zero ∷ s) (zero ∷ t) x y = slice_cmp-ended s t x y
slice_cmp-ended (zero ∷ s) (suc c ∷ t) x y = rw (escaped-suc c, ← below c) refl
slice_cmp-ended (suc b ∷ s) (zero ∷ t) x y = rw (escaped-suc b, ← above b) refl
slice_cmp-ended (suc b ∷ s) (suc c ∷ t) x y =
    rw (escaped-suc b, escaped-suc c, slice_cmp-ended s t x y) (ordering_then_assoc (nat_cmp (suc b) (suc c)) (slice_cmp nat_cmp s t) (slice_cmp nat_cmp x y))

-- where some bytes begin an ended text, the rest is an ended text
pub ended_rest : (t s x r : List ℕ) → flat_map escaped t ++ x ≡ ended s r → (more : List ℕ) × (x ≡ ended more r)
ended_rest [] s x r same = (s, same)
ended_rest (zero ∷ t) [] x r same = absurd cc
ended_rest (suc b ∷ t) [] x r same = let apart = rw (escaped-suc b) at same in absurd cc
ended_rest (zero ∷ t) (zero ∷ s) x r same = ended_rest t s x r cc
ended_rest (zero ∷ t) (suc c ∷ s) x r same = let apart = rw (escaped-suc c) at same in absurd cc
ended_rest (suc b ∷ t) (zero ∷ s) x r same = let apart = rw (escaped-suc b) at same in absurd cc
ended_rest (suc b ∷ t) (suc c ∷ s) x r same = let both = rw (escaped-suc b, escaped-suc c) at same in ended_rest t s x r cc

pub length-escaped : (s : List ℕ) → length (flat_map escaped s) ≡ length s + count_by (λ b. b == 0) s
length-escaped [] = refl
length-escaped (zero ∷ s) = rw (sum_by-cons (λ b. cond (b == 0) 1 0) 0 s) (omega (arith, length-escaped s))
length-escaped (suc b ∷ s) =
    let full : (suc b == 0) ≡ false = grind (arith, nat_tests) in
    rw (sum_by-cons (λ b. cond (b == 0) 1 0) (suc b) s, full) (omega (arith, length-escaped s))

-- no ended text begins another
pub ended_front : (s t x y : List ℕ) → ended s x ≡ ended t y → s ≡ t
ended_front [] [] x y same = refl
ended_front [] (zero ∷ t) x y same = absurd cc
ended_front [] (suc c ∷ t) x y same = let apart = rw (escaped-suc c) at same in absurd cc
ended_front (zero ∷ s) [] x y same = absurd cc
ended_front (suc b ∷ s) [] x y same = let apart = rw (escaped-suc b) at same in absurd cc
ended_front (zero ∷ s) (zero ∷ t) x y same = ap (λ (l : List ℕ). 0 ∷ l) (ended_front s t x y (cc))
ended_front (zero ∷ s) (suc c ∷ t) x y same = let apart = rw (escaped-suc c) at same in absurd cc
ended_front (suc b ∷ s) (zero ∷ t) x y same = let apart = rw (escaped-suc b) at same in absurd cc
ended_front (suc b ∷ s) (suc c ∷ t) x y same =
    let both = rw (escaped-suc b, escaped-suc c) at same in
    let rest = ended_front s t x y (cc) in
    cc

-- behind the escaped bytes read so far, a zero has its second byte
pub second_byte : (text rest s x : List ℕ) → get_or rest 0 0 ≡ 0 → flat_map escaped text ++ rest ≡ ended s x
    → (2 ≤ length rest) × ((get_or rest 1 0 ≡ 0) ⊎ (get_or rest 1 0 ≡ 255))
second_byte text rest s x zero-first same = let more = ended_rest text s rest x same in at_zero more.0 rest x zero-first more.1
  where
    at_zero : (s rest x : List ℕ) → get_or rest 0 0 ≡ 0 → rest ≡ ended s x → (2 ≤ length rest) × ((get_or rest 1 0 ≡ 0) ⊎ (get_or rest 1 0 ≡ 255))
    at_zero [] rest x zero-first is = rw is (omega arith, inl refl)
    at_zero (zero ∷ s) rest x zero-first is = rw is (omega arith, inr refl)
    at_zero (suc b ∷ s) rest x zero-first is =
        let front = rw (escaped-suc b) at is in absurd (let first = ap (λ (l : List ℕ). get_or l 0 0) front in omega arith)
