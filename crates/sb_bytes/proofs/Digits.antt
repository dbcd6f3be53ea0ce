-- The digits of a number to the base 256, and their order.
use Rattle.std.proofs.Common.{◌≡◌, ℕ, zero, suc, ◌+◌, ◌*◌, ◌^◌, ◌<◌, ◌≤◌, List, [], ◌∷◌, length, take, drop, get_or, refl, sym, ap, ◌∙◌, arith}
use Rattle.std.specs.Int.{bytes_high_first}
use Rattle.std.specs.List.{AllByRecursion}
use Rattle.std.specs.Ordering.{nat_cmp, ordering_then}
use Rattle.std.specs.declared.cmp.Ordering.TheVariants.{Less, Equal, Greater}
use Rattle.std.specs.Cmp.{nat_cmp_is}
use Rattle.std.specs.Cmp.Lexicographic.{slice_cmp}
use Rattle.std.proofs.lemmas.Cmp.{ranked, by_ranked, tied_itself, nat_cmp_total}
use Rattle.std.proofs.lemmas.Map.Lookups.{exact_bytes}
use Rattle.std.proofs.lemmas.List.{get_or_past, append-nil, length-take}
use Rattle.std.proofs.Math.Nat.{mul-le-mul_right, mod-lt, mod-eq_of_lt}
use Rattle.byteorder.specs.Endian.{big_from}
use Rattle.byteorder.specs.Numbers.{big_from-cons, big_from-lt, big_from-bytes, big_from-take, length-bytes_high_first}

abbrev pub AreDigits : List ℕ → Type 0
AreDigits = AllByRecursion (λ b. b < 256)

-- also past the end, where 0 is read
digit_at : (xs : List ℕ) → AreDigits xs → (i : ℕ) → get_or xs i 0 < 256
digit_at [] are i = omega (arith, get_or_past {X = ℕ} [] i 0 (omega arith))
digit_at (x ∷ xs) are zero = are.0
digit_at (x ∷ xs) are (suc i) = digit_at xs are.1 i

pub big_from-below : (n : ℕ) (xs : List ℕ) → AreDigits xs → big_from 0 n xs < 256 ^ n
big_from-below n xs are = big_from-lt 0 n xs (digit_at xs are)

pub digits_are : (n x : ℕ) → AreDigits (bytes_high_first n x)
digits_are zero x = tt
digits_are (suc zero) x = (mod-lt x (omega arith), tt)
digits_are (suc (suc n)) x = (mod-lt _ (omega arith), digits_are (suc n) x)

nat_cmp-add : (k r s : ℕ) → nat_cmp r s ≡ nat_cmp (k + r) (k + s)
nat_cmp-add k r s =
    by_ranked (r < s) (r ≡ s) (s < r) (nat_cmp r s) (ranked r s (nat_cmp r s) refl)
    (λ is less. rw is (nat_cmp_is (k + r) (k + s) Less (omega arith)))
    (λ is same. rw is (nat_cmp_is (k + r) (k + s) Equal (omega arith)))
    (λ is more. rw is (nat_cmp_is (k + r) (k + s) Greater (omega arith)))

-- the higher digit decides, and else the rest
nat_cmp-digits : (p x y r s : ℕ) → r < p → s < p → ordering_then (nat_cmp x y) (nat_cmp r s) ≡ nat_cmp (x * p + r) (y * p + s)
nat_cmp-digits p x y r s r-below s-below =
    by_ranked (x < y) (x ≡ y) (y < x) (nat_cmp x y) (ranked x y (nat_cmp x y) refl)
    (λ is less. let step : (x + 1) * p ≤ y * p = mul-le-mul_right p (omega arith) in rw is (nat_cmp_is (x * p + r) (y * p + s) Less (omega arith)))
    (λ is same. rw (is, same) (nat_cmp-add (y * p) r s))
    (λ is more. let step : (y + 1) * p ≤ x * p = mul-le-mul_right p (omega arith) in rw is (nat_cmp_is (x * p + r) (y * p + s) Greater (omega arith)))

digits-take : (n : ℕ) (xs : List ℕ) → AreDigits xs → AreDigits (take n xs)
digits-take zero xs are = tt
digits-take (suc n) [] are = tt
digits-take (suc n) (x ∷ xs) are = (are.0, digits-take n xs are.1)

pub digits-drop : (n : ℕ) (xs : List ℕ) → AreDigits xs → AreDigits (drop n xs)
digits-drop zero xs are = are
digits-drop (suc n) [] are = tt
digits-drop (suc n) (x ∷ xs) are = digits-drop n xs are.1

-- bytes of one length are in the order of their numbers
pub slice_cmp-big_from : (n : ℕ) (xs ys : List ℕ) → length xs ≡ n → length ys ≡ n → AreDigits xs → AreDigits ys
    → slice_cmp nat_cmp xs ys ≡ nat_cmp (big_from 0 n xs) (big_from 0 n ys)
slice_cmp-big_from zero [] [] xs-long ys-long xs-are ys-are = refl
slice_cmp-big_from (suc n) [] [] xs-long ys-long xs-are ys-are = absurd (omega arith)
slice_cmp-big_from n (x ∷ xs) [] xs-long ys-long xs-are ys-are = absurd (omega arith)
slice_cmp-big_from n [] (y ∷ ys) xs-long ys-long xs-are ys-are = absurd (omega arith)
slice_cmp-big_from zero (x ∷ xs) (y ∷ ys) xs-long ys-long xs-are ys-are = absurd (omega arith)
slice_cmp-big_from (suc n) (x ∷ xs) (y ∷ ys) xs-long ys-long xs-are ys-are =
    let rest = slice_cmp-big_from n xs ys (omega arith) (omega arith) xs-are.1 ys-are.1 in
    rw (rest, big_from-cons 0 n x xs, big_from-cons 0 n y ys)
    (nat_cmp-digits (256 ^ n) x y (big_from 0 n xs) (big_from 0 n ys) (big_from-below n xs xs-are.1) (big_from-below n ys ys-are.1))

-- the bytes of the number in some bytes are these bytes
pub bytes_high_first-big_from : (n : ℕ) (xs : List ℕ) → n ≤ length xs → AreDigits xs → bytes_high_first n (big_from 0 n xs) ≡ take n xs
bytes_high_first-big_from n xs long are =
    let number = big_from 0 n xs in
    let front-are : AreDigits (take n xs) = digits-take n xs are in
    let front-long : length (take n xs) ≡ n = omega (arith, length-take n xs) in
    let written : big_from 0 n (bytes_high_first n number) ≡ number =
    ap (big_from 0 n) (sym (append-nil (bytes_high_first n number))) ∙ big_from-bytes n number [] ∙ mod-eq_of_lt (big_from-below n xs are) in
    let front : big_from 0 n (take n xs) ≡ number = big_from-take 0 n n xs (omega arith) in
    let cmp = slice_cmp-big_from n (bytes_high_first n number) (take n xs) (length-bytes_high_first n number) front-long (digits_are n number) front-are in
    exact_bytes (bytes_high_first n number) (take n xs) (cmp ∙ rw (written, front) (tied_itself nat_cmp_total number))
