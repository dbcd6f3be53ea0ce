-- Signed numbers in 64 bits.
use Rattle.std.proofs.Common.{◌≡◌, ℕ, ◌-◌, ◌^◌, ◌<◌, ◌≤◌, List, ◌++◌, length, take, drop, refl, sym, ap, ◌∙◌, arith, ℤ, pos, negsuc}
use Rattle.std.specs.Prelude.{FitsSigned, ◌<ℤ◌}
use Rattle.std.specs.Int.{cast_unsigned, cast_signed, to_be_bytes, w64}
use Rattle.std.specs.Ordering.{nat_cmp, int_cmp}
use Rattle.std.specs.declared.cmp.Ordering.TheVariants.{Less, Equal, Greater}
use Rattle.std.specs.Cmp.{int_cmp_is}
use Rattle.std.proofs.lemmas.Cmp.{ranked, by_ranked}
use Rattle.std.proofs.lemmas.Int.{ints, to_z-of_z}
use Rattle.std.proofs.lemmas.List.{take_rest}
use Rattle.sb_bytes.specs.Field.{number_at, AreBytes}
use Rattle.sb_bytes.proofs.Fronts.{front_and_rest}
use Rattle.sb_value.specs.Code.{flipped}

pub flipped-below : (a : ℤ) → FitsSigned w64 a → flipped a < 2 ^ 64
flipped-below (pos n) fits = omega (arith, ints)
flipped-below (negsuc n) fits = omega (arith, ints)

flipped-less : (a b : ℤ) → FitsSigned w64 a → FitsSigned w64 b → flipped a < flipped b → a <ℤ b
flipped-less (pos m) (pos n) a-fits b-fits less = omega (arith, ints)
flipped-less (pos m) (negsuc n) a-fits b-fits less = omega (arith, ints)
flipped-less (negsuc m) (pos n) a-fits b-fits less = omega (arith, ints)
flipped-less (negsuc m) (negsuc n) a-fits b-fits less = omega (arith, ints)

flipped-injective : (a b : ℤ) → FitsSigned w64 a → FitsSigned w64 b → flipped a ≡ flipped b → a ≡ b
flipped-injective (pos m) (pos n) a-fits b-fits same = omega (arith, ints)
flipped-injective (pos m) (negsuc n) a-fits b-fits same = omega (arith, ints)
flipped-injective (negsuc m) (pos n) a-fits b-fits same = omega (arith, ints)
flipped-injective (negsuc m) (negsuc n) a-fits b-fits same = omega (arith, ints)

-- flipping the top bit keeps the order
pub nat_cmp-flipped : (a b : ℤ) → FitsSigned w64 a → FitsSigned w64 b → nat_cmp (flipped a) (flipped b) ≡ int_cmp a b
nat_cmp-flipped a b a-fits b-fits =
    by_ranked (flipped a < flipped b) (flipped a ≡ flipped b) (flipped b < flipped a) (nat_cmp (flipped a) (flipped b)) (ranked (flipped a) (flipped b) (nat_cmp (flipped a) (flipped b)) refl)
    (λ is less. is ∙ int_cmp_is a b Less (flipped-less a b a-fits b-fits less))
    (λ is same. is ∙ int_cmp_is a b Equal (flipped-injective a b a-fits b-fits same))
    (λ is more. is ∙ int_cmp_is a b Greater (flipped-less b a b-fits a-fits more))

pub cast_unsigned-below : (a : ℤ) → FitsSigned w64 a → cast_unsigned w64 a < 2 ^ 64
cast_unsigned-below (pos n) fits = omega (arith, ints)
cast_unsigned-below (negsuc n) fits = omega (arith, ints)

pub cast_unsigned-injective : (a b : ℤ) → FitsSigned w64 a → FitsSigned w64 b → cast_unsigned w64 a ≡ cast_unsigned w64 b → a ≡ b
cast_unsigned-injective a b a-fits b-fits same = sym (to_z-of_z w64 a a-fits) ∙ ap (cast_signed w64) same ∙ to_z-of_z w64 b b-fits

-- the number in the first 8 bytes, and the rest
pub number_and_rest : (bytes : List ℕ) (n : ℕ) → 8 ≤ length bytes → AreBytes bytes → n ≡ number_at 8 bytes 0 → bytes ≡ to_be_bytes w64 n ++ take (length bytes - 8) (drop 8 bytes)
number_and_rest bytes n long are is =
    front_and_rest 8 bytes long are ∙ ap (λ (m : ℕ). to_be_bytes w64 m ++ drop 8 bytes) (sym is) ∙ ap (λ (l : List ℕ). to_be_bytes w64 n ++ l) (sym (take_rest bytes 8))
