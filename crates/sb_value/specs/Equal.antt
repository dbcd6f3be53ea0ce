-- When two values or two tuples are the same, as tests with their laws, and hashes that respect them.
use Rattle.std.specs.Prelude.{◌≡◌, Bool, true, false, List, ℕ, bytes_eq}
use Rattle.std.proofs.Common.{sym, ap, subst, true≢false}
use Rattle.std.specs.Bool.{Decides}
use Rattle.std.specs.Ordering.{int_eq}
use Rattle.std.specs.Cmp.{IsEquivalence, decided, signed_Decides, unsigned_Decides, int_eq_equiv}
use Rattle.std.specs.Cmp.Lexicographic.{pointwise, pointwise_decides, nat_list_eq_equiv}
use Rattle.std.specs.Hash as fed
use Rattle.sb_value.specs.declared.value.Value.{Value}
use Rattle.sb_value.specs.declared.value.Value.TheVariants.{Int, Text}

-- two numbers that are equal, or two texts with the same bytes
abbrev pub value_eq : Value → Value → Bool
value_eq (Int a) (Int b) = int_eq a b
value_eq (Text a) (Text b) = bytes_eq a b
value_eq (Int a) (Text b) = false
value_eq (Text a) (Int b) = false

-- the same values, one by one
abbrev pub tuple_eq : List Value → List Value → Bool
tuple_eq = pointwise value_eq

pub bytes_same : (a b : List ℕ) → Decides (bytes_eq a b) (a ≡ b)
bytes_same = pointwise_decides unsigned_Decides

pub value_eq_self : (v : Value) → value_eq v v ≡ true
value_eq_self (Int a) = int_eq_equiv.refl a
value_eq_self (Text a) = nat_list_eq_equiv.refl a

pub value_eq_same : (v w : Value) → value_eq v w ≡ true → v ≡ w
value_eq_same (Int a) (Int b) e = ap Int ((signed_Decides a b).0 e)
value_eq_same (Text a) (Text b) e = ap Text ((bytes_same a b).0 e)
value_eq_same (Int a) (Text b) e = absurd (true≢false (sym e))
value_eq_same (Text a) (Int b) e = absurd (true≢false (sym e))

-- the test on values is true exactly where they are the same, and so is the test on tuples
pub value_same : (v w : Value) → Decides (value_eq v w) (v ≡ w)
value_same v w = (value_eq_same v w, λ e. subst (λ x. value_eq v x ≡ true) e (value_eq_self v))

pub tuple_same : (v w : List Value) → Decides (tuple_eq v w) (v ≡ w)
tuple_same = pointwise_decides value_same

pub value_eq_equiv : IsEquivalence value_eq
value_eq_equiv = decided value_eq value_same

pub tuple_eq_equiv : IsEquivalence tuple_eq
tuple_eq_equiv = decided tuple_eq tuple_same

-- texts, and rows of bytes, that are the same are hashed alike
pub text_alike : (a b : List ℕ) → bytes_eq a b ≡ true → fed.str a ≡ fed.str b
text_alike a b e = ap fed.str ((bytes_same a b).0 e)

pub bytes_alike : (a b : List ℕ) → bytes_eq a b ≡ true → fed.slice fed.u8 a ≡ fed.slice fed.u8 b
bytes_alike a b e = ap (fed.slice fed.u8) ((bytes_same a b).0 e)
