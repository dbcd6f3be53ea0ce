-- Bytes that begin with a field: their order, and what the field is.
use Rattle.std.proofs.Common.{◌≡◌, ℕ, ◌^◌, ◌<◌, ◌≤◌, List, [], ◌∷◌, ◌++◌, length, take, drop, refl, sym, ap, ◌∙◌, zero-add, arith}
use Rattle.std.specs.Int.{bytes_high_first}
use Rattle.std.specs.Ordering.{nat_cmp, ordering_then}
use Rattle.std.specs.declared.cmp.Ordering.{Ordering}
use Rattle.std.specs.declared.cmp.Ordering.TheVariants.{Less, Equal, Greater}
use Rattle.std.specs.Cmp.Lexicographic.{slice_cmp}
use Rattle.std.proofs.lemmas.List.{append-nil, take_at, drop_at}
use Rattle.byteorder.specs.Endian.{big_from}
use Rattle.byteorder.specs.Numbers.{big_number-reads_back, length-bytes_high_first}
use Rattle.sb_bytes.specs.Field.{number_at, with_number, AreBytes}
use Rattle.sb_bytes.proofs.Digits.{slice_cmp-big_from, digits_are}
use Rattle.sb_bytes.proofs.FieldLaws.{writes_back}

-- three comparisons in a row
pub ordering_then_assoc : (o p q : Ordering) → ordering_then o (ordering_then p q) ≡ ordering_then (ordering_then o p) q
ordering_then_assoc Less p q = refl
ordering_then_assoc Equal p q = refl
ordering_then_assoc Greater p q = refl

-- lists of one length are compared before what follows them
pub slice_cmp-append : (a b x y : List ℕ) → length a ≡ length b
    → slice_cmp nat_cmp (a ++ x) (b ++ y) ≡ ordering_then (slice_cmp nat_cmp a b) (slice_cmp nat_cmp x y)
slice_cmp-append [] [] x y same = refl
slice_cmp-append (c ∷ a) [] x y same = absurd (omega arith)
slice_cmp-append [] (d ∷ b) x y same = absurd (omega arith)
slice_cmp-append (c ∷ a) (d ∷ b) x y same =
    ap (ordering_then (nat_cmp c d)) (slice_cmp-append a b x y (omega arith))
    ∙ ordering_then_assoc (nat_cmp c d) (slice_cmp nat_cmp a b) (slice_cmp nat_cmp x y)

written : (k n : ℕ) → n < 256 ^ k → big_from 0 k (bytes_high_first k n) ≡ n
written k n below = ap (big_from 0 k) (sym (append-nil (bytes_high_first k n))) ∙ big_number-reads_back k n [] below

-- the number in front decides, and else what follows it
pub slice_cmp-fronts : (k m n : ℕ) (x y : List ℕ) → m < 256 ^ k → n < 256 ^ k
    → slice_cmp nat_cmp (bytes_high_first k m ++ x) (bytes_high_first k n ++ y) ≡ ordering_then (nat_cmp m n) (slice_cmp nat_cmp x y)
slice_cmp-fronts k m n x y m-below n-below =
    let m-long = length-bytes_high_first k m in
    let n-long = length-bytes_high_first k n in
    let cmp = slice_cmp-big_from k (bytes_high_first k m) (bytes_high_first k n) m-long n-long (digits_are k m) (digits_are k n) in
    slice_cmp-append (bytes_high_first k m) (bytes_high_first k n) x y (m-long ∙ sym n-long)
    ∙ rw (cmp, written k m m-below, written k n n-below) refl

-- no field begins another
pub same_fronts : (k m n : ℕ) (x y : List ℕ) → m < 256 ^ k → n < 256 ^ k → bytes_high_first k m ++ x ≡ bytes_high_first k n ++ y → (m ≡ n) × (x ≡ y)
same_fronts k m n x y m-below n-below same =
    let m-long = length-bytes_high_first k m in
    let n-long = length-bytes_high_first k n in
    let fields : bytes_high_first k m ≡ bytes_high_first k n =
    sym (take_at (bytes_high_first k m) x k m-long) ∙ ap (take k) same ∙ take_at (bytes_high_first k n) y k n-long in (
      sym (written k m m-below) ∙ ap (big_from 0 k) fields ∙ written k n n-below,
      sym (drop_at (bytes_high_first k m) x k m-long) ∙ ap (drop k) same ∙ drop_at (bytes_high_first k n) y k n-long,
    )

-- the field in front, and the rest
pub front_and_rest : (k : ℕ) (bytes : List ℕ) → k ≤ length bytes → AreBytes bytes → bytes ≡ bytes_high_first k (number_at k bytes 0) ++ drop k bytes
unfolding with_number
front_and_rest k bytes long are =
    sym (writes_back k 0 bytes (omega arith) are) ∙ ap (λ (n : ℕ). bytes_high_first k (number_at k bytes 0) ++ drop n bytes) (zero-add k)
