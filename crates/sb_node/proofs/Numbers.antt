-- Numbers and writes, byte by byte.
use Rattle.std.proofs.Common.{suc, zero, ◌≡◌, ℕ, ◌+◌, ◌-◌, ◌*◌, ◌^◌, ◌<◌, ◌≤◌, true, false, List, [], ◌++◌, length, take, drop, get_or, refl, ap, sym, ◌∙◌, arith, length-take, length-drop, length-append}
use Rattle.std.specs.Prelude.{nat_lt}
use Rattle.std.specs.Int.{bytes_high_first}
use Rattle.std.proofs.lemmas.List.{get_or-take, get_or-drop, get_or-append-add, append-nil}
use Rattle.std.proofs.Math.ListN.{get_or-append}
use Rattle.std.proofs.lemmas.Bool.{ltb-true, ltb-false}
use Rattle.byteorder.specs.Endian.{big_from}
use Rattle.byteorder.specs.Numbers.{big_number-reads_back, length-bytes_high_first}
use Rattle.sb_bytes.specs.Field.{number_at, with_number}
use Rattle.sb_node.specs.Writes.{Wrote}

big_from-same : (i n : ℕ) (x y : List ℕ) → ((k : ℕ) → k < i + n → get_or x k 0 ≡ get_or y k 0) → big_from i n x ≡ big_from i n y
big_from-same i zero x y same = refl
big_from-same i (suc n) x y same = (λ t. same i (omega arith) t * 256 ^ n + big_from-same (suc i) n x y (λ k lt. same k (omega arith)) t)

-- the same bytes are the same number
pub number_at-same : (n at to : ℕ) (b c : List ℕ) → ((k : ℕ) → k < n → get_or c (to + k) 0 ≡ get_or b (at + k) 0) → number_at n c to ≡ number_at n b at
unfolding number_at
number_at-same n at to b c same =
    big_from-same 0 n (drop to c) (drop at b) (λ k lt. get_or-drop to c k 0 ∙ same k (omega arith) ∙ sym (get_or-drop at b k 0))

-- a list between two others is written over what stood there
wrote_between : (at n : ℕ) (old bytes : List ℕ) → n ≡ length bytes → at + n ≤ length old → Wrote old (take at old ++ bytes ++ drop (at + n) old) at bytes
wrote_between at n old bytes long inside =
    let front : length (take at old) ≡ at = omega (arith, length-take at old) in
    let both : length (take at old ++ bytes) ≡ at + n = omega (arith, length-append (take at old) bytes) in
    record {
      len = length-append (take at old ++ bytes) (drop (at + n) old) ∙ (omega (arith, both, length-dropped at n old));
      here = λ j lt.
          get_or-append (take at old ++ bytes) (drop (at + n) old) 0 (at + j) (omega arith) ∙ ap (λ k. get_or (take at old ++ bytes) (k + j) 0) (sym front)
          ∙ get_or-append-add (take at old) bytes j 0;
      below = λ j lt.
          get_or-append (take at old ++ bytes) (drop (at + n) old) 0 j (omega arith) ∙ get_or-append (take at old) bytes 0 j (omega arith) ∙ get_or-take at old j 0 lt;
      above = λ j le.
          let place : j ≡ length (take at old ++ bytes) + (j - (at + n)) = omega arith in
          let back : at + n + (j - (at + n)) ≡ j = omega arith in
          ap (λ k. get_or (take at old ++ bytes ++ drop (at + n) old) k 0) place ∙ get_or-append-add (take at old ++ bytes) (drop (at + n) old) (j - (at + n)) 0
          ∙ get_or-drop (at + n) old (j - (at + n)) 0 ∙ ap (λ k. get_or old k 0) back;
    }
  where
    length-dropped : (at n : ℕ) (old : List ℕ) → length (drop (at + n) old) ≡ length old - (at + n)
    length-dropped at n old = omega (arith, length-drop (at + n) old)

-- a number is written in its bytes
pub wrote_number : (n at number : ℕ) (old new : List ℕ) → at + n ≤ length old → new ≡ with_number n old at number → Wrote old new at (bytes_high_first n number)
unfolding with_number
wrote_number n at number old new inside is =
    rw is (wrote_between at n old (bytes_high_first n number) (sym (length-bytes_high_first n number)) inside)

-- a number's own bytes are read as it
pub number_spelled : (n number : ℕ) → number < 256 ^ n → number_at n (bytes_high_first n number) 0 ≡ number
unfolding number_at
number_spelled n number small = ap (big_from 0 n) (sym (append-nil (bytes_high_first n number))) ∙ big_number-reads_back n number [] small

-- and is read again
pub number_written : (n at number : ℕ) (old new : List ℕ) → number < 256 ^ n → Wrote old new at (bytes_high_first n number) → number_at n new at ≡ number
number_written n at number old new small wrote =
    number_at-same n 0 at (bytes_high_first n number) new (λ k lt. wrote.here k (omega (arith, length-bytes_high_first n number)) ∙ (λ i. get_or (bytes_high_first n number) (none k i) 0))
    ∙ number_spelled n number small
  where
    none : (k : ℕ) → k ≡ 0 + k
    none k = omega arith

-- two writes, one behind the other
pub wrote_then : (a b c : List ℕ) (at to : ℕ) (xs ys : List ℕ) → Wrote a b at xs → Wrote b c to ys → to ≡ at + length xs → Wrote a c at (xs ++ ys)
wrote_then a b c at to xs ys v w e = record {
  len = w.len ∙ v.len;
  here = λ j lt. elim (nat_lt j (length xs)) as (λ t. nat_lt j (length xs) ≡ t → get_or c (at + j) 0 ≡ get_or (xs ++ ys) j 0) [
    | true ↦ λ q. let l = ltb-true j (length xs) q in w.below (at + j) (omega (arith, e, l)) ∙ v.here j l ∙ sym (get_or-append xs ys 0 j l)
    | false ↦ λ q.
        let l = ltb-false j (length xs) q in
        let s : j ≡ length xs + (j - length xs) = omega (arith, l) in
        let p : at + j ≡ to + (j - length xs) = omega (arith, l, e) in
        ap (λ k. get_or c k 0) p ∙ w.here (j - length xs) (omega (arith, l, lt, length-append xs ys)) ∙ sym (ap (λ k. get_or (xs ++ ys) k 0) s ∙ get_or-append-add xs ys (j - length xs) 0)
  ] refl;
  below = λ j lt. w.below j (omega (arith, e)) ∙ v.below j lt;
  above = λ j le. let long = length-append xs ys in w.above j (omega (arith, e, le, long)) ∙ v.above j (omega (arith, le, long));
}
