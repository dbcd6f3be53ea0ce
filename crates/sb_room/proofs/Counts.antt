-- How many numbers pass a test.
use Rattle.std.proofs.Common.{◌≡◌, ℕ, zero, suc, ◌+◌, ◌-◌, ◌<◌, ◌≤◌, ◌==◌, Bool, true, false, cond, ◌&&◌, ◌||◌, List, [], ◌∷◌, length, filter, Option, Some, refl, sym, ap, arith, eqb-true}
use Rattle.std.specs.List.{count_by, list_any, range_with_len, sum_by}
use Rattle.std.proofs.lemmas.Bool.{and_parts, true≢false}
use Rattle.std.proofs.lemmas.List.Sums.{sum_by-cons, sum_by-le-sum_by}
use Rattle.sb_ctx.specs.View.{HeldPage}
use Rattle.sb_ctx.specs.Held.{Entries, page_in}
use Rattle.sb_ctx.proofs.HeldLaws.{page_in-cons}
use Rattle.sb_drive.proofs.MeasureLemmas.{fresh_in}

abbrev one_if : Bool → ℕ
one_if b = cond b 1 0

pub count-cons : (p : ℕ → Bool) (n : ℕ) (ns : List ℕ) → count_by p (n ∷ ns) ≡ one_if (p n) + count_by p ns
count-cons p n ns = sum_by-cons (λ m. one_if (p m)) n ns

-- ---- more and fewer numbers
-- all pass
pub count-all : (p : ℕ → Bool) (a k : ℕ) → ((n : ℕ) → a ≤ n → n < a + k → p n ≡ true) → count_by p (range_with_len a k) ≡ k
count-all p a zero all = refl
count-all p a (suc k) all =
    let here : one_if (p a) ≡ 1 = ap one_if (all a (omega arith) (omega arith)) in
    omega (arith, here, count-cons p a (range_with_len (a + 1) k), count-all p (a + 1) k (λ n low high. all n (omega arith) (omega arith)))

-- as many or more pass of a longer range
pub count-longer : (p : ℕ → Bool) (a k most : ℕ) → k ≤ most → count_by p (range_with_len a k) ≤ count_by p (range_with_len a most)
count-longer p a zero most fits = omega arith
count-longer p a (suc k) zero fits = absurd (omega arith)
count-longer p a (suc k) (suc most) fits =
    let rest = count-longer p (a + 1) k most (omega arith) in
    omega (arith, count-cons p a (range_with_len (a + 1) k), count-cons p a (range_with_len (a + 1) most), rest)

-- no more pass than there are numbers below a bound
pub count-below : (p : ℕ → Bool) (high a k : ℕ) → ((n : ℕ) → p n ≡ true → n < high) → count_by p (range_with_len a k) ≤ high - a
count-below p high a zero all = omega arith
count-below p high a (suc k) all = by (p a) refl (count-below p high (a + 1) k all)
  where
    by : (b : Bool) → p a ≡ b → count_by p (range_with_len (a + 1) k) ≤ high - (a + 1) → count_by p (range_with_len a (suc k)) ≤ high - a
    by true is rest = omega (arith, ap one_if is, all a is, count-cons p a (range_with_len (a + 1) k), rest)
    by false is rest = omega (arith, ap one_if is, count-cons p a (range_with_len (a + 1) k), rest)

-- no more than one passes where all that pass are the same
pub count-one : (p : ℕ → Bool) (one a k : ℕ) → ((n : ℕ) → p n ≡ true → n ≡ one) → count_by p (range_with_len a k) ≤ 1
count-one p one a zero all = omega arith
count-one p one a (suc k) all = by (p a) refl (count-one p one (a + 1) k all)
  where
    by : (b : Bool) → p a ≡ b → count_by p (range_with_len (a + 1) k) ≤ 1 → count_by p (range_with_len a (suc k)) ≤ 1
    by true is rest =
        let later = count-below p (one + 1) (a + 1) k (λ n passes. omega (arith, all n passes)) in
        omega (arith, ap one_if is, all a is, count-cons p a (range_with_len (a + 1) k), later)
    by false is rest = omega (arith, ap one_if is, count-cons p a (range_with_len (a + 1) k), rest)

-- ---- more and fewer tests
-- what passes one of two tests
one_or : (a b : Bool) → one_if (a || b) ≤ one_if a + one_if b
one_or true b = omega arith
one_or false b = omega arith

pub count-or : (p q : ℕ → Bool) (ns : List ℕ) → count_by (λ n. p n || q n) ns ≤ count_by p ns + count_by q ns
count-or p q [] = omega arith
count-or p q (n ∷ ns) =
    omega (arith, one_or (p n) (q n), count-or p q ns, count-cons p n ns, count-cons q n ns, count-cons (λ m. p m || q m) n ns)

count-none : (ns : List ℕ) → count_by (λ n. false) ns ≤ 0
count-none [] = omega arith
count-none (n ∷ ns) = omega (arith, count-none ns, count-cons (λ m. false) n ns)

-- what passes one of many
pub count-any : (p : ℕ → ℕ → Bool) (os ns : List ℕ) → count_by (λ n. list_any (λ o. p o n) os) ns ≤ sum_by (λ o. count_by (p o) ns) os
count-any p [] ns = count-none ns
count-any p (o ∷ os) ns =
    omega (arith, count-or (p o) (λ n. list_any (λ x. p x n) os) ns, count-any p os ns, sum_by-cons (λ x. count_by (p x) ns) o os)

-- ---- the fresh pages that are held
abbrev pub is_fresh_in : Entries → ℕ → Bool
is_fresh_in held n = fresh_in (page_in held n)

-- how many entries are fresh ones
abbrev fresh_among : Entries → ℕ
fresh_among held = length (filter (λ e. e.1.fresh) held)

fresh_among-cons : (e : ℕ × HeldPage) (held : Entries) → fresh_among (e ∷ held) ≡ one_if e.1.fresh + fresh_among held
fresh_among-cons e held = by e.1.fresh
  where
    by : (b : Bool) → length (cond b (e ∷ filter (λ x. x.1.fresh) held) (filter (λ x. x.1.fresh) held)) ≡ one_if b + fresh_among held
    by true = omega arith
    by false = omega arith

-- a number that is held as a fresh one is that of the first entry or of a later one
fresh_or : (e : ℕ × HeldPage) (held : Entries) (n : ℕ)
    → one_if (is_fresh_in (e ∷ held) n) ≤ one_if (e.0 == n && e.1.fresh || is_fresh_in held n)
fresh_or e held n =
    let is : one_if (is_fresh_in (e ∷ held) n) ≡ one_if (fresh_in (cond (e.0 == n) (Some e.1) (page_in held n))) =
    ap (λ (o : Option HeldPage). one_if (fresh_in o)) (page_in-cons e held n) in
    omega (arith, is, by (e.0 == n) e.1.fresh refl)
  where
    by : (b f : Bool) → e.1.fresh ≡ f → one_if (fresh_in (cond b (Some e.1) (page_in held n))) ≤ one_if (b && f || is_fresh_in held n)
    by true true is = omega (arith, ap one_if is)
    by true false is = omega (arith, ap one_if is)
    by false f is = omega arith

-- an entry is at most one number's, and none's where it isn't fresh
count-entry : (number : ℕ) (fresh : Bool) (k : ℕ) → count_by (λ n. number == n && fresh) (range_with_len 0 k) ≤ one_if fresh
count-entry number true k =
    count-one (λ n. number == n && true) number 0 k (λ n passes. sym (eqb-true number n (and_parts (number == n) true passes).0))
count-entry number false k =
    omega (arith, count-below (λ n. number == n && false) 0 0 k (λ n passes. absurd (true≢false (sym (and_parts (number == n) false passes).1))))

pub count-fresh : (held : Entries) (k : ℕ) → count_by (is_fresh_in held) (range_with_len 0 k) ≤ fresh_among held
count-fresh [] k = count-none (range_with_len 0 k)
count-fresh (e ∷ held) k =
    let ns = range_with_len 0 k in
    let split = λ (n : ℕ). e.0 == n && e.1.fresh || is_fresh_in held n in
    let some = sum_by-le-sum_by (λ n. one_if (is_fresh_in (e ∷ held) n)) (λ n. one_if (split n)) ns (fresh_or e held) in
    let parts = count-or (λ n. e.0 == n && e.1.fresh) (is_fresh_in held) ns in
    omega (arith, some, parts, count-entry e.0 e.1.fresh k, count-fresh held k, fresh_among-cons e held)
