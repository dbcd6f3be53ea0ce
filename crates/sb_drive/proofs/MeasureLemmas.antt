-- What a Ctx may still ask for: each answer makes it less.
use Rattle.std.proofs.Common.{◌≡◌, ℕ, zero, suc, ◌+◌, ◌^◌, ◌<◌, ◌≤◌, ◌==◌, Bool, true, false, cond, not, Option, Some, None, option_map, is_none, refl, sym, ap, ◌∙◌, arith, eq-eqb, eqb-true, true≢false}
use Rattle.std.specs.List.{find as first}
use Rattle.std.specs.Option.{option_eq}
use Rattle.std.proofs.lemmas.Bool.{cond-true}
use Rattle.std.proofs.lemmas.Bool.Decides.{nat_tests}
use Rattle.sb_ctx.specs.View.{HeldPage, View, page_of, holds_fresh, next_of, with_held, fresh_page, with_next}
use Rattle.sb_ctx.specs.Held.{page_in}
use Rattle.sb_ctx.proofs.HeldLaws.{page_in-put}
use Rattle.sb_ctx.proofs.DrivingLaws.{page_of-with_held, next_of-with_next}
use Rattle.sb_ctx.proofs.ViewLaws.{not_held}

-- how many numbers below a bound pass a test
unfoldable pub left : (ℕ → Bool) → ℕ → ℕ
left p zero = 0
left p (suc n) = cond (p n) (suc (left p n)) (left p n)

-- the page numbers of 32 bits that aren't held, those that aren't held as fresh ones, and the pages of which the next one isn't known
abbrev pub to_ask : View → ℕ
to_ask c = left (λ n. is_none (page_of c n)) (2 ^ 32) + left (λ n. not (holds_fresh c n)) (2 ^ 32) + left (λ n. is_none (next_of c (Some n))) (2 ^ 32) + cond (is_none (next_of c None)) 1 0

-- ---- fewer pass
step_le : (a b : Bool) (x y : ℕ) → (a ≡ true → b ≡ true) → x ≤ y → cond a (suc x) x ≤ cond b (suc y) y
step_le true true x y fewer le = omega arith
step_le true false x y fewer le = absurd (true≢false (sym (fewer refl)))
step_le false true x y fewer le = omega arith
step_le false false x y fewer le = le

step_falls : (a b : Bool) (x y : ℕ) → (a ≡ true → b ≡ true) → x < y → cond a (suc x) x < cond b (suc y) y
step_falls true true x y fewer lt = omega arith
step_falls true false x y fewer lt = absurd (true≢false (sym (fewer refl)))
step_falls false true x y fewer lt = omega arith
step_falls false false x y fewer lt = lt

falls_here : (a b : Bool) (x y : ℕ) → a ≡ false → b ≡ true → x ≤ y → cond a (suc x) x < cond b (suc y) y
falls_here false true x y gone here le = omega arith
falls_here true b x y gone here le = absurd (true≢false gone)
falls_here false false x y gone here le = absurd (true≢false (sym here))

pub left-le : (p q : ℕ → Bool) (most : ℕ) → ((m : ℕ) → q m ≡ true → p m ≡ true) → left q most ≤ left p most
unfolding left
left-le p q zero fewer = omega arith
left-le p q (suc k) fewer = step_le (q k) (p k) (left q k) (left p k) (fewer k) (left-le p q k fewer)

pub left-falls : (p q : ℕ → Bool) (most n : ℕ) → ((m : ℕ) → q m ≡ true → p m ≡ true) → n < most → p n ≡ true → q n ≡ false → left q most < left p most
unfolding left
left-falls p q zero n fewer below here gone = absurd (omega arith)
left-falls p q (suc k) n fewer below here gone =
    elim (n == k) as (λ b. n == k ≡ b → cond (q k) (suc (left q k)) (left q k) < cond (p k) (suc (left p k)) (left p k)) [
      | true ↦ λ same. falls_here (q k) (p k) (left q k) (left p k) (ap q (sym (eqb-true n k same)) ∙ gone) (ap p (sym (eqb-true n k same)) ∙ here) (left-le p q k fewer)
      | false ↦ λ other. step_falls (q k) (p k) (left q k) (left p k) (fewer k) (left-falls p q k n fewer (grind (arith, nat_tests)) here gone)
    ] refl

one_le : (a b : Bool) → (a ≡ true → b ≡ true) → cond a 1 0 ≤ cond b 1 0
one_le a b fewer = by a b fewer
  where
    by : (a b : Bool) → (a ≡ true → b ≡ true) → cond a 1 0 ≤ cond b 1 0
    by true true fewer = omega arith
    by true false fewer = absurd (true≢false (sym (fewer refl)))
    by false true fewer = omega arith
    by false false fewer = omega arith

one_falls : (a b : Bool) → a ≡ false → b ≡ true → cond a 1 0 < cond b 1 0
one_falls false true gone here = omega arith
one_falls true b gone here = absurd (true≢false gone)
one_falls false false gone here = absurd (true≢false (sym here))

-- ---- a page more is held
held_fewer : (c : View) (n : ℕ) (h : HeldPage) (m : ℕ) → is_none (page_of (with_held n h c) m) ≡ true → is_none (page_of c m) ≡ true
held_fewer c n h m none = by (n == m) (sym (ap (λ (o : Option HeldPage). is_none (option_map (λ (x : HeldPage). x.now) o)) (page_in-put c.held n m h)) ∙ none)
  where
    by : (b : Bool) → is_none (option_map (λ (x : HeldPage). x.now) (cond b (Some h) (page_in c.held m))) ≡ true → is_none (page_of c m) ≡ true
    by true some = absurd (true≢false (sym some))
    by false none = none

-- whether it is held as a fresh one
abbrev pub fresh_in : Option HeldPage → Bool
fresh_in o = elim o [ None ↦ false | Some h ↦ h.fresh ]

pub holds_fresh-with_held : (c : View) (n : ℕ) (h : HeldPage) (m : ℕ) → holds_fresh (with_held n h c) m ≡ cond (n == m) h.fresh (holds_fresh c m)
holds_fresh-with_held c n h m = ap fresh_in (page_in-put c.held n m h) ∙ by (n == m)
  where
    by : (b : Bool) → fresh_in (cond b (Some h) (page_in c.held m)) ≡ cond b h.fresh (fresh_in (page_in c.held m))
    by true = refl
    by false = refl

pub holds_fresh-fresh : (c : View) (n : ℕ) → holds_fresh (with_held n fresh_page c) n ≡ true
holds_fresh-fresh c n = holds_fresh-with_held c n fresh_page n ∙ cond-true (n == n) true (holds_fresh c n) (eq-eqb n n refl)

pub holds_fresh-unheld : (c : View) (n : ℕ) → page_of c n ≡ None → holds_fresh c n ≡ false
holds_fresh-unheld c n none = ap fresh_in (not_held c n none)

fresh_fewer : (c : View) (n : ℕ) (h : HeldPage) (m : ℕ) → (holds_fresh c n ≡ true → h.fresh ≡ true) → not (holds_fresh (with_held n h c) m) ≡ true → not (holds_fresh c m) ≡ true
fresh_fewer c n h m stays none = by (n == m) refl (sym (ap not (holds_fresh-with_held c n h m)) ∙ none)
  where
    at : n ≡ m → not h.fresh ≡ true → (f : Bool) → holds_fresh c m ≡ f → not f ≡ true
    at same none true is = absurd (true≢false (sym none ∙ ap not (stays (ap (holds_fresh c) same ∙ is))))
    at same none false is = refl

    by : (b : Bool) → n == m ≡ b → not (cond b h.fresh (holds_fresh c m)) ≡ true → not (holds_fresh c m) ≡ true
    by true same none = at (eqb-true n m same) none (holds_fresh c m) refl
    by false other none = none

-- one that wasn't held
pub to_ask-with_held : (c : View) (n : ℕ) (h : HeldPage) → n < 2 ^ 32 → page_of c n ≡ None → to_ask (with_held n h c) < to_ask c
to_ask-with_held c n h below none =
    let falls = left-falls (λ m. is_none (page_of c m)) (λ m. is_none (page_of (with_held n h c) m)) (2 ^ 32) n (held_fewer c n h) below (ap is_none none) (ap is_none (page_of-with_held c n h)) in
    let fresh = left-le (λ m. not (holds_fresh c m)) (λ m. not (holds_fresh (with_held n h c) m)) (2 ^ 32) (λ m. fresh_fewer c n h m (λ is. absurd (true≢false (sym is ∙ holds_fresh-unheld c n none)))) in
    omega (arith, falls, fresh)

-- a fresh one that wasn't held as one
pub to_ask-with_fresh : (c : View) (n : ℕ) → n < 2 ^ 32 → holds_fresh c n ≡ false → to_ask (with_held n fresh_page c) < to_ask c
to_ask-with_fresh c n below new =
    let held = left-le (λ m. is_none (page_of c m)) (λ m. is_none (page_of (with_held n fresh_page c) m)) (2 ^ 32) (held_fewer c n fresh_page) in
    let falls = left-falls (λ m. not (holds_fresh c m)) (λ m. not (holds_fresh (with_held n fresh_page c) m)) (2 ^ 32) n (λ m. fresh_fewer c n fresh_page m (λ is. refl)) below (ap not new) (ap not (holds_fresh-fresh c n)) in
    omega (arith, held, falls)

-- ---- a next page more is known
next_of-cons : (c : View) (low next k : Option ℕ) → next_of (with_next low next c) k ≡ cond (option_eq (λ a b. a == b) low k) (Some next) (next_of c k)
next_of-cons c low next k = by (option_eq (λ a b. a == b) low k)
  where
    by : (b : Bool) → option_map (λ (e : Option ℕ × Option ℕ). e.1) (cond b (Some (low, next)) (first (λ e. option_eq (λ a b. a == b) e.0 k) c.nexts)) ≡ cond b (Some next) (next_of c k)
    by true = refl
    by false = refl

next_fewer : (c : View) (low next k : Option ℕ) → is_none (next_of (with_next low next c) k) ≡ true → is_none (next_of c k) ≡ true
next_fewer c low next k none = by (option_eq (λ a b. a == b) low k) (sym (ap is_none (next_of-cons c low next k)) ∙ none)
  where
    by : (b : Bool) → is_none (cond b (Some next) (next_of c k)) ≡ true → is_none (next_of c k) ≡ true
    by true some = absurd (true≢false (sym some))
    by false none = none

pub to_ask-with_next : (c : View) (n : ℕ) (next : Option ℕ) → n < 2 ^ 32 → next_of c (Some n) ≡ None → to_ask (with_next (Some n) next c) < to_ask c
to_ask-with_next c n next below none =
    let falls = left-falls (λ m. is_none (next_of c (Some m))) (λ m. is_none (next_of (with_next (Some n) next c) (Some m))) (2 ^ 32) n (λ m. next_fewer c (Some n) next (Some m)) below (ap is_none none) (ap is_none (next_of-with_next c (Some n) next)) in
    let one = one_le (is_none (next_of (with_next (Some n) next c) None)) (is_none (next_of c None)) (next_fewer c (Some n) next None) in
    omega (arith, falls, one)

pub to_ask-with_first : (c : View) (next : Option ℕ) → next_of c None ≡ None → to_ask (with_next None next c) < to_ask c
to_ask-with_first c next none =
    let rest = left-le (λ m. is_none (next_of c (Some m))) (λ m. is_none (next_of (with_next None next c) (Some m))) (2 ^ 32) (λ m. next_fewer c None next (Some m)) in
    let one = one_falls (is_none (next_of (with_next None next c) None)) (is_none (next_of c None)) (ap is_none (next_of-with_next c None next)) (ap is_none none) in
    omega (arith, rest, one)
