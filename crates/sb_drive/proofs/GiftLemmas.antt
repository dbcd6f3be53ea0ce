-- What a Ctx was given more: at least as many gifts are held more as questions were answered.
use Rattle.std.proofs.Common.{◌≡◌, ℕ, ◌+◌, ◌-◌, ◌^◌, ◌≤◌, ◌==◌, Bool, true, false, cond, not, [], ◌∷◌, length, filter, Option, Some, None, option_map, is_some, is_none, IsSome, Less, Equal, Greater, nat_cmp, refl, sym, ap, subst, ◌∙◌, arith, eqb-true, true≢false}
use Rattle.std.specs.FinMap.Entries.{put, by_order}
use Rattle.std.specs.Ordering.{eq_by_cmp, is_eq}
use Rattle.std.proofs.Math.Nat.{min-le_left}
use Rattle.std.proofs.lemmas.Bool.{cond-true, cond-false}
use Rattle.std.proofs.lemmas.Bool.Decides.{nat_tests}
use Rattle.std.proofs.lemmas.List.{length-map}
use Rattle.sb_ctx.specs.Fits.{is_empty}
use Rattle.sb_ctx.specs.View.{HeldPage, View, page_of, holds_fresh, fresh_pages, as_given, dropped, with_held, given_page, fresh_page}
use Rattle.sb_ctx.specs.Held.{Entries, page_in, each}
use Rattle.sb_ctx.proofs.HeldLaws.{page_in-cons, page_in-put, page_in-each}
use Rattle.sb_ctx.proofs.ViewLaws.{not_held}
use Rattle.sb_drive.specs.declared.turns.Ask.{Ask}
use Rattle.sb_drive.specs.declared.turns.Ask.TheVariants.{Page, Fresh, After}
use Rattle.sb_drive.specs.AttachCalls.{IsGivenMore}
use Rattle.sb_drive.specs.Spaces.{IsGift}
use Rattle.sb_drive.proofs.AsksLemmas.{IsAsked}
use Rattle.sb_drive.proofs.MeasureLemmas.{fresh_in, holds_fresh-with_held, holds_fresh-unheld}

-- how many pages of a list are fresh ones
abbrev fresh_among : Entries → ℕ
fresh_among held = length (filter (λ e. e.1.fresh) held)

fresh_among-cons : (e : ℕ × HeldPage) (held : Entries) → fresh_among (e ∷ held) ≡ cond e.1.fresh 1 0 + fresh_among held
fresh_among-cons e held = by e.1.fresh
  where
    by : (b : Bool) → length (cond b (e ∷ filter (λ x. x.1.fresh) held) (filter (λ x. x.1.fresh) held)) ≡ cond b 1 0 + fresh_among held
    by true = omega arith
    by false = omega arith

fresh_among-each : (held : Entries) → fresh_among (each as_given held) ≡ fresh_among held
fresh_among-each [] = refl
fresh_among-each (e ∷ held) = omega (arith, fresh_among-cons (e.0, as_given e.1) (each as_given held), fresh_among-cons e held, fresh_among-each held)

-- ---- a page more
tied : (a b : ℕ) → (b == a) ≡ eq_by_cmp nat_cmp a b
tied a b = grind (arith, nat_tests)

at_here : (e : ℕ × HeldPage) (held : Entries) (n : ℕ) → nat_cmp n e.0 ≡ Equal → page_in (e ∷ held) n ≡ Some e.1
at_here e held n same = page_in-cons e held n ∙ cond-true (e.0 == n) (Some e.1) (page_in held n) (tied n e.0 ∙ ap is_eq same)

at_later : (e : ℕ × HeldPage) (held : Entries) (n : ℕ) → nat_cmp n e.0 ≡ Greater → page_in (e ∷ held) n ≡ page_in held n
at_later e held n more = page_in-cons e held n ∙ cond-false (e.0 == n) (Some e.1) (page_in held n) (tied n e.0 ∙ ap is_eq more)

one_at_most : (b : Bool) → cond b 1 0 ≤ 1
one_at_most true = omega arith
one_at_most false = omega arith

-- one more is held where it wasn't
held_more : (held : Entries) (n : ℕ) (h : HeldPage) → length held + cond (is_none (page_in held n)) 1 0 ≤ length (put nat_cmp n h held)
held_more [] n h = omega arith
held_more (e ∷ held) n h =
    elim (nat_cmp n e.0) as (λ o. nat_cmp n e.0 ≡ o → length (e ∷ held) + cond (is_none (page_in (e ∷ held) n)) 1 0 ≤ length (by_order o ((n, h) ∷ e ∷ held) ((e.0, h) ∷ held) (e ∷ put nat_cmp n h held))) [
      | Less ↦ λ less. omega (arith, one_at_most (is_none (page_in (e ∷ held) n)))
      | Equal ↦ λ same.
          let here : ◌≡◌ {A = ℕ} (cond (is_none (page_in (e ∷ held) n)) 1 0) 0 = ap (λ (o : Option HeldPage). cond (is_none o) 1 0) (at_here e held n same) in
          omega (arith, here)
      | Greater ↦ λ more.
          let later : ◌≡◌ {A = ℕ} (cond (is_none (page_in (e ∷ held) n)) 1 0) (cond (is_none (page_in held n)) 1 0) = ap (λ (o : Option HeldPage). cond (is_none o) 1 0) (at_later e held n more) in
          omega (arith, later, held_more held n h)
    ] refl

-- and one more is a fresh one where it wasn't
fresh_more : (held : Entries) (n : ℕ) (h : HeldPage) → fresh_in (page_in held n) ≡ false → fresh_among held + cond h.fresh 1 0 ≤ fresh_among (put nat_cmp n h held)
fresh_more [] n h new = omega (arith, fresh_among-cons (n, h) [])
fresh_more (e ∷ held) n h new =
    elim (nat_cmp n e.0) as (λ o. nat_cmp n e.0 ≡ o → fresh_among (e ∷ held) + cond h.fresh 1 0 ≤ fresh_among (by_order o ((n, h) ∷ e ∷ held) ((e.0, h) ∷ held) (e ∷ put nat_cmp n h held))) [
      | Less ↦ λ less. omega (arith, fresh_among-cons (n, h) (e ∷ held))
      | Equal ↦ λ same.
          let stale : ◌≡◌ {A = ℕ} (cond e.1.fresh 1 0) 0 = ap (λ (b : Bool). cond b 1 0) (sym (ap fresh_in (at_here e held n same)) ∙ new) in
          omega (arith, stale, fresh_among-cons e held, fresh_among-cons (e.0, h) held)
      | Greater ↦ λ more.
          omega (arith, fresh_among-cons e held, fresh_among-cons e (put nat_cmp n h held), fresh_more held n h (sym (ap fresh_in (at_later e held n more)) ∙ new))
    ] refl

-- ---- of a Ctx
-- how many pages are held, the fresh ones twice, and how many next ones are known
abbrev gifts_in : View → ℕ
gifts_in c = length c.held + length (fresh_pages c) + length c.nexts

fresh_pages-length : (c : View) → length (fresh_pages c) ≡ fresh_among c.held
fresh_pages-length c = length-map (filter (λ e. e.1.fresh) c.held) (λ e. (e.0, not (is_empty e.1.now)))

-- The gifts that are held more are as many as the questions that were answered; and what was given by its number is so.
pub record Given (old new : View) (IsOn : ℕ → Type 0) : Type 0 where
  pub gifts : new.asks + gifts_in old ≤ old.asks + gifts_in new
  pub pages : (n : ℕ) → page_of old n ≡ None → IsSome (page_of new n) → holds_fresh new n ≡ false → IsOn n

pub Given-none : (c : View) (IsOn : ℕ → Type 0) → Given c c IsOn
Given-none c IsOn = record { gifts = omega arith; pages = λ n none some stale. absurd (true≢false (sym some ∙ ap is_some none)) }

page_of-put : (c : View) (n m : ℕ) (h : HeldPage) → page_of (with_held n h c) m ≡ cond (n == m) (Some h.now) (page_of c m)
page_of-put c n m h = ap (option_map (λ (x : HeldPage). x.now)) (page_in-put c.held n m h) ∙ by (n == m)
  where
    by : (b : Bool) → option_map (λ (x : HeldPage). x.now) (cond b (Some h) (page_in c.held m)) ≡ cond b (Some h.now) (page_of c m)
    by true = refl
    by false = refl

Given-with_held : (old c : View) (n : ℕ) (h : HeldPage) (IsOn : ℕ → Type 0) → 1 ≤ cond (is_none (page_in c.held n)) 1 0 + cond h.fresh 1 0 → holds_fresh c n ≡ false → (h.fresh ≡ false → IsOn n) →
    Given old c IsOn → Given old (with_held n h c) IsOn
Given-with_held old c n h IsOn one new on given = record {
  gifts = omega (arith, one, min-le_left (c.asks + 1) (2 ^ 32 - 1), held_more c.held n h, fresh_more c.held n h new, fresh_pages-length c, fresh_pages-length (with_held n h c), given.gifts);
  pages = λ m none some stale. by m none (n == m) refl (subst IsSome (page_of-put c n m h) some) (sym (holds_fresh-with_held c n h m) ∙ stale);
}
  where
    by : (m : ℕ) → page_of old m ≡ None → (b : Bool) → n == m ≡ b → IsSome (cond b (Some h.now) (page_of c m)) → cond b h.fresh (holds_fresh c m) ≡ false → IsOn m
    by m none true same some stale = subst IsOn (eqb-true n m same) (on stale)
    by m none false other some stale = given.pages m none some stale

-- a question that is answered
pub Given-IsGift : (old c new : View) (ask : Ask) (IsOn : ℕ → Type 0) → IsAsked c ask → ((n : ℕ) → ask ≡ Page n → IsOn n) → IsGift c ask new → Given old c IsOn → Given old new IsOn
Given-IsGift old c new (Page n) IsOn asked on gift given =
    let unheld : ◌≡◌ {A = ℕ} (cond (is_none (page_in c.held n)) 1 0) 1 = ap (λ (o : Option HeldPage). cond (is_none o) 1 0) (not_held c n asked) in
    subst (λ (v : View). Given old v IsOn) (sym gift.1.2) (Given-with_held old c n (given_page gift.1.0) IsOn (omega (arith, unheld)) (holds_fresh-unheld c n asked) (λ stale. on n refl) given)
Given-IsGift old c new Fresh IsOn asked on gift given =
    subst (λ (v : View). Given old v IsOn) (sym gift.3) (Given-with_held old c gift.0 fresh_page IsOn (omega arith) gift.2 (λ stale. absurd (true≢false stale)) given)
Given-IsGift old c new (After low) IsOn asked on gift given =
    subst (λ (v : View). Given old v IsOn) (sym gift.1) (record { gifts = omega (arith, min-le_left (c.asks + 1) (2 ^ 32 - 1), given.gifts); pages = given.pages })

-- ---- what is made of it is no gift
holds_fresh-dropped : (c : View) (n : ℕ) → holds_fresh (dropped c) n ≡ holds_fresh c n
holds_fresh-dropped c n = ap fresh_in (page_in-each as_given c.held n) ∙ by (page_in c.held n)
  where
    by : (o : Option HeldPage) → fresh_in (option_map as_given o) ≡ fresh_in o
    by None = refl
    by (Some h) = refl

is_held-dropped : (c : View) (n : ℕ) → is_some (page_of (dropped c) n) ≡ is_some (page_of c n)
is_held-dropped c n = ap (λ (o : Option HeldPage). is_some (option_map (λ (h : HeldPage). h.now) o)) (page_in-each as_given c.held n) ∙ by (page_in c.held n)
  where
    by : (o : Option HeldPage) → is_some (option_map (λ (h : HeldPage). h.now) (option_map as_given o)) ≡ is_some (option_map (λ (h : HeldPage). h.now) o)
    by None = refl
    by (Some h) = refl

Given-dropped : (old c : View) (IsOn : ℕ → Type 0) → Given old (dropped c) IsOn → Given old c IsOn
Given-dropped old c IsOn given = record {
  gifts = omega (arith, length-map {B = ℕ × HeldPage} c.held (λ e. (e.0, as_given e.1)), fresh_among-each c.held, fresh_pages-length c, fresh_pages-length (dropped c), given.gifts);
  pages = λ n none some stale. given.pages n none (is_held-dropped c n ∙ some) (holds_fresh-dropped c n ∙ stale);
}

pub IsGivenMore-given : (old new : View) (IsOn : ℕ → Type 0) → Given old new IsOn → IsGivenMore old new IsOn
IsGivenMore-given old new IsOn given = record { asks = omega (arith, given.gifts); pages = given.pages }

-- once a call has made something of what it was given
pub IsGivenMore-made : (old c new : View) (IsOn : ℕ → Type 0) → dropped new ≡ c → Given old c IsOn → IsGivenMore old new IsOn
IsGivenMore-made old c new IsOn is given = IsGivenMore-given old new IsOn (Given-dropped old new IsOn (subst (λ (v : View). Given old v IsOn) (sym is) given))
