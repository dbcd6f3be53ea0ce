-- What a look-up of a page finds in a list of held pages, once it is changed; and that the numbers keep rising.
use Rattle.std.proofs.Common.{◌≡◌, ℕ, ◌+◌, ◌==◌, Bool, true, false, cond, ◌&&◌, List, [], ◌∷◌, length, Option, Some, None, option_map, is_some, T, refl, sym, ap, ◌∙◌, arith, nat_cmp, is_lt, Less, Equal, Greater, true≢false, zero, suc, ◌<◌, ◌≤◌, subst, slice_get, eq-eqb, ne_eqb, ne_of_lt}
use Rattle.std.specs.List.{find as first}
use Rattle.std.specs.Ordering.{eq_by_cmp}
use Rattle.std.specs.FinMap.Entries.{put, by_order, find, find-put, below_all, is_sorted, is_sorted-put, length-put}
use Rattle.std.proofs.lemmas.Bool.{and_parts, cond-true, cond-false}
use Rattle.std.proofs.lemmas.Bool.Decides.{nat_tests}
use Rattle.std.proofs.lemmas.Option.{same_Some}
use Rattle.std.proofs.lemmas.Cmp.{nat_cmp_total}
use Rattle.sb_value.proofs.Truths.{T-true}
use Rattle.sb_ctx.specs.View.{HeldPage, bytes_put}
use Rattle.sb_ctx.specs.Held.{Entries, page_in, with_bytes, each, Rises}

-- ---- look-ups
pub page_in-cons : (e : ℕ × HeldPage) (held : Entries) (n : ℕ) → page_in (e ∷ held) n ≡ cond (e.0 == n) (Some e.1) (page_in held n)
page_in-cons e held n = elim (e.0 == n) as (λ b. option_map (λ (x : ℕ × HeldPage). x.1) (cond b (Some e) (first (λ x. x.0 == n) held)) ≡ cond b (Some e.1) (page_in held n)) [ true ↦ refl | false ↦ refl ]

tied : (a b : ℕ) → (b == a) ≡ eq_by_cmp nat_cmp a b
tied a b = grind (arith, nat_tests)

-- it is the look-up by order
pub page_in-find : (held : Entries) (n : ℕ) → page_in held n ≡ find nat_cmp n held
page_in-find [] n = refl
page_in-find (e ∷ held) n = page_in-cons e held n ∙ (λ i. cond (tied n e.0 i) (Some e.1) (page_in-find held n i))

pub page_in-put : (held : Entries) (n m : ℕ) (h : HeldPage) → page_in (put nat_cmp n h held) m ≡ cond (n == m) (Some h) (page_in held m)
page_in-put held n m h = page_in-find (put nat_cmp n h held) m ∙ find-put nat_cmp nat_cmp_total m n h held ∙ sym (λ i. cond (tied m n i) (Some h) (page_in-find held m i))

pub page_in-each : (f : HeldPage → HeldPage) (held : Entries) (n : ℕ) → page_in (each f held) n ≡ option_map f (page_in held n)
page_in-each f [] n = refl
page_in-each f (e ∷ held) n =
    page_in-cons (e.0, f e.1) (each f held) n
    ∙ elim (e.0 == n) as (λ b. cond b (Some (f e.1)) (page_in (each f held) n) ≡ option_map f (cond b (Some e.1) (page_in held n))) [ true ↦ refl | false ↦ page_in-each f held n ]
    ∙ ap (option_map f) (sym (page_in-cons e held n))

-- the page whose bytes are put, and the others
pub page_in-bytes_put : (held : Entries) (n m : ℕ) (bytes : List ℕ) → page_in (bytes_put n bytes held) m ≡ cond (n == m) (option_map (with_bytes bytes) (page_in held m)) (page_in held m)
page_in-bytes_put [] n m bytes = elim (n == m) as (λ b. ◌≡◌ {A = Option HeldPage} None (cond b None None)) [ true ↦ refl | false ↦ refl ]
page_in-bytes_put (e ∷ held) n m bytes =
    elim (e.0 == n) as (λ b. e.0 == n ≡ b → page_in (cond b ((e.0, with_bytes bytes e.1) ∷ held) (e ∷ bytes_put n bytes held)) m ≡ cond (n == m) (option_map (with_bytes bytes) (page_in (e ∷ held) m)) (page_in (e ∷ held) m)) [
      | true ↦ λ same. page_in-cons (e.0, with_bytes bytes e.1) held m ∙ changed (e.0 == m) (n == m) (like e.0 n m same) ∙ sym (λ i. cond (n == m) (option_map (with_bytes bytes) (page_in-cons e held m i)) (page_in-cons e held m i))
      | false ↦ λ other. page_in-cons e (bytes_put n bytes held) m ∙ ap (cond (e.0 == m) (Some e.1)) (page_in-bytes_put held n m bytes) ∙ passed (e.0 == m) (n == m) (unlike e.0 n m other) ∙ sym (λ i. cond (n == m) (option_map (with_bytes bytes) (page_in-cons e held m i)) (page_in-cons e held m i))
    ] refl
  where
    like : (a b c : ℕ) → (a == b) ≡ true → (a == c) ≡ (b == c)
    like a b c same = grind (arith, nat_tests)

    unlike : (a b c : ℕ) → (a == b) ≡ false → (a == c) ≡ true → (b == c) ≡ false
    unlike a b c other is = grind (arith, nat_tests)

    changed : (here there : Bool) → here ≡ there → cond here (Some (with_bytes bytes e.1)) (page_in held m) ≡ cond there (option_map (with_bytes bytes) (cond here (Some e.1) (page_in held m))) (cond here (Some e.1) (page_in held m))
    changed true true same = refl
    changed false false same = refl
    changed true false same = cc
    changed false true same = cc

    passed : (here there : Bool) → (here ≡ true → there ≡ false) → cond here (Some e.1) (cond there (option_map (with_bytes bytes) (page_in held m)) (page_in held m)) ≡ cond there (option_map (with_bytes bytes) (cond here (Some e.1) (page_in held m))) (cond here (Some e.1) (page_in held m))
    passed true true apart = absurd (true≢false (apart refl))
    passed true false apart = refl
    passed false there apart = refl

-- ---- what is given stays
pub each-each : (f g : HeldPage → HeldPage) (held : Entries) → each f (each g held) ≡ each (λ h. f (g h)) held
each-each f g [] = refl
each-each f g (e ∷ held) = ap (λ (rest : Entries). (e.0, f (g e.1)) ∷ rest) (each-each f g held)

pub each-bytes_put : (f : HeldPage → HeldPage) (n : ℕ) (bytes : List ℕ) → ((h : HeldPage) → f (with_bytes bytes h) ≡ f h) → (held : Entries) → each f (bytes_put n bytes held) ≡ each f held
each-bytes_put f n bytes same [] = refl
each-bytes_put f n bytes same (e ∷ held) =
    elim (e.0 == n) as (λ b. each f (cond b ((e.0, with_bytes bytes e.1) ∷ held) (e ∷ bytes_put n bytes held)) ≡ each f (e ∷ held)) [
      | true ↦ ap (λ (h : HeldPage). (e.0, h) ∷ each f held) (same e.1)
      | false ↦ ap (λ (rest : Entries). (e.0, f e.1) ∷ rest) (each-bytes_put f n bytes same held)
    ]

below_all-each : (f : HeldPage → HeldPage) (n : ℕ) (held : Entries) → below_all nat_cmp n (each f held) ≡ below_all nat_cmp n held
below_all-each f n [] = refl
below_all-each f n (e ∷ held) = ap (λ b. is_lt (nat_cmp n e.0) && b) (below_all-each f n held)

pub is_sorted-each : (f : HeldPage → HeldPage) (held : Entries) → is_sorted nat_cmp (each f held) ≡ is_sorted nat_cmp held
is_sorted-each f [] = refl
is_sorted-each f (e ∷ held) = λ i. below_all-each f e.0 held i && is_sorted-each f held i

below_all-bytes_put : (k n : ℕ) (bytes : List ℕ) (held : Entries) → below_all nat_cmp k (bytes_put n bytes held) ≡ below_all nat_cmp k held
below_all-bytes_put k n bytes [] = refl
below_all-bytes_put k n bytes (e ∷ held) =
    elim (e.0 == n) as (λ b. below_all nat_cmp k (cond b ((e.0, with_bytes bytes e.1) ∷ held) (e ∷ bytes_put n bytes held)) ≡ below_all nat_cmp k (e ∷ held)) [
      | true ↦ refl
      | false ↦ ap (λ b. is_lt (nat_cmp k e.0) && b) (below_all-bytes_put k n bytes held)
    ]

pub is_sorted-bytes_put : (n : ℕ) (bytes : List ℕ) (held : Entries) → is_sorted nat_cmp (bytes_put n bytes held) ≡ is_sorted nat_cmp held
is_sorted-bytes_put n bytes [] = refl
is_sorted-bytes_put n bytes (e ∷ held) =
    elim (e.0 == n) as (λ b. is_sorted nat_cmp (cond b ((e.0, with_bytes bytes e.1) ∷ held) (e ∷ bytes_put n bytes held)) ≡ is_sorted nat_cmp (e ∷ held)) [
      | true ↦ refl
      | false ↦ λ i. below_all-bytes_put e.0 n bytes held i && is_sorted-bytes_put n bytes held i
    ]

below_at : (n : ℕ) (held : Entries) → below_all nat_cmp n held ≡ true → (i : ℕ) (e : ℕ × HeldPage) → slice_get held i ≡ Some e → n < e.0
below_at n [] below i e is = cc
below_at n (x ∷ held) below zero e is =
    let less = (and_parts (is_lt (nat_cmp n x.0)) (below_all nat_cmp n held) below).0 in
    let same = ap (λ (y : ℕ × HeldPage). y.0) (same_Some x e is) in
    is_less n x.0 e.0 less same
  where
    is_less : (a b c : ℕ) → is_lt (nat_cmp a b) ≡ true → b ≡ c → a < c
    is_less a b c less same = grind (arith, nat_tests)
below_at n (x ∷ held) below (suc i) e is = below_at n held (and_parts (is_lt (nat_cmp n x.0)) (below_all nat_cmp n held) below).1 i e is

-- the first number is below the others, and these rise too
pub Rises-below : (x : ℕ × HeldPage) (held : Entries) → Rises (x ∷ held) → (i : ℕ) (e : ℕ × HeldPage) → slice_get held i ≡ Some e → x.0 < e.0
Rises-below x held rises = below_at x.0 held (and_parts (below_all nat_cmp x.0 held) (is_sorted nat_cmp held) (T-true _ rises)).0

pub Rises-tail : (x : ℕ × HeldPage) (held : Entries) → Rises (x ∷ held) → Rises held
Rises-tail x held rises = subst T (sym (and_parts (below_all nat_cmp x.0 held) (is_sorted nat_cmp held) (T-true _ rises)).1) tt

-- so each entry is found by its number
pub page_in-place : (held : Entries) (i : ℕ) (e : ℕ × HeldPage) → Rises held → slice_get held i ≡ Some e → page_in held e.0 ≡ Some e.1
page_in-place [] i e rises is = cc
page_in-place (x ∷ held) zero e rises is =
    let same : x ≡ e = same_Some x e is in
    page_in-cons x held e.0 ∙ cond-true (x.0 == e.0) (Some x.1) (page_in held e.0) (eq-eqb x.0 e.0 (ap (λ (y : ℕ × HeldPage). y.0) same)) ∙ ap (λ (y : ℕ × HeldPage). Some y.1) same
page_in-place (x ∷ held) (suc i) e rises is =
    page_in-cons x held e.0 ∙ cond-false (x.0 == e.0) (Some x.1) (page_in held e.0) (ne_eqb x.0 e.0 (λ same. ne_of_lt (Rises-below x held rises i e is) same)) ∙ page_in-place held i e (Rises-tail x held rises) is

-- and as many as the numbers allow are there
pub length_within : (held : Entries) (low most : ℕ) → Rises held → ((i : ℕ) (e : ℕ × HeldPage) → slice_get held i ≡ Some e → (low ≤ e.0) × (e.0 < most)) → low ≤ most → length held + low ≤ most
length_within [] low most rises all fits = omega arith
length_within (x ∷ held) low most rises all fits =
    let first = all 0 x refl in
    let rest = length_within held (x.0 + 1) most (Rises-tail x held rises) (λ i e is. (omega (arith, Rises-below x held rises i e is), (all (suc i) e is).1)) (omega arith) in
    omega arith

pub Rises-put : (held : Entries) (n : ℕ) (h : HeldPage) → Rises held → Rises (put nat_cmp n h held)
Rises-put held n h rises = is_sorted-put nat_cmp nat_cmp_total n h held rises

-- a page more is held
pub length-put_new : (held : Entries) (n : ℕ) (h : HeldPage) → Rises held → page_in held n ≡ None → length (put nat_cmp n h held) ≡ length held + 1
length-put_new held n h rises none =
    length-put nat_cmp nat_cmp_total n h held rises ∙ ap (λ (o : Option HeldPage). cond (is_some o) (length held) (length held + 1)) (sym (page_in-find held n) ∙ none)

pub each-put : (f : HeldPage → HeldPage) (n : ℕ) (h : HeldPage) (held : Entries) → each f (put nat_cmp n h held) ≡ put nat_cmp n (f h) (each f held)
each-put f n h [] = refl
each-put f n h (e ∷ held) =
    elim (nat_cmp n e.0) as (λ o. each f (by_order o ((n, h) ∷ e ∷ held) ((e.0, h) ∷ held) (e ∷ put nat_cmp n h held)) ≡ by_order o ((n, f h) ∷ (e.0, f e.1) ∷ each f held) ((e.0, f h) ∷ each f held) ((e.0, f e.1) ∷ put nat_cmp n (f h) (each f held))) [
      | Less ↦ refl
      | Equal ↦ refl
      | Greater ↦ ap (λ (rest : Entries). (e.0, f e.1) ∷ rest) (each-put f n h held)
    ]
