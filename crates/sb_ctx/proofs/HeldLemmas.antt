-- Where the code finds, changes and puts a held page, in the words of the definitions.
use Rattle.std.proofs.Common.{◌≡◌, ℕ, zero, suc, ◌==◌, Bool, true, false, cond, ◌&&◌, List, [], ◌∷◌, length, take_while, insert, get_or, set, Option, Some, None, option_map, slice_get, position, refl, sym, ap, ◌∙◌, arith, nat_cmp, nat_lt, Result, Ok, Err, OnOk, OnErr, Less, Equal, Greater, ltb, subst, eq-eqb, ne_eqb, ne_of_lt, IfSome, get_or-set_same}
use Rattle.std.specs.List.{find as first, position_or_len}
use Rattle.std.specs.FinMap.Entries.{put, by_order}
use Rattle.std.proofs.lemmas.Bool.{cond_both, cond-true, cond-false}
use Rattle.std.proofs.lemmas.Bool.Decides.{nat_tests}
use Rattle.std.proofs.lemmas.List.Folds.{find_at}
use Rattle.std.proofs.lemmas.List.Quantifiers.{position-Some}
use Rattle.std.proofs.lemmas.List.Sums.{take_while-cons}
use Rattle.std.proofs.lemmas.Option.{slice_get_within, slice_get_read, slice_get_past, cond_some, same_Some}
use Rattle.sb_forms.specs.Fits.{is_empty}
use Rattle.sb_ctx.specs.declared.held.Use.{Use}
use Rattle.sb_ctx.specs.declared.held.Use.TheVariants.{Given, Edited, Freed, Fresh, Taken}
use Rattle.sb_ctx.specs.Uses.{is_fresh_use, IsKept}
use Rattle.sb_ctx.specs.View.{HeldPage, View, bytes_put, with_page, page_of, holds_fresh, free_page, as_given, dropped}
use Rattle.sb_ctx.specs.Sound.{AreSound}
use Rattle.sb_ctx.proofs.SoundLaws.{AreSound-bytes_put}
use Rattle.sb_ctx.specs.Held.{Entries, has_number, with_bytes, each, Rises}
use Rattle.sb_ctx.proofs.HeldLaws.{Rises-below, Rises-tail}

-- ---- the first element that passes, by its place
first_at : {X : Type 0} (p : X → Bool) (xs : List X) (i : ℕ) → position p xs ≡ Some i → first p xs ≡ slice_get xs i
first_at p xs i is = find_at p xs ∙ ap (slice_get xs) (cond_some (nat_lt (position_or_len p xs) (length xs)) (position_or_len p xs) i is).1

pub first_none : {X : Type 0} (p : X → Bool) (xs : List X) → position p xs ≡ None → first p xs ≡ None
first_none p xs none =
    let past : ltb (position_or_len p xs) (length xs) ≡ false = cond_both (nat_lt (position_or_len p xs) (length xs)) (Some (position_or_len p xs)) None (λ o. o ≡ None → ltb (position_or_len p xs) (length xs) ≡ false) (λ t e. cc) (λ f e. f) none in
    find_at p xs ∙ slice_get_past xs (position_or_len p xs) (grind (arith, nat_tests))

-- what is read at the place of the first that passes
pub record IsFirst {X : Type 0} (p : X → Bool) (xs : List X) (i : ℕ) (x : X) : Type 0 where
  pub there : slice_get xs i ≡ Some x
  pub passes : p x ≡ true
  pub first : first p xs ≡ Some x

pub IsFirst-read : {X : Type 0} (p : X → Bool) (xs : List X) (i : ℕ) (x : X) → position p xs ≡ Some i → x ≡ get_or xs i x → IsFirst p xs i x
IsFirst-read p xs i x is read =
    let within = position-Some p xs i x is in
    let there = slice_get_read xs (length xs) i x refl within.0 read in
    record { there = there; passes = ap p read ∙ within.1; first = first_at p xs i is ∙ there }

-- ---- a change at a place
-- the number of an entry stands at its place alone
pub bytes_put-place : (held : Entries) (i : ℕ) (e : ℕ × HeldPage) (bytes : List ℕ) → Rises held → slice_get held i ≡ Some e → bytes_put e.0 bytes held ≡ set held i (e.0, with_bytes bytes e.1)
bytes_put-place [] i e bytes rises is = cc
bytes_put-place (x ∷ held) zero e bytes rises is =
    let same : x ≡ e = same_Some x e is in
    cond-true (x.0 == e.0) ((x.0, with_bytes bytes x.1) ∷ held) (x ∷ bytes_put e.0 bytes held) (eq-eqb x.0 e.0 (ap (λ (y : ℕ × HeldPage). y.0) same))
    ∙ ap (λ (y : ℕ × HeldPage). (y.0, with_bytes bytes y.1) ∷ held) same
bytes_put-place (x ∷ held) (suc i) e bytes rises is =
    let below = Rises-below x held rises in
    cond-false (x.0 == e.0) ((x.0, with_bytes bytes x.1) ∷ held) (x ∷ bytes_put e.0 bytes held) (ne_eqb x.0 e.0 (λ same. ne_of_lt (below i e is) same))
    ∙ ap (λ (rest : Entries). x ∷ rest) (bytes_put-place held i e bytes (Rises-tail x held rises) is)

-- so what is sound stays so
pub AreSound-set : (held : Entries) (i : ℕ) (e y : ℕ × HeldPage) (bytes : List ℕ) → AreSound held → slice_get held i ≡ Some e → y ≡ (e.0, with_bytes bytes e.1) → AreSound (set held i y)
AreSound-set held i e y bytes sound there is =
    subst AreSound (bytes_put-place held i e bytes sound.rises there ∙ ap (set held i) (sym is)) (AreSound-bytes_put held e.0 bytes sound)

-- ---- the same of a Ctx d that is seen as c
-- a write at the place of a number is a page with other bytes
pub set-with_page : {d c : View} → d ≡ c → (n i : ℕ) (e y : ℕ × HeldPage) (bytes : List ℕ) → Rises d.held → slice_get d.held i ≡ Some e → e.0 ≡ n → y ≡ (e.0, with_bytes bytes e.1) →
    record d { held = set d.held i y } ≡ with_page n bytes c
set-with_page {d} seen n i e y bytes rises there number is =
    ap (λ (x : ℕ × HeldPage). record d { held = set d.held i x }) is
    ∙ ap (λ (held : Entries). record d { held = held }) (sym (bytes_put-place d.held i e bytes rises there) ∙ ap (λ m. bytes_put m bytes d.held) number)
    ∙ ap (with_page n bytes) seen

pub each-dropped : {d c : View} → d ≡ c → (held : Entries) → held ≡ each as_given d.held → record d { held = held } ≡ dropped c
each-dropped {d} seen held is = ap (λ (all : Entries). record d { held = all }) is ∙ ap dropped seen

abbrev now_of : Option (ℕ × HeldPage) → Option (List ℕ)
now_of o = option_map (λ (h : HeldPage). h.now) (option_map (λ (x : ℕ × HeldPage). x.1) o)

pub page_of-first : {d c : View} → d ≡ c → (n i : ℕ) (e : ℕ × HeldPage) → IsFirst (has_number n) d.held i e → page_of c n ≡ Some e.1.now
page_of-first seen n i e at = ap (λ (v : View). page_of v n) (sym seen) ∙ ap now_of at.first

pub page_of-none : {d c : View} → d ≡ c → (n : ℕ) → position (has_number n) d.held ≡ None → page_of c n ≡ None
page_of-none {d} seen n none = ap (λ (v : View). page_of v n) (sym seen) ∙ ap now_of (first_none (has_number n) d.held none)

abbrev fresh_in : Option (ℕ × HeldPage) → Bool
fresh_in o = elim (option_map (λ (x : ℕ × HeldPage). x.1) o) [ None ↦ false | Some h ↦ h.fresh ]

pub holds_fresh-first : {d c : View} → d ≡ c → (n i : ℕ) (e : ℕ × HeldPage) → IsFirst (has_number n) d.held i e → holds_fresh c n ≡ e.1.fresh
holds_fresh-first seen n i e at = ap (λ (v : View). holds_fresh v n) (sym seen) ∙ ap fresh_in at.first

pub holds_fresh-none : {d c : View} → d ≡ c → (n : ℕ) → position (has_number n) d.held ≡ None → holds_fresh c n ≡ false
holds_fresh-none {d} seen n none = ap (λ (v : View). holds_fresh v n) (sym seen) ∙ ap fresh_in (first_none (has_number n) d.held none)

-- a fresh page that isn't taken
abbrev pub is_free : ℕ × HeldPage → Bool
is_free e = e.1.fresh && is_empty e.1.now

pub free_page-first : {d c : View} → d ≡ c → (i : ℕ) (e : ℕ × HeldPage) → IsFirst is_free d.held i e → free_page c ≡ Some e.0
free_page-first seen i e at = ap free_page (sym seen) ∙ ap (option_map (λ (x : ℕ × HeldPage). x.0)) at.first

pub free_page-none : {d c : View} → d ≡ c → position is_free d.held ≡ None → free_page c ≡ None
free_page-none {d} seen none = ap free_page (sym seen) ∙ ap (option_map (λ (x : ℕ × HeldPage). x.0)) (first_none is_free d.held none)

-- the number that is read at the place of a write
pub number_at : (held : Entries) (i : ℕ) (e y x : ℕ × HeldPage) → slice_get held i ≡ Some e → x ≡ get_or (set held i y) i x → y.0 ≡ e.0 → x.0 ≡ e.0
number_at held i e y x there read same = ap (λ (z : ℕ × HeldPage). z.0) (read ∙ get_or-set_same held i y x (slice_get_within held i e there)) ∙ same

-- what holds of the value that is there
pub IfSome-at : {X : Type 0} (P : X → Type 0) (o : Option X) (x : X) → o ≡ Some x → P x → IfSome o P
IfSome-at {X} P o x is p = subst (λ (q : Option X). IfSome q P) (sym is) p

-- a page with other bytes, whether they were written or not
pub AreSound-edited : {E : Type 0} (r : Result (Unit {0}) E) (held : Entries) (i : ℕ) (e y : ℕ × HeldPage) (bytes : List ℕ) → AreSound held → slice_get held i ≡ Some e → OnOk r (y ≡ (e.0, with_bytes bytes e.1)) → OnErr r (y ≡ e) → AreSound (set held i y)
AreSound-edited (Ok u) held i e y bytes sound there ok err = AreSound-set held i e y bytes sound there ok
AreSound-edited (Err d) held i e y bytes sound there ok err = AreSound-set held i e y e.1.now sound there err

-- ---- a page goes to its place
-- how many entries at the front have lesser numbers
abbrev pub place : ℕ → Entries → ℕ
place n held = length (take_while (λ e. nat_lt e.0 n) held)

place-cons : (n : ℕ) (x : ℕ × HeldPage) (held : Entries) → place n (x ∷ held) ≡ cond (nat_lt x.0 n) (suc (place n held)) 0
place-cons n x held = ap length (take_while-cons (λ e. nat_lt e.0 n) x held) ∙ elim (nat_lt x.0 n) as (λ b. length (cond b (x ∷ take_while (λ e. nat_lt e.0 n) held) []) ≡ cond b (suc (place n held)) 0) [ true ↦ refl | false ↦ refl ]

at_front : (a b : ℕ) → nat_cmp a b ≡ Less → nat_lt b a ≡ false
at_front a b is = grind (arith, nat_tests)

before : (a b : ℕ) → nat_cmp a b ≡ Less → b ≡ a → ⊥
before a b is same = grind (arith, nat_tests)

at_it : (a b : ℕ) → nat_cmp a b ≡ Equal → b ≡ a
at_it a b is = grind (arith, nat_tests)

at_it_front : (a b : ℕ) → nat_cmp a b ≡ Equal → nat_lt b a ≡ false
at_it_front a b is = grind (arith, nat_tests)

behind : (a b : ℕ) → nat_cmp a b ≡ Greater → nat_lt b a ≡ true
behind a b is = grind (arith, nat_tests)

pub put-set : (held : Entries) (n : ℕ) (h : HeldPage) (e : ℕ × HeldPage) → slice_get held (place n held) ≡ Some e → e.0 ≡ n → put nat_cmp n h held ≡ set held (place n held) (n, h)
put-set [] n h e there is = cc
put-set (x ∷ held) n h e there is =
    elim (nat_cmp n x.0) as (λ o. nat_cmp n x.0 ≡ o → by_order o ((n, h) ∷ x ∷ held) ((x.0, h) ∷ held) (x ∷ put nat_cmp n h held) ≡ set (x ∷ held) (place n (x ∷ held)) (n, h)) [
      | Less ↦ λ o.
          let first = front (at_front n x.0 o) in
          absurd (before n x.0 o (ap (λ (y : ℕ × HeldPage). y.0) (same_Some x e (sym (ap (slice_get (x ∷ held)) first) ∙ there)) ∙ is))
      | Equal ↦ λ o. ap (λ (m : ℕ). (m, h) ∷ held) (at_it n x.0 o) ∙ sym (ap (λ i. set (x ∷ held) i (n, h)) (front (at_it_front n x.0 o)))
      | Greater ↦ λ o. ap (λ (rest : Entries). x ∷ rest) (put-set held n h e (sym (ap (slice_get (x ∷ held)) (back (behind n x.0 o))) ∙ there) is) ∙ sym (ap (λ i. set (x ∷ held) i (n, h)) (back (behind n x.0 o)))
    ] refl
  where
    front : nat_lt x.0 n ≡ false → place n (x ∷ held) ≡ 0
    front not_less = place-cons n x held ∙ cond-false (nat_lt x.0 n) (suc (place n held)) 0 not_less

    back : nat_lt x.0 n ≡ true → place n (x ∷ held) ≡ suc (place n held)
    back less = place-cons n x held ∙ cond-true (nat_lt x.0 n) (suc (place n held)) 0 less

pub put-insert : (held : Entries) (n : ℕ) (h : HeldPage) → ((e : ℕ × HeldPage) → slice_get held (place n held) ≡ Some e → e.0 ≡ n → ⊥) → put nat_cmp n h held ≡ insert held (place n held) (n, h)
put-insert [] n h not_there = refl
put-insert (x ∷ held) n h not_there =
    elim (nat_cmp n x.0) as (λ o. nat_cmp n x.0 ≡ o → by_order o ((n, h) ∷ x ∷ held) ((x.0, h) ∷ held) (x ∷ put nat_cmp n h held) ≡ insert (x ∷ held) (place n (x ∷ held)) (n, h)) [
      | Less ↦ λ o. sym (ap (λ i. insert (x ∷ held) i (n, h)) (front (at_front n x.0 o)))
      | Equal ↦ λ o. absurd (not_there x (ap (slice_get (x ∷ held)) (front (at_it_front n x.0 o))) (at_it n x.0 o))
      | Greater ↦ λ o. ap (λ (rest : Entries). x ∷ rest) (put-insert held n h (λ e there. not_there e (ap (slice_get (x ∷ held)) (back (behind n x.0 o)) ∙ there))) ∙ sym (ap (λ i. insert (x ∷ held) i (n, h)) (back (behind n x.0 o)))
    ] refl
  where
    front : nat_lt x.0 n ≡ false → place n (x ∷ held) ≡ 0
    front not_less = place-cons n x held ∙ cond-false (nat_lt x.0 n) (suc (place n held)) 0 not_less

    back : nat_lt x.0 n ≡ true → place n (x ∷ held) ≡ suc (place n held)
    back less = place-cons n x held ∙ cond-true (nat_lt x.0 n) (suc (place n held)) 0 less

-- a fresh page has the room of a page
pub fresh_room : (u : Use) (given work : List ℕ) → is_fresh_use u ≡ true → IsKept u given work → length work ≡ 4096
fresh_room Fresh given work fresh kept = kept.1
fresh_room Taken given work fresh kept = kept.1
fresh_room Given given work fresh kept = cc
fresh_room Edited given work fresh kept = cc
fresh_room Freed given work fresh kept = cc
