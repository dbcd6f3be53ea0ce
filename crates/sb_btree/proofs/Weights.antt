-- How many edits a Ctx counts once a page of it has other bytes.
use Rattle.std.proofs.Common.{◌≡◌, ◌≢◌, ℕ, ◌+◌, ◌-◌, ◌≤◌, ◌==◌, Bool, true, false, true≢false, cond, not, ◌&&◌, List, [], ◌∷◌, length, map, filter, Option, Some, None, option_map, refl, sym, ap, subst, ◌∙◌, arith, eq-eqb, ne_eqb}
use Rattle.std.specs.Str.{bytes_eq}
use Rattle.std.proofs.lemmas.List.{length-map}
use Rattle.std.proofs.lemmas.Bool.{cond-true, cond-false}
use Rattle.std.proofs.lemmas.Option.{same_Some}
use Rattle.sb_forms.specs.Fits.{is_empty}
use Rattle.sb_forms.specs.Pages.{zeros}
use Rattle.sb_ctx.specs.View.{HeldPage, View, held_at, page_of, bytes_put, with_page, fresh_page, is_edited, is_freed, edits_of}
use Rattle.sb_ctx.specs.Held.{Entries, page_in, with_bytes}
use Rattle.sb_btree.specs.Spending.{taken_of, written}
use Rattle.sb_ctx.proofs.HeldLaws.{page_in-cons, page_in-bytes_put}
use Rattle.sb_ctx.proofs.ViewLaws.{page_of-other}

-- a page that isn't held isn't written
bytes_put-none : (held : Entries) (n : ℕ) (bytes : List ℕ) → page_in held n ≡ None → bytes_put n bytes held ≡ held
bytes_put-none [] n bytes is = refl
bytes_put-none (e ∷ held) n bytes is =
    elim (e.0 == n) as (λ b. cond b (Some e.1) (page_in held n) ≡ None → cond b ((e.0, with_bytes bytes e.1) ∷ held) (e ∷ bytes_put n bytes held) ≡ e ∷ held) [
      | true ↦ λ here. cc
      | false ↦ λ later. ap (λ (rest : Entries). e ∷ rest) (bytes_put-none held n bytes later)
    ] (sym (page_in-cons e held n) ∙ is)

with_page-none : (c : View) (n : ℕ) (bytes : List ℕ) → held_at c n ≡ None → with_page n bytes c ≡ c
with_page-none c n bytes is = ap (λ (held : Entries). record c { held = held }) (bytes_put-none c.held n bytes is)

-- ---- entries that pass a test, by a change of one
abbrev pub counted : (HeldPage → Bool) → Entries → ℕ
counted p held = length (filter (λ e. p e.1) held)

abbrev one_if : Bool → ℕ
one_if b = cond b 1 0

counted-cons : (p : HeldPage → Bool) (e : ℕ × HeldPage) (held : Entries) → counted p (e ∷ held) ≡ one_if (p e.1) + counted p held
counted-cons p e held = by (p e.1)
  where
    by : (b : Bool) → length (cond b (e ∷ filter (λ x. p x.1) held) (filter (λ x. p x.1) held)) ≡ one_if b + counted p held
    by true = omega arith
    by false = omega arith

counted-put : (p : HeldPage → Bool) (held : Entries) (n : ℕ) (bytes : List ℕ) (h : HeldPage) → page_in held n ≡ Some h
    → counted p (bytes_put n bytes held) + one_if (p h) ≡ counted p held + one_if (p (with_bytes bytes h))
counted-put p [] n bytes h is = cc
counted-put p (e ∷ held) n bytes h is =
    elim (e.0 == n) as (λ b. e.0 == n ≡ b → counted p (cond b ((e.0, with_bytes bytes e.1) ∷ held) (e ∷ bytes_put n bytes held)) + one_if (p h) ≡ counted p (e ∷ held) + one_if (p (with_bytes bytes h))) [
      | true ↦ λ same.
          let here : e.1 ≡ h = same_Some e.1 h (sym (page_in-cons e held n ∙ cond-true (e.0 == n) (Some e.1) (page_in held n) same) ∙ is) in
          subst (λ x. counted p ((e.0, with_bytes bytes e.1) ∷ held) + one_if (p x) ≡ counted p (e ∷ held) + one_if (p (with_bytes bytes x))) here
          (omega (arith, counted-cons p (e.0, with_bytes bytes e.1) held, counted-cons p e held))
      | false ↦ λ other.
          let later : page_in held n ≡ Some h = sym (page_in-cons e held n ∙ cond-false (e.0 == n) (Some e.1) (page_in held n) other) ∙ is in
          omega (arith, counted-cons p e (bytes_put n bytes held), counted-cons p e held, counted-put p held n bytes h later)
    ] refl

-- ---- what one page counts
abbrev pub is_taken : HeldPage → Bool
is_taken h = h.fresh && not (is_empty h.now)

abbrev weight : HeldPage → ℕ
weight h = one_if (is_edited h) + one_if (is_taken h) + one_if (is_freed h)

abbrev flagged : ℕ × HeldPage → ℕ × Bool
flagged e = (e.0, not (is_empty e.1.now))

abbrev taken_in : Entries → List (ℕ × Bool)
taken_in held = filter (λ e. e.1) (map flagged held)

pub taken_counted : (held : Entries) → length (taken_in (filter (λ e. e.1.fresh) held)) ≡ counted is_taken held
taken_counted [] = refl
taken_counted (e ∷ held) = by e.1.fresh ∙ at e.1.fresh (not (is_empty e.1.now)) (taken_counted held)
  where
    fresh : Entries
    fresh = filter (λ x. x.1.fresh) held

    with_this : Bool → List (ℕ × Bool)
    with_this t = cond t (flagged e ∷ taken_in fresh) (taken_in fresh)

    by : (f : Bool) → length (taken_in (cond f (e ∷ fresh) fresh)) ≡ length (cond f (with_this (not (is_empty e.1.now))) (taken_in fresh))
    by true = refl
    by false = refl

    at : (f t : Bool) → length (taken_in fresh) ≡ counted is_taken held → length (cond f (with_this t) (taken_in fresh)) ≡ length (cond (f && t) (e ∷ filter (λ x. is_taken x.1) held) (filter (λ x. is_taken x.1) held))
    at true true rest = omega (arith, rest)
    at true false rest = rest
    at false t rest = rest

pub edits_counted : (c : View) → edits_of c ≡ counted is_edited c.held + counted is_taken c.held + counted is_freed c.held
edits_counted c =
    omega (arith, taken_counted c.held, length-map (filter (λ e. is_edited e.1) c.held) (λ e. e.0), length-map (filter (λ e. is_freed e.1) c.held) (λ e. e.0))

-- the weight of the page that has other bytes now takes the place of what it had
edits-put : (c : View) (n : ℕ) (bytes : List ℕ) (h : HeldPage) → held_at c n ≡ Some h → edits_of (with_page n bytes c) + weight h ≡ edits_of c + weight (with_bytes bytes h)
edits-put c n bytes h is =
    omega (arith, edits_counted c, edits_counted (with_page n bytes c), counted-put is_edited c.held n bytes h is, counted-put is_taken c.held n bytes h is, counted-put is_freed c.held n bytes h is)

taken-put : (c : View) (n : ℕ) (bytes : List ℕ) (h : HeldPage) → held_at c n ≡ Some h → taken_of (with_page n bytes c) + one_if (is_taken h) ≡ taken_of c + one_if (is_taken (with_bytes bytes h))
taken-put c n bytes h is = omega (arith, taken_counted c.held, taken_counted (bytes_put n bytes c.held), counted-put is_taken c.held n bytes h is)

-- ---- weights
some_bytes : (bytes : List ℕ) → bytes ≢ [] → is_empty bytes ≡ false
some_bytes [] some = absurd (some refl)
some_bytes (b ∷ bytes) some = refl

-- a page with bytes weighs one, and one more where it is taken
weight-some : (h : HeldPage) → is_empty h.now ≡ false → weight h ≡ one_if (is_edited h) + one_if h.fresh
weight-some h some = by h.fresh (is_empty h.given) (is_edited h) (is_empty h.now) some
  where
    by : (f g e n : Bool) → n ≡ false → one_if e + one_if (f && not n) + one_if (n && not g) ≡ one_if e + one_if f
    by true g e n is = ap (λ (b : Bool). one_if e + one_if (not b) + one_if (b && not g)) is ∙ omega arith
    by false g e n is = ap (λ (b : Bool). one_if e + 0 + one_if (b && not g)) is ∙ omega arith

at_most_one : (b : Bool) → one_if b ≤ 1
at_most_one true = omega arith
at_most_one false = omega arith

-- a page without bytes weighs at most one
weight-none : (h : HeldPage) → is_empty h.now ≡ true → weight h ≤ 1
weight-none h none = by h.fresh (is_empty h.given) (is_empty h.now) (bytes_eq h.now h.given) none
  where
    by : (f g n s : Bool) → n ≡ true → one_if (not n && not s) + one_if (f && not n) + one_if (n && not g) ≤ 1
    by true g true s is = omega (arith, at_most_one (not g))
    by false g true s is = omega (arith, at_most_one (not g))
    by f g false s is = absurd (true≢false (sym is))

-- ---- what writing a page costs
pub held-same : (c : View) (n : ℕ) (bytes : List ℕ) (h : HeldPage) → held_at c n ≡ Some h → held_at (with_page n bytes c) n ≡ Some (with_bytes bytes h)
held-same c n bytes h is =
    page_in-bytes_put c.held n n bytes ∙ cond-true (n == n) (option_map (with_bytes bytes) (page_in c.held n)) (page_in c.held n) (eq-eqb n n refl) ∙ ap (option_map (with_bytes bytes)) is

held-other : (c : View) (n m : ℕ) (bytes : List ℕ) → (n ≡ m → ⊥) → held_at (with_page n bytes c) m ≡ held_at c m
held-other c n m bytes other =
    page_in-bytes_put c.held n m bytes ∙ cond-false (n == m) (option_map (with_bytes bytes) (page_in c.held m)) (page_in c.held m) (ne_eqb n m other)

abbrev edited_in : Option HeldPage → ℕ
edited_in o = elim o [ None ↦ 0 | Some h ↦ one_if (is_edited h) ]

pub written-few : (c : View) (n : ℕ) → written c n ≤ 1
written-few c n = by (held_at c n)
  where
    by : (o : Option HeldPage) → edited_in o ≤ 1
    by None = omega arith
    by (Some h) = at_most_one (is_edited h)

pub written-other : (c : View) (n m : ℕ) (bytes : List ℕ) → (n ≡ m → ⊥) → written (with_page n bytes c) m ≡ written c m
written-other c n m bytes other = ap edited_in (held-other c n m bytes other)

-- a page that has bytes, and other bytes then
pub edits-page : (c : View) (n : ℕ) (page bytes : List ℕ) → page_of c n ≡ Some page → page ≢ [] → bytes ≢ [] → edits_of (with_page n bytes c) + written c n ≡ edits_of c + written (with_page n bytes c) n
edits-page c n page bytes is had has = by (held_at c n) refl is
  where
    by : (o : Option HeldPage) → held_at c n ≡ o → option_map (λ (h : HeldPage). h.now) o ≡ Some page → edits_of (with_page n bytes c) + written c n ≡ edits_of c + written (with_page n bytes c) n
    by None there now = cc
    by (Some h) there now =
        omega (
          arith,
          edits-put c n bytes h there,
          weight-some h (ap is_empty (same_Some h.now page now) ∙ some_bytes page had),
          weight-some (with_bytes bytes h) (some_bytes bytes has),
          ap edited_in there,
          ap edited_in (held-same c n bytes h there),
        )

pub edits-written : (c : View) (n : ℕ) (page bytes : List ℕ) → page_of c n ≡ Some page → page ≢ [] → bytes ≢ [] → edits_of (with_page n bytes c) + written c n ≤ edits_of c + 1
edits-written c n page bytes is had has = omega (arith, edits-page c n page bytes is had has, written-few (with_page n bytes c) n)

pub taken-written : (c : View) (n : ℕ) (page bytes : List ℕ) → page_of c n ≡ Some page → page ≢ [] → bytes ≢ [] → taken_of (with_page n bytes c) ≡ taken_of c
taken-written c n page bytes is had has = by (held_at c n) refl is
  where
    by : (o : Option HeldPage) → held_at c n ≡ o → option_map (λ (h : HeldPage). h.now) o ≡ Some page → taken_of (with_page n bytes c) ≡ taken_of c
    by None there now = cc
    by (Some h) there now =
        omega (arith, taken-put c n bytes h there, ap (λ (b : Bool). one_if (h.fresh && not b)) (ap is_empty (same_Some h.now page now) ∙ some_bytes page had ∙ sym (some_bytes bytes has)))

-- a page that is given back
pub edits-freed : (c : View) (n : ℕ) → edits_of (with_page n [] c) ≤ edits_of c + 1
edits-freed c n = by (held_at c n) refl
  where
    by : (o : Option HeldPage) → held_at c n ≡ o → edits_of (with_page n [] c) ≤ edits_of c + 1
    by None there = omega (arith, ap edits_of (with_page-none c n [] there))
    by (Some h) there = omega (arith, edits-put c n [] h there, weight-none (with_bytes [] h) refl)

pub taken-freed : (c : View) (n : ℕ) → taken_of (with_page n [] c) ≤ taken_of c
taken-freed c n = by (held_at c n) refl
  where
    none : (f : Bool) → one_if (f && false) ≡ 0
    none true = refl
    none false = refl

    by : (o : Option HeldPage) → held_at c n ≡ o → taken_of (with_page n [] c) ≤ taken_of c
    by None there = omega (arith, ap taken_of (with_page-none c n [] there))
    by (Some h) there = omega (arith, taken-put c n [] h there, none h.fresh)

-- ---- fresh pages
-- a fresh page that is written for the first time
pub edits-taken : (c : View) (n : ℕ) (bytes : List ℕ) → held_at c n ≡ Some fresh_page → bytes ≢ [] → edits_of (with_page n bytes c) ≤ edits_of c + 2
edits-taken c n bytes is has =
    omega (arith, edits-put c n bytes fresh_page is, weight-some (with_bytes bytes fresh_page) (some_bytes bytes has), at_most_one (is_edited (with_bytes bytes fresh_page)))

-- and again
pub edits-again : (c : View) (n : ℕ) (old bytes : List ℕ) → held_at c n ≡ Some (with_bytes old fresh_page) → old ≢ [] → bytes ≢ [] → edits_of (with_page n bytes c) ≤ edits_of c
edits-again c n old bytes is had has =
    omega (
      arith,
      edits-put c n bytes (with_bytes old fresh_page) is,
      weight-some (with_bytes bytes fresh_page) (some_bytes bytes has),
      at_most_one (is_edited (with_bytes bytes fresh_page)),
      weight-some (with_bytes old fresh_page) (some_bytes old had),
      edited old had,
    )
  where
    edited : (old : List ℕ) → old ≢ [] → one_if (is_edited (with_bytes old fresh_page)) ≡ 1
    edited [] had = absurd (had refl)
    edited (b ∷ old) had = refl

pub some_zeros : zeros ≢ []
unfolding zeros
some_zeros none = cc

-- a free page is none that has bytes
free_apart : (c : View) (page next : ℕ) (bytes : List ℕ) → page_of c page ≡ Some bytes → bytes ≢ [] → held_at c next ≡ Some fresh_page → page ≡ next → ⊥
free_apart c page next bytes is has free same =
    has (sym (same_Some [] bytes (sym (ap (option_map (λ (h : HeldPage). h.now)) free) ∙ ap (page_of c) (sym same) ∙ is)))

-- a taken page counts one
taking : (bytes : List ℕ) → bytes ≢ [] → one_if (is_taken (with_bytes bytes fresh_page)) ≡ 1
taking [] has = absurd (has refl)
taking (b ∷ bytes) has = refl

-- A page with bytes is written, and a fresh one taken and written, in either order.
pub record Doubles (c new : View) (page : ℕ) : Type 0 where
  pub edits : edits_of new ≤ edits_of c + (3 - written c page)
  pub taken : taken_of new ≡ taken_of c + 1

pub doubles-left : (c : View) (page next : ℕ) (bytes left right : List ℕ) → page_of c page ≡ Some bytes → bytes ≢ [] → held_at c next ≡ Some fresh_page → left ≢ [] → right ≢ []
    → Doubles c (with_page next right (with_page page left (with_page next zeros c))) page
doubles-left c page next bytes left right is has free has_left has_right =
    let apart = free_apart c page next bytes is has free in
    let one : View = with_page next zeros c in
    let two : View = with_page page left one in
    let still : page_of one page ≡ Some bytes = page_of-other c next page zeros (λ same. apart (sym same)) ∙ is in
    let first : held_at one next ≡ Some (with_bytes zeros fresh_page) = held-same c next zeros fresh_page free in
    let there : held_at two next ≡ Some (with_bytes zeros fresh_page) = held-other one page next left apart ∙ first in
    record {
      edits = omega (
        arith,
        edits-taken c next zeros free some_zeros,
        edits-written one page bytes left still has has_left,
        written-other c next page zeros (λ same. apart (sym same)),
        written-few c page,
        edits-again two next zeros right there some_zeros has_right,
      );
      taken = omega (
        arith,
        taken-put c next zeros fresh_page free,
        taken-put two next right (with_bytes zeros fresh_page) there,
        taken-written one page bytes left still has has_left,
        taking zeros some_zeros,
        taking right has_right,
      );
    }

pub doubles-right : (c : View) (page next : ℕ) (bytes left right : List ℕ) → page_of c page ≡ Some bytes → bytes ≢ [] → held_at c next ≡ Some fresh_page → left ≢ [] → right ≢ []
    → Doubles c (with_page page left (with_page next right (with_page next zeros c))) page
doubles-right c page next bytes left right is has free has_left has_right =
    let apart = free_apart c page next bytes is has free in
    let one : View = with_page next zeros c in
    let two : View = with_page next right one in
    let first : held_at one next ≡ Some (with_bytes zeros fresh_page) = held-same c next zeros fresh_page free in
    let still : page_of two page ≡ Some bytes = page_of-other one next page right (λ same. apart (sym same)) ∙ page_of-other c next page zeros (λ same. apart (sym same)) ∙ is in
    record {
      edits = omega (
        arith,
        edits-taken c next zeros free some_zeros,
        edits-again one next zeros right first some_zeros has_right,
        edits-written two page bytes left still has has_left,
        written-other c next page zeros (λ same. apart (sym same)),
        written-other one next page right (λ same. apart (sym same)),
        written-few c page,
      );
      taken = omega (
        arith,
        taken-put c next zeros fresh_page free,
        taken-put one next right (with_bytes zeros fresh_page) first,
        taken-written two page bytes left still has has_left,
        taking zeros some_zeros,
        taking right has_right,
      );
    }
