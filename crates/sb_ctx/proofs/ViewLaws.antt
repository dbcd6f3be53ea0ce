-- What the author of a box cites of a Ctx, and of the pages of which it holds a part.
use Rattle.std.proofs.Common.{◌≡◌, ℕ, ◌<◌, ◌==◌, Bool, true, false, cond, ◌&&◌, List, [], ◌∷◌, length, Option, Some, None, option_map, IsSome, slice_get, refl, sym, ap, subst, ◌∙◌, eq-eqb, ne_eqb, eqb-true, All, suc, true≢false, IfSome}
use Rattle.std.specs.List.{find as first}
use Rattle.std.proofs.lemmas.Bool.{and_parts, and_right, cond-true, cond-false}
use Rattle.std.proofs.lemmas.Option.{same_Some}
use Rattle.sb_forms.specs.Fits.{is_empty}
use Rattle.sb_forms.specs.Pages.{Pages, IsNext}
use Rattle.sb_ctx.specs.View.{HeldPage, View, held_at, page_of, room_of, next_of, bytes_put, with_page, free_page, as_given, dropped, HoldsPart, stored}
use Rattle.sb_ctx.specs.Held.{Entries, page_in, with_bytes}
use Rattle.sb_ctx.proofs.HeldLaws.{page_in-cons, page_in-each, page_in-bytes_put, page_in-place, each-each, each-bytes_put}
use Rattle.sb_ctx.specs.Sound.{AreSound, IsSound}

-- ---- a page of a Ctx once one has other bytes
pub page_of-with_page : (c : View) (n m : ℕ) (bytes : List ℕ) → page_of (with_page n bytes c) m ≡ cond (n == m) (option_map (λ page. bytes) (page_of c m)) (page_of c m)
page_of-with_page c n m bytes = ap (option_map (λ (h : HeldPage). h.now)) (page_in-bytes_put c.held n m bytes) ∙ now (n == m) (page_in c.held m)
  where
    now : (b : Bool) (o : Option HeldPage) → option_map (λ (h : HeldPage). h.now) (cond b (option_map (with_bytes bytes) o) o) ≡ cond b (option_map (λ page. bytes) (option_map (λ (h : HeldPage). h.now) o)) (option_map (λ (h : HeldPage). h.now) o)
    now true None = refl
    now true (Some h) = refl
    now false o = refl

-- that page
pub page_of-same : (c : View) (n : ℕ) (bytes : List ℕ) → IsSome (page_of c n) → page_of (with_page n bytes c) n ≡ Some bytes
page_of-same c n bytes held = page_of-with_page c n n bytes ∙ cond-true (n == n) (option_map (λ page. bytes) (page_of c n)) (page_of c n) (eq-eqb n n refl) ∙ there (page_of c n) held
  where
    there : (o : Option (List ℕ)) → IsSome o → option_map (λ page. bytes) o ≡ Some bytes
    there (Some page) held = refl
    there None held = absurd (true≢false (sym held))

-- another one
pub page_of-other : (c : View) (n m : ℕ) (bytes : List ℕ) → (n ≡ m → ⊥) → page_of (with_page n bytes c) m ≡ page_of c m
page_of-other c n m bytes other = page_of-with_page c n m bytes ∙ cond-false (n == m) (option_map (λ page. bytes) (page_of c m)) (page_of c m) (ne_eqb n m other)

abbrev room_in : Option (List ℕ) → ℕ
room_in o = elim o [ None ↦ 0 | Some bytes ↦ length bytes ]

pub room_of-page : (c : View) (n : ℕ) (page : List ℕ) → page_of c n ≡ Some page → room_of c n ≡ length page
room_of-page c n page is = ap (λ (o : Option (List ℕ)). room_in o) is

pub room_of-none : (c : View) (n : ℕ) → page_of c n ≡ None → room_of c n ≡ 0
room_of-none c n is = ap (λ (o : Option (List ℕ)). room_in o) is

-- what is known of other things stays
pub next_of-with_page : (c : View) (n : ℕ) (bytes : List ℕ) (low : Option ℕ) → next_of (with_page n bytes c) low ≡ next_of c low
next_of-with_page c n bytes low = refl

-- ---- what was given stays
pub dropped-with_page : (c : View) (n : ℕ) (bytes : List ℕ) → dropped (with_page n bytes c) ≡ dropped c
dropped-with_page c n bytes = ap (λ (held : Entries). record c { held = held }) (each-bytes_put as_given n bytes (λ h. refl) c.held)

pub given-edit : (c new : View) (n : ℕ) (f : List ℕ → List ℕ) → IsSome (page_of c n) → IfSome (page_of c n) (λ page. new ≡ with_page n (f page) c) → dropped new ≡ dropped c
given-edit c new n f held made = by (page_of c n) held made
  where
    by : (o : Option (List ℕ)) → IsSome o → IfSome o (λ page. new ≡ with_page n (f page) c) → dropped new ≡ dropped c
    by None held made = cc
    by (Some page) held made = ap dropped made ∙ dropped-with_page c n (f page)

pub dropped-dropped : (c : View) → dropped (dropped c) ≡ dropped c
dropped-dropped c = ap (λ (held : Entries). record c { held = held }) (each-each as_given as_given c.held)

-- ---- free pages
-- a fresh page without bytes, now and as it was given
pub record IsFree (c : View) (n : ℕ) : Type 0 where
  pub page : HeldPage
  pub held : held_at c n ≡ Some page
  pub fresh : page.fresh ≡ true
  pub given : page.given ≡ []
  pub now : page.now ≡ []

pub no_bytes : (bytes : List ℕ) → is_empty bytes ≡ true → bytes ≡ []
no_bytes [] is = refl
no_bytes (b ∷ bytes) is = cc

place_of_first : (p : ℕ × HeldPage → Bool) (held : Entries) (e : ℕ × HeldPage) → first p held ≡ Some e → (i : ℕ) × (slice_get held i ≡ Some e) × (p e ≡ true)
place_of_first p [] e is = cc
place_of_first p (x ∷ held) e is =
    elim (p x) as (λ b. p x ≡ b → cond b (Some x) (first p held) ≡ Some e → (i : ℕ) × (slice_get (x ∷ held) i ≡ Some e) × (p e ≡ true)) [
      | true ↦ λ passes here. (0, here, ap p (sym (same_Some x e here)) ∙ passes)
      | false ↦ λ fails there. let rest = place_of_first p held e there in (suc rest.0, rest.1, rest.2)
    ] refl is

free_entry : (held : Entries) (n : ℕ) → AreSound held → option_map (λ (e : ℕ × HeldPage). e.0) (first (λ e. e.1.fresh && is_empty e.1.now) held) ≡ Some n →
    (h : HeldPage) × (page_in held n ≡ Some h) × (h.fresh ≡ true) × (h.given ≡ []) × (h.now ≡ [])
free_entry held n sound is = by (first (λ e. e.1.fresh && is_empty e.1.now) held) refl is
  where
    by : (o : Option (ℕ × HeldPage)) → first (λ e. e.1.fresh && is_empty e.1.now) held ≡ o → option_map (λ (e : ℕ × HeldPage). e.0) o ≡ Some n →
        (h : HeldPage) × (page_in held n ≡ Some h) × (h.fresh ≡ true) × (h.given ≡ []) × (h.now ≡ [])
    by None found number = cc
    by (Some e) found number =
        let place = place_of_first (λ e. e.1.fresh && is_empty e.1.now) held e found in
        let there : page_in held n ≡ Some e.1 = ap (page_in held) (sym (same_Some e.0 n number)) ∙ page_in-place held place.0 e sound.rises place.1 in
        let free = and_parts e.1.fresh (is_empty e.1.now) place.2 in
        (e.1, there, free.0, sound.fresh n e.1 there free.0, no_bytes e.1.now free.1)

pub IsFree-free_page : (c : View) (n : ℕ) → IsSound c → free_page c ≡ Some n → IsFree c n
IsFree-free_page c n sound is =
    let free = free_entry c.held n sound is in
    record { page = free.0; held = free.1; fresh = free.2; given = free.3; now = free.4 }

abbrev free_in : Entries → Option ℕ
free_in held = option_map (λ e. e.0) (first (λ e. e.1.fresh && is_empty e.1.now) held)

free_in-cons : (e : ℕ × HeldPage) (held : Entries) → free_in (e ∷ held) ≡ cond (e.1.fresh && is_empty e.1.now) (Some e.0) (free_in held)
free_in-cons e held = elim (e.1.fresh && is_empty e.1.now) as (λ b. option_map (λ (x : ℕ × HeldPage). x.0) (cond b (Some e) (first (λ x. x.1.fresh && is_empty x.1.now) held)) ≡ cond b (Some e.0) (free_in held)) [ true ↦ refl | false ↦ refl ]

free_in-passed : (e : ℕ × HeldPage) (held : Entries) → is_empty e.1.now ≡ false → free_in (e ∷ held) ≡ free_in held
free_in-passed e held taken = free_in-cons e held ∙ cond-false (e.1.fresh && is_empty e.1.now) (Some e.0) (free_in held) (and_right e.1.fresh (is_empty e.1.now) taken)

free_in-bytes_put : (held : Entries) (n : ℕ) (page bytes : List ℕ) → option_map (λ (h : HeldPage). h.now) (page_in held n) ≡ Some page → is_empty page ≡ false → is_empty bytes ≡ false → free_in (bytes_put n bytes held) ≡ free_in held
free_in-bytes_put [] n page bytes is taken again = cc
free_in-bytes_put (e ∷ held) n page bytes is taken again =
    elim (e.0 == n) as (λ b. e.0 == n ≡ b → free_in (cond b ((e.0, with_bytes bytes e.1) ∷ held) (e ∷ bytes_put n bytes held)) ≡ free_in (e ∷ held)) [
      | true ↦ λ same.
          let now : e.1.now ≡ page = same_Some e.1.now page (ap (option_map (λ (h : HeldPage). h.now)) (sym (page_in-cons e held n ∙ cond-true (e.0 == n) (Some e.1) (page_in held n) same)) ∙ is) in
          free_in-passed (e.0, with_bytes bytes e.1) held again ∙ sym (free_in-passed e held (ap is_empty now ∙ taken))
      | false ↦ λ other.
          let later : option_map (λ (h : HeldPage). h.now) (page_in held n) ≡ Some page = ap (option_map (λ (h : HeldPage). h.now)) (sym (page_in-cons e held n ∙ cond-false (e.0 == n) (Some e.1) (page_in held n) other)) ∙ is in
          free_in-cons e (bytes_put n bytes held) ∙ ap (cond (e.1.fresh && is_empty e.1.now) (Some e.0)) (free_in-bytes_put held n page bytes later taken again) ∙ sym (free_in-cons e held)
    ] refl

-- a page that isn't free, and has bytes again, leaves the free page as it is
pub free_page-with_page : (c : View) (n : ℕ) (page bytes : List ℕ) → page_of c n ≡ Some page → is_empty page ≡ false → is_empty bytes ≡ false → free_page (with_page n bytes c) ≡ free_page c
free_page-with_page c = free_in-bytes_put c.held

-- ---- the pages once the edits are stored
abbrev pub stored_by : List ℕ → Option HeldPage → List ℕ
stored_by bytes o = elim o [ None ↦ bytes | Some h ↦ h.now ]

-- a held page has its bytes now, every other one those that it has
pub stored-page : (c : View) (P : Pages) (n : ℕ) (bytes : List ℕ) → page_of c n ≡ Some bytes → stored c P n ≡ bytes
stored-page c P n bytes is = by (held_at c n) is
  where
    by : (o : Option HeldPage) → option_map (λ (h : HeldPage). h.now) o ≡ Some bytes → stored_by (P n) o ≡ bytes
    by None is = cc
    by (Some h) is = same_Some h.now bytes is

pub not_held : (c : View) (n : ℕ) → page_of c n ≡ None → held_at c n ≡ None
not_held c n is = by (held_at c n) is
  where
    by : (o : Option HeldPage) → option_map (λ (h : HeldPage). h.now) o ≡ None → o ≡ None
    by None is = refl
    by (Some h) is = cc

pub stored-none : (c : View) (P : Pages) (n : ℕ) → page_of c n ≡ None → stored c P n ≡ P n
stored-none c P n is = ap (λ (o : Option HeldPage). stored_by (P n) o) (not_held c n is)

-- one page changed
pub stored-with_page : (c : View) (P : Pages) (n m : ℕ) (bytes : List ℕ) → IsSome (page_of c n) → stored (with_page n bytes c) P m ≡ cond (n == m) bytes (stored c P m)
stored-with_page c P n m bytes held =
    elim (n == m) as (λ b. n == m ≡ b → stored (with_page n bytes c) P m ≡ cond b bytes (stored c P m)) [
      | true ↦ λ same. ap (λ k. stored (with_page n bytes c) P k) (sym (eqb-true n m same)) ∙ stored-page (with_page n bytes c) P n bytes (page_of-same c n bytes held)
      | false ↦ λ other. ap (λ (o : Option HeldPage). stored_by (P m) o) (page_in-bytes_put c.held n m bytes ∙ cond-false (n == m) (option_map (with_bytes bytes) (held_at c m)) (held_at c m) other)
    ] refl

pub stored-same : (c : View) (P : Pages) (n : ℕ) (bytes : List ℕ) → IsSome (page_of c n) → stored (with_page n bytes c) P n ≡ bytes
stored-same c P n bytes held = stored-page (with_page n bytes c) P n bytes (page_of-same c n bytes held)

pub stored-other : (c : View) (P : Pages) (n m : ℕ) (bytes : List ℕ) → (n ≡ m → ⊥) → stored (with_page n bytes c) P m ≡ stored c P m
stored-other c P n m bytes other = ap (λ (o : Option HeldPage). stored_by (P m) o) (page_in-bytes_put c.held n m bytes ∙ cond-false (n == m) (option_map (with_bytes bytes) (held_at c m)) (held_at c m) (ne_eqb n m other))

-- ---- where nothing is made of it yet
-- a held page has the bytes that it was given with
pub as_it_was : (c : View) (n : ℕ) (h : HeldPage) → dropped c ≡ c → held_at c n ≡ Some h → h.now ≡ h.given
as_it_was c n h clean is =
    ap (λ (g : HeldPage). g.now) (sym (same_Some (as_given h) h (ap (option_map as_given) (sym is) ∙ sym (page_in-each as_given c.held n) ∙ ap (λ (v : View). held_at v n) clean ∙ is)))

pub given-page : (c : View) (P : Pages) (n : ℕ) (bytes : List ℕ) → dropped c ≡ c → HoldsPart c P → page_of c n ≡ Some bytes → P n ≡ bytes
given-page c P n bytes clean part is = by (held_at c n) refl is
  where
    by : (o : Option HeldPage) → held_at c n ≡ o → option_map (λ (h : HeldPage). h.now) o ≡ Some bytes → P n ≡ bytes
    by None there is = cc
    by (Some h) there is = part.pages n h there ∙ sym (as_it_was c n h clean there) ∙ same_Some h.now bytes is

pub stored-clean : (c : View) (P : Pages) → dropped c ≡ c → HoldsPart c P → stored c P ≡ P
stored-clean c P clean part = λ i n. by n (held_at c n) refl i
  where
    by : (n : ℕ) (o : Option HeldPage) → held_at c n ≡ o → stored_by (P n) o ≡ P n
    by n None there = refl
    by n (Some h) there = as_it_was c n h clean there ∙ sym (part.pages n h there)

-- ---- a part of the pages stays one
pub HoldsPart-dropped : (c : View) (P : Pages) → HoldsPart c P → HoldsPart (dropped c) P
HoldsPart-dropped c P part = record {
  are_pages = part.are_pages;
  fresh = λ n h is. (undone n h is).2;
  pages = λ n h is. (undone n h is).1;
  nexts = part.nexts;
}
  where
    by : (n : ℕ) (h : HeldPage) (o : Option HeldPage) → held_at c n ≡ o → option_map as_given o ≡ Some h →
        (g : HeldPage) × (P n ≡ h.given) × (h.fresh ≡ true → n < 65536)
    by n h None there is = cc
    by n h (Some g) there is =
        let same : as_given g ≡ h = same_Some (as_given g) h is in
        (g, part.pages n g there ∙ ap (λ (x : HeldPage). x.given) same, λ fresh. part.fresh n g there (ap (λ (x : HeldPage). x.fresh) same ∙ fresh))

    undone : (n : ℕ) (h : HeldPage) → held_at (dropped c) n ≡ Some h → (g : HeldPage) × (P n ≡ h.given) × (h.fresh ≡ true → n < 65536)
    undone n h is = by n h (held_at c n) refl (sym (page_in-each as_given c.held n) ∙ is)

-- as what is made of it is not what was given
pub HoldsPart-from_dropped : (c old : View) (P : Pages) → dropped c ≡ old → HoldsPart old P → HoldsPart c P
HoldsPart-from_dropped c old P is part = record {
  are_pages = part.are_pages;
  fresh = λ n h there. part.fresh n (as_given h) (given n h there);
  pages = λ n h there. part.pages n (as_given h) (given n h there);
  nexts = subst (λ (v : View). All (λ e. IsNext P e.0 e.1) v.nexts) (sym is) part.nexts;
}
  where
    given : (n : ℕ) (h : HeldPage) → held_at c n ≡ Some h → held_at old n ≡ Some (as_given h)
    given n h there = ap (λ (v : View). held_at v n) (sym is) ∙ page_in-each as_given c.held n ∙ ap (option_map as_given) there

pub HoldsPart-with_page : (c : View) (P : Pages) (n : ℕ) (bytes : List ℕ) → HoldsPart c P → HoldsPart (with_page n bytes c) P
HoldsPart-with_page c P n bytes part = HoldsPart-from_dropped (with_page n bytes c) (dropped c) P (dropped-with_page c n bytes) (HoldsPart-dropped c P part)

-- a free page isn't one of the instance's
pub free_page-unused : (c : View) (P : Pages) (n : ℕ) → IsSound c → HoldsPart c P → free_page c ≡ Some n → P n ≡ []
free_page-unused c P n sound part is = let free = IsFree-free_page c n sound is in part.pages n free.page free.held ∙ free.given
