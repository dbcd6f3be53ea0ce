-- What the lists of edited, fresh and freed pages say of the pages that are stored.
use Rattle.std.proofs.Common.{◌≡◌, ℕ, zero, suc, Bool, true, false, cond, not, ◌&&◌, List, [], ◌∷◌, map, filter, Option, Some, None, option_map, slice_get, bytes_eq, refl, sym, ap, ◌∙◌, eqb-true, ◌==◌}
use Rattle.std.proofs.lemmas.Bool.{and_parts, not-false, cond-true, cond-false}
use Rattle.std.proofs.lemmas.Option.{same_Some}
use Rattle.std.proofs.lemmas.Slice.Eq.{bytes_eq-Decides}
use Rattle.sb_forms.specs.Fits.{is_empty}
use Rattle.sb_forms.specs.Pages.{Pages}
use Rattle.sb_ctx.specs.View.{HeldPage, View, held_at, page_of, is_edited, is_freed, edited_pages, fresh_pages, freed_pages, HoldsPart, stored}
use Rattle.sb_ctx.specs.Held.{Entries, page_in}
use Rattle.sb_ctx.proofs.HeldLaws.{page_in-cons, page_in-place}
use Rattle.sb_ctx.specs.Sound.{IsSound}
use Rattle.sb_ctx.proofs.ViewLaws.{stored_by, no_bytes}

-- it stands in the list
abbrev pub IsListed : {X : Type 0} → List X → X → Type 0
IsListed xs x = (i : ℕ) × (slice_get xs i ≡ Some x)

-- ---- a list of the entries that pass, each seen by a function
-- an entry that passes, with its place and what is seen of it
abbrev Seen : {Y : Type 0} → (ℕ × HeldPage → Bool) → (ℕ × HeldPage → Y) → Entries → Y → Type 0
Seen p g held y = (e : ℕ × HeldPage) × (j : ℕ) × (slice_get held j ≡ Some e) × (p e ≡ true) × (g e ≡ y)

seen_later : {Y : Type 0} (p : ℕ × HeldPage → Bool) (g : ℕ × HeldPage → Y) (x : ℕ × HeldPage) (held : Entries) (y : Y) → Seen p g held y → Seen p g (x ∷ held) y
seen_later p g x held y rest = (rest.0, suc rest.1, rest.2, rest.3, rest.4)

seen_here : {Y : Type 0} (p : ℕ × HeldPage → Bool) (g : ℕ × HeldPage → Y) (x : ℕ × HeldPage) (held : Entries) (y : Y) → p x ≡ true → (k : ℕ) → slice_get (g x ∷ map g (filter p held)) k ≡ Some y →
    ((k : ℕ) → slice_get (map g (filter p held)) k ≡ Some y → Seen p g held y) → Seen p g (x ∷ held) y
seen_here p g x held y passes zero there rest = (x, 0, refl, passes, same_Some (g x) y there)
seen_here p g x held y passes (suc k) there rest = seen_later p g x held y (rest k there)

listed : {Y : Type 0} (p : ℕ × HeldPage → Bool) (g : ℕ × HeldPage → Y) (held : Entries) (i : ℕ) (y : Y) → slice_get (map g (filter p held)) i ≡ Some y → Seen p g held y
listed p g [] i y is = cc
listed p g (x ∷ held) i y is =
    elim (p x) as (λ b. p x ≡ b → slice_get (map g (cond b (x ∷ filter p held) (filter p held))) i ≡ Some y → Seen p g (x ∷ held) y) [
      | true ↦ λ passes there. seen_here p g x held y passes i there (λ k at. listed p g held k y at)
      | false ↦ λ fails there. seen_later p g x held y (listed p g held i y there)
    ] refl is

listed_number : (p : HeldPage → Bool) (held : Entries) (n : ℕ) (h : HeldPage) → page_in held n ≡ Some h → p h ≡ true → IsListed (map (λ e. e.0) (filter (λ e. p e.1) held)) n
listed_number p [] n h is passes = cc
listed_number p (x ∷ held) n h is passes =
    elim (x.0 == n) as (λ b. x.0 == n ≡ b → IsListed (map (λ e. e.0) (filter (λ e. p e.1) (x ∷ held))) n) [
      | true ↦ λ same.
          let it : x.1 ≡ h = same_Some x.1 h (sym (page_in-cons x held n ∙ cond-true (x.0 == n) (Some x.1) (page_in held n) same) ∙ is) in
          (0, ap (λ (es : Entries). slice_get (map (λ e. e.0) es) 0) (cond-true (p x.1) (x ∷ filter (λ e. p e.1) held) (filter (λ e. p e.1) held) (ap p it ∙ passes)) ∙ ap Some (eqb-true x.0 n same))
      | false ↦ λ other. later (listed_number p held n h (sym (page_in-cons x held n ∙ cond-false (x.0 == n) (Some x.1) (page_in held n) other) ∙ is) passes)
    ] refl
  where
    later : IsListed (map (λ e. e.0) (filter (λ e. p e.1) held)) n → IsListed (map (λ e. e.0) (filter (λ e. p e.1) (x ∷ held))) n
    later rest = elim (p x.1) as (λ b. IsListed (map (λ e. e.0) (cond b (x ∷ filter (λ e. p e.1) held) (filter (λ e. p e.1) held))) n) [ true ↦ (suc rest.0, rest.1) | false ↦ rest ]

-- ---- of the pages of a Ctx
-- the page of a number that is listed
pub record Lists (c : View) (n : ℕ) (p : HeldPage → Bool) : Type 0 where
  pub page : HeldPage
  pub held : held_at c n ≡ Some page
  pub passes : p page ≡ true

of_number : (c : View) (n : ℕ) (p : HeldPage → Bool) → IsSound c → IsListed (map (λ e. e.0) (filter (λ e. p e.1) c.held)) n → Lists c n p
of_number c n p sound at =
    let e = listed (λ e. p e.1) (λ e. e.0) c.held at.0 n at.1 in
    record { page = e.0.1; held = ap (page_in c.held) (sym e.4) ∙ page_in-place c.held e.1 e.0 sound.rises e.2; passes = e.3 }

pub edited-page : (c : View) (n : ℕ) → IsSound c → IsListed (edited_pages c) n → Lists c n is_edited
edited-page c n = of_number c n is_edited

pub freed-page : (c : View) (n : ℕ) → IsSound c → IsListed (freed_pages c) n → Lists c n is_freed
freed-page c n = of_number c n is_freed

-- an edited page is stored as it is now
pub page_of-edited : (c : View) (P : Pages) (n : ℕ) → IsSound c → IsListed (edited_pages c) n → page_of c n ≡ Some (stored c P n)
page_of-edited c P n sound at =
    let e = edited-page c n sound at in
    ap (option_map (λ (h : HeldPage). h.now)) e.held ∙ ap Some (sym (ap (λ (o : Option HeldPage). stored_by (P n) o) e.held))

-- a freed page is stored without bytes
pub stored-freed : (c : View) (P : Pages) (n : ℕ) → IsSound c → IsListed (freed_pages c) n → stored c P n ≡ []
stored-freed c P n sound at =
    let e = freed-page c n sound at in
    ap (λ (o : Option HeldPage). stored_by (P n) o) e.held ∙ no_bytes e.page.now (and_parts (is_empty e.page.now) (not (is_empty e.page.given)) e.passes).0

-- a fresh page was given without bytes, and is taken where it has bytes now
pub record ListsFresh (c : View) (n : ℕ) (taken : Bool) : Type 0 where
  pub page : HeldPage
  pub held : held_at c n ≡ Some page
  pub given : page.given ≡ []
  pub taken_is : not (is_empty page.now) ≡ taken

pub fresh-page : (c : View) (n : ℕ) (taken : Bool) → IsSound c → IsListed (fresh_pages c) (n, taken) → ListsFresh c n taken
fresh-page c n taken sound at =
    let e = listed (λ e. e.1.fresh) (λ e. (e.0, not (is_empty e.1.now))) c.held at.0 (n, taken) at.1 in
    let there : held_at c n ≡ Some e.0.1 = ap (page_in c.held) (sym (ap (λ (x : ℕ × Bool). x.0) e.4)) ∙ page_in-place c.held e.1 e.0 sound.rises e.2 in
    record { page = e.0.1; held = there; given = sound.fresh n e.0.1 there e.3; taken_is = ap (λ (x : ℕ × Bool). x.1) e.4 }

-- one that isn't taken is stored without bytes
pub stored-not_taken : (c : View) (P : Pages) (n : ℕ) → IsSound c → IsListed (fresh_pages c) (n, false) → stored c P n ≡ []
stored-not_taken c P n sound at =
    let e = fresh-page c n false sound at in
    ap (λ (o : Option HeldPage). stored_by (P n) o) e.held ∙ no_bytes e.page.now (not-false (is_empty e.page.now) e.taken_is)

-- a page that is neither edited nor freed is stored as it was given
unchanged : (h : HeldPage) → is_edited h ≡ false → is_freed h ≡ false → h.now ≡ h.given
unchanged h edited freed = by (is_empty h.now) refl
  where
    by : (b : Bool) → is_empty h.now ≡ b → h.now ≡ h.given
    by true none = no_bytes h.now none ∙ sym (no_bytes h.given (given_none (is_empty h.given) (sym (ap (λ (b : Bool). b && not (is_empty h.given)) none) ∙ freed)))
      where
        given_none : (b : Bool) → (true && not b) ≡ false → b ≡ true
        given_none true is = refl
        given_none false is = cc
    by false some = (bytes_eq-Decides h.now h.given).0 (same (bytes_eq h.now h.given) (sym (ap (λ (b : Bool). not b && not (bytes_eq h.now h.given)) some) ∙ edited))
      where
        same : (b : Bool) → (true && not b) ≡ false → b ≡ true
        same true is = refl
        same false is = cc

pub stored-not_listed : (c : View) (P : Pages) (n : ℕ) → HoldsPart c P → (IsListed (edited_pages c) n → ⊥) → (IsListed (freed_pages c) n → ⊥) → stored c P n ≡ P n
stored-not_listed c P n part edited freed = by (held_at c n) refl
  where
    by : (o : Option HeldPage) → held_at c n ≡ o → stored_by (P n) o ≡ P n
    by None there = refl
    by (Some h) there =
        unchanged h (not_so (is_edited h) (λ is. edited (listed_number is_edited c.held n h there is))) (not_so (is_freed h) (λ is. freed (listed_number is_freed c.held n h there is)))
        ∙ sym (part.pages n h there)
      where
        not_so : (b : Bool) → (b ≡ true → ⊥) → b ≡ false
        not_so true h = absurd (h refl)
        not_so false h = refl
