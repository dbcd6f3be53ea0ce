-- What is stored of a Ctx: numbers in a list, the bytes of a held page, and that a clean one has no edits.
use Rattle.std.proofs.Common.{◌≡◌, ℕ, suc, ◌==◌, Bool, true, false, cond, not, ◌&&◌, ◌||◌, List, [], ◌∷◌, length, map, filter, get_or, Option, Some, None, option_map, slice_get, bytes_eq, refl, sym, ap, ◌∙◌, arith, eqb-true, eq-eqb}
use Rattle.std.specs.List.{list_any}
use Rattle.std.proofs.lemmas.Bool.{cond-false, and_right}
use Rattle.std.proofs.lemmas.List.Folds.{list_any_at}
use Rattle.std.proofs.lemmas.Option.{slice_get_within, get_or_from_slice_get}
use Rattle.std.proofs.lemmas.Slice.Eq.{bytes_eq-Decides}
use Rattle.sb_ctx.specs.Fits.{is_empty}
use Rattle.sb_ctx.specs.Pages.{Pages}
use Rattle.sb_ctx.specs.View.{HeldPage, View, held_at, as_given, dropped, is_edited, is_freed, edited_pages, freed_pages, edits_of, stored}
use Rattle.sb_ctx.specs.Held.{Entries, each}
use Rattle.sb_ctx.proofs.HeldLaws.{page_in-place}
use Rattle.sb_ctx.proofs.ListedLaws.{IsListed}
use Rattle.sb_ctx.specs.Sound.{IsSound}
use Rattle.sb_ctx.proofs.ViewLaws.{stored_by}
use Rattle.sb_drive.specs.Stores.{bytes_in}

-- ---- a number in a list
pub listed-any : (ns : List ℕ) (m : ℕ) → list_any (λ n. n == m) ns ≡ true → IsListed ns m
listed-any [] m is = cc
listed-any (n ∷ ns) m is =
    elim (n == m) as (λ b. n == m ≡ b → (b || list_any (λ k. k == m) ns) ≡ true → IsListed (n ∷ ns) m) [
      | true ↦ λ same here. (0, ap Some (eqb-true n m same))
      | false ↦ λ other later. let rest = listed-any ns m later in (suc rest.0, rest.1)
    ] refl is

pub any-listed : (ns : List ℕ) (m : ℕ) → IsListed ns m → list_any (λ n. n == m) ns ≡ true
any-listed ns m at = list_any_at (λ n. n == m) ns at.0 m (slice_get_within ns at.0 m at.1) (eq-eqb (get_or ns at.0 m) m (get_or_from_slice_get ns at.0 m m at.1))

-- the bytes of a held page are what is stored
pub bytes_in-stored : (c : View) (P : Pages) (m : ℕ) (h : HeldPage) → held_at c m ≡ Some h → bytes_in c m ≡ stored c P m
bytes_in-stored c P m h there = ap bytes_of there ∙ sym (ap (λ (o : Option HeldPage). stored_by (P m) o) there)
  where
    bytes_of : Option HeldPage → List ℕ
    bytes_of o = elim (option_map (λ (x : HeldPage). x.now) o) [ None ↦ [] | Some bytes ↦ bytes ]

-- ---- where nothing is made of the pages
none_pass : (p : HeldPage → Bool) → ((h : HeldPage) → p (as_given h) ≡ false) → (held : Entries) → ◌≡◌ {A = List ℕ} (map (λ e. e.0) (filter (λ e. p e.1) (each as_given held))) []
none_pass p none [] = refl
none_pass p none (e ∷ held) = ap (map (λ (x : ℕ × HeldPage). x.0)) (cond-false (p (as_given e.1)) ((e.0, as_given e.1) ∷ filter (λ x. p x.1) (each as_given held)) (filter (λ x. p x.1) (each as_given held)) (none e.1)) ∙ none_pass p none held

not_edited : (h : HeldPage) → is_edited (as_given h) ≡ false
not_edited h = and_right (not (is_empty h.given)) (not (bytes_eq h.given h.given)) (ap not ((bytes_eq-Decides h.given h.given).1 refl))

not_freed : (h : HeldPage) → is_freed (as_given h) ≡ false
not_freed h = by (is_empty h.given)
  where
    by : (b : Bool) → (b && not b) ≡ false
    by true = refl
    by false = refl

-- ---- the edits of a clean Ctx
-- a fresh page was given without bytes
abbrev AreEmptyFresh : Entries → Type 0
AreEmptyFresh held = (i : ℕ) (e : ℕ × HeldPage) → slice_get held i ≡ Some e → e.1.fresh ≡ true → e.1.given ≡ []

-- how many of them are taken
abbrev taken_in : Entries → ℕ
taken_in held = length (filter (λ (e : ℕ × Bool). e.1) (map (λ e. (e.0, not (is_empty e.1.now))) held))

taken_in-given : (n : ℕ) (h : HeldPage) (held : Entries) → h.given ≡ [] → taken_in ((n, as_given h) ∷ held) ≡ taken_in held
taken_in-given n h held none = ap (λ (bytes : List ℕ). length (cond (not (is_empty bytes)) ((n, not (is_empty bytes)) ∷ pages) pages)) none
  where
    pages : List (ℕ × Bool)
    pages = filter (λ (e : ℕ × Bool). e.1) (map (λ (e : ℕ × HeldPage). (e.0, not (is_empty e.1.now))) held)

-- no page is edited, taken or freed
no_taken : (held : Entries) → AreEmptyFresh held → taken_in (filter (λ e. e.1.fresh) (each as_given held)) ≡ 0
no_taken [] none = refl
no_taken (x ∷ held) none = by x.1.fresh refl (no_taken held (λ i e is. none (suc i) e is))
  where
    by : (b : Bool) → x.1.fresh ≡ b → taken_in (filter (λ e. e.1.fresh) (each as_given held)) ≡ 0 →
        taken_in (cond b ((x.0, as_given x.1) ∷ filter (λ e. e.1.fresh) (each as_given held)) (filter (λ e. e.1.fresh) (each as_given held))) ≡ 0
    by true fresh later = taken_in-given x.0 x.1 (filter (λ e. e.1.fresh) (each as_given held)) (none 0 x refl fresh) ∙ later
    by false old later = later

pub edits_of-clean : (c : View) → IsSound c → dropped c ≡ c → edits_of c ≡ 0
edits_of-clean c sound clean = ap edits_of (sym clean) ∙ none
  where
    edited : length (edited_pages (dropped c)) ≡ 0
    edited = ap (λ (ns : List ℕ). length ns) (none_pass is_edited not_edited c.held)

    freed : length (freed_pages (dropped c)) ≡ 0
    freed = ap (λ (ns : List ℕ). length ns) (none_pass is_freed not_freed c.held)

    none : edits_of (dropped c) ≡ 0
    none = omega (arith, edited, freed, no_taken c.held (λ i e is fresh. sound.fresh e.0 e.1 (page_in-place c.held i e sound.rises is) fresh))
