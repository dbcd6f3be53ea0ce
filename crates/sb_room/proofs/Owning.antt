-- The laws: whose the pages are where none is left, and how many pages owners have together.
use Rattle.std.proofs.Common.{◌≡◌, ◌≢◌, ℕ, ◌<◌, ◌≤◌, ◌==◌, nat_lt, Bool, true, cond, not, ◌||◌, List, [], ◌∷◌, length, get_or, filter, suc, refl, ap, ◌∙◌, arith, inl, inr, ◌⊎◌}
use Rattle.std.specs.List.{count_by, list_any, range_with_len, sum_by}
use Rattle.std.proofs.lemmas.Bool.{cases_eq, cond-false, cond-true, eq-eqb, lt-ltb, ltb-true, ne_eqb, or_left, or_right}
use Rattle.std.proofs.lemmas.List.{length-map}
use Rattle.std.proofs.lemmas.List.Elements.{Contains-get_or}
use Rattle.std.proofs.lemmas.List.Folds.{list_any_at}
use Rattle.std.proofs.lemmas.List.Sums.{length-filter, sum_by-append, sum_by-cons, sum_by-le-sum_by}
use Rattle.sb_relation.specs.Fits.{is_empty}
use Rattle.sb_forms.specs.Pages.{Pages, page_count, page_numbers}
use Rattle.sb_ctx.specs.View.{View, holds_fresh}
use Rattle.sb_drive.specs.Slots.{Slots, owned}
use Rattle.sb_drive.specs.Spaces.{AreUsed}
use Rattle.sb_room.specs.Owned.{IsTabled, AreOwners, FullIsOwned, PagesOfBoth, PagesOfSplit, PagesOfSame}
use Rattle.sb_room.proofs.Counts.{count-all, count-any, count-below, count-fresh, count-longer, count-or}

-- ---- lists of owners
pub pages-both : PagesOfBoth
pages-both s front back = sum_by-append (λ o. page_count (owned s o)) front back

pub pages-split : PagesOfSplit
pages-split s front back o = omega (arith, pages-both s front (o ∷ back), sum_by-cons (λ x. page_count (owned s x)) o back)

-- the sum is the same where each term is
sum_same : (f g : ℕ → ℕ) (os : List ℕ) → ((i : ℕ) → i < length os → f (get_or os i 0) ≡ g (get_or os i 0)) → sum_by f os ≡ sum_by g os
sum_same f g [] same = refl
sum_same f g (o ∷ os) same =
    omega (arith, sum_by-cons f o os, sum_by-cons g o os, same 0 (omega arith), sum_same f g os (λ i low. same (suc i) (omega arith)))

pub pages-same : PagesOfSame
pages-same s t owners same =
    sum_same (λ o. page_count (owned s o)) (λ o. page_count (owned t o)) owners
    (λ i low. ap page_count (same (get_or owners i 0) (Contains-get_or owners i 0 low)))

-- ---- the pages of one owner among the first so many
abbrev has_bytes : Pages → ℕ → Bool
has_bytes P n = not (is_empty (P n))

count-filtered : (P : Pages) (total most : ℕ) → total ≤ most
    → count_by (has_bytes P) (range_with_len 0 total) ≤ length (filter (has_bytes P) (range_with_len 0 most))
count-filtered P total most few = omega (arith, count-longer (has_bytes P) 0 total most few, length-filter (has_bytes P) (range_with_len 0 most))

count-pages : (P : Pages) (total : ℕ) → total ≤ 65536 → count_by (has_bytes P) (range_with_len 0 total) ≤ page_count P
unfolding page_numbers
count-pages P total few = count-filtered P total 65536 few

-- ---- where all pages are used
some_bytes : (bytes : List ℕ) → bytes ≢ [] → not (is_empty bytes) ≡ true
some_bytes [] some = absurd (some refl)
some_bytes (b ∷ bytes) some = refl

-- the page shows bytes to one of the owners
abbrev is_shown : Slots → List ℕ → ℕ → Bool
is_shown s owners n = list_any (λ o. has_bytes (owned s o) n) owners

-- an owner sees the bytes of a page of its own
sees : (s : Slots) (n : ℕ) → (s n).0 ≢ 0 → owned s (s n).0 n ≡ (s n).1
sees s n some =
    cond-false ((s n).0 == 0) [] (cond ((s n).0 == (s n).0) (s n).1 []) (ne_eqb (s n).0 0 some)
    ∙ cond-true ((s n).0 == (s n).0) (s n).1 [] (eq-eqb (s n).0 (s n).0 refl)

-- where a page is that is used
abbrev is_placed : Slots → View → ℕ → List ℕ → ℕ → Bool
is_placed s c table owners n = nat_lt n table || (holds_fresh c n || is_shown s owners n)

placed : (s : Slots) (c : View) (total table used of : ℕ) (owners : List ℕ)
    → IsTabled table s → AreOwners owners s → AreUsed total s c used of
    → (n : ℕ) → n < total → is_placed s c table owners n ≡ true
placed s c total table used of owners tabled are full n low = by (cases_eq (s n).0 0)
  where
    bare : (s n).0 ≢ 0 → (bytes : List ℕ) → (s n).1 ≡ bytes → is_placed s c table owners n ≡ true
    bare some [] is = or_left (nat_lt n table) (holds_fresh c n || is_shown s owners n) (lt-ltb n table (tabled n some is))
    bare some (b ∷ bytes) is =
        let shows : (s n).1 ≢ [] = λ empty. cc in
        let owner = are n some shows in
        or_right (nat_lt n table) (holds_fresh c n || is_shown s owners n)
        (or_right (holds_fresh c n) (is_shown s owners n)
        (list_any_at (λ o. has_bytes (owned s o) n) owners owner.0 (s n).0 owner.1
        (ap (λ o. has_bytes (owned s o) n) owner.2 ∙ ap (λ (l : List ℕ). not (is_empty l)) (sees s n some) ∙ some_bytes (s n).1 shows)))

    by : ((s n).0 ≡ 0) ⊎ ((s n).0 ≡ 0 → ⊥) → is_placed s c table owners n ≡ true
    by (inl nobodys) =
        or_right (nat_lt n table) (holds_fresh c n || is_shown s owners n) (or_left (holds_fresh c n) (is_shown s owners n) (full.each n low nobodys))
    by (inr some) = bare some (s n).1 refl

pub full-is-owned : FullIsOwned
full-is-owned s c total table used of owners few tabled are full =
    let ns = range_with_len 0 total in
    let all = count-all (is_placed s c table owners) 0 total (λ n low high. placed s c total table used of owners tabled are full n (omega arith)) in
    let first = count-or (λ n. nat_lt n table) (λ n. holds_fresh c n || is_shown s owners n) ns in
    let second = count-or (holds_fresh c) (is_shown s owners) ns in
    let tables = count-below (λ n. nat_lt n table) table 0 total (λ n is. ltb-true n table is) in
    let fresh = count-fresh c.held total in
    let shown = count-any (λ o. has_bytes (owned s o)) owners ns in
    let within = λ (o : ℕ). count-pages (owned s o) total few in
    let pages = sum_by-le-sum_by (λ o. count_by (has_bytes (owned s o)) ns) (λ o. page_count (owned s o)) owners within in
    let held = length-map {B = ℕ × Bool} (filter (λ e. e.1.fresh) c.held) (λ e. (e.0, not (is_empty e.1.now))) in
    omega (arith, all, first, second, tables, fresh, shown, pages, held)
