-- The pages of a new store.
use Rattle.std.proofs.Common.{◌≡◌, ⊎_elim, ℕ, zero, suc, ◌+◌, ◌-◌, ◌*◌, ◌/◌, ◌%◌, ◌^◌, ◌<◌, ◌≤◌, List, [], ◌∷◌, ◌++◌, length, get_or, take, drop, map, replicate, refl, sym, ◌∙◌, ap, append_assoc, arith, length-append}
use borrow.Rule.Slice.PartMut.{put_mid}
use Rattle.std.proofs.lemmas.Bool.{cases_lt}
use Rattle.std.proofs.lemmas.Bool.Decides.{nat_tests}
use Rattle.std.proofs.lemmas.List.{append-nil, length-take, take_at}
use Rattle.std.proofs.lemmas.List.Folds.{concat-append}
use Rattle.std.proofs.lemmas.List.FromFn.{map-range_with_len_more}
use Rattle.std.specs.Int.{to_be_bytes, w16}
use Rattle.std.specs.List.{concat, range_with_len}
use Rattle.std.specs.Prelude.{slice_set}
use Rattle.sb_bytes.specs.Field.{number_at, with_number}
use Rattle.sb_bytes.proofs.FieldLaws.{reads_back}
use Rattle.sb_log.proofs.FieldLemmas.{number_at-front, number_at-behind}
use Rattle.sb_log.specs.declared.geometry.Geometry.{Geometry}
use Rattle.sb_images.specs.Layout.{geometry_of, name_of_store, IsGeometry, IsSuper}
use Rattle.sb_recover.specs.FirstPages.{super_page, table_len, first_owner, owner_entries, empty_leaf, free_page, first_page, OwnersStand}

-- ---- the owner table
abbrev entry : ℕ → ℕ → List ℕ
entry pages q = to_be_bytes w16 (first_owner pages q)

pub owner_entries-none : (pages from : ℕ) → owner_entries pages from 0 ≡ []
unfolding owner_entries
owner_entries-none pages from = refl

-- one entry more
pub owner_entries-more : (pages from k : ℕ) → owner_entries pages from (k + 1) ≡ owner_entries pages from k ++ entry pages (from + k)
unfolding owner_entries
owner_entries-more pages from k =
    let before = map (entry pages) (range_with_len from k) in
    ap concat (map-range_with_len_more (entry pages) from k (from + k) refl)
    ∙ concat-append before (entry pages (from + k) ∷ [])
    ∙ ap (λ (l : List ℕ). concat before ++ l) (append-nil (entry pages (from + k)))

-- a field of two bytes behind those that are written
pub owner_entries-put : (pages from k owner : ℕ) (old new : List ℕ) → 2 * k + 2 ≤ length old → owner ≡ first_owner pages (from + k) → new ≡ with_number 2 old (2 * k) owner
    → take (2 * k) old ≡ owner_entries pages from k → take (2 * (k + 1)) new ≡ owner_entries pages from (k + 1)
unfolding with_number
owner_entries-put pages from k owner old new fits is_owner is so_far =
    let field = to_be_bytes w16 owner in
    let two : length field ≡ 2 = refl in
    let front : length (take (2 * k) old ++ field) ≡ 2 * (k + 1) = omega (arith, two, length-append (take (2 * k) old) field, length-take (2 * k) old) in
    ap (λ (l : List ℕ). take (2 * (k + 1)) l) is
    ∙ take_at (take (2 * k) old ++ field) (drop (2 * k + 2) old) (2 * (k + 1)) front
    ∙ ap (λ (l : List ℕ). l ++ field) so_far
    ∙ ap (λ (q : ℕ). owner_entries pages from k ++ to_be_bytes w16 q) is_owner
    ∙ sym (owner_entries-more pages from k)

-- ---- the three kinds
pub first_page-table : (pages p : ℕ) → p < table_len pages → first_page pages p ≡ owner_entries pages (2048 * p) 2048
unfolding first_page
first_page-table pages p lt = grind (arith, nat_tests)

pub first_page-leaf : (pages p : ℕ) → p ≡ table_len pages → first_page pages p ≡ empty_leaf
unfolding first_page
first_page-leaf pages p is = grind (arith, nat_tests)

pub first_page-free : (pages p : ℕ) → table_len pages < p → first_page pages p ≡ free_page
unfolding first_page
first_page-free pages p gt = grind (arith, nat_tests)

pub set-free_page : slice_set free_page 0 2 ≡ empty_leaf
unfolding free_page empty_leaf
set-free_page = refl

-- ---- the super page
-- what the fields make of zeros
pub super_page-put : (pages log : ℕ) → drop 1 (with_number 8 (with_number 4 (with_number 2 (put_mid 8 8 (replicate 4096 0) name_of_store) 16 1) 20 pages) 24 log) ≡ drop 1 (super_page (geometry_of pages log))
unfolding with_number super_page
super_page-put pages log = refl

pub length-super_page : (g : Geometry) → length (super_page g) ≡ 4096
unfolding super_page
length-super_page g = refl

-- a field that holds the number already
field_back : (n at number : ℕ) (bytes : List ℕ) → with_number n bytes at number ≡ bytes → at + n ≤ length bytes → number < 256 ^ n → number_at n bytes at ≡ number
field_back n at number bytes same fits small = ap (λ (l : List ℕ). number_at n l at) (sym same) ∙ reads_back n at number bytes fits small

version_field : (g : Geometry) → with_number 2 (super_page g) 16 g.version ≡ super_page g
unfolding with_number super_page
version_field g = refl

pages_field : (g : Geometry) → with_number 4 (super_page g) 20 g.pages ≡ super_page g
unfolding with_number super_page
pages_field g = refl

log_field : (g : Geometry) → with_number 8 (super_page g) 24 g.log ≡ super_page g
unfolding with_number super_page
log_field g = refl

gate_is : (g : Geometry) → get_or (super_page g) 0 0 ≡ 165
unfolding super_page
gate_is g = refl

name_is : (g : Geometry) → take 8 (drop 8 (super_page g)) ≡ name_of_store
unfolding super_page
name_is g = refl

pub IsSuper-super_page : (g : Geometry) → IsGeometry g → IsSuper g (super_page g)
IsSuper-super_page g sizes =
    let long = length-super_page g in
    let version = sizes.version in
    let pages = sizes.pages.1 in
    let log = sizes.log.1 in
    record {
      gate = gate_is g;
      name = name_is g;
      version = field_back 2 16 g.version (super_page g) (version_field g) (omega arith) (omega arith);
      pages = field_back 4 20 g.pages (super_page g) (pages_field g) (omega arith) (omega arith);
      log = field_back 8 24 g.log (super_page g) (log_field g) (omega arith) (omega arith);
    }

-- ---- free pages
pub length-free_page : length free_page ≡ 4096
unfolding free_page
length-free_page = refl

zero_byte : (n i : ℕ) → get_or (replicate {A = ℕ} n 0) i 0 ≡ 0
zero_byte zero i = refl
zero_byte (suc n) zero = refl
zero_byte (suc n) (suc i) = zero_byte n i

pub free_page-byte : (i : ℕ) → get_or free_page i 0 ≡ 0
unfolding free_page
free_page-byte i = zero_byte 4096 i

pub super_page-open : (g : Geometry) → 165 ∷ drop 1 (super_page g) ≡ super_page g
unfolding super_page
super_page-open g = refl

length-empty_leaf : length empty_leaf ≡ 4096
unfolding empty_leaf
length-empty_leaf = refl

-- ---- what an entry says
-- entries in front, and those behind them
owner_entries-split : (pages from k m : ℕ) → owner_entries pages from (k + m) ≡ owner_entries pages from k ++ owner_entries pages (from + k) m
owner_entries-split pages from k zero =
    let e : k + 0 ≡ k = omega arith in
    ap (owner_entries pages from) e ∙ sym (append-nil (owner_entries pages from k)) ∙ ap (λ (l : List ℕ). owner_entries pages from k ++ l) (sym (owner_entries-none pages (from + k)))
owner_entries-split pages from k (suc m) =
    let e : k + suc m ≡ (k + m) + 1 = omega arith in
    let place : from + (k + m) ≡ (from + k) + m = omega arith in
    let next : m + 1 ≡ suc m = omega arith in
    ap (owner_entries pages from) e
    ∙ owner_entries-more pages from (k + m)
    ∙ ap (λ (l : List ℕ). l ++ entry pages (from + (k + m))) (owner_entries-split pages from k m)
    ∙ append_assoc (owner_entries pages from k) (owner_entries pages (from + k) m) (entry pages (from + (k + m)))
    ∙ ap (λ (q : ℕ). owner_entries pages from k ++ (owner_entries pages (from + k) m ++ entry pages q)) place
    ∙ ap (λ (l : List ℕ). owner_entries pages from k ++ l) (sym (owner_entries-more pages (from + k) m))
    ∙ ap (λ (n : ℕ). owner_entries pages from k ++ owner_entries pages (from + k) n) next

owner_entries-one : (pages q : ℕ) → owner_entries pages q 1 ≡ entry pages q
owner_entries-one pages q =
    let e : q + 0 ≡ q = omega arith in
    owner_entries-more pages q 0 ∙ ap (λ (l : List ℕ). l ++ entry pages (q + 0)) (owner_entries-none pages q) ∙ ap (entry pages) e

length-owner_entries : (pages from k : ℕ) → length (owner_entries pages from k) ≡ 2 * k
length-owner_entries pages from zero = ap (λ (l : List ℕ). length l) (owner_entries-none pages from)
length-owner_entries pages from (suc k) =
    let next : suc k ≡ k + 1 = omega arith in
    let two : length (entry pages (from + k)) ≡ 2 = refl in
    let one = ap (λ (n : ℕ). length (owner_entries pages from n)) next in
    let more = ap (λ (l : List ℕ). length l) (owner_entries-more pages from k) in
    omega (arith, one, more, length-append (owner_entries pages from k) (entry pages (from + k)), length-owner_entries pages from k)

owner_small : (pages q : ℕ) → first_owner pages q < 256 ^ 2
owner_small pages q = grind (arith, nat_tests)

-- the entry of each of them
pub owner_entries-entry : (pages from count k : ℕ) → k < count → number_at 2 (owner_entries pages from count) (2 * k) ≡ first_owner pages (from + k)
owner_entries-entry pages from count k lt =
    let m = count - k - 1 in
    let whole : count ≡ k + (1 + m) = omega arith in
    let place : 2 * k ≡ 2 * k + 0 = omega arith in
    let front = owner_entries pages from k in
    let behind = owner_entries pages (from + k + 1) m in
    let here : owner_entries pages (from + k) (1 + m) ≡ entry pages (from + k) ++ behind =
    owner_entries-split pages (from + k) 1 m ∙ ap (λ (l : List ℕ). l ++ behind) (owner_entries-one pages (from + k)) in
    ap (λ (n : ℕ). number_at 2 (owner_entries pages from n) (2 * k)) whole
    ∙ ap (λ (l : List ℕ). number_at 2 l (2 * k)) (owner_entries-split pages from k (1 + m))
    ∙ ap (λ (l : List ℕ). number_at 2 (front ++ l) (2 * k)) here
    ∙ ap (λ (at : ℕ). number_at 2 (front ++ (entry pages (from + k) ++ behind)) at) place
    ∙ number_at-behind 2 (2 * k) 0 front (entry pages (from + k) ++ behind) (length-owner_entries pages from k)
    ∙ number_at-front 2 (first_owner pages (from + k)) behind (owner_small pages (from + k))

-- the owner of each page stands in the owner table
pub owners_stand : OwnersStand
owners_stand pages q lt =
    let row : q / 2048 < table_len pages = omega arith in
    let short : q % 2048 < 2048 = omega arith in
    let whole : 2048 * (q / 2048) + q % 2048 ≡ q = omega arith in
    ap (λ (l : List ℕ). number_at 2 l (2 * (q % 2048))) (first_page-table pages (q / 2048) row)
    ∙ owner_entries-entry pages (2048 * (q / 2048)) 2048 (q % 2048) short
    ∙ ap (first_owner pages) whole

-- ---- each has the length of a page
pub length-first_page : (pages p : ℕ) → length (first_page pages p) ≡ 4096
length-first_page pages p = ⊎_elim
    (λ (in_table : p < table_len pages). ap (λ (l : List ℕ). length l) (first_page-table pages p in_table) ∙ length-owner_entries pages (2048 * p) 2048)
    (λ (behind : table_len pages ≤ p). ⊎_elim
    (λ (above : table_len pages < p). ap (λ (l : List ℕ). length l) (first_page-free pages p above) ∙ length-free_page)
    (λ (last : p ≤ table_len pages). ap (λ (l : List ℕ). length l) (first_page-leaf pages p (omega arith)) ∙ length-empty_leaf)
    (cases_lt (table_len pages) p))
    (cases_lt p (table_len pages))
