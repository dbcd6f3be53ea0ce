-- Pages in a list, as a function of their numbers.
use Rattle.std.proofs.Common.{◌≡◌, ◌≢◌, ◌↔◌, IsTrue, ◌||◌, ℕ, zero, suc, ◌<◌, ◌≤◌, ◌==◌, nat_lt, Bool, true, false, cond, List, [], ◌∷◌, ◌++◌, length, map, get_or, set, refl, sym, ap, ◌∙◌, arith, eqb-true, eq-eqb}
use Rattle.std.specs.List.{range_with_len, list_any}
use Rattle.std.proofs.lemmas.List.Folds.{list_any_at}
use Rattle.std.proofs.lemmas.Bool.Decides.{nat_tests}
use Rattle.std.proofs.lemmas.Grind.{get_or-set_at}
use Rattle.std.proofs.lemmas.List.{get_or_past, get_or-set_other}
use Rattle.std.proofs.lemmas.List.FromFn.{get_or-map-range_with_len, length-map-range_with_len}
use Rattle.sb_drive.specs.Slots.{Slot, Slots, nobodys, bytes_for, with_slot}
use Rattle.sb_memory.specs.Contents.{Contents, slots, listed, pages_of}
use Rattle.sb_memory.specs.Writes.{pasts}
use Rattle.sb_memory.specs.declared.slots.Write.{Write}
use Rattle.sb_drive.proofs.OwnedLemmas.{bytes_for-nobodys}

-- behind the end
pub slots-past : (pages : List Slot) (n : ℕ) → length pages ≤ n → slots pages n ≡ nobodys
slots-past pages n past = get_or_past pages n nobodys past

-- a page more that is nobody's
pub slots-push : (pages : List Slot) → slots (pages ++ nobodys ∷ []) ≡ slots pages
slots-push pages = λ i n. at pages n i
  where
    at : (pages : List Slot) (n : ℕ) → get_or (pages ++ nobodys ∷ []) n nobodys ≡ get_or pages n nobodys
    at [] zero = refl
    at [] (suc n) = refl
    at (p ∷ ps) zero = refl
    at (p ∷ ps) (suc n) = at ps n

-- one page is another one
pub slots-set : (pages : List Slot) (k : ℕ) (slot : Slot) → k < length pages → slots (set pages k slot) ≡ with_slot k slot (slots pages)
slots-set pages k slot within = λ i n. at n (k == n) refl i
  where
    at : (n : ℕ) (b : Bool) → k == n ≡ b → get_or (set pages k slot) n nobodys ≡ cond b slot (get_or pages n nobodys)
    at n true same = get_or-set_at pages k n slot nobodys (sym (eqb-true k n same)) within
    at n false other = get_or-set_other pages k n slot nobodys (grind (arith, nat_tests))

-- the list of the first pages, where the others are nobody's
pub slots-listed : (s : Slots) → ((n : ℕ) → 16384 ≤ n → s n ≡ nobodys) → slots (listed s) ≡ s
unfolding listed
slots-listed s past = λ i n. at 16384 past n (nat_lt n 16384) refl i
  where
    at : (most : ℕ) → ((n : ℕ) → most ≤ n → s n ≡ nobodys) → (n : ℕ) (b : Bool) → nat_lt n most ≡ b → get_or (map s (range_with_len 0 most)) n nobodys ≡ s n
    at most past n true is = get_or-map-range_with_len s 0 most n n nobodys (grind (arith, nat_tests)) (omega arith)
    at most past n false is = let beyond : most ≤ n = grind (arith, nat_tests) in get_or_past (map s (range_with_len 0 most)) n nobodys (omega (arith, length-map-range_with_len s 0 most)) ∙ sym (past n beyond)

pub slots-kept : (pages : List Slot) → length pages ≤ 16384 → slots (listed (slots pages)) ≡ slots pages
slots-kept pages most = slots-listed (slots pages) (λ n beyond. slots-past pages n (omega arith))

-- ---- a memory of these pages, with these writes to be written back
abbrev pub seen : List Slot → List Write → Contents
seen pages undo = record { now = listed (slots pages); past = pasts undo (slots pages) }

pub slots-seen : (pages : List Slot) (undo : List Write) (m : Contents) → seen pages undo ≡ m → length pages ≤ 16384 → slots m.now ≡ slots pages
slots-seen pages undo m is most = ap (λ (c : Contents). slots c.now) (sym is) ∙ slots-kept pages most

pub slot-seen : (pages : List Slot) (undo : List Write) (m : Contents) (n : ℕ) (slot : Slot) → seen pages undo ≡ m → length pages ≤ 16384 → slot ≡ slots pages n → slot ≡ slots m.now n
slot-seen pages undo m n slot is most there = there ∙ sym (ap (λ (s : Slots). s n) (slots-seen pages undo m is most))

pub pages_of-past : (pages : List Slot) (undo : List Write) (m : Contents) (owner n : ℕ) → seen pages undo ≡ m → length pages ≤ 16384 → length pages ≤ n → pages_of m.now owner n ≡ []
pages_of-past pages undo m owner n is most past =
    ap (bytes_for owner) (sym (slot-seen pages undo m n nobodys is most (sym (slots-past pages n past)))) ∙ bytes_for-nobodys owner

-- ---- whether some page is an owner's
owner_there : (pages : List Slot) (owner : ℕ) → list_any (λ slot. slot.0 == owner) pages ≡ true → (n : ℕ) × ((slots pages n).0 ≡ owner)
owner_there [] owner is = cc
owner_there (p ∷ pages) owner is =
    elim (p.0 == owner) as (λ b. p.0 == owner ≡ b → (b || list_any (λ slot. slot.0 == owner) pages) ≡ true → (n : ℕ) × ((slots (p ∷ pages) n).0 ≡ owner)) [
      | true ↦ λ same here. (0, eqb-true p.0 owner same)
      | false ↦ λ other later. let rest = owner_there pages owner later in (suc rest.0, rest.1)
    ] refl is

there_owner : (pages : List Slot) (owner n : ℕ) → owner ≢ 0 → (slots pages n).0 ≡ owner → list_any (λ slot. slot.0 == owner) pages ≡ true
there_owner pages owner n somebody is = by (nat_lt n (length pages)) refl
  where
    by : (b : Bool) → nat_lt n (length pages) ≡ b → list_any (λ slot. slot.0 == owner) pages ≡ true
    by true within = list_any_at (λ slot. slot.0 == owner) pages n nobodys (grind (arith, nat_tests)) (eq-eqb (slots pages n).0 owner is)
    by false past = absurd (somebody (sym is ∙ ap (λ (slot : Slot). slot.0) (slots-past pages n (grind (arith, nat_tests)))))

pub owner-there : (pages : List Slot) (s : Slots) (owner : ℕ) (b : Bool) → owner ≢ 0 → s ≡ slots pages → b ≡ list_any (λ slot. slot.0 == owner) pages → IsTrue b ↔ (n : ℕ) × ((s n).0 ≡ owner)
owner-there pages s owner b somebody same is = (
  λ so. let there = owner_there pages owner (sym is ∙ so) in (there.0, ap (λ (f : Slots). (f there.0).0) same ∙ there.1),
  λ there. is ∙ there_owner pages owner there.0 somebody (sym (ap (λ (f : Slots). (f there.0).0) same) ∙ there.1),
)
