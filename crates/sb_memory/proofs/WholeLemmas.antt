-- Each page of a memory is whole, now and as it was.
use Rattle.std.proofs.Common.{◌≡◌, ℕ, zero, suc, ◌<◌, ◌≤◌, ◌==◌, Bool, true, false, cond, List, [], ◌∷◌, ◌++◌, length, refl, sym, ap, subst, ◌∙◌, arith, ne_eqb, All, Some, set}
use Rattle.std.proofs.lemmas.Bool.{cond-false}
use Rattle.std.proofs.lemmas.List.Elements.{All-nil, All-cons, All-append, All-replicate, All-weaker, All-head, All-tail, All-pop}
use Rattle.std.proofs.lemmas.List.{length-replicate, length-set}
use Rattle.sb_forms.specs.Pages.{ArePages, new_pages, zeros}
use Rattle.sb_memory.specs.declared.slots.Write.{Write}
use Rattle.sb_memory.specs.MemorySpaces.{HasPages}
use Rattle.sb_drive.specs.Slots.{Slot, Slots, IsPage, AreWhole, nobodys, bytes_for, owned, with_slot}
use Rattle.sb_memory.specs.Contents.{Contents, slots, pages_of, listed}
use Rattle.sb_memory.specs.Writes.{undone, AreAmong, ArePagesTo, IsMemory, pasts}
use Rattle.sb_drive.proofs.OwnedLemmas.{bytes_for-nobodys, bytes_for-other}
use Rattle.sb_memory.proofs.SlotsLemmas.{seen, slots-past, slots-seen, slots-listed, slots-set, slots-kept}
use Rattle.sb_drive.proofs.WholeLemmas.{bytes_for-whole}

pub IsPage-nobodys : IsPage nobodys
IsPage-nobodys some = absurd (some refl)

pub AreWhole-none : AreWhole (slots [])
AreWhole-none n = by n
  where
    by : (n : ℕ) → IsPage (slots [] n)
    by zero = IsPage-nobodys
    by (suc n) = IsPage-nobodys

-- ---- writes
pub AreWhole-with_slot : (n : ℕ) (slot : Slot) (s : Slots) → IsPage slot → AreWhole s → AreWhole (with_slot n slot s)
AreWhole-with_slot n slot s is whole m = by (n == m)
  where
    by : (b : Bool) → IsPage (cond b slot (s m))
    by true = is
    by false = whole m

pub AreWhole-undone : (ws : List Write) (s : Slots) → ArePagesTo ws → AreWhole s → AreWhole (undone ws s)
AreWhole-undone [] s all whole = whole
AreWhole-undone (w ∷ ws) s all whole =
    AreWhole-with_slot w.number w.slot (undone ws s) (All-head (λ x. IsPage x.slot) w ws all) (AreWhole-undone ws s (All-tail (λ x. IsPage x.slot) w ws all) whole)

pub ArePages-owned : (s : Slots) (owner : ℕ) → ((n : ℕ) → 16384 ≤ n → s n ≡ nobodys) → AreWhole s → ArePages (owned s owner)
ArePages-owned s owner past whole = record {
  below = λ n far. ap (bytes_for owner) (past n (omega (arith, far))) ∙ bytes_for-nobodys owner;
  whole = λ n some. bytes_for-whole owner (s n) (whole n) some;
}

-- ---- a memory of these pages, with these writes to be written back
undone-past : (ws : List Write) (s : Slots) (most n : ℕ) → AreAmong most ws → most ≤ n → undone ws s n ≡ s n
undone-past [] s most n among far = refl
undone-past (w ∷ ws) s most n among far =
    cond-false (w.number == n) w.slot (undone ws s n) (ne_eqb w.number n (λ same. omega (arith, All-head (λ x. x.number < most) w ws among)))
    ∙ undone-past ws s most n (All-tail (λ x. x.number < most) w ws among) far

pub ArePages-now : (pages : List Slot) (undo : List Write) (m : Contents) (owner : ℕ) → seen pages undo ≡ m → IsMemory pages undo → ArePages (pages_of m.now owner)
ArePages-now pages undo m owner view is =
    subst (λ (s : Slots). ArePages (owned s owner)) (sym (slots-seen pages undo m view is.most)) (ArePages-owned (slots pages) owner (λ n far. slots-past pages n (omega (arith, is.most))) is.now)

-- one of the lists that the pages were
ArePages-listed : (owner : ℕ) (t : Slots) → ((n : ℕ) → 16384 ≤ n → t n ≡ nobodys) → AreWhole t → ArePages (pages_of (listed t) owner)
ArePages-listed owner t past whole = subst (λ (s : Slots). ArePages (owned s owner)) (sym (slots-listed t past)) (ArePages-owned t owner past whole)

ArePages-pasts : (owner most : ℕ) (ws : List Write) (s : Slots) → AreAmong most ws → most ≤ 16384 → ((n : ℕ) → 16384 ≤ n → s n ≡ nobodys) → ArePagesTo ws → AreWhole s → All (λ pages. ArePages (pages_of pages owner)) (pasts ws s)
ArePages-pasts owner most [] s among few past pages whole = All-nil (λ (l : List Slot). ArePages (pages_of l owner))
ArePages-pasts owner most (w ∷ ws) s among few past pages whole =
    All-cons (λ (l : List Slot). ArePages (pages_of l owner)) (listed (undone (w ∷ ws) s)) (pasts ws s)
    (ArePages-listed owner (undone (w ∷ ws) s) (λ n far. undone-past (w ∷ ws) s most n among (omega (arith, few, far)) ∙ past n far) (AreWhole-undone (w ∷ ws) s pages whole))
    (ArePages-pasts owner most ws s (All-tail (λ x. x.number < most) w ws among) few past (All-tail (λ x. IsPage x.slot) w ws pages) whole)

pub ArePages-past : (pages : List Slot) (undo : List Write) (m : Contents) (owner : ℕ) → seen pages undo ≡ m → IsMemory pages undo → All (λ l. ArePages (pages_of l owner)) m.past
ArePages-past pages undo m owner view is =
    subst (λ (c : Contents). All (λ l. ArePages (pages_of l owner)) c.past) view
    (ArePages-pasts owner (length pages) undo (slots pages) is.among is.most (λ n far. slots-past pages n (omega (arith, far, is.most))) is.back is.now)

pub HasPages-now : (pages : List Slot) (undo : List Write) (m : Contents) → seen pages undo ≡ m → IsMemory pages undo → HasPages (slots m.now) m
HasPages-now pages undo m view is =
    subst (λ (s : Slots). HasPages s m) (sym same) (record {
      are = sym same;
      whole = is.now;
      few = λ n far. ap (λ (slot : Slot). slot.0) (slots-past pages n (omega (arith, is.most)));
    })
  where
    same : slots m.now ≡ slots pages
    same = slots-seen pages undo m view is.most

-- ---- what the calls of a memory leave
pub IsMemory-none : IsMemory [] []
IsMemory-none = record { most = omega arith; among = All-nil (λ w. w.number < 0); now = AreWhole-none; back = All-nil (λ w. IsPage w.slot) }

-- a page of zeros is whole
pub IsPage-zeros : (owner : ℕ) → IsPage (owner, zeros)
unfolding zeros
IsPage-zeros owner some = record { long = length-replicate {A = ℕ} 4096 0; small = All-replicate (λ b. b < 256) 4096 0 (omega arith) }

-- one page of zeros alone
pub IsMemory-root : (pages : List Slot) (undo : List Write) (owner : ℕ) → pages ≡ (owner, zeros) ∷ [] → undo ≡ [] → IsMemory pages undo
IsMemory-root pages undo owner is none = subst (λ (l : List Slot). IsMemory l undo) (sym is) (subst (IsMemory ((owner, zeros) ∷ [])) (sym none) (record {
  most = omega arith;
  among = All-nil (λ w. w.number < 1);
  now = whole;
  back = All-nil (λ w. IsPage w.slot);
}))
  where
    whole : (n : ℕ) → IsPage (slots ((owner, zeros) ∷ []) n)
    whole zero = IsPage-zeros owner
    whole (suc n) = AreWhole-none n

-- once the last write is written back
pub IsMemory-last : (pages : List Slot) (undo rest : List Write) (w : Write) → IsMemory pages undo → undo ≡ rest ++ w ∷ [] → IsMemory (set pages w.number w.slot) rest
IsMemory-last pages undo rest w is last =
    let among = All-pop (λ x. x.number < length pages) undo rest (Some w) last is.among in
    let back = All-pop (λ x. IsPage x.slot) undo rest (Some w) last is.back in
    let size = length-set pages w.number w.slot in
    record {
      most = omega (arith, size, is.most);
      among = subst (λ n. AreAmong n rest) (sym size) among.0;
      now = subst AreWhole (sym (slots-set pages w.number w.slot among.1)) (AreWhole-with_slot w.number w.slot (slots pages) back.1 is.now);
      back = back.0;
    }

-- once there is room for more pages
pub IsMemory-grown : (pages new : List Slot) (undo left : List Write) → IsMemory pages undo → slots new ≡ slots pages → length pages ≤ length new → length new ≤ 16384 → left ≡ undo → IsMemory new left
IsMemory-grown pages new undo left is same least most stays = subst (IsMemory new) (sym stays) (record {
  most = most;
  among = All-weaker (λ w. w.number < length pages) (λ w. w.number < length new) (λ w below. omega (arith, below, least)) undo is.among;
  now = subst AreWhole (sym same) is.now;
  back = is.back;
})

-- the page of a new instance
pub ArePagesTo-new : (ws : List Write) (n owner : ℕ) → ws ≡ record { number = n; slot = (owner, zeros) } ∷ [] → ArePagesTo ws
ArePagesTo-new ws n owner is =
    subst ArePagesTo (sym is) (All-cons (λ w. IsPage w.slot) (record { number = n; slot = (owner, zeros) }) [] (IsPage-zeros owner) (All-nil (λ w. IsPage w.slot)))

-- once writes are made, and what stood there is behind the others
pub IsMemory-written : (pages new : List Slot) (undo all back : List Write) → IsMemory pages undo → length pages ≤ length new → length new ≤ 16384 → AreWhole (slots new) → ArePagesTo back →
    all ≡ undo ++ back → AreAmong (length new) back → IsMemory new all
IsMemory-written pages new undo all back is least most whole stood both among = subst (IsMemory new) (sym both) (record {
  most = most;
  among = All-append (λ w. w.number < length new) undo back (All-weaker (λ w. w.number < length pages) (λ w. w.number < length new) (λ w below. omega (arith, below, least)) undo is.among) among;
  now = whole;
  back = All-append (λ w. IsPage w.slot) undo back is.back stood;
})

-- ---- a memory with one page of zeros
pub pages_of-root : (pages : List Slot) → pages ≡ (2, zeros) ∷ [] → pages_of (listed (slots pages)) 2 ≡ new_pages 0
pages_of-root pages is = ap (λ (l : List Slot). pages_of (listed (slots l)) 2) is ∙ ap (λ (s : Slots). owned s 2) (slots-kept ((2, zeros) ∷ []) (omega arith)) ∙ (λ i n. by n i)
  where
    by : (n : ℕ) → owned (slots ((2, zeros) ∷ [])) 2 n ≡ new_pages 0 n
    by zero = refl
    by (suc n) = sym (cond-false (suc n == 0) zeros [] (ne_eqb (suc n) 0 (λ is. omega (arith, is))))

pub pages_of-beside_root : (pages : List Slot) (o n : ℕ) → pages ≡ (2, zeros) ∷ [] → (o ≡ 2 → ⊥) → pages_of (listed (slots pages)) o n ≡ []
pages_of-beside_root pages o n is other = ap (λ (l : List Slot). pages_of (listed (slots l)) o n) is ∙ ap (λ (s : Slots). owned s o n) (slots-kept ((2, zeros) ∷ []) (omega arith)) ∙ by n
  where
    by : (n : ℕ) → owned (slots ((2, zeros) ∷ [])) o n ≡ []
    by zero = bytes_for-other o (2, zeros) (λ same. other (sym same))
    by (suc n) = bytes_for-nobodys o
