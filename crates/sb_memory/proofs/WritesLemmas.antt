-- Writes in a row, with what stood in their places.
use Rattle.std.proofs.Common.{◌≡◌, ℕ, suc, ◌+◌, ◌<◌, ◌==◌, Bool, true, false, cond, List, [], ◌∷◌, ◌++◌, length, take, drop, get_or, set, refl, sym, ap, subst, ◌∙◌, arith, eqb-true}
use Rattle.std.proofs.lemmas.List.{take_more_set, drop-set-lt, drop-set, set-get_or}
use Rattle.std.proofs.lemmas.List.Elements.{All-set, All-get_or}
use Rattle.sb_drive.specs.Slots.{Slot, Slots, IsPage, AreWhole, with_slot}
use Rattle.sb_memory.specs.Contents.{listed}
use Rattle.sb_memory.specs.Writes.{written, undone, pasts, AreAmong, ArePagesTo}
use Rattle.sb_memory.specs.declared.slots.Write.{Write}

pub undone-append : (xs ys : List Write) (s : Slots) → undone (xs ++ ys) s ≡ undone xs (undone ys s)
undone-append [] ys s = refl
undone-append (w ∷ xs) ys s = ap (with_slot w.number w.slot) (undone-append xs ys s)

pub no_writes : (ws : List Write) → length ws ≡ 0 → ws ≡ []
no_writes [] none = refl
no_writes (w ∷ ws) none = absurd (omega arith)

-- ---- what the pages were before each write
pub pasts-append : (xs ys : List Write) (s : Slots) → pasts (xs ++ ys) s ≡ pasts xs (undone ys s) ++ pasts ys s
pasts-append [] ys s = refl
pasts-append (w ∷ xs) ys s = λ i. listed (with_slot w.number w.slot (undone-append xs ys s i)) ∷ pasts-append xs ys s i

pub length-pasts : (ws : List Write) (s : Slots) → length (pasts ws s) ≡ length ws
length-pasts [] s = refl
length-pasts (w ∷ ws) s = ap suc (length-pasts ws s)

-- what stood there is written back
pub with_slot-back : (n : ℕ) (slot : Slot) (s : Slots) → with_slot n (s n) (with_slot n slot s) ≡ s
with_slot-back n slot s = λ i m. at m (n == m) refl i
  where
    at : (m : ℕ) (b : Bool) → n == m ≡ b → cond b (s n) (cond b slot (s m)) ≡ s m
    at m true same = ap s (eqb-true n m same)
    at m false other = refl

-- ---- one write more is made
-- what stands there then
abbrev pub taken : Write → Slots → Write
taken w s = record { number = w.number; slot = s w.number }

pub drop-item : (ws : List Write) (i : ℕ) (d : Write) → i < length ws → drop i ws ≡ get_or ws i d ∷ drop (i + 1) ws
drop-item ws i d within = ap (drop i) (sym (set-get_or ws i d)) ∙ drop-set ws i (get_or ws i d) within

pub written-more : (ws : List Write) (i : ℕ) (d new : Write) (s after : Slots) → i < length ws → after ≡ with_slot (get_or ws i d).number (get_or ws i d).slot s →
    written (drop (i + 1) (set ws i new)) after ≡ written (drop i ws) s
written-more ws i d new s after within made =
    ap (λ (xs : List Write). written xs after) (drop-set-lt (i + 1) ws i new (omega arith))
    ∙ ap (written (drop (i + 1) ws)) made
    ∙ ap (λ (xs : List Write). written xs s) (sym (drop-item ws i d within))

pub undone-more : (ws : List Write) (i : ℕ) (d new : Write) (s after : Slots) → i < length ws → after ≡ with_slot (get_or ws i d).number (get_or ws i d).slot s → new ≡ taken (get_or ws i d) s →
    undone (take (i + 1) (set ws i new)) after ≡ undone (take i ws) s
undone-more ws i d new s after within made back =
    let w = get_or ws i d in
    ap (λ (xs : List Write). undone xs after) (take_more_set ws i new within)
    ∙ undone-append (take i ws) (new ∷ []) after
    ∙ ap (undone (take i ws)) ((λ j. with_slot (back j).number (back j).slot (made j)) ∙ with_slot-back w.number w.slot s)

pub AreAmong-more : (most : ℕ) (ws : List Write) (i : ℕ) (d new : Write) (s : Slots) → i < length ws → new ≡ taken (get_or ws i d) s → AreAmong most ws → AreAmong most (set ws i new)
AreAmong-more most ws i d new s within back among =
    let old : (get_or ws i d).number < most = All-get_or (λ x. x.number < most) ws i d within among in
    let same : new.number ≡ (get_or ws i d).number = ap (λ (x : Write). x.number) back in
    All-set (λ x. x.number < most) ws i new (omega arith) among

-- and what stands in its place then is whole, or no page
pub ArePagesTo-more : (ws : List Write) (i : ℕ) (d new : Write) (s : Slots) → i < length ws → new ≡ taken (get_or ws i d) s → AreWhole s → ArePagesTo ws → ArePagesTo (set ws i new)
ArePagesTo-more ws i d new s within back whole pages =
    All-set (λ x. IsPage x.slot) ws i new (subst (λ (x : Write). IsPage x.slot) (sym back) (whole (get_or ws i d).number)) pages
