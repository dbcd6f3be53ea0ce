-- What the pages of a memory were and are, in a row.
use Rattle.std.proofs.Common.{◌≡◌, ℕ, ◌+◌, ◌<◌, ◌≤◌, List, [], ◌∷◌, ◌++◌, length, take, get_or, set, refl, sym, ap, subst, ◌∙◌, arith, append_assoc, length-append}
use Rattle.sb_drive.specs.Slots.{Slot, Slots}
use Rattle.sb_memory.specs.Contents.{Contents, Grows, Keeps, listed, slots, stack, was_at}
use Rattle.sb_memory.specs.MemorySpaces.{Grows-same, IsChanged}
use Rattle.sb_memory.specs.Writes.{undone, pasts}
use Rattle.sb_memory.specs.declared.slots.Write.{Write}
use Rattle.sb_memory.proofs.SlotsLemmas.{seen, slots-set}
use Rattle.sb_memory.proofs.WritesLemmas.{pasts-append}

pub Grows-from : (old new : Contents) → new ≡ old → Grows old new
Grows-from old new same = subst (Grows old) (sym same) (Grows-same old)

pub Keeps-from : (owner : ℕ) (old new : Contents) → new ≡ old → Keeps owner old new
Keeps-from owner old new same = subst (Keeps owner old) (sym same) (record { others = λ o other. refl; grows = Grows-same old })

-- ---- writes are made
-- the pages before some writes come first
first-stood : (back : List Write) (t : Slots) → (more : List (List Slot)) × (pasts back t ++ listed t ∷ [] ≡ listed (undone back t) ∷ more)
first-stood [] t = ([], refl)
first-stood (w ∷ ws) t = (pasts ws t ++ listed t ∷ [], refl)

pub Grows-written : (pages new : List Slot) (undo back all : List Write) → all ≡ undo ++ back → undone back (slots new) ≡ slots pages → Grows (seen pages undo) (seen new all)
Grows-written pages new undo back all both stood =
    let s = slots pages in
    let t = slots new in
    let first = first-stood back t in
    let more = first.0 in (
      more,
      ap (λ (ws : List Write). pasts ws t ++ listed t ∷ []) both
          ∙ ap (λ (l : List (List Slot)). l ++ listed t ∷ []) (pasts-append undo back t ∙ ap (λ (x : Slots). pasts undo x ++ pasts back t) stood)
          ∙ append_assoc (pasts undo s) (pasts back t) (listed t ∷ [])
          ∙ ap (λ (l : List (List Slot)). pasts undo s ++ l) (first.1 ∙ ap (λ (x : Slots). listed x ∷ more) stood)
          ∙ sym (append_assoc (pasts undo s) (listed s ∷ []) more),
    )

-- where none are made
pub seen-same : (pages new : List Slot) (undo all : List Write) (m : Contents) → seen pages undo ≡ m → slots new ≡ slots pages → all ≡ undo → seen new all ≡ m
seen-same pages new undo all m view same stays = (λ i. seen_of (same i) (stays i)) ∙ view
  where
    seen_of : Slots → List Write → Contents
    seen_of s ws = record { now = listed s; past = pasts ws s }

-- ---- the last one is written back
pub stack-last : (pages : List Slot) (undo rest : List Write) (w : Write) → undo ≡ rest ++ w ∷ [] → w.number < length pages → stack (seen pages undo) ≡ stack (seen (set pages w.number w.slot) rest) ++ listed (slots pages) ∷ []
stack-last pages undo rest w last within =
    let s = slots pages in
    ap (λ (l : List (List Slot)). l ++ listed s ∷ [])
    (ap (λ (ws : List Write). pasts ws s) last
    ∙ pasts-append rest (w ∷ []) s
    ∙ ap (λ (x : Slots). pasts rest x ++ listed x ∷ []) (sym (slots-set pages w.number w.slot within)))

-- ---- going back
pub length-stack : (m : Contents) → length (stack m) ≡ length m.past + 1
length-stack m = length-append m.past (m.now ∷ [])

take-front : (xs ys : List (List Slot)) (n : ℕ) → n ≡ length xs → take n (xs ++ ys) ≡ xs
take-front [] ys n is = ap (λ k. take k ys) is
take-front (x ∷ xs) ys n is = ap (λ k. take k (x ∷ xs ++ ys)) is ∙ ap (λ l. x ∷ l) (take-front xs ys (length xs) refl)

-- what stands behind it is let go
pub stack-taken : (old new : Contents) (writes : ℕ) → Grows new old → length new.past ≡ writes → stack new ≡ take (writes + 1) (stack old)
stack-taken old new writes grows is =
    sym (ap (take (writes + 1)) grows.1 ∙ take-front (stack new) grows.0 (writes + 1) (omega (arith, length-stack new, is)))

get-last : (xs : List (List Slot)) (x d : List Slot) (ys : List (List Slot)) (n : ℕ) → n ≡ length xs → get_or ((xs ++ x ∷ []) ++ ys) n d ≡ x
get-last [] x d ys n is = ap (λ k. get_or (x ∷ ys) k d) is
get-last (y ∷ xs) x d ys n is = ap (λ k. get_or (y ∷ (xs ++ x ∷ []) ++ ys) k d) is ∙ get-last xs x d ys (length xs) refl

pub now-taken : (old new : Contents) (writes : ℕ) → Grows new old → length new.past ≡ writes → new.now ≡ was_at writes old
now-taken old new writes grows is = sym (ap (λ (l : List (List Slot)). get_or l writes []) grows.1 ∙ get-last new.past new.now [] grows.0 writes (sym is))

-- the memory is known by its row
heads : (x y : List Slot) (xs ys : List (List Slot)) → ◌≡◌ {A = List (List Slot)} (x ∷ xs) (y ∷ ys) → (x ≡ y) × (xs ≡ ys)
heads x y xs ys same = (cc, cc)

stack-known : (xs ys : List (List Slot)) (x y : List Slot) → xs ++ x ∷ [] ≡ ys ++ y ∷ [] → (xs ≡ ys) × (x ≡ y)
stack-known [] [] x y same = (refl, (heads x y [] [] same).0)
stack-known [] (z ∷ zs) x y same = absurd (empty zs y ((heads x z [] (zs ++ y ∷ []) same).1))
  where
    empty : (l : List (List Slot)) (e : List Slot) → [] ≡ l ++ e ∷ [] → ⊥
    empty [] e is = cc
    empty (a ∷ l) e is = cc
stack-known (z ∷ zs) [] x y same = absurd (empty zs x ((heads z y (zs ++ x ∷ []) [] same).1))
  where
    empty : (l : List (List Slot)) (e : List Slot) → l ++ e ∷ [] ≡ [] → ⊥
    empty [] e is = cc
    empty (a ∷ l) e is = cc
stack-known (a ∷ xs) (b ∷ ys) x y same =
    let split = heads a b (xs ++ x ∷ []) (ys ++ y ∷ []) same in
    let rest = stack-known xs ys x y split.1 in
    ((λ i. split.0 i ∷ rest.0 i), rest.1)

pub goes_back : (k : ℕ) (a b c : Contents) → IsChanged k a b → stack c ≡ take (length a.past + 1) (stack b) → c ≡ a
goes_back k a b c changed back =
    let same : stack c ≡ stack a = back ∙ ap (take (length a.past + 1)) changed.grows.1 ∙ take-front (stack a) changed.grows.0 (length a.past + 1) (omega (arith, length-stack a)) in
    let parts = stack-known c.past a.past c.now a.now same in
    λ i. record { now = parts.1 i; past = parts.0 i }

pub keeps_writes : (k : ℕ) (a b : Contents) → IsChanged k a b → length a.past ≤ length b.past
keeps_writes k a b changed =
    omega (arith, length-stack a, length-stack b, ap (λ (l : List (List Slot)). length l) changed.grows.1, length-append (stack a) changed.grows.0)
