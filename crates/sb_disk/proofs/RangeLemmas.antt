-- Bytes that agree but for some ranges.
use Rattle.std.proofs.Common.{◌≡◌, inl, inr, ⊎_elim, ℕ, ◌+◌, ◌-◌, ◌<◌, ◌≤◌, List, [], ◌∷◌, ◌++◌, length, get_or, take, drop, refl, sym, ◌∙◌, ap, arith, length-append, length-drop}
use Rattle.std.proofs.lemmas.List.{length-take, get_or_append_left, get_or-append_right, get_or-take, get_or-drop, ext_get_or}
use Rattle.std.proofs.lemmas.Bool.{cases_lt}
use Rattle.sb_bytes.specs.Bytes.{splice}
use Rattle.sb_bytes.proofs.BytesLaws.{length-splice, splice_parts}
use Rattle.sb_disk.specs.Disk.{Range, Covered, AgreesBut}
use Rattle.sb_disk.specs.Moments.{Sure}

-- bytes that agree at each place of a range are the same there
pub same_slice : (at count : ℕ) (old new : List ℕ) → length old ≡ length new → ((i : ℕ) → at ≤ i → i < at + count → get_or old i 0 ≡ get_or new i 0)
    → take count (drop at old) ≡ take count (drop at new)
same_slice at count old new size same = ext_get_or 0 (take count (drop at old)) (take count (drop at new))
    (omega (arith, size, length-take count (drop at old), length-take count (drop at new), length-drop at old, length-drop at new))
    (λ i in_slice.
    let below : i < count = omega (arith, in_slice, length-take count (drop at old)) in
    get_or-take count (drop at old) i 0 below ∙ get_or-drop at old i 0 ∙ same (at + i) (omega arith) (omega arith)
    ∙ sym (get_or-drop at new i 0) ∙ sym (get_or-take count (drop at new) i 0 below))

-- a range of which no byte is in the ranges
pub AgreesBut-slice : (ranges : List Range) (old new : List ℕ) (at count : ℕ) → AgreesBut ranges old new → Sure at count ranges → take count (drop at old) ≡ take count (drop at new)
AgreesBut-slice ranges old new at count agrees sure = same_slice at count old new agrees.size (λ i from to. agrees.bytes i (sure i from to))

pub AgreesBut-byte : (ranges : List Range) (old new : List ℕ) (at count i : ℕ) → AgreesBut ranges old new → Sure at count ranges → at ≤ i → i < at + count → get_or old i 0 ≡ get_or new i 0
AgreesBut-byte ranges old new at count i agrees sure from to = agrees.bytes i (sure i from to)

-- where no byte may differ
pub AgreesBut-uncovered : (ranges : List Range) (old new : List ℕ) → ((i : ℕ) → ¬ Covered i ranges) → AgreesBut ranges old new → new ≡ old
AgreesBut-uncovered ranges old new none agrees = ext_get_or 0 new old (sym agrees.size) (λ i below. sym (agrees.bytes i (none i)))

pub AgreesBut-none : (old new : List ℕ) → AgreesBut [] old new → new ≡ old
AgreesBut-none old new agrees = AgreesBut-uncovered [] old new (λ i none. none) agrees

pub AgreesBut-same : (ranges : List Range) (bytes : List ℕ) → AgreesBut ranges bytes bytes
AgreesBut-same ranges bytes = record { size = refl; bytes = λ i out. refl }

-- two changes in the same ranges
pub AgreesBut-twice : (ranges : List Range) (old middle new : List ℕ) → AgreesBut ranges old middle → AgreesBut ranges middle new → AgreesBut ranges old new
AgreesBut-twice ranges old middle new first second = record { size = first.size ∙ second.size; bytes = λ i out. first.bytes i out ∙ second.bytes i out }

-- one range more
pub AgreesBut-more : (range : Range) (ranges : List Range) (old new : List ℕ) → AgreesBut ranges old new → AgreesBut (range ∷ ranges) old new
AgreesBut-more range ranges old new agrees = record { size = agrees.size; bytes = λ i out. agrees.bytes i (λ covered. out (inr covered)) }

-- a change in one range, and then one in this and others
pub AgreesBut-then : (range : Range) (ranges : List Range) (old middle new : List ℕ) → AgreesBut (range ∷ []) old middle → AgreesBut (range ∷ ranges) middle new → AgreesBut (range ∷ ranges) old new
AgreesBut-then range ranges old middle new first second = record {
  size = first.size ∙ second.size;
  bytes = λ i out. first.bytes i (λ covered. ⊎_elim (λ here. out (inl here)) (λ none. absurd none) covered) ∙ second.bytes i out;
}

-- ---- bytes written over others: elsewhere all is as it was
pub splice-AgreesBut : (at : ℕ) (bytes old : List ℕ) → at + length bytes ≤ length old → AgreesBut (record { start = at; len = length bytes } ∷ []) old (splice at bytes old)
splice-AgreesBut at bytes old fits = record {
  size = sym (length-splice at bytes old fits);
  bytes = λ i out. sym (elsewhere i (λ from to. out (inl (from, to))));
}
  where
    front : length (take at old) ≡ at
    front = omega (arith, length-take at old)

    front_and_bytes : length (take at old ++ bytes) ≡ at + length bytes
    front_and_bytes = omega (arith, front, length-append (take at old) bytes)

    below : (i : ℕ) → i < at → get_or (splice at bytes old) i 0 ≡ get_or old i 0
    below i in_front =
        ap (λ (l : List ℕ). get_or l i 0) (splice_parts at bytes old) ∙ get_or_append_left (take at old) (bytes ++ drop (at + length bytes) old) 0 i (omega (arith, front)) ∙ get_or-take at old i 0 in_front

    above : (i k : ℕ) → i ≡ at + length bytes + k → get_or (splice at bytes old) i 0 ≡ get_or old i 0
    above i k is =
        let behind : i - (at + length bytes) ≡ k = omega arith in
        get_or-append_right (take at old ++ bytes) (drop (at + length bytes) old) (at + length bytes) i 0 front_and_bytes (omega arith)
        ∙ ap (λ (j : ℕ). get_or (drop (at + length bytes) old) j 0) behind
        ∙ get_or-drop (at + length bytes) old k 0
        ∙ ap (λ (j : ℕ). get_or old j 0) (sym is)

    elsewhere : (i : ℕ) → (at ≤ i → i < at + length bytes → ⊥) → get_or (splice at bytes old) i 0 ≡ get_or old i 0
    elsewhere i out = ⊎_elim
        (λ in_front. below i in_front)
        (λ from. ⊎_elim (λ (to : i < at + length bytes). absurd (out from to)) (λ (behind : at + length bytes ≤ i). above i (i - (at + length bytes)) (omega arith)) (cases_lt i (at + length bytes)))
        (cases_lt i at)
