-- Ranges in which two pages differ.
use Rattle.std.proofs.Common.{◌≡◌, ◌≢◌, ℕ, suc, ◌+◌, ◌-◌, ◌<◌, ◌≤◌, List, [], ◌∷◌, ◌++◌, length, take, drop, slice_index_or, drop-drop, sym, ap, subst, ◌∙◌, arith}
use Rattle.std.proofs.lemmas.List.{take_more, length-take, length-drop, append_assoc, take-append-drop}
use Rattle.std.proofs.Math.Seq.{drop-cons}
use Rattle.sb_bytes.specs.Bytes.{splice}
use Rattle.sb_space.specs.Exact.{DiffersAtEnds}

-- one byte more is the same
pub take-further : (a b : List ℕ) (i : ℕ) → i < length a → length a ≡ length b → take i a ≡ take i b → slice_index_or a i 0 ≡ slice_index_or b i 0 → take (i + 1) a ≡ take (i + 1) b
take-further a b i less same front here =
    take_more a i 0 less ∙ (λ j. front j ++ here j ∷ []) ∙ sym (take_more b i 0 (omega (arith, less, same)))

pub drop-further : (a b : List ℕ) (i : ℕ) → 0 < i → i ≤ length a → length a ≡ length b → drop i a ≡ drop i b → slice_index_or a (i - 1) 0 ≡ slice_index_or b (i - 1) 0 → drop (i - 1) a ≡ drop (i - 1) b
drop-further a b i some within same rest here =
    let next : suc (i - 1) ≡ i = omega (arith, some) in
    drop-cons a (i - 1) 0 (omega (arith, some, within)) ∙ (λ j. here j ∷ (ap (λ (n : ℕ). drop n a) next ∙ rest ∙ ap (λ (n : ℕ). drop n b) (sym next)) j)
    ∙ sym (drop-cons b (i - 1) 0 (omega (arith, some, within, same)))

-- the range that differs, written over a page, makes the other one of it
pub splice-differing : (a b : List ℕ) (from to : ℕ) → from ≤ to → to ≤ length a → length a ≡ length b → take from a ≡ take from b → drop to a ≡ drop to b → splice from (take (to - from) (drop from b)) a ≡ b
splice-differing a b from to less within same front rest =
    let size : length (take (to - from) (drop from b)) ≡ to - from = omega (arith, less, within, same, length-take (to - from) (drop from b), length-drop from b) in
    let end : from + length (take (to - from) (drop from b)) ≡ to = omega (arith, size, less) in
    (λ i. front i ++ take (to - from) (drop from b) ++ (ap (λ (n : ℕ). drop n a) end ∙ rest) i)
    ∙ append_assoc (take from b) (take (to - from) (drop from b)) (drop to b)
    ∙ ap (λ (l : List ℕ). take from b ++ (take (to - from) (drop from b) ++ l)) (ap (λ (n : ℕ). drop n b) (sum from to less) ∙ sym (drop-drop (to - from) from b))
    ∙ ap (λ (l : List ℕ). take from b ++ l) (take-append-drop (to - from) (drop from b))
    ∙ take-append-drop from b
  where
    sum : (x y : ℕ) → x ≤ y → y ≡ x + (y - x)
    sum x y less = omega (arith, less)

-- where the ranges that are the same meet, the pages are
pub same-wholly : (a b : List ℕ) (from to : ℕ) → to ≤ from → take from a ≡ take from b → drop to a ≡ drop to b → a ≡ b
same-wholly a b from to most front rest =
    sym (take-append-drop from a) ∙ (λ i. front i ++ behind i) ∙ take-append-drop from b
  where
    sum : (x y : ℕ) → y ≤ x → x ≡ y + (x - y)
    sum x y most = omega (arith, most)

    behind : drop from a ≡ drop from b
    behind = ap (λ (n : ℕ). drop n a) (sum from to most) ∙ sym (drop-drop (from - to) to a) ∙ ap (drop (from - to)) rest ∙ drop-drop (from - to) to b ∙ ap (λ (n : ℕ). drop n b) (sym (sum from to most))

-- a page made another one by the range that differs, of which the one ends where they differ
pub DiffersAtEnds-range : (a b page piece : List ℕ) (from to : ℕ) → from < to → length piece ≡ to - from → a ≡ page → splice from piece page ≡ b → slice_index_or a from 0 ≢ slice_index_or b from 0
    → slice_index_or a (to - 1) 0 ≢ slice_index_or b (to - 1) 0 → DiffersAtEnds from (length piece) page (splice from piece page)
DiffersAtEnds-range a b page piece from to less size was is first last = record {
  some = omega (arith, size, less);
  first = λ same. first (ap (λ (l : List ℕ). slice_index_or l from 0) was ∙ same ∙ ap (λ (l : List ℕ). slice_index_or l from 0) is);
  last = λ same. last (ap (λ (l : List ℕ). slice_index_or l (to - 1) 0) was ∙ subst (λ (n : ℕ). slice_index_or page n 0 ≡ slice_index_or (splice from piece page) n 0) end same ∙ ap (λ (l : List ℕ). slice_index_or l (to - 1) 0) is);
}
  where
    end : from + (length piece - 1) ≡ to - 1
    end = omega (arith, size, less)
