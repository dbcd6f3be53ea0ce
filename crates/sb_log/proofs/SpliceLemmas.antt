-- Two ranges of bytes that are written, in either order.
use Rattle.std.proofs.Common.{◌≡◌, ◌⊎◌, inl, inr, ⊎_elim, ℕ, ◌+◌, ◌-◌, ◌<◌, ◌≤◌, List, [], ◌∷◌, length, get_or, take, drop, sym, ◌∙◌, ap, subst, arith}
use Rattle.std.proofs.lemmas.List.{get_or-take, get_or-drop, ext_get_or}
use Rattle.std.proofs.lemmas.Bool.{cases_lt}
use Rattle.sb_bytes.specs.Bytes.{splice}
use Rattle.sb_bytes.proofs.BytesLaws.{slice-splice, length-splice}
use Rattle.sb_disk.specs.Moments.{Sure}
use Rattle.sb_disk.proofs.RangeLemmas.{splice-AgreesBut}

-- a place in a range, or off it
abbrev pub IsWithin : ℕ → ℕ → ℕ → Type 0
IsWithin i at n = (k : ℕ) × (i ≡ at + k) × (k < n)

abbrev pub IsOff : ℕ → ℕ → ℕ → Type 0
IsOff i at n = (i < at) ⊎ (at + n ≤ i)

pub within_or_off : (i at n : ℕ) → IsWithin i at n ⊎ IsOff i at n
within_or_off i at n = ⊎_elim (λ (lt : i < at). inr (inl lt))
    (λ (ge : at ≤ i). ⊎_elim (λ (lt : i < at + n). inl (i - at, omega arith, omega arith)) (λ (past : at + n ≤ i). inr (inr past)) (cases_lt i (at + n)))
    (cases_lt i at)

-- what stands off the range that was written, and in it
pub splice-off : (at : ℕ) (bytes old : List ℕ) (i : ℕ) → at + length bytes ≤ length old → IsOff i at (length bytes) → get_or (splice at bytes old) i 0 ≡ get_or old i 0
splice-off at bytes old i fits off = sym ((splice-AgreesBut at bytes old fits).bytes i (λ cov. ⊎_elim (λ (h : (at ≤ i) × (i < at + length bytes)). ⊎_elim (λ (lt : i < at). absurd (let a = h.0 in omega arith)) (λ (past : at + length bytes ≤ i). absurd (let b = h.1 in omega arith)) off) (λ none. none) cov))

pub splice-in : (at : ℕ) (bytes old : List ℕ) (i k : ℕ) → at ≤ length old → i ≡ at + k → k < length bytes → get_or (splice at bytes old) i 0 ≡ get_or bytes k 0
splice-in at bytes old i k fits is lt =
    ap (λ (j : ℕ). get_or (splice at bytes old) j 0) is
    ∙ sym (get_or-drop at (splice at bytes old) k 0)
    ∙ sym (get_or-take (length bytes) (drop at (splice at bytes old)) k 0 lt)
    ∙ ap (λ (l : List ℕ). get_or l k 0) (slice-splice at bytes old fits)

-- ranges that don't overlap are written in either order
pub splice-swap : (m : ℕ) (a : List ℕ) (n : ℕ) (b old : List ℕ) → m + length a ≤ length old → n + length b ≤ length old → (m + length a ≤ n) ⊎ (n + length b ≤ m)
    → splice m a (splice n b old) ≡ splice n b (splice m a old)
splice-swap m a n b old fits_a fits_b apart = ext_get_or 0 (splice m a (splice n b old)) (splice n b (splice m a old)) (size_l ∙ sym size_r) (λ i lt. each i)
  where
    size_b : length (splice n b old) ≡ length old
    size_b = length-splice n b old fits_b

    size_a : length (splice m a old) ≡ length old
    size_a = length-splice m a old fits_a

    fits_ab : m + length a ≤ length (splice n b old)
    fits_ab = omega (arith, size_b)

    fits_ba : n + length b ≤ length (splice m a old)
    fits_ba = omega (arith, size_a)

    size_l : length (splice m a (splice n b old)) ≡ length old
    size_l = length-splice m a (splice n b old) fits_ab ∙ size_b

    size_r : length (splice n b (splice m a old)) ≡ length old
    size_r = length-splice n b (splice m a old) fits_ba ∙ size_a

    in_a : (i : ℕ) → IsWithin i m (length a) → get_or (splice m a (splice n b old)) i 0 ≡ get_or (splice n b (splice m a old)) i 0
    in_a i w =
        let lt = w.2 in let is = w.1 in
        let off : IsOff i n (length b) = ⊎_elim (λ (l : m + length a ≤ n). inl (omega arith)) (λ (l : n + length b ≤ m). inr (omega arith)) apart in
        splice-in m a (splice n b old) i w.0 (omega (arith, fits_ab)) w.1 w.2 ∙ sym (splice-in m a old i w.0 (omega arith) w.1 w.2) ∙ sym (splice-off n b (splice m a old) i fits_ba off)

    off_a : (i : ℕ) → IsOff i m (length a) → get_or (splice m a (splice n b old)) i 0 ≡ get_or (splice n b (splice m a old)) i 0
    off_a i off = splice-off m a (splice n b old) i fits_ab off ∙ ⊎_elim
        (λ (w : IsWithin i n (length b)). splice-in n b old i w.0 (omega arith) w.1 w.2 ∙ sym (splice-in n b (splice m a old) i w.0 (omega (arith, fits_ba)) w.1 w.2))
        (λ (off_b : IsOff i n (length b)). splice-off n b old i fits_b off_b ∙ sym (splice-off m a old i fits_a off) ∙ sym (splice-off n b (splice m a old) i fits_ba off_b))
        (within_or_off i n (length b))

    each : (i : ℕ) → get_or (splice m a (splice n b old)) i 0 ≡ get_or (splice n b (splice m a old)) i 0
    each i = ⊎_elim (λ w. in_a i w) (λ off. off_a i off) (within_or_off i m (length a))

-- where what stood there is written back, all is as it was
pub splice-back : (m : ℕ) (a b old : List ℕ) → m + length a ≤ length old → length b ≡ length a → b ≡ take (length a) (drop m old) → splice m b (splice m a old) ≡ old
splice-back m a b old fits size was = ext_get_or 0 (splice m b (splice m a old)) old (length-splice m b (splice m a old) fits_b ∙ size_a) (λ i lt. ⊎_elim (λ w. here i w) (λ off. there i off) (within_or_off i m (length b)))
  where
    size_a : length (splice m a old) ≡ length old
    size_a = length-splice m a old fits

    fits_b : m + length b ≤ length (splice m a old)
    fits_b = omega (arith, size_a)

    here : (i : ℕ) → IsWithin i m (length b) → get_or (splice m b (splice m a old)) i 0 ≡ get_or old i 0
    here i w =
        let lt = w.2 in
        splice-in m b (splice m a old) i w.0 (omega (arith, fits_b)) w.1 w.2
        ∙ ap (λ (l : List ℕ). get_or l w.0 0) was
        ∙ get_or-take (length a) (drop m old) w.0 0 (omega arith)
        ∙ get_or-drop m old w.0 0
        ∙ ap (λ (j : ℕ). get_or old j 0) (sym w.1)

    there : (i : ℕ) → IsOff i m (length b) → get_or (splice m b (splice m a old)) i 0 ≡ get_or old i 0
    there i off =
        splice-off m b (splice m a old) i fits_b off
        ∙ splice-off m a old i fits (subst (λ (n : ℕ). IsOff i m n) size off)

-- none of these bytes is in a range that lies elsewhere
pub Sure-apart : (at count start len : ℕ) → (at + count ≤ start) ⊎ (start + len ≤ at) → Sure at count (record { start = start; len = len } ∷ [])
Sure-apart at count start len apart i from to covered =
    ⊎_elim (λ (here : (start ≤ i) × (i < start + len)). ⊎_elim (λ (before : at + count ≤ start). let low = here.0 in omega arith) (λ (behind : start + len ≤ at). let high = here.1 in omega arith) apart) (λ none. none) covered
