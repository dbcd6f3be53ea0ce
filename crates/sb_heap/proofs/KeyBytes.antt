-- Record keys and their bytes.
use Rattle.std.proofs.Common.{◌≡◌, ℕ, zero, suc, ◌+◌, ◌-◌, ◌^◌, ◌<◌, ◌≤◌, min, List, [], ◌∷◌, ◌++◌, length, take, drop, get_or, refl, ap, sym, ◌∙◌, arith, length-append, length-drop}
use Rattle.std.specs.Int.{bytes_high_first}
use Rattle.std.proofs.lemmas.List.{get_or-take, get_or_past, take-append-drop, take_all}
use Rattle.sb_bytes.specs.Field.{number_at}
use Rattle.sb_bytes.proofs.Digits.{AreDigits, bytes_high_first-big_from}
use Rattle.sb_node.proofs.Numbers.{number_at-same}
use Rattle.sb_heap.specs.Answered.{IsLowPage, IsPartedInto}
use Rattle.sb_heap.specs.Heap.{low_page}

digits_from : (xs : List ℕ) → ((i : ℕ) → get_or xs i 0 < 256) → AreDigits xs
digits_from [] each = tt
digits_from (x ∷ xs) each = (each 0, digits_from xs (λ i. each (suc i)))

-- bytes are those of the number in front, and what follows
front_bytes : (bytes : List ℕ) → 4 ≤ length bytes → AreDigits bytes → bytes_high_first 4 (number_at 4 bytes 0) ≡ take 4 bytes
unfolding number_at
front_bytes bytes long digits = bytes_high_first-big_from 4 bytes long digits

pub parted : (bytes : List ℕ) (page : ℕ) → ((i : ℕ) → get_or bytes i 0 < 256) → length bytes ≡ 6 → page ≡ number_at 4 bytes 0 → page < 2 ^ 32 → IsPartedInto bytes page (take (length bytes - 4) (drop 4 bytes))
parted bytes page each six is low =
    let behind : take (length bytes - 4) (drop 4 bytes) ≡ drop 4 bytes = take_all (length bytes - 4) (drop 4 bytes) (omega (arith, length-drop 4 bytes)) in
    record {
      six = six;
      page_is = is;
      page_low = low;
      key_is = sym (take-append-drop 4 bytes) ∙ (λ i. (sym (front_bytes bytes (omega (arith, six)) (digits_from bytes each)) ∙ ap (bytes_high_first 4) (sym is)) i ++ sym behind i);
      slot_long = ap length behind ∙ omega (arith, length-drop 4 bytes, six);
    }

-- the same of a low key, with zeros behind it
padded_at : (low : List ℕ) → ((i : ℕ) → get_or low i 0 < 256) → (i : ℕ) → get_or (low ++ 0 ∷ 0 ∷ 0 ∷ 0 ∷ []) i 0 < 256
padded_at [] each zero = omega arith
padded_at [] each (suc zero) = omega arith
padded_at [] each (suc (suc zero)) = omega arith
padded_at [] each (suc (suc (suc zero))) = omega arith
padded_at [] each (suc (suc (suc (suc i)))) = omega (arith, get_or_past {X = ℕ} [] i 0 (omega arith))
padded_at (x ∷ low) each zero = each 0
padded_at (x ∷ low) each (suc i) = padded_at low (λ j. each (suc j)) i

-- the first bytes, and zeros where there are fewer
pub front_padded : (low : List ℕ) → take (min (length low) 4) low ++ drop (min (length low) 4) (0 ∷ 0 ∷ 0 ∷ 0 ∷ []) ≡ take 4 (low ++ 0 ∷ 0 ∷ 0 ∷ 0 ∷ [])
front_padded [] = refl
front_padded (a ∷ []) = refl
front_padded (a ∷ b ∷ []) = refl
front_padded (a ∷ b ∷ c ∷ []) = refl
front_padded (a ∷ b ∷ c ∷ d ∷ low) =
    let four : min (length (a ∷ b ∷ c ∷ d ∷ low)) 4 ≡ 4 = omega arith in
    ap (λ m. take m (a ∷ b ∷ c ∷ d ∷ low) ++ drop m (0 ∷ 0 ∷ 0 ∷ 0 ∷ [])) four

pub low_page_is : (low front : List ℕ) (page : ℕ) → ((i : ℕ) → get_or low i 0 < 256) → front ≡ take 4 (low ++ 0 ∷ 0 ∷ 0 ∷ 0 ∷ []) → page ≡ number_at 4 front 0 → page < 2 ^ 32 → IsLowPage low page
low_page_is low front page each front_is is below =
    let long : 4 ≤ length (low ++ 0 ∷ 0 ∷ 0 ∷ 0 ∷ []) = omega (arith, length-append low (0 ∷ 0 ∷ 0 ∷ 0 ∷ [])) in
    let same : page ≡ low_page low = is ∙ number_at-same 4 0 0 (low ++ 0 ∷ 0 ∷ 0 ∷ 0 ∷ []) front (λ k less. ap (λ (l : List ℕ). get_or l (0 + k) 0) front_is ∙ get_or-take 4 (low ++ 0 ∷ 0 ∷ 0 ∷ 0 ∷ []) (0 + k) 0 (omega (arith, less))) in
    record {
      page_is = same;
      page_low = below;
      front = ap (bytes_high_first 4) same ∙ front_bytes (low ++ 0 ∷ 0 ∷ 0 ∷ 0 ∷ []) long (digits_from (low ++ 0 ∷ 0 ∷ 0 ∷ 0 ∷ []) (padded_at low each));
    }
