-- Owners against bounds that are held aside for them.
use Rattle.std.proofs.Common.{◌≡◌, ℕ, ◌≤◌, List, [], ◌∷◌, ◌++◌, All, sum, refl, ap, arith}
use Rattle.std.proofs.lemmas.List.Elements.{All-head, All-tail}
use Rattle.std.proofs.lemmas.List.Sums.{sum_by-append, sum_by-cons}
use Rattle.sb_forms.specs.Pages.{Pages, page_count}
use Rattle.sb_drive.specs.Slots.{Slots, owned}
use Rattle.sb_weights.specs.Measures.{AreHeld, IsMeasure, IsWithin, measured}
use Rattle.sb_weights.specs.Owned.{pages_of}

pub is_measure_itself : IsMeasure (λ n. n)
is_measure_itself = record { none = refl; rises = λ a b less. less }

-- their pages together
pub held_pages : (s : Slots) (owners bounds : List ℕ) → AreHeld s owners bounds → pages_of s owners ≤ sum bounds
held_pages s owners bounds held = held (λ n. n) is_measure_itself

-- the same pages come to the same
pub measured-same : (f : ℕ → ℕ) (s t : Slots) (owners : List ℕ) → All (λ o. owned t o ≡ owned s o) owners → measured f t owners ≡ measured f s owners
measured-same f s t [] same = refl
measured-same f s t (o ∷ owners) same =
    omega (
      arith,
      ap (λ (P : Pages). f (page_count P)) (All-head (λ x. owned t x ≡ owned s x) o owners same),
      measured-same f s t owners (All-tail (λ x. owned t x ≡ owned s x) o owners same),
      sum_by-cons (λ x. f (page_count (owned t x))) o owners,
      sum_by-cons (λ x. f (page_count (owned s x))) o owners,
    )

pub held-same : (s t : Slots) (owners bounds : List ℕ) → All (λ o. owned t o ≡ owned s o) owners → AreHeld s owners bounds → AreHeld t owners bounds
held-same s t owners bounds same held f is = omega (arith, measured-same f s t owners same, held f is)

-- ---- bounds
pub held_within : (s : Slots) (owners few more : List ℕ) → IsWithin few more → AreHeld s owners few → AreHeld s owners more
held_within s owners few more within held f is = omega (arith, held f is, within f is)

pub within_itself : (bounds : List ℕ) → IsWithin bounds bounds
within_itself bounds f is = omega arith

-- those of two lists of owners
pub held-append : (s : Slots) (front back few more : List ℕ) → AreHeld s front few → AreHeld s back more → AreHeld s (front ++ back) (few ++ more)
held-append s front back few more first second f is =
    omega (arith, first f is, second f is, sum_by-append (λ o. f (page_count (owned s o))) front back, sum_by-append f few more)

-- owners with the same pages by each measure
pub held-alike : (s t : Slots) (owners bounds : List ℕ) → ((f : ℕ → ℕ) → measured f t owners ≡ measured f s owners) → AreHeld s owners bounds → AreHeld t owners bounds
held-alike s t owners bounds same held f is = omega (arith, same f, held f is)
