-- Bytes of which a sink has taken a front.
use Rattle.std.proofs.Common.{◌≡◌, ℕ, ◌<◌, Option, List, [], ◌∷◌, ◌++◌, length, take, drop, refl, sym, ◌∙◌, ap, subst, arith, append_assoc}
use Rattle.std.proofs.lemmas.List.{append-nil, take-append-drop}
use Rattle.sb_disk.specs.Streams.{Given, Held}
use Rattle.sb_disk.proofs.StreamLemmas.{Given-none, Given-more, Given-held}
use Rattle.sb_kernel.specs.Ending.{BreaksOff}
use Rattle.sb_kernel.specs.Writing.{GivenFront}

-- the bytes before the rest were given
pub record Partly (old new : Option (List ℕ)) (bytes rest : List ℕ) : Type 0 where
  pub written : List ℕ
  pub is_written : Given old new written
  pub whole : bytes ≡ written ++ rest

pub Partly-none : (old : Option (List ℕ)) (bytes : List ℕ) → Partly old old bytes bytes
Partly-none old bytes = record { written = []; is_written = Given-none old; whole = refl }

pub Partly-more : (old middle new : Option (List ℕ)) (bytes rest : List ℕ) (count : ℕ) → Partly old middle bytes rest → Held middle new count rest → Partly old new bytes (drop count rest)
Partly-more old middle new bytes rest count partly held = record {
  written = partly.written ++ take count rest;
  is_written = Given-more old middle new partly.written (take count rest) partly.is_written (Given-held middle new count rest held);
  whole = partly.whole ∙ ap (λ (l : List ℕ). partly.written ++ l) (sym (take-append-drop count rest)) ∙ sym (append_assoc partly.written (take count rest) (drop count rest));
}

pub Given-partly : (old new : Option (List ℕ)) (bytes rest : List ℕ) → Partly old new bytes rest → rest ≡ [] → Given old new bytes
Given-partly old new bytes rest partly none =
    subst (λ (l : List ℕ). Given old new l) (sym (partly.whole ∙ ap (λ (l : List ℕ). partly.written ++ l) none ∙ append-nil partly.written)) partly.is_written

breaks_off : (text bytes rest : List ℕ) → 0 < length rest → text ≡ bytes ++ rest → BreaksOff bytes text
breaks_off text bytes [] some whole = absurd (omega (arith, some))
breaks_off text bytes (next ∷ others) some whole = record { next = next; others = others; whole = whole }

pub GivenFront-partly : (old middle new : Option (List ℕ)) (bytes rest : List ℕ) → Partly old middle bytes rest → 0 < length rest → new ≡ middle → GivenFront old new bytes
GivenFront-partly old middle new bytes rest partly some stays = record {
  written = partly.written;
  is_written = subst (λ (h : Option (List ℕ)). Given old h partly.written) (sym stays) partly.is_written;
  front = breaks_off bytes partly.written rest some partly.whole;
}
