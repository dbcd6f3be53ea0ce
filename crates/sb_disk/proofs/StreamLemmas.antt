-- Bytes taken and given in several calls.
use Rattle.std.proofs.Common.{◌≡◌, ℕ, Option, Some, None, List, [], ◌++◌, take, drop, refl, sym, ◌∙◌, ap, append_assoc}
use Rattle.std.proofs.lemmas.List.{append-nil, take-append-drop}
use Rattle.sb_disk.specs.Streams.{Taken, Given, Took, Held}

-- ---- a source
pub Taken-none : (left : Option (List ℕ)) → Taken left left []
Taken-none None = refl
Taken-none (Some left) = record { rest = left; stays = refl; whole = refl }

pub Taken-more : (a b c : Option (List ℕ)) (xs ys : List ℕ) → Taken a b xs → Taken b c ys → Taken a c (xs ++ ys)
Taken-more None b c xs ys first second = none b first second
  where
    none : (b : Option (List ℕ)) → b ≡ None → Taken b c ys → c ≡ None
    none None is now = now
    none (Some left) is now = absurd (cc is)
Taken-more (Some left) None c xs ys first second = absurd (let e = first.stays in cc)
Taken-more (Some left) (Some middle) c xs ys first second =
    let same : middle ≡ first.rest = (let e = first.stays in cc) in
    record { rest = second.rest; stays = second.stays; whole = first.whole ∙ ap (λ (l : List ℕ). xs ++ l) (sym same ∙ second.whole) ∙ sym (append_assoc xs ys second.rest) }

-- a call that took some bytes
pub Taken-took : (a b : Option (List ℕ)) (count : ℕ) (buffer : List ℕ) → Took a b count buffer → Taken a b (take count buffer)
Taken-took None b count buffer took = took
Taken-took (Some left) b count buffer took = record { rest = drop count left; stays = took.rest; whole = sym (take-append-drop count left) ∙ ap (λ (l : List ℕ). l ++ drop count left) (sym took.front) }

-- ---- a sink
pub Given-none : (held : Option (List ℕ)) → Given held held []
Given-none None = refl
Given-none (Some held) = ap (λ (l : List ℕ). Some l) (sym (append-nil held))

pub Given-more : (a b c : Option (List ℕ)) (xs ys : List ℕ) → Given a b xs → Given b c ys → Given a c (xs ++ ys)
Given-more None b c xs ys first second = none b first second
  where
    none : (b : Option (List ℕ)) → b ≡ None → Given b c ys → c ≡ None
    none None is now = now
    none (Some held) is now = absurd (cc is)
Given-more (Some held) None c xs ys first second = absurd (cc first)
Given-more (Some held) (Some middle) c xs ys first second =
    let same : middle ≡ held ++ xs = (let e = first in cc) in
    second ∙ ap (λ (l : List ℕ). Some (l ++ ys)) same ∙ ap (λ (l : List ℕ). Some l) (append_assoc held xs ys)

-- a call that gave some bytes
pub Given-held : (a b : Option (List ℕ)) (count : ℕ) (piece : List ℕ) → Held a b count piece → Given a b (take count piece)
Given-held None b count piece held = held
Given-held (Some old) b count piece held = held
