-- Laws of bytes written over others: there are as many, and the new ones stand there.
use Rattle.std.proofs.Common.{◌≡◌, ℕ, ◌+◌, ◌≤◌, List, ◌++◌, length, take, drop, refl, ap, ◌∙◌, append_assoc, arith, length-append, length-drop}
use Rattle.std.proofs.lemmas.List.{length-take, take_at, drop_at}
use Rattle.sb_bytes.specs.Bytes.{splice}

pub length-splice : (at : ℕ) (bytes old : List ℕ) → at + length bytes ≤ length old → length (splice at bytes old) ≡ length old
length-splice at bytes old fits = omega (arith, length-append (take at old ++ bytes) (drop (at + length bytes) old), length-append (take at old) bytes, length-take at old, length-drop (at + length bytes) old)

pub splice_parts : (at : ℕ) (bytes old : List ℕ) → splice at bytes old ≡ take at old ++ (bytes ++ drop (at + length bytes) old)
splice_parts at bytes old = append_assoc (take at old) bytes (drop (at + length bytes) old)

pub slice-splice : (at : ℕ) (bytes old : List ℕ) → at ≤ length old → take (length bytes) (drop at (splice at bytes old)) ≡ bytes
slice-splice at bytes old fits =
    let front : length (take at old) ≡ at = omega (arith, length-take at old) in
    ap (λ (l : List ℕ). take (length bytes) (drop at l)) (splice_parts at bytes old)
    ∙ ap (λ (l : List ℕ). take (length bytes) l) (drop_at (take at old) (bytes ++ drop (at + length bytes) old) at front)
    ∙ take_at bytes (drop (at + length bytes) old) (length bytes) refl
