-- What stands at a place in bytes, from what its parts say.
use Rattle.std.proofs.Common.{◌≡◌, sym, ap, ◌∙◌, ℕ, ◌+◌, ◌-◌, arith, add_assoc, List, ◌∷◌, ◌++◌, length, take, drop, Option, Some, ℤ, IsUtf8}
use Rattle.std.specs.Int.{to_be_bytes, cast_unsigned, w64}
use Rattle.std.proofs.lemmas.List.{take-append-drop}
use Rattle.std.proofs.Math.ListN.{length-drop}
use Rattle.std.proofs.Math.Seq.{drop-drop, take-length}
use Rattle.sb_value.specs.declared.value.Value.{Value}
use Rattle.sb_value.specs.declared.value.Value.TheVariants.{Int, Text}
use Rattle.sb_value.specs.Spelling.{value_spelling, IsStorable}

-- the bytes from a place on, by their first one and the others
pub tagged_at : (bytes : List ℕ) (at t tag : ℕ) (body : List ℕ) → take (length bytes - at) (drop at bytes) ≡ tag ∷ body → tag ≡ t → drop at bytes ≡ t ∷ body
tagged_at bytes at t tag body e h =
    let all : take (length bytes - at) (drop at bytes) ≡ drop at bytes = rw (← length-drop at bytes) (take-length (drop at bytes)) in
    sym all ∙ e ∙ ap (λ x. x ∷ body) h

-- behind a tag stands what is one place on
pub drop_behind : (bytes : List ℕ) (at n t : ℕ) (body : List ℕ) → drop at bytes ≡ t ∷ body → drop n body ≡ drop (at + (1 + n)) bytes
drop_behind bytes at n t body e =
    let one : drop 1 (drop at bytes) ≡ body = ap (drop 1) e in
    ap (drop n) (sym one ∙ drop-drop 1 at bytes) ∙ drop-drop n (at + 1) bytes ∙ ap (λ k. drop k bytes) (add_assoc at 1 n)

-- a tag 1 and a number's 8 bytes are the number's spelling
pub int_stands : (bytes : List ℕ) (at : ℕ) (body : List ℕ) (n : ℤ) → drop at bytes ≡ 1 ∷ body → take 8 body ≡ to_be_bytes w64 (cast_unsigned w64 n) → drop at bytes ≡ value_spelling (Int n) ++ drop (at + 9) bytes
int_stands bytes at body n e h = e ∙ ap (λ b. 1 ∷ b) (sym (take-append-drop 8 body) ∙ ap (λ b. b ++ drop 8 body) h ∙ ap (λ r. to_be_bytes w64 (cast_unsigned w64 n) ++ r) (drop_behind bytes at 8 1 body e))

-- a tag 2 and a text behind its length are the text's spelling
pub text_stands : (bytes : List ℕ) (at next : ℕ) (body s : List ℕ) → drop at bytes ≡ 2 ∷ body → body ≡ length s ∷ s ++ drop (length s + 1) body → next ≡ at + 2 + length s → drop at bytes ≡ value_spelling (Text s) ++ drop next bytes
text_stands bytes at next body s e h k =
    let place : at + (1 + (length s + 1)) ≡ next = omega arith in
    e ∙ ap (λ b. 2 ∷ b) (h ∙ ap (λ r. length s ∷ s ++ r) (drop_behind bytes at (length s + 1) 2 body e ∙ ap (λ i. drop i bytes) place))

-- behind a tag 2 no other value can stand than the text that was found
pub text_alone : (body text : List ℕ) (at next : ℕ) (v : Value) (rest : List ℕ) → ((s rest : List ℕ) → IsUtf8 s → body ≡ length s ∷ s ++ rest → ◌≡◌ {A = Option (List ℕ)} (Some text) (Some s)) → next ≡ at + 2 + length text → IsStorable v → 2 ∷ body ≡ value_spelling v ++ rest → ◌≡◌ {A = Option (Value × ℕ)} (Some (Text text, next)) (Some (v, at + length (value_spelling v)))
text_alone body text at next (Int n) rest only k h e = cc
text_alone body text at next (Text s) rest only k h e =
    let behind : body ≡ length s ∷ s ++ rest = cc in
    let same : text ≡ s = cc (only s rest h.0 behind) in
    let place : next ≡ at + length (value_spelling (Text s)) = omega (arith, ap (length {A = ℕ}) same) in
    ap (λ (p : Value × ℕ). Some p) (λ i. (Text (same i), place i))
