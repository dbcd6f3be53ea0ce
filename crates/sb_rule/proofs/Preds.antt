-- Predicates and numbers at the front of some bytes.
use Rattle.std.proofs.Common.{◌≡◌, ℕ, ◌<◌, List, ◌++◌, length, take, drop, ℤ, refl, sym, ap, ◌∙◌, length-append, zero-add, arith}
use Rattle.std.specs.Int.{to_be_bytes, cast_unsigned, w64}
use Rattle.std.proofs.lemmas.List.{take-append-drop, drop_at}
use Rattle.sb_pred.specs.Tree.{Tree}
use Rattle.sb_pred.specs.Spelling.{pred_spelling, SpellsPred}
use Rattle.sb_pred.specs.Reading.{IsSmall}
use Rattle.sb_rule.specs.Spelling.{number_spelling}
use Rattle.sb_rule.proofs.Fronts.{length-number}

-- a predicate that begins some bytes is spelled from their first place on
pub standing : (bytes rest : List ℕ) (p : Tree) → IsSmall 32 p → bytes ≡ pred_spelling p ++ rest → SpellsPred bytes 0 (length (pred_spelling p)) p
standing bytes rest p f e =
    let behind : drop (length (pred_spelling p)) bytes ≡ rest =
    ap (drop (length (pred_spelling p))) e ∙ drop_at (pred_spelling p) rest (length (pred_spelling p)) refl in
    record {
      spelled = e ∙ ap (λ b. pred_spelling p ++ b) (sym behind);
      ends = sym (zero-add (length (pred_spelling p)));
      storable = f.0;
      small = f.1;
    }

-- the first 8 bytes are a number's, and the others stand behind it
pub number_found : (bytes : List ℕ) (n : ℤ) → take 8 bytes ≡ to_be_bytes w64 (cast_unsigned w64 n) → bytes ≡ number_spelling n ++ drop 8 bytes
unfolding number_spelling
number_found bytes n e = sym (take-append-drop 8 bytes) ∙ ap (λ b. b ++ drop 8 bytes) e

-- no number stands in fewer than 8 bytes
pub too_few : (bytes rest : List ℕ) (n : ℤ) → length bytes < 8 → bytes ≡ number_spelling n ++ rest → ⊥
too_few bytes rest n l e =
    let long = ap (length {A = ℕ}) e ∙ length-append (number_spelling n) rest in
    omega (arith, length-number n, long)
