-- Facts on the tokens of a line.
use Rattle.std.proofs.Common.{◌≡◌, ◌≢◌, ℕ, ◌+◌, ◌≤◌, List, [], ◌∷◌, ◌++◌, refl, sym, ◌∙◌, ap, subst, append_assoc, Some, None, length, drop, arith, length-drop}
use Rattle.std.proofs.lemmas.List.{append-nil}
use Rattle.sb_tokens.specs.declared.token.Token.{Token}
use Rattle.sb_tokens.specs.declared.token.Placed.{Placed}
use Rattle.sb_tokens.specs.declared.token.Ending.{Ending}
use Rattle.sb_tokens.specs.declared.token.Ending.TheVariants.{Whole, Stuck}
use Rattle.sb_tokens.specs.Tokens.{Found, is_blank, front_token}
use Rattle.sb_tokens.specs.Rows.{blanks, behind_blanks, AreTokens, IsRow}
use Rattle.sb_tokens.proofs.TokensLemmas.{taken_within}

-- ---- one row
abbrev found_or : Token × ℕ → Found → Token × ℕ
found_or default None = default
found_or default (Some found) = found

same_found : (next : List ℕ) (t u : Token) (m n : ℕ) → front_token next ≡ Some (t, m) → front_token next ≡ Some (u, n) → (t ≡ u) × (m ≡ n)
same_found next t u m n e f = let both : Some (t, m) ≡ Some (u, n) = sym e ∙ f in (ap (λ o. (found_or (t, m) o).0) both, ap (λ o. (found_or (t, m) o).1) both)

none_in_empty : (next : List ℕ) (t : Token) (len : ℕ) → next ≡ [] → front_token next ≡ Some (t, len) → ⊥
none_in_empty next t len e f = let g : front_token [] ≡ Some (t, len) = subst (λ s. front_token s ≡ Some (t, len)) e f in cc

none_where_stuck : (next : List ℕ) (t : Token) (len : ℕ) → front_token next ≡ None → front_token next ≡ Some (t, len) → ⊥
none_where_stuck next t len e f = let g : None ≡ Some (t, len) = sym e ∙ f in cc

pub one_row : (before : ℕ) (bytes : List ℕ) (ts us : List Placed) (end other : Ending) → AreTokens before bytes ts end → AreTokens before bytes us other → (ts ≡ us) × (end ≡ other)
one_row before bytes [] [] (Whole c) (Whole d) x y = (refl, ap Whole (x.1 ∙ sym y.1))
one_row before bytes [] [] (Whole c) (Stuck d) x y = absurd (y.0 x.0)
one_row before bytes [] [] (Stuck c) (Whole d) x y = absurd (x.0 y.0)
one_row before bytes [] [] (Stuck c) (Stuck d) x y = (refl, ap Stuck (x.2 ∙ sym y.2))
one_row before bytes [] (u ∷ us) (Whole c) other x y = absurd (none_in_empty (behind_blanks bytes) u.token y.0 x.0 y.1)
one_row before bytes [] (u ∷ us) (Stuck c) other x y = absurd (none_where_stuck (behind_blanks bytes) u.token y.0 x.1 y.1)
one_row before bytes (t ∷ ts) [] end (Whole d) x y = absurd (none_in_empty (behind_blanks bytes) t.token x.0 y.0 x.1)
one_row before bytes (t ∷ ts) [] end (Stuck d) x y = absurd (none_where_stuck (behind_blanks bytes) t.token x.0 y.1 x.1)
one_row before bytes (t ∷ ts) (u ∷ us) end other x y =
    let s = same_found (behind_blanks bytes) t.token u.token x.0 y.0 x.1 y.1 in
    let column = x.2 ∙ sym y.2 in
    let rest = subst (λ n. AreTokens (before + blanks bytes + n) (drop n (behind_blanks bytes)) us other) (sym s.1) y.3 in
    let r = one_row (before + blanks bytes + x.0) (drop x.0 (behind_blanks bytes)) ts us end other x.3 rest in
    (λ i. record { token = s.0 i; column = column i } ∷ r.0 i, r.1)

-- ---- bytes that begin with no blank
abbrev pub AreNext : ℕ → List ℕ → List Placed → Ending → Type 0
AreNext at next [] (Whole column) = (next ≡ []) × (column ≡ at + 1)
AreNext at next [] (Stuck column) = (next ≢ []) × (front_token next ≡ None) × (column ≡ at + 1)
AreNext at next (t ∷ ts) ending = (len : ℕ) × (front_token next ≡ Some (t.token, len)) × (t.column ≡ at + 1) × AreTokens (at + len) (drop len next) ts ending

behind_length : (bytes : List ℕ) → blanks bytes + length (behind_blanks bytes) ≡ length bytes
behind_length bytes = omega (arith, length-drop (blanks bytes) bytes, taken_within is_blank bytes)

from_next : (before : ℕ) (bytes : List ℕ) (ts : List Placed) (ending : Ending) → AreNext (before + blanks bytes) (behind_blanks bytes) ts ending → AreTokens before bytes ts ending
from_next before bytes [] (Whole column) x =
    let n : length (behind_blanks bytes) ≡ 0 = ap length x.0 in
    (x.0, omega (arith, x.1, behind_length bytes))
from_next before bytes [] (Stuck column) x = x
from_next before bytes (t ∷ ts) ending x = x

-- ---- scanning
-- behind the tokens so far come those of the rest
pub record SoFar (line rest : List ℕ) (found : List Placed) : Type 0 where
  pub at : ℕ
  pub placed : at + length rest ≡ length line
  pub joined : (ts : List Placed) (ending : Ending) → AreNext at rest ts ending → IsRow line (found ++ ts) ending

pub none_so_far : (line : List ℕ) → SoFar line (behind_blanks line) []
none_so_far line = record { at = 0 + blanks line; placed = omega (arith, behind_length line); joined = from_next 0 line }

pub one_more : (line rest : List ℕ) (found : List Placed) (t : Placed) (len : ℕ) → front_token rest ≡ Some (t.token, len) → len ≤ length rest → t.column + length rest ≡ length line + 1 → SoFar line rest found →
    SoFar line (behind_blanks (drop len rest)) (found ++ t ∷ [])
one_more line rest found t len e le column f =
    let placed = f.placed in record {
      at = f.at + len + blanks (drop len rest);
      placed = omega (arith, behind_length (drop len rest), length-drop len rest);
      joined = λ ts ending x. subst (λ v. IsRow line v ending) (sym (append_assoc found (t ∷ []) ts)) (f.joined (t ∷ ts) ending (len, e, omega arith, from_next (f.at + len) (drop len rest) ts ending x));
    }

pub whole_row : (line rest : List ℕ) (found : List Placed) (column : ℕ) → rest ≡ [] → column ≡ length line + 1 → SoFar line rest found → IsRow line found (Whole column)
whole_row line rest found column e n f =
    let placed = f.placed in
    let none : length rest ≡ 0 = ap length e in
    subst (λ v. IsRow line v (Whole column)) (append-nil found) (f.joined [] (Whole column) (e, omega arith))

pub stuck_row : (line rest : List ℕ) (found : List Placed) (column : ℕ) → rest ≢ [] → front_token rest ≡ None → column + length rest ≡ length line + 1 → SoFar line rest found → IsRow line found (Stuck column)
stuck_row line rest found column some e n f =
    let placed = f.placed in
    subst (λ v. IsRow line v (Stuck column)) (append-nil found) (f.joined [] (Stuck column) (some, e, omega arith))
