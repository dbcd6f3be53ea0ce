-- A carriage return at the end of a line.
use Rattle.std.proofs.Common.{◌≡◌, ◌≢◌, ℕ, ◌==◌, Bool, true, false, cond, List, [], ◌∷◌, ◌++◌, refl, sym, ◌∙◌, ap, arith}
use Rattle.sb_lines.specs.Lines.{without_return}

cons-cond : (a : ℕ) (p : Bool) (xs ys : List ℕ) → a ∷ cond p xs ys ≡ cond p (a ∷ xs) (a ∷ ys)
cons-cond a true xs ys = refl
cons-cond a false xs ys = refl

pub without_return-push : (front : List ℕ) (b : ℕ) → without_return (front ++ b ∷ []) ≡ cond (b == 13) front (front ++ b ∷ [])
without_return-push [] b = refl
without_return-push (a ∷ []) b = cons-cond a (b == 13) [] (b ∷ [])
without_return-push (a ∷ c ∷ front) b = ap (λ (l : List ℕ). a ∷ l) (without_return-push (c ∷ front) b) ∙ cons-cond a (b == 13) (c ∷ front) (c ∷ front ++ b ∷ [])

-- a carriage return at the end of a line
pub content-return : (line front : List ℕ) (last : ℕ) → line ≡ front ++ last ∷ [] → last ≡ 13 → front ≡ without_return line
content-return line front last whole is = sym (ap without_return (whole ∙ ap (λ (b : ℕ). front ++ b ∷ []) is) ∙ without_return-push front 13)

-- another byte at the end of a line
pub content-other : (line front : List ℕ) (last : ℕ) → line ≡ front ++ last ∷ [] → last ≢ 13 → line ≡ without_return line
content-other line front last whole is =
    let other : (last == 13) ≡ false = grind arith in
    whole ∙ sym (ap without_return whole ∙ without_return-push front last ∙ ap (λ (p : Bool). cond p front (front ++ last ∷ [])) other)
