-- What is held and what lines say, as more bytes come.
use Rattle.std.proofs.Common.{◌≡◌, ◌≢◌, ℕ, zero, suc, ◌<◌, List, [], ◌∷◌, ◌++◌, length, take, refl, sym, ◌∙◌, ap, subst, arith, length-append}
use Rattle.std.proofs.lemmas.List.{append-nil, length-take, take_all, take-append-le}
use Rattle.sb_grammar.specs.Columns.{Item}
use Rattle.sb_lines.specs.Lines.{cut, whole_lines, last_line, lines_of, asking, most_held, held_of, AreItems, AreFirstItems, Commands}
use Rattle.sb_lines.proofs.CutLemmas.{whole_lines-end, begun-end, begun-byte}
use Rattle.sb_lines.proofs.ItemsLemmas.{AreFirstItems-asking}
use Rattle.sb_lines.proofs.HeldLemmas.{AreItems-held, AreFirstItems-held}

-- ---- what is held, after one byte more
-- a line end
pub held_of-end : (bytes : List ℕ) → held_of (bytes ++ 10 ∷ []) ≡ []
held_of-end bytes = ap (take most_held) (begun-end bytes)

take-front : (n : ℕ) (line more : List ℕ) → take n (take n line ++ more) ≡ take n (line ++ more)
take-front zero line more = refl
take-front (suc n) [] more = refl
take-front (suc n) (b ∷ line) more = ap (λ (l : List ℕ). b ∷ l) (take-front n line more)

held_of-byte : (bytes : List ℕ) (b : ℕ) → b ≢ 10 → held_of (bytes ++ b ∷ []) ≡ take most_held (held_of bytes ++ b ∷ [])
held_of-byte bytes b other = ap (take most_held) (begun-byte bytes b other) ∙ sym (take-front most_held (cut bytes).begun (b ∷ []))

-- a byte that goes on with the line, where there is room for it
pub held_of-more : (bytes : List ℕ) (b : ℕ) → b ≢ 10 → length (held_of bytes) < most_held → held_of (bytes ++ b ∷ []) ≡ held_of bytes ++ b ∷ []
held_of-more bytes b other room =
    held_of-byte bytes b other ∙ take_all most_held (held_of bytes ++ b ∷ []) (let len = length-append (held_of bytes) (b ∷ []) in omega (arith, len))

-- and where there is none
pub held_of-full : (bytes : List ℕ) (b : ℕ) → b ≢ 10 → ¬ (length (held_of bytes) < most_held) → held_of (bytes ++ b ∷ []) ≡ held_of bytes
held_of-full bytes b other full =
    let most = length-take most_held (cut bytes).begun in
    held_of-byte bytes b other ∙ take-append-le most_held (held_of bytes) (b ∷ []) (omega (arith, full)) ∙ take_all most_held (held_of bytes) (omega (arith, most))

-- ---- a line that has come to its end
pub AreItems-ended : (bytes : List ℕ) (items : List Item) → AreItems (asking (whole_lines bytes ++ held_of bytes ∷ [])) items → AreItems (asking (whole_lines (bytes ++ 10 ∷ []))) items
AreItems-ended bytes items are =
    subst (λ (ls : List (List ℕ)). AreItems (asking ls) items) (sym (whole_lines-end bytes)) (AreItems-held (whole_lines bytes) (cut bytes).begun items are)

pub AreFirstItems-ended : (bytes : List ℕ) (items : List Item) → AreFirstItems (asking (whole_lines bytes ++ held_of bytes ∷ [])) items → AreFirstItems (asking (whole_lines (bytes ++ 10 ∷ []))) items
AreFirstItems-ended bytes items are =
    subst (λ (ls : List (List ℕ)). AreFirstItems (asking ls) items) (sym (whole_lines-end bytes)) (AreFirstItems-held (whole_lines bytes) (cut bytes).begun items are)

-- ---- the last line, which has no end
last_line-some : (line : List ℕ) → length (take most_held line) ≢ 0 → last_line line ≡ line ∷ []
last_line-some [] some = absurd (some refl)
last_line-some (b ∷ line) some = refl

last_line-none : (line : List ℕ) → length (take most_held line) ≡ 0 → last_line line ≡ []
last_line-none [] none = refl
last_line-none (b ∷ line) none = absurd (let len = length-take most_held (b ∷ line) in omega (arith, none, len))

-- where something is held it is a line too
pub lines_of-some : (bytes : List ℕ) → length (held_of bytes) ≢ 0 → lines_of bytes ≡ whole_lines bytes ++ (cut bytes).begun ∷ []
lines_of-some bytes some = ap (λ (ls : List (List ℕ)). whole_lines bytes ++ ls) (last_line-some (cut bytes).begun some)

-- where nothing is, all lines have their end
pub lines_of-none : (bytes : List ℕ) → length (held_of bytes) ≡ 0 → lines_of bytes ≡ whole_lines bytes
lines_of-none bytes none = ap (λ (ls : List (List ℕ)). whole_lines bytes ++ ls) (last_line-none (cut bytes).begun none) ∙ append-nil (whole_lines bytes)

pub Commands-some : (bytes : List ℕ) (items : List Item) → length (held_of bytes) ≢ 0 → AreItems (asking (whole_lines bytes ++ held_of bytes ∷ [])) items → Commands bytes items
Commands-some bytes items some are =
    subst (λ (ls : List (List ℕ)). AreItems (asking ls) items) (sym (lines_of-some bytes some)) (AreItems-held (whole_lines bytes) (cut bytes).begun items are)

pub Commands-none : (bytes : List ℕ) (items : List Item) → length (held_of bytes) ≡ 0 → AreItems (asking (whole_lines bytes)) items → Commands bytes items
Commands-none bytes items none are = subst (λ (ls : List (List ℕ)). AreItems (asking ls) items) (sym (lines_of-none bytes none)) are

-- the first items, with the last line
pub AreFirstItems-some : (bytes : List ℕ) (items : List Item) → length (held_of bytes) ≢ 0 → AreFirstItems (asking (whole_lines bytes ++ held_of bytes ∷ [])) items → AreFirstItems (asking (lines_of bytes)) items
AreFirstItems-some bytes items some are =
    subst (λ (ls : List (List ℕ)). AreFirstItems (asking ls) items) (sym (lines_of-some bytes some)) (AreFirstItems-held (whole_lines bytes) (cut bytes).begun items are)

-- the first items of the whole lines are those of all lines
pub AreFirstItems-whole : (bytes : List ℕ) (items : List Item) → AreFirstItems (asking (whole_lines bytes)) items → AreFirstItems (asking (lines_of bytes)) items
AreFirstItems-whole bytes items are = AreFirstItems-asking (whole_lines bytes) (last_line (cut bytes).begun) items are
