-- Lines, as more bytes come.
use Rattle.std.proofs.Common.{◌≡◌, ◌≢◌, ℕ, ◌==◌, Bool, true, false, cond, List, [], ◌∷◌, ◌++◌, refl, ◌∙◌, ap, arith}
use Rattle.sb_lines.specs.Lines.{Cut, in_front, cut, whole_lines}

-- ---- one byte more
abbrev ended_line : Cut → Cut
ended_line c = record { ended = c.ended ++ c.begun ∷ []; begun = [] }

abbrev with_byte : ℕ → Cut → Cut
with_byte b c = record { ended = c.ended; begun = c.begun ++ b ∷ [] }

abbrev before : ℕ → Bool → Cut → Cut
before b is_end c = cond is_end (record { ended = [] ∷ c.ended; begun = c.begun }) (in_front b c.ended c.begun)

before-ended_line : (b : ℕ) (is_end : Bool) (lines : List (List ℕ)) (begun : List ℕ) →
    before b is_end (ended_line (record { ended = lines; begun = begun })) ≡ ended_line (before b is_end (record { ended = lines; begun = begun }))
before-ended_line b true lines begun = refl
before-ended_line b false [] begun = refl
before-ended_line b false (line ∷ lines) begun = refl

before-with_byte : (b d : ℕ) (is_end : Bool) (lines : List (List ℕ)) (begun : List ℕ) →
    before b is_end (with_byte d (record { ended = lines; begun = begun })) ≡ with_byte d (before b is_end (record { ended = lines; begun = begun }))
before-with_byte b d true lines begun = refl
before-with_byte b d false [] begun = refl
before-with_byte b d false (line ∷ lines) begun = refl

-- a line end ends the line that has begun
pub cut-end : (bytes : List ℕ) → cut (bytes ++ 10 ∷ []) ≡ ended_line (cut bytes)
cut-end [] = refl
cut-end (b ∷ bytes) = ap (before b (b == 10)) (cut-end bytes) ∙ before-ended_line b (b == 10) (cut bytes).ended (cut bytes).begun

cut-other : (bytes : List ℕ) (d : ℕ) → (d == 10) ≡ false → cut (bytes ++ d ∷ []) ≡ with_byte d (cut bytes)
cut-other [] d other = ap (λ (is_end : Bool). before d is_end (cut [])) other
cut-other (b ∷ bytes) d other = ap (before b (b == 10)) (cut-other bytes d other) ∙ before-with_byte b d (b == 10) (cut bytes).ended (cut bytes).begun

-- another byte goes on with it
pub cut-byte : (bytes : List ℕ) (d : ℕ) → d ≢ 10 → cut (bytes ++ d ∷ []) ≡ with_byte d (cut bytes)
cut-byte bytes d other = cut-other bytes d (grind arith)

pub whole_lines-end : (bytes : List ℕ) → whole_lines (bytes ++ 10 ∷ []) ≡ whole_lines bytes ++ (cut bytes).begun ∷ []
whole_lines-end bytes = ap (λ (c : Cut). c.ended) (cut-end bytes)

pub begun-end : (bytes : List ℕ) → (cut (bytes ++ 10 ∷ [])).begun ≡ []
begun-end bytes = ap (λ (c : Cut). c.begun) (cut-end bytes)

pub whole_lines-byte : (bytes : List ℕ) (d : ℕ) → d ≢ 10 → whole_lines (bytes ++ d ∷ []) ≡ whole_lines bytes
whole_lines-byte bytes d other = ap (λ (c : Cut). c.ended) (cut-byte bytes d other)

pub begun-byte : (bytes : List ℕ) (d : ℕ) → d ≢ 10 → (cut (bytes ++ d ∷ [])).begun ≡ (cut bytes).begun ++ d ∷ []
begun-byte bytes d other = ap (λ (c : Cut). c.begun) (cut-byte bytes d other)

-- ---- whole lines stay as more bytes come
pub record Grows (lines more : List (List ℕ)) : Type 0 where
  pub others : List (List ℕ)
  pub is : more ≡ lines ++ others

grows_in_front : (b : ℕ) (is_end : Bool) (lines more : List (List ℕ)) (begun then : List ℕ) → Grows lines more →
    Grows (before b is_end (record { ended = lines; begun = begun })).ended (before b is_end (record { ended = more; begun = then })).ended
grows_in_front b true lines more begun then g = record { others = g.others; is = ap (λ (ls : List (List ℕ)). [] ∷ ls) g.is }
grows_in_front b false [] more begun then g = record { others = (in_front b more then).ended; is = refl }
grows_in_front b false (line ∷ lines) [] begun then g = absurd (let e = g.is in cc)
grows_in_front b false (line ∷ lines) (other ∷ more) begun then g = record { others = g.others; is = (let e = g.is in cc) }

pub whole_lines-grow : (bytes more : List ℕ) → Grows (whole_lines bytes) (whole_lines (bytes ++ more))
whole_lines-grow [] more = record { others = whole_lines more; is = refl }
whole_lines-grow (b ∷ bytes) more = grows_in_front b (b == 10) (cut bytes).ended (cut (bytes ++ more)).ended (cut bytes).begun (cut (bytes ++ more)).begun (whole_lines-grow bytes more)
