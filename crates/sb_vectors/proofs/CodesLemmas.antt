-- Codes that stand once at most, wherever they stand.
use Rattle.std.proofs.Common.{◌≡◌, ℕ, ◌+◌, ◌≤◌, ◌==◌, ◌||◌, Bool, true, false, cond, not, List, [], ◌∷◌, ◌++◌, map, filter, Option, Some, None, append_assoc, append-nil, arith, eqb-true, eq-eqb, refl, sym, ap, subst, ◌∙◌}
use Rattle.std.specs.List.{list_any}
use Rattle.std.specs.Option.{option_or}
use Rattle.std.proofs.lemmas.List.{map-append}
use Rattle.std.proofs.lemmas.List.Elements.{filter-append}
use Rattle.sb_registry.specs.Codes.{Goes, GoesIf, first_repeat}

abbrev once : Bool → ℕ
once true = 1
once false = 0

-- how often a code stands among codes
abbrev pub times : ℕ → List ℕ → ℕ
times c [] = 0
times c (x ∷ xs) = once (x == c) + times c xs

-- each stands once at most
abbrev pub AreSingle : List ℕ → Type 0
AreSingle xs = (c : ℕ) → times c xs ≤ 1

pub times-append : (c : ℕ) (xs ys : List ℕ) → times c (xs ++ ys) ≡ times c xs + times c ys
times-append c [] ys = omega arith
times-append c (x ∷ xs) ys = omega (arith, times-append c xs ys)

times-here : (c : ℕ) (xs : List ℕ) → times c (c ∷ xs) ≡ 1 + times c xs
times-here c xs = ap (λ b. once b + times c xs) (eq-eqb c c refl)

-- ---- codes that are tested for a repeat
none-times : (c : ℕ) (xs : List ℕ) → list_any (λ x. x == c) xs ≡ false → times c xs ≡ 0
none-times c [] none = refl
none-times c (x ∷ xs) none = by (x == c) none (none-times c xs)
  where
    by : (b : Bool) → (b || list_any (λ x. x == c) xs) ≡ false → (list_any (λ x. x == c) xs ≡ false → times c xs ≡ 0) → once b + times c xs ≡ 0
    by true is rest = absurd (cc)
    by false is rest = omega (arith, rest is)

some-times : (c : ℕ) (xs : List ℕ) → list_any (λ x. x == c) xs ≡ true → 1 ≤ times c xs
some-times c [] some = absurd (cc)
some-times c (x ∷ xs) some = by (x == c) some (some-times c xs)
  where
    by : (b : Bool) → (b || list_any (λ x. x == c) xs) ≡ true → (list_any (λ x. x == c) xs ≡ true → 1 ≤ times c xs) → 1 ≤ once b + times c xs
    by true is rest = omega arith
    by false is rest = omega (arith, rest is)

one_more : (before : List ℕ) (x : ℕ) → AreSingle before → times x before ≡ 0 → AreSingle (before ++ x ∷ [])
one_more before x single none c = by (x == c) refl
  where
    by : (b : Bool) → (x == c) ≡ b → times c (before ++ x ∷ []) ≤ 1
    by true same =
        let here : times c before ≡ 0 = subst (λ n. times n before ≡ 0) (eqb-true x c same) none in
        let one : once (x == c) ≡ 1 = ap once same in
        omega (arith, here, one, times-append c before (x ∷ []))
    by false other =
        let one : once (x == c) ≡ 0 = ap once other in
        omega (arith, single c, one, times-append c before (x ∷ []))

pub single-from : (before xs : List ℕ) → first_repeat before xs ≡ None → AreSingle before → AreSingle (before ++ xs)
single-from before [] none single = subst AreSingle (sym (append-nil before)) single
single-from before (x ∷ xs) none single = by (list_any (λ c. c == x) before) refl none (single-from (before ++ x ∷ []) xs)
  where
    by : (b : Bool) → list_any (λ c. c == x) before ≡ b → cond b (Some x) (first_repeat (before ++ x ∷ []) xs) ≡ None
        → (first_repeat (before ++ x ∷ []) xs ≡ None → AreSingle (before ++ x ∷ []) → AreSingle ((before ++ x ∷ []) ++ xs)) → AreSingle (before ++ x ∷ xs)
    by true at is rest = absurd (cc)
    by false at is rest = subst AreSingle (append_assoc before (x ∷ []) xs) (rest is (one_more before x single (none-times x before at)))

pub single-none : (before xs : List ℕ) → AreSingle (before ++ xs) → first_repeat before xs ≡ None
single-none before [] single = refl
single-none before (x ∷ xs) single =
    by (list_any (λ c. c == x) before) refl (single-none (before ++ x ∷ []) xs (subst AreSingle (sym (append_assoc before (x ∷ []) xs)) single))
  where
    by : (b : Bool) → list_any (λ c. c == x) before ≡ b → first_repeat (before ++ x ∷ []) xs ≡ None → cond b (Some x) (first_repeat (before ++ x ∷ []) xs) ≡ None
    by true at rest = absurd (omega (arith, single x, some-times x before at, times-append x before (x ∷ xs), times-here x xs))
    by false at rest = rest

pub both_none : (a b : Option ℕ) → option_or a b ≡ None → (a ≡ None) × (b ≡ None)
both_none (Some x) b is = absurd (cc)
both_none None b is = (refl, is)

-- ---- a code that is taken out
keeps-others : (code : ℕ) (xs : List ℕ) → times code xs ≡ 0 → filter (λ c. not (c == code)) xs ≡ xs
keeps-others code [] none = refl
keeps-others code (x ∷ xs) none = by (x == code) none (keeps-others code xs)
  where
    by : (b : Bool) → once b + times code xs ≡ 0 → (times code xs ≡ 0 → filter (λ c. not (c == code)) xs ≡ xs)
        → cond (not b) (x ∷ filter (λ c. not (c == code)) xs) (filter (λ c. not (c == code)) xs) ≡ x ∷ xs
    by true none rest = absurd (omega (arith, none))
    by false none rest = ap (λ (l : List ℕ). x ∷ l) (rest (omega (arith, none)))

filter-moved : (code : ℕ) (front back : List ℕ) → times code (front ++ code ∷ back) ≤ 1 → filter (λ c. not (c == code)) (front ++ code ∷ back) ≡ front ++ back
filter-moved code front back few =
    let none_front : times code front ≡ 0 = omega (arith, few, times-append code front (code ∷ back), times-here code back) in
    let none_back : times code back ≡ 0 = omega (arith, few, times-append code front (code ∷ back), times-here code back) in
    let out : filter (λ c. not (c == code)) (code ∷ back) ≡ back =
    ap (λ b. cond (not b) (code ∷ filter (λ c. not (c == code)) back) (filter (λ c. not (c == code)) back)) (eq-eqb code code refl) ∙ keeps-others code back none_back in
    filter-append (λ c. not (c == code)) front (code ∷ back) ∙ ap (λ (l : List ℕ). l ++ filter (λ c. not (c == code)) (code ∷ back)) (keeps-others code front none_front)
    ∙ ap (λ (l : List ℕ). front ++ l) out

-- ---- a box that goes from one list to the other
module _ {B : Type 0} (code_in : B → ℕ) (code : ℕ) (from to from_after to_after : List B) where
  pub codes_come : Goes (λ b. code_in b == code) from to from_after to_after → map code_in to_after ≡ map code_in to ++ code ∷ []
  codes_come goes =
      ap (map code_in) goes.comes ∙ map-append code_in to (goes.box ∷ []) ∙ ap (λ n. map code_in to ++ n ∷ []) (eqb-true (code_in goes.box) code goes.code)

  stood_codes : (goes : Goes (λ b. code_in b == code) from to from_after to_after) → map code_in from ≡ map code_in goes.front ++ code ∷ map code_in goes.back
  stood_codes goes =
      ap (map code_in) goes.stood ∙ map-append code_in goes.front (goes.box ∷ goes.back)
      ∙ ap (λ n. map code_in goes.front ++ n ∷ map code_in goes.back) (eqb-true (code_in goes.box) code goes.code)

  left_codes : (goes : Goes (λ b. code_in b == code) from to from_after to_after) → map code_in from_after ≡ map code_in goes.front ++ map code_in goes.back
  left_codes goes = ap (map code_in) goes.left ∙ map-append code_in goes.front goes.back

  pub codes_left : Goes (λ b. code_in b == code) from to from_after to_after → times code (map code_in from) ≤ 1
      → map code_in from_after ≡ filter (λ c. not (c == code)) (map code_in from)
  codes_left goes few =
      left_codes goes
      ∙ sym (filter-moved code (map code_in goes.front) (map code_in goes.back) (subst (λ l. times code l ≤ 1) (stood_codes goes) few))
      ∙ ap (filter (λ c. not (c == code))) (sym (stood_codes goes))

  -- none comes or goes between them
  pub times_moved : (moved : Bool) (c : ℕ) → GoesIf moved (λ b. code_in b == code) from to from_after to_after
      → times c (map code_in to_after) + times c (map code_in from_after) ≡ times c (map code_in to) + times c (map code_in from)
  times_moved true c goes =
      omega (
        arith,
        ap (times c) (codes_come goes),
        ap (times c) (left_codes goes),
        ap (times c) (stood_codes goes),
        times-append c (map code_in to) (code ∷ []),
        times-append c (map code_in goes.front) (map code_in goes.back),
        times-append c (map code_in goes.front) (code ∷ map code_in goes.back),
      )
  times_moved false c stay = λ i. times c (map code_in (stay.to_same i)) + times c (map code_in (stay.from_same i))
