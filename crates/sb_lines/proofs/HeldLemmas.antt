-- What the front that is held of a line tells of the line.
use Rattle.std.proofs.Common.{◌≡◌, ℕ, ◌+◌, ◌≤◌, nat_lt, Bool, true, false, not, ◌||◌, List, [], ◌∷◌, ◌++◌, length, take, refl, sym, ◌∙◌, ap, subst, arith, ◌⊎◌, inl, inr, ltb-true, ltb-false}
use Rattle.std.proofs.lemmas.Bool.Decides.{nat_tests}
use Rattle.std.proofs.lemmas.List.{length-take, take_all}
use Rattle.sb_grammar.specs.Columns.{is_long, Item, Says, Bad, IsItem}
use Rattle.sb_lines.specs.Lines.{without_return, is_passed_over, asks, asking, most_held, AreItems, AreFirstItems}
use Rattle.sb_lines.proofs.ItemsLemmas.{asking-said, AreFirstItems-all}

-- ---- the front of a line that is too long
without_return-length : (line : List ℕ) → length line ≤ length (without_return line) + 1
without_return-length [] = omega arith
without_return-length (b ∷ []) = omega arith
without_return-length (b ∷ c ∷ line) = let more = without_return-length (c ∷ line) in omega arith

pub is_long-over : (line : List ℕ) → 4098 ≤ length line → is_long (without_return line) ≡ true
is_long-over line long = let least = without_return-length line in grind (arith, nat_tests)

pub asks-long : (line : List ℕ) → is_long line ≡ true → asks line ≡ true
asks-long line long = ap (λ (b : Bool). b || not (is_passed_over line)) long

-- lines that are too long say the same
pub IsItem-long : (a b : List ℕ) (item : Item) → is_long a ≡ true → is_long b ≡ true → IsItem a item → IsItem b item
IsItem-long a b (Says c) x y is = absurd (let short = is.0 in cc)
IsItem-long a b (Bad column) x y (inl is) = inl (y, is.1)
IsItem-long a b (Bad column) x y (inr is) = absurd (let short = is.0 in cc)

-- a last line in the place of another one, both too long
AreItems-last : (lines : List (List ℕ)) (a b : List ℕ) (items : List Item) → is_long a ≡ true → is_long b ≡ true → AreItems (lines ++ a ∷ []) items → AreItems (lines ++ b ∷ []) items
AreItems-last [] a b [] x y are = absurd are
AreItems-last [] a b (item ∷ []) x y are = (IsItem-long a b item x y are.0, tt)
AreItems-last [] a b (item ∷ next ∷ items) x y are = absurd are.1
AreItems-last (line ∷ lines) a b [] x y are = absurd are
AreItems-last (line ∷ lines) a b (item ∷ items) x y are = (are.0, AreItems-last lines a b items x y are.1)

AreFirstItems-behind : (line : List ℕ) (lines : List (List ℕ)) (item : Item) (items : List Item) → IsItem line item → AreFirstItems lines items → AreFirstItems (line ∷ lines) (item ∷ items)
AreFirstItems-behind line lines item items is are = record {
  first = line ∷ are.first;
  others = are.others;
  are = (is, are.are);
  whole = ap (λ (ls : List (List ℕ)). line ∷ ls) are.whole;
}

AreFirstItems-last : (lines : List (List ℕ)) (a b : List ℕ) (first others : List (List ℕ)) (items : List Item) → is_long a ≡ true → is_long b ≡ true → lines ++ a ∷ [] ≡ first ++ others → AreItems first items → AreFirstItems (lines ++ b ∷ []) items
AreFirstItems-last lines a b [] others [] x y whole are = record { first = []; others = lines ++ b ∷ []; are = tt; whole = refl }
AreFirstItems-last lines a b [] others (item ∷ items) x y whole are = absurd are
AreFirstItems-last [] a b (f ∷ []) others items x y whole are =
    AreFirstItems-all (b ∷ []) items (AreItems-last [] a b items x y (subst (λ (l : List ℕ). AreItems (l ∷ []) items) (sym same) are))
  where
    same : a ≡ f
    same = let is = whole in cc
AreFirstItems-last [] a b (f ∷ g ∷ first) others items x y whole are = absurd (let is = whole in cc)
AreFirstItems-last (line ∷ lines) a b (f ∷ first) others [] x y whole are = absurd are
AreFirstItems-last (line ∷ lines) a b (f ∷ first) others (item ∷ items) x y whole are =
    let same : line ≡ f = (let is = whole in cc) in
    let rest : lines ++ a ∷ [] ≡ first ++ others = (let is = whole in cc) in
    AreFirstItems-behind line (lines ++ b ∷ []) item items (subst (λ (l : List ℕ). IsItem l item) (sym same) are.0)
    (AreFirstItems-last lines a b first others items x y rest are.1)

-- ---- what is held says what the line says
abbrev IsShown : List ℕ → Type 0
IsShown line = (take most_held line ≡ line) ⊎ (4098 ≤ length line)

shown : (line : List ℕ) → IsShown line
shown line = by (nat_lt (length line) 4098) refl
  where
    by : (b : Bool) → nat_lt (length line) 4098 ≡ b → IsShown line
    by true is = inl (take_all most_held line (let at = ltb-true (length line) 4098 is in omega arith))
    by false is = inr (let at = ltb-false (length line) 4098 is in omega arith)

held_over : (line : List ℕ) → 4098 ≤ length line → is_long (without_return (take most_held line)) ≡ true
held_over line long = is_long-over (take most_held line) (let len = length-take most_held line in omega (arith, len))

-- a line asks for a reply where what is held of it does
pub asks-held : (line : List ℕ) → asks (without_return (take most_held line)) ≡ asks (without_return line)
asks-held line = by (shown line)
  where
    by : IsShown line → asks (without_return (take most_held line)) ≡ asks (without_return line)
    by (inl same) = ap (λ (l : List ℕ). asks (without_return l)) same
    by (inr long) = asks-long (without_return (take most_held line)) (held_over line long) ∙ sym (asks-long (without_return line) (is_long-over line long))

-- and says what that says
pub IsItem-held : (line : List ℕ) (item : Item) → IsItem (without_return (take most_held line)) item → IsItem (without_return line) item
IsItem-held line item is = by (shown line)
  where
    by : IsShown line → IsItem (without_return line) item
    by (inl same) = subst (λ (l : List ℕ). IsItem (without_return l) item) same is
    by (inr long) = IsItem-long (without_return (take most_held line)) (without_return line) item (held_over line long) (is_long-over line long) is

pub AreItems-held : (lines : List (List ℕ)) (line : List ℕ) (items : List Item) → AreItems (asking (lines ++ take most_held line ∷ [])) items → AreItems (asking (lines ++ line ∷ [])) items
AreItems-held lines line items are = by (shown line)
  where
    by : IsShown line → AreItems (asking (lines ++ line ∷ [])) items
    by (inl same) = subst (λ (l : List ℕ). AreItems (asking (lines ++ l ∷ [])) items) same are
    by (inr long) =
        let a = held_over line long in
        let b = is_long-over line long in
        subst (λ (ls : List (List ℕ)). AreItems ls items) (sym (asking-said lines line (asks-long (without_return line) b)))
        (AreItems-last (asking lines) (without_return (take most_held line)) (without_return line) items a b
        (subst (λ (ls : List (List ℕ)). AreItems ls items) (asking-said lines (take most_held line) (asks-long (without_return (take most_held line)) a)) are))

pub AreFirstItems-held : (lines : List (List ℕ)) (line : List ℕ) (items : List Item) → AreFirstItems (asking (lines ++ take most_held line ∷ [])) items → AreFirstItems (asking (lines ++ line ∷ [])) items
AreFirstItems-held lines line items are = by (shown line)
  where
    by : IsShown line → AreFirstItems (asking (lines ++ line ∷ [])) items
    by (inl same) = subst (λ (l : List ℕ). AreFirstItems (asking (lines ++ l ∷ [])) items) same are
    by (inr long) =
        let a = held_over line long in
        let b = is_long-over line long in
        subst (λ (ls : List (List ℕ)). AreFirstItems ls items) (sym (asking-said lines line (asks-long (without_return line) b)))
        (AreFirstItems-last (asking lines) (without_return (take most_held line)) (without_return line) are.first are.others items a b
        (sym (asking-said lines (take most_held line) (asks-long (without_return (take most_held line)) a)) ∙ are.whole) are.are)
