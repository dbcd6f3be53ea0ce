-- What is found in lists from which a box goes, and to which it comes.
use Rattle.std.proofs.Common.{◌≡◌, ℕ, ◌+◌, ◌≤◌, ◌==◌, Bool, true, false, cond, List, [], ◌∷◌, ◌++◌, map, Option, Some, None, is_some, refl, sym, ap, ◌∙◌, subst, arith, eqb-true, eq-eqb}
use Rattle.std.specs.List.{find}
use Rattle.std.specs.Option.{option_or}
use Rattle.std.proofs.lemmas.List.{map-append}
use Rattle.std.proofs.lemmas.List.Folds.{find-append}
use Rattle.sb_vectors.proofs.CodesLemmas.{AreSingle, times, times-append}

-- ---- one more, and one less
pub found_more : {A : Type 0} (p : A → Bool) (xs ys : List A) (a : A) → find p xs ≡ Some a → find p (xs ++ ys) ≡ Some a
found_more {A} p xs ys a is = find-append p xs ys ∙ ap (λ (o : Option A). option_or o (find p ys)) is

pub found_without : {A : Type 0} (p : A → Bool) (front : List A) (x : A) (back : List A) → p x ≡ false → find p (front ++ x ∷ back) ≡ find p (front ++ back)
found_without p [] x back not = ap (λ (b : Bool). cond b (Some x) (find p back)) not
found_without {A} p (y ∷ front) x back not = ap (λ (o : Option A). cond (p y) (Some y) o) (found_without p front x back not)

pub found_some : {A : Type 0} (p : A → Bool) (front : List A) (x : A) (back : List A) → p x ≡ true → is_some (find p (front ++ x ∷ back)) ≡ true
found_some p [] x back is = ap (λ (b : Bool). is_some (cond b (Some x) (find p back))) is
found_some p (y ∷ front) x back is = by (p y) (found_some p front x back is)
  where
    by : (b : Bool) → is_some (find p (front ++ x ∷ back)) ≡ true → is_some (cond b (Some y) (find p (front ++ x ∷ back))) ≡ true
    by true some = refl
    by false some = some

-- ---- codes that stand once
code_here : (c : ℕ) → (c == c) ≡ true
code_here c = eq-eqb c c refl

count_true : (c x : ℕ) (xs : List ℕ) → (x == c) ≡ true → times c (x ∷ xs) ≡ 1 + times c xs
count_true c x xs is = rw is refl

count_false : (c x : ℕ) (xs : List ℕ) → (x == c) ≡ false → times c (x ∷ xs) ≡ 0 + times c xs
count_false c x xs is = rw is refl

module _ {A : Type 0} (code_in : A → ℕ) where
  none_before : (c : ℕ) (front : List A) → times c (map code_in front) ≡ 0 → find (λ a. code_in a == c) front ≡ None
  none_before c [] none = refl
  none_before c (a ∷ front) none = by (none_before c front) (code_in a == c) refl
    where
      by : (times c (map code_in front) ≡ 0 → find (λ a. code_in a == c) front ≡ None) → (t : Bool) → (code_in a == c) ≡ t → find (λ a. code_in a == c) (a ∷ front) ≡ None
      by rest true is = absurd (let one : times c (code_in a ∷ map code_in front) ≡ 1 + times c (map code_in front) = count_true c (code_in a) (map code_in front) is in omega arith)
      by rest false is =
          ap (λ (t : Bool). cond t (Some a) (find (λ a. code_in a == c) front)) is
          ∙ rest (let one : times c (code_in a ∷ map code_in front) ≡ 0 + times c (map code_in front) = count_false c (code_in a) (map code_in front) is in omega arith)

  -- one whose code stands once is found by it
  pub found_single : (front : List A) (b : A) (back : List A) → AreSingle (map code_in (front ++ b ∷ back)) → find (λ a. code_in a == code_in b) (front ++ b ∷ back) ≡ Some b
  found_single front b back single =
      let c : ℕ = code_in b in
      let all : times c (map code_in (front ++ b ∷ back)) ≡ times c (map code_in front) + times c (map code_in (b ∷ back)) =
      ap (times c) (map-append code_in front (b ∷ back)) ∙ times-append c (map code_in front) (map code_in (b ∷ back)) in
      let one : times c (map code_in (b ∷ back)) ≡ 1 + times c (map code_in back) = count_true c c (map code_in back) (code_here c) in
      let few : times c (map code_in (front ++ b ∷ back)) ≤ 1 = single c in
      find-append (λ a. code_in a == c) front (b ∷ back)
      ∙ ap (λ (o : Option A). option_or o (find (λ a. code_in a == c) (b ∷ back))) (none_before c front (omega arith))
      ∙ ap (λ (t : Bool). cond t (Some b) (find (λ a. code_in a == c) back)) (code_here c)

  -- ---- a box in another place
  -- the same is found, where codes stand once
  pub found_moved : (c : ℕ) (front back first last : List A) (b : A) → front ++ back ≡ first ++ last → AreSingle (map code_in (front ++ b ∷ back)) → AreSingle (map code_in (first ++ b ∷ last))
      → find (λ a. code_in a == c) (first ++ b ∷ last) ≡ find (λ a. code_in a == c) (front ++ b ∷ back)
  found_moved c front back first last b same old new = by (code_in b == c) refl
    where
      by : (t : Bool) → (code_in b == c) ≡ t → find (λ a. code_in a == c) (first ++ b ∷ last) ≡ find (λ a. code_in a == c) (front ++ b ∷ back)
      by true is =
          subst (λ (n : ℕ). find (λ a. code_in a == n) (first ++ b ∷ last) ≡ find (λ a. code_in a == n) (front ++ b ∷ back)) (eqb-true (code_in b) c is)
          (found_single first b last new ∙ sym (found_single front b back old))
      by false not =
          found_without (λ a. code_in a == c) first b last not ∙ ap (find (λ a. code_in a == c)) (sym same) ∙ sym (found_without (λ a. code_in a == c) front b back not)
