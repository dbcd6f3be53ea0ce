-- Names that stand twice in one list.
use Rattle.std.proofs.Common.{◌≡◌, ℕ, zero, suc, ◌+◌, ◌<◌, ◌≤◌, Bool, true, false, cond, ◌||◌, List, [], ◌∷◌, ◌++◌, length, take, drop, get_or, map, Option, Some, None, bytes_eq, refl, sym, ap, ◌∙◌, add-one, arith}
use Rattle.std.specs.List.{list_any}
use Rattle.std.proofs.lemmas.List.{take_more}
use Rattle.std.proofs.lemmas.List.Folds.{list_any-append}
use Rattle.std.proofs.Math.Seq.{drop-cons}
use Rattle.sb_relation.specs.Db.{Name}
use Rattle.sb_plain.specs.Refusing.{first_again}

-- the names of the items before a place, the last one first
abbrev pub names_before : {X : Type 0} → (X → Name) → List X → List Name
names_before f [] = []
names_before f (x ∷ xs) = names_before f xs ++ f x ∷ []

any_before : {X : Type 0} (f : X → Name) (name : Name) (xs : List X) → list_any (bytes_eq name) (names_before f xs) ≡ list_any (λ x. bytes_eq name (f x)) xs
any_before f name [] = refl
any_before f name (x ∷ xs) =
    list_any-append (bytes_eq name) (names_before f xs) (f x ∷ [])
    ∙ ap (λ b. b || (bytes_eq name (f x) || false)) (any_before f name xs)
    ∙ turned (bytes_eq name (f x)) (list_any (λ x. bytes_eq name (f x)) xs)
  where
    turned : (a b : Bool) → (b || (a || false)) ≡ (a || b)
    turned true true = refl
    turned true false = refl
    turned false true = refl
    turned false false = refl

before_more : {X : Type 0} (f : X → Name) (xs : List X) (x : X) → names_before f (xs ++ x ∷ []) ≡ f x ∷ names_before f xs
before_more f [] x = refl
before_more f (y ∷ xs) x = ap (λ names. names ++ f y ∷ []) (before_more f xs x)

-- the rest of a walk over the items of a list
abbrev pub twice_from : {X : Type 0} → (X → Name) → List X → ℕ → Option Name
twice_from f xs i = first_again (names_before f (take i xs)) (map f (drop i xs))

at_item : {X : Type 0} (f : X → Name) (xs : List X) (i : ℕ) (x : X) (again : Bool) → i < length xs → x ≡ get_or xs i x → again ≡ list_any (λ y. bytes_eq (f x) (f y)) (take i xs)
    → twice_from f xs i ≡ cond again (Some (f x)) (twice_from f xs (i + 1))
at_item f xs i x again within is e =
    let rest : drop i xs ≡ x ∷ drop (i + 1) xs = drop-cons xs i x within ∙ ap (λ y. y ∷ drop (suc i) xs) (sym is) ∙ ap (λ n. x ∷ drop n xs) (sym (add-one i)) in
    let front : take (i + 1) xs ≡ take i xs ++ x ∷ [] = take_more xs i x within ∙ ap (λ y. take i xs ++ y ∷ []) (sym is) in
    let more : names_before f (take (i + 1) xs) ≡ f x ∷ names_before f (take i xs) = ap (names_before f) front ∙ before_more f (take i xs) x in
    ap (λ ys. first_again (names_before f (take i xs)) (map f ys)) rest
    ∙ ap (λ b. cond b (Some (f x)) (first_again (f x ∷ names_before f (take i xs)) (map f (drop (i + 1) xs)))) (any_before f (f x) (take i xs) ∙ sym e)
    ∙ ap (λ names. cond again (Some (f x)) (first_again names (map f (drop (i + 1) xs)))) (sym more)

-- an item whose name stands before, and one whose name doesn't
pub stands_twice : {X : Type 0} (f : X → Name) (xs : List X) (i : ℕ) (x : X) → i < length xs → x ≡ get_or xs i x → true ≡ list_any (λ y. bytes_eq (f x) (f y)) (take i xs)
    → twice_from f xs i ≡ Some (f x)
stands_twice f xs i x within is e = at_item f xs i x true within is e

pub stands_once : {X : Type 0} (f : X → Name) (xs : List X) (i : ℕ) (x : X) → i < length xs → x ≡ get_or xs i x → false ≡ list_any (λ y. bytes_eq (f x) (f y)) (take i xs)
    → twice_from f xs i ≡ twice_from f xs (i + 1)
stands_once f xs i x within is e = at_item f xs i x false within is e

-- behind the last item
pub none_twice : {X : Type 0} (f : X → Name) (xs : List X) (i : ℕ) → length xs ≤ i → twice_from f xs i ≡ None
none_twice f xs i ended = ap (λ ys. first_again (names_before f (take i xs)) (map f ys)) (none_left xs i ended)
  where
    none_left : {X : Type 0} (xs : List X) (i : ℕ) → length xs ≤ i → drop i xs ≡ []
    none_left [] zero e = refl
    none_left [] (suc i) e = refl
    none_left (x ∷ xs) zero e = absurd (omega arith)
    none_left (x ∷ xs) (suc i) e = none_left xs i (omega arith)

-- names by themselves
pub map_itself : (names : List Name) → map (λ (n : Name). n) names ≡ names
map_itself [] = refl
map_itself (n ∷ names) = ap (λ ns. n ∷ ns) (map_itself names)
