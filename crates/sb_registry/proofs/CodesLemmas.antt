-- Where the first box of a code stands, how it moves, and the first code that repeats.
use Rattle.std.proofs.Common.{suc, ◌≡◌, ℕ, ◌+◌, ◌<◌, Bool, true, false, cond, ◌==◌, ◌||◌, List, [], ◌∷◌, ◌++◌, length, map, take, drop, Option, Some, None, is_some, option_map, slice_index_or, refl, ap, sym, ◌∙◌, append_assoc, append-nil, add-one}
use Rattle.std.specs.List.{position, position_or_len, position_from, list_any, find, remove, slice_get, AllByRecursion}
use Rattle.std.specs.Option.{option_or}
use Rattle.std.proofs.lemmas.Iterator.Adapters.{position_from-zero}
use Rattle.std.proofs.lemmas.List.{map-append, drop_more, take_more, take-append-drop}
use Rattle.std.proofs.lemmas.List.Folds.{list_any-append, find_at}
use Rattle.std.proofs.lemmas.List.Quantifiers.{position-Some}
use Rattle.std.proofs.lemmas.Option.{slice_get-get_or, cond_some}
use Rattle.std.proofs.lemmas.Bool.{or_parts}
use Rattle.sb_registry.specs.Codes.{first_repeat, Goes, Stay}

-- ---- where none passes
is_some-position_from : {B : Type 0} (p : B → Bool) (i : ℕ) (xs : List B) → is_some (position_from p i xs) ≡ list_any p xs
is_some-position_from p i [] = refl
is_some-position_from p i (x ∷ xs) =
    elim (p x) as (λ t. is_some (cond t (Some i) (position_from p (i + 1) xs)) ≡ (t || list_any p xs)) [ true ↦ refl | false ↦ is_some-position_from p (i + 1) xs ]

any_from_position : {B : Type 0} (p : B → Bool) (xs : List B) → position p xs ≡ None → list_any p xs ≡ false
any_from_position p xs e = sym (is_some-position_from p 0 xs) ∙ sym (ap is_some (position_from-zero p xs)) ∙ ap is_some e

each_fails : {B : Type 0} (p : B → Bool) (xs : List B) → list_any p xs ≡ false → AllByRecursion (λ x. p x ≡ false) xs
each_fails p [] e = tt
each_fails p (x ∷ xs) e = let h = or_parts (p x) (list_any p xs) e in (h.0, each_fails p xs h.1)

find_none : {B : Type 0} (p : B → Bool) (xs : List B) → list_any p xs ≡ false → find p xs ≡ None
find_none p [] e = refl
find_none p (x ∷ xs) e = let h = or_parts (p x) (list_any p xs) e in ap (λ t. cond t (Some x) (find p xs)) h.0 ∙ find_none p xs h.1

-- ---- what is found among the meanings
find-map : {B M : Type 0} (f : B → M) (p : M → Bool) (xs : List B) → find p (map f xs) ≡ option_map f (find (λ b. p (f b)) xs)
find-map f p [] = refl
find-map f p (x ∷ xs) =
    elim (p (f x)) as (λ t. cond t (Some (f x)) (find p (map f xs)) ≡ option_map f (cond t (Some x) (find (λ b. p (f b)) xs))) [ true ↦ refl | false ↦ find-map f p xs ]

pub found : {B M : Type 0} (f : B → M) (p : M → Bool) (xs : List B) (i : ℕ) (b : B) → position (λ x. p (f x)) xs ≡ Some i → b ≡ slice_index_or xs i b → find p (map f xs) ≡ Some (f b)
found {B} f p xs i b there is =
    let q : B → Bool = λ x. p (f x) in
    find-map f p xs
    ∙ ap (option_map f) (find_at q xs ∙ ap (slice_get xs) (cond_some _ (position_or_len q xs) i there).1 ∙ slice_get-get_or xs i b (position-Some q xs i b there).0 ∙ ap Some (sym is))

pub none_found : {B M : Type 0} (f : B → M) (p : M → Bool) (xs : List B) → position (λ x. p (f x)) xs ≡ None → find p (map f xs) ≡ None
none_found f p xs e = find-map f p xs ∙ ap (option_map f) (find_none (λ x. p (f x)) xs (any_from_position (λ x. p (f x)) xs e))

-- ---- how one moves
pub stays : {B : Type 0} (p : B → Bool) (from to : List B) → position p from ≡ None → Stay p from to from to
stays p from to e = record { none = each_fails p from (any_from_position p from e); from_same = refl; to_same = refl }

pub goes : {B : Type 0} (p : B → Bool) (from to from_after to_after : List B) (i : ℕ) (box : B) → position p from ≡ Some i → box ≡ slice_index_or from i box
    → from_after ≡ remove from i → to_after ≡ to ++ box ∷ [] → Goes p from to from_after to_after
goes p from to from_after to_after i box there is left comes =
    let h = position-Some p from i box there in
    record {
      front = take i from;
      box = box;
      back = drop (suc i) from;
      stood = sym (take-append-drop i from) ∙ ap (λ l. take i from ++ l) (drop_more from i box h.0 ∙ ap (λ x. x ∷ drop (i + 1) from) (sym is) ∙ ap (λ n. box ∷ drop n from) (add-one i));
      code = ap p is ∙ h.1;
      left = left;
      comes = comes;
    }

-- ---- the first code that repeats
pub first_repeat-append : (before xs ys : List ℕ) → first_repeat before (xs ++ ys) ≡ option_or (first_repeat before xs) (first_repeat (before ++ xs) ys)
first_repeat-append before [] ys = ap (λ l. first_repeat l ys) (sym (append-nil before))
first_repeat-append before (x ∷ xs) ys =
    elim (list_any (λ c. c == x) before)
    as (λ t. cond t (Some x) (first_repeat (before ++ x ∷ []) (xs ++ ys)) ≡ option_or (cond t (Some x) (first_repeat (before ++ x ∷ []) xs)) (first_repeat (before ++ x ∷ xs) ys)) [
      | true ↦ refl
      | false ↦ first_repeat-append (before ++ x ∷ []) xs ys ∙ ap (λ l. option_or (first_repeat (before ++ x ∷ []) xs) (first_repeat l ys)) (append_assoc before (x ∷ []) xs)
    ]

list_any-map : {B : Type 0} (f : B → ℕ) (p : ℕ → Bool) (xs : List B) → list_any p (map f xs) ≡ list_any (λ b. p (f b)) xs
list_any-map f p [] = refl
list_any-map f p (x ∷ xs) = ap (λ t. p (f x) || t) (list_any-map f p xs)

-- the search from place i on
pub turn : {B : Type 0} (f : B → ℕ) (front boxes : List B) (i : ℕ) (b : B) → i < length boxes → b ≡ slice_index_or boxes i b
    → first_repeat (map f front ++ map f (take i boxes)) (map f (drop i boxes))
    ≡ cond (list_any (λ x. f x == f b) front || list_any (λ x. f x == f b) (take i boxes)) (Some (f b))
    (first_repeat (map f front ++ map f (take (i + 1) boxes)) (map f (drop (i + 1) boxes)))
turn f front boxes i b h is =
    let before = map f front ++ map f (take i boxes) in
    let here : drop i boxes ≡ b ∷ drop (i + 1) boxes = drop_more boxes i b h ∙ ap (λ x. x ∷ drop (i + 1) boxes) (sym is) in
    let next : before ++ f b ∷ [] ≡ map f front ++ map f (take (i + 1) boxes) =
    append_assoc (map f front) (map f (take i boxes)) (f b ∷ [])
    ∙ ap (λ l. map f front ++ l) (sym (map-append f (take i boxes) (b ∷ [])))
    ∙ ap (λ l. map f front ++ map f l) (ap (λ x. take i boxes ++ x ∷ []) is ∙ sym (take_more boxes i b h)) in
    let stands : list_any (λ c. c == f b) before ≡ (list_any (λ x. f x == f b) front || list_any (λ x. f x == f b) (take i boxes)) =
    list_any-append (λ c. c == f b) (map f front) (map f (take i boxes))
    ∙ ap (λ t. t || list_any (λ c. c == f b) (map f (take i boxes))) (list_any-map f (λ c. c == f b) front)
    ∙ ap (λ t. list_any (λ x. f x == f b) front || t) (list_any-map f (λ c. c == f b) (take i boxes)) in
    ap (λ l. first_repeat before (map f l)) here
    ∙ ap (λ l. cond (list_any (λ c. c == f b) before) (Some (f b)) (first_repeat l (map f (drop (i + 1) boxes)))) next
    ∙ ap (λ t. cond t (Some (f b)) (first_repeat (map f front ++ map f (take (i + 1) boxes)) (map f (drop (i + 1) boxes)))) stands

-- the same, where the code of the box and what was tested have names
pub next_turn : {B : Type 0} (f : B → ℕ) (front boxes : List B) (i : ℕ) (b : B) (code : ℕ) (in_front earlier : Bool) → i < length boxes → b ≡ slice_index_or boxes i b → code ≡ f b
    → in_front ≡ list_any (λ x. f x == code) front → earlier ≡ list_any (λ x. f x == code) (take i boxes)
    → first_repeat (map f front ++ map f (take i boxes)) (map f (drop i boxes))
    ≡ cond (in_front || earlier) (Some code) (first_repeat (map f front ++ map f (take (i + 1) boxes)) (map f (drop (i + 1) boxes)))
next_turn f front boxes i b code in_front earlier h is e in_front_is earlier_is =
    let rest = first_repeat (map f front ++ map f (take (i + 1) boxes)) (map f (drop (i + 1) boxes)) in
    turn f front boxes i b h is
    ∙ ap (λ n. cond (list_any (λ x. f x == n) front || list_any (λ x. f x == n) (take i boxes)) (Some n) rest) (sym e)
    ∙ ap (λ t. cond (t || list_any (λ x. f x == code) (take i boxes)) (Some code) rest) (sym in_front_is)
    ∙ ap (λ t. cond (in_front || t) (Some code) rest) (sym earlier_is)

-- both lists behind each other
pub in_two : (xs ys : List ℕ) (code : Option ℕ) → first_repeat [] xs ≡ None → code ≡ first_repeat xs ys → code ≡ first_repeat [] (xs ++ ys)
in_two xs ys code none e = e ∙ sym (first_repeat-append [] xs ys ∙ ap (λ o. option_or o (first_repeat xs ys)) none)

pub in_one : (xs ys : List ℕ) (code : ℕ) → first_repeat [] xs ≡ Some code → Some code ≡ first_repeat [] (xs ++ ys)
in_one xs ys code e = sym (first_repeat-append [] xs ys ∙ ap (λ o. option_or o (first_repeat xs ys)) e)
