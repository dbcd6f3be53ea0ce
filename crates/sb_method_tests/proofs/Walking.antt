-- Ways down a tree have so many pages, and pages that differ are no more than those that they are among.
use Rattle.std.proofs.Common.{◌≡◌, ℕ, zero, suc, ◌+◌, ◌*◌, ◌≤◌, Bool, true, false, cond, not, ◌&&◌, List, [], ◌∷◌, length, Option, Some, None, refl, ap, sym, ◌∙◌, inl, inr, arith, length-append}
use Rattle.std.specs.Prelude.{nat_eq, ◌||◌}
use Rattle.std.specs.List.{find as first}
use Rattle.std.proofs.lemmas.Bool.Decides.{nat_tests}
use Rattle.std.proofs.lemmas.Bool.{not-true}
use Rattle.sb_node.specs.Entries.{Entry}
use Rattle.sb_forms.specs.Read.{has, is_apart}
use Rattle.sb_forms.specs.Tree.{Has, Nodes, child_in, items, level_of, nodes}
use Rattle.sb_btree.specs.Removes.{removal_way}
use Rattle.sb_btree.specs.Ways.{child_on, is_behind, next_ways, way, way_to}
use Rattle.sb_method_tests.specs.Heights.{NextWalksAreShort, RemovalsAreShort, WalksAreAsHigh}

-- ---- pages that differ
without : ℕ → List ℕ → List ℕ
without x [] = []
without x (y ∷ ys) = cond (nat_eq x y) ys (y ∷ without x ys)

length-without : (x : ℕ) (ys : List ℕ) → has x ys ≡ true → length ys ≡ suc (length (without x ys))
unfolding without
length-without x [] h = absurd (cc)
length-without x (y ∷ ys) h =
    elim (nat_eq x y) as (λ b. (b || has x ys) ≡ true → suc (length ys) ≡ suc (length (cond b ys (y ∷ without x ys)))) [
      | true ↦ λ e. refl
      | false ↦ λ e. ap suc (length-without x ys e)
    ] h

other : (x y z : ℕ) → nat_eq z x ≡ false → nat_eq x y ≡ true → nat_eq z y ≡ false
other x y z apart same = grind (arith, nat_tests)

has-without : (x z : ℕ) (ys : List ℕ) → has z ys ≡ true → nat_eq z x ≡ false → has z (without x ys) ≡ true
unfolding without
has-without x z [] h apart = absurd (cc)
has-without x z (y ∷ ys) h apart =
    elim (nat_eq x y) as (λ b. nat_eq x y ≡ b → has z (cond b ys (y ∷ without x ys)) ≡ true) [
      | true ↦ λ same. sym (ap (λ b. b || has z ys) (other x y z apart same)) ∙ h
      | false ↦ λ differ. elim (nat_eq z y) as (λ b. (b || has z ys) ≡ true → (b || has z (without x ys)) ≡ true) [ true ↦ λ e. refl | false ↦ λ e. has-without x z ys e apart ] h
    ] refl

-- a number among those that a first one isn't among is another one
differs : (x z : ℕ) (xs : List ℕ) → has x xs ≡ false → Has z xs → nat_eq z x ≡ false
differs x z [] none h = absurd h
differs x z (y ∷ xs) none (inl e) = swapped x z (ap (nat_eq x) e ∙ front (nat_eq x y) (has x xs) none)
  where
    front : (a b : Bool) → (a || b) ≡ false → a ≡ false
    front true b e = absurd (cc)
    front false b e = refl

    swapped : (x z : ℕ) → nat_eq x z ≡ false → nat_eq z x ≡ false
    swapped x z e = grind (arith, nat_tests)
differs x z (y ∷ xs) none (inr h) = differs x z xs (back (nat_eq x y) (has x xs) none) h
  where
    back : (a b : Bool) → (a || b) ≡ false → b ≡ false
    back true b e = absurd (cc)
    back false b e = e

left : (a b : Bool) → (a && b) ≡ true → a ≡ true
left true b e = refl
left false b e = absurd (cc)

right : (a b : Bool) → (a && b) ≡ true → b ≡ true
right true b e = e
right false b e = absurd (cc)

pub length-apart : (xs ys : List ℕ) → is_apart xs ≡ true → ((n : ℕ) → Has n xs → has n ys ≡ true) → length xs ≤ length ys
length-apart [] ys apart among = omega arith
length-apart (x ∷ xs) ys apart among =
    let none : has x xs ≡ false = not-true (has x xs) (left (not (has x xs)) (is_apart xs) apart) in
    let rest : length xs ≤ length (without x ys) =
    length-apart xs (without x ys) (right (not (has x xs)) (is_apart xs) apart) (λ n h. has-without x n ys (among n (inr h)) (differs x n xs none h)) in
    let more = length-without x ys (among x (inl refl)) in
    omega (arith, rest, more)

-- ---- ways
length-way : (l : ℕ) (N : Nodes) (key : Option (List ℕ)) (p : ℕ) → length (way l N key p) ≡ suc l
length-way zero N key p = refl
length-way (suc l) N key p = ap suc (length-way l N key (child_on key (N p)))

length-way_to : (l : ℕ) (N : Nodes) (e : Option Entry) (p : ℕ) → length (way_to l N e p) ≤ suc l
length-way_to l N None p = omega arith
length-way_to l N (Some e) p = let long = length-way l N (Some e.0) p in omega (arith, long)

length-next_ways : (l : ℕ) (N : Nodes) (after : Option (List ℕ)) (p : ℕ) → length (next_ways l N after p) ≤ 2 * (l + 1)
length-next_ways l N after p =
    let e : Option Entry = first (is_behind after) (items l N p) in
    omega (arith, length-append (way l N after p) (way_to l N e p), length-way l N after p, length-way_to l N e p)

length-removal_way : (l : ℕ) (N : Nodes) (key : List ℕ) (p : ℕ) → length (removal_way l N key p) ≡ 2 * l + 1
length-removal_way zero N key p = refl
length-removal_way (suc l) N key p = let rest = length-removal_way l N key (child_in key (N p)) in omega (arith, rest)

-- ---- the laws
pub walks_are_as_high : WalksAreAsHigh
walks_are_as_high P root key =
    let l : ℕ = level_of (nodes P root) in
    let long : length (way l (nodes P) key root) ≡ l + 1 = omega (arith, length-way l (nodes P) key root) in
    (long, λ ns apart on. let few = length-apart ns (way l (nodes P) key root) apart on in omega (arith, few, long))

pub next_walks_are_short : NextWalksAreShort
next_walks_are_short P root after ns apart on =
    let l : ℕ = level_of (nodes P root) in
    let few = length-apart ns (next_ways l (nodes P) after root) apart on in
    omega (arith, few, length-next_ways l (nodes P) after root)

pub removals_are_short : RemovalsAreShort
removals_are_short P root key ns apart on =
    let l : ℕ = level_of (nodes P root) in
    let few = length-apart ns (removal_way l (nodes P) key root) apart on in
    omega (arith, few, length-removal_way l (nodes P) key root)
