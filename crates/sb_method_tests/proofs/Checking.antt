-- What a checker finds of a tree is what the definition says.
use Rattle.std.proofs.Common.{◌≡◌, ℕ, suc, ◌<◌, Bool, true, false, cond, not, ◌&&◌, List, [], ◌∷◌, length, Option, Some, None, option_map, refl, ap, sym, ◌∙◌, arith}
use Rattle.std.specs.Prelude.{nat_lt, nat_eq, ◌||◌}
use Rattle.std.specs.List.{list_any}
use Rattle.std.proofs.lemmas.Bool.Decides.{nat_tests}
use Rattle.sb_node.specs.Page.{Node}
use Rattle.sb_forms.specs.Pages.{Pages}
use Rattle.sb_forms.specs.Read.{are_children, has, is_apart, is_full, is_inner, is_root, is_tree, read_tree}
use Rattle.sb_forms.specs.Tree.{Child, Nodes, children_of, entries_of, items, met, nodes, over, tree_items}
use Rattle.sb_forms.specs.TreePages.{tree_met}
use Rattle.sb_method_tests.specs.Found.{Found, children_found, root_found, tree_found}

-- ---- tests
pub none_cond : {X : Type 0} (b : Bool) (x : X) → None ≡ cond b (Some x) None → b ≡ false
none_cond true x e = absurd (cc)
none_cond false x e = refl

pub some_cond : {X : Type 0} (b : Bool) (x y : X) → Some y ≡ cond b (Some x) None → (b ≡ true) × (y ≡ x)
some_cond true x y e = let same : y ≡ x = cc in (refl, same)
some_cond false x y e = absurd (cc)

cond_some : {X : Type 0} (b : Bool) (x y : X) → b ≡ true → y ≡ x → Some y ≡ cond b (Some x) None
cond_some b x y e same = ap (λ z. Some z) same ∙ sym (ap (λ t. cond t (Some x) None) e)

both : (a b : Bool) → a ≡ true → b ≡ true → (a && b) ≡ true
both true b e f = f
both false b e f = absurd (cc)

-- ---- an inner page of a tree
-- what it comes to
abbrev inner_found : ℕ → Nodes → ℕ → Option Node → Option Found
inner_found l N p o =
    cond (is_inner (suc l) o && (nat_lt 0 (length (entries_of o)) && are_children (λ c. is_tree l N c && is_full N c) (items l N) None (children_of o)))
    (Some (over (items l N) (children_of o), p ∷ over (met l N) (children_of o))) None

inner_is : (l m : ℕ) (N : Nodes) (p : ℕ) (n : Node) → l ≡ suc m → N p ≡ Some n → inner_found m N p (Some n) ≡ tree_found l N p
inner_is l m N p n down at = sym (ap (inner_found m N p) at) ∙ sym (ap (λ k. tree_found k N p) down)

some_less : (n : ℕ) → 0 < n → nat_lt 0 n ≡ true
some_less n h = grind (arith, nat_tests)

pub inner_there : (l m : ℕ) (N : Nodes) (p : ℕ) (n : Node) (ks : List Child) (f : Found) → l ≡ suc m → N p ≡ Some n → is_inner l (Some n) ≡ true → 0 < length n.entries → ks ≡ children_of (Some n)
    → Some f ≡ children_found m N ks → Some (f.0, p ∷ f.1) ≡ tree_found l N p
inner_there l m N p n ks f down at inner full are some =
    let rest : Bool = are_children (λ c. is_tree m N c && is_full N c) (items m N) None (children_of (Some n)) in
    let found = some_cond rest (over (items m N) (children_of (Some n)), over (met m N) (children_of (Some n))) f (some ∙ ap (children_found m N) are) in
    cond_some (is_inner (suc m) (Some n) && (nat_lt 0 (length n.entries) && rest)) (over (items m N) (children_of (Some n)), p ∷ over (met m N) (children_of (Some n))) (f.0, p ∷ f.1)
    (both (is_inner (suc m) (Some n)) (nat_lt 0 (length n.entries) && rest) (ap (λ k. is_inner k (Some n)) (sym down) ∙ inner) (both (nat_lt 0 (length n.entries)) rest (some_less (length n.entries) full) found.0))
    (ap (λ (g : Found). (g.0, p ∷ g.1)) found.1)
    ∙ inner_is l m N p n down at

-- ---- the root
pub entries_read : (root : ℕ) (P : Pages) (o : Option Found) → o ≡ root_found root P → option_map (λ (f : Found). f.0) o ≡ read_tree root P
unfolding read_tree
entries_read root P o e = ap (option_map (λ (f : Found). f.0)) e ∙ by (is_root (nodes P) root)
  where
    by : (b : Bool) → option_map (λ (f : Found). f.0) (cond b (Some (tree_items (nodes P) root, tree_met root P)) None) ≡ cond b (Some (tree_items (nodes P) root)) None
    by true = refl
    by false = refl

-- ---- pages that differ
same_number : (x y : ℕ) → nat_eq y x ≡ nat_eq x y
same_number x y = grind (arith, nat_tests)

any_has : (x : ℕ) (ys : List ℕ) → list_any (λ y. nat_eq y x) ys ≡ has x ys
any_has x [] = refl
any_has x (y ∷ ys) = (λ i. same_number x y i || any_has x ys i)

-- the first of some pages stands again
pub apart_twice : (x : ℕ) (xs rest all : List ℕ) → rest ≡ x ∷ xs → is_apart rest ≡ is_apart all → list_any (λ y. nat_eq y x) xs ≡ true → false ≡ is_apart all
apart_twice x xs rest all is same there = ap (λ b. not b && is_apart xs) (sym (sym (any_has x xs) ∙ there)) ∙ ap is_apart (sym is) ∙ same

-- it doesn't
pub apart_later : (x : ℕ) (xs rest all : List ℕ) → rest ≡ x ∷ xs → is_apart rest ≡ is_apart all → list_any (λ y. nat_eq y x) xs ≡ false → is_apart xs ≡ is_apart all
apart_later x xs rest all is same there = ap (λ b. not b && is_apart xs) (sym (sym (any_has x xs) ∙ there)) ∙ ap is_apart (sym is) ∙ same
