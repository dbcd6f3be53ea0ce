-- The tests say what they test, and the items of a tree rise.
use Rattle.std.proofs.Common.{◌≡◌, ℕ, suc, zero, ◌+◌, ◌≤◌, Bool, true, false, cond, not, ◌&&◌, List, [], ◌∷◌, ◌++◌, length, Option, Some, None, refl, ap, sym, subst, T, Decides}
use Rattle.std.specs.Prelude.{nat_eq, nat_lt}
use Rattle.std.specs.List.{AllByRecursion}
use Rattle.std.specs.Ordering.{is_lt}
use Rattle.std.specs.FinMap.Entries.{is_sorted, below_all}
use Rattle.std.proofs.lemmas.Bool.Decides.{Decides-and, Decides-eqb, Decides-ltb, Decides-not, Decides-or}
use Rattle.std.proofs.lemmas.Bool.{and_parts, le-ltb, ltb-false, not-true, not_from_false}
use Rattle.std.proofs.lemmas.Option.{cond_some}
use Rattle.std.proofs.lemmas.List.{append-nil}
use Rattle.sb_forms.specs.Pages.{Pages}
use Rattle.sb_node.specs.Entries.{Entry, key_cmp, is_below}
use Rattle.sb_node.specs.Page.{Node, has_form, node_in, node_of}
use Rattle.sb_node.proofs.Sizes.{both, first, head_counts, second}
use Rattle.sb_forms.specs.Tree.{Nodes, nodes, Child, children_of, entries_of, over, items, met, IsUnder, IsWithin, next_low, GoesTo, AreChildren, IsSmall, IsLeaf, IsBound, IsInner, IsChild, IsTree, Has, Apart, IsRoot, level_of, tree_items}
use Rattle.sb_forms.specs.Read.{all_by, is_upto, is_small, is_leaf, is_bound, is_inner, is_full, is_under, goes_to, is_within, are_children, is_tree, has, is_apart, is_root, read_tree, ReadsTrees}
use Rattle.sb_btree.proofs.Order.{below-upto}
use Rattle.sb_btree.proofs.Children.{children_above}

three : {P Q R : Type 0} (a b c : Bool) → Decides a P → Decides b Q → Decides c R → Decides (a && (b && c)) (P × Q × R)
three a b c p q r = (λ e. let f = and_parts a (b && c) e in let g = and_parts b c f.1 in (p.0 f.0, q.0 g.0, r.0 g.1), λ h. (λ i. p.1 h.0 i && (q.1 h.1 i && r.1 h.2 i)))

four : {P Q R S : Type 0} (a b c d : Bool) → Decides a P → Decides b Q → Decides c R → Decides d S → Decides (a && (b && (c && d))) (P × Q × R × S)
four a b c d p q r s = (λ e. let f = and_parts a (b && (c && d)) e in let g = and_parts b (c && d) f.1 in let h = and_parts c d g.1 in (p.0 f.0, q.0 g.0, r.0 h.0, s.0 h.1), λ h. (λ i. p.1 h.0 i && (q.1 h.1 i && (r.1 h.2 i && s.1 h.3 i))))

upto_says : (a b : ℕ) → Decides (not (nat_lt b a)) (a ≤ b)
upto_says a b = (λ e. ltb-false b a (not-true (nat_lt b a) e), λ h. not_from_false (nat_lt b a) (le-ltb b a h))

not_says : (b : Bool) → Decides (not b) (b ≡ false)
not_says b = (not-true b, not_from_false b)

false_says : Decides false ⊥
false_says = (λ e. absurd (cc), λ h. absurd h)

pub all_says : {A : Type 0} (t : A → Bool) (P : A → Type 0) → ((x : A) → Decides (t x) (P x)) → (xs : List A) → Decides (all_by t xs) (AllByRecursion P xs)
all_says t P f [] = (λ e. tt, λ h. refl)
all_says t P f (x ∷ xs) = Decides-and (t x) (all_by t xs) (f x) (all_says t P f xs)

pub small_says : (e : Entry) → Decides (is_small e) (IsSmall e)
small_says e = Decides-and (is_upto (length e.0) 602) (is_upto (length e.0 + length e.1) 2032) (upto_says (length e.0) 602) (upto_says (length e.0 + length e.1) 2032)

leaf_says : (o : Option Node) → Decides (is_leaf o) (IsLeaf o)
leaf_says None = false_says
leaf_says (Some n) =
    three (nat_eq n.head.kind 2) (nat_eq n.head.level 0) (all_by is_small n.entries) (Decides-eqb n.head.kind 2) (Decides-eqb n.head.level 0) (all_says is_small IsSmall small_says n.entries)

pub bound_says : (e : Entry) → Decides (is_bound e) (IsBound e)
bound_says e = Decides-and (nat_eq (length e.1) 4) (is_upto (length e.0) 602) (Decides-eqb (length e.1) 4) (upto_says (length e.0) 602)

inner_says : (l : ℕ) (o : Option Node) → Decides (is_inner l o) (IsInner l o)
inner_says l None = false_says
inner_says l (Some n) =
    three (nat_eq n.head.kind 3) (nat_eq n.head.level l) (all_by is_bound n.entries) (Decides-eqb n.head.kind 3) (Decides-eqb n.head.level l) (all_says is_bound IsBound bound_says n.entries)

under_says : (high : Option (List ℕ)) (key : List ℕ) → Decides (is_under high key) (IsUnder high key)
under_says None key = (λ e. tt, λ h. refl)
under_says (Some high) key = (λ e. e, λ e. e)

goes_says : (low : List ℕ) (high : Option (List ℕ)) → Decides (goes_to low high) (GoesTo low high)
goes_says low None = (λ e. tt, λ h. refl)
goes_says low (Some high) = not_says (is_below high low)

within_says : (low : List ℕ) (high : Option (List ℕ)) (es : List Entry) → Decides (is_within low high es) (IsWithin low high es)
within_says low high es = all_says (λ (e : Entry). not (is_below e.0 low) && is_under high e.0) (λ (e : Entry). (is_below e.0 low ≡ false) × IsUnder high e.0) (λ e. Decides-and (not (is_below e.0 low)) (is_under high e.0) (not_says (is_below e.0 low)) (under_says high e.0)) es

children_say : (t : ℕ → Bool) (P : ℕ → Type 0) (f : ℕ → List Entry) → ((c : ℕ) → Decides (t c) (P c)) → (high : Option (List ℕ)) (ks : List Child) → Decides (are_children t f high ks) (AreChildren P f high ks)
children_say t P f s high [] = (λ e. tt, λ h. refl)
children_say t P f s high (k ∷ ks) = four (t k.1) (is_within k.0 (next_low high ks) (f k.1)) (goes_to k.0 (next_low high ks)) (are_children t f high ks) (s k.1) (within_says k.0 (next_low high ks) (f k.1)) (goes_says k.0 (next_low high ks)) (children_say t P f s high ks)

pub tree_says : (l : ℕ) (N : Nodes) (p : ℕ) → Decides (is_tree l N p) (IsTree l N p)
tree_says zero N p = leaf_says (N p)
tree_says (suc l) N p =
    three (is_inner (suc l) (N p)) (is_full N p) (are_children (λ c. is_tree l N c && is_full N c) (items l N) None (children_of (N p)))
    (inner_says (suc l) (N p)) (Decides-ltb 0 (length (entries_of (N p))))
    (children_say (λ c. is_tree l N c && is_full N c) (IsChild l N) (items l N) (λ c. Decides-and (is_tree l N c) (is_full N c) (tree_says l N c) (Decides-ltb 0 (length (entries_of (N c))))) None (children_of (N p)))

pub has_says : (x : ℕ) (ys : List ℕ) → Decides (has x ys) (Has x ys)
has_says x [] = false_says
has_says x (y ∷ ys) = Decides-or (nat_eq x y) (has x ys) (Decides-eqb x y) (has_says x ys)

apart_says : (xs : List ℕ) → Decides (is_apart xs) (Apart xs)
apart_says [] = (λ e. tt, λ h. refl)
apart_says (x ∷ xs) = Decides-and (not (has x xs)) (is_apart xs) (Decides-not (has x xs) (has_says x xs)) (apart_says xs)

pub root_says : (N : Nodes) (root : ℕ) → Decides (is_root N root) (IsRoot N root)
root_says N root =
    let l = level_of (N root) in
    let s = three (is_tree l N root) (not (nat_lt 16 l)) (is_apart (met l N root)) (tree_says l N root) (upto_says l 16) (apart_says (met l N root)) in
    (λ e. let h = s.0 e in record { tree = h.0; shallow = h.1; apart = h.2 }, λ r. s.1 (r.tree, r.shallow, r.apart))

-- ---- the entries are sorted

is_T : (x y : List ℕ) → is_below x y ≡ true → T (is_lt (key_cmp x y))
unfolding is_below
is_T x y e = subst T (sym e) tt

below_append : (x : List ℕ) (xs ys : List Entry) → T (below_all key_cmp x xs) → AllByRecursion (λ e. is_below x e.0 ≡ true) ys → T (below_all key_cmp x (xs ++ ys))
below_append x [] [] h g = tt
below_append x [] (y ∷ ys) h g = both _ _ (is_T x y.0 g.0) (below_append x [] ys tt g.1)
below_append x (e ∷ xs) ys h g = both _ _ (first _ _ h) (below_append x xs ys (second _ _ h) g)

all_up : (x mid : List ℕ) (ys : List Entry) → is_below x mid ≡ true → AllByRecursion (λ e. is_below e.0 mid ≡ false) ys → AllByRecursion (λ e. is_below x e.0 ≡ true) ys
all_up x mid [] p h = tt
all_up x mid (y ∷ ys) p h = (below-upto x mid y.0 p h.0, all_up x mid ys p h.1)

sorted_append : (mid : List ℕ) (xs ys : List Entry) → T (is_sorted key_cmp xs) → T (is_sorted key_cmp ys) → AllByRecursion (λ e. is_below e.0 mid ≡ true) xs → AllByRecursion (λ e. is_below e.0 mid ≡ false) ys → T (is_sorted key_cmp (xs ++ ys))
sorted_append mid [] ys a b l h = b
sorted_append mid (x ∷ xs) ys a b l h = both _ _ (below_append x.0 xs ys (first _ _ a) (all_up x.0 mid ys l.0 h)) (sorted_append mid xs ys (second _ _ a) b l.1 h)

pub unders : (low mid : List ℕ) (es : List Entry) → IsWithin low (Some mid) es → AllByRecursion (λ e. is_below e.0 mid ≡ true) es
unders low mid [] h = tt
unders low mid (e ∷ es) h = (h.0.1, unders low mid es h.1)

nil_append : (es : List Entry) → T (is_sorted key_cmp es) → T (is_sorted key_cmp (es ++ []))
nil_append es h = subst (λ xs. T (is_sorted key_cmp xs)) (sym (append-nil es)) h

children_sorted : (P : ℕ → Type 0) (f : ℕ → List Entry) → ((c : ℕ) → P c → T (is_sorted key_cmp (f c))) → (high : Option (List ℕ)) (ks : List Child) → AreChildren P f high ks → T (is_sorted key_cmp (over f ks))
children_sorted P f s high [] h = tt
children_sorted P f s high (k ∷ []) h = nil_append (f k.1) (s k.1 h.0)
children_sorted P f s high (k ∷ j ∷ ks) h = sorted_append j.0 (f k.1) (over f (j ∷ ks)) (s k.1 h.0) (children_sorted P f s high (j ∷ ks) h.3) (unders k.0 j.0 (f k.1) h.1) (children_above P f high j ks h.3)

page_sorted : (b : List ℕ) → T (is_sorted key_cmp (entries_of (node_of b)))
page_sorted b = elim (has_form b) as (λ t. has_form b ≡ t → T (is_sorted key_cmp (entries_of (cond t (Some (node_in b)) None)))) [
  | true ↦ λ e. subst T (sym (head_counts b e).rising) tt
  | false ↦ λ e. tt
] refl

pub tree_sorted : (P : Pages) (l p : ℕ) → IsTree l (nodes P) p → T (is_sorted key_cmp (items l (nodes P) p))
tree_sorted P zero p t = page_sorted (P p)
tree_sorted P (suc l) p t = children_sorted (IsChild l (nodes P)) (items l (nodes P)) (λ c h. tree_sorted P l c h.0) None (children_of (nodes P p)) t.2

-- ---- so the reading by tests is that of trees
read_is : (P : Pages) (root : ℕ) → IsRoot (nodes P) root → read_tree root P ≡ Some (tree_items (nodes P) root)
unfolding read_tree
read_is P root r = ap (λ t. cond t (Some (tree_items (nodes P) root)) None) ((root_says (nodes P) root).1 r)

pub read_root : (P : Pages) (root : ℕ) (es : List Entry) → read_tree root P ≡ Some es → IsRoot (nodes P) root × (es ≡ tree_items (nodes P) root)
unfolding read_tree
read_root P root es e =
    let parts = cond_some (is_root (nodes P) root) (tree_items (nodes P) root) es e in
    ((root_says (nodes P) root).0 parts.0, sym parts.1)

pub reads_trees : ReadsTrees
reads_trees P root = (read_is P root, read_root P root)
