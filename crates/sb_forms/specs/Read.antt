-- The items of a tree's pages, where they are formed, as a function that computes.
use Rattle.std.specs.Prelude.{ℕ, zero, suc, ◌≡◌, ◌+◌, ◌&&◌, ◌||◌, not, Bool, true, false, cond, List, [], ◌∷◌, length, Option, Some, None, nat_eq, nat_lt}
use Rattle.sb_forms.specs.Pages.{Pages}
use Rattle.sb_node.specs.Entries.{Entry, is_below}
use Rattle.sb_node.specs.Page.{Node}
use Rattle.sb_forms.specs.Tree.{Nodes, nodes, Child, children_of, entries_of, items, met, next_low, level_of, tree_items, IsRoot}

abbrev pub all_by : {A : Type 0} → (A → Bool) → List A → Bool
all_by t [] = true
all_by t (x ∷ xs) = t x && all_by t xs

abbrev pub is_upto : ℕ → ℕ → Bool
is_upto a b = not (nat_lt b a)

abbrev pub is_small : Entry → Bool
is_small e = is_upto (length e.0) 602 && is_upto (length e.0 + length e.1) 2032

abbrev pub is_leaf : Option Node → Bool
is_leaf None = false
is_leaf (Some n) = nat_eq n.head.kind 2 && (nat_eq n.head.level 0 && all_by is_small n.entries)

abbrev pub is_bound : Entry → Bool
is_bound e = nat_eq (length e.1) 4 && is_upto (length e.0) 602

abbrev pub is_inner : ℕ → Option Node → Bool
is_inner l None = false
is_inner l (Some n) = nat_eq n.head.kind 3 && (nat_eq n.head.level l && all_by is_bound n.entries)

abbrev pub is_full : Nodes → ℕ → Bool
is_full N p = nat_lt 0 (length (entries_of (N p)))

abbrev pub is_under : Option (List ℕ) → List ℕ → Bool
is_under None key = true
is_under (Some high) key = is_below key high

abbrev pub goes_to : List ℕ → Option (List ℕ) → Bool
goes_to low None = true
goes_to low (Some high) = not (is_below high low)

abbrev pub is_within : List ℕ → Option (List ℕ) → List Entry → Bool
is_within low high es = all_by (λ e. not (is_below e.0 low) && is_under high e.0) es

abbrev pub are_children : (ℕ → Bool) → (ℕ → List Entry) → Option (List ℕ) → List Child → Bool
are_children t f high [] = true
are_children t f high (k ∷ ks) =
    t k.1 && (is_within k.0 (next_low high ks) (f k.1) && (goes_to k.0 (next_low high ks) && are_children t f high ks))

abbrev pub is_tree : ℕ → Nodes → ℕ → Bool
is_tree zero N p = is_leaf (N p)
is_tree (suc l) N p =
    is_inner (suc l) (N p) && (is_full N p && are_children (λ c. is_tree l N c && is_full N c) (items l N) None (children_of (N p)))

abbrev pub has : ℕ → List ℕ → Bool
has x [] = false
has x (y ∷ ys) = nat_eq x y || has x ys

abbrev pub is_apart : List ℕ → Bool
is_apart [] = true
is_apart (x ∷ xs) = not (has x xs) && is_apart xs

abbrev pub is_root : Nodes → ℕ → Bool
is_root N root = is_tree (level_of (N root)) N root && (is_upto (level_of (N root)) 16 && is_apart (met (level_of (N root)) N root))

-- the items of the tree at a root, rising, where the pages are a tree
unfoldable pub read_tree : ℕ → Pages → Option (List Entry)
read_tree root P = cond (is_root (nodes P) root) (Some (tree_items (nodes P) root)) None

-- the tests say what a tree is
abbrev pub ReadsTrees : Type 0
ReadsTrees =
    (P : Pages) (root : ℕ) → (IsRoot (nodes P) root → read_tree root P ≡ Some (tree_items (nodes P) root))
    × ((es : List Entry) → read_tree root P ≡ Some es → IsRoot (nodes P) root × (es ≡ tree_items (nodes P) root))
