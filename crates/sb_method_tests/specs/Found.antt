-- What is to be found of a tree: its entries, and the pages that it meets.
use Rattle.std.specs.Prelude.{◌≡◌, ℕ, ◌<◌, ◌≤◌, ◌&&◌, false, true, Bool, cond, nat_lt, is_some, List, length, Option, Some, None}
use Rattle.sb_node.specs.Entries.{Entry}
use Rattle.sb_node.specs.Page.{Node}
use Rattle.sb_forms.specs.Pages.{Pages}
use Rattle.sb_forms.specs.Read.{are_children, goes_to, is_full, is_inner, is_root, is_tree, is_upto, is_within}
use Rattle.sb_forms.specs.Tree.{Child, Nodes, children_of, items, level_of, met, nodes, over, tree_items}
use Rattle.sb_forms.specs.TreePages.{tree_met}

abbrev pub Found : Type 0
Found = List Entry × List ℕ

-- the tree at a root, where there is one
abbrev pub root_found : ℕ → Pages → Option Found
root_found root P = cond (is_root (nodes P) root) (Some (tree_items (nodes P) root, tree_met root P)) None

-- the tree of a level at a page
abbrev pub tree_found : ℕ → Nodes → ℕ → Option Found
tree_found l N p = cond (is_tree l N p) (Some (items l N p, met l N p)) None

-- the trees of neighbours
abbrev pub children_found : ℕ → Nodes → List Child → Option Found
children_found l N ks = cond (are_children (λ c. is_tree l N c && is_full N c) (items l N) None ks) (Some (over (items l N) ks, over (met l N) ks)) None

-- a child's page has an entry, and its keys lie between its bound and the next one
abbrev pub is_child : Nodes → Child → Option (List ℕ) → List Entry → Bool
is_child N k high es = is_full N k.1 && (is_within k.0 high es && goes_to k.0 high)

-- the tree of a child with its bound and the next one
abbrev pub child_found : ℕ → Nodes → Child → Option (List ℕ) → Option Found
child_found l N k high = cond (is_tree l N k.1 && is_child N k high (items l N k.1)) (Some (items l N k.1, met l N k.1)) None

-- the level of a root; there is none where the page is no root's
abbrev pub IsRootLevel : Option Node → Option ℕ → Type 0
IsRootLevel o (Some level) = (level ≡ level_of o) × (is_upto level 16 ≡ true)
IsRootLevel o None = (is_some o && is_upto (level_of o) 16) ≡ false

-- an inner page of this level has an entry, and these children
pub record AreChildrenOf (l : ℕ) (n : Node) (children : List Child) : Type 0 where
  pub inner : is_inner l (Some n) ≡ true
  pub full : 0 < length n.entries
  pub are : children ≡ children_of (Some n)
  pub few : length children ≤ 65536

abbrev pub HasChildren : ℕ → Node → Option (List Child) → Type 0
HasChildren l n (Some children) = AreChildrenOf l n children
HasChildren l n None = (is_inner l (Some n) && nat_lt 0 (length n.entries)) ≡ false
