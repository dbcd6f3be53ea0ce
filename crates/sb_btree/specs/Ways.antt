-- The pages on the ways down a tree.
use Rattle.std.specs.Prelude.{ℕ, zero, suc, ◌≡◌, ◌≤◌, Bool, true, List, [], ◌∷◌, ◌++◌, length, Option, Some, None}
use Rattle.std.specs.List.{find as first}
use Rattle.sb_forms.specs.Pages.{Pages}
use Rattle.sb_node.specs.Entries.{Entry, is_below}
use Rattle.sb_node.specs.Page.{Node}
use Rattle.sb_forms.specs.Tree.{Nodes, nodes, items, met, level_of, child_in}
use Rattle.sb_forms.specs.Read.{has, read_tree}

-- the child in which a key stands, or the leftmost one
abbrev pub child_on : Option (List ℕ) → Option Node → ℕ
child_on key None = 0
child_on None (Some n) = n.head.a
child_on (Some key) (Some n) = child_in key (Some n)

-- the pages on the way down to a key, or to the leftmost leaf
abbrev pub way : ℕ → Nodes → Option (List ℕ) → ℕ → List ℕ
way zero N key p = p ∷ []
way (suc l) N key p = p ∷ way l N key (child_on key (N p))

-- an entry behind a key, or any entry
abbrev pub is_behind : Option (List ℕ) → Entry → Bool
is_behind None e = true
is_behind (Some key) e = is_below key e.0

abbrev pub way_to : ℕ → Nodes → Option Entry → ℕ → List ℕ
way_to l N None p = []
way_to l N (Some e) p = way l N (Some e.0) p

-- the pages on the way down to a key, and on that to the first entry behind it
abbrev pub next_ways : ℕ → Nodes → Option (List ℕ) → ℕ → List ℕ
next_ways l N after p = way l N after p ++ way_to l N (first (is_behind after) (items l N p)) p

-- ---- over the pages of an instance
abbrev pub tree_way : ℕ → Pages → Option (List ℕ) → List ℕ
tree_way root P key = way (level_of (nodes P root)) (nodes P) key root

abbrev pub is_on_way : ℕ → Pages → Option (List ℕ) → ℕ → Bool
is_on_way root P key n = has n (tree_way root P key)

abbrev pub is_on_next_ways : ℕ → Pages → Option (List ℕ) → ℕ → Bool
is_on_next_ways root P after n = has n (next_ways (level_of (nodes P root)) (nodes P) after root)

-- a way down a tree has at most 17 pages, and the tree meets them
abbrev pub WaysAreShort : Type 0
WaysAreShort =
    (P : Pages) (root : ℕ) (es : List Entry) → read_tree root P ≡ Some es → (key : Option (List ℕ))
    → (length (tree_way root P key) ≤ 17) × ((n : ℕ) → is_on_way root P key n ≡ true → has n (met (level_of (nodes P root)) (nodes P) root) ≡ true)
