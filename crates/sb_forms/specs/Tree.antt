-- A tree of entry pages, and the entries that it has.
use Rattle.std.specs.Prelude.{ℕ, zero, suc, ◌≡◌, ◌+◌, ◌<◌, ◌≤◌, ◌⊎◌, true, false, cond, List, [], ◌∷◌, ◌++◌, length, map, Option, Some, None}
use Rattle.std.specs.List.{AllByRecursion}
use Rattle.sb_bytes.specs.Field.{number_at}
use Rattle.sb_forms.specs.Pages.{Pages}
use Rattle.sb_node.specs.Entries.{Entry, is_below}
use Rattle.sb_node.specs.Page.{Node, node_of}

-- the nodes of pages, where they are entry pages
abbrev pub Nodes : Type 0
Nodes = ℕ → Option Node

abbrev pub nodes : Pages → Nodes
nodes P n = node_of (P n)

-- the least key allowed in a child, and the child's page
abbrev pub Child : Type 0
Child = List ℕ × ℕ

abbrev pub child_of : Entry → Child
child_of e = (e.0, number_at 4 e.1 0)

-- the leftmost child may have any key, and no key is below the empty one
abbrev pub children_of : Option Node → List Child
children_of None = []
children_of (Some n) = ([], n.head.a) ∷ map child_of n.entries

abbrev pub entries_of : Option Node → List Entry
entries_of None = []
entries_of (Some n) = n.entries

abbrev pub level_of : Option Node → ℕ
level_of None = 0
level_of (Some n) = n.head.level

-- what the children have, in order
abbrev pub over : {A : Type 0} → (ℕ → List A) → List Child → List A
over f [] = []
over f (k ∷ ks) = f k.1 ++ over f ks

-- the entries of the tree of this level at a page
abbrev pub items : ℕ → Nodes → ℕ → List Entry
items zero N p = entries_of (N p)
items (suc l) N p = over (items l N) (children_of (N p))

-- the pages that it meets
abbrev pub met : ℕ → Nodes → ℕ → List ℕ
met zero N p = p ∷ []
met (suc l) N p = p ∷ over (met l N) (children_of (N p))

-- ---- keys between bounds
abbrev pub IsUnder : Option (List ℕ) → List ℕ → Type 0
IsUnder None key = Unit {0}
IsUnder (Some high) key = is_below key high ≡ true

abbrev pub IsWithin : List ℕ → Option (List ℕ) → List Entry → Type 0
IsWithin low high es = AllByRecursion (λ e. (is_below e.0 low ≡ false) × IsUnder high e.0) es

-- the bound of the next child, or the last one
abbrev pub next_low : Option (List ℕ) → List Child → Option (List ℕ)
next_low high [] = high
next_low high (k ∷ ks) = Some k.0

-- a bound isn't above the next one
abbrev pub GoesTo : List ℕ → Option (List ℕ) → Type 0
GoesTo low None = Unit {0}
GoesTo low (Some high) = is_below high low ≡ false

-- each child is so, and its keys lie between its bound and the next one's
abbrev pub AreChildren : (ℕ → Type 0) → (ℕ → List Entry) → Option (List ℕ) → List Child → Type 0
AreChildren IsSo f high [] = Unit {0}
AreChildren IsSo f high (k ∷ ks) = IsSo k.1 × IsWithin k.0 (next_low high ks) (f k.1) × GoesTo k.0 (next_low high ks) × AreChildren IsSo f high ks

-- ---- pages by their forms
-- keys are limited to 602 bytes, and a key with its value to 2,032
abbrev pub IsSmall : Entry → Type 0
IsSmall e = (length e.0 ≤ 602) × (length e.0 + length e.1 ≤ 2032)

-- a leaf: kind 2, level 0
abbrev pub IsLeaf : Option Node → Type 0
IsLeaf None = ⊥
IsLeaf (Some n) = (n.head.kind ≡ 2) × (n.head.level ≡ 0) × AllByRecursion IsSmall n.entries

-- the least key of a child, and its page in four bytes
abbrev pub IsBound : Entry → Type 0
IsBound e = (length e.1 ≡ 4) × (length e.0 ≤ 602)

abbrev pub AreBounds : List Entry → Type 0
AreBounds = AllByRecursion IsBound

-- an inner page: kind 3, of this level
abbrev pub IsInner : ℕ → Option Node → Type 0
IsInner l None = ⊥
IsInner l (Some n) = (n.head.kind ≡ 3) × (n.head.level ≡ l) × AreBounds n.entries

-- it has an entry; an inner page has two children then
abbrev pub IsFull : Nodes → ℕ → Type 0
IsFull N p = 0 < length (entries_of (N p))

-- ---- a tree of this level; its leaf may be empty here, but those of its children aren't
abbrev pub IsTree : ℕ → Nodes → ℕ → Type 0
IsTree zero N p = IsLeaf (N p)
IsTree (suc l) N p = IsInner (suc l) (N p) × IsFull N p × AreChildren (λ c. IsTree l N c × IsFull N c) (items l N) None (children_of (N p))

-- a child of an inner page
abbrev pub IsChild : ℕ → Nodes → ℕ → Type 0
IsChild l N c = IsTree l N c × IsFull N c

abbrev pub Has : ℕ → List ℕ → Type 0
Has x [] = ⊥
Has x (y ∷ ys) = (x ≡ y) ⊎ Has x ys

-- no number stands twice
abbrev pub Apart : List ℕ → Type 0
Apart [] = Unit {0}
Apart (x ∷ xs) = (Has x xs → ⊥) × Apart xs

-- a whole tree, at most 17 pages high, which meets no page twice
pub record IsRoot (N : Nodes) (root : ℕ) : Type 0 where
  pub tree : IsTree (level_of (N root)) N root
  pub shallow : level_of (N root) ≤ 16
  pub apart : Apart (met (level_of (N root)) N root)

abbrev pub tree_items : Nodes → ℕ → List Entry
tree_items N root = items (level_of (N root)) N root

-- ---- the child in which a key stands, d where it is below the others
abbrev pub child_for : List ℕ → ℕ → List Child → ℕ
child_for key d [] = d
child_for key d (k ∷ ks) = cond (is_below key k.0) d (child_for key k.1 ks)

abbrev pub child_in : List ℕ → Option Node → ℕ
child_in key None = 0
child_in key (Some n) = child_for key n.head.a (map child_of n.entries)
