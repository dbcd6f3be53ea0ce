-- Held pages that keep a walk from being one over a tree.
use Rattle.std.specs.Prelude.{ℕ, zero, suc, ◌≡◌, ◌&&◌, ◌||◌, not, Bool, true, false, cond, nat_eq, nat_lt, List, [], ◌∷◌, length, Option, Some, None}
use Rattle.sb_forms.specs.Pages.{Pages}
use Rattle.sb_ctx.specs.View.{HeldPages, AreSomeOf}
use Rattle.sb_node.specs.declared.head.Head.{Head}
use Rattle.sb_node.specs.Entries.{Entry}
use Rattle.sb_node.specs.Page.{Node, node_of}
use Rattle.sb_forms.specs.Tree.{Child, children_of, level_of}
use Rattle.sb_forms.specs.Read.{all_by, is_small, is_bound, read_tree}

-- the node of a page, where it is held and is an entry page
abbrev pub held_node : Option (List ℕ) → Option Node
held_node None = None
held_node (Some bytes) = node_of bytes

-- a leaf at level 0, or an inner page of a level above
abbrev pub is_of_level : ℕ → Head → Bool
is_of_level l head = nat_eq head.kind (cond (nat_eq l 0) 2 3) && nat_eq head.level l

-- the entries of a leaf are small, and those of an inner page are bounds
abbrev pub are_of_level : ℕ → List Entry → Bool
are_of_level l es = all_by (cond (nat_eq l 0) is_small is_bound) es

abbrev pub is_page : ℕ → Option Node → Bool
is_page l None = false
is_page l (Some n) = is_of_level l n.head && are_of_level l n.entries

-- a page is held, and isn't one of this level, whatever its entries are
abbrev pub is_unlike : ℕ → Option (List ℕ) → Bool
is_unlike l None = false
is_unlike l (Some bytes) = elim (node_of bytes) [ None ↦ true | Some n ↦ not (is_of_level l n.head) ]

-- an inner page without an entry has one child alone
abbrev pub is_narrow : ℕ → Option Node → Bool
is_narrow l None = false
is_narrow l (Some n) = not (nat_eq l 0) && nat_eq (length n.entries) 0

-- a page is held, and isn't one of this level, or has one child alone
abbrev pub is_amiss : ℕ → Option (List ℕ) → Bool
is_amiss l None = false
is_amiss l (Some bytes) = not (is_page l (node_of bytes)) || is_narrow l (node_of bytes)

-- the children of a page that is of this level
abbrev pub children_at : ℕ → Option Node → List Child
children_at l None = []
children_at l (Some n) = cond (is_of_level l n.head) (children_of (Some n)) []

abbrev pub any_by : {A : Type 0} → (A → Bool) → List A → Bool
any_by t [] = false
any_by t (x ∷ xs) = t x || any_by t xs

-- a page n, met on a way down from a page p that is to be of this level, isn't of its own level as it is held
abbrev pub breaks_below : ℕ → HeldPages → ℕ → ℕ → Bool
breaks_below zero held p n = nat_eq p n && is_amiss 0 (held p)
breaks_below (suc l) held p n =
    (nat_eq p n && is_amiss (suc l) (held p)) || any_by (λ child. breaks_below l held child.1 n) (children_at (suc l) (held_node (held p)))

-- a root is held, and isn't an entry page of a level up to 16
abbrev pub is_no_root : Option (List ℕ) → Bool
is_no_root None = false
is_no_root (Some bytes) = elim (node_of bytes) [ None ↦ true | Some n ↦ nat_lt 16 n.head.level ]

-- a held page n isn't of the form that it should have where it is met on a way down from the root
abbrev pub breaks : ℕ → HeldPages → ℕ → Bool
breaks root held n = cond (is_no_root (held root)) (nat_eq root n) (breaks_below (level_of (held_node (held root))) held root n)

-- pages that are a tree have no such page
abbrev pub TreesAreWhole : Type 0
TreesAreWhole =
    (P : Pages) (root : ℕ) (es : List Entry) → read_tree root P ≡ Some es
    → (held : HeldPages) (n : ℕ) → AreSomeOf held P → breaks root held n ≡ false
