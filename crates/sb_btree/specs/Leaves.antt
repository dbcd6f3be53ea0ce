-- Entries in the leaves that have them.
use Rattle.std.specs.Prelude.{ℕ, zero, suc, ◌≡◌, Bool, true, nat_eq, List, Option, Some, option_map, slice_get}
use Rattle.std.specs.FinMap.Entries.{find}
use Rattle.std.specs.List.{list_all}
use Rattle.sb_forms.specs.Pages.{Pages}
use Rattle.sb_forms.specs.Read.{read_tree}
use Rattle.sb_forms.specs.Tree.{entries_of, level_of}
use Rattle.sb_ctx.specs.View.{HeldPages, AreSomeOf}
use Rattle.sb_node.specs.Entries.{Entry, key_cmp}
use Rattle.sb_node.specs.Page.{Node}
use Rattle.sb_btree.specs.Broken.{any_by, children_at, held_node}
use Rattle.sb_btree.specs.declared.lookup.LeafEntry.{LeafEntry}
use Rattle.sb_btree.specs.declared.walk.Walk.{Walk}
use Rattle.sb_btree.specs.declared.walk.Walk.TheVariants.{Ready}

-- an entry in a leaf, without the leaf and with it
abbrev pub entry_in : LeafEntry → Entry
entry_in f = (f.key, f.value)

abbrev pub in_leaf : ℕ → Entry → LeafEntry
in_leaf leaf e = record { leaf = leaf; key = e.0; value = e.1 }

-- the entry of a key
abbrev pub entry_at : List ℕ → List Entry → Option Entry
entry_at key es = option_map (λ value. (key, value)) (find key_cmp key es)

-- the pages that are held lead from a page of this level down to a leaf n
abbrev pub leads_below : ℕ → HeldPages → ℕ → ℕ → Bool
leads_below zero held p n = nat_eq p n
leads_below (suc l) held p n = any_by (λ child. leads_below l held child.1 n) (children_at (suc l) (held_node (held p)))

-- they lead there from a root
abbrev pub leads_to : ℕ → HeldPages → ℕ → Bool
leads_to root held n = leads_below (level_of (held_node (held root))) held root n

-- an entry stands at a place of a held leaf to which they lead
pub record IsInLeaf (leads : ℕ → Bool) (held : HeldPages) (f : LeafEntry) : Type 0 where
  pub led : leads f.leaf ≡ true
  pub node : Node
  pub node_is : held_node (held f.leaf) ≡ Some node
  pub place : ℕ
  pub at : slice_get node.entries place ≡ Some (entry_in f)

-- what is so of an entry that a walk found
abbrev pub Finds : (LeafEntry → Type 0) → Walk (Option LeafEntry) → Type 0
Finds IsSo (Ready (Some f)) = IsSo f
Finds IsSo walk = Unit {0}

-- such a leaf has entries of the tree alone, where the held pages are a tree's
abbrev pub LeavesAreWhole : Type 0
LeavesAreWhole =
    (P : Pages) (root : ℕ) (es : List Entry) → read_tree root P ≡ Some es → (test : Entry → Bool) → list_all test es ≡ true
    → (held : HeldPages) (n : ℕ) → AreSomeOf held P → leads_to root held n ≡ true → list_all test (entries_of (held_node (held n))) ≡ true
