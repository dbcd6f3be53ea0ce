-- What calls on a map leave of the space.
use Rattle.std.specs.Prelude.{◌≡◌, ℕ, ◌+◌, ◌*◌, ◌<◌, ◌≤◌, Bool, List, length, Some, None, Result, IfErr}
use Rattle.sb_ctx.specs.Costs.{tree_cost}
use Rattle.sb_drive.specs.declared.space.SpaceFault.{SpaceFault}
use Rattle.sb_node.specs.Entries.{Entry}
use Rattle.sb_forms.specs.Pages.{Pages}
use Rattle.sb_forms.specs.Read.{read_tree}
use Rattle.sb_forms.specs.TreePages.{tree_met}
use Rattle.sb_ctx.specs.View.{View, dropped, edits_of, free_page, stored}
use Rattle.sb_btree.specs.Inserts.{OverTrees}
use Rattle.sb_btree.specs.Spending.{taken_of}
use Rattle.sb_drive.specs.Slots.{Slots, owned}
use Rattle.sb_drive.specs.Spaces.{IsFullFor, IsRefused, Leaves, LeadsOn, LeadsWithin, UnlessDown, Wanted, WhereFull}
use Rattle.sb_map.specs.declared.place.Place.{Place}
use Rattle.sb_map.specs.Maps.{OverMap}

-- a reading call leaves all pages as they are, and no change leads there
pub record Looks {S T : Type 0} (Has : Wanted → Slots → S → Type 0) (Leads : ℕ → S → S → Type 0) (Fails : SpaceFault → S → S → Type 0)
    (old new : S) (result : Result T SpaceFault) : Type 0 where
  pub same : UnlessDown result ((want : Wanted) (s : Slots) → Has want s old → Has want s new)
  pub leads : Leads 0 old new
  pub refused : IfErr result (λ e. IsRefused (Leads 0 old new) (Fails e old new) e)

-- A walk that changes a tree, made with what it was given, asks for a fresh page: all that it was given are taken, and over all pages that with what it
-- was given are a tree, it edits no more than a change costs, and the tree's pages and the taken ones are fewer than twice its entries.
pub record IsAsking (root : ℕ) (c : View) : Type 0 where
  pub taken : free_page c ≡ None
  pub edits : OverTrees (dropped c) root (λ P es. edits_of c ≤ tree_cost (length es))
  pub room : OverTrees (dropped c) root (λ P es. length (tree_met root (stored (dropped c) P)) + taken_of c < 2 * length es)

-- a walk that asks for no fresh page, whatever it is given
abbrev pub NeverAsks : View → Type 0
NeverAsks c = ⊥

-- over pages that are a tree those of the tree and the taken ones are fewer than twice its entries
abbrev pub IsWithin : ℕ → Pages → View → Type 0
IsWithin root P c = (es : List Entry) → read_tree root P ≡ Some es → length (tree_met root P) + taken_of c < 2 * length es

-- A changing call leaves the pages of all other owners as they are, and makes no more changes than an operation on a tree costs. A page is wanting only
-- where its walk asked for one, none was left before any change, and the walk was within its room.
pub record Works {S T : Type 0} (Has : Wanted → Slots → S → Type 0) (Leads : ℕ → S → S → Type 0) (Fails : SpaceFault → S → S → Type 0)
    (durable : S → Bool) (total : S → ℕ) (place : Place) (Asks : View → Type 0) (old new : S) (result : Result T SpaceFault) : Type 0 where
  pub others : UnlessDown result ((want : Wanted) (s : Slots) → Has want s old → Leaves Has place.owner want s new (λ after. Unit {0}))
  pub full : IfErr result (λ e. (want : Wanted) (s : Slots) → Has want s old
      → WhereFull e (IsFullFor Leads durable total place.owner Asks (IsWithin place.root (owned s place.owner)) old s e))
  pub leads : LeadsOn Leads old new
  pub costs : OverMap Has place old (λ es. LeadsWithin Leads (tree_cost (length es)) old new)
  pub refused : IfErr result (λ e. IsRefused (Leads 0 old new) (Fails e old new) e)
