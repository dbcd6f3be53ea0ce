-- A tree as a checker reads it out of the pages that a Ctx holds.
use Rattle.std.specs.Prelude.{◌≡◌, ℕ, true, List, map, Some}
use Rattle.std.specs.Borrow.{Bor}
use Rattle.sb_node.specs.declared.head.Head.{Head}
use Rattle.sb_node.specs.Entries.{Entry}
use Rattle.sb_node.specs.Page.{has_form, node_in}
use Rattle.sb_node.specs.Walk.{entry_read}
use Rattle.sb_forms.specs.Pages.{Pages, no_pages}
use Rattle.sb_forms.specs.Tree.{Child, Nodes, nodes}
use Rattle.sb_ctx.specs.View.{View, stored}
use Rattle.sb_method_tests.specs.Found.{Found}
use Rattle.sb_method_tests.specs.declared.checker.Tree.{Tree}

-- the pages that a Ctx holds, as they are now, and no others
abbrev pub held_pages : View → Pages
held_pages c = stored c no_pages

abbrev pub held_nodes : View → Nodes
held_nodes c = nodes (held_pages c)

abbrev pub entries_in : Tree → List Entry
entries_in tree = map entry_read tree.entries.items

abbrev pub found_in : Tree → Found
found_in tree = (entries_in tree, tree.pages.items)

-- a child in a list of borrowed ones
abbrev pub child_read : Bor (List ℕ) × ℕ → Child
child_read child = (child.0.now, child.1)

-- a page is held with these bytes, which are an entry page with this head
pub record IsNodeAt (c : View) (page : ℕ) (bytes : List ℕ) (head : Head) : Type 0 where
  pub form : has_form bytes ≡ true
  pub node_is : held_nodes c page ≡ Some (node_in bytes)
  pub head_is : head ≡ (node_in bytes).head
