-- A map in the pages of an instance: a tree of entries.
use Rattle.std.specs.Prelude.{ℕ, cond, List, Option, None}
use Rattle.sb_node.specs.Entries.{Entry}
use Rattle.sb_forms.specs.Pages.{Pages}
use Rattle.sb_forms.specs.Read.{read_tree}
use Rattle.sb_forms.specs.TreePages.{is_all}

-- the entries of these pages, where they are a tree that meets them all
unfoldable pub map_in : ℕ → Pages → Option (List Entry)
map_in root P = cond (is_all root P) (read_tree root P) None
