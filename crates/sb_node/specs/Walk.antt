-- What a walk over a page has still to give.
use Rattle.std.specs.Prelude.{List, ℕ}
use Rattle.std.specs.Borrow.{Bor}
use Rattle.sb_node.specs.Entries.{Entry}
use Rattle.sb_node.specs.Page.{entries_at}
use Rattle.sb_node.specs.declared.walk.Entries.{Entries}

-- the entries that the walk hasn't given yet
abbrev pub entries_left : Entries → List Entry
entries_left walk = entries_at walk.page.now walk.left walk.at

-- an entry that was given
abbrev pub entry_read : Bor (List ℕ) × Bor (List ℕ) → Entry
entry_read pair = (pair.0.now, pair.1.now)
