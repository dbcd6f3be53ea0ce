-- How many pages a walk over a tree asks for.
use Rattle.std.specs.Prelude.{ℕ, ◌≡◌, ◌+◌, ◌*◌, ◌≤◌, Bool, true, List, length, Option}
use Rattle.sb_forms.specs.Pages.{Pages}
use Rattle.sb_forms.specs.Read.{is_apart}
use Rattle.sb_forms.specs.Tree.{Has, nodes, level_of}
use Rattle.sb_btree.specs.Ways.{is_on_next_ways, is_on_way, tree_way}
use Rattle.sb_btree.specs.Removes.{is_on_removal_way}

-- how many levels a tree has
abbrev pub height : ℕ → Pages → ℕ
height root P = level_of (nodes P root) + 1

-- pages that differ, of which each may be asked for, are so many at most
abbrev pub AreAtMost : (ℕ → Bool) → ℕ → Type 0
AreAtMost may most = (ns : List ℕ) → is_apart ns ≡ true → ((n : ℕ) → Has n ns → may n ≡ true) → length ns ≤ most

-- the way down to a key has a page of each level, and no others are asked for on it
abbrev pub WalksAreAsHigh : Type 0
WalksAreAsHigh = (P : Pages) (root : ℕ) (key : Option (List ℕ)) → (length (tree_way root P key) ≡ height root P) × AreAtMost (is_on_way root P key) (height root P)

-- the first entry behind a key may be on another way
abbrev pub NextWalksAreShort : Type 0
NextWalksAreShort = (P : Pages) (root : ℕ) (after : Option (List ℕ)) → AreAtMost (is_on_next_ways root P after) (2 * height root P)

-- a removal may go to the page beside each one below the root
abbrev pub RemovalsAreShort : Type 0
RemovalsAreShort = (P : Pages) (root : ℕ) (key : List ℕ) → AreAtMost (is_on_removal_way root P key) (2 * level_of (nodes P root) + 1)
