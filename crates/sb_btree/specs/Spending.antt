-- How many pages a tree has, and what a change of it takes.
use Rattle.std.specs.Prelude.{ℕ, ◌≡◌, ◌+◌, ◌-◌, ◌*◌, ◌<◌, ◌≤◌, cond, List, length, filter, Option, Some, None, Result, Ok, Err}
use Rattle.sb_ctx.specs.Bounds.{plain_bound}
use Rattle.sb_forms.specs.Pages.{Pages}
use Rattle.sb_forms.specs.Read.{read_tree}
use Rattle.sb_forms.specs.Tree.{Nodes, entries_of, items, met}
use Rattle.sb_forms.specs.TreePages.{tree_met}
use Rattle.sb_ctx.specs.View.{View, held_at, is_edited, fresh_pages}
use Rattle.sb_node.specs.Entries.{Entry}
use Rattle.sb_node.specs.Page.{Node}
use Rattle.sb_btree.specs.declared.insertion.Put.{Put}
use Rattle.sb_btree.specs.declared.insertion.Put.TheVariants as put
use Rattle.sb_btree.specs.declared.removal.Taken.{Taken}
use Rattle.sb_btree.specs.declared.removal.Taken.TheVariants.{Done, Empty, Single, Split}
use Rattle.sb_btree.specs.declared.walk.Stop.{Stop}
use Rattle.sb_btree.specs.declared.walk.Stop.TheVariants as stop
use Rattle.sb_btree.specs.declared.walk.Walk.{Walk}
use Rattle.sb_btree.specs.declared.walk.Walk.TheVariants.{Fresh}

-- a tree has at most so many pages for its entries
abbrev pub TreesAreSmall : Type 0
TreesAreSmall = (P : Pages) (root : ℕ) (es : List Entry) → read_tree root P ≡ Some es → length (tree_met root P) ≤ plain_bound (length es)

-- how many fresh pages are taken
abbrev pub taken_of : View → ℕ
taken_of c = length (filter (λ e. e.1) (fresh_pages c))

-- A fresh page is asked for only where these pages and those that were taken in the call are fewer than so many.
abbrev pub AsksWithin : {T : Type 0} → ℕ → ℕ → View → View → Walk T → Type 0
AsksWithin most pages old new Fresh = pages + taken_of new < taken_of old + most
AsksWithin most pages old new walk = Unit {0}

-- ---- below the root
-- the pages that a page of a level met and those that were taken are fewer than twice its entries
abbrev pub AreFew : ℕ → Nodes → ℕ → View → View → Type 0
AreFew l N page old new = length (met l N page) + taken_of new < taken_of old + 2 * length (items l N page)

-- so where the page was split, or a fresh page is asked for below it
abbrev pub PutsWithin : ℕ → Nodes → ℕ → View → View → Result Put Stop → Type 0
PutsWithin l N page old new (Ok (put.Split bound next)) = AreFew l N page old new
PutsWithin l N page old new (Err stop.Fresh) = AreFew l N page old new
PutsWithin l N page old new outcome = Unit {0}

-- the same of a removal; none is taken where the page is to be given back
abbrev pub TakesWithin : ℕ → Nodes → ℕ → View → View → Result Taken Stop → Type 0
TakesWithin l N page old new (Ok Empty) = taken_of new ≤ taken_of old
TakesWithin l N page old new (Ok (Single left)) = taken_of new ≤ taken_of old
TakesWithin l N page old new (Ok (Split bound next)) = AreFew l N page old new
TakesWithin l N page old new (Err stop.Fresh) = AreFew l N page old new
TakesWithin l N page old new outcome = Unit {0}

-- edits that a removal leaves to the page above: two where an inner page is to be given back
abbrev pub spared : Result Taken Stop → ℕ
spared (Ok (Single left)) = 2
spared outcome = 0

-- ---- one page
-- 1 where the page is edited
abbrev pub written : View → ℕ → ℕ
written c page = elim (held_at c page) [ None ↦ 0 | Some h ↦ cond (is_edited h) 1 0 ]

-- one fresh page is taken, or none where one is asked for
abbrev pub TakesOne : {T : Type 0} → View → View → Result T Stop → Type 0
TakesOne old new (Ok end) = taken_of new ≡ taken_of old + 1
TakesOne old new (Err stop.Fresh) = taken_of new ≡ taken_of old
TakesOne old new (Err s) = Unit {0}

-- a page has no room for so many bytes more
abbrev pub LacksRoom : ℕ → Option Node → Type 0
LacksRoom size None = ⊥
LacksRoom size (Some n) = 4072 < n.head.used + size

-- the same of a put at a held page: a fresh page is taken where that one was split, and it has no room for so many bytes then
abbrev pub TakesAt : View → View → ℕ → Option Node → Result Put Stop → Type 0
TakesAt old new size held (Ok (put.Split bound next)) = LacksRoom size held × (taken_of new ≡ taken_of old + 1)
TakesAt old new size held (Ok p) = taken_of new ≡ taken_of old
TakesAt old new size held (Err stop.Fresh) = LacksRoom size held × (taken_of new ≡ taken_of old)
TakesAt old new size held (Err s) = Unit {0}

-- of the second half of a child, put into the page above
abbrev pub RaisesAt : View → View → Option Node → Result Taken Stop → Type 0
RaisesAt old new held (Ok Done) = Unit {0}
RaisesAt old new held (Ok (Split bound next)) = TakesAt old new 610 held (Ok (put.Split bound next))
RaisesAt old new held (Ok taken) = ⊥
RaisesAt old new held (Err stop.Fresh) = TakesAt old new 610 held (Err stop.Fresh)
RaisesAt old new held (Err s) = Unit {0}

-- of a child that goes to the page beside: at most one is taken, where that page was split
abbrev pub TakesBeside : View → View → Result Put Stop → Type 0
TakesBeside old new (Ok (put.Split bound next)) = taken_of new ≤ taken_of old + 1
TakesBeside old new (Ok p) = taken_of new ≤ taken_of old
TakesBeside old new (Err stop.Fresh) = taken_of new ≤ taken_of old
TakesBeside old new (Err s) = Unit {0}

-- of an inner page that loses a child: fewer are taken than it has entries, and none where it has one child left
abbrev pub MergesWithin : View → View → Option Node → Result Taken Stop → Type 0
MergesWithin old new held (Ok Empty) = ⊥
MergesWithin old new held (Ok (Single left)) = taken_of new ≤ taken_of old
MergesWithin old new held (Ok (Split bound next)) = taken_of new ≤ taken_of old + (length (entries_of held) - 1)
MergesWithin old new held (Err stop.Fresh) = taken_of new ≤ taken_of old + (length (entries_of held) - 1)
MergesWithin old new held outcome = Unit {0}
