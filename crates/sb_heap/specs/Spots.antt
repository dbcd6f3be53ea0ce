-- Where a row goes.
use Rattle.std.specs.Prelude.{◌≡◌, ◌≢◌, ◌⊎◌, ℕ, ◌+◌, ◌-◌, ◌<◌, ◌≤◌, true, List, [], ◌∷◌, length, Option, Some, None, Result, Ok, Err}
use Rattle.sb_relation.specs.Db.{Key}
use Rattle.sb_node.specs.declared.head.Head.{Head}
use Rattle.std.specs.Int.{bytes_high_first}
use Rattle.std.specs.FinMap.Entries.{put, find}
use Rattle.sb_forms.specs.Pages.{zeros}
use Rattle.sb_forms.specs.HeapPages.{first_of, after_of, before_of, record_key}
use Rattle.sb_node.specs.Entries.{key_cmp, sizes, without}
use Rattle.sb_node.specs.Page.{Node, has_form, node_in, with_entries, empty_node}
use Rattle.sb_ctx.specs.View.{View, page_of, room_of, free_page, with_page, dropped, edits_of}
use Rattle.sb_ctx.specs.Sound.{IsSound}
use Rattle.sb_heap.specs.Broken.{held_node}
use Rattle.sb_heap.specs.Held.{IsHeapPage, LacksOne, turn_pages}
use Rattle.sb_heap.specs.Links.{Made, StayReady, IsReadyFor, IsTurn, put_node, turned}
use Rattle.sb_heap.specs.declared.stop.Stop.{Stop}
use Rattle.sb_heap.specs.declared.stop.Stop.TheVariants.{Fresh, After, NoMemory}
use Rattle.sb_heap.specs.declared.list.Turn.{Turn}
use Rattle.sb_heap.specs.declared.list.Turn.TheVariants.{Joins, Leaves}
use Rattle.sb_heap.specs.declared.insertion.Spot.{Spot}

-- the node with a row more, under a slot that it hasn't
abbrev pub with_row_in : List ℕ → List ℕ → Node → Node
with_row_in slot row x = with_entries (put key_cmp slot row x.entries) x

-- the first page of the list, with the row more
pub record IsListedSpot (c : View) (root : ℕ) (row : List ℕ) (spot : Spot) : Type 0 where
  pub was : List ℕ
  pub held : IsHeapPage (page_of c spot.page) was (node_in was).head
  pub listed : (node_in was).head.level ≡ 1
  pub first : first_of (held_node (page_of c root)) ≡ spot.page
  pub free : find key_cmp spot.slot (node_in was).entries ≡ None
  pub node_is : node_in spot.bytes.items ≡ with_row_in spot.slot row (node_in was)
  pub turn : IsTurn (held_node (page_of c root)) (node_in was).head (4072 - (node_in spot.bytes.items).head.used) spot.turn

-- a fresh page with the row alone, where the list has none
pub record IsFreshSpot (c : View) (root : ℕ) (row : List ℕ) (spot : Spot) : Type 0 where
  pub none : first_of (held_node (page_of c root)) ≡ 0
  pub sound : IsSound c
  pub fresh : free_page c ≡ Some spot.page
  pub slot_is : spot.slot ≡ bytes_high_first 2 0
  pub node_is : node_in spot.bytes.items ≡ with_row_in spot.slot row (empty_node 1 0)
  pub turn : spot.turn ≡ Joins 0

-- The root is held. The page is ready to be written, with those that its turn changes.
pub record IsSpot (old new : View) (root : ℕ) (row : List ℕ) (spot : Spot) : Type 0 where
  pub bytes : List ℕ
  pub root_is : IsHeapPage (page_of old root) bytes (node_in bytes).head
  pub some : spot.page ≢ 0
  pub room : room_of new spot.page ≡ 4096
  pub form : has_form spot.bytes.items ≡ true
  pub turn : IsReadyFor new root spot.turn
  pub kept : StayReady old new
  pub edits : edits_of new ≤ edits_of old + 2
  pub slot_long : length spot.slot ≡ 2
  pub is : ((new ≡ old) × IsListedSpot old root row spot) ⊎ ((new ≡ with_page spot.page zeros old) × IsFreshSpot old root row spot)

-- ---- what ends a call
-- the root, the first page of the list, and those beside that
abbrev pub spot_pages : View → ℕ → List ℕ
spot_pages c root =
    let first : ℕ = first_of (held_node (page_of c root)) in
    root ∷ first ∷ after_of (held_node (page_of c first)) ∷ before_of (held_node (page_of c first)) ∷ []

abbrev pub SpotStops : View → View → ℕ → Stop → Type 0
SpotStops old new root NoMemory = Unit {0}
SpotStops old new root Fresh = (new ≡ old) × (free_page old ≡ None)
SpotStops old new root (After low) = ⊥
SpotStops old new root s = (new ≡ old) × LacksOne old root (spot_pages old root) s

-- ---- one page written
-- A page of this node is another one now, and has its turn.
pub record IsRewritten (old new : View) (root page : ℕ) (x y : Node) : Type 0 where
  pub turn : Turn
  pub turn_is : IsTurn (held_node (page_of old root)) x.head (4072 - y.head.used) turn
  pub made : Made (λ N. turned root page turn (put_node page (Some y) N)) 4 old new (Ok tt)

-- what was given stays, and so many edits are made at most
pub record IsTried (most : ℕ) (old new : View) : Type 0 where
  pub given : dropped new ≡ dropped old
  pub edits : edits_of new ≤ edits_of old + most

abbrev pub TurnStops : ℕ → View → View → ℕ → Head → Stop → Type 0
TurnStops most old new root head NoMemory = IsTried most old new
TurnStops most old new root head Fresh = ⊥
TurnStops most old new root head (After low) = ⊥
TurnStops most old new root head s = (new ≡ old) × LacksOne old root (turn_pages old root head) s

abbrev pub Rewrites : View → View → ℕ → ℕ → Node → Node → Result (Unit {0}) Stop → Type 0
Rewrites old new root page x y (Ok done) = IsRewritten old new root page x y
Rewrites old new root page x y (Err s) = TurnStops 4 old new root x.head s

abbrev pub RewritesAt : View → View → ℕ → ℕ → Option Node → Node → Result (Unit {0}) Stop → Type 0
RewritesAt old new root page None y outcome = Unit {0}
RewritesAt old new root page (Some x) y outcome = Rewrites old new root page x y outcome

-- a page goes, off the list where it is on it
pub record IsDropped (old new : View) (root page : ℕ) (head : Head) : Type 0 where
  pub turn : Turn
  pub turn_is : head.level ≡ 1 → turn ≡ Leaves head.b head.a
  pub made : Made (λ N. put_node page None (turned root page turn N)) 4 old new (Ok tt)

abbrev pub Drops : View → View → ℕ → ℕ → Head → Result (Unit {0}) Stop → Type 0
Drops old new root page head (Ok done) = IsDropped old new root page head
Drops old new root page head (Err s) = TurnStops 4 old new root head s

-- ---- a row in another one's place
-- the page has the row in place of the entry at i, under its slot
abbrev pub replaced : ℕ → List ℕ → List ℕ → Node → Node
replaced i slot row x = with_row_in slot row (with_entries (without i x.entries) x)

-- the page has no room for it, and it goes where an insert puts it
pub record IsMoved (old new : View) (root page : ℕ) (x : Node) (row : List ℕ) (key : Key) : Type 0 where
  pub spot : Spot
  pub mid : View
  pub spot_is : IsSpot old mid root row spot
  pub key_is : key ≡ record_key spot.page spot.slot
  pub made : Made (λ N. turned root spot.page spot.turn (put_node spot.page (Some (node_in spot.bytes.items)) (put_node page (Some x) N))) 5 mid new (Ok tt)

abbrev pub MoveStops : View → View → ℕ → Stop → Type 0
MoveStops old new root NoMemory = IsTried 10 old new
MoveStops old new root s = SpotStops old new root s

abbrev pub Moves : View → View → ℕ → ℕ → Node → List ℕ → Result Key Stop → Type 0
Moves old new root page x row (Ok key) = IsMoved old new root page x row key
Moves old new root page x row (Err s) = MoveStops old new root s

abbrev pub ReplaceStops : View → View → ℕ → Head → Stop → Type 0
ReplaceStops old new root head NoMemory = IsTried 10 old new
ReplaceStops old new root head s = TurnStops 10 old new root head s ⊎ SpotStops old new root s

abbrev pub Replaces : View → View → ℕ → ℕ → Node → ℕ → List ℕ → List ℕ → Key → Result Key Stop → Type 0
Replaces old new root page x i slot row key (Ok now) =
    ((now ≡ key) × IsRewritten old new root page x (replaced i slot row x))
    ⊎ ((4072 < sizes (without i x.entries) + (4 + length slot + length row)) × IsMoved old new root page (with_entries (without i x.entries) x) row now)
Replaces old new root page x i slot row key (Err s) = ReplaceStops old new root x.head s
