-- Pages' nodes, and what changes of the list make of them.
use Rattle.std.specs.Prelude.{◌≡◌, ◌≢◌, ℕ, ◌+◌, ◌≤◌, ◌==◌, nat_le, nat_eq, Bool, true, false, cond, List, [], Option, Some, None, IsSome, option_map, ◌⊎◌, Result, IfOk, IfErr}
use Rattle.sb_forms.specs.Pages.{Pages}
use Rattle.sb_forms.specs.Tree.{Nodes, nodes}
use Rattle.sb_forms.specs.HeapPages.{first_of}
use Rattle.sb_node.specs.declared.head.Head.{Head}
use Rattle.sb_node.specs.Page.{Node, has_form}
use Rattle.sb_ctx.specs.View.{View, page_of, room_of, stored, dropped, edits_of}
use Rattle.sb_heap.specs.declared.list.Turn.{Turn}
use Rattle.sb_heap.specs.declared.list.Turn.TheVariants.{Stays, Joins, Leaves}
use Rattle.sb_heap.specs.declared.stop.Stop.{Stop}
use Rattle.sb_heap.specs.declared.stop.Stop.TheVariants as stop

-- ---- nodes with one changed
abbrev pub put_node : ℕ → Option Node → Nodes → Nodes
put_node n x N m = cond (n == m) x (N m)

abbrev pub with_node : ℕ → (Node → Node) → Nodes → Nodes
with_node n f N m = cond (n == m) (option_map f (N m)) (N m)

-- the same of a page of the list, where there is one
abbrev pub if_page : ℕ → (Nodes → Nodes) → Nodes → Nodes
if_page n F N = cond (n == 0) N (F N)

-- ---- fields of a head
abbrev pub placed : ℕ → ℕ → Node → Node
placed level after x = record x { head = record x.head { level = level; a = after; b = 0 } }

abbrev pub with_after : ℕ → Node → Node
with_after n x = record x { head = record x.head { a = n } }

abbrev pub with_before : ℕ → Node → Node
with_before n x = record x { head = record x.head { b = n } }

abbrev pub with_first : ℕ → Node → Node
with_first n x = record x { head = record x.head { c = n } }

-- ---- a page that joins the list in front of its first page, and one that leaves it from between two
abbrev pub joined : ℕ → ℕ → ℕ → Nodes → Nodes
joined root page first N = with_node root (with_first page) (if_page first (with_node first (with_before page)) (with_node page (placed 1 first) N))

-- the page before it, or the root where there is none, has its next page then
abbrev pub linked_before : ℕ → ℕ → ℕ → Nodes → Nodes
linked_before root before after N = cond (before == 0) (with_node root (with_first after) N) (with_node before (with_after after) N)

abbrev pub left : ℕ → ℕ → ℕ → ℕ → Nodes → Nodes
left root page before after N = if_page after (with_node after (with_before before)) (linked_before root before after (with_node page (placed 0 0) N))

abbrev pub turned : ℕ → ℕ → Turn → Nodes → Nodes
turned root page Stays N = N
turned root page (Joins first) N = joined root page first N
turned root page (Leaves before after) N = left root page before after N

-- ---- what a call makes of the pages of a Ctx
-- a page is held, and is an entry page
abbrev pub is_ready : Option (List ℕ) → Bool
is_ready None = false
is_ready (Some bytes) = has_form bytes

-- nothing else of the pages has changed, whatever pages they are a part of
abbrev pub Makes : (Nodes → Nodes) → View → View → Type 0
Makes F old new = (P : Pages) → nodes (stored new P) ≡ F (nodes (stored old P))

-- a page that is no node has no bytes, or those that it had
abbrev pub LeavesBare : View → View → Type 0
LeavesBare old new = (P : Pages) (n : ℕ) → nodes (stored new P) n ≡ None → (stored new P n ≡ []) ⊎ (stored new P n ≡ stored old P n)

-- What was given stays, and so many edits are made at most. It makes this of the nodes, or memory is wanting.
pub record Made (F : Nodes → Nodes) (most : ℕ) (old new : View) (outcome : Result (Unit {0}) Stop) : Type 0 where
  pub given : dropped new ≡ dropped old
  pub edits : edits_of new ≤ edits_of old + most
  pub bare : LeavesBare old new
  pub makes : IfOk outcome (λ done. Makes F old new)
  pub memory : IfErr outcome (λ s. s ≡ stop.NoMemory)

-- pages that are ready stay so
abbrev pub StayReady : View → View → Type 0
StayReady old new = (n : ℕ) → is_ready (page_of old n) ≡ true → is_ready (page_of new n) ≡ true

-- whole pages stay so
abbrev pub StayWhole : View → View → Type 0
StayWhole old new = (n : ℕ) → room_of old n ≡ 4096 → room_of new n ≡ 4096

-- ---- the turn of a page
-- the pages that a turn changes are ready
abbrev pub IsReadyFor : View → ℕ → Turn → Type 0
IsReadyFor c root Stays = Unit {0}
IsReadyFor c root (Joins first) = (is_ready (page_of c root) ≡ true) × (first ≢ 0 → is_ready (page_of c first) ≡ true)
IsReadyFor c root (Leaves before after) =
    (before ≡ 0 → is_ready (page_of c root) ≡ true) × (before ≢ 0 → is_ready (page_of c before) ≡ true) × (after ≢ 0 → is_ready (page_of c after) ≡ true)

-- the turn of a page of this head that comes to have so many free bytes
abbrev pub IsTurn : Option Node → Head → ℕ → Turn → Type 0
IsTurn root head room Stays = nat_eq head.level 1 ≡ nat_le 1006 room
IsTurn root head room (Joins first) = (nat_eq head.level 1 ≡ false) × (nat_le 1006 room ≡ true) × (first ≡ first_of root) × IsSome root
IsTurn root head room (Leaves before after) = (nat_eq head.level 1 ≡ true) × (nat_le 1006 room ≡ false) × (before ≡ head.b) × (after ≡ head.a)
