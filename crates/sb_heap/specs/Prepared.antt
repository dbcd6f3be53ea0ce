-- A new heap.
use Rattle.std.specs.Prelude.{◌≡◌, ◌≢◌, ℕ, ◌<◌, List, length, Some, None, Result, Ok, Err}
use Rattle.sb_node.specs.Page.{Node, empty_node}
use Rattle.sb_ctx.specs.View.{View, page_of, room_of}
use Rattle.sb_heap.specs.Links.{Made, put_node, with_first}
use Rattle.sb_heap.specs.Spots.{IsTried}
use Rattle.sb_heap.specs.declared.stop.Stop.{Stop}
use Rattle.sb_heap.specs.declared.stop.Stop.TheVariants.{Need, Broken, NoMemory}

-- a root without rows, alone on the list
abbrev pub new_root : ℕ → Node
new_root root = with_first root (empty_node 1 1)

pub record IsPrepared (old new : View) (root : ℕ) : Type 0 where
  pub low : (root ≢ 0) × (root < 65536)
  pub long : room_of old root ≡ 4096
  pub made : Made (put_node root (Some (new_root root))) 1 old new (Ok tt)

-- The root is asked for; it is called broken where it hasn't the bytes of a page.
abbrev pub Prepares : View → View → ℕ → Result (Unit {0}) Stop → Type 0
Prepares old new root (Ok done) = IsPrepared old new root
Prepares old new root (Err (Need n)) = (new ≡ old) × (n ≡ root) × (root ≢ 0) × (page_of old root ≡ None)
Prepares old new root (Err (Broken n)) = (new ≡ old) × (n ≡ root) × (root ≢ 0) × (was : List ℕ) × (page_of old root ≡ Some was) × (length was ≢ 4096)
Prepares old new root (Err NoMemory) = IsTried 1 old new
Prepares old new root (Err s) = ⊥
