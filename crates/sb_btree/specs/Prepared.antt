-- An empty tree made of a new root.
use Rattle.std.specs.Prelude.{◌≡◌, ◌≢◌, ℕ, List, Some, None}
use Rattle.sb_ctx.specs.View.{View, page_of, room_of, with_page}
use Rattle.sb_node.specs.Page.{node_of, empty_node}
use Rattle.sb_btree.specs.declared.walk.Walk.{Walk}
use Rattle.sb_btree.specs.declared.walk.Walk.TheVariants.{Ready, Need, Fresh, Broken, NoMemory}

-- the root is an empty leaf now
pub record IsPrepared (old new : View) (root : ℕ) : Type 0 where
  pub was : List ℕ
  pub held : page_of old root ≡ Some was
  pub leaf : List ℕ
  pub changed : new ≡ with_page root leaf old
  pub node_is : node_of leaf ≡ Some (empty_node 2 0)

-- The root is asked for; it is called broken where it hasn't the bytes of a page.
abbrev pub Prepares : View → View → ℕ → Walk (Unit {0}) → Type 0
Prepares old new root (Ready end) = IsPrepared old new root
Prepares old new root (Need n) = (n ≡ root) × (page_of old root ≡ None)
Prepares old new root Fresh = ⊥
Prepares old new root (Broken n) = (n ≡ root) × (room_of old root ≢ 4096)
Prepares old new root NoMemory = Unit {0}
