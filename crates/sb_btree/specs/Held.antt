-- One held page on a way down.
use Rattle.std.specs.Prelude.{ℕ, zero, suc, ◌≡◌, Bool, true, false, cond, List, [], ◌∷◌, Option, Some, None, IsSome}
use Rattle.sb_bytes.specs.Field.{number_at}
use Rattle.sb_node.specs.declared.head.Head.{Head}
use Rattle.sb_node.specs.Entries.{Entry}
use Rattle.sb_node.specs.Page.{has_form, node_in}
use Rattle.sb_btree.specs.Broken.{held_node, is_no_root, is_of_level}
use Rattle.sb_forms.specs.Tree.{level_of}
use Rattle.sb_btree.specs.Ways.{is_behind}
use Rattle.sb_btree.specs.declared.walk.Stop.{Stop}
use Rattle.sb_btree.specs.declared.walk.Stop.TheVariants.{Need, Fresh, Broken, NoMemory}

-- a page is held with these bytes, which are a page of a level with this head, whatever its entries are
pub record IsTreePage (held : Option (List ℕ)) (l : ℕ) (bytes : List ℕ) (head : Head) : Type 0 where
  pub held_is : held ≡ Some bytes
  pub form : has_form bytes ≡ true
  pub head_is : head ≡ (node_in bytes).head
  pub level_is : is_of_level l head ≡ true

-- a root is held, and has this level
pub record IsRootPage (held : Option (List ℕ)) (l : ℕ) : Type 0 where
  pub is_held : IsSome held
  pub shallow : is_no_root held ≡ false
  pub level_is : l ≡ level_of (held_node held)

-- a page isn't held, or it is amiss
abbrev pub Lacks : Option (List ℕ) → Bool → ℕ → Stop → Type 0
Lacks held is_amiss page (Need n) = (n ≡ page) × (held ≡ None)
Lacks held is_amiss page Fresh = ⊥
Lacks held is_amiss page (Broken n) = (n ≡ page) × (is_amiss ≡ true)
Lacks held is_amiss page NoMemory = ⊥

-- how many entries at the front aren't behind
abbrev pub passed : Option (List ℕ) → List Entry → ℕ
passed after [] = 0
passed after (e ∷ es) = cond (is_behind after e) 0 (suc (passed after es))

-- the child at a place: the leftmost one, and those of the entries
abbrev pub nth_child : ℕ → List Entry → ℕ → ℕ
nth_child a [] n = a
nth_child a (e ∷ es) zero = a
nth_child a (e ∷ es) (suc n) = nth_child (number_at 4 e.1 0) es n
