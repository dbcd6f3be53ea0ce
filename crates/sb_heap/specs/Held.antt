-- One held page of a heap.
use Rattle.std.specs.Prelude.{◌≡◌, ◌≢◌, ◌⊎◌, ℕ, ◌-◌, ◌<◌, ◌≤◌, nat_le, nat_eq, Bool, true, cond, ◌&&◌, List, [], ◌∷◌, Option, Some, None, IsSome, option_map}
use Rattle.sb_value.specs.declared.schema.Column.{Column}
use Rattle.sb_node.specs.declared.head.Head.{Head}
use Rattle.sb_node.specs.Page.{has_form, node_in}
use Rattle.sb_forms.specs.Read.{has}
use Rattle.sb_forms.specs.HeapPages.{first_of}
use Rattle.sb_ctx.specs.View.{View, page_of}
use Rattle.sb_heap.specs.Broken.{held_node, is_amiss, is_linked}
use Rattle.sb_heap.specs.declared.stop.Stop.{Stop}
use Rattle.sb_heap.specs.declared.stop.Stop.TheVariants.{Need, Broken}

-- of kind 1, and of level 1 just where it has room for any row
abbrev pub is_heap_head : Head → Bool
is_heap_head head = nat_eq head.kind 1 && nat_eq head.level (cond (nat_le 1006 (4072 - head.used)) 1 0)

-- a page is held with these bytes, which are a page of a heap with this head, whatever its entries are
pub record IsHeapPage (held : Option (List ℕ)) (bytes : List ℕ) (head : Head) : Type 0 where
  pub held_is : held ≡ Some bytes
  pub form : has_form bytes ≡ true
  pub head_is : head ≡ (node_in bytes).head
  pub heap : is_heap_head head ≡ true

-- the page isn't held, or it is no page of a heap
abbrev pub Amiss : View → ℕ → Stop → Type 0
Amiss c page (Need n) = (n ≡ page) × (page_of c page ≡ None)
Amiss c page (Broken n) = (n ≡ page) × IsSome (page_of c page) × ((schema : List Column) → is_amiss schema (page_of c page) ≡ true)
Amiss c page s = ⊥

-- the same of a page that isn't the instance's where it has no bytes
pub record OwnAmiss (c : View) (page : ℕ) (s : Stop) : Type 0 where
  pub amiss : Amiss c page s
  pub some : page ≢ 0
  pub low : page < 65536
  pub bytes : page_of c page ≡ Some [] → ⊥

-- the same of a page that the heap needs
pub record LinkAmiss (c : View) (root page : ℕ) (s : Stop) : Type 0 where
  pub amiss : Amiss c page s
  pub some : page ≢ 0
  pub linked : is_linked root (page_of c) page ≡ true

-- of one of these pages
abbrev pub LacksOne : View → ℕ → List ℕ → Stop → Type 0
LacksOne c root pages s = (page : ℕ) × (has page pages ≡ true) × LinkAmiss c root page s

-- it isn't the instance's
abbrev pub IsBare : View → ℕ → Type 0
IsBare c page = (page ≡ 0) ⊎ (65536 ≤ page) ⊎ (page_of c page ≡ Some [])

-- a page is held and has this head
abbrev pub IsHeadAt : View → ℕ → Head → Type 0
IsHeadAt c page head = option_map (λ x. x.head) (held_node (page_of c page)) ≡ Some head

-- the pages that the turn of a page of this head may change
abbrev pub turn_pages : View → ℕ → Head → List ℕ
turn_pages c root head = root ∷ first_of (held_node (page_of c root)) ∷ head.a ∷ head.b ∷ []

-- a root is held, and names this page as the first of the list
pub record HasFirst (c : View) (root first : ℕ) : Type 0 where
  pub bytes : List ℕ
  pub root_is : IsHeapPage (page_of c root) bytes (node_in bytes).head
  pub first_is : first_of (held_node (page_of c root)) ≡ first
