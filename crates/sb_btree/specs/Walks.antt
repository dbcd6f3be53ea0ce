-- What a walk over the pages of a Ctx answers.
use Rattle.std.specs.Prelude.{ℕ, ◌≡◌, Bool, true, List, Some, None, IsSome, Result, Ok, Err}
use Rattle.sb_forms.specs.Pages.{Pages}
use Rattle.sb_ctx.specs.View.{View, page_of, stored}
use Rattle.sb_node.specs.Entries.{Entry}
use Rattle.sb_node.specs.Page.{node_of}
use Rattle.sb_forms.specs.Tree.{Nodes, IsTree}
use Rattle.sb_forms.specs.Read.{read_tree}
use Rattle.sb_btree.specs.declared.walk.Stop.{Stop}
use Rattle.sb_btree.specs.declared.walk.Stop.TheVariants as stop
use Rattle.sb_btree.specs.declared.walk.Walk.{Walk}
use Rattle.sb_btree.specs.declared.walk.Walk.TheVariants.{Ready, Need, Fresh, Broken, NoMemory}

-- the answer to an outcome
abbrev pub as_walk : {T : Type 0} → Result T Stop → Walk T
as_walk (Ok end) = Ready end
as_walk (Err (stop.Need n)) = Need n
as_walk (Err stop.Fresh) = Fresh
as_walk (Err (stop.Broken n)) = Broken n
as_walk (Err stop.NoMemory) = NoMemory

-- It asks only for what isn't held, and calls only a held page broken. A reading walk asks for no fresh page.
abbrev pub AsksFor : {T : Type 0} → View → Walk T → Type 0
AsksFor c (Ready r) = Unit {0}
AsksFor c (Need n) = page_of c n ≡ None
AsksFor c Fresh = ⊥
AsksFor c (Broken n) = IsSome (page_of c n)
AsksFor c NoMemory = Unit {0}

-- a page that is called broken is one that may be
abbrev pub Breaks : {T : Type 0} → (ℕ → Bool) → Walk T → Type 0
Breaks may (Broken n) = may n ≡ true
Breaks may walk = Unit {0}

-- what holds of an answer that ends a reading walk over pages that are a tree
abbrev pub Gives : {T : Type 0} → (T → Type 0) → Walk T → Type 0
Gives IsSo (Ready r) = IsSo r
Gives IsSo (Need n) = Unit {0}
Gives IsSo Fresh = ⊥
Gives IsSo (Broken n) = ⊥
Gives IsSo NoMemory = Unit {0}

-- a page that is asked for is one that may be
abbrev pub Needs : {T : Type 0} → (ℕ → Bool) → Walk T → Type 0
Needs may (Need n) = may n ≡ true
Needs may walk = Unit {0}

-- both at once
abbrev pub Leads : {T : Type 0} → (T → Type 0) → (ℕ → Bool) → Walk T → Type 0
Leads IsSo may walk = Gives IsSo walk × Needs may walk

-- ---- over all pages that, with what the Ctx made of them, are a tree
-- what is so of its items
abbrev pub OverTree : View → ℕ → (List Entry → Type 0) → Type 0
OverTree c root IsSo = (P : Pages) (es : List Entry) → read_tree root (stored c P) ≡ Some es → IsSo es

-- what is so of its pages
abbrev pub OnTree : View → ℕ → (Pages → Type 0) → Type 0
OnTree c root IsSo = (P : Pages) (es : List Entry) → read_tree root (stored c P) ≡ Some es → IsSo (stored c P)

-- the nodes are those of the pages that are held, as they are now
abbrev pub Shows : View → Nodes → Type 0
Shows c N = (n : ℕ) (bytes : List ℕ) → page_of c n ≡ Some bytes → N n ≡ node_of bytes

-- what is so of all nodes of which some are held, and that are a tree of a level at a page
abbrev pub OverNodes : View → ℕ → ℕ → (Nodes → Type 0) → Type 0
OverNodes c l page IsSo = (N : Nodes) → Shows c N → IsTree l N page → IsSo N
