-- What an insert makes of the pages.
use Rattle.std.specs.Prelude.{ℕ, zero, suc, ◌≡◌, ◌<◌, ◌≤◌, ◌⊎◌, not, Bool, true, false, List, [], ◌∷◌, ◌++◌, length, cond, nat_eq, Option, Some, None, IsSome, Result, Ok, Err}
use Rattle.std.specs.FinMap.Entries.{find, put}
use Rattle.sb_bytes.specs.Field.{number_at}
use Rattle.sb_forms.specs.Pages.{Pages, zeros}
use Rattle.sb_ctx.specs.View.{View, held_at, page_of, with_page, fresh_page, free_page, stored}
use Rattle.sb_node.specs.Entries.{Entry, key_cmp}
use Rattle.sb_node.specs.Page.{Node, has_form, node_in, node_of, with_entries, with_head}
use Rattle.sb_btree.specs.Became.{Became, IsPlace}
use Rattle.sb_btree.specs.Broken.{held_node, is_of_level, is_page}
use Rattle.sb_forms.specs.Read.{all_by, is_small, is_bound, has, read_tree}
use Rattle.sb_forms.specs.Tree.{nodes, Child, items, met, Has}
use Rattle.sb_forms.specs.TreePages.{tree_met}
use Rattle.sb_btree.specs.declared.insertion.Put.{Put}
use Rattle.sb_btree.specs.declared.insertion.Put.TheVariants.{Kept, Done, Split}
use Rattle.sb_btree.specs.declared.walk.Stop.{Stop}
use Rattle.sb_btree.specs.declared.walk.Stop.TheVariants as stop
use Rattle.sb_btree.specs.declared.walk.Walk.{Walk}
use Rattle.sb_btree.specs.declared.walk.Walk.TheVariants.{Ready, Need, Fresh, Broken, NoMemory}

-- a changing walk asks only for what isn't held; a fresh page only where none is left
abbrev pub MayAsk : {T : Type 0} → View → Walk T → Type 0
MayAsk c (Ready r) = Unit {0}
MayAsk c (Need n) = page_of c n ≡ None
MayAsk c Fresh = free_page c ≡ None
MayAsk c (Broken n) = IsSome (page_of c n)
MayAsk c NoMemory = Unit {0}

-- a page was given as a fresh one, and isn't taken
abbrev pub IsFree : View → ℕ → Type 0
IsFree c n = held_at c n ≡ Some fresh_page

-- a value was found, or none was
abbrev pub IsThere : Bool → Option (List ℕ) → Type 0
IsThere true value = IsSome value
IsThere false value = value ≡ None

-- Where the pages went: each page of the new tree was one of the old tree or a fresh one that was free, each page of the old tree is one of the new tree, and every other page has the bytes that it had.
pub record Grew (c : View) (root : ℕ) (before after : Pages) : Type 0 where
  pub from : (n : ℕ) → has n (tree_met root after) ≡ true → (has n (tree_met root before) ≡ true) ⊎ IsFree c n
  pub to : (n : ℕ) → has n (tree_met root before) ≡ true → has n (tree_met root after) ≡ true
  pub keeps : (n : ℕ) → has n (tree_met root after) ≡ false → after n ≡ before n

-- The end of a put into a tree with these entries, where the key is to stand, or isn't to. The value is put in; or it is otherwise with the key, and nothing changes. A fresh page is asked for only where it is to be put in. Other questions and want of memory say nothing of the tree, and no page of it is called broken.
abbrev pub Puts : Bool → View → View → ℕ → List ℕ → List ℕ → Pages → List Entry → Walk Bool → Type 0
Puts stands old new root key value P es (Ready true) =
    IsThere stands (find key_cmp key es) × (read_tree root (stored new P) ≡ Some (put key_cmp key value es)) × Grew old root (stored old P) (stored new P)
Puts stands old new root key value P es (Ready false) = IsThere (not stands) (find key_cmp key es) × (new ≡ old)
Puts stands old new root key value P es (Need n) = Unit {0}
Puts stands old new root key value P es Fresh = IsThere stands (find key_cmp key es)
Puts stands old new root key value P es (Broken n) = ⊥
Puts stands old new root key value P es NoMemory = Unit {0}

-- of an insert, whose key isn't to stand
abbrev pub Inserts : View → View → ℕ → List ℕ → List ℕ → Pages → List Entry → Walk Bool → Type 0
Inserts old new root key value P es walk = Puts false old new root key value P es walk

-- of another value for a key that is to stand
abbrev pub Replaces : View → View → ℕ → List ℕ → List ℕ → Pages → List Entry → Walk Bool → Type 0
Replaces old new root key value P es walk = Puts true old new root key value P es walk

-- what is so of all pages that, with what the Ctx made of them, are a tree with these items
abbrev pub OverTrees : View → ℕ → (Pages → List Entry → Type 0) → Type 0
OverTrees c root IsSo = (P : Pages) (es : List Entry) → read_tree root (stored c P) ≡ Some es → IsSo P es

-- ---- below the root
-- the children that a page becomes
abbrev pub children_after : ℕ → List ℕ → Put → List Child
children_after p low (Split bound next) = (low, p) ∷ (bound, next) ∷ []
children_after p low put = (low, p) ∷ []

-- these pages were free
abbrev pub WereFree : View → List ℕ → Type 0
WereFree c fresh = (x : ℕ) → Has x fresh → IsFree c x

-- what a put at a page of a level makes of the pages
abbrev pub Changes : Bool → View → View → ℕ → ℕ → List ℕ → List ℕ → Pages → List ℕ → Option (List ℕ) → Put → Type 0
Changes stands old new l p key value P low high put_is =
    IsThere stands (find key_cmp key (items l (nodes (stored old P)) p))
    × (fresh : List ℕ) × WereFree old fresh
    × Became l (stored old P) (stored new P) (met l (nodes (stored old P)) p) (Some low) high (children_after p low put_is) (put key_cmp key value (items l (nodes (stored old P)) p)) fresh []

-- what it comes to; a fresh page is asked for only where the value is to be put in
abbrev pub PutsAt : Bool → View → View → ℕ → ℕ → List ℕ → List ℕ → Pages → List ℕ → Option (List ℕ) → Result Put Stop → Type 0
PutsAt stands old new l p key value P low high (Ok Kept) = IsThere (not stands) (find key_cmp key (items l (nodes (stored old P)) p)) × (new ≡ old)
PutsAt stands old new l p key value P low high (Ok Done) = Changes stands old new l p key value P low high Done
PutsAt stands old new l p key value P low high (Ok (Split bound next)) = Changes stands old new l p key value P low high (Split bound next) × (length bound ≤ 602)
PutsAt stands old new l p key value P low high (Err stop.Fresh) = IsThere stands (find key_cmp key (items l (nodes (stored old P)) p))
PutsAt stands old new l p key value P low high (Err (stop.Broken n)) = ⊥
PutsAt stands old new l p key value P low high (Err s) = Unit {0}

-- what is so of all pages in which the key's place is in the tree of a level at a page
abbrev pub OverPlaces : View → ℕ → ℕ → List ℕ → (Pages → List ℕ → Option (List ℕ) → Type 0) → Type 0
OverPlaces c l p key IsSo = (P : Pages) (low : List ℕ) (high : Option (List ℕ)) → IsPlace l (stored c P) p low high key → IsSo P low high

-- pages of higher levels stay as they are
abbrev pub KeepsHigher : View → View → ℕ → Type 0
KeepsHigher old new l = (n : ℕ) (bytes : List ℕ) → page_of old n ≡ Some bytes → has_form bytes ≡ true → l < (node_in bytes).head.level → page_of new n ≡ page_of old n

-- ---- one page
-- a page that is held is one of this level, whatever its entries are
abbrev pub is_tree_page : ℕ → Option Node → Bool
is_tree_page l None = false
is_tree_page l (Some n) = is_of_level l n.head

-- a page that was split is one of its level still, and the bound is short
abbrev pub IsSplit : View → ℕ → ℕ → Put → Type 0
IsSplit c l page (Split bound next) = (is_tree_page l (held_node (page_of c page)) ≡ true) × (length bound ≤ 602)
IsSplit c l page put = Unit {0}

-- the page has the entry now
pub record PutOne (old new : View) (page : ℕ) (n : Node) (key value : List ℕ) : Type 0 where
  pub bytes : List ℕ
  pub changed : new ≡ with_page page bytes old
  pub node_is : node_of bytes ≡ Some (with_entries (put key_cmp key value n.entries) n)

-- the entries of the halves of a page: a leaf's second half begins with the bound, an inner page gives the entry of the bound up
abbrev pub AreHalves : ℕ → List ℕ → List Entry → List Entry → Node → Type 0
AreHalves zero bound all lesser right = (all ≡ lesser ++ right.entries) × (v : List ℕ) × (es : List Entry) × (right.entries ≡ (bound, v) ∷ es)
AreHalves (suc l) bound all lesser right =
    (c : List ℕ) × (all ≡ lesser ++ (bound, c) ∷ right.entries) × (right.head.a ≡ number_at 4 c 0) × (0 < length right.entries)

-- the page is split over two, with the entry in one of both: a fresh page has the greater half
pub record PutTwo (old new : View) (l page next : ℕ) (n : Node) (bound key value : List ℕ) : Type 0 where
  pub left : List ℕ
  pub right : List ℕ
  pub lesser : List Entry
  pub other : Node
  pub free : IsFree old next
  pub changed : new ≡ with_page next right (with_page page left (with_page next zeros old))
  pub left_is : node_of left ≡ Some (with_entries lesser n)
  pub right_is : node_of right ≡ Some other
  pub kind_is : other.head.kind ≡ n.head.kind
  pub level_is : other.head.level ≡ n.head.level
  pub halves : AreHalves l bound (put key_cmp key value n.entries) lesser other
  pub some : 0 < length lesser

-- what a put at a held page comes to
abbrev pub PutAt : Bool → View → View → ℕ → ℕ → Option Node → List ℕ → List ℕ → Result Put Stop → Type 0
PutAt stands old new l page None key value outcome = ⊥
PutAt stands old new l page (Some n) key value (Ok Kept) = IsThere (not stands) (find key_cmp key n.entries) × (new ≡ old)
PutAt stands old new l page (Some n) key value (Ok Done) = IsThere stands (find key_cmp key n.entries) × PutOne old new page n key value
PutAt stands old new l page (Some n) key value (Ok (Split bound next)) = IsThere stands (find key_cmp key n.entries) × (length bound ≤ 602) × PutTwo old new l page next n bound key value
PutAt stands old new l page (Some n) key value (Err (stop.Need x)) = ⊥
PutAt stands old new l page (Some n) key value (Err stop.Fresh) = IsThere stands (find key_cmp key n.entries) × (free_page new ≡ None)
PutAt stands old new l page (Some n) key value (Err (stop.Broken x)) = (x ≡ page) × (is_page l (Some n) ≡ false)
PutAt stands old new l page (Some n) key value (Err stop.NoMemory) = Unit {0}

-- the same of a child that is put into an inner page, in an entry of four bytes; its bound doesn't stand there
abbrev pub PutChildAt : View → View → ℕ → ℕ → Option Node → List ℕ → ℕ → Result Put Stop → Type 0
PutChildAt old new l page held bound child (Ok Kept) = ⊥
PutChildAt old new l page held bound child outcome = (v : List ℕ) × (length v ≡ 4) × (number_at 4 v 0 ≡ child) × PutAt false old new l page held bound v outcome

-- both halves are stored, the second one in a page that was free
abbrev pub StoresHalves : View → View → ℕ → List ℕ → List ℕ → List ℕ → Put → Type 0
StoresHalves old new page left right bound (Split b next) = (b ≡ bound) × IsFree old next × (new ≡ with_page next right (with_page page left (with_page next zeros old)))
StoresHalves old new page left right bound put = ⊥

-- ---- the bound of a second half
-- A leaf stays as it is; an inner page gives the bound's entry up, and has its child as the leftmost one.
abbrev pub GivesBound : ℕ → Node → Option Node → List ℕ → Type 0
GivesBound zero n after bound = (length bound ≤ 602) × (after ≡ Some n) × (v : List ℕ) × (es : List Entry) × (n.entries ≡ (bound, v) ∷ es)
GivesBound (suc l) n after bound =
    (length bound ≤ 602) × (c : List ℕ) × (es : List Entry) × (n.entries ≡ (bound, c) ∷ es) × (0 < length es)
    × (after ≡ Some (with_entries es (with_head (record n.head { a = number_at 4 c 0 }) n)))

-- its key is too long, it has no child in four bytes, or no other entry is left
abbrev pub LacksBound : ℕ → Node → Type 0
LacksBound l n = (all_by (cond (nat_eq l 0) is_small is_bound) n.entries ≡ false) ⊎ ((0 < l) × (length n.entries ≤ 1))

-- ---- a new root
-- a page with two children
abbrev pub IsTop : Option Node → ℕ → ℕ → List ℕ → ℕ → Type 0
IsTop None level first bound next = ⊥
IsTop (Some n) level first bound next =
    (n.head.kind ≡ 3) × (n.head.level ≡ level) × (n.head.a ≡ first) × (v : List ℕ) × (n.entries ≡ (bound, v) ∷ []) × (length v ≡ 4) × (number_at 4 v 0 ≡ next)

-- The root's content is in a fresh page now, and the root is an inner page over that one and another.
pub record GrowsTo (old new : View) (root l : ℕ) (bound : List ℕ) (next : ℕ) : Type 0 where
  pub content : List ℕ
  pub was : page_of old root ≡ Some content
  pub first : ℕ
  pub free : IsFree old first
  pub top : List ℕ
  pub v : List ℕ
  pub node : Node
  pub changed : new ≡ with_page root top (with_page first content (with_page first zeros old))
  pub node_is : node_of top ≡ Some node
  pub kind_is : node.head.kind ≡ 3
  pub level_is : node.head.level ≡ suc l
  pub leftmost : node.head.a ≡ first
  pub entries_are : node.entries ≡ (bound, v) ∷ []
  pub long : length v ≡ 4
  pub spelled : number_at 4 v 0 ≡ next

abbrev pub GrowsAt : View → View → ℕ → ℕ → List ℕ → ℕ → Result (Unit {0}) Stop → Type 0
GrowsAt old new root l bound next (Ok done) = GrowsTo old new root l bound next × (suc l ≤ 16)
GrowsAt old new root l bound next (Err stop.Fresh) = free_page new ≡ None
GrowsAt old new root l bound next (Err stop.NoMemory) = Unit {0}
GrowsAt old new root l bound next (Err s) = ⊥
