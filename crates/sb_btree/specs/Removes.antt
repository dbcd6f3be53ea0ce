-- What a removal makes of the pages.
use Rattle.std.specs.Prelude.{ℕ, zero, suc, ◌≡◌, ◌-◌, ◌<◌, ◌≤◌, ◌⊎◌, not, Bool, true, false, List, [], ◌∷◌, length, cond, map, nat_eq, slice_get, Option, Some, None, IsSome, Result, Ok, Err}
use Rattle.std.specs.Str.{bytes_eq}
use Rattle.std.specs.FinMap.Entries.{find, where_key}
use Rattle.sb_forms.specs.Pages.{Pages}
use Rattle.sb_ctx.specs.View.{View, held_at, page_of, with_page, free_page, dropped, stored}
use Rattle.sb_node.specs.Entries.{Entry, key_cmp, is_below, without}
use Rattle.sb_node.specs.Page.{Node, has_form, node_in, node_of, with_entries, with_head}
use Rattle.sb_btree.specs.Became.{Became}
use Rattle.sb_btree.specs.Broken.{held_node, is_of_level, is_page, is_unlike, breaks_below}
use Rattle.sb_btree.specs.Held.{nth_child}
use Rattle.sb_btree.specs.Inserts.{IsFree, PutChildAt, WereFree, is_tree_page}
use Rattle.sb_forms.specs.TreePages.{tree_met}
use Rattle.sb_forms.specs.Read.{all_by, is_bound, has, read_tree}
use Rattle.sb_forms.specs.Tree.{Nodes, nodes, Child, child_of, child_in, items, met, level_of, Has}
use Rattle.sb_btree.specs.declared.insertion.Put.{Put}
use Rattle.sb_btree.specs.declared.insertion.Put.TheVariants as put
use Rattle.sb_btree.specs.declared.removal.Taken.{Taken}
use Rattle.sb_btree.specs.declared.removal.Taken.TheVariants.{Lacks, Done, Empty, Single, Split}
use Rattle.sb_btree.specs.declared.walk.Stop.{Stop}
use Rattle.sb_btree.specs.declared.walk.Stop.TheVariants as stop
use Rattle.sb_btree.specs.declared.walk.Walk.{Walk}
use Rattle.sb_btree.specs.declared.walk.Walk.TheVariants.{Ready, Need, Fresh, Broken, NoMemory}

-- the entries without that of a key
abbrev pub entries_without : List ℕ → List Entry → List Entry
entries_without key es = where_key key_cmp (λ k. not (bytes_eq k key)) es

-- Where the pages went: each page of the new tree was one of the old tree or a fresh one that was free, each page of the old tree is one of the new tree or was given back, and every page that neither tree meets has the bytes that it had.
pub record Shrank (c : View) (root : ℕ) (before after : Pages) : Type 0 where
  pub from : (n : ℕ) → has n (tree_met root after) ≡ true → (has n (tree_met root before) ≡ true) ⊎ IsFree c n
  pub to : (n : ℕ) → has n (tree_met root before) ≡ true → (has n (tree_met root after) ≡ true) ⊎ (after n ≡ [])
  pub keeps : (n : ℕ) → has n (tree_met root before) ≡ false → has n (tree_met root after) ≡ false → after n ≡ before n

-- The end of a removal from a tree with these entries: the entry of the key is taken out; or there is none, and nothing changes. A question and want of memory say nothing of the tree, and no page of it is called broken.
abbrev pub Removes : View → View → ℕ → List ℕ → Pages → List Entry → Walk Bool → Type 0
Removes old new root key P es (Ready true) =
    IsSome (find key_cmp key es) × (read_tree root (stored new P) ≡ Some (entries_without key es)) × Shrank old root (stored old P) (stored new P)
Removes old new root key P es (Ready false) = (find key_cmp key es ≡ None) × (new ≡ old)
Removes old new root key P es (Need n) = Unit {0}
Removes old new root key P es Fresh = Unit {0}
Removes old new root key P es (Broken n) = ⊥
Removes old new root key P es NoMemory = Unit {0}

-- ---- the pages that a removal asks for
-- of neighbours, the first two given apart, the one before that in which a key stands
abbrev pub before : List ℕ → ℕ → ℕ → List Child → ℕ
before key d c [] = d
before key d c (k ∷ ks) = cond (is_below key k.0) d (before key c k.1 ks)

-- the child beside the one in which a key stands: the one before it, and of the leftmost one the one behind it
abbrev pub beside : List ℕ → ℕ → List Child → ℕ
beside key d [] = d
beside key d (k ∷ ks) = cond (is_below key k.0) k.1 (before key d k.1 ks)

abbrev pub beside_in : List ℕ → Option Node → ℕ
beside_in key None = 0
beside_in key (Some n) = beside key n.head.a (map child_of n.entries)

-- the pages on the way down to a key, and those beside them
abbrev pub removal_way : ℕ → Nodes → List ℕ → ℕ → List ℕ
removal_way zero N key p = p ∷ []
removal_way (suc l) N key p = p ∷ beside_in key (N p) ∷ removal_way l N key (child_in key (N p))

abbrev pub is_on_removal_way : ℕ → Pages → List ℕ → ℕ → Bool
is_on_removal_way root P key n = has n (removal_way (level_of (nodes P root)) (nodes P) key root)

-- ---- below the root
-- Neighbours of a level that met some pages became these children, with these entries. The pages that are met no more have no bytes.
pub record Shrinks (old new : View) (l : ℕ) (P : Pages) (pages : List ℕ) (start high : Option (List ℕ)) (now : List Child) (want : List Entry) : Type 0 where
  pub fresh : List ℕ
  pub freed : List ℕ
  pub were_free : WereFree old fresh
  pub are_gone : (x : ℕ) → Has x freed → stored new P x ≡ []
  pub became : Became l (stored old P) (stored new P) pages start high now want fresh freed

-- the tree of a level at a page became these children, and hasn't the key any more
abbrev pub Loses : View → View → ℕ → ℕ → ℕ → List ℕ → Pages → List ℕ → Option (List ℕ) → List Child → Type 0
Loses old new k l p key P low high now =
    IsSome (find key_cmp key (items l (nodes (stored old P)) p))
    × Shrinks old new k P (met l (nodes (stored old P)) p) (Some low) high now (entries_without key (items l (nodes (stored old P)) p))

-- What a removal at a page of a level comes to. Of `Empty` and `Single` it says what is so once the page is given back: it left no children, or one of the level below, which is the one beside that in which the key stood.
abbrev pub TakesAt : View → View → ℕ → ℕ → List ℕ → Pages → List ℕ → Option (List ℕ) → Result Taken Stop → Type 0
TakesAt old new l p key P low high (Ok Lacks) = (find key_cmp key (items l (nodes (stored old P)) p) ≡ None) × (new ≡ old)
TakesAt old new l p key P low high (Ok Done) = Loses old new l l p key P low high ((low, p) ∷ [])
TakesAt old new l p key P low high (Ok Empty) = Loses old (with_page p [] new) l l p key P low high []
TakesAt old new zero p key P low high (Ok (Single g)) = ⊥
TakesAt old new (suc l) p key P low high (Ok (Single g)) =
    (g ≡ beside_in key (nodes (stored old P) p)) × Loses old (with_page p [] new) l (suc l) p key P low high ((low, g) ∷ [])
TakesAt old new l p key P low high (Ok (Split bound next)) = (length bound ≤ 602) × Loses old new l l p key P low high ((low, p) ∷ (bound, next) ∷ [])
TakesAt old new l p key P low high (Err (stop.Broken n)) = ⊥
TakesAt old new l p key P low high (Err s) = Unit {0}

-- pages of this level or a higher one stay as they are, but for one page of this level
abbrev pub KeepsAbove : View → View → ℕ → ℕ → Type 0
KeepsAbove old new l page =
    (n : ℕ) (bytes : List ℕ) → page_of old n ≡ Some bytes → has_form bytes ≡ true → l ≤ (node_in bytes).head.level → (n ≡ page → l < (node_in bytes).head.level) → page_of new n ≡ page_of old n

-- A page that is to be given back, or that was split, is one of its level still. An inner one that is to be given back has no entry, and the bound of a second half is short.
abbrev pub LeavesPage : View → ℕ → ℕ → Taken → Type 0
LeavesPage new l page Empty = is_tree_page l (held_node (page_of new page)) ≡ true
LeavesPage new l page (Single g) = (0 < l) × (n : Node) × (held_node (page_of new page) ≡ Some n) × (is_of_level l n.head ≡ true) × (n.entries ≡ [])
LeavesPage new l page (Split bound next) = (is_tree_page l (held_node (page_of new page)) ≡ true) × (length bound ≤ 602)
LeavesPage new l page taken = Unit {0}

-- the child that a page is left with isn't the one that it lost
abbrev pub IsOther : ℕ → Taken → Type 0
IsOther child (Single g) = g ≡ child → ⊥
IsOther child taken = Unit {0}

-- the child that a page is left with may be called broken where it isn't one of its level
abbrev pub MayBreak : View → View → ℕ → ℕ → Taken → Type 0
MayBreak old new l page (Single g) = is_unlike (l - 1) (page_of new g) ≡ true → breaks_below l (page_of old) page g ≡ true
MayBreak old new l page taken = Unit {0}

-- ---- one page
-- the page has this node now
pub record Wrote (old new : View) (page : ℕ) (n : Node) : Type 0 where
  pub bytes : List ℕ
  pub changed : new ≡ with_page page bytes old
  pub node_is : node_of bytes ≡ Some n

-- a leaf without the entry at a place, where it has others
abbrev pub CutsEntry : View → View → ℕ → Node → ℕ → Result Taken Stop → Type 0
CutsEntry old new page n i (Ok Done) = (0 < length (without i n.entries)) × Wrote old new page (with_entries (without i n.entries) n)
CutsEntry old new page n i (Ok Empty) = (without i n.entries ≡ []) × (new ≡ old)
CutsEntry old new page n i (Ok taken) = ⊥
CutsEntry old new page n i (Err stop.NoMemory) = Unit {0}
CutsEntry old new page n i (Err s) = ⊥

-- a leaf without the entry of a key, where it has others
abbrev pub TakesEntry : View → View → ℕ → Option Node → List ℕ → Result Taken Stop → Type 0
TakesEntry old new page None key outcome = ⊥
TakesEntry old new page (Some n) key (Ok Lacks) = (find key_cmp key n.entries ≡ None) × (new ≡ old)
TakesEntry old new page (Some n) key (Ok Done) =
    IsSome (find key_cmp key n.entries) × (0 < length (entries_without key n.entries)) × Wrote old new page (with_entries (entries_without key n.entries) n)
TakesEntry old new page (Some n) key (Ok Empty) = IsSome (find key_cmp key n.entries) × (entries_without key n.entries ≡ []) × (new ≡ old)
TakesEntry old new page (Some n) key (Ok (Single g)) = ⊥
TakesEntry old new page (Some n) key (Ok (Split bound next)) = ⊥
TakesEntry old new page (Some n) key (Err stop.NoMemory) = Unit {0}
TakesEntry old new page (Some n) key (Err s) = ⊥

-- the leftmost child once the child at a place is dropped
abbrev pub first_without : ℕ → Node → ℕ
first_without i n = cond (nat_eq i 0) (nth_child n.head.a n.entries 1) n.head.a

-- an inner page without the child at a place
abbrev pub without_child : ℕ → Node → Node
without_child i n = with_head (record n.head { a = first_without i n }) (with_entries (without (i - 1) n.entries) n)

-- an entry of an inner page is no bound, or the page has one child alone
abbrev pub IsAmiss : Node → Type 0
IsAmiss n = (all_by is_bound n.entries ≡ false) ⊎ (n.entries ≡ [])

-- an inner page without the child at a place
abbrev pub DropsChild : View → View → ℕ → Option Node → ℕ → Result Taken Stop → Type 0
DropsChild old new page None i outcome = ⊥
DropsChild old new page (Some n) i (Ok Done) = (1 < length n.entries) × Wrote old new page (without_child i n)
DropsChild old new page (Some n) i (Ok (Single g)) = (length n.entries ≡ 1) × (g ≡ first_without i n) × Wrote old new page (without_child i n)
DropsChild old new page (Some n) i (Ok taken) = ⊥
DropsChild old new page (Some n) i (Err (stop.Broken x)) = (x ≡ page) × IsAmiss n
DropsChild old new page (Some n) i (Err stop.NoMemory) = Unit {0}
DropsChild old new page (Some n) i (Err s) = ⊥

-- the second half of a child in the page above
abbrev pub RaisesChild : View → View → ℕ → ℕ → Option Node → List ℕ → ℕ → Result Taken Stop → Type 0
RaisesChild old new l page held bound next (Ok Done) = PutChildAt old new l page held bound next (Ok put.Done)
RaisesChild old new l page held bound next (Ok (Split top r)) = PutChildAt old new l page held bound next (Ok (put.Split top r))
RaisesChild old new l page held bound next (Ok taken) = ⊥
RaisesChild old new l page held bound next (Err s) = PutChildAt old new l page held bound next (Err s)

-- ---- a child for the page beside
-- A child that is put in front of a page's children is the leftmost one, and the one that was it gets an entry. Else it gets an entry itself.
abbrev pub taker : Bool → ℕ → Node → Node
taker in_front child n = cond in_front (with_head (record n.head { a = child }) n) n

abbrev pub entered : Bool → ℕ → Node → ℕ
entered in_front child n = cond in_front n.head.a child

-- The page has the child now, or is split. (Before the entry is put, the page alone may be another one.)
pub record TookChild (old new : View) (l page : ℕ) (n : Node) (bound : List ℕ) (child : ℕ) (in_front : Bool) (put_is : Put) : Type 0 where
  pub like : is_of_level l n.head ≡ true
  pub mid : View
  pub given : dropped mid ≡ dropped old
  pub alike : (x : ℕ) → (x ≡ page → ⊥) → held_at mid x ≡ held_at old x
  pub there : held_node (page_of mid page) ≡ Some (taker in_front child n)
  pub puts : PutChildAt mid new l page (Some (taker in_front child n)) bound (entered in_front child n) (Ok put_is)

abbrev pub TakesChild : View → View → ℕ → ℕ → Option Node → List ℕ → ℕ → Bool → Result Put Stop → Type 0
TakesChild old new l page None bound child in_front (Ok put_is) = ⊥
TakesChild old new l page (Some n) bound child in_front (Ok put_is) = TookChild old new l page n bound child in_front put_is
TakesChild old new l page held bound child in_front (Err (stop.Need x)) = (x ≡ page) × (page_of old page ≡ None)
TakesChild old new l page held bound child in_front (Err stop.Fresh) = free_page new ≡ None
TakesChild old new l page held bound child in_front (Err (stop.Broken x)) = (x ≡ page) × IsSome (page_of old page) × (is_page l held ≡ false)
TakesChild old new l page held bound child in_front (Err stop.NoMemory) = Unit {0}

-- the place of the child beside the one at a place
abbrev pub place_beside : ℕ → ℕ
place_beside i = cond (nat_eq i 0) 1 (i - 1)

-- the page beside the child at a place
abbrev pub page_beside : ℕ → Node → ℕ
page_beside i n = nth_child n.head.a n.entries (place_beside i)

-- Why the child at a place of a page doesn't go away: the page beside isn't held, or it or the page is amiss, or no fresh page is left.
abbrev pub StopsBeside : View → View → ℕ → ℕ → Node → ℕ → Stop → Type 0
StopsBeside old new l page n i (stop.Need x) = (x ≡ page_beside i n) × (page_of old x ≡ None)
StopsBeside old new l page n i stop.Fresh = free_page new ≡ None
StopsBeside old new l page n i (stop.Broken x) =
    ((x ≡ page) × IsAmiss n) ⊎ ((x ≡ page_beside i n) × IsSome (page_of old x) × (is_page l (held_node (page_of old x)) ≡ false))
StopsBeside old new l page n i stop.NoMemory = Unit {0}

-- The child at a place of a page gave its last child to the page beside, under the bound between both, and was given back.
pub record GaveChild (old new : View) (l : ℕ) (n : Node) (i child left : ℕ) (put_is : Put) : Type 0 where
  pub bound : Entry
  pub between : slice_get n.entries (i - 1) ≡ Some bound
  pub short : length bound.0 ≤ 602
  pub other : Node
  pub beside_is : held_node (page_of old (page_beside i n)) ≡ Some other
  pub mid : View
  pub took : TookChild old mid l (page_beside i n) other bound.0 left (nat_eq i 0) put_is
  pub changed : new ≡ with_page child [] mid

abbrev pub GivesChild : View → View → ℕ → ℕ → Option Node → ℕ → ℕ → ℕ → Result Put Stop → Type 0
GivesChild old new zero page held i child left outcome = ⊥
GivesChild old new (suc l) page None i child left outcome = ⊥
GivesChild old new (suc l) page (Some n) i child left (Ok put_is) = GaveChild old new l n i child left put_is
GivesChild old new (suc l) page (Some n) i child left (Err s) = StopsBeside old new l page n i s

-- what is left once the page beside was put to: the page above is as it is then, or it has the second half too
abbrev pub EndsBeside : View → View → ℕ → ℕ → Node → Put → Taken → Taken → Type 0
EndsBeside old new l page n (put.Split bound next) left taken = RaisesChild old new l page (Some n) bound next (Ok taken)
EndsBeside old new l page n put_is left taken = (new ≡ old) × (taken ≡ left)

-- The child at a place of a page is gone: its last child is one of the page beside.
pub record MergedChild (old new : View) (l page : ℕ) (n : Node) (i child left : ℕ) (taken : Taken) : Type 0 where
  pub mid : View
  pub next : View
  pub put_is : Put
  pub gave : GaveChild old mid l n i child left put_is
  pub given : dropped mid ≡ dropped old
  pub stays : page_of mid page ≡ page_of old page
  pub dropping : Taken
  pub drops : DropsChild mid next page (Some n) i (Ok dropping)
  pub next_given : dropped next ≡ dropped mid
  pub ends : EndsBeside next new (suc l) page (without_child i n) put_is dropping taken

abbrev pub MergesChild : View → View → ℕ → ℕ → Option Node → ℕ → ℕ → ℕ → Result Taken Stop → Type 0
MergesChild old new zero page held i child left outcome = ⊥
MergesChild old new (suc l) page None i child left outcome = ⊥
MergesChild old new (suc l) page (Some n) i child left (Ok taken) = MergedChild old new l page n i child left taken
MergesChild old new (suc l) page (Some n) i child left (Err s) = StopsBeside old new l page n i s

-- ---- the root
-- the root has the content of a page of this level, which is given back
pub record TookContent (old new : View) (root child l : ℕ) : Type 0 where
  pub content : List ℕ
  pub was : page_of old child ≡ Some content
  pub form : has_form content ≡ true
  pub changed : new ≡ with_page child [] (with_page root content old)

abbrev pub TakesContent : View → View → ℕ → ℕ → ℕ → Result (Unit {0}) Stop → Type 0
TakesContent old new root child l (Ok done) = TookContent old new root child l
TakesContent old new root child l (Err (stop.Need x)) = (x ≡ child) × (page_of old child ≡ None)
TakesContent old new root child l (Err stop.Fresh) = ⊥
TakesContent old new root child l (Err (stop.Broken x)) = (x ≡ child) × (is_unlike l (page_of old child) ≡ true)
TakesContent old new root child l (Err stop.NoMemory) = Unit {0}
