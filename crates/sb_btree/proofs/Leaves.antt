-- Entries that were found stand in leaves, whose entries are those of the tree.
use Rattle.std.proofs.Common.{◌≡◌, ℕ, zero, suc, Bool, true, false, cond, List, [], ◌∷◌, ◌++◌, Option, Some, None, option_map, refl, ap, sym, ◌∙◌, subst, true≢false}
use Rattle.std.specs.Prelude.{slice_get, ◌||◌}
use Rattle.std.specs.List.{list_all, find as first}
use Rattle.std.specs.FinMap.Entries.{find}
use Rattle.std.specs.Ordering.{is_eq}
use Rattle.std.specs.declared.cmp.Ordering.{Ordering}
use Rattle.std.specs.declared.cmp.Ordering.TheVariants.{Less, Equal, Greater}
use Rattle.std.proofs.lemmas.Bool.{and_parts, and_from, eqb-true, eq-eqb}
use Rattle.sb_ctx.specs.View.{HeldPages}
use Rattle.sb_forms.specs.Tree.{Nodes, nodes, Child, children_of, entries_of, items, level_of, over}
use Rattle.sb_node.specs.declared.head.Head.{Head}
use Rattle.sb_node.specs.Entries.{Entry, key_cmp}
use Rattle.sb_node.specs.Page.{Node, node_in, node_of}
use Rattle.sb_node.proofs.Edited.{node_of-form}
use Rattle.sb_btree.specs.Broken.{any_by, children_at, held_node, is_of_level}
use Rattle.sb_btree.specs.Held.{IsRootPage, IsTreePage, nth_child}
use Rattle.sb_btree.specs.Leaves.{Finds, IsInLeaf, LeavesAreWhole, entry_at, in_leaf, leads_below, leads_to}
use Rattle.sb_btree.specs.declared.lookup.LeafEntry.{LeafEntry}
use Rattle.sb_btree.specs.declared.walk.Walk.{Walk}
use Rattle.sb_btree.specs.declared.walk.Walk.TheVariants.{Ready, Need, Fresh, Broken, NoMemory}
use Rattle.sb_btree.proofs.Descending.{any_child_at}
use Rattle.sb_btree.proofs.Order.{same_key}
use Rattle.sb_btree.proofs.Reading.{read_root}
use Rattle.sb_btree.proofs.Whole.{AreShown}

-- ---- the place of an entry
-- an entry that stands at a place
abbrev pub Stands : List Entry → Option Entry → Type 0
Stands es None = Unit {0}
Stands es (Some e) = (i : ℕ) × (slice_get es i ≡ Some e)

next_place : (x : Entry) (es : List Entry) (o : Option Entry) → Stands es o → Stands (x ∷ es) o
next_place x es None s = tt
next_place x es (Some e) s = (suc s.0, s.1)

pub first_place : (t : Entry → Bool) (es : List Entry) → Stands es (first t es)
first_place t [] = tt
first_place t (x ∷ es) =
    let rest = next_place x es (first t es) (first_place t es) in
    elim (t x) as (λ b. Stands (x ∷ es) (cond b (Some x) (first t es))) [ true ↦ (0, refl) | false ↦ rest ]

pub entry_place : (key : List ℕ) (es : List Entry) → Stands es (entry_at key es)
entry_place key [] = tt
entry_place key (x ∷ es) =
    let rest = next_place x es (entry_at key es) (entry_place key es) in
    elim (is_eq (key_cmp key x.0)) as (λ b. is_eq (key_cmp key x.0) ≡ b → Stands (x ∷ es) (option_map (λ value. (key, value)) (cond b (Some x.1) (find key_cmp key es)))) [
      | true ↦ λ same. (0, λ i. Some (sym (same_key key x.0 (equal (key_cmp key x.0) same)) i, x.1))
      | false ↦ λ other. rest
    ] refl
  where
    equal : (o : Ordering) → is_eq o ≡ true → o ≡ Equal
    equal Less e = cc
    equal Equal e = refl
    equal Greater e = cc

-- what is so of all entries is so of one at a place
pub all_at : (t : Entry → Bool) (es : List Entry) (i : ℕ) (e : Entry) → list_all t es ≡ true → slice_get es i ≡ Some e → t e ≡ true
all_at t [] i e all at = absurd (cc)
all_at t (x ∷ es) zero e all at = let s : x ≡ e = cc in subst (λ y. t y ≡ true) s (and_parts (t x) (list_all t es) all).0
all_at t (x ∷ es) (suc i) e all at = all_at t es i e (and_parts (t x) (list_all t es) all).1 at

-- ---- entries that a walk found stand in a leaf
pub stands_leaf : (l : ℕ) (held : HeldPages) (p : ℕ) (bytes : List ℕ) (head : Head) (o : Option Entry) (found : Option LeafEntry) → l ≡ 0 → IsTreePage (held p) l bytes head → Stands (node_in bytes).entries o
    → found ≡ option_map (in_leaf p) o → Finds (IsInLeaf (leads_below l held p) held) (Ready found)
stands_leaf l held p bytes head o found is page stands same =
    subst (λ (f : Option LeafEntry). Finds (IsInLeaf (leads_below l held p) held) (Ready f)) (sym same) (by o stands)
  where
    led : leads_below l held p p ≡ true
    led = subst (λ k. leads_below k held p p ≡ true) (sym is) (eq-eqb p p refl)

    by : (o : Option Entry) → Stands (node_in bytes).entries o → Finds (IsInLeaf (leads_below l held p) held) (Ready (option_map (in_leaf p) o))
    by None s = tt
    by (Some e) s = record { led = led; node = node_in bytes; node_is = ap held_node page.held_is ∙ node_of-form bytes page.form; place = s.0; at = s.1 }

leads_step : (l m : ℕ) (held : HeldPages) (p : ℕ) (bytes : List ℕ) (head : Head) (i child n : ℕ) → l ≡ suc m → IsTreePage (held p) l bytes head → child ≡ nth_child head.a (node_in bytes).entries i
    → leads_below m held child n ≡ true → leads_below l held p n ≡ true
leads_step l m held p bytes head i child n is page at led =
    subst (λ k. leads_below k held p n ≡ true) (sym is)
    (any_child_at (λ c. leads_below m held c n) m held p bytes head i (subst (λ k. IsTreePage (held p) k bytes head) is page) (subst (λ c. leads_below m held c n ≡ true) at led))

pub stands_step : (l m : ℕ) (held : HeldPages) (p : ℕ) (bytes : List ℕ) (head : Head) (i child : ℕ) (w : Walk (Option LeafEntry)) → l ≡ suc m → IsTreePage (held p) l bytes head → child ≡ nth_child head.a (node_in bytes).entries i
    → Finds (IsInLeaf (leads_below m held child) held) w → Finds (IsInLeaf (leads_below l held p) held) w
stands_step l m held p bytes head i child (Ready None) is page at s = tt
stands_step l m held p bytes head i child (Ready (Some f)) is page at s =
    record { led = leads_step l m held p bytes head i child f.leaf is page at s.led; node = s.node; node_is = s.node_is; place = s.place; at = s.at }
stands_step l m held p bytes head i child (Need n) is page at s = tt
stands_step l m held p bytes head i child Fresh is page at s = tt
stands_step l m held p bytes head i child (Broken n) is page at s = tt
stands_step l m held p bytes head i child NoMemory is page at s = tt

pub stands_root : (held : HeldPages) (root l : ℕ) (w : Walk (Option LeafEntry)) → IsRootPage (held root) l → Finds (IsInLeaf (leads_below l held root) held) w → Finds (IsInLeaf (leads_to root held) held) w
stands_root held root l w page s = subst (λ k. Finds (IsInLeaf (leads_below k held root) held) w) page.level_is s

-- ---- a leaf of a tree has entries of the tree alone
all_append : (t : Entry → Bool) (xs ys : List Entry) → list_all t (xs ++ ys) ≡ true → (list_all t xs ≡ true) × (list_all t ys ≡ true)
all_append t [] ys all = (refl, all)
all_append t (x ∷ xs) ys all =
    let parts = and_parts (t x) (list_all t (xs ++ ys)) all in
    let rest = all_append t xs ys parts.1 in
    (and_from (t x) (list_all t xs) parts.0 rest.0, rest.1)

-- what is so where any of the children leads there
any_leads : (Goal : Type 0) (f : ℕ → List Entry) (t : Entry → Bool) (q : ℕ → Bool) → ((c : ℕ) → list_all t (f c) ≡ true → q c ≡ true → Goal) → (ks : List Child) → list_all t (over f ks) ≡ true
    → any_by (λ (child : Child). q child.1) ks ≡ true → Goal
any_leads Goal f t q each [] all is = absurd (true≢false (sym is))
any_leads Goal f t q each (k ∷ ks) all is =
    let parts = all_append t (f k.1) (over f ks) all in
    elim (q k.1) as (λ b. q k.1 ≡ b → (b || any_by (λ (child : Child). q child.1) ks) ≡ true → Goal) [
      | true ↦ λ here any. each k.1 parts.0 here
      | false ↦ λ not any. any_leads Goal f t q each ks parts.1 any
    ] refl is

any_node : (Goal : Type 0) (l : ℕ) (f : ℕ → List Entry) (t : Entry → Bool) (q : ℕ → Bool) → ((c : ℕ) → list_all t (f c) ≡ true → q c ≡ true → Goal) → (o : Option Node) → list_all t (over f (children_of o)) ≡ true
    → any_by (λ (child : Child). q child.1) (children_at l o) ≡ true → Goal
any_node Goal l f t q each None all is = absurd (true≢false (sym is))
any_node Goal l f t q each (Some n) all is =
    elim (is_of_level l n.head) as (λ b. any_by (λ (child : Child). q child.1) (cond b (children_of (Some n)) []) ≡ true → Goal) [
      | true ↦ λ any. any_leads Goal f t q each (children_of (Some n)) all any
      | false ↦ λ any. absurd (true≢false (sym any))
    ] is

any_held : (Goal : Type 0) (l : ℕ) (N : Nodes) (p : ℕ) (f : ℕ → List Entry) (t : Entry → Bool) (q : ℕ → Bool) → ((c : ℕ) → list_all t (f c) ≡ true → q c ≡ true → Goal)
    → list_all t (over f (children_of (N p))) ≡ true → (held : Option (List ℕ)) → ((bytes : List ℕ) → held ≡ Some bytes → N p ≡ node_of bytes) → any_by (λ (child : Child). q child.1) (children_at l (held_node held)) ≡ true → Goal
any_held Goal l N p f t q each all None shows is = absurd (true≢false (sym is))
any_held Goal l N p f t q each all (Some bytes) shows is =
    any_node Goal l f t q each (node_of bytes) (subst (λ (o : Option Node). list_all t (over f (children_of o)) ≡ true) (shows bytes refl) all) is

held_all : (t : Entry → Bool) (N : Nodes) (p : ℕ) → list_all t (entries_of (N p)) ≡ true → (held : Option (List ℕ)) → ((bytes : List ℕ) → held ≡ Some bytes → N p ≡ node_of bytes) → list_all t (entries_of (held_node held)) ≡ true
held_all t N p all None shows = refl
held_all t N p all (Some bytes) shows = subst (λ (o : Option Node). list_all t (entries_of o) ≡ true) (shows bytes refl) all

leaf_whole : (l : ℕ) (held : HeldPages) (N : Nodes) (p n : ℕ) (t : Entry → Bool) → AreShown held N → list_all t (items l N p) ≡ true → leads_below l held p n ≡ true → list_all t (entries_of (held_node (held n))) ≡ true
leaf_whole zero held N p n t shows all led =
    subst (λ m. list_all t (entries_of (held_node (held m))) ≡ true) (eqb-true p n led) (held_all t N p all (held p) (shows p))
leaf_whole (suc l) held N p n t shows all led =
    any_held (list_all t (entries_of (held_node (held n))) ≡ true) (suc l) N p (items l N) t (λ c. leads_below l held c n) (λ c below led. leaf_whole l held N c n t shows below led) all (held p) (shows p) led

-- a root that isn't held has no entries
root_leaf : (held : HeldPages) (N : Nodes) (root n : ℕ) (t : Entry → Bool) → AreShown held N → list_all t (items (level_of (N root)) N root) ≡ true → (o : Option (List ℕ)) → held root ≡ o
    → leads_below (level_of (held_node o)) held root n ≡ true → list_all t (entries_of (held_node (held n))) ≡ true
root_leaf held N root n t shows all None is led = subst (λ m. list_all t (entries_of (held_node (held m))) ≡ true) (eqb-true root n led) (ap (λ o. list_all t (entries_of (held_node o))) is)
root_leaf held N root n t shows all (Some bytes) is led =
    leaf_whole (level_of (N root)) held N root n t shows all (subst (λ l. leads_below l held root n ≡ true) (ap level_of (sym (shows root bytes is))) led)

pub leaves_are_whole : LeavesAreWhole
leaves_are_whole P root es read test all held n some led =
    let shows : AreShown held (nodes P) = (λ m bytes is. ap node_of (some m bytes is)) in
    root_leaf held (nodes P) root n test shows (ap (list_all test) (sym (read_root P root es read).1) ∙ all) (held root) refl led
