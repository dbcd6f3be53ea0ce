-- One step of a walk down, from a held page of a level.
use Rattle.std.proofs.Common.{◌≡◌, ℕ, zero, suc, Bool, true, false, cond, not, ◌&&◌, List, [], ◌∷◌, map, Option, Some, None, option_map, refl, ap, sym, ◌∙◌, subst, arith, true≢false, ◌<◌, length}
use Rattle.std.specs.Prelude.{nat_eq, ◌||◌, Err}
use Rattle.std.specs.FinMap.Entries.{find}
use Rattle.std.proofs.lemmas.Bool.Decides.{nat_tests}
use Rattle.std.proofs.lemmas.Bool.{and_from, and_right, or_left, or_right, eq-eqb}
use Rattle.sb_bytes.specs.Field.{number_at}
use Rattle.sb_ctx.specs.View.{View, HeldPages, page_of}
use Rattle.sb_node.specs.declared.head.Head.{Head}
use Rattle.sb_node.specs.Entries.{Entry, key_cmp}
use Rattle.sb_node.specs.Page.{Node, node_in, node_of}
use Rattle.sb_node.proofs.Edited.{node_of-form}
use Rattle.sb_forms.specs.Tree.{Nodes, Child, child_of, children_of, entries_of, items, IsSmall, IsBound, IsLeaf, IsInner, IsTree, child_in}
use Rattle.sb_forms.specs.Read.{all_by, is_small, is_bound, has}
use Rattle.sb_btree.specs.Broken.{held_node, is_of_level, are_of_level, is_page, is_narrow, is_amiss, children_at, any_by, breaks_below}
use Rattle.sb_btree.specs.Held.{IsTreePage, Lacks, passed, nth_child}
use Rattle.sb_btree.specs.Leaves.{entry_at, entry_in, in_leaf}
use Rattle.sb_btree.specs.declared.lookup.LeafEntry.{LeafEntry}
use Rattle.sb_btree.specs.Ways.{child_on, way}
use Rattle.sb_btree.specs.Walks.{as_walk, Breaks, Leads, Shows}
use Rattle.sb_btree.specs.declared.walk.Stop.{Stop}
use Rattle.sb_btree.specs.declared.walk.Stop.TheVariants as stop
use Rattle.sb_btree.specs.declared.walk.Walk.{Walk}
use Rattle.sb_btree.specs.declared.walk.Walk.TheVariants.{Ready, Need, Fresh, Broken, NoMemory}
use Rattle.sb_btree.proofs.Children.{tree_child, tree_step}
use Rattle.sb_btree.proofs.Passing.{child_passed}
use Rattle.sb_btree.proofs.Reading.{all_says, small_says, bound_says}

pub positive : (n : ℕ) → 0 < n → nat_eq n 0 ≡ false
positive n h = grind (arith, nat_tests)

pub not_zero : (l : ℕ) → nat_eq (suc l) 0 ≡ false
not_zero l = grind (arith, nat_tests)

-- ---- pages of trees are pages of their levels
leaf_page : (o : Option Node) → IsLeaf o → is_page 0 o ≡ true
leaf_page None h = absurd h
leaf_page (Some n) h = and_from _ _ (and_from _ _ (eq-eqb n.head.kind 2 h.0) (eq-eqb n.head.level 0 h.1)) ((all_says is_small IsSmall small_says n.entries).1 h.2)

pub inner_page : (l : ℕ) (o : Option Node) → IsInner (suc l) o → is_page (suc l) o ≡ true
inner_page l None h = absurd h
inner_page l (Some n) h =
    and_from _ _
    (ap (λ b. nat_eq n.head.kind (cond b 2 3) && nat_eq n.head.level (suc l)) (not_zero l) ∙ and_from _ _ (eq-eqb n.head.kind 3 h.0) (eq-eqb n.head.level (suc l) h.1))
    (ap (λ b. all_by (cond b is_small is_bound) n.entries) (not_zero l) ∙ (all_says is_bound IsBound bound_says n.entries).1 h.2)

pub tree_page : (l : ℕ) (N : Nodes) (p : ℕ) → IsTree l N p → is_page l (N p) ≡ true
tree_page zero N p t = leaf_page (N p) t
tree_page (suc l) N p t = inner_page l (N p) t.0

-- and have two children or more where they are inner ones
leaf_wide : (o : Option Node) → is_narrow 0 o ≡ false
leaf_wide None = refl
leaf_wide (Some n) = refl

inner_wide : (l : ℕ) (o : Option Node) → 0 < length (entries_of o) → is_narrow (suc l) o ≡ false
inner_wide l None full = refl
inner_wide l (Some n) full = and_right (not (nat_eq (suc l) 0)) (nat_eq (length n.entries) 0) (positive (length n.entries) full)

pub tree_wide : (l : ℕ) (N : Nodes) (p : ℕ) → IsTree l N p → is_narrow l (N p) ≡ false
tree_wide zero N p t = leaf_wide (N p)
tree_wide (suc l) N p t = inner_wide l (N p) t.1

-- so none of them is amiss
pub tree_amiss : (l : ℕ) (held : Option (List ℕ)) (N : Nodes) (p : ℕ) → ((bytes : List ℕ) → held ≡ Some bytes → N p ≡ node_of bytes) → IsTree l N p → is_amiss l held ≡ false
tree_amiss l None N p shows t = refl
tree_amiss l (Some bytes) N p shows t =
    let here = sym (shows bytes refl) in
    (λ i. not ((ap (is_page l) here ∙ tree_page l N p t) i) || (ap (is_narrow l) here ∙ tree_wide l N p t) i)

-- ---- a page that is amiss ends the walk
pub breaks_here : (l : ℕ) (held : HeldPages) (p : ℕ) → is_amiss l (held p) ≡ true → breaks_below l held p p ≡ true
breaks_here zero held p amiss = and_from _ _ (eq-eqb p p refl) amiss
breaks_here (suc l) held p amiss = or_left _ _ (and_from _ _ (eq-eqb p p refl) amiss)

pub stop_breaks : (T : Type 0) (l : ℕ) (held : HeldPages) (p : ℕ) (s : Stop) → Lacks (held p) (is_amiss l (held p)) p s → Breaks {T = T} (breaks_below l held p) (as_walk (Err s))
stop_breaks T l held p (stop.Need n) lacks = tt
stop_breaks T l held p stop.Fresh lacks = tt
stop_breaks T l held p (stop.Broken n) lacks = subst (λ x. breaks_below l held p x ≡ true) (sym lacks.0) (breaks_here l held p lacks.1)
stop_breaks T l held p stop.NoMemory lacks = tt

pub stop_leads : {T : Type 0} (IsSo : T → Type 0) (may : ℕ → Bool) (l : ℕ) (c : View) (p : ℕ) (s : Stop) → Lacks (page_of c p) (is_amiss l (page_of c p)) p s
    → may p ≡ true → (N : Nodes) → Shows c N → IsTree l N p → Leads IsSo may (as_walk (Err s))
stop_leads IsSo may l c p (stop.Need n) lacks first N shows t = (tt, ap may lacks.0 ∙ first)
stop_leads IsSo may l c p stop.Fresh lacks first N shows t = absurd lacks
stop_leads IsSo may l c p (stop.Broken n) lacks first N shows t = absurd (true≢false (sym lacks.1 ∙ tree_amiss l (page_of c p) N p (shows p) t))
stop_leads IsSo may l c p stop.NoMemory lacks first N shows t = absurd lacks

-- ---- an inner page of which an entry has no child
pub spelled_not : (l : ℕ) (a : Bool) (es : List Entry) → all_by is_bound es ≡ false → (a && are_of_level (suc l) es) ≡ false
spelled_not l true es e = ap (λ b. all_by (cond b is_small is_bound) es) (not_zero l) ∙ e
spelled_not l false es e = refl

pub entries_amiss : (l m : ℕ) (held : Option (List ℕ)) (bytes : List ℕ) (head : Head) → l ≡ suc m → IsTreePage held l bytes head → all_by is_bound (node_in bytes).entries ≡ false → is_amiss l held ≡ true
entries_amiss l m held bytes head is page none =
    subst (λ k. is_amiss k held ≡ true) (sym is)
    (ap (is_amiss (suc m)) page.held_is ∙ ap (λ o. not (is_page (suc m) o) || is_narrow (suc m) o) (node_of-form bytes page.form)
    ∙ ap (λ b. not b || is_narrow (suc m) (Some (node_in bytes))) (spelled_not m (is_of_level (suc m) (node_in bytes).head) (node_in bytes).entries none))

pub entries_lead : (l m : ℕ) (c : View) (p : ℕ) (bytes : List ℕ) (head : Head) → l ≡ suc m → IsTreePage (page_of c p) l bytes head → all_by is_bound (node_in bytes).entries ≡ false → (N : Nodes) → Shows c N → IsTree l N p → ⊥
entries_lead l m c p bytes head is page none N shows t =
    true≢false (sym (entries_amiss l m (page_of c p) bytes head is page none) ∙ tree_amiss l (page_of c p) N p (shows p) t)

-- ---- a child that breaks
any_nth : (t : ℕ → Bool) (low : List ℕ) (a : ℕ) (es : List Entry) (i : ℕ) → t (nth_child a es i) ≡ true → any_by (λ (child : Child). t child.1) ((low, a) ∷ map child_of es) ≡ true
any_nth t low a [] i e = or_left _ _ e
any_nth t low a (x ∷ es) zero e = or_left _ _ e
any_nth t low a (x ∷ es) (suc i) e = or_right _ _ (any_nth t x.0 (number_at 4 x.1 0) es i e)

-- a test that the child at a place passes
pub any_child_at : (t : ℕ → Bool) (m : ℕ) (held : HeldPages) (p : ℕ) (bytes : List ℕ) (head : Head) (i : ℕ) → IsTreePage (held p) (suc m) bytes head → t (nth_child head.a (node_in bytes).entries i) ≡ true
    → any_by (λ (child : Child). t child.1) (children_at (suc m) (held_node (held p))) ≡ true
any_child_at t m held p bytes head i page b =
    let here : children_at (suc m) (held_node (held p)) ≡ children_of (Some (node_in bytes)) =
    ap (λ o. children_at (suc m) (held_node o)) page.held_is ∙ ap (children_at (suc m)) (node_of-form bytes page.form)
    ∙ ap (λ t. cond t (children_of (Some (node_in bytes))) []) (ap (is_of_level (suc m)) (sym page.head_is) ∙ page.level_is) in
    let child : t (nth_child (node_in bytes).head.a (node_in bytes).entries i) ≡ true = subst (λ (h : Head). t (nth_child h.a (node_in bytes).entries i) ≡ true) page.head_is b in
    ap (any_by (λ (k : Child). t k.1)) here ∙ any_nth t [] (node_in bytes).head.a (node_in bytes).entries i child

breaks_child : (m : ℕ) (held : HeldPages) (p : ℕ) (bytes : List ℕ) (head : Head) (i n : ℕ) → IsTreePage (held p) (suc m) bytes head → breaks_below m held (nth_child head.a (node_in bytes).entries i) n ≡ true → breaks_below (suc m) held p n ≡ true
breaks_child m held p bytes head i n page b = or_right _ _ (any_child_at (λ k. breaks_below m held k n) m held p bytes head i page b)

pub breaks_step : {T : Type 0} (l m : ℕ) (held : HeldPages) (p : ℕ) (bytes : List ℕ) (head : Head) (i child : ℕ) (w : Walk T) → l ≡ suc m → IsTreePage (held p) l bytes head → child ≡ nth_child head.a (node_in bytes).entries i
    → Breaks (breaks_below m held child) w → Breaks (breaks_below l held p) w
breaks_step l m held p bytes head i child (Ready r) is page at b = tt
breaks_step l m held p bytes head i child (Need n) is page at b = tt
breaks_step l m held p bytes head i child Fresh is page at b = tt
breaks_step l m held p bytes head i child (Broken n) is page at b =
    subst (λ k. breaks_below k held p n ≡ true) (sym is) (breaks_child m held p bytes head i n (subst (λ k. IsTreePage (held p) k bytes head) is page) (subst (λ k. breaks_below m held k n ≡ true) at b))
breaks_step l m held p bytes head i child NoMemory is page at b = tt

-- ---- the way down to a key
pub way_first : (l : ℕ) (N : Nodes) (key : Option (List ℕ)) (p : ℕ) → has p (way l N key p) ≡ true
way_first zero N key p = or_left _ _ (eq-eqb p p refl)
way_first (suc l) N key p = or_left _ _ (eq-eqb p p refl)

-- the nodes have the page that is held
pub shown : (c : View) (N : Nodes) (p l : ℕ) (bytes : List ℕ) (head : Head) → Shows c N → IsTreePage (page_of c p) l bytes head → N p ≡ Some (node_in bytes)
shown c N p l bytes head shows page = shows p bytes page.held_is ∙ node_of-form bytes page.form

-- the child in which a key stands
pub child_on-passed : (key : Option (List ℕ)) (n : Node) → child_on key (Some n) ≡ nth_child n.head.a n.entries (passed key n.entries)
child_on-passed None n = sym (leftmost n.head.a n.entries)
  where
    leftmost : (a : ℕ) (es : List Entry) → nth_child a es (passed None es) ≡ a
    leftmost a [] = refl
    leftmost a (e ∷ es) = refl
child_on-passed (Some key) n = child_passed key n.head.a n.entries

pub child_on-page : (key : Option (List ℕ)) (o : Option Node) (bytes : List ℕ) (head : Head) → o ≡ Some (node_in bytes) → head ≡ (node_in bytes).head → child_on key o ≡ nth_child head.a (node_in bytes).entries (passed key (node_in bytes).entries)
child_on-page key o bytes head here is =
    ap (child_on key) here ∙ child_on-passed key (node_in bytes) ∙ ap (λ (h : Head). nth_child h.a (node_in bytes).entries (passed key (node_in bytes).entries)) (sym is)

-- a step to the child in which a key stands
pub record FindStep (m : ℕ) (N : Nodes) (p child : ℕ) (key : List ℕ) : Type 0 where
  pub tree : IsTree m N child
  pub items_are : find key_cmp key (items (suc m) N p) ≡ find key_cmp key (items m N child)
  pub way_is : way (suc m) N (Some key) p ≡ p ∷ way m N (Some key) child

pub find_step : (m : ℕ) (N : Nodes) (p : ℕ) (key bytes : List ℕ) (head : Head) → N p ≡ Some (node_in bytes) → head ≡ (node_in bytes).head → IsTree (suc m) N p
    → FindStep m N p (nth_child head.a (node_in bytes).entries (passed (Some key) (node_in bytes).entries)) key
find_step m N p key bytes head here is t =
    let on = child_on-page (Some key) (N p) bytes head here is in
    let at : child_in key (N p) ≡ nth_child head.a (node_in bytes).entries (passed (Some key) (node_in bytes).entries) = in_is (N p) ∙ on in
    record {
      tree = subst (IsTree m N) at (tree_child N m key p t);
      items_are = tree_step N m key p t ∙ ap (λ k. find key_cmp key (items m N k)) at;
      way_is = ap (λ k. p ∷ way m N (Some key) k) on;
    }
  where
    in_is : (o : Option Node) → child_in key o ≡ child_on (Some key) o
    in_is None = refl
    in_is (Some n) = refl

-- the entry of a key below a page
abbrev pub FindLeads : ℕ → Nodes → List ℕ → ℕ → Walk (Option LeafEntry) → Type 0
FindLeads l N key p w = Leads (λ found. option_map entry_in found ≡ entry_at key (items l N p)) (λ n. has n (way l N (Some key) p)) w

finds : (m : ℕ) (N : Nodes) (p child : ℕ) (key : List ℕ) (w : Walk (Option LeafEntry)) → FindStep m N p child key → FindLeads m N key child w → FindLeads (suc m) N key p w
finds m N p child key (Ready r) s g = (g.0 ∙ ap (option_map (λ value. (key, value))) (sym s.items_are), tt)
finds m N p child key (Need n) s g = (tt, ap (has n) s.way_is ∙ or_right _ _ g.1)
finds m N p child key Fresh s g = (g.0, tt)
finds m N p child key (Broken n) s g = (g.0, tt)
finds m N p child key NoMemory s g = (tt, tt)

pub find_leads : (l m : ℕ) (c : View) (p : ℕ) (key bytes : List ℕ) (head : Head) (child : ℕ) (w : Walk (Option LeafEntry)) → l ≡ suc m → IsTreePage (page_of c p) l bytes head
    → child ≡ nth_child head.a (node_in bytes).entries (passed (Some key) (node_in bytes).entries)
    → (N : Nodes) → Shows c N → IsTree l N p → (IsTree m N child → FindLeads m N key child w) → FindLeads l N key p w
find_leads l m c p key bytes head child w is page at N shows t below =
    let s = subst (λ k. FindStep m N p k key) (sym at) (find_step m N p key bytes head (shown c N p l bytes head shows page) page.head_is (subst (λ k. IsTree k N p) is t)) in
    subst (λ k. FindLeads k N key p w) (sym is) (finds m N p child key w s (below s.tree))

-- a leaf has the entry
pub without_leaf : (leaf : ℕ) (o : Option Entry) → option_map entry_in (option_map (in_leaf leaf) o) ≡ o
without_leaf leaf None = refl
without_leaf leaf (Some e) = refl

pub leaf_finds : (l : ℕ) (c : View) (p : ℕ) (key bytes : List ℕ) (head : Head) (found : Option LeafEntry) → l ≡ 0 → IsTreePage (page_of c p) l bytes head → (N : Nodes) → Shows c N
    → found ≡ option_map (in_leaf p) (entry_at key (node_in bytes).entries) → option_map entry_in found ≡ entry_at key (items l N p)
leaf_finds l c p key bytes head found is page N shows v =
    ap (option_map entry_in) v ∙ without_leaf p (entry_at key (node_in bytes).entries)
    ∙ ap (λ o. entry_at key (entries_of o)) (sym (shown c N p l bytes head shows page)) ∙ ap (λ k. entry_at key (items k N p)) (sym is)
