-- No page of a tree is amiss, and its ways are short.
use Rattle.std.proofs.Common.{◌≡◌, ℕ, zero, suc, ◌≤◌, Bool, true, false, cond, ◌&&◌, List, [], ◌∷◌, ◌++◌, length, map, Option, Some, None, refl, ap, sym, ◌∙◌, subst, inl, inr, arith}
use Rattle.std.specs.Prelude.{nat_eq, nat_lt}
use Rattle.std.proofs.lemmas.Bool.{and_right, or_from, le-ltb}
use Rattle.sb_ctx.specs.View.{HeldPages}
use Rattle.sb_node.specs.Entries.{Entry, is_below}
use Rattle.sb_node.specs.Page.{Node, node_of}
use Rattle.sb_forms.specs.Pages.{Pages}
use Rattle.sb_forms.specs.Read.{has, read_tree}
use Rattle.sb_forms.specs.TreePages.{tree_met}
use Rattle.sb_forms.specs.Tree.{Nodes, nodes, Child, child_of, children_of, over, items, met, AreChildren, IsLeaf, IsInner, IsChild, IsTree, IsRoot, Has, level_of, child_for, child_in}
use Rattle.sb_btree.specs.Broken.{held_node, is_of_level, is_amiss, children_at, any_by, breaks_below, is_no_root, TreesAreWhole}
use Rattle.sb_btree.specs.Removes.{before, beside, beside_in, removal_way, is_on_removal_way}
use Rattle.sb_btree.specs.Ways.{child_on, way, tree_way, WaysAreShort}
use Rattle.sb_btree.proofs.Children.{children_child}
use Rattle.sb_btree.proofs.Descending.{tree_amiss}
use Rattle.sb_btree.proofs.Members.{has_left, has_right, has_is, is_has}
use Rattle.sb_btree.proofs.Reading.{read_root}

-- some of the nodes are held
abbrev pub AreShown : HeldPages → Nodes → Type 0
AreShown held N = (n : ℕ) (bytes : List ℕ) → held n ≡ Some bytes → N n ≡ node_of bytes

any_child : (IsSo : ℕ → Type 0) (f : ℕ → List Entry) (t : ℕ → Bool) → ((c : ℕ) → IsSo c → t c ≡ false) → (high : Option (List ℕ)) (ks : List Child) → AreChildren IsSo f high ks → any_by (λ (child : Child). t child.1) ks ≡ false
any_child IsSo f t never high [] h = refl
any_child IsSo f t never high (k ∷ ks) h = or_from (t k.1) (any_by (λ (child : Child). t child.1) ks) (never k.1 h.0) (any_child IsSo f t never high ks h.3)

any_at : (l : ℕ) (N : Nodes) (t : ℕ → Bool) → ((c : ℕ) → IsChild l N c → t c ≡ false) → (o : Option Node) → AreChildren (IsChild l N) (items l N) None (children_of o) → any_by (λ (child : Child). t child.1) (children_at (suc l) o) ≡ false
any_at l N t never None h = refl
any_at l N t never (Some n) h =
    elim (is_of_level (suc l) n.head) as (λ b. any_by (λ (child : Child). t child.1) (cond b (children_of (Some n)) []) ≡ false) [
      | true ↦ any_child (IsChild l N) (items l N) t never None (children_of (Some n)) h
      | false ↦ refl
    ]

any_held : (l : ℕ) (N : Nodes) (p : ℕ) (t : ℕ → Bool) → ((c : ℕ) → IsChild l N c → t c ≡ false) → IsTree (suc l) N p → (held : Option (List ℕ)) → ((bytes : List ℕ) → held ≡ Some bytes → N p ≡ node_of bytes)
    → any_by (λ (child : Child). t child.1) (children_at (suc l) (held_node held)) ≡ false
any_held l N p t never tree None shows = refl
any_held l N p t never tree (Some bytes) shows = any_at l N t never (node_of bytes) (subst (λ o. AreChildren (IsChild l N) (items l N) None (children_of o)) (shows bytes refl) tree.2)

pub whole_below : (l : ℕ) (held : HeldPages) (N : Nodes) (p n : ℕ) → AreShown held N → IsTree l N p → breaks_below l held p n ≡ false
whole_below zero held N p n shows tree = and_right (nat_eq p n) (is_amiss 0 (held p)) (tree_amiss 0 (held p) N p (shows p) tree)
whole_below (suc l) held N p n shows tree =
    or_from (nat_eq p n && is_amiss (suc l) (held p)) _
    (and_right (nat_eq p n) (is_amiss (suc l) (held p)) (tree_amiss (suc l) (held p) N p (shows p) tree))
    (any_held l N p (λ c. breaks_below l held c n) (λ c h. whole_below l held N c n shows h.0) tree (held p) (shows p))

-- a page that isn't held breaks nothing
unheld_whole : (l : ℕ) (held : HeldPages) (p n : ℕ) → held p ≡ None → breaks_below l held p n ≡ false
unheld_whole zero held p n none = and_right (nat_eq p n) (is_amiss 0 (held p)) (ap (is_amiss 0) none)
unheld_whole (suc l) held p n none =
    or_from (nat_eq p n && is_amiss (suc l) (held p)) _ (and_right (nat_eq p n) (is_amiss (suc l) (held p)) (ap (is_amiss (suc l)) none))
    (ap (λ o. any_by (λ (child : Child). breaks_below l held child.1 n) (children_at (suc l) (held_node o))) none)

-- ---- the root
some_node : (l : ℕ) (N : Nodes) (p : ℕ) → IsTree l N p → N p ≡ None → ⊥
some_node zero N p t none = subst IsLeaf none t
some_node (suc l) N p t none = subst (IsInner (suc l)) none t.0

shallow : (o : Option Node) → (o ≡ None → ⊥) → level_of o ≤ 16 → elim o as (λ x. Bool) [ None ↦ true | Some n ↦ nat_lt 16 n.head.level ] ≡ false
shallow None some low = absurd (some refl)
shallow (Some n) some low = le-ltb 16 n.head.level low

pub root_whole : (N : Nodes) (root : ℕ) (held : Option (List ℕ)) → IsRoot N root → ((bytes : List ℕ) → held ≡ Some bytes → N root ≡ node_of bytes) → is_no_root held ≡ false
root_whole N root None r shows = refl
root_whole N root (Some bytes) r shows =
    let here = shows bytes refl in
    shallow (node_of bytes) (λ none. some_node (level_of (N root)) N root r.tree (here ∙ none)) (subst (λ o. level_of o ≤ 16) here r.shallow)

breaks_none : (held : HeldPages) (N : Nodes) (root n : ℕ) → IsRoot N root → AreShown held N → (o : Option (List ℕ)) → held root ≡ o → breaks_below (level_of (held_node o)) held root n ≡ false
breaks_none held N root n r shows None is = unheld_whole 0 held root n is
breaks_none held N root n r shows (Some bytes) is =
    ap (λ l. breaks_below l held root n) (ap level_of (sym (shows root bytes is))) ∙ whole_below (level_of (N root)) held N root n shows r.tree

pub trees_are_whole : TreesAreWhole
trees_are_whole P root es read held n some =
    let r = (read_root P root es read).0 in
    let shows : AreShown held (nodes P) = (λ m bytes is. ap node_of (some m bytes is)) in
    ap (λ b. cond b (nat_eq root n) (breaks_below (level_of (held_node (held root))) held root n)) (root_whole (nodes P) root (held root) r (shows root))
    ∙ breaks_none held (nodes P) root n r shows (held root) refl

-- ---- ways
length-way : (l : ℕ) (N : Nodes) (key : Option (List ℕ)) (p : ℕ) → length (way l N key p) ≡ suc l
length-way zero N key p = refl
length-way (suc l) N key p = ap suc (length-way l N key (child_on key (N p)))

over_for : (f : ℕ → List ℕ) (key : List ℕ) (x : ℕ) (k : Child) (ks : List Child) → Has x (f (child_for key k.1 ks)) → Has x (over f (k ∷ ks))
over_for f key x k [] h = has_left x (f k.1) [] h
over_for f key x k (j ∷ ks) h =
    elim (is_below key j.0) as (λ b. Has x (f (cond b k.1 (child_for key j.1 ks))) → Has x (over f (k ∷ j ∷ ks))) [
      | true ↦ λ g. has_left x (f k.1) (over f (j ∷ ks)) g
      | false ↦ λ g. has_right x (f k.1) (over f (j ∷ ks)) (over_for f key x j ks g)
    ] h

over_child : (f : ℕ → List ℕ) (key : Option (List ℕ)) (x : ℕ) (o : Option Node) → (o ≡ None → ⊥) → Has x (f (child_on key o)) → Has x (over f (children_of o))
over_child f key x None some h = absurd (some refl)
over_child f None x (Some n) some h = has_left x (f n.head.a) (over f (map child_of n.entries)) h
over_child f (Some key) x (Some n) some h = over_for f key x ([], n.head.a) (map child_of n.entries) h

child_tree : (l : ℕ) (N : Nodes) (key : Option (List ℕ)) (p : ℕ) → IsTree (suc l) N p → IsTree l N (child_on key (N p))
child_tree l N key p t = on (N p) t.0 t.2
  where
    on : (o : Option Node) → IsInner (suc l) o → AreChildren (IsChild l N) (items l N) None (children_of o) → IsTree l N (child_on key o)
    on None i h = absurd i
    on (Some n) i h = by key
      where
        by : (key : Option (List ℕ)) → IsTree l N (child_on key (Some n))
        by None = h.0.0
        by (Some k) = (children_child (IsChild l N) (items l N) k None ([], n.head.a) (map child_of n.entries) h).0

way_met : (l : ℕ) (N : Nodes) (key : Option (List ℕ)) (p x : ℕ) → IsTree l N p → Has x (way l N key p) → Has x (met l N p)
way_met zero N key p x t h = h
way_met (suc l) N key p x t (inl e) = inl e
way_met (suc l) N key p x t (inr h) =
    inr (over_child (met l N) key x (N p) (some_node (suc l) N p t) (way_met l N key (child_on key (N p)) x (child_tree l N key p t) h))

pub ways_are_short : WaysAreShort
ways_are_short P root es read key =
    let r = (read_root P root es read).0 in
    let l = level_of (nodes P root) in
    (omega (arith, length-way l (nodes P) key root, r.shallow), λ n on. is_has n (met l (nodes P) root) (way_met l (nodes P) key root n r.tree (has_is n (tree_way root P key) on)))

-- ---- the ways of removals
met_first : (l : ℕ) (N : Nodes) (p : ℕ) → Has p (met l N p)
met_first zero N p = inl refl
met_first (suc l) N p = inl refl

over_before : (f : ℕ → List ℕ) → ((c : ℕ) → Has c (f c)) → (key : List ℕ) (d c : ℕ) (ks : List Child) → Has (before key d c ks) (f d ++ (f c ++ over f ks))
over_before f own key d c [] = has_left d (f d) (f c ++ []) (own d)
over_before f own key d c (k ∷ ks) =
    elim (is_below key k.0) as (λ b. Has (cond b d (before key c k.1 ks)) (f d ++ (f c ++ over f (k ∷ ks)))) [
      | true ↦ has_left d (f d) (f c ++ over f (k ∷ ks)) (own d)
      | false ↦ has_right (before key c k.1 ks) (f d) (f c ++ over f (k ∷ ks)) (over_before f own key c k.1 ks)
    ]

over_beside : (f : ℕ → List ℕ) → ((c : ℕ) → Has c (f c)) → (key : List ℕ) (o : Option Node) → (o ≡ None → ⊥) → Has (beside_in key o) (over f (children_of o))
over_beside f own key None some = absurd (some refl)
over_beside f own key (Some n) some = by n.head.a (map child_of n.entries)
  where
    by : (d : ℕ) (ks : List Child) → Has (beside key d ks) (f d ++ over f ks)
    by d [] = has_left d (f d) [] (own d)
    by d (k ∷ ks) = elim (is_below key k.0) as (λ b. Has (cond b k.1 (before key d k.1 ks)) (f d ++ over f (k ∷ ks))) [
      | true ↦ has_right k.1 (f d) (over f (k ∷ ks)) (has_left k.1 (f k.1) (over f ks) (own k.1))
      | false ↦ over_before f own key d k.1 ks
    ]

same_child : (key : List ℕ) (o : Option Node) → child_in key o ≡ child_on (Some key) o
same_child key None = refl
same_child key (Some n) = refl

removal_met : (l : ℕ) (N : Nodes) (key : List ℕ) (p x : ℕ) → IsTree l N p → Has x (removal_way l N key p) → Has x (met l N p)
removal_met zero N key p x t h = h
removal_met (suc l) N key p x t (inl e) = inl e
removal_met (suc l) N key p x t (inr (inl e)) = inr (subst (λ y. Has y (over (met l N) (children_of (N p)))) (sym e) (over_beside (met l N) (met_first l N) key (N p) (some_node (suc l) N p t)))
removal_met (suc l) N key p x t (inr (inr h)) =
    inr (over_child (met l N) (Some key) x (N p) (some_node (suc l) N p t)
    (removal_met l N key (child_on (Some key) (N p)) x (child_tree l N (Some key) p t) (subst (λ c. Has x (removal_way l N key c)) (same_child key (N p)) h)))

-- the tree meets the pages on them
pub removal_ways_met : (P : Pages) (root : ℕ) (es : List Entry) → read_tree root P ≡ Some es → (key : List ℕ) (n : ℕ) → is_on_removal_way root P key n ≡ true → has n (tree_met root P) ≡ true
removal_ways_met P root es read key n on =
    let l = level_of (nodes P root) in
    is_has n (met l (nodes P) root) (removal_met l (nodes P) key root n (read_root P root es read).0.tree (has_is n (removal_way l (nodes P) key root) on))
