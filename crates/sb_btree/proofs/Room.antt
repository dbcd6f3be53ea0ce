-- A put asks for a fresh page only in a tree that has few pages for its entries.
use Rattle.std.proofs.Common.{◌≡◌, ℕ, suc, ◌+◌, ◌*◌, ◌<◌, ◌≤◌, List, [], ◌∷◌, ◌++◌, length, map, Option, Some, None, ap, sym, ◌∙◌, subst, arith, length-append}
use Rattle.std.specs.Prelude.{Result, Ok, Err}
use Rattle.std.specs.List.{AllByRecursion}
use Rattle.std.proofs.lemmas.List.{length-map}
use Rattle.std.proofs.lemmas.List.Sums.{sum_by-cons}
use Rattle.sb_ctx.specs.View.{View, page_of, stored}
use Rattle.sb_node.specs.declared.head.Head.{Head}
use Rattle.sb_node.specs.Entries.{Entry, size_of, sizes}
use Rattle.sb_node.specs.Page.{Node, node_in}
use Rattle.sb_node.proofs.Sizes.{head_counts}
use Rattle.sb_forms.specs.Tree.{Nodes, nodes, Child, child_of, children_of, entries_of, over, items, met, AreChildren, IsSmall, IsLeaf, IsBound, IsInner, IsChild, IsTree, child_for}
use Rattle.sb_forms.specs.TreePages.{tree_met}
use Rattle.sb_btree.specs.Held.{IsRootPage, IsTreePage, passed, nth_child}
use Rattle.sb_btree.specs.Inserts.{OverTrees}
use Rattle.sb_btree.specs.Spending.{AsksWithin, PutsWithin, TakesAt, TakesOne, taken_of}
use Rattle.sb_btree.specs.Walks.{OverNodes, as_walk}
use Rattle.sb_btree.specs.declared.insertion.Put.{Put}
use Rattle.sb_btree.specs.declared.insertion.Put.TheVariants.{Kept, Done, Split}
use Rattle.sb_btree.specs.declared.walk.Stop.{Stop}
use Rattle.sb_btree.specs.declared.walk.Stop.TheVariants as stop
use Rattle.sb_btree.proofs.Children.{over-append, AreChildren-left, AreChildren-right, all_map, chosen}
use Rattle.sb_btree.proofs.Counting.{met_few, over_few}
use Rattle.sb_btree.proofs.Descending.{shown}
use Rattle.sb_btree.proofs.Order.{above-first}
use Rattle.sb_btree.proofs.Passing.{child_passed}
use Rattle.sb_btree.proofs.Roots.{at_root, stored_shows}

-- ---- a page without room has two entries or more
two_entries : (most size : ℕ) (es : List Entry) → AllByRecursion (λ e. size_of e ≤ most) es → most + size ≤ 4072 → 4072 < sizes es + size → 2 ≤ length es
two_entries most size [] small fits lacks = absurd (omega (arith, fits, lacks))
two_entries most size (e ∷ []) small fits lacks = absurd (omega (arith, fits, lacks, small.0, sum_by-cons size_of e []))
two_entries most size (e ∷ f ∷ es) small fits lacks = omega arith

small_size : (e : Entry) → IsSmall e → size_of e ≤ 2036
small_size e small = omega (arith, small.1)

bound_size : (e : Entry) → IsBound e → size_of e ≤ 610
bound_size e bound = omega (arith, bound.0, bound.1)

leaf_two : (o : Option Node) (size : ℕ) → IsLeaf o → size ≤ 2036 → 4072 < sizes (entries_of o) + size → 2 ≤ length (entries_of o)
leaf_two None size leaf fits lacks = absurd leaf
leaf_two (Some n) size leaf fits lacks = two_entries 2036 size n.entries (all_map IsSmall (λ (e : Entry). size_of e ≤ 2036) small_size n.entries leaf.2) (omega (arith, fits)) lacks

pub inner_two : (l : ℕ) (o : Option Node) → IsInner l o → 4072 < sizes (entries_of o) + 610 → 2 ≤ length (entries_of o)
inner_two l None inner lacks = absurd inner
inner_two l (Some n) inner lacks = two_entries 610 610 n.entries (all_map IsBound (λ (e : Entry). size_of e ≤ 610) bound_size n.entries inner.2) (omega arith) lacks

-- ---- a child among its neighbours
pub record Among (l : ℕ) (N : Nodes) (p child : ℕ) : Type 0 where
  pub tree : IsTree l N child
  -- pages that are fewer than twice the entries below the child leave as many more at the page as that has entries
  pub rest : (t o : ℕ) → length (met l N child) + t < o + 2 * length (items l N child) → length (met (suc l) N p) + t + length (entries_of (N p)) ≤ o + 2 * length (items (suc l) N p)

pub among : (l : ℕ) (N : Nodes) (p child : ℕ) (key : List ℕ) (n : Node) → N p ≡ Some n → child ≡ child_for key n.head.a (map child_of n.entries) → IsTree (suc l) N p → Among l N p child
among l N p child key n there at tree =
    let all : List Child = ([], n.head.a) ∷ map child_of n.entries in
    let c = chosen key None ([], n.head.a) (map child_of n.entries) (above-first key) tt in
    let order : AreChildren (IsChild l N) (items l N) None all = subst (λ o. AreChildren (IsChild l N) (items l N) None (children_of o)) there tree.2 in
    let cut = subst (AreChildren (IsChild l N) (items l N) None) c.parts order in
    let before = over_few N l _ c.before (met_few N l) (AreChildren-left (IsChild l N) (items l N) None c.before (c.kid ∷ c.after) cut) in
    let right = AreChildren-right (IsChild l N) (items l N) None c.before (c.kid ∷ c.after) cut in
    let after = over_few N l _ c.after (met_few N l) right.3 in
    let same : child ≡ c.kid.1 = at ∙ sym c.is in
    let pages : length (met (suc l) N p) ≡ suc (length (over (met l N) c.before) + (length (met l N c.kid.1) + length (over (met l N) c.after))) =
    ap (λ o. suc (length (over (met l N) (children_of o)))) there ∙ ap suc (ap (λ ks. length (over (met l N) ks)) c.parts ∙ ap length (over-append (met l N) c.before (c.kid ∷ c.after))
    ∙ length-append (over (met l N) c.before) (met l N c.kid.1 ++ over (met l N) c.after) ∙ ap (λ m. length (over (met l N) c.before) + m) (length-append (met l N c.kid.1) (over (met l N) c.after))) in
    let entries : length (items (suc l) N p) ≡ length (over (items l N) c.before) + (length (items l N c.kid.1) + length (over (items l N) c.after)) =
    ap (λ o. length (over (items l N) (children_of o))) there ∙ ap (λ ks. length (over (items l N) ks)) c.parts ∙ ap length (over-append (items l N) c.before (c.kid ∷ c.after))
    ∙ length-append (over (items l N) c.before) (items l N c.kid.1 ++ over (items l N) c.after) ∙ ap (λ m. length (over (items l N) c.before) + m) (length-append (items l N c.kid.1) (over (items l N) c.after)) in
    let count : suc (length (entries_of (N p))) ≡ length c.before + suc (length c.after) =
    ap (λ o. suc (length (entries_of o))) there ∙ ap suc (sym (length-map n.entries child_of)) ∙ ap length c.parts ∙ length-append c.before (c.kid ∷ c.after) in
    record {
      tree = subst (IsTree l N) (sym same) right.0.0;
      rest = λ t o few. omega (arith, pages, entries, count, before, after, subst (λ k. length (met l N k) + t < o + 2 * length (items l N k)) same few);
    }

-- ---- a put at a leaf
at_leaf : (old new : View) (N : Nodes) (page size : ℕ) (n : Node) (outcome : Result Put Stop) → N page ≡ Some n → n.head.used ≡ sizes n.entries → IsTree 0 N page → size ≤ 2036
    → TakesAt old new size (Some n) outcome → PutsWithin 0 N page old new outcome
at_leaf old new N page size n outcome there used tree fits takes = by outcome takes
  where
    two : 4072 < n.head.used + size → 2 ≤ length (entries_of (N page))
    two lacks = leaf_two (N page) size tree fits (subst (λ o. 4072 < sizes (entries_of o) + size) (sym there) (omega (arith, used, lacks)))

    by : (outcome : Result Put Stop) → TakesAt old new size (Some n) outcome → PutsWithin 0 N page old new outcome
    by (Ok Kept) takes = tt
    by (Ok Done) takes = tt
    by (Ok (Split bound next)) takes = omega (arith, takes.1, two takes.0)
    by (Err (stop.Need x)) takes = tt
    by (Err stop.Fresh) takes = omega (arith, takes.1, two takes.0)
    by (Err (stop.Broken x)) takes = tt
    by (Err stop.NoMemory) takes = tt

pub leaf_room : (old new : View) (l page size : ℕ) (bytes : List ℕ) (head : Head) (outcome : Result Put Stop) → l ≡ 0 → IsTreePage (page_of old page) l bytes head → size ≤ 2036
    → TakesAt old new size (Some (node_in bytes)) outcome → OverNodes old l page (λ N. PutsWithin l N page old new outcome)
leaf_room old new l page size bytes head outcome zero_is is fits takes N shows tree =
    subst (λ k. PutsWithin k N page old new outcome) (sym zero_is)
    (at_leaf old new N page size (node_in bytes) outcome (shown old N page l bytes head shows is) (head_counts bytes is.form).used (subst (λ k. IsTree k N page) zero_is tree) fits takes)

-- ---- a put below an inner page
-- it asks for a fresh page
same_within : (l : ℕ) (N : Nodes) (p child : ℕ) (old new : View) (s : Stop) → Among l N p child → 1 ≤ length (entries_of (N p))
    → PutsWithin l N child old new (Err s) → PutsWithin (suc l) N p old new (Err s)
same_within l N p child old new (stop.Need x) a full below = tt
same_within l N p child old new stop.Fresh a full below = omega (arith, full, a.rest (taken_of new) (taken_of old) below)
same_within l N p child old new (stop.Broken x) a full below = tt
same_within l N p child old new stop.NoMemory a full below = tt

-- it split the child
split_within : (l : ℕ) (N : Nodes) (p child : ℕ) (old mid new : View) (bound : List ℕ) (next : ℕ) (outcome : Result Put Stop) → Among l N p child → (4072 < sizes (entries_of (N p)) + 610 → 2 ≤ length (entries_of (N p)))
    → PutsWithin l N child old mid (Ok (Split bound next)) → (n : Node) → N p ≡ Some n → n.head.used ≡ sizes n.entries → TakesAt mid new 610 (Some n) outcome
    → PutsWithin (suc l) N p old new outcome
split_within l N p child old mid new bound next outcome a two below n there used takes = by outcome takes
  where
    many : 4072 < n.head.used + 610 → 2 ≤ length (entries_of (N p))
    many lacks = two (subst (λ o. 4072 < sizes (entries_of o) + 610) (sym there) (omega (arith, used, lacks)))

    by : (outcome : Result Put Stop) → TakesAt mid new 610 (Some n) outcome → PutsWithin (suc l) N p old new outcome
    by (Ok Kept) takes = tt
    by (Ok Done) takes = tt
    by (Ok (Split top other)) takes = omega (arith, takes.1, many takes.0, a.rest (taken_of mid) (taken_of old) below)
    by (Err (stop.Need x)) takes = tt
    by (Err stop.Fresh) takes = omega (arith, takes.1, many takes.0, a.rest (taken_of mid) (taken_of old) below)
    by (Err (stop.Broken x)) takes = tt
    by (Err stop.NoMemory) takes = tt

module _ (old : View) (l m page child : ℕ) (key bytes : List ℕ) (head : Head) (down : l ≡ suc m) (is : IsTreePage (page_of old page) l bytes head)
    (at : child ≡ nth_child head.a (node_in bytes).entries (passed (Some key) (node_in bytes).entries)) where
  pub kid_is : child ≡ child_for key (node_in bytes).head.a (map child_of (node_in bytes).entries)
  kid_is = at ∙ ap (λ (h : Head). nth_child h.a (node_in bytes).entries (passed (Some key) (node_in bytes).entries)) is.head_is ∙ sym (child_passed key (node_in bytes).head.a (node_in bytes).entries)

  pub same_room : (new : View) (s : Stop) → OverNodes old m child (λ N. PutsWithin m N child old new (Err s))
      → OverNodes old l page (λ N. PutsWithin l N page old new (Err s))
  same_room new s below N shows tree =
      let tree' = subst (λ k. IsTree k N page) down tree in
      let a = among m N page child key (node_in bytes) (shown old N page l bytes head shows is) kid_is tree' in
      subst (λ k. PutsWithin k N page old new (Err s)) (sym down)
      (same_within m N page child old new s a tree'.1 (below N shows a.tree))

  pub split_room : (mid new : View) (put : Put) (bound : List ℕ) (next : ℕ) (outcome : Result Put Stop) → put ≡ Split bound next
      → OverNodes old m child (λ N. PutsWithin m N child old mid (Ok put))
      → TakesAt mid new 610 (Some (node_in bytes)) outcome → OverNodes old l page (λ N. PutsWithin l N page old new outcome)
  split_room mid new put bound next outcome split below takes N shows tree =
      let tree' = subst (λ k. IsTree k N page) down tree in
      let there = shown old N page l bytes head shows is in
      let a = among m N page child key (node_in bytes) there kid_is tree' in
      subst (λ k. PutsWithin k N page old new outcome) (sym down)
      (split_within m N page child old mid new bound next outcome a (inner_two (suc m) (N page) tree'.0) (subst (λ p. PutsWithin m N child old mid (Ok p)) split (below N shows a.tree)) (node_in bytes) there (head_counts bytes is.form).used takes)

-- ---- at the root
module _ (old : View) (root l : ℕ) (page : IsRootPage (page_of old root) l) where
  pub stop_asks : (T : Type 0) (new : View) (s : Stop) → OverNodes old l root (λ N. PutsWithin l N root old new (Err s))
      → OverTrees old root (λ P es. AsksWithin {T = T} (2 * length es) (length (tree_met root (stored old P))) old new (as_walk (Err s)))
  stop_asks T new s below P es read =
      let at = at_root old P root l es page read in
      let N = nodes (stored old P) in
      subst (λ k. AsksWithin {T = T} (2 * length es) (length (met k N root)) old new (as_walk (Err s))) at.level_is
      (subst (λ xs. AsksWithin {T = T} (2 * length xs) (length (met l N root)) old new (as_walk (Err s))) at.items_are (by N s (below N (stored_shows old P) at.tree)))
    where
      by : (N : Nodes) (s : Stop) → PutsWithin l N root old new (Err s) → AsksWithin {T = T} (2 * length (items l N root)) (length (met l N root)) old new (as_walk (Err s))
      by N (stop.Need n) h = tt
      by N stop.Fresh h = h
      by N (stop.Broken n) h = tt
      by N stop.NoMemory h = tt

  -- the root was split, and grows
  pub grow_asks : (T : Type 0) (mid new : View) (put : Put) (bound : List ℕ) (next : ℕ) (s : Stop) → put ≡ Split bound next
      → OverNodes old l root (λ N. PutsWithin l N root old mid (Ok put)) → TakesOne {T = Unit {0}} mid new (Err s)
      → OverTrees old root (λ P es. AsksWithin {T = T} (2 * length es) (length (tree_met root (stored old P))) old new (as_walk (Err s)))
  grow_asks T mid new put bound next s split below takes = stop_asks T new s (λ N shows tree. by N s takes (subst (λ p. PutsWithin l N root old mid (Ok p)) split (below N shows tree)))
    where
      by : (N : Nodes) (s : Stop) → TakesOne {T = Unit {0}} mid new (Err s) → PutsWithin l N root old mid (Ok (Split bound next)) → PutsWithin l N root old new (Err s)
      by N (stop.Need n) takes few = tt
      by N stop.Fresh takes few = omega (arith, takes, few)
      by N (stop.Broken n) takes few = tt
      by N stop.NoMemory takes few = tt
