-- What a removal takes below the root, and at it.
use Rattle.std.proofs.Common.{◌≡◌, ℕ, suc, ◌+◌, ◌-◌, ◌*◌, ◌<◌, ◌≤◌, List, [], length, Option, Some, None, refl, ap, sym, ◌∙◌, subst, arith}
use Rattle.std.specs.Prelude.{Result, Ok, Err}
use Rattle.std.proofs.lemmas.List.{length-map}
use Rattle.sb_ctx.specs.View.{View, page_of, stored, with_page, edits_of}
use Rattle.sb_ctx.specs.Costs.{digits}
use Rattle.sb_forms.specs.Tree.{Nodes, child_of, children_of, entries_of, items, met, IsInner, IsTree}
use Rattle.sb_forms.specs.TreePages.{tree_met}
use Rattle.sb_node.specs.declared.head.Head.{Head}
use Rattle.sb_node.specs.Page.{Node, node_in}
use Rattle.sb_btree.specs.Held.{IsRootPage, IsTreePage, nth_child, passed}
use Rattle.sb_btree.specs.Inserts.{OverTrees}
use Rattle.sb_btree.specs.Removes.{DropsChild, TakesContent, TakesEntry, Wrote, without_child}
use Rattle.sb_btree.specs.Spending.{AreFew, AsksWithin, MergesWithin, PutsWithin, RaisesAt, TakesAt, TakesBeside, TakesOne, TakesWithin, spared, taken_of}
use Rattle.sb_btree.specs.Walks.{OverNodes, as_walk}
use Rattle.sb_btree.specs.declared.insertion.Put.{Put}
use Rattle.sb_btree.specs.declared.insertion.Put.TheVariants as put
use Rattle.sb_btree.specs.declared.removal.Taken.{Taken}
use Rattle.sb_btree.specs.declared.removal.Taken.TheVariants.{Lacks, Done, Empty, Single, Split}
use Rattle.sb_btree.specs.declared.walk.Stop.{Stop}
use Rattle.sb_btree.specs.declared.walk.Stop.TheVariants as stop
use Rattle.sb_btree.proofs.Counting.{met_few, over_few, digits_many}
use Rattle.sb_btree.proofs.Cutting.{wrote_size}
use Rattle.sb_btree.proofs.Descending.{shown}
use Rattle.sb_btree.proofs.Dropping.{without_inner}
use Rattle.sb_btree.proofs.Giving.{HasNode, has_room}
use Rattle.sb_btree.proofs.Joining.{wrote_dropped}
use Rattle.sb_btree.proofs.Room.{Among, among, inner_two, kid_is, same_room, split_room, stop_asks, grow_asks}
use Rattle.sb_btree.proofs.Roots.{at_root}
use Rattle.sb_btree.proofs.Spending.{root_digits}
use Rattle.sb_btree.proofs.Weights.{taken-freed}
use Rattle.sb_btree.proofs.Without.{length-without}
use Rattle.sb_btree.proofs.Written.{taken-whole}

-- ---- edits that are left
pub spared-few : (outcome : Result Taken Stop) → spared outcome ≤ 2
spared-few (Ok Lacks) = omega arith
spared-few (Ok Done) = omega arith
spared-few (Ok Empty) = omega arith
spared-few (Ok (Single left)) = omega arith
spared-few (Ok (Split bound next)) = omega arith
spared-few (Err s) = omega arith

pub entry_spared : (old new : View) (page : ℕ) (o : Option Node) (key : List ℕ) (outcome : Result Taken Stop) → TakesEntry old new page o key outcome → spared outcome ≡ 0
entry_spared old new page None key outcome h = absurd h
entry_spared old new page (Some n) key (Ok Lacks) h = refl
entry_spared old new page (Some n) key (Ok Done) h = refl
entry_spared old new page (Some n) key (Ok Empty) h = refl
entry_spared old new page (Some n) key (Ok (Single left)) h = absurd h
entry_spared old new page (Some n) key (Ok (Split bound next)) h = refl
entry_spared old new page (Some n) key (Err s) h = refl

pub raise_spared : (old new : View) (o : Option Node) (outcome : Result Taken Stop) → RaisesAt old new o outcome → spared outcome ≡ 0
raise_spared old new o (Ok Lacks) h = refl
raise_spared old new o (Ok Done) h = refl
raise_spared old new o (Ok Empty) h = refl
raise_spared old new o (Ok (Single left)) h = absurd h
raise_spared old new o (Ok (Split bound next)) h = refl
raise_spared old new o (Err s) h = refl

-- ---- pages that are written and given back take no fresh page
pub wrote_taken : (old new : View) (page : ℕ) (n : Node) → HasNode old page → Wrote old new page n → taken_of new ≡ taken_of old
wrote_taken old new page n has w = ap taken_of w.changed ∙ taken-whole old page w.bytes (has_room old page has) (wrote_size old new page n w)

pub drop_taken : (old new : View) (page : ℕ) (n : Node) (i : ℕ) (taken : Taken) → HasNode old page → DropsChild old new page (Some n) i (Ok taken) → taken_of new ≡ taken_of old
drop_taken old new page n i taken has d = wrote_taken old new page (without_child i n) has (wrote_dropped old new page n i taken d)

-- ---- a child goes to the page beside
pub at_beside : (old mid new : View) (size : ℕ) (o : Option Node) (outcome : Result Put Stop) → taken_of mid ≡ taken_of old → TakesAt mid new size o outcome → TakesBeside old new outcome
at_beside old mid new size o (Ok put.Kept) same h = omega (arith, same, h)
at_beside old mid new size o (Ok put.Done) same h = omega (arith, same, h)
at_beside old mid new size o (Ok (put.Split bound next)) same h = omega (arith, same, h.1)
at_beside old mid new size o (Err (stop.Need x)) same h = tt
at_beside old mid new size o (Err stop.Fresh) same h = omega (arith, same, h.1)
at_beside old mid new size o (Err (stop.Broken x)) same h = tt
at_beside old mid new size o (Err stop.NoMemory) same h = tt

pub beside_freed : (old mid new : View) (child : ℕ) (p : Put) → new ≡ with_page child [] mid → TakesBeside old mid (Ok p) → TakesBeside old new (Ok p)
beside_freed old mid new child put.Kept is h = omega (arith, ap taken_of is, taken-freed mid child, h)
beside_freed old mid new child put.Done is h = omega (arith, ap taken_of is, taken-freed mid child, h)
beside_freed old mid new child (put.Split bound next) is h = omega (arith, ap taken_of is, taken-freed mid child, h)

-- ---- a child that is gone
pub stops_within : (old new : View) (o : Option Node) (s : Stop) → TakesBeside old new (Err s) → MergesWithin old new o (Err s)
stops_within old new o (stop.Need x) h = tt
stops_within old new o stop.Fresh h = omega (arith, h)
stops_within old new o (stop.Broken x) h = tt
stops_within old new o stop.NoMemory h = tt

pub drops_within : (old mid new : View) (page : ℕ) (o p : Option Node) (i : ℕ) (s : Stop) → DropsChild mid new page p i (Err s) → MergesWithin old new o (Err s)
drops_within old mid new page o None i s d = absurd d
drops_within old mid new page o (Some n) i (stop.Need x) d = tt
drops_within old mid new page o (Some n) i stop.Fresh d = absurd d
drops_within old mid new page o (Some n) i (stop.Broken x) d = tt
drops_within old mid new page o (Some n) i stop.NoMemory d = tt

-- the page beside has room
pub whole_within : (old mid new : View) (page : ℕ) (n : Node) (i : ℕ) (p : Put) (dropping : Taken) → HasNode mid page → ((bound : List ℕ) (r : ℕ) → p ≡ put.Split bound r → ⊥) → TakesBeside old mid (Ok p)
    → DropsChild mid new page (Some n) i (Ok dropping) → MergesWithin old new (Some n) (Ok dropping)
whole_within old mid new page n i p dropping has whole beside d = by dropping d
  where
    none : (p : Put) → ((bound : List ℕ) (r : ℕ) → p ≡ put.Split bound r → ⊥) → TakesBeside old mid (Ok p) → taken_of mid ≤ taken_of old
    none put.Kept whole h = h
    none put.Done whole h = h
    none (put.Split bound r) whole h = absurd (whole bound r refl)

    by : (dropping : Taken) → DropsChild mid new page (Some n) i (Ok dropping) → MergesWithin old new (Some n) (Ok dropping)
    by Lacks d = absurd d
    by Done d = tt
    by Empty d = absurd d
    by (Single left) d = omega (arith, none p whole beside, drop_taken mid new page n i (Single left) has d)
    by (Split bound r) d = absurd d

-- it was split
pub split_within : (old mid next new : View) (l page : ℕ) (n : Node) (i : ℕ) (bound : List ℕ) (r : ℕ) (dropping : Taken) (outcome : Result Taken Stop) → HasNode mid page → IsInner (suc l) (Some n) → i ≤ length n.entries
    → TakesBeside old mid (Ok (put.Split bound r)) → DropsChild mid next page (Some n) i (Ok dropping) → RaisesAt next new (Some (without_child i n)) outcome → MergesWithin old new (Some n) outcome
split_within old mid next new l page n i bound r dropping outcome has inner low beside d raises = by outcome raises
  where
    some : (dropping : Taken) → DropsChild mid next page (Some n) i (Ok dropping) → 0 < length n.entries
    some Lacks d = absurd d
    some Done d = omega (arith, d.0)
    some Empty d = absurd d
    some (Single g) d = omega (arith, d.0)
    some (Split top q) d = absurd d

    three : 4072 < (without_child i n).head.used + 610 → 3 ≤ length n.entries
    three lacks = omega (arith, inner_two (suc l) (Some (without_child i n)) (without_inner l i n inner) lacks, length-without (i - 1) n.entries (omega (arith, some dropping d, low)))

    by : (outcome : Result Taken Stop) → RaisesAt next new (Some (without_child i n)) outcome → MergesWithin old new (Some n) outcome
    by (Ok Lacks) h = absurd h
    by (Ok Done) h = tt
    by (Ok Empty) h = absurd h
    by (Ok (Single left)) h = absurd h
    by (Ok (Split top q)) h = omega (arith, h.1, three h.0, beside, drop_taken mid next page n i dropping has d)
    by (Err (stop.Need x)) h = tt
    by (Err stop.Fresh) h = omega (arith, h.1, three h.0, beside, drop_taken mid next page n i dropping has d)
    by (Err (stop.Broken x)) h = tt
    by (Err stop.NoMemory) h = tt

-- ---- below the root
as_put : (l : ℕ) (N : Nodes) (p : ℕ) (old new : View) (s : Stop) → TakesWithin l N p old new (Err s) → PutsWithin l N p old new (Err s)
as_put l N p old new (stop.Need x) h = tt
as_put l N p old new stop.Fresh h = h
as_put l N p old new (stop.Broken x) h = tt
as_put l N p old new stop.NoMemory h = tt

as_taken : (l : ℕ) (N : Nodes) (p : ℕ) (old new : View) (s : Stop) → PutsWithin l N p old new (Err s) → TakesWithin l N p old new (Err s)
as_taken l N p old new (stop.Need x) h = tt
as_taken l N p old new stop.Fresh h = h
as_taken l N p old new (stop.Broken x) h = tt
as_taken l N p old new stop.NoMemory h = tt

-- an entry is taken out of a leaf
pub entry_within : (old new : View) (l : ℕ) (N : Nodes) (page : ℕ) (o : Option Node) (key : List ℕ) (outcome : Result Taken Stop) → TakesEntry old new page o key outcome → TakesWithin l N page old new outcome
entry_within old new l N page None key outcome h = absurd h
entry_within old new l N page (Some n) key (Ok Lacks) h = tt
entry_within old new l N page (Some n) key (Ok Done) h = tt
entry_within old new l N page (Some n) key (Ok Empty) h = omega (arith, ap taken_of h.2)
entry_within old new l N page (Some n) key (Ok (Single left)) h = absurd h
entry_within old new l N page (Some n) key (Ok (Split bound next)) h = absurd h
entry_within old new l N page (Some n) key (Err (stop.Need x)) h = tt
entry_within old new l N page (Some n) key (Err stop.Fresh) h = absurd h
entry_within old new l N page (Some n) key (Err (stop.Broken x)) h = tt
entry_within old new l N page (Some n) key (Err stop.NoMemory) h = tt

-- the child stayed one page
pub still_within : (l : ℕ) (N : Nodes) (page : ℕ) (old new : View) (taken : Taken) → (taken ≡ Empty → ⊥) → ((g : ℕ) → taken ≡ Single g → ⊥) → ((bound : List ℕ) (r : ℕ) → taken ≡ Split bound r → ⊥) → TakesWithin l N page old new (Ok taken)
still_within l N page old new Lacks e s t = tt
still_within l N page old new Done e s t = tt
still_within l N page old new Empty e s t = absurd (e refl)
still_within l N page old new (Single g) e s t = absurd (s g refl)
still_within l N page old new (Split bound r) e s t = absurd (t bound r refl)

module _ (old : View) (l m page child : ℕ) (key bytes : List ℕ) (head : Head) (down : l ≡ suc m) (is : IsTreePage (page_of old page) l bytes head)
    (at : child ≡ nth_child head.a (node_in bytes).entries (passed (Some key) (node_in bytes).entries)) where
  -- a fresh page is asked for below the child
  pub same_taken : (new : View) (s : Stop) → OverNodes old m child (λ N. TakesWithin m N child old new (Err s)) → OverNodes old l page (λ N. TakesWithin l N page old new (Err s))
  same_taken new s below N shows tree =
      as_taken l N page old new s (same_room old l m page child key bytes head down is at new s (λ N' shows' tree'. as_put m N' child old new s (below N' shows' tree')) N shows tree)

  -- the child was split
  pub raised_taken : (mid new : View) (bound : List ℕ) (next : ℕ) (outcome : Result Taken Stop) → OverNodes old m child (λ N. TakesWithin m N child old mid (Ok (Split bound next)))
      → RaisesAt mid new (Some (node_in bytes)) outcome → OverNodes old l page (λ N. TakesWithin l N page old new outcome)
  raised_taken mid new bound next outcome below raises N shows tree = by outcome raises
    where
      put_room : (p : Result Put Stop) → TakesAt mid new 610 (Some (node_in bytes)) p → PutsWithin l N page old new p
      put_room p takes = split_room old l m page child key bytes head down is at mid new (put.Split bound next) bound next p refl below takes N shows tree

      by : (outcome : Result Taken Stop) → RaisesAt mid new (Some (node_in bytes)) outcome → TakesWithin l N page old new outcome
      by (Ok Lacks) h = absurd h
      by (Ok Done) h = tt
      by (Ok Empty) h = absurd h
      by (Ok (Single left)) h = absurd h
      by (Ok (Split top q)) h = put_room (Ok (put.Split top q)) h
      by (Err (stop.Need x)) h = tt
      by (Err stop.Fresh) h = put_room (Err stop.Fresh) h
      by (Err (stop.Broken x)) h = tt
      by (Err stop.NoMemory) h = tt

  -- the child is gone
  pub emptied_taken : (mid new : View) (i : ℕ) (outcome : Result Taken Stop) → OverNodes old m child (λ N. TakesWithin m N child old mid (Ok Empty)) → HasNode (with_page child [] mid) page
      → DropsChild (with_page child [] mid) new page (Some (node_in bytes)) i outcome → OverNodes old l page (λ N. TakesWithin l N page old new outcome)
  emptied_taken mid new i outcome below has drops N shows tree = by outcome drops
    where
      tree' : IsTree (suc m) N page
      tree' = subst (λ k. IsTree k N page) down tree

      a : Among m N page child
      a = among m N page child key (node_in bytes) (shown old N page l bytes head shows is) (kid_is old l m page child key bytes head down is at) tree'

      by : (outcome : Result Taken Stop) → DropsChild (with_page child [] mid) new page (Some (node_in bytes)) i outcome → TakesWithin l N page old new outcome
      by (Ok Lacks) d = tt
      by (Ok Done) d = tt
      by (Ok Empty) d = absurd d
      by (Ok (Single left)) d =
          omega (arith, below N shows a.tree, taken-freed mid child, drop_taken (with_page child [] mid) new page (node_in bytes) i (Single left) has d)
      by (Ok (Split bound next)) d = absurd d
      by (Err (stop.Need x)) d = tt
      by (Err stop.Fresh) d = absurd d
      by (Err (stop.Broken x)) d = tt
      by (Err stop.NoMemory) d = tt

  -- the child gave its last child away
  pub merged_taken : (mid new : View) (g : ℕ) (outcome : Result Taken Stop) → OverNodes old m child (λ N. TakesWithin m N child old mid (Ok (Single g)))
      → (IsInner l (Some (node_in bytes)) → MergesWithin mid new (Some (node_in bytes)) outcome) → OverNodes old l page (λ N. TakesWithin l N page old new outcome)
  merged_taken mid new g outcome below merges N shows tree = by outcome (merges inner)
    where
      tree' : IsTree (suc m) N page
      tree' = subst (λ k. IsTree k N page) down tree

      there : N page ≡ Some (node_in bytes)
      there = shown old N page l bytes head shows is

      inner : IsInner l (Some (node_in bytes))
      inner = subst (λ k. IsInner k (Some (node_in bytes))) (sym down) (subst (IsInner (suc m)) there tree'.0)

      a : Among m N page child
      a = among m N page child key (node_in bytes) there (kid_is old l m page child key bytes head down is at) tree'

      taken : taken_of mid ≤ taken_of old
      taken = below N shows a.tree

      full : 0 < length (node_in bytes).entries
      full = subst (λ o. 0 < length (entries_of o)) there tree'.1

      few : length (met (suc m) N page) + length (node_in bytes).entries ≤ 2 * length (items (suc m) N page)
      few =
          let all = over_few N m None (children_of (N page)) (met_few N m) tree'.2 in
          let kids : length (children_of (N page)) ≡ suc (length (node_in bytes).entries) = ap (λ o. length (children_of o)) there ∙ ap suc (length-map (node_in bytes).entries child_of) in
          omega (arith, all, kids)

      by : (outcome : Result Taken Stop) → MergesWithin mid new (Some (node_in bytes)) outcome → TakesWithin l N page old new outcome
      by (Ok Lacks) h = tt
      by (Ok Done) h = tt
      by (Ok Empty) h = absurd h
      by (Ok (Single left)) h = omega (arith, h, taken)
      by (Ok (Split bound next)) h = subst (λ k. AreFew k N page old new) (sym down) (omega (arith, h, taken, full, few))
      by (Err (stop.Need x)) h = tt
      by (Err stop.Fresh) h = subst (λ k. AreFew k N page old new) (sym down) (omega (arith, h, taken, full, few))
      by (Err (stop.Broken x)) h = tt
      by (Err stop.NoMemory) h = tt

-- ---- at the root
module _ (old : View) (root l : ℕ) (page : IsRootPage (page_of old root) l) where
  pub removal_asks : (T : Type 0) (new : View) (s : Stop) → OverNodes old l root (λ N. TakesWithin l N root old new (Err s))
      → OverTrees old root (λ P es. AsksWithin {T = T} (2 * length es) (length (tree_met root (stored old P))) old new (as_walk (Err s)))
  removal_asks T new s below = stop_asks old root l page T new s (λ N shows tree. as_put l N root old new s (below N shows tree))

  -- the root was split, and grows
  pub removal_grows : (T : Type 0) (mid new : View) (bound : List ℕ) (next : ℕ) (s : Stop) → OverNodes old l root (λ N. TakesWithin l N root old mid (Ok (Split bound next))) → TakesOne {T = Unit {0}} mid new (Err s)
      → OverTrees old root (λ P es. AsksWithin {T = T} (2 * length es) (length (tree_met root (stored old P))) old new (as_walk (Err s)))
  removal_grows T mid new bound next s below takes = grow_asks old root l page T mid new (put.Split bound next) bound next s refl below takes

  -- less than five edits for each digit
  pub removal_edits : (new : View) → edits_of new ≤ edits_of old + (5 * l + 4) → OverTrees old root (λ P es. edits_of new < edits_of old + 5 * digits (length es + 1))
  removal_edits new few P es read =
      let at = at_root old P root l es page read in
      let high = subst (λ xs. l + 1 ≤ digits (length xs + 1)) at.items_are (root_digits _ l root at.tree) in
      omega (arith, few, high)

-- no fresh page is asked for where the root takes its child's content
pub content_within : (T : Type 0) (old mid new : View) (root child l most pages : ℕ) (s : Stop) → TakesContent mid new root child l (Err s) → AsksWithin {T = T} most pages old new (as_walk (Err s))
content_within T old mid new root child l most pages (stop.Need x) h = tt
content_within T old mid new root child l most pages stop.Fresh h = absurd h
content_within T old mid new root child l most pages (stop.Broken x) h = tt
content_within T old mid new root child l most pages stop.NoMemory h = tt

-- some edits are left where nothing is edited
pub some_digits : (c : View) (root : ℕ) → OverTrees c root (λ P es. edits_of c < edits_of c + 5 * digits (length es + 1))
some_digits c root P es read =
    let high = digits_many 0 (length es + 1) (length es + 1) (omega arith) (omega arith) in
    omega (arith, high)
