-- A removal at a root, from what the removal below comes to.
use Rattle.std.proofs.Common.{◌≡◌, ℕ, zero, suc, ◌≤◌, true, false, List, [], Option, Some, None, IsSome, refl, ap, sym, ◌∙◌, subst, true≢false}
use Rattle.std.specs.Prelude.{Result, Ok, Err}
use Rattle.std.specs.FinMap.Entries.{find}
use Rattle.std.proofs.lemmas.Bool.{or_left, or_right, eq-eqb}
use Rattle.sb_forms.specs.Pages.{Pages}
use Rattle.sb_ctx.specs.View.{View, page_of, with_page, dropped, stored}
use Rattle.sb_node.specs.Entries.{Entry, key_cmp}
use Rattle.sb_node.specs.Page.{node_of, empty_node}
use Rattle.sb_forms.specs.Tree.{Nodes, nodes, items, IsTree, level_of}
use Rattle.sb_forms.specs.Read.{has, read_tree}
use Rattle.sb_btree.specs.Broken.{held_node, is_page, is_unlike, is_no_root}
use Rattle.sb_btree.specs.Held.{IsRootPage, Lacks}
use Rattle.sb_btree.specs.Inserts.{GrowsTo, MayAsk, OverPlaces, OverTrees}
use Rattle.sb_btree.specs.Removes.{Removes, TakesAt, Wrote, TookContent, TakesContent, entries_without, beside_in, removal_way, is_on_removal_way}
use Rattle.sb_btree.specs.Walks.{Gives, Needs, OnTree, OverNodes, as_walk}
use Rattle.sb_btree.specs.declared.removal.Taken.{Taken}
use Rattle.sb_btree.specs.declared.removal.Taken.TheVariants.{Lacks as Absent, Done, Empty, Single, Split}
use Rattle.sb_btree.specs.declared.walk.Stop.{Stop}
use Rattle.sb_btree.specs.declared.walk.Stop.TheVariants as stop
use Rattle.sb_btree.specs.declared.walk.Walk.TheVariants.{Ready}
use Rattle.sb_btree.proofs.Reading.{read_root}
use Rattle.sb_btree.proofs.Roots.{at_root, stored_shows, no_root_gives}
use Rattle.sb_btree.proofs.Grown.{root_place}
use Rattle.sb_btree.proofs.Inserted.{same_needs}
use Rattle.sb_btree.proofs.Below.{none_still}
use Rattle.sb_btree.proofs.Breaking.{unlike_held, unlike_page}
use Rattle.sb_btree.proofs.Descending.{tree_page}
use Rattle.sb_btree.proofs.Edits.{held_still}
use Rattle.sb_btree.proofs.Frames.{met_node}
use Rattle.sb_btree.proofs.Shrinking.{own_met, gone_node}
use Rattle.sb_btree.proofs.Stepped.{held_nodes}
use Rattle.sb_ctx.proofs.ViewLaws.{stored-same, stored-other}
use Rattle.sb_btree.proofs.Lowering.{root_so, root_empty, root_lowered, root_grown}

pub removal_way_first : (l : ℕ) (N : Nodes) (key : List ℕ) (p : ℕ) → has p (removal_way l N key p) ≡ true
removal_way_first zero N key p = or_left _ _ (eq-eqb p p refl)
removal_way_first (suc l) N key p = or_left _ _ (eq-eqb p p refl)

pub removal_root_way : (T U : Type 0) (c : View) (root l : ℕ) (key : List ℕ) (s : Stop) → IsRootPage (page_of c root) l → OverNodes c l root (λ N. Needs {T = T} (λ n. has n (removal_way l N key root)) (as_walk (Err s)))
    → OnTree c root (λ P. Needs {T = U} (is_on_removal_way root P key) (as_walk (Err s)))
removal_root_way T U c root l key s page needs P es read =
    let at = at_root c P root l es page read in
    same_needs T U (is_on_removal_way root (stored c P) key) s (subst (λ (k : ℕ). Needs {T = T} (λ n. has n (removal_way k (nodes (stored c P)) key root)) (as_walk (Err s))) at.level_is (needs (nodes (stored c P)) (stored_shows c P) at.tree))

-- a page of a tree is one of its level
unlike_tree : (l : ℕ) (o : Option (List ℕ)) (N : Nodes) (p : ℕ) → held_node o ≡ N p → IsTree l N p → is_unlike l o ≡ true → ⊥
unlike_tree l o N p at tree unlike = true≢false (sym (tree_page l N p tree) ∙ ap (is_page l) (sym at) ∙ unlike_page l o unlike)

-- ---- what the removal below comes to
module _ (old : View) (root l : ℕ) (key : List ℕ) (page : IsRootPage (page_of old root) l) where
  root_takes : (new : View) (outcome : Result Taken Stop) (P : Pages) (es : List Entry) → OverPlaces old l root key (λ P low high. TakesAt old new l root key P low high outcome) → read_tree root (stored old P) ≡ Some es
      → TakesAt old new l root key P [] None outcome
  root_takes new outcome P es takes read =
      takes P [] None (root_place (stored old P) root l key (read_root (stored old P) root es read).0 (at_root old P root l es page read).level_is)

  pub stop_removes : (new : View) (s : Stop) → OverPlaces old l root key (λ P low high. TakesAt old new l root key P low high (Err s)) → OverTrees old root (λ P es. Removes old new root key P es (as_walk (Err s)))
  stop_removes new s takes P es read = by s (root_takes new (Err s) P es takes read)
    where
      by : (s : Stop) → TakesAt old new l root key P [] None (Err s) → Removes old new root key P es (as_walk (Err s))
      by (stop.Need n) h = tt
      by stop.Fresh h = tt
      by (stop.Broken n) h = h
      by stop.NoMemory h = tt

  pub lacks_removes : (new : View) → OverPlaces old l root key (λ P low high. TakesAt old new l root key P low high (Ok Absent)) → OverTrees old root (λ P es. Removes old new root key P es (Ready false))
  lacks_removes new takes P es read =
      let h = root_takes new (Ok Absent) P es takes read in
      (ap (find key_cmp key) (sym (at_root old P root l es page read).items_are) ∙ h.0, h.1)

  pub done_removes : (new : View) → OverPlaces old l root key (λ P low high. TakesAt old new l root key P low high (Ok Done)) → OverTrees old root (λ P es. Removes old new root key P es (Ready true))
  done_removes new takes P es read =
      let h = root_takes new (Ok Done) P es takes read in
      let r = (read_root (stored old P) root es read).0 in
      let at = at_root old P root l es page read in
      let d = root_so old new P root l l (entries_without key (items l (nodes (stored old P)) root)) at.level_is (subst (λ k. k ≤ 16) (sym at.level_is) r.shallow) h.1 in
      (subst (λ xs. IsSome (find key_cmp key xs)) at.items_are h.0, d.0 ∙ ap (λ xs. Some (entries_without key xs)) at.items_are, d.1)

  pub empty_removes : (mid new : View) → IsSome (page_of mid root) → OverPlaces old l root key (λ P low high. TakesAt old mid l root key P low high (Ok Empty)) → Wrote mid new root (empty_node 2 0)
      → OverTrees old root (λ P es. Removes old new root key P es (Ready true))
  empty_removes mid new held takes wrote P es read =
      let h = root_takes mid (Ok Empty) P es takes read in
      let at = at_root old P root l es page read in
      let d = root_empty old mid new P root l (entries_without key (items l (nodes (stored old P)) root)) at.level_is held h.1 wrote in
      (subst (λ xs. IsSome (find key_cmp key xs)) at.items_are h.0, d.0 ∙ ap (λ xs. Some (entries_without key xs)) at.items_are, d.1)

  module _ (m : ℕ) (down : l ≡ suc m) (mid : View) (g : ℕ) (takes : OverPlaces old l root key (λ P low high. TakesAt old mid l root key P low high (Ok (Single g)))) where
    single_takes : (P : Pages) (es : List Entry) → read_tree root (stored old P) ≡ Some es → TakesAt old mid (suc m) root key P [] None (Ok (Single g))
    single_takes P es read = subst (λ k. TakesAt old mid k root key P [] None (Ok (Single g))) down (root_takes mid (Ok (Single g)) P es takes read)

    pub single_removes : (new : View) → IsSome (page_of mid root) → TookContent mid new root g m → OverTrees old root (λ P es. Removes old new root key P es (Ready true))
    single_removes new held took P es read =
        let h = single_takes P es read in
        let r = (read_root (stored old P) root es read).0 in
        let at = at_root old P root l es page read in
        let level : suc m ≡ level_of (nodes (stored old P) root) = sym down ∙ at.level_is in
        let same : items (suc m) (nodes (stored old P)) root ≡ es = ap (λ k. items k (nodes (stored old P)) root) (sym down) ∙ at.items_are in
        let d = root_lowered old mid new P root m g (entries_without key (items (suc m) (nodes (stored old P)) root)) level (subst (λ k. k ≤ 16) (sym level) r.shallow) held h.1.1 took in
        (subst (λ xs. IsSome (find key_cmp key xs)) same h.1.0, d.0 ∙ ap (λ xs. Some (entries_without key xs)) same, d.1)

    -- the child is a page of its level
    pub content_removes : (new : View) (s : Stop) → IsSome (page_of mid root) → TakesContent mid new root g m (Err s) → OverTrees old root (λ P es. Removes old new root key P es (as_walk (Err s)))
    content_removes new s held content P es read = by s content
      where
        by : (s : Stop) → TakesContent mid new root g m (Err s) → Removes old new root key P es (as_walk (Err s))
        by (stop.Need x) h = tt
        by stop.Fresh h = absurd h
        by (stop.Broken x) h =
            let t = (single_takes P es read).1.1 in
            let gone : nodes (stored (with_page root [] mid) P) root ≡ None = gone_node (with_page root [] mid) P root (stored-same mid P root [] held) in
            let tree = t.became.in_order.0.0 in
            let apart : root ≡ g → ⊥ = (λ e. met_node m (nodes (stored (with_page root [] mid) P)) g g tree (own_met m (nodes (stored (with_page root [] mid) P)) g) (ap (nodes (stored (with_page root [] mid) P)) (sym e) ∙ gone)) in
            let node : held_node (page_of mid g) ≡ nodes (stored (with_page root [] mid) P) g = held_nodes mid P g (unlike_held m (page_of mid g) h.1) ∙ ap node_of (sym (stored-other mid P root g [] apart)) in
            unlike_tree m (page_of mid g) (nodes (stored (with_page root [] mid) P)) g node tree h.1
        by stop.NoMemory h = tt

    -- the child is asked for where it takes the root's place
    pub single_way : (T : Type 0) (new : View) (s : Stop) → TakesContent mid new root g m (Err s) → OnTree old root (λ P. Needs {T = T} (is_on_removal_way root P key) (as_walk (Err s)))
    single_way T new s content P es read = by s content
      where
        by : (s : Stop) → TakesContent mid new root g m (Err s) → Needs {T = T} (is_on_removal_way root (stored old P) key) (as_walk (Err s))
        by (stop.Need x) h =
            let at = at_root old P root l es page read in
            let level : suc m ≡ level_of (nodes (stored old P) root) = sym down ∙ at.level_is in
            subst (λ k. has x (removal_way k (nodes (stored old P)) key root) ≡ true) level
            (or_right _ _ (or_left _ _ (eq-eqb x (beside_in key (nodes (stored old P) root)) (h.0 ∙ (single_takes P es read).0))))
        by stop.Fresh h = tt
        by (stop.Broken x) h = tt
        by stop.NoMemory h = tt

  pub split_removes : (mid new : View) (bound : List ℕ) (next : ℕ) → dropped mid ≡ dropped old → OverPlaces old l root key (λ P low high. TakesAt old mid l root key P low high (Ok (Split bound next)))
      → GrowsTo mid new root l bound next → suc l ≤ 16 → OverTrees old root (λ P es. Removes old new root key P es (Ready true))
  split_removes mid new bound next given takes grows low P es read =
      let h = root_takes mid (Ok (Split bound next)) P es takes read in
      let at = at_root old P root l es page read in
      let d = root_grown old mid new P root l bound next (entries_without key (items l (nodes (stored old P)) root)) given at.level_is low h.0 h.1.1 grows in
      (subst (λ xs. IsSome (find key_cmp key xs)) at.items_are h.1.0, d.0 ∙ ap (λ xs. Some (entries_without key xs)) at.items_are, d.1)

-- ---- the child isn't held
pub content_asks : (T : Type 0) (old new : View) (root child l : ℕ) (s : Stop) → dropped new ≡ dropped old → TakesContent old new root child l (Err s) → MayAsk {T = T} new (as_walk (Err s))
content_asks T old new root child l (stop.Need x) given h = none_still old new x given (ap (page_of old) h.0 ∙ h.1)
content_asks T old new root child l stop.Fresh given h = absurd h
content_asks T old new root child l (stop.Broken x) given h = held_still old new x given (subst (λ y. IsSome (page_of old y)) (sym h.0) (unlike_held l (page_of old child) h.1))
content_asks T old new root child l stop.NoMemory given h = tt

pub no_root_removes : (c : View) (root : ℕ) (key : List ℕ) (s : Stop) → Lacks (page_of c root) (is_no_root (page_of c root)) root s → OverTrees c root (λ P es. Removes c c root key P es (as_walk (Err s)))
no_root_removes c root key s lacks P es read = by s (no_root_gives (List ℕ) c root (λ es b. Unit {0}) s lacks P es read)
  where
    by : (s : Stop) → Gives (λ (b : List ℕ). Unit {0}) (as_walk (Err s)) → Removes c c root key P es (as_walk (Err s))
    by (stop.Need n) h = tt
    by stop.Fresh h = tt
    by (stop.Broken n) h = h
    by stop.NoMemory h = tt
