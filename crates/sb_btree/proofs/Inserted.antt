-- An insert at a root, from the put below it and the growth of the root.
use Rattle.std.proofs.Common.{◌≡◌, ℕ, suc, ◌≤◌, not, Bool, true, false, List, [], Some, None, ap, sym, ◌∙◌, subst}
use Rattle.std.specs.Prelude.{Result, Ok, Err}
use Rattle.std.specs.FinMap.Entries.{find, put}
use Rattle.sb_forms.specs.Pages.{Pages}
use Rattle.sb_ctx.specs.View.{View, page_of, dropped, stored}
use Rattle.sb_node.specs.Entries.{Entry, key_cmp}
use Rattle.sb_forms.specs.Tree.{nodes}
use Rattle.sb_forms.specs.Read.{has, read_tree}
use Rattle.sb_btree.specs.Broken.{is_no_root}
use Rattle.sb_btree.specs.Held.{IsRootPage, Lacks}
use Rattle.sb_btree.specs.Inserts.{GrowsAt, GrowsTo, IsThere, Puts, OverPlaces, OverTrees, PutsAt}
use Rattle.sb_btree.specs.Ways.{way, is_on_way}
use Rattle.sb_btree.specs.Walks.{Gives, Needs, OnTree, OverNodes, as_walk}
use Rattle.sb_btree.specs.declared.insertion.Put.{Put}
use Rattle.sb_btree.specs.declared.insertion.Put.TheVariants.{Kept, Done, Split}
use Rattle.sb_btree.specs.declared.walk.Stop.{Stop}
use Rattle.sb_btree.specs.declared.walk.Stop.TheVariants as stop
use Rattle.sb_btree.specs.declared.walk.Walk.TheVariants.{Ready}
use Rattle.sb_btree.proofs.Grown.{root_place, insert_done, insert_split}
use Rattle.sb_btree.proofs.Reading.{read_root}
use Rattle.sb_btree.proofs.Roots.{at_root, stored_shows, no_root_gives}

pub same_needs : (T U : Type 0) (may : ℕ → Bool) (s : Stop) → Needs {T = T} may (as_walk (Err s)) → Needs {T = U} may (as_walk (Err s))
same_needs T U may (stop.Need n) h = h
same_needs T U may stop.Fresh h = tt
same_needs T U may (stop.Broken n) h = tt
same_needs T U may stop.NoMemory h = tt

pub root_way : (T U : Type 0) (c : View) (root l : ℕ) (key : List ℕ) (s : Stop) → IsRootPage (page_of c root) l → OverNodes c l root (λ N. Needs {T = T} (λ n. has n (way l N (Some key) root)) (as_walk (Err s)))
    → OnTree c root (λ P. Needs {T = U} (is_on_way root P (Some key)) (as_walk (Err s)))
root_way T U c root l key s page needs P es read =
    let at = at_root c P root l es page read in
    same_needs T U (is_on_way root (stored c P) (Some key)) s (subst (λ (k : ℕ). Needs {T = T} (λ n. has n (way k (nodes (stored c P)) (Some key) root)) (as_walk (Err s))) at.level_is (needs (nodes (stored c P)) (stored_shows c P) at.tree))

-- ---- what the put below comes to
module _ (stands : Bool) (old : View) (root l : ℕ) (key value : List ℕ) (page : IsRootPage (page_of old root) l) where
  -- the put over the pages of a tree
  root_puts : (new : View) (outcome : Result Put Stop) (P : Pages) (es : List Entry) → OverPlaces old l root key (λ P low high. PutsAt stands old new l root key value P low high outcome) → read_tree root (stored old P) ≡ Some es
      → PutsAt stands old new l root key value P [] None outcome
  root_puts new outcome P es puts read =
      puts P [] None (root_place (stored old P) root l key (read_root (stored old P) root es read).0 (at_root old P root l es page read).level_is)

  pub stop_inserts : (new : View) (s : Stop) → OverPlaces old l root key (λ P low high. PutsAt stands old new l root key value P low high (Err s)) → OverTrees old root (λ P es. Puts stands old new root key value P es (as_walk (Err s)))
  stop_inserts new s puts P es read = by s (root_puts new (Err s) P es puts read)
    where
      by : (s : Stop) → PutsAt stands old new l root key value P [] None (Err s) → Puts stands old new root key value P es (as_walk (Err s))
      by (stop.Need n) h = tt
      by stop.Fresh h = subst (λ xs. IsThere stands (find key_cmp key xs)) (at_root old P root l es page read).items_are h
      by (stop.Broken n) h = h
      by stop.NoMemory h = tt

  -- the root was split, and no new one came of it
  pub grow_inserts : (mid new : View) (bound : List ℕ) (next : ℕ) (s : Stop) → OverPlaces old l root key (λ P low high. PutsAt stands old mid l root key value P low high (Ok (Split bound next)))
      → GrowsAt mid new root l bound next (Err s) → OverTrees old root (λ P es. Puts stands old new root key value P es (as_walk (Err s)))
  grow_inserts mid new bound next s puts grows P es read = by s grows
    where
      by : (s : Stop) → GrowsAt mid new root l bound next (Err s) → Puts stands old new root key value P es (as_walk (Err s))
      by (stop.Need n) h = tt
      by stop.Fresh h = subst (λ xs. IsThere stands (find key_cmp key xs)) (at_root old P root l es page read).items_are (root_puts mid (Ok (Split bound next)) P es puts read).0.0
      by (stop.Broken n) h = h
      by stop.NoMemory h = tt

  pub stands_inserts : (new : View) → OverPlaces old l root key (λ P low high. PutsAt stands old new l root key value P low high (Ok Kept)) → OverTrees old root (λ P es. Puts stands old new root key value P es (Ready false))
  stands_inserts new puts P es read =
      let h = root_puts new (Ok Kept) P es puts read in
      (subst (λ xs. IsThere (not stands) (find key_cmp key xs)) (at_root old P root l es page read).items_are h.0, h.1)

  pub done_inserts : (new : View) → OverPlaces old l root key (λ P low high. PutsAt stands old new l root key value P low high (Ok Done)) → OverTrees old root (λ P es. Puts stands old new root key value P es (Ready true))
  done_inserts new puts P es read =
      let h = root_puts new (Ok Done) P es puts read in
      let r = read_root (stored old P) root es read in
      let at = at_root old P root l es page read in
      let d = insert_done stands old new P root l key value r.0 at.level_is h in
      (subst (λ xs. IsThere stands (find key_cmp key xs)) at.items_are h.0, d.0 ∙ ap (λ xs. Some (put key_cmp key value xs)) (sym r.1), d.1)

  pub split_inserts : (mid new : View) (bound : List ℕ) (next : ℕ) → dropped mid ≡ dropped old → OverPlaces old l root key (λ P low high. PutsAt stands old mid l root key value P low high (Ok (Split bound next)))
      → GrowsTo mid new root l bound next → suc l ≤ 16 → OverTrees old root (λ P es. Puts stands old new root key value P es (Ready true))
  split_inserts mid new bound next given puts grows low P es read =
      let h = root_puts mid (Ok (Split bound next)) P es puts read in
      let r = read_root (stored old P) root es read in
      let at = at_root old P root l es page read in
      let d = insert_split stands old mid new P root l key value bound next given r.0 at.level_is h.1 h.0 grows low in
      (subst (λ xs. IsThere stands (find key_cmp key xs)) at.items_are h.0.0, d.0 ∙ ap (λ xs. Some (put key_cmp key value xs)) (sym r.1), d.1)

pub no_root_inserts : (stands : Bool) (c : View) (root : ℕ) (key value : List ℕ) (s : Stop) → Lacks (page_of c root) (is_no_root (page_of c root)) root s → OverTrees c root (λ P es. Puts stands c c root key value P es (as_walk (Err s)))
no_root_inserts stands c root key value s lacks P es read = by s (no_root_gives (List ℕ) c root (λ es b. Unit {0}) s lacks P es read)
  where
    by : (s : Stop) → Gives (λ (b : List ℕ). Unit {0}) (as_walk (Err s)) → Puts stands c c root key value P es (as_walk (Err s))
    by (stop.Need n) h = tt
    by stop.Fresh h = absurd h
    by (stop.Broken n) h = h
    by stop.NoMemory h = tt
