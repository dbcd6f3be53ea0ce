-- An insert into a whole tree.
use Rattle.std.proofs.Common.{◌≡◌, ℕ, zero, suc, ◌≤◌, Bool, false, List, [], ◌∷◌, length, map, Some, None, IsSome, refl, ap, sym, ◌∙◌, subst, inl, inr, true≢false}
use Rattle.std.specs.FinMap.Entries.{put}
use Rattle.sb_forms.specs.Pages.{Pages, zeros}
use Rattle.sb_ctx.specs.View.{View, page_of, with_page, dropped, stored}
use Rattle.sb_ctx.proofs.ViewLaws.{page_of-same, page_of-other, stored-page, stored-same, stored-other}
use Rattle.sb_node.specs.Entries.{Entry, key_cmp}
use Rattle.sb_node.specs.Page.{node_of}
use Rattle.sb_forms.specs.Tree.{Nodes, nodes, child_of, children_of, items, met, IsWithin, AreBounds, IsInner, IsTree, IsRoot, Has, Apart, level_of, tree_items}
use Rattle.sb_forms.specs.Read.{has, read_tree}
use Rattle.sb_btree.specs.Became.{IsPlace}
use Rattle.sb_btree.specs.Inserts.{IsFree, Changes, Grew, GrowsTo, WereFree}
use Rattle.sb_forms.specs.TreePages.{tree_met}
use Rattle.sb_btree.specs.declared.insertion.Put.TheVariants.{Done, Split}
use Rattle.sb_btree.proofs.Order.{above-first}
use Rattle.sb_btree.proofs.Reading.{reads_trees}
use Rattle.sb_btree.proofs.Members.{has_is, is_has}
use Rattle.sb_btree.proofs.Growing.{Rooted, root_kept, root_moved}
use Rattle.sb_btree.proofs.Halved.{free_node, free_page_of}
use Rattle.sb_btree.proofs.Raised.{now_node, free_before}

pub within_all : (es : List Entry) → IsWithin [] None es
within_all [] = tt
within_all (e ∷ es) = ((above-first e.0, tt), within_all es)

first_met : (l : ℕ) (N : Nodes) (p : ℕ) → Has p (met l N p)
first_met zero N p = inl refl
first_met (suc l) N p = inl refl

-- a key's place is in the whole tree
pub root_place : (P : Pages) (root l : ℕ) (key : List ℕ) → IsRoot (nodes P) root → l ≡ level_of (nodes P root) → IsPlace l P root [] None key
root_place P root l key r e = record {
  tree = subst (λ k. IsTree k (nodes P) root) (sym e) r.tree;
  apart = subst (λ k. Apart (met k (nodes P) root)) (sym e) r.apart;
  within = within_all (items l (nodes P) root);
  above = above-first key;
  under = tt;
  goes = tt;
}

pub grew : (old new : View) (P : Pages) (root : ℕ) (want : List Entry) (fresh : List ℕ) → WereFree old fresh → Rooted (stored old P) (stored new P) root want fresh
    → (read_tree root (stored new P) ≡ Some want) × Grew old root (stored old P) (stored new P)
grew old new P root want fresh free r = (
  (reads_trees (stored new P) root).0 r.tree ∙ ap Some r.entries,
  record {
    from = λ n h. elim (r.from n (has_is n (tree_met root (stored new P)) h)) [ inl o ↦ inl (is_has n (tree_met root (stored old P)) o) | inr f ↦ inr (free n f) ];
    to = λ n h. is_has n (tree_met root (stored new P)) (r.to n (inl (has_is n (tree_met root (stored old P)) h)));
    keeps = λ n h. r.keeps n (λ o. no n h (r.to n (inl o))) (λ f. no n h (r.to n (inr f)));
  },
)
  where
    no : (n : ℕ) → has n (tree_met root (stored new P)) ≡ false → Has n (tree_met root (stored new P)) → ⊥
    no n h m = true≢false (sym (is_has n (tree_met root (stored new P)) m) ∙ h)

-- the root's page stayed one
pub insert_done : (stands : Bool) (old new : View) (P : Pages) (root l : ℕ) (key value : List ℕ) → IsRoot (nodes (stored old P)) root → l ≡ level_of (nodes (stored old P) root) → Changes stands old new l root key value P [] None Done
    → (read_tree root (stored new P) ≡ Some (put key_cmp key value (tree_items (nodes (stored old P)) root))) × Grew old root (stored old P) (stored new P)
insert_done stands old new P root l key value r e c =
    subst (λ es. (read_tree root (stored new P) ≡ Some (put key_cmp key value es)) × Grew old root (stored old P) (stored new P)) (ap (λ k. items k (nodes (stored old P)) root) e)
    (grew old new P root (put key_cmp key value (items l (nodes (stored old P)) root)) c.1 c.2
    (root_kept (stored old P) (stored new P) root l (put key_cmp key value (items l (nodes (stored old P)) root)) c.1 (sym e) (subst (λ k. k ≤ 16) (sym e) r.shallow) c.3))

-- the root's content moved
pub insert_split : (stands : Bool) (old mid new : View) (P : Pages) (root l : ℕ) (key value bound : List ℕ) (next : ℕ) → dropped mid ≡ dropped old → IsRoot (nodes (stored old P)) root → l ≡ level_of (nodes (stored old P) root) → length bound ≤ 602
    → Changes stands old mid l root key value P [] None (Split bound next) → GrowsTo mid new root l bound next → suc l ≤ 16
    → (read_tree root (stored new P) ≡ Some (put key_cmp key value (tree_items (nodes (stored old P)) root))) × Grew old root (stored old P) (stored new P)
insert_split stands old mid new P root l key value bound next given r e short c g low =
    let want = put key_cmp key value (items l (nodes (stored old P)) root) in
    let place = root_place (stored old P) root l key r e in
    let none = free_node mid P g.first g.free in
    let unused : Has g.first c.1 → ⊥ = (λ f. now_node l (stored old P) (stored mid P) _ _ _ _ _ c.1 g.first c.3 (inr f) none) in
    let unmet : Has g.first (met l (nodes (stored old P)) root) → ⊥ = (λ o. now_node l (stored old P) (stored mid P) _ _ _ _ _ c.1 g.first c.3 (inl o) none) in
    let was_free = free_before old mid P g.first given (c.3.keeps g.first unmet unused) g.free in
    let apart : root ≡ g.first → ⊥ = (λ s. unmet (subst (λ x. Has x (met l (nodes (stored old P)) root)) s (first_met l (nodes (stored old P)) root))) in
    let c₁ = with_page g.first zeros mid in
    let c₂ = with_page g.first g.content c₁ in
    let held₁ : IsSome (page_of c₁ g.first) = subst (λ o. IsSome o) (sym (page_of-same mid g.first zeros (some mid g.first [] (free_page_of mid g.first g.free)))) refl in
    let held₂ : IsSome (page_of c₂ root) = subst (λ o. IsSome o) (sym (page_of-other c₁ g.first root g.content (λ s. apart (sym s)) ∙ page_of-other mid g.first root zeros (λ s. apart (sym s)) ∙ g.was)) refl in
    let top_is : nodes (stored new P) root ≡ Some g.node = ap (λ (v : View). node_of (stored v P root)) g.changed ∙ ap node_of (stored-same c₂ P root g.top held₂) ∙ g.node_is in
    let content_is : stored new P g.first ≡ stored mid P root =
    ap (λ (v : View). stored v P g.first) g.changed ∙ stored-other c₂ P root g.first g.top apart ∙ stored-same c₁ P g.first g.content held₁ ∙ sym (stored-page mid P root g.content g.was) in
    let others : (x : ℕ) → (x ≡ root → ⊥) → (x ≡ g.first → ⊥) → stored new P x ≡ stored mid P x =
    (λ x a b. ap (λ (v : View). stored v P x) g.changed ∙ stored-other c₂ P root x g.top (λ s. a (sym s)) ∙ stored-other c₁ P g.first x g.content (λ s. b (sym s)) ∙ stored-other mid P g.first x zeros (λ s. b (sym s))) in
    let bounds = subst AreBounds (sym g.entries_are) ((g.long, short), tt) in
    let kids : children_of (nodes (stored new P) root) ≡ ([], g.first) ∷ (bound, next) ∷ [] =
    ap children_of top_is ∙ (λ i. ([], g.leftmost i) ∷ map child_of (g.entries_are i)) ∙ (λ i. ([], g.first) ∷ (bound, g.spelled i) ∷ []) in
    subst (λ es. (read_tree root (stored new P) ≡ Some (put key_cmp key value es)) × Grew old root (stored old P) (stored new P)) (ap (λ k. items k (nodes (stored old P)) root) e)
    (grew old new P root want (g.first ∷ c.1) (λ x f. elim f [ inl s ↦ subst (λ y. IsFree old y) (sym s) was_free | inr h ↦ c.2 x h ])
    (root_moved (stored old P) (stored mid P) (stored new P) root l next g.first bound want c.1 (sym e) low place.tree c.3 (free_node old P g.first was_free) unused content_is others
    (subst (IsInner (suc l)) (sym top_is) (g.kind_is, g.level_is, bounds)) kids))
  where
    some : (c : View) (n : ℕ) (page : List ℕ) → page_of c n ≡ Some page → IsSome (page_of c n)
    some c n page is = subst (λ o. IsSome o) (sym is) refl
