-- What a put at one page makes of a tree: at a leaf, and at an inner page over the child that became two.
use Rattle.std.proofs.Common.{◌≡◌, ℕ, ◌<◌, Bool, List, [], ◌∷◌, ◌++◌, length, Option, Some, None, IsSome, option_map, refl, ap, sym, ◌∙◌, subst, inl, inr, arith, T}
use Rattle.std.specs.List.{AllByRecursion}
use Rattle.std.specs.FinMap.Entries.{find, put, by_order, is_sorted, is_sorted-put}
use Rattle.std.specs.declared.cmp.Ordering.TheVariants.{Less, Equal, Greater}
use Rattle.std.proofs.lemmas.Cmp.{nat_list_cmp_total}
use Rattle.sb_value.proofs.Truths.{some_none}
use Rattle.sb_forms.specs.Pages.{Pages, zeros}
use Rattle.sb_ctx.specs.View.{HeldPage, View, page_of, with_page, stored}
use Rattle.sb_ctx.proofs.ViewLaws.{page_of-same, page_of-other, stored-page, stored-same, stored-other}
use Rattle.sb_node.specs.Entries.{Entry, key_cmp}
use Rattle.sb_node.specs.Page.{Node, has_form, node_of, with_entries}
use Rattle.sb_forms.specs.Tree.{nodes, entries_of, IsWithin, IsSmall, IsLeaf}
use Rattle.sb_btree.specs.Became.{IsPlace}
use Rattle.sb_btree.specs.Inserts.{IsFree, IsThere, PutOne, PutTwo, Changes}
use Rattle.sb_btree.specs.declared.insertion.Put.TheVariants.{Done, Split}
use Rattle.sb_btree.proofs.Order.{same_key}
use Rattle.sb_btree.proofs.Inserting.{one_leaf, two_leaves}
use Rattle.sb_btree.proofs.Became.{within_left, within_right, zipped, zipped_up}
use Rattle.sb_btree.proofs.Putting.{put_within, put_some}
use Rattle.sb_btree.proofs.Splitting.{cut_below, cut_above}
use Rattle.sb_btree.proofs.Writing.{goes_between}

pub held_some : (c : View) (n : ℕ) (page : List ℕ) → page_of c n ≡ Some page → IsSome (page_of c n)
held_some c n page is = subst (λ o. IsSome o) (sym is) refl

pub free_page_of : (c : View) (n : ℕ) → IsFree c n → page_of c n ≡ Some []
free_page_of c n free = ap (option_map (λ (h : HeldPage). h.now)) free

-- a free page is none of a tree
no_form : node_of [] ≡ None
unfolding has_form
no_form = refl

pub free_node : (c : View) (P : Pages) (n : ℕ) → IsFree c n → nodes (stored c P) n ≡ None
free_node c P n free = ap node_of (stored-page c P n [] (free_page_of c n free)) ∙ no_form

-- ---- the pages after a put
pub one_stored : (old new : View) (P : Pages) (page : ℕ) (n : Node) (key value : List ℕ) → IsSome (page_of old page) → (o : PutOne old new page n key value) → nodes (stored new P) page ≡ Some (with_entries (put key_cmp key value n.entries) n)
one_stored old new P page n key value held o = ap (λ (c : View). node_of (stored c P page)) o.changed ∙ ap node_of (stored-same old P page o.bytes held) ∙ o.node_is

pub one_others : (old new : View) (P : Pages) (page x : ℕ) (n : Node) (key value : List ℕ) → PutOne old new page n key value → (x ≡ page → ⊥) → stored new P x ≡ stored old P x
one_others old new P page x n key value o other = ap (λ (c : View). stored c P x) o.changed ∙ stored-other old P page x o.bytes (λ e. other (sym e))

-- ---- a leaf
pub put_small : (key value : List ℕ) (es : List Entry) → IsSmall (key, value) → AllByRecursion IsSmall es → AllByRecursion IsSmall (put key_cmp key value es)
put_small key value [] small h = (small, tt)
put_small key value (e ∷ es) small h =
    elim (key_cmp key e.0) as (λ o. key_cmp key e.0 ≡ o → AllByRecursion IsSmall (by_order o ((key, value) ∷ e ∷ es) ((e.0, value) ∷ es) (e ∷ put key_cmp key value es))) [
      | Less ↦ λ is. (small, h)
      | Equal ↦ λ is. (subst (λ k. IsSmall (k, value)) (same_key key e.0 is) small, h.1)
      | Greater ↦ λ is. (h.0, put_small key value es small h.1)
    ] refl

leaf_entries : (o : Option Node) (n : Node) → o ≡ Some n → IsLeaf o → IsLeaf (Some n)
leaf_entries o n is leaf = subst IsLeaf is leaf

pub leaf_done : (stands : Bool) (old new : View) (P : Pages) (page : ℕ) (key value low : List ℕ) (high : Option (List ℕ)) (n : Node) → nodes (stored old P) page ≡ Some n → IsSome (page_of old page) → IsPlace 0 (stored old P) page low high key
    → IsSmall (key, value) → IsThere stands (find key_cmp key n.entries) → PutOne old new page n key value → Changes stands old new 0 page key value P low high Done
leaf_done stands old new P page key value low high n at held place small none o =
    let leaf = leaf_entries (nodes (stored old P) page) n at place.tree in
    let there = one_stored old new P page n key value held o in
    let same : entries_of (nodes (stored old P) page) ≡ n.entries = ap entries_of at in (
      subst (λ es. IsThere stands (find key_cmp key es)) (sym same) none,
      [],
      (λ x f. absurd f),
      one_leaf (stored old P) (stored new P) page low high (put key_cmp key value (entries_of (nodes (stored old P) page)))
          (λ x other. one_others old new P page x n key value o other)
          (subst IsLeaf (sym there) (leaf.0, leaf.1, put_small key value n.entries small leaf.2))
          (ap entries_of there ∙ ap (put key_cmp key value) (sym same)) (put_some key value (entries_of (nodes (stored old P) page)))
          (put_within key value low high (entries_of (nodes (stored old P) page)) place.above place.under place.within) place.goes,
    )

-- ---- the halves of a page
pub two_right : (old new : View) (P : Pages) (l page next : ℕ) (n : Node) (bound key value : List ℕ) → (page ≡ next → ⊥) → (t : PutTwo old new l page next n bound key value) → nodes (stored new P) next ≡ Some t.other
two_right old new P l page next n bound key value other t =
    let c = with_page page t.left (with_page next zeros old) in
    ap (λ (v : View). node_of (stored v P next)) t.changed ∙ ap node_of (stored-same c P next t.right (subst (λ o. IsSome o) (sym (page_of-other (with_page next zeros old) page next t.left other ∙ page_of-same old next zeros (held_some old next [] (free_page_of old next t.free)))) refl)) ∙ t.right_is

pub two_left : (old new : View) (P : Pages) (l page next : ℕ) (n : Node) (bound key value : List ℕ) → IsSome (page_of old page) → (page ≡ next → ⊥) → (t : PutTwo old new l page next n bound key value) → nodes (stored new P) page ≡ Some (with_entries t.lesser n)
two_left old new P l page next n bound key value held other t =
    let c = with_page next zeros old in
    ap (λ (v : View). node_of (stored v P page)) t.changed ∙ ap node_of (stored-other (with_page page t.left c) P next page t.right (λ e. other (sym e)))
    ∙ ap node_of (stored-same c P page t.left (subst (λ o. IsSome o) (sym (page_of-other old next page zeros (λ e. other (sym e)))) held)) ∙ t.left_is

pub two_others : (old new : View) (P : Pages) (l page next x : ℕ) (n : Node) (bound key value : List ℕ) → PutTwo old new l page next n bound key value → (x ≡ page → ⊥) → (x ≡ next → ⊥) → stored new P x ≡ stored old P x
two_others old new P l page next x n bound key value t other fresh =
    let c = with_page next zeros old in
    ap (λ (v : View). stored v P x) t.changed ∙ stored-other (with_page page t.left c) P next x t.right (λ e. fresh (sym e)) ∙ stored-other c P page x t.left (λ e. other (sym e)) ∙ stored-other old P next x zeros (λ e. fresh (sym e))

-- a page with a node isn't a free one
pub apart_free : (old : View) (P : Pages) (page next : ℕ) (n : Node) → nodes (stored old P) page ≡ Some n → IsFree old next → page ≡ next → ⊥
apart_free old P page next n at free same = some_none n (sym at ∙ ap (nodes (stored old P)) same ∙ free_node old P next free)

pub parts_small : (xs ys : List Entry) → AllByRecursion IsSmall (xs ++ ys) → AllByRecursion IsSmall xs × AllByRecursion IsSmall ys
parts_small [] ys h = (tt, h)
parts_small (x ∷ xs) ys h = let rest = parts_small xs ys h.1 in ((h.0, rest.0), rest.1)

pub leaf_split : (stands : Bool) (old new : View) (P : Pages) (page next : ℕ) (bound key value low : List ℕ) (high : Option (List ℕ)) (n : Node) → nodes (stored old P) page ≡ Some n → IsSome (page_of old page) → IsPlace 0 (stored old P) page low high key
    → IsSmall (key, value) → IsThere stands (find key_cmp key n.entries) → T (is_sorted key_cmp n.entries) → PutTwo old new 0 page next n bound key value → Changes stands old new 0 page key value P low high (Split bound next)
leaf_split stands old new P page next bound key value low high n at held place small none sorted t =
    let leaf = leaf_entries (nodes (stored old P) page) n at place.tree in
    let other = apart_free old P page next n at t.free in
    let left = two_left old new P 0 page next n bound key value held other t in
    let right = two_right old new P 0 page next n bound key value other t in
    let same : entries_of (nodes (stored old P) page) ≡ n.entries = ap entries_of at in
    let want = put key_cmp key value n.entries in
    let cut : want ≡ t.lesser ++ t.other.entries = t.halves.0 in
    let first : t.other.entries ≡ (bound, t.halves.1) ∷ t.halves.2 = t.halves.3 in
    let up : want ≡ t.lesser ++ (bound, t.halves.1) ∷ t.halves.2 = cut ∙ ap (λ ys. t.lesser ++ ys) first in
    let rises : T (is_sorted key_cmp (t.lesser ++ (bound, t.halves.1) ∷ t.halves.2)) = subst (λ es. T (is_sorted key_cmp es)) up (is_sorted-put key_cmp nat_list_cmp_total key value n.entries sorted) in
    let within : IsWithin low high want = subst (λ es. IsWithin low high (put key_cmp key value es)) same (put_within key value low high (entries_of (nodes (stored old P) page)) place.above place.under place.within) in
    let both : IsWithin low high (t.lesser ++ (bound, t.halves.1) ∷ t.halves.2) = subst (IsWithin low high) up within in
    let greater = within_right low high t.lesser ((bound, t.halves.1) ∷ t.halves.2) both in
    let wp = zipped low bound high t.lesser (within_left low high t.lesser ((bound, t.halves.1) ∷ t.halves.2) both) (cut_below t.lesser (bound, t.halves.1) t.halves.2 rises) in
    let wq = zipped_up low bound high ((bound, t.halves.1) ∷ t.halves.2) greater (cut_above t.lesser (bound, t.halves.1) t.halves.2 rises) in
    let smalls = parts_small t.lesser t.other.entries (subst (AllByRecursion IsSmall) cut (put_small key value n.entries small leaf.2)) in
    let many : 0 < length t.other.entries = subst (λ es. 0 < length es) (sym first) (omega arith) in (
      subst (λ es. IsThere stands (find key_cmp key es)) (sym same) none,
      next ∷ [],
      (λ x f. elim f [ inl e ↦ subst (λ y. IsFree old y) (sym e) t.free | inr z ↦ absurd z ]),
      two_leaves (stored old P) (stored new P) page next low bound high t.lesser t.other.entries (put key_cmp key value (entries_of (nodes (stored old P) page)))
          (λ x a b. two_others old new P 0 page next x n bound key value t a b) other
          (subst IsLeaf (sym left) (leaf.0, leaf.1, smalls.0)) (ap entries_of left) t.some
          (subst IsLeaf (sym right) (t.kind_is ∙ leaf.0, t.level_is ∙ leaf.1, smalls.1)) (ap entries_of right) many
          (sym cut ∙ ap (put key_cmp key value) (sym same)) wp (subst (IsWithin bound high) (sym first) wq) greater.0.0 (goes_between bound high ((bound, t.halves.1) ∷ t.halves.2) (omega arith) wq),
    )
