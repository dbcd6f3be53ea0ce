-- What a change of a child and a put at the page above it make of the tree of the next level.
use Rattle.std.proofs.Common.{◌≡◌, ℕ, suc, Bool, List, [], ◌∷◌, ◌++◌, map, Option, Some, None, IsSome, option_map, refl, ap, sym, ◌∙◌, subst, inl, inr, ◌⊎◌}
use Rattle.std.specs.FinMap.Entries.{find, put, by_order}
use Rattle.std.specs.declared.cmp.Ordering.TheVariants.{Less, Equal, Greater}
use Rattle.std.proofs.lemmas.Option.{same_Some}
use Rattle.sb_bytes.specs.Field.{number_at}
use Rattle.sb_forms.specs.Pages.{Pages}
use Rattle.sb_ctx.proofs.HeldLaws.{page_in-each}
use Rattle.sb_ctx.specs.View.{HeldPage, View, held_at, page_of, fresh_page, as_given, dropped, stored}
use Rattle.sb_ctx.proofs.ViewLaws.{stored-page}
use Rattle.sb_node.specs.Entries.{Entry, key_cmp}
use Rattle.sb_node.specs.Page.{Node, with_entries}
use Rattle.sb_forms.specs.Tree.{nodes, Child, child_of, items, met, next_low, IsBound, AreBounds, IsInner, Has, child_for, child_in}
use Rattle.sb_btree.specs.Became.{Became, IsPlace}
use Rattle.sb_btree.specs.Inserts.{IsFree, IsThere, PutOne, PutTwo, Changes}
use Rattle.sb_btree.specs.declared.insertion.Put.TheVariants.{Done, Split}
use Rattle.sb_btree.proofs.Order.{same_key}
use Rattle.sb_btree.proofs.Children.{tree_step}
use Rattle.sb_btree.proofs.Frames.{met_node, some_child}
use Rattle.sb_btree.proofs.Halved.{free_node, free_page_of, one_stored, one_others, two_left, two_right, two_others, apart_free}
use Rattle.sb_btree.proofs.Inserting.{choice, child_place, kept, grown, split}

pub put_bounds : (key value : List ℕ) (es : List Entry) → IsBound (key, value) → AreBounds es → AreBounds (put key_cmp key value es)
put_bounds key value [] bound h = (bound, tt)
put_bounds key value (e ∷ es) bound h =
    elim (key_cmp key e.0) as (λ o. key_cmp key e.0 ≡ o → AreBounds (by_order o ((key, value) ∷ e ∷ es) ((e.0, value) ∷ es) (e ∷ put key_cmp key value es))) [
      | Less ↦ λ is. (bound, h)
      | Equal ↦ λ is. (subst (λ k. IsBound (k, value)) (same_key key e.0 is) bound, h.1)
      | Greater ↦ λ is. (h.0, put_bounds key value es bound h.1)
    ] refl

pub parts_bounds : (xs ys : List Entry) → AreBounds (xs ++ ys) → AreBounds xs × AreBounds ys
parts_bounds [] ys h = (tt, h)
parts_bounds (x ∷ xs) ys h = let rest = parts_bounds xs ys h.1 in ((h.0, rest.0), rest.1)

-- ---- pages that were free
-- each page of the changed tree has a node
pub now_node : (l : ℕ) (P R : Pages) (old : List ℕ) (start high : Option (List ℕ)) (now : List Child) (want : List Entry) (fresh : List ℕ) (x : ℕ) → Became l P R old start high now want fresh [] → Has x old ⊎ Has x fresh → nodes R x ≡ None → ⊥
now_node l P R old start high now want fresh x b h none = elim (b.to x h) [
  | inl m ↦ some_child l (nodes R) x (λ q t g. met_node l (nodes R) q x t g none) high now b.in_order m
  | inr z ↦ absurd z
]

-- a page that is free after a change was free before it
pub free_before : (old new : View) (P : Pages) (x : ℕ) → dropped new ≡ dropped old → stored new P x ≡ stored old P x → IsFree new x → IsFree old x
free_before old new P x given same free = by (held_at old x) refl (sym (page_in-each as_given old.held x) ∙ ap (λ (c : View). held_at c x) (sym given) ∙ page_in-each as_given new.held x ∙ ap (option_map as_given) free)
  where
    by : (o : Option HeldPage) → held_at old x ≡ o → option_map as_given o ≡ Some fresh_page → IsFree old x
    by None there is = absurd (cc)
    by (Some h) there is =
        let alike : as_given h ≡ fresh_page = same_Some (as_given h) fresh_page is in
        let now : h.now ≡ [] = sym (stored-page old P x h.now (ap (option_map (λ (g : HeldPage). g.now)) there)) ∙ sym same ∙ stored-page new P x [] (free_page_of new x free) in
        there ∙ (λ i. Some (record { given = (alike i).given; now = now i; fresh = (alike i).fresh }))

-- ---- a page of the next level
module _ (stands : Bool) (l : ℕ) (old : View) (P : Pages) (page : ℕ) (key value low : List ℕ) (high : Option (List ℕ)) (n : Node) (at : nodes (stored old P) page ≡ Some n) (place : IsPlace (suc l) (stored old P) page low high key) where
  abbrev pub kid : ℕ
  kid = child_for key n.head.a (map child_of n.entries)

  abbrev pub kid_low : List ℕ
  kid_low = (choice l (stored old P) page low high key value n at place).kid.0

  abbrev pub kid_high : Option (List ℕ)
  kid_high = next_low None (choice l (stored old P) page low high key value n at place).after

  kid_is : (choice l (stored old P) page low high key value n at place).kid.1 ≡ kid
  kid_is = (choice l (stored old P) page low high key value n at place).is

  pub kid_place : IsPlace l (stored old P) kid kid_low kid_high key
  kid_place = subst (λ c. IsPlace l (stored old P) c kid_low kid_high key) kid_is (child_place l (stored old P) page low high key value n at place)

  pub find_is : IsThere stands (find key_cmp key (items l (nodes (stored old P)) kid)) → IsThere stands (find key_cmp key (items (suc l) (nodes (stored old P)) page))
  find_is is = subst (IsThere stands) (sym (tree_step (nodes (stored old P)) l key page place.tree ∙ ap (λ o. find key_cmp key (items l (nodes (stored old P)) (child_in key o))) at)) is

  -- the child stayed one page
  pub raise_done : (new : View) → Changes stands old new l kid key value P kid_low kid_high Done → Changes stands old new (suc l) page key value P low high Done
  raise_done new c =
      let b = subst (λ k. Became l (stored old P) (stored new P) (met l (nodes (stored old P)) k) (Some kid_low) kid_high ((kid_low, k) ∷ []) (put key_cmp key value (items l (nodes (stored old P)) k)) c.1 []) (sym kid_is) c.3 in
      (find_is c.0, c.1, c.2, kept l (stored old P) page low high key value n at place (stored new P) c.1 [] (λ x f. free_node old P x (c.2 x f)) b)

  module _ (mid : View) (bound v : List ℕ) (next : ℕ) (given : dropped mid ≡ dropped old) (c : Changes stands old mid l kid key value P kid_low kid_high (Split bound next))
      (held : IsSome (page_of mid page)) (small : IsBound (bound, v)) (spelled : number_at 4 v 0 ≡ next) where
    twins : Became l (stored old P) (stored mid P) (met l (nodes (stored old P)) (choice l (stored old P) page low high key value n at place).kid.1) (Some kid_low) kid_high
        ((kid_low, (choice l (stored old P) page low high key value n at place).kid.1) ∷ (bound, next) ∷ []) (put key_cmp key value (items l (nodes (stored old P)) (choice l (stored old P) page low high key value n at place).kid.1)) c.1 []
    twins = subst (λ k. Became l (stored old P) (stored mid P) (met l (nodes (stored old P)) k) (Some kid_low) kid_high ((kid_low, k) ∷ (bound, next) ∷ []) (put key_cmp key value (items l (nodes (stored old P)) k)) c.1 []) (sym kid_is) c.3

    were_none : (x : ℕ) → Has x c.1 → nodes (stored old P) x ≡ None
    were_none x f = free_node old P x (c.2 x f)

    inner : IsInner (suc l) (Some n)
    inner = subst (IsInner (suc l)) at place.tree.0

    -- it became two, and the page has room for the bound
    pub raise_grown : (new : View) → PutOne mid new page n bound v → Changes stands old new (suc l) page key value P low high Done
    raise_grown new o = (
      find_is c.0,
      c.1,
      c.2,
      grown l (stored old P) page low high key value n at place (stored mid P) (stored new P) next bound v (with_entries (put key_cmp bound v n.entries) n) c.1 [] were_none twins
          (λ x other. one_others mid new P page x n bound v o other) (one_stored mid new P page n bound v held o) (inner.0, inner.1, put_bounds bound v n.entries small inner.2) refl refl spelled,
    )

    -- and the page is split too
    pub raise_split : (new : View) (top : List ℕ) (r : ℕ) → nodes (stored mid P) page ≡ Some n → PutTwo mid new (suc l) page r n top bound v → Changes stands old new (suc l) page key value P low high (Split top r)
    raise_split new top r there t =
        let none = free_node mid P r t.free in
        let unused : Has r c.1 → ⊥ = (λ f. now_node l (stored old P) (stored mid P) _ _ _ _ _ c.1 r c.3 (inr f) none) in
        let unmet : Has r (met l (nodes (stored old P)) kid) → ⊥ = (λ o. now_node l (stored old P) (stored mid P) _ _ _ _ _ c.1 r c.3 (inl o) none) in
        let same = c.3.keeps r unmet unused in
        let was_free = free_before old mid P r given same t.free in
        let other = apart_free mid P page r n there t.free in
        let bounds = parts_bounds t.lesser ((top, t.halves.0) ∷ t.other.entries) (subst AreBounds t.halves.1 (put_bounds bound v n.entries small inner.2)) in (
          find_is c.0,
          r ∷ c.1,
          (λ x f. elim f [ inl e ↦ subst (λ y. IsFree old y) (sym e) was_free | inr g ↦ c.2 x g ]),
          split l (stored old P) page low high key value n at place (stored mid P) (stored new P) next r bound v (with_entries t.lesser n) t.other t.lesser t.other.entries (top, t.halves.0) c.1 [] were_none
              (free_node old P r was_free) unused twins (λ x a b. two_others mid new P (suc l) page r x n top bound v t a b) spelled t.halves.1 t.some t.halves.3
              (two_left mid new P (suc l) page r n top bound v held other t) (inner.0, inner.1, bounds.0) refl refl
              (two_right mid new P (suc l) page r n top bound v other t) (t.kind_is ∙ inner.0, t.level_is ∙ inner.1, bounds.1.1) t.halves.2 refl,
        )
