-- A change at one key, at a leaf and at each level above.
use Rattle.std.proofs.Common.{◌≡◌, ℕ, suc, zero, ◌<◌, false, List, [], ◌∷◌, ◌++◌, map, length, Option, Some, None, refl, ap, sym, ◌∙◌, subst, inl, inr, ◌⊎◌, arith}
use Rattle.std.proofs.lemmas.List.{append-nil, length-map, map-append}
use Rattle.sb_bytes.specs.Field.{number_at}
use Rattle.std.specs.FinMap.Entries.{put}
use Rattle.sb_forms.specs.Pages.{Pages}
use Rattle.sb_node.specs.Entries.{Entry, key_cmp, is_below}
use Rattle.sb_node.specs.Page.{Node, node_of}
use Rattle.sb_forms.specs.Tree.{nodes, Child, child_of, children_of, entries_of, over, items, met, IsWithin, next_low, GoesTo, AreChildren, IsLeaf, IsInner, IsChild, Has, Apart, child_for}
use Rattle.sb_btree.specs.Became.{Became, IsPlace}
use Rattle.sb_btree.proofs.Order.{AllLess, AllMore, above-first}
use Rattle.sb_btree.proofs.Children.{over-append, next-append, AreChildren-left, AreChildren-right, children_below, Chosen, chosen, less_before, more_after}
use Rattle.sb_btree.proofs.Frames.{both-apart, met_node}
use Rattle.sb_btree.proofs.Became.{splice, upto_self}
use Rattle.sb_btree.proofs.Putting.{put_middle, put_within, put_some}
use Rattle.sb_btree.proofs.Splitting.{children_grown}
use Rattle.sb_btree.proofs.Writing.{write_one, write_two}

-- a change that leaves what is less and what is more as it was
abbrev pub IsAt : List ℕ → (List Entry → List Entry) → Type 0
IsAt key op = (xs ms ys : List Entry) → AllLess key xs → AllMore key ys → op (xs ++ (ms ++ ys)) ≡ xs ++ (op ms ++ ys)

pub put_at : (key value : List ℕ) → IsAt key (put key_cmp key value)
put_at key value = put_middle key value

-- a change under the child in which the key stands is a change of all the children
pub in_children : (l : ℕ) (P Q : Pages) (key : List ℕ) (op : List Entry → List Entry) → IsAt key op → (k : Child) (ks : List Child) (child : ℕ) (now : List Child) (fresh freed : List ℕ)
    → AreChildren (IsChild l (nodes P)) (items l (nodes P)) None (k ∷ ks) → Apart (over (met l (nodes P)) (k ∷ ks)) → ((x : ℕ) → Has x fresh → Has x (over (met l (nodes P)) (k ∷ ks)) → ⊥)
    → (c : Chosen key None (k ∷ ks) child)
    → Became l P Q (met l (nodes P) c.kid.1) (Some c.kid.0) (next_low None c.after) now (op (items l (nodes P) c.kid.1)) fresh freed
    → Became l P Q (over (met l (nodes P)) (k ∷ ks)) (Some k.0) None (c.before ++ (now ++ c.after)) (op (over (items l (nodes P)) (k ∷ ks))) fresh freed
in_children l P Q key op at k ks child now fresh freed h apart new c b =
    let h' = subst (AreChildren (IsChild l (nodes P)) (items l (nodes P)) None) c.parts h in
    let left = AreChildren-left (IsChild l (nodes P)) (items l (nodes P)) None c.before (c.kid ∷ c.after) h' in
    let right = AreChildren-right (IsChild l (nodes P)) (items l (nodes P)) None c.before (c.kid ∷ c.after) h' in
    let pages = ap (over (met l (nodes P))) c.parts ∙ over-append (met l (nodes P)) c.before (c.kid ∷ c.after) in
    let entries = ap (over (items l (nodes P))) c.parts ∙ over-append (items l (nodes P)) c.before (c.kid ∷ c.after) in
    let first : next_low (Some c.kid.0) c.before ≡ Some k.0 = sym (ap (next_low None) c.parts ∙ next-append None c.before (c.kid ∷ c.after)) in
    let less = less_before key c.kid.0 (over (items l (nodes P)) c.before) c.low (children_below (IsChild l (nodes P)) (items l (nodes P)) (Some c.kid.0) c.before left) in
    let more = more_after key (IsChild l (nodes P)) (items l (nodes P)) None c.after right.3 c.under in
    let done = splice l P Q c.before c.after (met l (nodes P) c.kid.1) None (Some c.kid.0) now (op (items l (nodes P) c.kid.1)) fresh freed left right.3 (subst Apart pages apart) (λ x f g. new x f (subst (Has x) (sym pages) g)) b in
    let one = subst (λ o. Became l P Q o (next_low (Some c.kid.0) c.before) None (c.before ++ (now ++ c.after)) (over (items l (nodes P)) c.before ++ (op (items l (nodes P) c.kid.1) ++ over (items l (nodes P)) c.after)) fresh freed) (sym pages) done in
    let two = subst (λ s. Became l P Q (over (met l (nodes P)) (k ∷ ks)) s None (c.before ++ (now ++ c.after)) (over (items l (nodes P)) c.before ++ (op (items l (nodes P) c.kid.1) ++ over (items l (nodes P)) c.after)) fresh freed) first one in
    subst (λ w. Became l P Q (over (met l (nodes P)) (k ∷ ks)) (Some k.0) None (c.before ++ (now ++ c.after)) w fresh freed)
    (sym (ap op entries ∙ at (over (items l (nodes P)) c.before) (items l (nodes P) c.kid.1) (over (items l (nodes P)) c.after) less more)) two

-- a leaf that is written
pub one_leaf : (P Q : Pages) (p : ℕ) (low : List ℕ) (high : Option (List ℕ)) (want : List Entry)
    → ((x : ℕ) → (x ≡ p → ⊥) → Q x ≡ P x) → IsLeaf (nodes Q p) → entries_of (nodes Q p) ≡ want → 0 < length want → IsWithin low high want → GoesTo low high
    → Became zero P Q (met zero (nodes P) p) (Some low) high ((low, p) ∷ []) want [] []
one_leaf P Q p low high want writes leaf e some within goes = record {
  in_order = ((leaf, subst (λ es. 0 < length es) (sym e) some), subst (IsWithin low high) (sym e) within, goes, tt);
  starts = upto_self (Some low);
  entries = append-nil (entries_of (nodes Q p)) ∙ e;
  apart = ((λ h. h), tt);
  from = λ x h. inl h;
  to = λ x h. elim h [ inl o ↦ inl o | inr f ↦ absurd f ];
  keeps = λ x o f. writes x (λ e. o (inl e));
}

-- a leaf that is split: a fresh page takes the entries from a bound on
pub two_leaves : (P Q : Pages) (p q : ℕ) (low mid : List ℕ) (high : Option (List ℕ)) (xs ys want : List Entry)
    → ((x : ℕ) → (x ≡ p → ⊥) → (x ≡ q → ⊥) → Q x ≡ P x) → (p ≡ q → ⊥)
    → IsLeaf (nodes Q p) → entries_of (nodes Q p) ≡ xs → 0 < length xs → IsLeaf (nodes Q q) → entries_of (nodes Q q) ≡ ys → 0 < length ys
    → xs ++ ys ≡ want → IsWithin low (Some mid) xs → IsWithin mid high ys → is_below mid low ≡ false → GoesTo mid high
    → Became zero P Q (met zero (nodes P) p) (Some low) high ((low, p) ∷ (mid, q) ∷ []) want (q ∷ []) []
two_leaves P Q p q low mid high xs ys want writes pq leafp ep somep leafq eq someq cut wp wq goes goes_on = record {
  in_order = ((leafp, subst (λ es. 0 < length es) (sym ep) somep), subst (IsWithin low (Some mid)) (sym ep) wp, goes, ((leafq, subst (λ es. 0 < length es) (sym eq) someq), subst (IsWithin mid high) (sym eq) wq, goes_on, tt));
  starts = upto_self (Some low);
  entries = (λ i. ep i ++ append-nil (eq i) i) ∙ cut;
  apart = ((λ h. elim h [ inl e ↦ pq e | inr f ↦ f ]), ((λ h. h), tt));
  from = λ x h. elim h [ inl e ↦ inl (inl e) | inr g ↦ inr g ];
  to = λ x h. elim h [ inl o ↦ elim o [ inl e ↦ inl (inl e) | inr z ↦ absurd z ] | inr f ↦ inl (inr f) ];
  keeps = λ x o f. writes x (λ e. o (inl e)) (λ e. f (inl e));
}

-- ---- a change of a child, seen from the page above it
module _ (l : ℕ) (P : Pages) (p : ℕ) (low : List ℕ) (high : Option (List ℕ)) (key value : List ℕ) (n : Node) (at : nodes P p ≡ Some n) (place : IsPlace (suc l) P p low high key) where
  abbrev pub choice : Chosen key None (([], n.head.a) ∷ map child_of n.entries) (child_for key n.head.a (map child_of n.entries))
  choice = chosen key None ([], n.head.a) (map child_of n.entries) (above-first key) tt

  met_is : met (suc l) (nodes P) p ≡ p ∷ over (met l (nodes P)) (([], n.head.a) ∷ map child_of n.entries)
  met_is = ap (λ o. p ∷ over (met l (nodes P)) (children_of o)) at

  items_is : items (suc l) (nodes P) p ≡ over (items l (nodes P)) (([], n.head.a) ∷ map child_of n.entries)
  items_is = ap (λ o. over (items l (nodes P)) (children_of o)) at

  in_order : AreChildren (IsChild l (nodes P)) (items l (nodes P)) None (([], n.head.a) ∷ map child_of n.entries)
  in_order = subst (λ o. AreChildren (IsChild l (nodes P)) (items l (nodes P)) None (children_of o)) at place.tree.2

  apart : Apart (p ∷ over (met l (nodes P)) (([], n.head.a) ∷ map child_of n.entries))
  apart = subst Apart met_is place.apart

  here : Has p (met (suc l) (nodes P) p)
  here = subst (Has p) (sym met_is) (inl refl)

  -- the key's place is in the child
  pub child_place : IsPlace l P choice.kid.1 choice.kid.0 (next_low None choice.after) key
  child_place =
      let order = AreChildren-right (IsChild l (nodes P)) (items l (nodes P)) None choice.before (choice.kid ∷ choice.after) (subst (AreChildren (IsChild l (nodes P)) (items l (nodes P)) None) choice.parts in_order) in
      let cut = ap (over (met l (nodes P))) choice.parts ∙ over-append (met l (nodes P)) choice.before (choice.kid ∷ choice.after) in
      let one = both-apart (over (met l (nodes P)) choice.before) (met l (nodes P) choice.kid.1 ++ over (met l (nodes P)) choice.after) (subst Apart cut apart.1) in
      let two = both-apart (met l (nodes P) choice.kid.1) (over (met l (nodes P)) choice.after) one.second in
      record { tree = order.0.0; apart = two.first; within = order.1; above = choice.low; under = choice.under; goes = order.2 }

  -- what a change of the child is of all children
  pub whole : (Q : Pages) (now : List Child) (fresh freed : List ℕ) → ((x : ℕ) → Has x fresh → nodes P x ≡ None)
      → Became l P Q (met l (nodes P) choice.kid.1) (Some choice.kid.0) (next_low None choice.after) now (put key_cmp key value (items l (nodes P) choice.kid.1)) fresh freed
      → Became l P Q (over (met l (nodes P)) (([], n.head.a) ∷ map child_of n.entries)) (Some []) None (choice.before ++ (now ++ choice.after)) (put key_cmp key value (over (items l (nodes P)) (([], n.head.a) ∷ map child_of n.entries))) fresh freed
  whole Q now fresh freed new b =
      in_children l P Q key (put key_cmp key value) (put_at key value) ([], n.head.a) (map child_of n.entries) (child_for key n.head.a (map child_of n.entries)) now fresh freed in_order apart.1
      (λ x f g. met_node (suc l) (nodes P) p x place.tree (subst (Has x) (sym met_is) (inr g)) (new x f)) choice b

  -- the page is written with the children that there are now
  pub written : (R Q : Pages) (k : Child) (ks : List Child) (fresh freed : List ℕ) → ((x : ℕ) → Has x fresh → nodes P x ≡ None)
      → Became l P R (over (met l (nodes P)) (([], n.head.a) ∷ map child_of n.entries)) (Some []) None (k ∷ ks) (put key_cmp key value (over (items l (nodes P)) (([], n.head.a) ∷ map child_of n.entries))) fresh freed
      → ((x : ℕ) → (x ≡ p → ⊥) → Q x ≡ R x) → IsInner (suc l) (nodes Q p) → children_of (nodes Q p) ≡ ([], k.1) ∷ ks → 0 < length ks
      → Became (suc l) P Q (met (suc l) (nodes P) p) (Some low) high ((low, p) ∷ []) (put key_cmp key value (items (suc l) (nodes P) p)) fresh freed
  written R Q k ks fresh freed new b writes inner is some =
      subst (λ w. Became (suc l) P Q (met (suc l) (nodes P) p) (Some low) high ((low, p) ∷ []) w fresh freed) (ap (put key_cmp key value) (sym items_is))
      (write_one l P R Q p low high None k ks (put key_cmp key value (over (items l (nodes P)) (([], n.head.a) ∷ map child_of n.entries)))
      (over (met l (nodes P)) (([], n.head.a) ∷ map child_of n.entries)) (met (suc l) (nodes P) p) fresh fresh freed freed (Some [])
      (λ x h. subst (Has x) (sym met_is) (inr h)) (λ x h. h) (λ x h. back x h) (λ x g. inr g) (inl here)
      (λ h. elim (b.from p h) [ inl o ↦ apart.0 o | inr f ↦ met_node (suc l) (nodes P) p p place.tree here (new p f) ]) b writes inner is some
      (subst (λ es. IsWithin low high (put key_cmp key value es)) items_is (put_within key value low high (items (suc l) (nodes P) p) place.above place.under place.within)))
    where
      back : (x : ℕ) → Has x (met (suc l) (nodes P) p) ⊎ Has x fresh → (x ≡ p) ⊎ (Has x (over (met l (nodes P)) (([], n.head.a) ∷ map child_of n.entries)) ⊎ Has x fresh)
      back x (inr f) = inr (inr f)
      back x (inl h) = apart_of (subst (Has x) met_is h)
        where
          apart_of : (x ≡ p) ⊎ Has x (over (met l (nodes P)) (([], n.head.a) ∷ map child_of n.entries)) → (x ≡ p) ⊎ (Has x (over (met l (nodes P)) (([], n.head.a) ∷ map child_of n.entries)) ⊎ Has x fresh)
          apart_of (inl e) = inl e
          apart_of (inr o) = inr (inl o)

  -- the child stayed one page: this page needs no change
  pub kept : (Q : Pages) (fresh freed : List ℕ) → ((x : ℕ) → Has x fresh → nodes P x ≡ None)
      → Became l P Q (met l (nodes P) choice.kid.1) (Some choice.kid.0) (next_low None choice.after) ((choice.kid.0, choice.kid.1) ∷ []) (put key_cmp key value (items l (nodes P) choice.kid.1)) fresh freed
      → Became (suc l) P Q (met (suc l) (nodes P) p) (Some low) high ((low, p) ∷ []) (put key_cmp key value (items (suc l) (nodes P) p)) fresh freed
  kept Q fresh freed new b =
      let all = subst (λ xs. Became l P Q (over (met l (nodes P)) (([], n.head.a) ∷ map child_of n.entries)) (Some []) None xs (put key_cmp key value (over (items l (nodes P)) (([], n.head.a) ∷ map child_of n.entries))) fresh freed)
      (sym choice.parts) (whole Q ((choice.kid.0, choice.kid.1) ∷ []) fresh freed new b) in
      let same : nodes Q p ≡ Some n = ap node_of (all.keeps p apart.0 (λ f. met_node (suc l) (nodes P) p p place.tree here (new p f))) ∙ at in
      let full : 0 < length n.entries = subst (λ o. 0 < length (entries_of o)) at place.tree.1 in
      let some : 0 < length (map child_of n.entries) = omega (arith, length-map n.entries child_of) in
      written Q Q ([], n.head.a) (map child_of n.entries) fresh freed new all (λ x g. refl) (subst (IsInner (suc l)) (sym same) (subst (IsInner (suc l)) at place.tree.0)) (ap children_of same) some

  -- the child became two, and this page has room for the entry of the second one
  pub grown : (R Q : Pages) (q : ℕ) (m v : List ℕ) (n' : Node) (fresh freed : List ℕ) → ((x : ℕ) → Has x fresh → nodes P x ≡ None)
      → Became l P R (met l (nodes P) choice.kid.1) (Some choice.kid.0) (next_low None choice.after) ((choice.kid.0, choice.kid.1) ∷ (m, q) ∷ []) (put key_cmp key value (items l (nodes P) choice.kid.1)) fresh freed
      → ((x : ℕ) → (x ≡ p → ⊥) → Q x ≡ R x) → nodes Q p ≡ Some n' → IsInner (suc l) (Some n') → n'.head.a ≡ n.head.a → n'.entries ≡ put key_cmp m v n.entries → number_at 4 v 0 ≡ q
      → Became (suc l) P Q (met (suc l) (nodes P) p) (Some low) high ((low, p) ∷ []) (put key_cmp key value (items (suc l) (nodes P) p)) fresh freed
  grown R Q q m v n' fresh freed new b writes there inner leftmost entries spelled =
      let list = children_grown l P R key n.head.a n.entries (child_for key n.head.a (map child_of n.entries)) q m v (put key_cmp key value (items l (nodes P) choice.kid.1)) fresh freed in_order choice b spelled in
      let all = subst (λ xs. Became l P R (over (met l (nodes P)) (([], n.head.a) ∷ map child_of n.entries)) (Some []) None xs (put key_cmp key value (over (items l (nodes P)) (([], n.head.a) ∷ map child_of n.entries))) fresh freed)
      (sym list) (whole R ((choice.kid.0, choice.kid.1) ∷ (m, q) ∷ []) fresh freed new b) in
      let is : children_of (nodes Q p) ≡ ([], n.head.a) ∷ map child_of (put key_cmp m v n.entries) = ap children_of there ∙ (λ i. ([], leftmost i) ∷ map child_of (entries i)) in
      let some : 0 < length (map child_of (put key_cmp m v n.entries)) = omega (arith, length-map (put key_cmp m v n.entries) child_of, put_some m v n.entries) in
      written R Q ([], n.head.a) (map child_of (put key_cmp m v n.entries)) fresh freed new all writes (subst (IsInner (suc l)) (sym there) inner) is some

  -- the child became two, and this page is split too: a fresh page r has the children from that of an entry c on
  pub split : (R Q : Pages) (q r : ℕ) (m v : List ℕ) (n₁ n₂ : Node) (xs ys : List Entry) (c : Entry) (fresh freed : List ℕ) → ((x : ℕ) → Has x fresh → nodes P x ≡ None) → nodes P r ≡ None → (Has r fresh → ⊥)
      → Became l P R (met l (nodes P) choice.kid.1) (Some choice.kid.0) (next_low None choice.after) ((choice.kid.0, choice.kid.1) ∷ (m, q) ∷ []) (put key_cmp key value (items l (nodes P) choice.kid.1)) fresh freed
      → ((x : ℕ) → (x ≡ p → ⊥) → (x ≡ r → ⊥) → Q x ≡ R x) → number_at 4 v 0 ≡ q → put key_cmp m v n.entries ≡ xs ++ c ∷ ys → 0 < length xs → 0 < length ys
      → nodes Q p ≡ Some n₁ → IsInner (suc l) (Some n₁) → n₁.head.a ≡ n.head.a → n₁.entries ≡ xs
      → nodes Q r ≡ Some n₂ → IsInner (suc l) (Some n₂) → n₂.head.a ≡ number_at 4 c.1 0 → n₂.entries ≡ ys
      → Became (suc l) P Q (met (suc l) (nodes P) p) (Some low) high ((low, p) ∷ (c.0, r) ∷ []) (put key_cmp key value (items (suc l) (nodes P) p)) (r ∷ fresh) freed
  split R Q q r m v n₁ n₂ xs ys c fresh freed new free unused b writes spelled parts somex somey there₁ inner₁ leftmost₁ entries₁ there₂ inner₂ leftmost₂ entries₂ =
      let list = children_grown l P R key n.head.a n.entries (child_for key n.head.a (map child_of n.entries)) q m v (put key_cmp key value (items l (nodes P) choice.kid.1)) fresh freed in_order choice b spelled in
      let cut : ([], n.head.a) ∷ map child_of (put key_cmp m v n.entries) ≡ (([], n.head.a) ∷ map child_of xs) ++ (child_of c ∷ map child_of ys) =
      ap (λ es. ([], n.head.a) ∷ map child_of es) parts ∙ ap (λ ks. ([], n.head.a) ∷ ks) (map-append child_of xs (c ∷ ys)) in
      let all = subst (λ ks. Became l P R (over (met l (nodes P)) (([], n.head.a) ∷ map child_of n.entries)) (Some []) None ks (put key_cmp key value (over (items l (nodes P)) (([], n.head.a) ∷ map child_of n.entries))) fresh freed)
      (sym list ∙ cut) (whole R ((choice.kid.0, choice.kid.1) ∷ (m, q) ∷ []) fresh freed new b) in
      let pr : p ≡ r → ⊥ = (λ e. met_node (suc l) (nodes P) p p place.tree here (ap (nodes P) e ∙ free)) in
      subst (λ w. Became (suc l) P Q (met (suc l) (nodes P) p) (Some low) high ((low, p) ∷ (c.0, r) ∷ []) w (r ∷ fresh) freed) (ap (put key_cmp key value) (sym items_is))
      (write_two l P R Q p r low high None ([], n.head.a) (child_of c) (map child_of xs) (map child_of ys) (put key_cmp key value (over (items l (nodes P)) (([], n.head.a) ∷ map child_of n.entries)))
      (over (met l (nodes P)) (([], n.head.a) ∷ map child_of n.entries)) (met (suc l) (nodes P) p) fresh (r ∷ fresh) freed (Some [])
      (λ x h. subst (Has x) (sym met_is) (inr h)) (λ x h. inr h) (λ x h. back x h) (inl here) (inr (inl refl)) pr
      (λ h. elim (all.from p h) [ inl o ↦ apart.0 o | inr f ↦ met_node (suc l) (nodes P) p p place.tree here (new p f) ])
      (λ h. elim (all.from r h) [ inl o ↦ met_node (suc l) (nodes P) p r place.tree (subst (Has r) (sym met_is) (inr o)) free | inr f ↦ unused f ]) all writes
      (subst (IsInner (suc l)) (sym there₁) inner₁) (ap children_of there₁ ∙ (λ i. ([], leftmost₁ i) ∷ map child_of (entries₁ i))) (omega (arith, length-map xs child_of))
      (subst (IsInner (suc l)) (sym there₂) inner₂) (ap children_of there₂ ∙ (λ i. ([], leftmost₂ i) ∷ map child_of (entries₂ i))) (omega (arith, length-map ys child_of))
      (subst (λ es. IsWithin low high (put key_cmp key value es)) items_is (put_within key value low high (items (suc l) (nodes P) p) place.above place.under place.within)))
    where
      back : (x : ℕ) → Has x (met (suc l) (nodes P) p) ⊎ Has x (r ∷ fresh) → ((x ≡ p) ⊎ (x ≡ r)) ⊎ (Has x (over (met l (nodes P)) (([], n.head.a) ∷ map child_of n.entries)) ⊎ Has x fresh)
      back x (inr (inl e)) = inl (inr e)
      back x (inr (inr f)) = inr (inr f)
      back x (inl h) = apart_of (subst (Has x) met_is h)
        where
          apart_of : (x ≡ p) ⊎ Has x (over (met l (nodes P)) (([], n.head.a) ∷ map child_of n.entries)) → ((x ≡ p) ⊎ (x ≡ r)) ⊎ (Has x (over (met l (nodes P)) (([], n.head.a) ∷ map child_of n.entries)) ⊎ Has x fresh)
          apart_of (inl e) = inl (inl e)
          apart_of (inr o) = inr (inl o)
