-- Children that are put into nodes of the next level, whichever pages those are.
use Rattle.std.proofs.Common.{◌≡◌, ℕ, suc, ◌<◌, true, false, List, [], ◌∷◌, ◌++◌, length, Option, Some, None, ap, sym, ◌∙◌, subst, inl, inr, ◌⊎◌, arith}
use Rattle.std.specs.List.{AllByRecursion}
use Rattle.std.proofs.lemmas.List.{append-nil}
use Rattle.std.proofs.lemmas.Bool.{false_from_ne_true}
use Rattle.sb_forms.specs.Pages.{Pages}
use Rattle.sb_node.specs.Entries.{Entry, is_below}
use Rattle.sb_node.specs.Page.{node_of}
use Rattle.sb_forms.specs.Tree.{nodes, Child, children_of, over, items, met, IsWithin, GoesTo, IsInner, IsChild, Has, Apart}
use Rattle.sb_btree.specs.Became.{Became}
use Rattle.sb_btree.proofs.Order.{below-trans, upto-below}
use Rattle.sb_btree.proofs.Children.{over-append, AreChildren-left, AreChildren-right, children_above, children_below}
use Rattle.sb_btree.proofs.Frames.{apart-both, both-apart, Same, all_same, same_children, same_over_items, same_over_met}
use Rattle.sb_btree.proofs.Members.{has_left, has_right, has_either}
use Rattle.sb_btree.proofs.Following.{tree_some}
use Rattle.sb_btree.proofs.Became.{made, not_below_self, upto_self, within_left, within_right, zipped, zipped_up}

-- ---- bounds that follow, since no child is empty

pub below_not : (x y : List ℕ) → is_below x y ≡ true → is_below y x ≡ false
below_not x y p = false_from_ne_true (is_below y x) (λ e. let a = below-trans x y x p e in let b = not_below_self x in cc)

pub goes_between : (low : List ℕ) (high : Option (List ℕ)) (es : List Entry) → 0 < length es → IsWithin low high es → GoesTo low high
goes_between low high [] some h = absurd (omega arith)
goes_between low None (e ∷ es) some h = tt
goes_between low (Some high) (e ∷ es) some h = below_not low high (upto-below low e.0 high h.0.0 h.0.1)

-- ---- nodes that are written

-- the children k ∷ ks go into one page q
pub write_one : (l : ℕ) (P R Q : Pages) (q : ℕ) (low : List ℕ) (high top : Option (List ℕ)) (k : Child) (ks : List Child) (want : List Entry) (old old' fresh fresh' freed freed' : List ℕ) (start : Option (List ℕ))
    → ((x : ℕ) → Has x old → Has x old') → ((x : ℕ) → Has x fresh → Has x fresh')
    → ((x : ℕ) → Has x old' ⊎ Has x fresh' → (x ≡ q) ⊎ (Has x old ⊎ Has x fresh)) → ((x : ℕ) → Has x freed → (x ≡ q) ⊎ Has x freed') → Has q old' ⊎ Has q fresh' → (Has q (over (met l (nodes R)) (k ∷ ks)) → ⊥)
    → Became l P R old start top (k ∷ ks) want fresh freed
    → ((x : ℕ) → (x ≡ q → ⊥) → Q x ≡ R x)
    → IsInner (suc l) (nodes Q q) → children_of (nodes Q q) ≡ ([], k.1) ∷ ks → 0 < length ks
    → IsWithin low high want
    → Became (suc l) P Q old' (Some low) high ((low, q) ∷ []) want fresh' freed'
write_one l P R Q q low high top k ks want old old' fresh fresh' freed freed' start more also back gone mine out b writes inner is some within =
    let same_kids = all_same l (nodes R) (nodes Q) (k ∷ ks) (λ x h. ap node_of (writes x (λ e. out (subst (λ z. Has z (over (met l (nodes R)) (k ∷ ks))) e h)))) in
    let m = made l (nodes Q) q top k ks inner is some (same_children l (nodes R) (nodes Q) top (k ∷ ks) same_kids b.in_order) in
    let have = m.entries ∙ same_over_items l (nodes R) (nodes Q) (k ∷ ks) same_kids ∙ b.entries in
    let pages = append-nil (met (suc l) (nodes Q) q) ∙ m.pages ∙ ap (λ xs. q ∷ xs) (same_over_met l (nodes R) (nodes Q) (k ∷ ks) same_kids) in
    let w = subst (IsWithin low high) (sym have) within in
    record {
      in_order = (m.tree, w, goes_between low high (items (suc l) (nodes Q) q) (tree_some (suc l) (nodes Q) q m.tree.0 m.tree.1) w, tt);
      starts = upto_self (Some low);
      entries = append-nil (items (suc l) (nodes Q) q) ∙ have;
      apart = subst Apart (sym pages) (out, b.apart);
      from = λ x h. from x (b.from x) (subst (Has x) pages h);
      to = λ x h. elim (to x (back x h) b.to) [ inl g ↦ inl (subst (Has x) (sym pages) g) | inr g ↦ inr g ];
      keeps = λ x o f. writes x (λ e. elim mine [ inl a ↦ o (subst (λ z. Has z old') (sym e) a) | inr a ↦ f (subst (λ z. Has z fresh') (sym e) a) ]) ∙ b.keeps x (λ a. o (more x a)) (λ a. f (also x a));
    }
  where
    from : (x : ℕ) → (Has x (over (met l (nodes R)) (k ∷ ks)) → Has x old ⊎ Has x fresh) → Has x (q ∷ over (met l (nodes R)) (k ∷ ks)) → Has x old' ⊎ Has x fresh'
    from x f (inl e) = elim mine [ inl a ↦ inl (subst (λ z. Has z old') (sym e) a) | inr a ↦ inr (subst (λ z. Has z fresh') (sym e) a) ]
    from x f (inr h) = elim (f h) [ inl o ↦ inl (more x o) | inr g ↦ inr (also x g) ]

    to : (x : ℕ) → (x ≡ q) ⊎ (Has x old ⊎ Has x fresh) → ((y : ℕ) → Has y old ⊎ Has y fresh → Has y (over (met l (nodes R)) (k ∷ ks)) ⊎ Has y freed) → Has x (q ∷ over (met l (nodes R)) (k ∷ ks)) ⊎ Has x freed'
    to x (inl e) f = inl (inl e)
    to x (inr h) f = elim (f x h) [ inl a ↦ inl (inr a) | inr g ↦ elim (gone x g) [ inl e ↦ inl (inl e) | inr z ↦ inr z ] ]

-- the children are split over two pages p and q
pub write_two : (l : ℕ) (P R Q : Pages) (p q : ℕ) (low : List ℕ) (high top : Option (List ℕ)) (k j : Child) (ks js : List Child) (want : List Entry) (old old' fresh fresh' freed : List ℕ) (start : Option (List ℕ))
    → ((x : ℕ) → Has x old → Has x old') → ((x : ℕ) → Has x fresh → Has x fresh')
    → ((x : ℕ) → Has x old' ⊎ Has x fresh' → ((x ≡ p) ⊎ (x ≡ q)) ⊎ (Has x old ⊎ Has x fresh)) → Has p old' ⊎ Has p fresh' → Has q old' ⊎ Has q fresh' → (p ≡ q → ⊥)
    → (Has p (over (met l (nodes R)) ((k ∷ ks) ++ (j ∷ js))) → ⊥) → (Has q (over (met l (nodes R)) ((k ∷ ks) ++ (j ∷ js))) → ⊥)
    → Became l P R old start top ((k ∷ ks) ++ (j ∷ js)) want fresh freed
    → ((x : ℕ) → (x ≡ p → ⊥) → (x ≡ q → ⊥) → Q x ≡ R x)
    → IsInner (suc l) (nodes Q p) → children_of (nodes Q p) ≡ ([], k.1) ∷ ks → 0 < length ks
    → IsInner (suc l) (nodes Q q) → children_of (nodes Q q) ≡ ([], j.1) ∷ js → 0 < length js
    → IsWithin low high want
    → Became (suc l) P Q old' (Some low) high ((low, p) ∷ (j.0, q) ∷ []) want fresh' freed
write_two l P R Q p q low high top k j ks js want old old' fresh fresh' freed start more also back minep mineq pq outp outq b writes innerp isp somep innerq isq someq within =
    let W = (k ∷ ks) ++ (j ∷ js) in
    let same_all : (zs : List Child) → ((x : ℕ) → Has x (over (met l (nodes R)) zs) → Has x (over (met l (nodes R)) W)) → AllByRecursion (λ z. Same l (nodes R) (nodes Q) z.1) zs =
    (λ zs f. all_same l (nodes R) (nodes Q) zs (λ x h. ap node_of (writes x (λ e. outp (f p (subst (λ z. Has z (over (met l (nodes R)) zs)) e h))) (λ e. outq (f q (subst (λ z. Has z (over (met l (nodes R)) zs)) e h)))))) in
    let cut = over-append (met l (nodes R)) (k ∷ ks) (j ∷ js) in
    let A = over (met l (nodes R)) (k ∷ ks) in
    let B = over (met l (nodes R)) (j ∷ js) in
    let sk = same_all (k ∷ ks) (λ x h. subst (Has x) (sym cut) (has_left x A B h)) in
    let sj = same_all (j ∷ js) (λ x h. subst (Has x) (sym cut) (has_right x A B h)) in
    let left = AreChildren-left (IsChild l (nodes R)) (items l (nodes R)) top (k ∷ ks) (j ∷ js) b.in_order in
    let right = AreChildren-right (IsChild l (nodes R)) (items l (nodes R)) top (k ∷ ks) (j ∷ js) b.in_order in
    let mp = made l (nodes Q) p (Some j.0) k ks innerp isp somep (same_children l (nodes R) (nodes Q) (Some j.0) (k ∷ ks) sk left) in
    let mq = made l (nodes Q) q top j js innerq isq someq (same_children l (nodes R) (nodes Q) top (j ∷ js) sj right) in
    let havep = mp.entries ∙ same_over_items l (nodes R) (nodes Q) (k ∷ ks) sk in
    let haveq = mq.entries ∙ same_over_items l (nodes R) (nodes Q) (j ∷ js) sj in
    let parts = sym (over-append (items l (nodes R)) (k ∷ ks) (j ∷ js)) ∙ b.entries in
    let X = over (items l (nodes R)) (k ∷ ks) in
    let Y = over (items l (nodes R)) (j ∷ js) in
    let both = subst (IsWithin low high) (sym parts) within in
    let wp = subst (IsWithin low (Some j.0)) (sym havep) (zipped low j.0 high X (within_left low high X Y both) (children_below (IsChild l (nodes R)) (items l (nodes R)) (Some j.0) (k ∷ ks) left)) in
    let wq = subst (IsWithin j.0 high) (sym haveq) (zipped_up low j.0 high Y (within_right low high X Y both) (children_above (IsChild l (nodes R)) (items l (nodes R)) top j js right)) in
    let pagesp = mp.pages ∙ ap (λ xs. p ∷ xs) (same_over_met l (nodes R) (nodes Q) (k ∷ ks) sk) in
    let pagesq = append-nil (met (suc l) (nodes Q) q) ∙ mq.pages ∙ ap (λ xs. q ∷ xs) (same_over_met l (nodes R) (nodes Q) (j ∷ js) sj) in
    let pages : met (suc l) (nodes Q) p ++ (met (suc l) (nodes Q) q ++ []) ≡ (p ∷ A) ++ (q ∷ B) = (λ i. pagesp i ++ pagesq i) in
    let two = both-apart A B (subst Apart cut b.apart) in
    record {
      in_order = (mp.tree, wp, goes_between low (Some j.0) (items (suc l) (nodes Q) p) (tree_some (suc l) (nodes Q) p mp.tree.0 mp.tree.1) wp, (mq.tree, wq, goes_between j.0 high (items (suc l) (nodes Q) q) (tree_some (suc l) (nodes Q) q mq.tree.0 mq.tree.1) wq, tt));
      starts = upto_self (Some low);
      entries = (λ i. havep i ++ append-nil (haveq i) i) ∙ parts;
      apart = subst Apart (sym pages) (apart-both (p ∷ A) (q ∷ B) (record {
        first = (λ h. outp (subst (Has p) (sym cut) (has_left p A B h)), two.first);
        second = (λ h. outq (subst (Has q) (sym cut) (has_right q A B h)), two.second);
        each = λ x h g. each_apart x h g (λ a. outp (subst (Has p) (sym cut) (has_right p A B a))) (λ a. outq (subst (Has q) (sym cut) (has_left q A B a))) two.each;
      }));
      from = λ x h. from x (λ g. b.from x (subst (Has x) (sym cut) g)) (has_either x (p ∷ A) (q ∷ B) (subst (Has x) pages h));
      to = λ x h. elim (to x (back x h) b.to (subst (Has x) cut)) [ inl g ↦ inl (subst (Has x) (sym pages) g) | inr g ↦ inr g ];
      keeps = λ x o f. writes x (λ e. elim minep [ inl a ↦ o (subst (λ z. Has z old') (sym e) a) | inr a ↦ f (subst (λ z. Has z fresh') (sym e) a) ]) (λ e. elim mineq [ inl a ↦ o (subst (λ z. Has z old') (sym e) a) | inr a ↦ f (subst (λ z. Has z fresh') (sym e) a) ]) ∙ b.keeps x (λ a. o (more x a)) (λ a. f (also x a));
    }
  where
    each_apart : (x : ℕ) → Has x (p ∷ over (met l (nodes R)) (k ∷ ks)) → Has x (q ∷ over (met l (nodes R)) (j ∷ js)) → (Has p (over (met l (nodes R)) (j ∷ js)) → ⊥) → (Has q (over (met l (nodes R)) (k ∷ ks)) → ⊥) → ((z : ℕ) → Has z (over (met l (nodes R)) (k ∷ ks)) → Has z (over (met l (nodes R)) (j ∷ js)) → ⊥) → ⊥
    each_apart x (inl e) (inl f) a c d = pq (sym e ∙ f)
    each_apart x (inl e) (inr g) a c d = a (subst (λ z. Has z (over (met l (nodes R)) (j ∷ js))) e g)
    each_apart x (inr h) (inl f) a c d = c (subst (λ z. Has z (over (met l (nodes R)) (k ∷ ks))) f h)
    each_apart x (inr h) (inr g) a c d = d x h g

    place : (x r : ℕ) → x ≡ r → Has r old' ⊎ Has r fresh' → Has x old' ⊎ Has x fresh'
    place x r e (inl a) = inl (subst (λ z. Has z old') (sym e) a)
    place x r e (inr a) = inr (subst (λ z. Has z fresh') (sym e) a)

    from : (x : ℕ) → (Has x (over (met l (nodes R)) (k ∷ ks) ++ over (met l (nodes R)) (j ∷ js)) → Has x old ⊎ Has x fresh) → Has x (p ∷ over (met l (nodes R)) (k ∷ ks)) ⊎ Has x (q ∷ over (met l (nodes R)) (j ∷ js)) → Has x old' ⊎ Has x fresh'
    from x f (inl (inl e)) = place x p e minep
    from x f (inl (inr h)) = elim (f (has_left x (over (met l (nodes R)) (k ∷ ks)) (over (met l (nodes R)) (j ∷ js)) h)) [ inl o ↦ inl (more x o) | inr g ↦ inr (also x g) ]
    from x f (inr (inl e)) = place x q e mineq
    from x f (inr (inr h)) = elim (f (has_right x (over (met l (nodes R)) (k ∷ ks)) (over (met l (nodes R)) (j ∷ js)) h)) [ inl o ↦ inl (more x o) | inr g ↦ inr (also x g) ]

    to : (x : ℕ) → ((x ≡ p) ⊎ (x ≡ q)) ⊎ (Has x old ⊎ Has x fresh) → ((y : ℕ) → Has y old ⊎ Has y fresh → Has y (over (met l (nodes R)) ((k ∷ ks) ++ (j ∷ js))) ⊎ Has y freed)
        → (Has x (over (met l (nodes R)) ((k ∷ ks) ++ (j ∷ js))) → Has x (over (met l (nodes R)) (k ∷ ks) ++ over (met l (nodes R)) (j ∷ js)))
        → Has x ((p ∷ over (met l (nodes R)) (k ∷ ks)) ++ (q ∷ over (met l (nodes R)) (j ∷ js))) ⊎ Has x freed
    to x (inl (inl e)) f parts = inl (inl e)
    to x (inl (inr e)) f parts = inl (has_right x (p ∷ over (met l (nodes R)) (k ∷ ks)) (q ∷ over (met l (nodes R)) (j ∷ js)) (inl e))
    to x (inr h) f parts = elim (f x h) [
      | inl a ↦ elim (has_either x (over (met l (nodes R)) (k ∷ ks)) (over (met l (nodes R)) (j ∷ js)) (parts a)) [
        | inl b ↦ inl (has_left x (p ∷ over (met l (nodes R)) (k ∷ ks)) (q ∷ over (met l (nodes R)) (j ∷ js)) (inr b))
        | inr c ↦ inl (has_right x (p ∷ over (met l (nodes R)) (k ∷ ks)) (q ∷ over (met l (nodes R)) (j ∷ js)) (inr c))
      ]
      | inr g ↦ inr g
    ]
