-- Two neighbours, of which one gives its last child to the other and is given back.
use Rattle.std.proofs.Common.{◌≡◌, ℕ, suc, ◌≤◌, Bool, true, false, List, [], ◌∷◌, ◌++◌, length, map, Option, Some, None, IsSome, refl, ap, sym, ◌∙◌, subst, inl, inr}
use Rattle.std.proofs.lemmas.List.{append-nil, map-append}
use Rattle.std.specs.List.{AllByRecursion}
use Rattle.std.specs.FinMap.Entries.{put}
use Rattle.std.proofs.lemmas.Bool.{cases_eq}
use Rattle.sb_value.proofs.Truths.{some_none}
use Rattle.sb_bytes.specs.Field.{number_at}
use Rattle.sb_forms.specs.Pages.{Pages}
use Rattle.sb_ctx.proofs.ViewLaws.{stored-page, stored-same, stored-other, dropped-with_page}
use Rattle.sb_ctx.specs.View.{View, held_at, page_of, with_page, dropped, stored}
use Rattle.sb_node.specs.Entries.{Entry, key_cmp, is_below}
use Rattle.sb_node.specs.Page.{Node, node_of}
use Rattle.sb_forms.specs.Tree.{Nodes, nodes, Child, child_of, children_of, over, items, met, IsUnder, IsWithin, next_low, AreChildren, IsInner, IsChild, Has, Apart}
use Rattle.sb_btree.specs.Became.{Became}
use Rattle.sb_btree.specs.Broken.{held_node}
use Rattle.sb_btree.specs.Inserts.{children_after}
use Rattle.sb_btree.specs.Removes.{Shrinks, TookChild, taker, entered, entries_without}
use Rattle.sb_btree.specs.declared.insertion.Put.{Put}
use Rattle.sb_btree.proofs.Order.{AllLess, AllMore, below-trans, below-less, less-below, below-greater}
use Rattle.sb_btree.proofs.Children.{all_map, children_above, children_below}
use Rattle.sb_btree.proofs.Frames.{both-apart, apart-both, met_node}
use Rattle.sb_btree.proofs.Members.{has_left, has_right, has_either}
use Rattle.sb_btree.proofs.Following.{tree_some}
use Rattle.sb_btree.proofs.Became.{splice, within_left, within_right}
use Rattle.sb_btree.proofs.Writing.{goes_between}
use Rattle.sb_btree.proofs.Putting.{put_less, put_more}
use Rattle.sb_btree.proofs.Splitting.{strictly}
use Rattle.sb_btree.proofs.Halved.{free_node, apart_free}
use Rattle.sb_btree.proofs.Edits.{held_still}
use Rattle.sb_btree.proofs.Shrinking.{own_met}
use Rattle.sb_btree.proofs.Taking.{without_within}
use Rattle.sb_btree.proofs.Takes.{stored_alike, held_other}
use Rattle.sb_btree.proofs.Entered.{PutPages, put_pages, put_between, put_page}

-- ---- a held page and its node
pub node_held : (o : Option (List ℕ)) (n : Node) → held_node o ≡ Some n → IsSome o
node_held None n is = absurd (cc)
node_held (Some bytes) n is = refl

pub node_stored : (c : View) (P : Pages) (x : ℕ) (n : Node) → held_node (page_of c x) ≡ Some n → nodes (stored c P) x ≡ Some n
node_stored c P x n is = by (page_of c x) refl is
  where
    by : (o : Option (List ℕ)) → page_of c x ≡ o → held_node o ≡ Some n → nodes (stored c P) x ≡ Some n
    by None there is = absurd (cc)
    by (Some bytes) there is = ap node_of (stored-page c P x bytes there) ∙ is

-- ---- children between other bounds
lefts : (P : Entry → Type 0) (xs ys : List Entry) → AllByRecursion P (xs ++ ys) → AllByRecursion P xs
lefts P [] ys h = tt
lefts P (x ∷ xs) ys h = (h.0, lefts P xs ys h.1)

rights : (P : Entry → Type 0) (xs ys : List Entry) → AllByRecursion P (xs ++ ys) → AllByRecursion P ys
rights P [] ys h = h
rights P (x ∷ xs) ys h = rights P xs ys h.1

zip : (low : List ℕ) (top high : Option (List ℕ)) (es : List Entry) → IsWithin low top es → AllByRecursion (λ e. IsUnder high e.0) es → IsWithin low high es
zip low top high [] a b = tt
zip low top high (e ∷ es) a b = ((a.0.0, b.0), zip low top high es a.1 b.1)

-- children that are in order are so up to a bound that all their keys are below
lowered : (m : ℕ) (N : Nodes) (high : Option (List ℕ)) (k : Child) (ks : List Child) → AreChildren (IsChild m N) (items m N) None (k ∷ ks) → AllByRecursion (λ e. IsUnder high e.0) (over (items m N) (k ∷ ks)) → AreChildren (IsChild m N) (items m N) high (k ∷ ks)
lowered m N high k [] h all =
    let w : IsWithin k.0 high (items m N k.1) = zip k.0 None high (items m N k.1) h.1 (lefts (λ (e : Entry). IsUnder high e.0) (items m N k.1) [] all) in
    (h.0, w, goes_between k.0 high (items m N k.1) (tree_some m N k.1 h.0.0 h.0.1) w, tt)
lowered m N high k (j ∷ ks) h all = (h.0, h.1, h.2, lowered m N high j ks h.3 (rights (λ (e : Entry). IsUnder high e.0) (items m N k.1) (over (items m N) (j ∷ ks)) all))

-- and from a bound that none of them is below
between : (m : ℕ) (N : Nodes) (low : List ℕ) (high : Option (List ℕ)) (a : ℕ) (ks : List Child) → AreChildren (IsChild m N) (items m N) None (([], a) ∷ ks) → IsWithin low high (over (items m N) (([], a) ∷ ks)) → AreChildren (IsChild m N) (items m N) high ((low, a) ∷ ks)
between m N low high a ks h all =
    let g = lowered m N high ([], a) ks h (all_map (λ (e : Entry). (is_below e.0 low ≡ false) × IsUnder high e.0) (λ (e : Entry). IsUnder high e.0) (λ e p. p.1) (over (items m N) (([], a) ∷ ks)) all) in
    let w : IsWithin low (next_low high ks) (items m N a) = both (next_low high ks) (items m N a) g.1 (within_left low high (items m N a) (over (items m N) ks) all) in
    (g.0, w, goes_between low (next_low high ks) (items m N a) (tree_some m N a g.0.0 g.0.1) w, g.3)
  where
    both : (h : Option (List ℕ)) (es : List Entry) → IsWithin [] h es → IsWithin low high es → IsWithin low h es
    both h [] a b = tt
    both h (e ∷ es) a b = ((b.0.0, a.0.1), both h es a.1 b.1)

-- all bounds behind the first one are above it
bounds_more : (m : ℕ) (N : Nodes) (high : Option (List ℕ)) (low : List ℕ) (a : ℕ) (es : List Entry) → AreChildren (IsChild m N) (items m N) high ((low, a) ∷ map child_of es) → AllMore low es
bounds_more m N high low a [] h = tt
bounds_more m N high low a (e ∷ es) h =
    let up = strictly low e.0 (items m N a) (tree_some m N a h.0.0 h.0.1) h.1 in
    let rest = bounds_more m N high e.0 (number_at 4 e.1 0) es h.3 in
    (below-less low e.0 up, farther e.0 es up rest)
  where
    farther : (mid : List ℕ) (xs : List Entry) → is_below low mid ≡ true → AllMore mid xs → AllMore low xs
    farther mid [] up h = tt
    farther mid (x ∷ xs) up h = (below-less low x.0 (below-trans low mid x.0 up (less-below mid x.0 h.0)), farther mid xs up h.1)

-- and all are below the high one
bounds_less : (m : ℕ) (N : Nodes) (high : List ℕ) (low : List ℕ) (a : ℕ) (es : List Entry) → AreChildren (IsChild m N) (items m N) (Some high) ((low, a) ∷ map child_of es) → AllLess high es
bounds_less m N high low a [] h = tt
bounds_less m N high low a (e ∷ es) h =
    let c = number_at 4 e.1 0 in
    (below-greater e.0 high (first_below e.0 c es h.3), bounds_less m N high e.0 c es h.3)
  where
    first_below : (b : List ℕ) (c : ℕ) (es : List Entry) → AreChildren (IsChild m N) (items m N) (Some high) ((b, c) ∷ map child_of es) → is_below b high ≡ true
    first_below b c es h =
        strictly b high (items m N c) (tree_some m N c h.0.0 h.0.1)
        (zip b (next_low (Some high) (map child_of es)) (Some high) (items m N c) h.1 (lefts (λ (e : Entry). IsUnder (Some high) e.0) (items m N c) (over (items m N) (map child_of es)) (children_below (IsChild m N) (items m N) (Some high) ((b, c) ∷ map child_of es) h)))

within_append : (low : List ℕ) (high : Option (List ℕ)) (xs ys : List Entry) → IsWithin low high xs → IsWithin low high ys → IsWithin low high (xs ++ ys)
within_append low high [] ys a b = b
within_append low high (x ∷ xs) ys a b = (a.0, within_append low high xs ys a.1 b)

-- both children's entries lie between the first one's bound and the high one
pair_within : (l : ℕ) (N : Nodes) (high : Option (List ℕ)) (first second : Child) → AreChildren (IsChild l N) (items l N) high (first ∷ second ∷ []) → IsWithin first.0 high (items l N first.1) × IsWithin first.0 high (items l N second.1)
pair_within l N high first second h =
    let all : IsWithin first.0 high (items l N first.1 ++ (items l N second.1 ++ [])) =
    joined first.0 (items l N first.1 ++ (items l N second.1 ++ [])) (children_above (IsChild l N) (items l N) high first (second ∷ []) h) (children_below (IsChild l N) (items l N) high (first ∷ second ∷ []) h) in
    (within_left first.0 high (items l N first.1) (items l N second.1 ++ []) all, within_left first.0 high (items l N second.1) [] (within_right first.0 high (items l N first.1) (items l N second.1 ++ []) all))
  where
    joined : (low : List ℕ) (es : List Entry) → AllByRecursion (λ e. is_below e.0 low ≡ false) es → AllByRecursion (λ e. IsUnder high e.0) es → IsWithin low high es
    joined low [] a b = tt
    joined low (e ∷ es) a b = ((a.0, b.0), joined low es a.1 b.1)

-- ---- the page beside, after it has taken the child
module _ (m : ℕ) (old before mid : View) (P : Pages) (c b g : ℕ) (in_front : Bool) (bound : List ℕ) (put_is : Put) (other gone : Node)
    (given : dropped mid ≡ dropped before) (apart : c ≡ b → ⊥) (child_is : held_node (page_of before c) ≡ Some gone) (beside_is : held_node (page_of before b) ≡ Some other)
    (took : TookChild before mid (suc m) b other bound g in_front put_is) where
  taken_pages : (v : List ℕ) × (length v ≡ 4) × (number_at 4 v 0 ≡ entered in_front g other) × PutPages (with_page c [] before) (with_page c [] mid) P (suc m) b (taker in_front g other) bound v put_is
  taken_pages =
      let n' = taker in_front g other in
      let here = node_stored took.mid P b n' took.there in
      let p = put_pages took.mid mid P (suc m) b n' bound (entered in_front g other) put_is (node_held (page_of took.mid b) n' took.there) here took.puts in
      let held = node_held (page_of before c) gone child_is in (
        p.0,
        p.1,
        p.2,
        put_between took.mid mid (with_page c [] before) (with_page c [] mid) P (suc m) b n' bound p.0 put_is p.3 (stored-other mid P c b [] apart)
            (λ r f.
            let ne : r ≡ b → ⊥ = (λ e. apart_free took.mid P b r n' here f (sym e)) in
            let same : held_at before r ≡ held_at took.mid r = sym (took.alike r ne) in
            let away : c ≡ r → ⊥ = (λ e. apart_free before P c r gone (node_stored before P c gone child_is) (same ∙ f) e) in
            (held_other before c r [] away ∙ same ∙ f, stored-other mid P c r [] away))
            (λ x ne same. elim (cases_eq c x) [
              | inl e ↦ subst (λ y. stored (with_page c [] mid) P y ≡ stored (with_page c [] before) P y) e (stored-same mid P c [] (held_still before mid c given held) ∙ sym (stored-same before P c [] held))
              | inr away ↦ stored-other mid P c x [] away ∙ same ∙ stored_alike took.mid before P x (took.alike x ne) ∙ sym (stored-other before P c x [] away)
            ]),
      )

-- it has its node from before
beside_was : (m : ℕ) (old before : View) (P : Pages) (c b : ℕ) (other : Node) (pages : List ℕ) (start high : Option (List ℕ)) (now : List Child) (want : List Entry) → Shrinks old (with_page c [] before) m P pages start high now want
    → (c ≡ b → ⊥) → (Has b pages → ⊥) → (nodes (stored old P) b ≡ None → ⊥) → held_node (page_of before b) ≡ Some other → nodes (stored old P) b ≡ Some other
beside_was m old before P c b other pages start high now want s apart unmet was is =
    ap node_of (sym (s.became.keeps b unmet (λ f. was (free_node old P b (s.were_free b f))))) ∙ ap node_of (stored-other before P c b [] apart) ∙ node_stored before P b other is

-- ---- the first one takes the second one's last child
pub merged_behind : (m : ℕ) (old before mid : View) (P : Pages) (first second : Child) (high : Option (List ℕ)) (key : List ℕ) (g : ℕ) (put_is : Put) (other gone : Node)
    → AreChildren (IsChild (suc m) (nodes (stored old P))) (items (suc m) (nodes (stored old P))) high (first ∷ second ∷ []) → Apart (over (met (suc m) (nodes (stored old P))) (first ∷ second ∷ []))
    → dropped before ≡ dropped old → dropped mid ≡ dropped before → length second.0 ≤ 602
    → held_node (page_of before second.1) ≡ Some gone → held_node (page_of before first.1) ≡ Some other
    → Shrinks old (with_page second.1 [] before) m P (met (suc m) (nodes (stored old P)) second.1) (Some second.0) high ((second.0, g) ∷ []) (entries_without key (items (suc m) (nodes (stored old P)) second.1))
    → TookChild before mid (suc m) first.1 other second.0 g false put_is
    → Shrinks old (with_page second.1 [] mid) (suc m) P (over (met (suc m) (nodes (stored old P))) (first ∷ second ∷ [])) (Some first.0) high (children_after first.1 first.0 put_is)
    (items (suc m) (nodes (stored old P)) first.1 ++ entries_without key (items (suc m) (nodes (stored old P)) second.1))
merged_behind m old before mid P first second high key g put_is other gone order apart given given_mid short gone_is other_is s took =
    let N = nodes (stored old P) in
    let b = first.1 in
    let c = second.1 in
    let W = entries_without key (items (suc m) N c) in
    let split = both-apart (met (suc m) N b) (met (suc m) N c ++ []) apart in
    let away : c ≡ b → ⊥ = (λ e. split.each c (subst (λ y. Has y (met (suc m) N b)) (sym e) (own_met (suc m) N b)) (has_left c (met (suc m) N c) [] (own_met (suc m) N c))) in
    let was : N b ≡ None → ⊥ = met_node (suc m) N b b order.0.0 (own_met (suc m) N b) in
    let at : N b ≡ Some other = beside_was m old before P c b other (met (suc m) N c) (Some second.0) high ((second.0, g) ∷ []) W s away (λ h. split.each b (own_met (suc m) N b) (has_left b (met (suc m) N c) [] h)) was other_is in
    let inner : IsInner (suc m) (Some other) = subst (IsInner (suc m)) at order.0.0.0 in
    let kids : AreChildren (IsChild m N) (items m N) None (([], other.head.a) ∷ map child_of other.entries) = subst (λ o. AreChildren (IsChild m N) (items m N) None (children_of o)) at order.0.0.2 in
    let xs : List Child = (first.0, other.head.a) ∷ map child_of other.entries in
    let met_is : met (suc m) N b ≡ b ∷ over (met m N) xs = ap (λ o. b ∷ over (met m N) (children_of o)) at in
    let items_are : items (suc m) N b ≡ over (items m N) xs = ap (λ o. over (items m N) (children_of o)) at in
    let left : AreChildren (IsChild m N) (items m N) (Some second.0) xs = between m N first.0 (Some second.0) other.head.a (map child_of other.entries) kids (subst (IsWithin first.0 (Some second.0)) items_are order.1) in
    let olds : List ℕ = over (met m N) xs ++ (met (suc m) N c ++ []) in
    let all : over (met (suc m) N) (first ∷ second ∷ []) ≡ b ∷ olds = ap (λ ys. ys ++ (met (suc m) N c ++ [])) met_is in
    let apart' : Apart (b ∷ olds) = subst Apart all apart in
    let new : (x : ℕ) → Has x s.fresh → Has x olds → ⊥ =
    (λ x f h. elim (has_either x (over (met m N) xs) (met (suc m) N c ++ []) h) [
      | inl a ↦ met_node (suc m) N b x order.0.0 (subst (Has x) (sym met_is) (inr a)) (free_node old P x (s.were_free x f))
      | inr a ↦ elim (has_either x (met (suc m) N c) [] a) [ inl d ↦ met_node (suc m) N c x order.3.0.0 d (free_node old P x (s.were_free x f)) | inr z ↦ absurd z ]
    ]) in
    let spliced = splice m (stored old P) (stored (with_page c [] before) P) xs [] (met (suc m) N c) high (Some second.0) ((second.0, g) ∷ []) W s.fresh s.freed left tt apart'.1 new s.became in
    let wants : over (items m N) xs ++ (W ++ []) ≡ items (suc m) N b ++ W = (λ i. sym items_are i ++ append-nil W i) in
    let s' : Shrinks old (with_page c [] before) m P olds (Some first.0) high ((first.0, other.head.a) ∷ (map child_of other.entries ++ (second.0, g) ∷ [])) (items (suc m) N b ++ W) = record {
      fresh = s.fresh;
      freed = s.freed;
      were_free = s.were_free;
      are_gone = s.are_gone;
      became = subst (λ w. Became m (stored old P) (stored (with_page c [] before) P) olds (Some first.0) high ((first.0, other.head.a) ∷ (map child_of other.entries ++ (second.0, g) ∷ [])) w s.fresh s.freed) wants spliced;
    } in
    let p = taken_pages m old before mid P c b g false second.0 put_is other gone given_mid away gone_is other_is took in
    let behind : put key_cmp second.0 p.0 other.entries ≡ other.entries ++ (second.0, p.0) ∷ [] =
    ap (put key_cmp second.0 p.0) (sym (append-nil other.entries)) ∙ put_less second.0 p.0 other.entries [] (bounds_less m N second.0 first.0 other.head.a other.entries left) in
    let list : ([], other.head.a) ∷ map child_of (put key_cmp second.0 p.0 other.entries) ≡ ([], other.head.a) ∷ (map child_of other.entries ++ (second.0, g) ∷ []) =
    ap (λ es. ([], other.head.a) ∷ map child_of es) behind ∙ ap (λ ks. ([], other.head.a) ∷ ks) (map-append child_of other.entries ((second.0, p.0) ∷ [])) ∙ ap (λ n. ([], other.head.a) ∷ (map child_of other.entries ++ (second.0, n) ∷ [])) p.2 in
    let w = pair_within (suc m) N high first second order in
    put_page m old (with_page c [] before) (with_page c [] mid) P b first.0 high high (Some first.0) (first.0, other.head.a) (map child_of other.entries ++ (second.0, g) ∷ []) (items (suc m) N b ++ W) olds (over (met (suc m) N) (first ∷ second ∷ []))
    (λ x h. subst (Has x) (sym all) (inr h)) (λ x h. subst (Has x) all h) (subst (Has b) (sym all) (inl refl)) apart'.0 was
    (λ none. some_none other (sym (ap node_of (stored-other before P c b [] away) ∙ node_stored before P b other other_is) ∙ none)) (dropped-with_page before c [] ∙ given)
    s' (within_append first.0 high (items (suc m) N b) W w.0 (without_within key first.0 high (items (suc m) N c) w.1)) other second.0 p.0 inner (p.1, short) list put_is p.3

-- ---- the second one takes the first one's last child in front
pub merged_front : (m : ℕ) (old before mid : View) (P : Pages) (first second : Child) (high : Option (List ℕ)) (key : List ℕ) (g : ℕ) (put_is : Put) (other gone : Node)
    → AreChildren (IsChild (suc m) (nodes (stored old P))) (items (suc m) (nodes (stored old P))) high (first ∷ second ∷ []) → Apart (over (met (suc m) (nodes (stored old P))) (first ∷ second ∷ []))
    → dropped before ≡ dropped old → dropped mid ≡ dropped before → length second.0 ≤ 602
    → held_node (page_of before first.1) ≡ Some gone → held_node (page_of before second.1) ≡ Some other
    → Shrinks old (with_page first.1 [] before) m P (met (suc m) (nodes (stored old P)) first.1) (Some first.0) (Some second.0) ((first.0, g) ∷ []) (entries_without key (items (suc m) (nodes (stored old P)) first.1))
    → TookChild before mid (suc m) second.1 other second.0 g true put_is
    → Shrinks old (with_page first.1 [] mid) (suc m) P (over (met (suc m) (nodes (stored old P))) (first ∷ second ∷ [])) (Some first.0) high (children_after second.1 first.0 put_is)
    (entries_without key (items (suc m) (nodes (stored old P)) first.1) ++ items (suc m) (nodes (stored old P)) second.1)
merged_front m old before mid P first second high key g put_is other gone order apart given given_mid short gone_is other_is s took =
    let N = nodes (stored old P) in
    let b = second.1 in
    let c = first.1 in
    let W = entries_without key (items (suc m) N c) in
    let split = both-apart (met (suc m) N c) (met (suc m) N b ++ []) apart in
    let mine : Has b (met (suc m) N b ++ []) = has_left b (met (suc m) N b) [] (own_met (suc m) N b) in
    let away : c ≡ b → ⊥ = (λ e. split.each b (subst (λ y. Has y (met (suc m) N c)) e (own_met (suc m) N c)) mine) in
    let was : N b ≡ None → ⊥ = met_node (suc m) N b b order.3.0.0 (own_met (suc m) N b) in
    let at : N b ≡ Some other = beside_was m old before P c b other (met (suc m) N c) (Some first.0) (Some second.0) ((first.0, g) ∷ []) W s away (λ h. split.each b h mine) was other_is in
    let inner : IsInner (suc m) (Some other) = subst (IsInner (suc m)) at order.3.0.0.0 in
    let kids : AreChildren (IsChild m N) (items m N) None (([], other.head.a) ∷ map child_of other.entries) = subst (λ o. AreChildren (IsChild m N) (items m N) None (children_of o)) at order.3.0.0.2 in
    let ys : List Child = (second.0, other.head.a) ∷ map child_of other.entries in
    let met_is : met (suc m) N b ≡ b ∷ over (met m N) ys = ap (λ o. b ∷ over (met m N) (children_of o)) at in
    let items_are : items (suc m) N b ≡ over (items m N) ys = ap (λ o. over (items m N) (children_of o)) at in
    let right : AreChildren (IsChild m N) (items m N) high ys = between m N second.0 high other.head.a (map child_of other.entries) kids (subst (IsWithin second.0 high) items_are order.3.1) in
    let olds : List ℕ = met (suc m) N c ++ over (met m N) ys in
    let below : Apart (b ∷ over (met m N) ys) = subst Apart (append-nil (met (suc m) N b) ∙ met_is) split.second in
    let into : (x : ℕ) → Has x (over (met m N) ys) → Has x (met (suc m) N b ++ []) = (λ x h. has_left x (met (suc m) N b) [] (subst (Has x) (sym met_is) (inr h))) in
    let apart' : Apart olds = apart-both (met (suc m) N c) (over (met m N) ys) (record { first = split.first; second = below.1; each = λ x h k. split.each x h (into x k) }) in
    let new : (x : ℕ) → Has x s.fresh → Has x olds → ⊥ =
    (λ x f h. elim (has_either x (met (suc m) N c) (over (met m N) ys) h) [
      | inl a ↦ met_node (suc m) N c x order.0.0 a (free_node old P x (s.were_free x f))
      | inr a ↦ met_node (suc m) N b x order.3.0.0 (subst (Has x) (sym met_is) (inr a)) (free_node old P x (s.were_free x f))
    ]) in
    let spliced = splice m (stored old P) (stored (with_page c [] before) P) [] ys (met (suc m) N c) high (Some first.0) ((first.0, g) ∷ []) W s.fresh s.freed tt right apart' new s.became in
    let wants : W ++ over (items m N) ys ≡ W ++ items (suc m) N b = ap (λ es. W ++ es) (sym items_are) in
    let s' : Shrinks old (with_page c [] before) m P olds (Some first.0) high ((first.0, g) ∷ ys) (W ++ items (suc m) N b) = record {
      fresh = s.fresh;
      freed = s.freed;
      were_free = s.were_free;
      are_gone = s.are_gone;
      became = subst (λ w. Became m (stored old P) (stored (with_page c [] before) P) olds (Some first.0) high ((first.0, g) ∷ ys) w s.fresh s.freed) wants spliced;
    } in
    let p = taken_pages m old before mid P c b g true second.0 put_is other gone given_mid away gone_is other_is took in
    let front : put key_cmp second.0 p.0 other.entries ≡ (second.0, p.0) ∷ other.entries = put_more second.0 p.0 [] other.entries (bounds_more m N high second.0 other.head.a other.entries right) in
    let list : ([], g) ∷ map child_of (put key_cmp second.0 p.0 other.entries) ≡ ([], g) ∷ ys =
    ap (λ es. ([], g) ∷ map child_of es) front ∙ ap (λ n. ([], g) ∷ (second.0, n) ∷ map child_of other.entries) p.2 in
    let w = pair_within (suc m) N high first second order in
    put_page m old (with_page c [] before) (with_page c [] mid) P b first.0 high high (Some first.0) (first.0, g) ys (W ++ items (suc m) N b) olds (over (met (suc m) N) (first ∷ second ∷ []))
    (λ x h. elim (has_either x (met (suc m) N c) (over (met m N) ys) h) [ inl a ↦ has_left x (met (suc m) N c) (met (suc m) N b ++ []) a | inr a ↦ has_right x (met (suc m) N c) (met (suc m) N b ++ []) (into x a) ])
    (λ x h. elim (has_either x (met (suc m) N c) (met (suc m) N b ++ []) h) [
      | inl a ↦ inr (has_left x (met (suc m) N c) (over (met m N) ys) a)
      | inr a ↦ elim (subst (Has x) (append-nil (met (suc m) N b) ∙ met_is) a) [ inl e ↦ inl e | inr d ↦ inr (has_right x (met (suc m) N c) (over (met m N) ys) d) ]
    ])
    (has_right b (met (suc m) N c) (met (suc m) N b ++ []) mine) (λ h. elim (has_either b (met (suc m) N c) (over (met m N) ys) h) [ inl a ↦ split.each b a mine | inr a ↦ below.0 a ]) was
    (λ none. some_none other (sym (ap node_of (stored-other before P c b [] away) ∙ node_stored before P b other other_is) ∙ none)) (dropped-with_page before c [] ∙ given)
    s' (within_append first.0 high W (items (suc m) N b) (without_within key first.0 high (items (suc m) N c) w.0) w.1) (taker true g other) second.0 p.0 (inner.0, inner.1, inner.2) (p.1, short) list put_is p.3
