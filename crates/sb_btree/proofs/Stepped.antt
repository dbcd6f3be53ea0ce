-- A removal above a child, for all pages in which the key's place is in the tree.
use Rattle.std.proofs.Common.{◌≡◌, ℕ, zero, suc, ◌<◌, false, List, [], Option, Some, None, IsSome, refl, ap, sym, ◌∙◌, subst, inl, inr, arith, true≢false}
use Rattle.std.specs.Prelude.{Result, Ok, Err}
use Rattle.sb_forms.specs.Pages.{Pages}
use Rattle.sb_ctx.specs.View.{View, page_of, with_page, dropped, stored}
use Rattle.sb_ctx.proofs.ViewLaws.{page_of-other, stored-other}
use Rattle.sb_node.specs.declared.head.Head.{Head}
use Rattle.sb_node.specs.Page.{Node, node_in, node_of}
use Rattle.sb_node.proofs.Edited.{node_of-form}
use Rattle.sb_btree.specs.Broken.{held_node, is_page}
use Rattle.sb_btree.specs.Held.{IsTreePage, nth_child, passed}
use Rattle.sb_forms.specs.Read.{all_by, is_bound}
use Rattle.sb_forms.specs.Tree.{nodes, met, next_low, Has}
use Rattle.sb_btree.specs.Became.{IsPlace}
use Rattle.sb_btree.specs.Inserts.{OverPlaces}
use Rattle.sb_btree.specs.Removes.{TakesAt, TakesEntry, DropsChild, RaisesChild, MergedChild, MergesChild, page_beside}
use Rattle.sb_btree.specs.declared.removal.Taken.{Taken}
use Rattle.sb_btree.specs.declared.removal.Taken.TheVariants.{Lacks as Absent, Done, Empty, Single, Split}
use Rattle.sb_btree.specs.declared.walk.Stop.{Stop}
use Rattle.sb_btree.specs.declared.walk.Stop.TheVariants as stop
use Rattle.sb_btree.proofs.Descending.{tree_page, entries_lead, shown}
use Rattle.sb_btree.proofs.Halved.{held_some, free_node}
use Rattle.sb_btree.proofs.Roots.{stored_shows}
use Rattle.sb_btree.proofs.Shrinking.{own_met}
use Rattle.sb_btree.proofs.Frames.{met_node}
use Rattle.sb_btree.proofs.Taking.{PlacedAt, kid_place}
use Rattle.sb_btree.proofs.Takes.{at_kid, not_amiss, leaf_takes, IsStill, same_takes, empty_takes, split_takes}
use Rattle.sb_btree.proofs.Merged.{beside_so, merge_takes}
use Rattle.sb_btree.proofs.Walked.{held_is}

pub entries_take : (old : View) (l m page : ℕ) (key bytes : List ℕ) (head : Head) (s : Stop) → l ≡ suc m → IsTreePage (page_of old page) l bytes head → all_by is_bound (node_in bytes).entries ≡ false
    → OverPlaces old l page key (λ P low high. TakesAt old old l page key P low high (Err s))
entries_take old l m page key bytes head s down is none P low high place = absurd (entries_lead l m old page bytes head down is none (nodes (stored old P)) (stored_shows old P) place.tree)

-- at a leaf
pub leaf_over : (old new : View) (l page : ℕ) (key bytes : List ℕ) (head : Head) (outcome : Result Taken Stop) → l ≡ 0 → IsTreePage (page_of old page) l bytes head
    → TakesEntry old new page (held_node (page_of old page)) key outcome → OverPlaces old l page key (λ P low high. TakesAt old new l page key P low high outcome)
leaf_over old new l page key bytes head outcome none is takes =
    subst (λ k. OverPlaces old k page key (λ P low high. TakesAt old new k page key P low high outcome)) (sym none)
    (λ P low high place.
    leaf_takes old new P page key low high (node_in bytes) outcome (shown old (nodes (stored old P)) page l bytes head (stored_shows old P) is) (held_some old page bytes is.held_is) place
    (subst (λ o. TakesEntry old new page o key outcome) (held_is old l page bytes head is) takes))

-- ---- above a child
pub still : (taken : Taken) → (taken ≡ Empty → ⊥) → ((g : ℕ) → taken ≡ Single g → ⊥) → ((bound : List ℕ) (r : ℕ) → taken ≡ Split bound r → ⊥) → IsStill (Ok taken)
still Absent a b c = tt
still Done a b c = tt
still Empty a b c = absurd (a refl)
still (Single g) a b c = absurd (b g refl)
still (Split bound r) a b c = absurd (c bound r refl)

module _ (m : ℕ) (old : View) (page child i : ℕ) (key bytes : List ℕ) (head : Head) (is : IsTreePage (page_of old page) (suc m) bytes head) (at : child ≡ nth_child head.a (node_in bytes).entries i) (count : i ≡ passed (Some key) (node_in bytes).entries)
    (P : Pages) (low : List ℕ) (high : Option (List ℕ)) (place : IsPlace (suc m) (stored old P) page low high key) where
  here : nodes (stored old P) page ≡ Some (node_in bytes)
  here = shown old (nodes (stored old P)) page (suc m) bytes head (stored_shows old P) is

  abbrev kid : PlacedAt key ([], (node_in bytes).head.a) (node_in bytes).entries (passed (Some key) (node_in bytes).entries)
  kid = at_kid m old P page key low high (node_in bytes) here place

  child_is : child ≡ kid.kid.1
  child_is = at ∙ (λ t. nth_child (is.head_is t).a (node_in bytes).entries (count t)) ∙ sym kid.is

  below : IsPlace m (stored old P) child kid.kid.0 (next_low None kid.after) key
  below = subst (λ c. IsPlace m (stored old P) c kid.kid.0 (next_low None kid.after) key) (sym child_is) (kid_place m old P page key low high (node_in bytes) here place)

  taken_at : (mid : View) (outcome : Result Taken Stop) → OverPlaces old m child key (λ P low high. TakesAt old mid m child key P low high outcome) → TakesAt old mid m kid.kid.1 key P kid.kid.0 (next_low None kid.after) outcome
  taken_at mid outcome over = subst (λ c. TakesAt old mid m c key P kid.kid.0 (next_low None kid.after) outcome) child_is (over P kid.kid.0 (next_low None kid.after) below)

  same_at : (new : View) (outcome : Result Taken Stop) → IsStill outcome → OverPlaces old m child key (λ P low high. TakesAt old new m child key P low high outcome) → TakesAt old new (suc m) page key P low high outcome
  same_at new outcome still over = same_takes m old P page key low high (node_in bytes) here place new outcome still (taken_at new outcome over)

  empty_at : (mid new : View) (outcome : Result Taken Stop) → IsSome (page_of (with_page child [] mid) page) → OverPlaces old m child key (λ P low high. TakesAt old mid m child key P low high (Ok Empty))
      → DropsChild (with_page child [] mid) new page (Some (node_in bytes)) i outcome → TakesAt old new (suc m) page key P low high outcome
  empty_at mid new outcome held over drops =
      empty_takes m old P page key low high (node_in bytes) here place mid new outcome (subst (λ c. IsSome (page_of (with_page c [] mid) page)) child_is held) (taken_at mid (Ok Empty) over)
      (subst (λ c. DropsChild (with_page c [] mid) new page (Some (node_in bytes)) (passed (Some key) (node_in bytes).entries) outcome) child_is (subst (λ j. DropsChild (with_page child [] mid) new page (Some (node_in bytes)) j outcome) count drops))

  split_at : (mid new : View) (bound : List ℕ) (r : ℕ) (outcome : Result Taken Stop) → dropped mid ≡ dropped old → IsSome (page_of mid page) → OverPlaces old m child key (λ P low high. TakesAt old mid m child key P low high (Ok (Split bound r)))
      → RaisesChild mid new (suc m) page (Some (node_in bytes)) bound r outcome → TakesAt old new (suc m) page key P low high outcome
  split_at mid new bound r outcome given held over raises =
      split_takes m old P page key low high (node_in bytes) here place mid new bound r outcome given held (taken_at mid (Ok (Split bound r)) over) raises

-- a held page has the node that the tree has
pub held_nodes : (c : View) (P : Pages) (x : ℕ) → IsSome (page_of c x) → held_node (page_of c x) ≡ nodes (stored c P) x
held_nodes c P x held = by (page_of c x) refl held
  where
    by : (o : Option (List ℕ)) → page_of c x ≡ o → IsSome o → held_node o ≡ nodes (stored c P) x
    by None there held = absurd (true≢false (sym held))
    by (Some bytes) there held = sym (stored_shows c P x bytes there)

module _ (m : ℕ) (old : View) (page child i : ℕ) (key bytes : List ℕ) (head : Head) (is : IsTreePage (page_of old page) (suc (suc m)) bytes head) (at : child ≡ nth_child head.a (node_in bytes).entries i) (count : i ≡ passed (Some key) (node_in bytes).entries)
    (P : Pages) (low : List ℕ) (high : Option (List ℕ)) (place : IsPlace (suc (suc m)) (stored old P) page low high key) where
  merge_at : (mid new : View) (left : ℕ) (gone : Node) (outcome : Result Taken Stop) → dropped mid ≡ dropped old → OverPlaces old (suc m) child key (λ P low high. TakesAt old mid (suc m) child key P low high (Ok (Single left)))
      → held_node (page_of mid child) ≡ Some gone → held_node (page_of mid page) ≡ Some (node_in bytes) → MergesChild mid new (suc (suc m)) page (Some (node_in bytes)) i child left outcome → TakesAt old new (suc (suc m)) page key P low high outcome
  merge_at mid new left gone outcome given over gone_is page_is merges = by outcome merges
    where
      n : Node
      n = node_in bytes

      there : nodes (stored old P) page ≡ Some (node_in bytes)
      there = here (suc m) old page child i key bytes head is at count P low high place

      to : child ≡ (at_kid (suc m) old P page key low high (node_in bytes) there place).kid.1
      to = child_is (suc m) old page child i key bytes head is at count P low high place

      taken_is : TakesAt old mid (suc m) (at_kid (suc m) old P page key low high (node_in bytes) there place).kid.1 key P (at_kid (suc m) old P page key low high (node_in bytes) there place).kid.0
          (next_low None (at_kid (suc m) old P page key low high (node_in bytes) there place).after) (Ok (Single left))
      taken_is = taken_at (suc m) old page child i key bytes head is at count P low high place mid (Ok (Single left)) over

      beside_whole : (x : ℕ) → x ≡ page_beside i (node_in bytes) → IsSome (page_of mid x) → is_page (suc m) (held_node (page_of mid x)) ≡ false → ⊥
      beside_whole x e held wrong =
          let b = page_beside (passed (Some key) (node_in bytes).entries) (node_in bytes) in
          let x_is : x ≡ b = e ∙ ap (λ j. page_beside j (node_in bytes)) count in
          let c = (at_kid (suc m) old P page key low high (node_in bytes) there place).kid.1 in
          let so = beside_so m old P page key low high (node_in bytes) there place in
          let away : c ≡ b → ⊥ = (λ q. so.unmet (subst (λ y. Has y (met (suc m) (nodes (stored old P)) c)) q (own_met (suc m) (nodes (stored old P)) c))) in
          let s = taken_is.1.1 in
          let same : stored mid P b ≡ stored old P b =
          sym (stored-other mid P c b [] away) ∙ s.became.keeps b so.unmet (λ f. met_node (suc m) (nodes (stored old P)) b b so.tree (own_met (suc m) (nodes (stored old P)) b) (free_node old P b (s.were_free b f))) in
          let node : held_node (page_of mid x) ≡ nodes (stored old P) b = held_nodes mid P x held ∙ ap (nodes (stored mid P)) x_is ∙ ap node_of same in
          true≢false (sym (tree_page (suc m) (nodes (stored old P)) b so.tree) ∙ ap (is_page (suc m)) (sym node) ∙ wrong)

      by : (outcome : Result Taken Stop) → MergesChild mid new (suc (suc m)) page (Some (node_in bytes)) i child left outcome → TakesAt old new (suc (suc m)) page key P low high outcome
      by (Ok taken) h =
          merge_takes m old P page key low high (node_in bytes) there place mid new left gone taken given taken_is (subst (λ c. held_node (page_of mid c) ≡ Some gone) to gone_is) page_is
          (subst (λ c. MergedChild mid new (suc m) page (node_in bytes) (passed (Some key) (node_in bytes).entries) c left taken) to (subst (λ j. MergedChild mid new (suc m) page (node_in bytes) j child left taken) count h))
      by (Err (stop.Need x)) h = tt
      by (Err stop.Fresh) h = tt
      by (Err (stop.Broken x)) (inl h) = not_amiss (suc m) (stored old P) page (node_in bytes) there place.tree h.1
      by (Err (stop.Broken x)) (inr h) = beside_whole x h.0 h.1 h.2
      by (Err stop.NoMemory) h = tt

-- ---- a page of a level above 0
module _ (old : View) (l m page child i : ℕ) (key bytes : List ℕ) (head : Head) (down : l ≡ suc m) (is : IsTreePage (page_of old page) l bytes head) (at : child ≡ nth_child head.a (node_in bytes).entries i) (count : i ≡ passed (Some key) (node_in bytes).entries) where
  is_suc : IsTreePage (page_of old page) (suc m) bytes head
  is_suc = subst (λ k. IsTreePage (page_of old page) k bytes head) down is

  over : (new : View) (outcome : Result Taken Stop) → OverPlaces old (suc m) page key (λ P low high. TakesAt old new (suc m) page key P low high outcome) → OverPlaces old l page key (λ P low high. TakesAt old new l page key P low high outcome)
  over new outcome h = subst (λ k. OverPlaces old k page key (λ P low high. TakesAt old new k page key P low high outcome)) (sym down) h

  pub same_over : (new : View) (outcome : Result Taken Stop) → IsStill outcome → OverPlaces old m child key (λ P low high. TakesAt old new m child key P low high outcome) → OverPlaces old l page key (λ P low high. TakesAt old new l page key P low high outcome)
  same_over new outcome still below = over new outcome (λ P low high place. same_at m old page child i key bytes head is_suc at count P low high place new outcome still below)

  pub empty_over : (mid new : View) (outcome : Result Taken Stop) → page_of mid page ≡ page_of old page → (child ≡ page → ⊥) → OverPlaces old m child key (λ P low high. TakesAt old mid m child key P low high (Ok Empty))
      → DropsChild (with_page child [] mid) new page (held_node (page_of (with_page child [] mid) page)) i outcome → OverPlaces old l page key (λ P low high. TakesAt old new l page key P low high outcome)
  empty_over mid new outcome still apart below drops =
      let there = page_of-other mid child page [] apart ∙ still in
      over new outcome (λ P low high place.
      empty_at m old page child i key bytes head is_suc at count P low high place mid new outcome (held_some (with_page child [] mid) page bytes (there ∙ is.held_is)) below
      (subst (λ o. DropsChild (with_page child [] mid) new page o i outcome) (ap held_node there ∙ held_is old l page bytes head is) drops))

  pub split_over : (mid new : View) (bound : List ℕ) (r : ℕ) (outcome : Result Taken Stop) → dropped mid ≡ dropped old → page_of mid page ≡ page_of old page → OverPlaces old m child key (λ P low high. TakesAt old mid m child key P low high (Ok (Split bound r)))
      → RaisesChild mid new l page (held_node (page_of mid page)) bound r outcome → OverPlaces old l page key (λ P low high. TakesAt old new l page key P low high outcome)
  split_over mid new bound r outcome given still below raises =
      over new outcome (λ P low high place.
      split_at m old page child i key bytes head is_suc at count P low high place mid new bound r outcome given (held_some mid page bytes (still ∙ is.held_is)) below
      (subst (λ o. RaisesChild mid new (suc m) page o bound r outcome) (ap held_node still ∙ held_is old l page bytes head is) (subst (λ k. RaisesChild mid new k page (held_node (page_of mid page)) bound r outcome) down raises)))

  pub merge_over : (mid new : View) (left : ℕ) (gone : Node) (outcome : Result Taken Stop) → 0 < m → dropped mid ≡ dropped old → page_of mid page ≡ page_of old page → OverPlaces old m child key (λ P low high. TakesAt old mid m child key P low high (Ok (Single left)))
      → held_node (page_of mid child) ≡ Some gone → MergesChild mid new l page (held_node (page_of mid page)) i child left outcome → OverPlaces old l page key (λ P low high. TakesAt old new l page key P low high outcome)
  merge_over mid new left gone outcome inner given still below gone_is merges =
      let there = ap held_node still ∙ held_is old l page bytes head is in
      over new outcome (by m inner is_suc below (subst (λ o. MergesChild mid new (suc m) page o i child left outcome) there (subst (λ k. MergesChild mid new k page (held_node (page_of mid page)) i child left outcome) down merges)))
    where
      by : (k : ℕ) → 0 < k → IsTreePage (page_of old page) (suc k) bytes head → OverPlaces old k child key (λ P low high. TakesAt old mid k child key P low high (Ok (Single left)))
          → MergesChild mid new (suc k) page (Some (node_in bytes)) i child left outcome → OverPlaces old (suc k) page key (λ P low high. TakesAt old new (suc k) page key P low high outcome)
      by zero inner is below merges = absurd (omega (arith, inner))
      by (suc k) inner is below merges = λ P low high place.
          merge_at k old page child i key bytes head is at count P low high place mid new left gone outcome given below gone_is (ap held_node still ∙ ap held_node is.held_is ∙ node_of-form bytes is.form) merges
