-- A removal below the root, as the pages are held: what stays, what may be called broken or asked for.
use Rattle.std.proofs.Common.{◌≡◌, ℕ, suc, ◌-◌, ◌<◌, ◌≤◌, Bool, true, false, cond, not, ◌&&◌, List, [], length, Option, Some, None, IsSome, refl, ap, sym, ◌∙◌, subst, inl, inr, arith, true≢false}
use Rattle.std.specs.Prelude.{◌||◌, nat_eq, Result, Ok, Err, IfOk}
use Rattle.std.proofs.lemmas.Bool.{and_parts, or_left, or_right, eq-eqb}
use Rattle.std.proofs.lemmas.Option.{same_Some}
use Rattle.std.proofs.lemmas.List.{nil_from_length}
use Rattle.sb_ctx.specs.View.{View, page_of, with_page, dropped}
use Rattle.sb_ctx.proofs.ViewLaws.{page_of-same, page_of-other}
use Rattle.sb_forms.specs.Pages.{zeros}
use Rattle.sb_node.specs.declared.head.Head.{Head}
use Rattle.sb_node.specs.Entries.{without}
use Rattle.sb_node.specs.Page.{Node, has_form, node_in}
use Rattle.sb_node.proofs.Edited.{node_of-form}
use Rattle.sb_btree.specs.Broken.{held_node, is_of_level, is_page, is_narrow, is_amiss, breaks_below}
use Rattle.sb_btree.specs.Held.{IsTreePage, nth_child, passed}
use Rattle.sb_forms.specs.Read.{all_by, is_small, is_bound, has}
use Rattle.sb_forms.specs.Tree.{entries_of, IsTree, child_in}
use Rattle.sb_btree.specs.Inserts.{IsFree, MayAsk, is_tree_page}
use Rattle.sb_btree.specs.Removes.{KeepsAbove, LeavesPage, TakesEntry, DropsChild, RaisesChild, MergesChild, EndsBeside, IsAmiss, without_child, page_beside, place_beside, beside_in, removal_way}
use Rattle.sb_btree.specs.Walks.{Breaks, Needs, OverNodes, as_walk}
use Rattle.sb_btree.specs.declared.insertion.Put.{Put}
use Rattle.sb_btree.specs.declared.insertion.Put.TheVariants as put
use Rattle.sb_btree.specs.declared.removal.Taken.{Taken}
use Rattle.sb_btree.specs.declared.removal.Taken.TheVariants.{Lacks, Done, Empty, Single, Split}
use Rattle.sb_btree.specs.declared.walk.Stop.{Stop}
use Rattle.sb_btree.specs.declared.walk.Stop.TheVariants as stop
use Rattle.sb_btree.specs.declared.walk.Walk.{Walk}
use Rattle.sb_btree.specs.declared.walk.Walk.TheVariants as walk
use Rattle.sb_btree.proofs.Descending.{not_zero, spelled_not, breaks_here, breaks_step, shown, find_step}
use Rattle.sb_btree.proofs.Edits.{held_still, level_of_head}
use Rattle.sb_btree.proofs.Walked.{held_is, level_here}
use Rattle.sb_btree.proofs.Dropping.{beside_is}
use Rattle.sb_btree.proofs.Without.{length-without}
use Rattle.sb_btree.proofs.Giving.{HasNode, node_some, free_bare, wrote_node, put_others}
use Rattle.sb_btree.proofs.Merging.{node_held}
use Rattle.sb_btree.proofs.Passing.{child_passed}
use Rattle.sb_btree.proofs.Joining.{NodeAt, node_at, levels_apart, gave_keeps, wrote_dropped}

-- ---- a page that is called broken
amiss_page : (m : ℕ) (held : Option (List ℕ)) (bytes : List ℕ) → held ≡ Some bytes → has_form bytes ≡ true → is_page (suc m) (Some (node_in bytes)) ≡ false → is_amiss (suc m) held ≡ true
amiss_page m held bytes at form wrong =
    ap (is_amiss (suc m)) at ∙ ap (λ o. not (is_page (suc m) o) || is_narrow (suc m) o) (node_of-form bytes form) ∙ ap (λ b. not b || is_narrow (suc m) (Some (node_in bytes))) wrong

amiss_here : (m : ℕ) (held : Option (List ℕ)) (bytes : List ℕ) → held ≡ Some bytes → has_form bytes ≡ true → IsAmiss (node_in bytes) → is_amiss (suc m) held ≡ true
amiss_here m held bytes at form (inl wrong) = amiss_page m held bytes at form (spelled_not m (is_of_level (suc m) (node_in bytes).head) (node_in bytes).entries wrong)
amiss_here m held bytes at form (inr none) =
    ap (is_amiss (suc m)) at ∙ ap (λ o. not (is_page (suc m) o) || is_narrow (suc m) o) (node_of-form bytes form)
    ∙ or_right (not (is_page (suc m) (Some (node_in bytes)))) (is_narrow (suc m) (Some (node_in bytes))) (λ t. not (not_zero m t) && nat_eq (length (none t)) 0)

-- a page that isn't one of this level now, though one of this level would have stayed, wasn't one before
pub was_amiss : (m : ℕ) (was now : Option (List ℕ)) → IsSome was → ((bytes : List ℕ) → was ≡ Some bytes → has_form bytes ≡ true → is_of_level m (node_in bytes).head ≡ true → now ≡ was) → is_page m (held_node now) ≡ false → is_amiss m was ≡ true
was_amiss m None now some stays wrong = absurd (true≢false (sym some))
was_amiss m (Some bytes) now some stays wrong = by (has_form bytes) refl
  where
    fails : (o : Option Node) → is_page m o ≡ false → not (is_page m o) || is_narrow m o ≡ true
    fails o e = ap (λ b. not b || is_narrow m o) e

    leveled : (l : ℕ) (n : Node) → is_page l (Some n) ≡ true → is_of_level l n.head ≡ true
    leveled l n e = (and_parts _ _ e).0

    by : (b : Bool) → has_form bytes ≡ b → not (is_page m (cond b (Some (node_in bytes)) None)) || is_narrow m (cond b (Some (node_in bytes)) None) ≡ true
    by false form = refl
    by true form =
        elim (is_page m (Some (node_in bytes))) as (λ t. is_page m (Some (node_in bytes)) ≡ t → not (is_page m (Some (node_in bytes))) || is_narrow m (Some (node_in bytes)) ≡ true) [
          | true ↦ λ is. absurd (true≢false (sym is ∙ ap (is_page m) (sym (node_of-form bytes form)) ∙ ap (λ o. is_page m (held_node o)) (sym (stays bytes refl form (leveled m (node_in bytes) is))) ∙ wrong))
          | false ↦ λ is. fails (Some (node_in bytes)) is
        ] refl

-- ---- at a leaf
pub leaf_keeps : (old new : View) (l page : ℕ) (key bytes : List ℕ) (head : Head) (outcome : Result Taken Stop) → IsTreePage (page_of old page) l bytes head → TakesEntry old new page (held_node (page_of old page)) key outcome → IfOk outcome (λ taken. KeepsAbove old new l page)
leaf_keeps old new l page key bytes head outcome is takes = by outcome (subst (λ o. TakesEntry old new page o key outcome) (held_is old l page bytes head is) takes)
  where
    other : (n : ℕ) (b : List ℕ) → page_of old n ≡ Some b → (n ≡ page → l < (node_in b).head.level) → page ≡ n → ⊥
    other n b at up e =
        let same : bytes ≡ b = same_Some bytes b (sym is.held_is ∙ ap (page_of old) e ∙ at) in
        let height = level_of_head l (node_in bytes).head (level_here old l page bytes head is) in
        let h = ap (λ (x : List ℕ). (node_in x).head.level) same in
        let more = up (sym e) in
        omega (arith, height, h, more)

    by : (outcome : Result Taken Stop) → TakesEntry old new page (Some (node_in bytes)) key outcome → IfOk outcome (λ taken. KeepsAbove old new l page)
    by (Ok Lacks) h = λ n b at form low up. ap (λ (c : View). page_of c n) h.1
    by (Ok Done) h = λ n b at form low up. ap (λ (c : View). page_of c n) h.2.changed ∙ page_of-other old page n h.2.bytes (other n b at up)
    by (Ok Empty) h = λ n b at form low up. ap (λ (c : View). page_of c n) h.2
    by (Ok (Single g)) h = absurd h
    by (Ok (Split bound next)) h = absurd h
    by (Err s) h = tt

-- ---- a page that lost a child, or got one
pub dropped_leaves : (old new : View) (l page : ℕ) (n : Node) (i : ℕ) (taken : Taken) → 0 < l → is_of_level l n.head ≡ true → IsSome (page_of old page) → i ≤ length n.entries → DropsChild old new page (Some n) i (Ok taken) → LeavesPage new l page taken
dropped_leaves old new l page n i Lacks some like held low d = tt
dropped_leaves old new l page n i Done some like held low d = tt
dropped_leaves old new l page n i Empty some like held low d = absurd d
dropped_leaves old new l page n i (Single g) some like held low d =
    let less : i - 1 < length n.entries = omega (arith, low, d.0) in
    (some, without_child i n, wrote_node old new page (without_child i n) held d.2, like, nil_from_length (without (i - 1) n.entries) (omega (arith, length-without (i - 1) n.entries less, d.0)))
dropped_leaves old new l page n i (Split bound r) some like held low d = absurd d

pub raised_leaves : (old new : View) (l page : ℕ) (n : Node) (bound : List ℕ) (r : ℕ) (taken : Taken) → is_of_level l n.head ≡ true → held_node (page_of old page) ≡ Some n → RaisesChild old new l page (Some n) bound r (Ok taken) → LeavesPage new l page taken
raised_leaves old new l page n bound r Lacks like at h = tt
raised_leaves old new l page n bound r Done like at h = tt
raised_leaves old new l page n bound r Empty like at h = absurd h
raised_leaves old new l page n bound r (Single g) like at h = absurd h
raised_leaves old new l page n bound r (Split top q) like at h =
    let t = h.3.2 in
    let away : q ≡ page → ⊥ = (λ e. free_bare old page (subst (λ y. IsFree old y) e t.free) (node_some (held_node (page_of old page)) n at)) in
    let held : IsSome (page_of (with_page q zeros old) page) = subst (λ (o : Option (List ℕ)). IsSome o) (sym (page_of-other old q page zeros away)) (node_held (page_of old page) n at) in
    let left : page_of new page ≡ Some t.left =
    ap (λ (c : View). page_of c page) t.changed ∙ page_of-other (with_page page t.left (with_page q zeros old)) q page t.right away ∙ page_of-same (with_page q zeros old) page t.left held in
    (ap (λ o. is_tree_page l (held_node o)) left ∙ ap (is_tree_page l) t.left_is ∙ like, h.3.1)

pub raised_others : (old new : View) (l page : ℕ) (n : Node) (bound : List ℕ) (r : ℕ) (taken : Taken) → RaisesChild old new l page (Some n) bound r (Ok taken) → (x : ℕ) → HasNode old x → (x ≡ page → ⊥) → page_of new x ≡ page_of old x
raised_others old new l page n bound r Lacks h x has ne = absurd h
raised_others old new l page n bound r Done h x has ne = put_others old new l page n bound r put.Done h x has ne
raised_others old new l page n bound r Empty h x has ne = absurd h
raised_others old new l page n bound r (Single g) h x has ne = absurd h
raised_others old new l page n bound r (Split top q) h x has ne = put_others old new l page n bound r (put.Split top q) h x has ne

-- ---- above a child
pub none_still : (old new : View) (x : ℕ) → dropped new ≡ dropped old → page_of old x ≡ None → page_of new x ≡ None
none_still old new x given none = by (page_of new x) refl
  where
    by : (o : Option (List ℕ)) → page_of new x ≡ o → o ≡ None
    by None is = refl
    by (Some b) is = absurd (true≢false (sym (subst (λ (o : Option (List ℕ)). IsSome o) none (held_still new old x (sym given) (subst (λ (o : Option (List ℕ)). IsSome o) (sym is) refl)))))

module _ (old mid : View) (l m page child : ℕ) (bytes : List ℕ) (head : Head) (down : l ≡ suc m) (is : IsTreePage (page_of old page) l bytes head) (given : dropped mid ≡ dropped old) (higher : KeepsAbove old mid m child) where
  height : (node_in bytes).head.level ≡ suc m
  height = level_of_head l (node_in bytes).head (level_here old l page bytes head is) ∙ down

  -- the page keeps its bytes
  pub page_still : page_of mid page ≡ page_of old page
  page_still = higher page bytes is.held_is is.form (omega (arith, height)) (λ e. omega (arith, height))

  pub still_node : held_node (page_of mid page) ≡ Some (node_in bytes)
  still_node = ap held_node page_still ∙ held_is old l page bytes head is

  -- no other page of its level is the page
  not_page : (n : ℕ) (b : List ℕ) → page_of old n ≡ Some b → (n ≡ page → l < (node_in b).head.level) → n ≡ page → ⊥
  not_page n b at up e =
      let same : bytes ≡ b = same_Some bytes b (sym is.held_is ∙ ap (page_of old) (sym e) ∙ at) in
      let h = ap (λ (x : List ℕ). (node_in x).head.level) same in
      let more = up e in
      omega (arith, height, h, more, down)

  kept : (n : ℕ) (b : List ℕ) → page_of old n ≡ Some b → has_form b ≡ true → l ≤ (node_in b).head.level → page_of mid n ≡ page_of old n
  kept n b at form low = higher n b at form (omega (arith, low, down)) (λ e. omega (arith, low, down))

  kept_node : (n : ℕ) (b : List ℕ) → page_of old n ≡ Some b → has_form b ≡ true → l ≤ (node_in b).head.level → held_node (page_of mid n) ≡ Some (node_in b)
  kept_node n b at form low = ap held_node (kept n b at form low ∙ at) ∙ node_of-form b form

  -- a page that is amiss there may be called broken
  breaks_page : (T : Type 0) (x : ℕ) → x ≡ page → is_amiss l (page_of old page) ≡ true → Breaks {T = T} (breaks_below l (page_of old) page) (walk.Broken x)
  breaks_page T x e amiss = subst (λ y. breaks_below l (page_of old) page y ≡ true) (sym e) (breaks_here l (page_of old) page amiss)

  amiss_above : IsAmiss (node_in bytes) → is_amiss l (page_of old page) ≡ true
  amiss_above h = subst (λ k. is_amiss k (page_of old page) ≡ true) (sym down) (amiss_here m (page_of old page) bytes is.held_is is.form h)

  -- ---- the child is empty, and was given back
  module _ (i : ℕ) (new : View) (outcome : Result Taken Stop) (low : is_tree_page m (held_node (page_of mid child)) ≡ true) where
    k : NodeAt m (held_node (page_of mid child))
    k = node_at m (held_node (page_of mid child)) low

    pub apart_child : child ≡ page → ⊥
    apart_child e = levels_apart mid m page child (node_in bytes) k.node still_node k.is (omega (arith, height)) k.like (sym e)

    pub freed_node : held_node (page_of (with_page child [] mid) page) ≡ Some (node_in bytes)
    freed_node = ap held_node (page_of-other mid child page [] apart_child) ∙ still_node

    module _ (drops : DropsChild (with_page child [] mid) new page (held_node (page_of (with_page child [] mid) page)) i outcome) (new_given : dropped new ≡ dropped (with_page child [] mid)) where
      drop_is : DropsChild (with_page child [] mid) new page (Some (node_in bytes)) i outcome
      drop_is = subst (λ o. DropsChild (with_page child [] mid) new page o i outcome) freed_node drops

      pub drop_asks : MayAsk new (as_walk outcome)
      drop_asks = by outcome drop_is
        where
          held : IsSome (page_of new page)
          held = held_still (with_page child [] mid) new page new_given (subst (λ (o : Option (List ℕ)). IsSome o) (sym (page_of-other mid child page [] apart_child ∙ page_still ∙ is.held_is)) refl)

          by : (outcome : Result Taken Stop) → DropsChild (with_page child [] mid) new page (Some (node_in bytes)) i outcome → MayAsk new (as_walk outcome)
          by (Ok taken) d = tt
          by (Err (stop.Need x)) d = absurd d
          by (Err stop.Fresh) d = absurd d
          by (Err (stop.Broken x)) d = subst (λ y. IsSome (page_of new y)) (sym d.0) held
          by (Err stop.NoMemory) d = tt

      pub drop_breaks : Breaks (breaks_below l (page_of old) page) (as_walk outcome)
      drop_breaks = by outcome drop_is
        where
          by : (outcome : Result Taken Stop) → DropsChild (with_page child [] mid) new page (Some (node_in bytes)) i outcome → Breaks (breaks_below l (page_of old) page) (as_walk outcome)
          by (Ok taken) d = tt
          by (Err (stop.Need x)) d = tt
          by (Err stop.Fresh) d = tt
          by (Err (stop.Broken x)) d = breaks_page Taken x d.0 (amiss_above d.1)
          by (Err stop.NoMemory) d = tt

      pub drop_keeps : IfOk outcome (λ taken. KeepsAbove old new l page)
      drop_keeps = by outcome drop_is
        where
          by : (outcome : Result Taken Stop) → DropsChild (with_page child [] mid) new page (Some (node_in bytes)) i outcome → IfOk outcome (λ taken. KeepsAbove old new l page)
          by (Ok taken) d = λ n b at form up more.
              let w = wrote_dropped (with_page child [] mid) new page (node_in bytes) i taken d in
              let away = levels_apart mid m n child (node_in b) k.node (kept_node n b at form up) k.is (omega (arith, up, down)) k.like in
              ap (λ (c : View). page_of c n) w.changed ∙ page_of-other (with_page child [] mid) page n w.bytes (λ e. not_page n b at more (sym e))
              ∙ page_of-other mid child n [] (λ e. away (sym e)) ∙ kept n b at form up
          by (Err s) d = tt

      pub drop_leaves : i ≤ length (node_in bytes).entries → IfOk outcome (LeavesPage new l page)
      drop_leaves low = by outcome drop_is
        where
          by : (outcome : Result Taken Stop) → DropsChild (with_page child [] mid) new page (Some (node_in bytes)) i outcome → IfOk outcome (LeavesPage new l page)
          by (Ok taken) d =
              dropped_leaves (with_page child [] mid) new l page (node_in bytes) i taken (omega (arith, down)) (level_here old l page bytes head is) (node_held (page_of (with_page child [] mid) page) (node_in bytes) freed_node) low d
          by (Err s) d = tt

  -- ---- the child gave its last child away
  module _ (i left : ℕ) (new : View) (outcome : Result Taken Stop) (leaves : LeavesPage mid m child (Single left)) (merges : MergesChild mid new l page (held_node (page_of mid page)) i child left outcome) (new_given : dropped new ≡ dropped mid) where
    merge_is : MergesChild mid new (suc m) page (Some (node_in bytes)) i child left outcome
    merge_is = subst (λ o. MergesChild mid new (suc m) page o i child left outcome) still_node (subst (λ k. MergesChild mid new k page (held_node (page_of mid page)) i child left outcome) down merges)

    pub merge_asks : MayAsk new (as_walk outcome)
    merge_asks = by outcome merge_is
      where
        by : (outcome : Result Taken Stop) → MergesChild mid new (suc m) page (Some (node_in bytes)) i child left outcome → MayAsk new (as_walk outcome)
        by (Ok taken) h = tt
        by (Err (stop.Need x)) h = none_still mid new x new_given h.1
        by (Err stop.Fresh) h = h
        by (Err (stop.Broken x)) (inl h) = subst (λ y. IsSome (page_of new y)) (sym h.0) (held_still mid new page new_given (subst (λ (o : Option (List ℕ)). IsSome o) (sym (page_still ∙ is.held_is)) refl))
        by (Err (stop.Broken x)) (inr h) = held_still mid new x new_given h.1
        by (Err stop.NoMemory) h = tt

    beside_breaks : (x : ℕ) → x ≡ page_beside i (node_in bytes) → IsSome (page_of mid x) → is_page m (held_node (page_of mid x)) ≡ false → breaks_below l (page_of old) page x ≡ true
    beside_breaks x beside held wrong =
        let other : x ≡ child → ⊥ = (λ e. true≢false (sym (is_page_still (leaves.1) leaves.3 leaves.4) ∙ ap (is_page m) (sym leaves.2) ∙ ap (λ y. is_page m (held_node (page_of mid y))) (sym e) ∙ wrong)) in
        let amiss = was_amiss m (page_of old x) (page_of mid x) (held_still mid old x (sym given) held)
        (λ b at form like. let low = level_of_head m (node_in b).head like in higher x b at form (omega (arith, low)) (λ e. absurd (other e))) wrong in
        breaks_step {T = Taken} l m (page_of old) page bytes head (place_beside i) x (walk.Broken x) down is (beside ∙ ap (λ (h : Head). nth_child h.a (node_in bytes).entries (place_beside i)) (sym is.head_is)) (breaks_here m (page_of old) x amiss)
      where
        is_page_still : (n : Node) → is_of_level m n.head ≡ true → n.entries ≡ [] → is_page m (Some n) ≡ true
        is_page_still n like none = λ t. like t && all_by (cond (nat_eq m 0) is_small is_bound) (none t)

    pub merge_breaks : Breaks (breaks_below l (page_of old) page) (as_walk outcome)
    merge_breaks = by outcome merge_is
      where
        by : (outcome : Result Taken Stop) → MergesChild mid new (suc m) page (Some (node_in bytes)) i child left outcome → Breaks (breaks_below l (page_of old) page) (as_walk outcome)
        by (Ok taken) h = tt
        by (Err (stop.Need x)) h = tt
        by (Err stop.Fresh) h = tt
        by (Err (stop.Broken x)) (inl h) = breaks_page Taken x h.0 (amiss_above h.1)
        by (Err (stop.Broken x)) (inr h) = beside_breaks x h.0 h.1 h.2
        by (Err stop.NoMemory) h = tt

    pub merge_keeps : IfOk outcome (λ taken. KeepsAbove old new l page)
    merge_keeps = by outcome merge_is
      where
        by : (outcome : Result Taken Stop) → MergesChild mid new (suc m) page (Some (node_in bytes)) i child left outcome → IfOk outcome (λ taken. KeepsAbove old new l page)
        by (Ok taken) h = λ x b at form up more.
            let node = kept_node x b at form up in
            let one = gave_keeps mid h.mid m x (node_in bytes) (node_in b) i child left h.put_is leaves.1 node (omega (arith, up, down)) leaves.2 leaves.3 h.gave in
            let w = wrote_dropped h.mid h.next page (node_in bytes) i h.dropping h.drops in
            let two = ap (λ (c : View). page_of c x) w.changed ∙ page_of-other h.mid page x w.bytes (λ e. not_page x b at more (sym e)) in
            ending h.put_is h.ends x (node_some (held_node (page_of h.next x)) (node_in b) (ap held_node (two ∙ one) ∙ node)) (not_page x b at more) ∙ two ∙ one ∙ kept x b at form up
          where
            ending : (p : Put) → EndsBeside h.next new (suc m) page (without_child i (node_in bytes)) p h.dropping taken → (x : ℕ) → HasNode h.next x → (x ≡ page → ⊥) → page_of new x ≡ page_of h.next x
            ending put.Kept e x has ne = ap (λ (c : View). page_of c x) e.0
            ending put.Done e x has ne = ap (λ (c : View). page_of c x) e.0
            ending (put.Split bound r) e x has ne = raised_others h.next new (suc m) page (without_child i (node_in bytes)) bound r taken e x has ne
        by (Err s) h = tt

    pub merge_leaves : i ≤ length (node_in bytes).entries → IfOk outcome (LeavesPage new l page)
    merge_leaves low = by outcome merge_is
      where
        up : is_of_level (suc m) (node_in bytes).head ≡ true
        up = subst (λ k. is_of_level k (node_in bytes).head ≡ true) down (level_here old l page bytes head is)

        by : (outcome : Result Taken Stop) → MergesChild mid new (suc m) page (Some (node_in bytes)) i child left outcome → IfOk outcome (LeavesPage new l page)
        by (Ok taken) h = subst (λ k. LeavesPage new k page taken) (sym down) (ending h.put_is h.ends)
          where
            held : IsSome (page_of h.mid page)
            held = subst (λ (o : Option (List ℕ)). IsSome o) (sym (h.stays ∙ page_still ∙ is.held_is)) refl

            alone : new ≡ h.next → taken ≡ h.dropping → LeavesPage new (suc m) page taken
            alone e f = subst (λ (c : View). LeavesPage c (suc m) page taken) (sym e) (subst (λ t. LeavesPage h.next (suc m) page t) (sym f) (dropped_leaves h.mid h.next (suc m) page (node_in bytes) i h.dropping (omega arith) up held low h.drops))

            ending : (p : Put) → EndsBeside h.next new (suc m) page (without_child i (node_in bytes)) p h.dropping taken → LeavesPage new (suc m) page taken
            ending put.Kept e = alone e.0 e.1
            ending put.Done e = alone e.0 e.1
            ending (put.Split bound r) e =
                raised_leaves h.next new (suc m) page (without_child i (node_in bytes)) bound r taken up (wrote_node h.mid h.next page (without_child i (node_in bytes)) held (wrote_dropped h.mid h.next page (node_in bytes) i h.dropping h.drops)) e
        by (Err s) h = tt

    -- the page beside is one of those that a removal asks for
    pub merge_way : (key : List ℕ) → i ≡ passed (Some key) (node_in bytes).entries → OverNodes old l page (λ N. Needs (λ n. has n (removal_way l N key page)) (as_walk outcome))
    merge_way key count N shows tree = subst (λ (k : ℕ). Needs (λ n. has n (removal_way k N key page)) (as_walk outcome)) (sym down) (by outcome merge_is)
      where
        at : N page ≡ Some (node_in bytes)
        at = shown old N page l bytes head shows is

        full : 0 < length (node_in bytes).entries
        full = subst (λ o. 0 < length (entries_of o)) at (subst (λ k. IsTree k N page) down tree).1

        by : (outcome : Result Taken Stop) → MergesChild mid new (suc m) page (Some (node_in bytes)) i child left outcome → Needs (λ n. has n (removal_way (suc m) N key page)) (as_walk outcome)
        by (Ok taken) h = tt
        by (Err (stop.Need x)) h =
            or_right _ _ (or_left _ _ (eq-eqb x (beside_in key (N page))
            (h.0 ∙ ap (λ j. page_beside j (node_in bytes)) count ∙ sym (ap (beside_in key) at ∙ beside_is key (node_in bytes).head.a (node_in bytes).entries full))))
        by (Err stop.Fresh) h = tt
        by (Err (stop.Broken x)) h = tt
        by (Err stop.NoMemory) h = tt

  -- ---- the child was split
  module _ (bound : List ℕ) (r : ℕ) (new : View) (outcome : Result Taken Stop) (raises : RaisesChild mid new l page (held_node (page_of mid page)) bound r outcome) (new_given : dropped new ≡ dropped mid) where
    raise_is : RaisesChild mid new l page (Some (node_in bytes)) bound r outcome
    raise_is = subst (λ o. RaisesChild mid new l page o bound r outcome) still_node raises

    pub raise_asks : MayAsk new (as_walk outcome)
    raise_asks = by outcome raise_is
      where
        by : (outcome : Result Taken Stop) → RaisesChild mid new l page (Some (node_in bytes)) bound r outcome → MayAsk new (as_walk outcome)
        by (Ok taken) h = tt
        by (Err (stop.Need x)) h = absurd h.3
        by (Err stop.Fresh) h = h.3.1
        by (Err (stop.Broken x)) h = subst (λ y. IsSome (page_of new y)) (sym h.3.0) (held_still mid new page new_given (subst (λ (o : Option (List ℕ)). IsSome o) (sym (page_still ∙ is.held_is)) refl))
        by (Err stop.NoMemory) h = tt

    pub raise_breaks : Breaks (breaks_below l (page_of old) page) (as_walk outcome)
    raise_breaks = by outcome raise_is
      where
        by : (outcome : Result Taken Stop) → RaisesChild mid new l page (Some (node_in bytes)) bound r outcome → Breaks (breaks_below l (page_of old) page) (as_walk outcome)
        by (Ok taken) h = tt
        by (Err (stop.Need x)) h = tt
        by (Err stop.Fresh) h = tt
        by (Err (stop.Broken x)) h =
            breaks_page Taken x h.3.0 (subst (λ k. is_amiss k (page_of old page) ≡ true) (sym down) (amiss_page m (page_of old page) bytes is.held_is is.form (subst (λ k. is_page k (Some (node_in bytes)) ≡ false) down h.3.1)))
        by (Err stop.NoMemory) h = tt

    pub raise_keeps : IfOk outcome (λ taken. KeepsAbove old new l page)
    raise_keeps = by outcome raise_is
      where
        by : (outcome : Result Taken Stop) → RaisesChild mid new l page (Some (node_in bytes)) bound r outcome → IfOk outcome (λ taken. KeepsAbove old new l page)
        by (Ok taken) h = λ x b at form up more.
            raised_others mid new l page (node_in bytes) bound r taken h x (node_some (held_node (page_of mid x)) (node_in b) (kept_node x b at form up)) (not_page x b at more) ∙ kept x b at form up
        by (Err s) h = tt

    pub raise_leaves : IfOk outcome (LeavesPage new l page)
    raise_leaves = by outcome raise_is
      where
        by : (outcome : Result Taken Stop) → RaisesChild mid new l page (Some (node_in bytes)) bound r outcome → IfOk outcome (LeavesPage new l page)
        by (Ok taken) h = raised_leaves mid new l page (node_in bytes) bound r taken (level_here old l page bytes head is) still_node h
        by (Err s) h = tt

-- ---- the way goes on at the child
pub needs_below : (T : Type 0) (c : View) (l m page child : ℕ) (key bytes : List ℕ) (head : Head) (w : Walk T) → l ≡ suc m → IsTreePage (page_of c page) l bytes head
    → child ≡ nth_child head.a (node_in bytes).entries (passed (Some key) (node_in bytes).entries)
    → OverNodes c m child (λ N. Needs (λ n. has n (removal_way m N key child)) w) → OverNodes c l page (λ N. Needs (λ n. has n (removal_way l N key page)) w)
needs_below T c l m page child key bytes head w down is at below N shows tree =
    let here = shown c N page l bytes head shows is in
    let s = find_step m N page key bytes head here is.head_is (subst (λ k. IsTree k N page) down tree) in
    let to : child_in key (N page) ≡ child =
    ap (child_in key) here ∙ child_passed key (node_in bytes).head.a (node_in bytes).entries ∙ ap (λ (h : Head). nth_child h.a (node_in bytes).entries (passed (Some key) (node_in bytes).entries)) (sym is.head_is) ∙ sym at in
    subst (λ (k : ℕ). Needs (λ n. has n (removal_way k N key page)) w) (sym down) (by w (below N shows (subst (IsTree m N) (sym at) s.tree)) to)
  where
    by : (w : Walk T) → Needs (λ n. has n (removal_way m N key child)) w → child_in key (N page) ≡ child → Needs (λ n. has n (removal_way (suc m) N key page)) w
    by (walk.Ready r) h e = tt
    by (walk.Need n) h e = or_right _ _ (or_right _ _ (ap (λ c. has n (removal_way m N key c)) e ∙ h))
    by walk.Fresh h e = tt
    by (walk.Broken n) h e = tt
    by walk.NoMemory h e = tt
