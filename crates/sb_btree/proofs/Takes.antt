-- Each end of a removal, for all pages in which the key's place is in a tree: at a leaf, and over a child that stayed, is emptied or became two.
use Rattle.std.proofs.Common.{◌≡◌, ℕ, suc, ◌+◌, ◌-◌, ◌<◌, ◌≤◌, List, [], ◌∷◌, ◌++◌, length, map, Option, Some, None, IsSome, refl, ap, sym, ◌∙◌, subst, inl, inr, arith, true≢false, option_map, ◌==◌, ne_eqb}
use Rattle.std.specs.Prelude.{Result, Ok, Err}
use Rattle.std.proofs.lemmas.List.{length-map, nil_from_length}
use Rattle.std.specs.FinMap.Entries.{find, put}
use Rattle.sb_ctx.specs.View.{HeldPage}
use Rattle.sb_forms.specs.Pages.{Pages}
use Rattle.sb_ctx.specs.View.{View, held_at, page_of, with_page, dropped, stored}
use Rattle.sb_ctx.proofs.HeldLaws.{page_in-bytes_put}
use Rattle.sb_ctx.specs.Held.{with_bytes}
use Rattle.std.proofs.lemmas.Bool.{cond-false}
use Rattle.sb_value.proofs.Truths.{some_none}
use Rattle.sb_ctx.proofs.ViewLaws.{page_of-same, stored-same, stored-other, stored_by}
use Rattle.sb_node.specs.Entries.{key_cmp, without}
use Rattle.sb_node.specs.Page.{Node, node_of, with_entries}
use Rattle.sb_forms.specs.Tree.{nodes, Child, child_of, entries_of, over, items, met, next_low, GoesTo, IsBound, IsLeaf, IsInner, IsTree}
use Rattle.sb_btree.specs.Became.{UpTo, IsPlace}
use Rattle.sb_forms.specs.Read.{is_bound}
use Rattle.sb_btree.specs.Held.{passed}
use Rattle.sb_btree.specs.Removes.{Shrinks, TakesAt, TakesEntry, DropsChild, RaisesChild, Wrote, IsAmiss, entries_without, without_child, first_without, beside_in}
use Rattle.sb_btree.specs.Inserts.{PutChildAt, children_after}
use Rattle.sb_btree.specs.declared.insertion.Put.{Put}
use Rattle.sb_btree.specs.declared.insertion.Put.TheVariants as put
use Rattle.sb_btree.specs.declared.removal.Taken.{Taken}
use Rattle.sb_btree.specs.declared.removal.Taken.TheVariants.{Lacks, Done, Empty, Single, Split}
use Rattle.sb_btree.specs.declared.walk.Stop.{Stop}
use Rattle.sb_btree.specs.declared.walk.Stop.TheVariants as stop
use Rattle.sb_btree.proofs.Halved.{free_node, apart_free}
use Rattle.sb_btree.proofs.Descending.{inner_page}
use Rattle.sb_btree.proofs.Reading.{all_says, bound_says}
use Rattle.sb_btree.proofs.Inserting.{one_leaf}
use Rattle.sb_btree.proofs.Splitting.{head_of, kids_grown}
use Rattle.sb_btree.proofs.Without.{without_all}
use Rattle.sb_btree.proofs.Shrinking.{own_met}
use Rattle.sb_btree.proofs.Taking.{PlacedAt, kids, choice, items_is, is_inner, apart, was, find_is, whole_kid, parent_one, parent_none, without_within, into, out_of, within}
use Rattle.sb_btree.proofs.Entered.{put_pages, put_short, put_page, put_between}
use Rattle.sb_btree.proofs.Dropping.{left, without_inner, lone_beside}

-- ---- a page that is written
pub held_other : (c : View) (n m : ℕ) (bytes : List ℕ) → (n ≡ m → ⊥) → held_at (with_page n bytes c) m ≡ held_at c m
held_other c n m bytes other = page_in-bytes_put c.held n m bytes ∙ cond-false (n == m) (option_map (with_bytes bytes) (held_at c m)) (held_at c m) (ne_eqb n m other)

pub stored_alike : (c d : View) (P : Pages) (x : ℕ) → held_at c x ≡ held_at d x → stored c P x ≡ stored d P x
stored_alike c d P x e = ap (λ (o : Option HeldPage). stored_by (P x) o) e

pub wrote_is : (old new : View) (P : Pages) (page : ℕ) (n : Node) → IsSome (page_of old page) → Wrote old new page n → nodes (stored new P) page ≡ Some n
wrote_is old new P page n held w = ap (λ (c : View). node_of (stored c P page)) w.changed ∙ ap node_of (stored-same old P page w.bytes held) ∙ w.node_is

pub wrote_others : (old new : View) (P : Pages) (page : ℕ) (n : Node) → Wrote old new page n → (x : ℕ) → (x ≡ page → ⊥) → stored new P x ≡ stored old P x
wrote_others old new P page n w x other = ap (λ (c : View). stored c P x) w.changed ∙ stored-other old P page x w.bytes (λ e. other (sym e))

pub wrote_held : (old new : View) (page : ℕ) (n : Node) → IsSome (page_of old page) → Wrote old new page n → IsSome (page_of new page)
wrote_held old new page n held w = subst (λ (o : Option (List ℕ)). IsSome o) (sym (ap (λ (c : View). page_of c page) w.changed ∙ page_of-same old page w.bytes held)) refl

-- a page of a tree isn't amiss
pub not_amiss : (l : ℕ) (P : Pages) (page : ℕ) (n : Node) → nodes P page ≡ Some n → IsTree (suc l) (nodes P) page → IsAmiss n → ⊥
not_amiss l P page n at t (inl is) = true≢false (sym ((all_says is_bound IsBound bound_says n.entries).1 (subst (IsInner (suc l)) at t.0).2) ∙ is)
not_amiss l P page n at t (inr none) =
    let full : 0 < length n.entries = subst (λ o. 0 < length (entries_of o)) at t.1 in
    omega (arith, full, ap length none)

-- ---- a leaf
starts_up : (low : List ℕ) (high : Option (List ℕ)) → GoesTo low high → UpTo (Some low) high
starts_up low None g = tt
starts_up low (Some high) g = g

pub leaf_takes : (old new : View) (P : Pages) (page : ℕ) (key low : List ℕ) (high : Option (List ℕ)) (n : Node) (outcome : Result Taken Stop) → nodes (stored old P) page ≡ Some n → IsSome (page_of old page) → IsPlace 0 (stored old P) page low high key
    → TakesEntry old new page (Some n) key outcome → TakesAt old new 0 page key P low high outcome
leaf_takes old new P page key low high n (Ok Lacks) at held place h = (ap (λ o. find key_cmp key (entries_of o)) at ∙ h.0, h.1)
leaf_takes old new P page key low high n (Ok Done) at held place h =
    let there = wrote_is old new P page (with_entries (entries_without key n.entries) n) held h.2 in
    let same : entries_of (nodes (stored old P) page) ≡ n.entries = ap entries_of at in
    let leaf : IsLeaf (Some n) = subst IsLeaf at place.tree in (
      subst (λ es. IsSome (find key_cmp key es)) (sym same) h.0,
      record {
        fresh = [];
        freed = [];
        were_free = λ x f. absurd f;
        are_gone = λ x f. absurd f;
        became = one_leaf (stored old P) (stored new P) page low high (entries_without key (entries_of (nodes (stored old P) page)))
            (λ x other. wrote_others old new P page (with_entries (entries_without key n.entries) n) h.2 x other)
            (subst IsLeaf (sym there) (leaf.0, leaf.1, without_all _ key n.entries leaf.2)) (ap entries_of there ∙ ap (entries_without key) (sym same)) (subst (λ es. 0 < length (entries_without key es)) (sym same) h.1)
            (without_within key low high (entries_of (nodes (stored old P) page)) place.within) place.goes;
      },
    )
leaf_takes old new P page key low high n (Ok Empty) at held place h =
    let same : entries_of (nodes (stored old P) page) ≡ n.entries = ap entries_of at in
    let gone : stored (with_page page [] new) P page ≡ [] = ap (λ (c : View). stored (with_page page [] c) P page) h.2 ∙ stored-same old P page [] held in (
      subst (λ es. IsSome (find key_cmp key es)) (sym same) h.0,
      record {
        fresh = [];
        freed = page ∷ [];
        were_free = λ x f. absurd f;
        are_gone = λ x f. elim f [ inl e ↦ ap (stored (with_page page [] new) P) e ∙ gone | inr z ↦ absurd z ];
        became = record {
          in_order = tt;
          starts = starts_up low high place.goes;
          entries = sym (ap (entries_without key) same ∙ h.1);
          apart = tt;
          from = λ x f. absurd f;
          to = λ x f. elim f [ inl o ↦ inr o | inr z ↦ absurd z ];
          keeps = λ x o f. ap (λ (c : View). stored (with_page page [] c) P x) h.2 ∙ stored-other old P page x [] (λ e. o (inl (sym e)));
        };
      },
    )
leaf_takes old new P page key low high n (Ok (Single g)) at held place h = absurd h
leaf_takes old new P page key low high n (Ok (Split bound next)) at held place h = absurd h
leaf_takes old new P page key low high n (Err (stop.Need x)) at held place h = tt
leaf_takes old new P page key low high n (Err stop.Fresh) at held place h = tt
leaf_takes old new P page key low high n (Err (stop.Broken x)) at held place h = absurd h
leaf_takes old new P page key low high n (Err stop.NoMemory) at held place h = tt

-- no page was emptied or split below
abbrev pub IsStill : Result Taken Stop → Type 0
IsStill (Ok Empty) = ⊥
IsStill (Ok (Single g)) = ⊥
IsStill (Ok (Split bound next)) = ⊥
IsStill outcome = Unit {0}

-- ---- a page over a child
module _ (l : ℕ) (old : View) (P : Pages) (page : ℕ) (key low : List ℕ) (high : Option (List ℕ)) (n : Node) (at : nodes (stored old P) page ≡ Some n) (place : IsPlace (suc l) (stored old P) page low high key) where
  abbrev pub all : List Child
  all = kids l old P page key low high n at place

  abbrev pub at_kid : PlacedAt key ([], n.head.a) n.entries (passed (Some key) n.entries)
  at_kid = choice l old P page key low high n at place

  pub full : 0 < length n.entries
  full = subst (λ o. 0 < length (entries_of o)) at place.tree.1

  abbrev pub Whole : View → List Child → Type 0
  Whole mid now = Shrinks old mid l P (over (met l (nodes (stored old P))) all) (Some []) None now (entries_without key (over (items l (nodes (stored old P))) all))

  -- the page keeps its bytes meanwhile
  pub still : (mid : View) (now : List Child) → Whole mid now → nodes (stored mid P) page ≡ Some n
  still mid now s = ap node_of (s.became.keeps page (apart l old P page key low high n at place).0 (λ f. was l old P page key low high n at place (free_node old P page (s.were_free page f)))) ∙ at

  pub has_node : (mid : View) (now : List Child) → Whole mid now → nodes (stored mid P) page ≡ None → ⊥
  has_node mid now s none = some_none n (sym (still mid now s) ∙ none)

  pub found : IsSome (find key_cmp key (items l (nodes (stored old P)) at_kid.kid.1)) → IsSome (find key_cmp key (items (suc l) (nodes (stored old P)) page))
  found h = subst (λ o. IsSome o) (sym (find_is l old P page key low high n at place)) h

  -- the child stayed one page
  pub same_takes : (new : View) (outcome : Result Taken Stop) → IsStill outcome
      → TakesAt old new l at_kid.kid.1 key P at_kid.kid.0 (next_low None at_kid.after) outcome → TakesAt old new (suc l) page key P low high outcome
  same_takes new (Ok Lacks) whole h = (find_is l old P page key low high n at place ∙ h.0, h.1)
  same_takes new (Ok Done) whole h =
      let s : Whole new (at_kid.before ++ ((at_kid.kid.0, at_kid.kid.1) ∷ at_kid.after)) = whole_kid l old P page key low high n at place new ((at_kid.kid.0, at_kid.kid.1) ∷ []) h.1 in
      let s' : Whole new all = subst (Whole new) (sym at_kid.parts) s in
      (found h.0, parent_one l old P page key low high n at place new new ([], n.head.a) (map child_of n.entries) n s' (has_node new all s') (λ x g. refl) (still new all s') (is_inner l old P page key low high n at place) refl (omega (arith, length-map n.entries child_of, full)))
  same_takes new (Ok Empty) whole h = absurd whole
  same_takes new (Ok (Single g)) whole h = absurd whole
  same_takes new (Ok (Split bound next)) whole h = absurd whole
  same_takes new (Err (stop.Need x)) whole h = tt
  same_takes new (Err stop.Fresh) whole h = tt
  same_takes new (Err (stop.Broken x)) whole h = h
  same_takes new (Err stop.NoMemory) whole h = tt

  -- a child is dropped from the page
  pub drop_takes : (mid next : View) (k : Child) (ks : List Child) (dropping : Taken) → Whole mid (k ∷ ks)
      → ([], first_without (passed (Some key) n.entries) n) ∷ map child_of (without (passed (Some key) n.entries - 1) n.entries) ≡ ([], k.1) ∷ ks → length ks + 1 ≡ length n.entries
      → IsSome (page_of mid page) → IsSome (find key_cmp key (items (suc l) (nodes (stored old P)) page))
      → DropsChild mid next page (Some n) (passed (Some key) n.entries) (Ok dropping) → TakesAt old next (suc l) page key P low high (Ok dropping)
  drop_takes mid next k ks Lacks s list count held has h = absurd h
  drop_takes mid next k ks Done s list count held has h =
      let n' = without_child (passed (Some key) n.entries) n in (
        has,
        parent_one l old P page key low high n at place mid next k ks n' s (has_node mid (k ∷ ks) s) (wrote_others mid next P page n' h.1) (wrote_is mid next P page n' held h.1)
            (without_inner l (passed (Some key) n.entries) n (is_inner l old P page key low high n at place)) list (omega (arith, count, h.0)),
      )
  drop_takes mid next k ks Empty s list count held has h = absurd h
  drop_takes mid next k ks (Single g) s list count held has h =
      let n' = without_child (passed (Some key) n.entries) n in
      let none : ks ≡ [] = nil_from_length ks (omega (arith, count, h.0)) in
      let same : g ≡ k.1 = h.1 ∙ ap (λ (c : Child). c.1) (head_of _ _ _ _ list) in
      let there = wrote_held mid next page n' held h.2 in
      let lone = parent_none l old P page key low high n at place mid (with_page page [] next) k (subst (λ xs. Whole mid (k ∷ xs)) none s)
      (λ x ne. stored-other next P page x [] (λ e. ne (sym e)) ∙ wrote_others mid next P page n' h.2 x ne) (stored-same next P page [] there) in
      (h.1 ∙ sym (ap (beside_in key) at ∙ lone_beside key n h.0), (has, subst (λ c. Shrinks old (with_page page [] next) l P (met (suc l) (nodes (stored old P)) page) (Some low) high ((low, c) ∷ []) (entries_without key (items (suc l) (nodes (stored old P)) page))) (sym same) lone))
  drop_takes mid next k ks (Split bound r) s list count held has h = absurd h

  pub drop_ends : (mid next : View) (k : Child) (ks : List Child) (outcome : Result Taken Stop) → Whole mid (k ∷ ks)
      → ([], first_without (passed (Some key) n.entries) n) ∷ map child_of (without (passed (Some key) n.entries - 1) n.entries) ≡ ([], k.1) ∷ ks → length ks + 1 ≡ length n.entries
      → IsSome (page_of mid page) → IsSome (find key_cmp key (items (suc l) (nodes (stored old P)) page))
      → DropsChild mid next page (Some n) (passed (Some key) n.entries) outcome → TakesAt old next (suc l) page key P low high outcome
  drop_ends mid next k ks (Ok dropping) s list count held has h = drop_takes mid next k ks dropping s list count held has h
  drop_ends mid next k ks (Err (stop.Need x)) s list count held has h = tt
  drop_ends mid next k ks (Err stop.Fresh) s list count held has h = tt
  drop_ends mid next k ks (Err (stop.Broken x)) s list count held has h = not_amiss l (stored old P) page n at place.tree h.1
  drop_ends mid next k ks (Err stop.NoMemory) s list count held has h = tt

  -- the child was emptied and given back
  pub empty_takes : (mid next : View) (outcome : Result Taken Stop) → IsSome (page_of (with_page at_kid.kid.1 [] mid) page)
      → TakesAt old mid l at_kid.kid.1 key P at_kid.kid.0 (next_low None at_kid.after) (Ok Empty)
      → DropsChild (with_page at_kid.kid.1 [] mid) next page (Some n) (passed (Some key) n.entries) outcome → TakesAt old next (suc l) page key P low high outcome
  empty_takes mid next outcome held taken h =
      let free = with_page at_kid.kid.1 [] mid in
      let some = left n at_kid.before at_kid.kid at_kid.after (passed (Some key) n.entries) at_kid.parts at_kid.count full in
      let s : Whole free (at_kid.before ++ at_kid.after) = whole_kid l old P page key low high n at place free [] taken.1 in
      drop_ends free next some.first some.others outcome (subst (Whole free) some.are s) some.list some.count held (found taken.0) h

  -- ---- the second half of a child goes into the page
  -- of which the children are those that there are now, but for the second half
  pub raise_takes : (mid next new : View) (n' : Node) (xs : List Child) (kid : Child) (ys : List Child) (bound : List ℕ) (r : ℕ) (outcome : Result Taken Stop)
      → Whole mid (xs ++ (kid ∷ (bound, r) ∷ ys)) → ([], n'.head.a) ∷ map child_of n'.entries ≡ xs ++ kid ∷ ys → IsInner (suc l) (Some n') → length bound ≤ 602
      → dropped mid ≡ dropped old → IsSome (page_of next page) → nodes (stored next P) page ≡ Some n' → ((x : ℕ) → (x ≡ page → ⊥) → held_at next x ≡ held_at mid x)
      → IsSome (find key_cmp key (items (suc l) (nodes (stored old P)) page))
      → RaisesChild next new (suc l) page (Some n') bound r outcome → TakesAt old new (suc l) page key P low high outcome
  raise_takes mid next new n' xs kid ys bound r outcome s parts inner short given held here alike has h = by outcome h
    where
      raised : (put_is : Put) → PutChildAt next new (suc l) page (Some n') bound r (Ok put_is)
          → Shrinks old new (suc l) P (met (suc l) (nodes (stored old P)) page) (Some low) high (children_after page low put_is) (entries_without key (items (suc l) (nodes (stored old P)) page))
      raised put_is h =
          let p = put_pages next new P (suc l) page n' bound r put_is held here h in
          let q = put_between next new mid new P (suc l) page n' bound p.0 put_is p.3 refl
          (λ x f. (sym (alike x (λ e. apart_free next P page x n' here f (sym e))) ∙ f, refl)) (λ x ne same. same ∙ stored_alike next mid P x (alike x ne)) in
          let list = kids_grown l (nodes (stored mid P)) n'.head.a n'.entries xs kid ys bound p.0 r parts s.became.in_order p.2 in
          subst (λ es. Shrinks old new (suc l) P (met (suc l) (nodes (stored old P)) page) (Some low) high (children_after page low put_is) (entries_without key es)) (sym (items_is l old P page key low high n at place))
          (put_page l old mid new P page low high None (Some []) ([], n'.head.a) (map child_of (put key_cmp bound p.0 n'.entries)) (entries_without key (over (items l (nodes (stored old P))) all)) (over (met l (nodes (stored old P))) all) (met (suc l) (nodes (stored old P)) page)
          (into l old P page key low high n at place) (out_of l old P page key low high n at place) (own_met (suc l) (nodes (stored old P)) page) (apart l old P page key low high n at place).0
          (was l old P page key low high n at place) (has_node mid (xs ++ (kid ∷ (bound, r) ∷ ys)) s) given (subst (Whole mid) (sym list) s) (within l old P page key low high n at place)
          n' bound p.0 inner (p.1, short) refl put_is q)

      by : (outcome : Result Taken Stop) → RaisesChild next new (suc l) page (Some n') bound r outcome → TakesAt old new (suc l) page key P low high outcome
      by (Ok Lacks) h = absurd h
      by (Ok Done) h = (has, raised put.Done h)
      by (Ok Empty) h = absurd h
      by (Ok (Single g)) h = absurd h
      by (Ok (Split top q)) h = (put_short next new (suc l) page n' bound r top q h, (has, raised (put.Split top q) h))
      by (Err (stop.Need x)) h = tt
      by (Err stop.Fresh) h = tt
      by (Err (stop.Broken x)) h = true≢false (sym (inner_page l (Some n') inner) ∙ h.3.1)
      by (Err stop.NoMemory) h = tt

  -- the child became two
  pub split_takes : (mid new : View) (bound : List ℕ) (r : ℕ) (outcome : Result Taken Stop) → dropped mid ≡ dropped old → IsSome (page_of mid page)
      → TakesAt old mid l at_kid.kid.1 key P at_kid.kid.0 (next_low None at_kid.after) (Ok (Split bound r))
      → RaisesChild mid new (suc l) page (Some n) bound r outcome → TakesAt old new (suc l) page key P low high outcome
  split_takes mid new bound r outcome given held taken h =
      let s : Whole mid (at_kid.before ++ ((at_kid.kid.0, at_kid.kid.1) ∷ (bound, r) ∷ at_kid.after)) = whole_kid l old P page key low high n at place mid ((at_kid.kid.0, at_kid.kid.1) ∷ (bound, r) ∷ []) taken.1.1 in
      raise_takes mid mid new n at_kid.before at_kid.kid at_kid.after bound r outcome s at_kid.parts (is_inner l old P page key low high n at place) taken.0 given held (still mid (at_kid.before ++ ((at_kid.kid.0, at_kid.kid.1) ∷ (bound, r) ∷ at_kid.after)) s) (λ x ne. refl) (found taken.1.0) h
