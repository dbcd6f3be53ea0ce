-- A removal from a whole tree.
use Rattle.std.proofs.Common.{◌≡◌, ℕ, suc, ◌≤◌, true, List, [], ◌∷◌, ◌++◌, length, map, Option, Some, None, IsSome, refl, ap, sym, ◌∙◌, subst, inl, inr, ◌⊎◌, arith}
use Rattle.std.proofs.lemmas.List.{append-nil}
use Rattle.std.proofs.lemmas.Bool.{both_ways, cases_eq}
use Rattle.sb_forms.specs.Pages.{Pages, zeros}
use Rattle.sb_ctx.specs.View.{View, page_of, with_page, dropped, stored}
use Rattle.sb_ctx.proofs.ViewLaws.{page_of-same, page_of-other, stored-page, stored-same, stored-other}
use Rattle.sb_node.specs.Entries.{Entry}
use Rattle.sb_node.specs.Page.{node_of, empty_node}
use Rattle.sb_forms.specs.Tree.{nodes, Child, child_of, children_of, entries_of, over, items, met, AreBounds, IsLeaf, IsInner, IsTree, Has, Apart, level_of}
use Rattle.sb_forms.specs.Read.{has, read_tree}
use Rattle.sb_btree.specs.Inserts.{IsFree, GrowsTo, WereFree}
use Rattle.sb_forms.specs.TreePages.{tree_met}
use Rattle.sb_btree.specs.Removes.{Shrank, Shrinks, Wrote, TookContent}
use Rattle.sb_btree.proofs.Reading.{reads_trees}
use Rattle.sb_btree.proofs.Members.{has_is, is_has}
use Rattle.sb_btree.proofs.Frames.{met_node}
use Rattle.sb_btree.proofs.Halved.{held_some}
use Rattle.sb_btree.proofs.Writing.{write_one}
use Rattle.sb_btree.proofs.Growing.{tree_level}
use Rattle.sb_btree.proofs.Halved.{free_node, free_page_of}
use Rattle.sb_btree.proofs.Grown.{within_all}
use Rattle.sb_btree.proofs.Shrinking.{is_or_not, but, but_either, but_says, gone_node, unmet, own_met, reused, moved_first}

-- the tree at the root, and where the pages went
module _ (old new : View) (P : Pages) (root l l' : ℕ) (want : List Entry) (fresh : List ℕ) (level : l ≡ level_of (nodes (stored old P) root)) (free : WereFree old fresh)
    (tree : IsTree l' (nodes (stored new P)) root) (shallow : l' ≤ 16) (apart : Apart (met l' (nodes (stored new P)) root)) (entries : items l' (nodes (stored new P)) root ≡ want)
    (from : (x : ℕ) → Has x (met l' (nodes (stored new P)) root) → Has x (met l (nodes (stored old P)) root) ⊎ Has x fresh)
    (to : (x : ℕ) → Has x (met l (nodes (stored old P)) root) ⊎ Has x fresh → Has x (met l' (nodes (stored new P)) root) ⊎ (stored new P x ≡ []))
    (keeps : (x : ℕ) → (Has x (met l (nodes (stored old P)) root) → ⊥) → (Has x fresh → ⊥) → (Has x (met l' (nodes (stored new P)) root) → ⊥) → stored new P x ≡ stored old P x) where
  level_now : level_of (nodes (stored new P) root) ≡ l'
  level_now = tree_level l' (nodes (stored new P)) root tree

  old_is : (n : ℕ) → has n (tree_met root (stored old P)) ≡ true → Has n (met l (nodes (stored old P)) root)
  old_is n h = subst (λ k. Has n (met k (nodes (stored old P)) root)) (sym level) (has_is n (tree_met root (stored old P)) h)

  is_old : (n : ℕ) → Has n (met l (nodes (stored old P)) root) → has n (tree_met root (stored old P)) ≡ true
  is_old n h = is_has n (tree_met root (stored old P)) (subst (λ k. Has n (met k (nodes (stored old P)) root)) level h)

  new_is : (n : ℕ) → has n (tree_met root (stored new P)) ≡ true → Has n (met l' (nodes (stored new P)) root)
  new_is n h = subst (λ k. Has n (met k (nodes (stored new P)) root)) level_now (has_is n (tree_met root (stored new P)) h)

  is_new : (n : ℕ) → Has n (met l' (nodes (stored new P)) root) → has n (tree_met root (stored new P)) ≡ true
  is_new n h = is_has n (tree_met root (stored new P)) (subst (λ k. Has n (met k (nodes (stored new P)) root)) (sym level_now) h)

  pub shrank : (read_tree root (stored new P) ≡ Some want) × Shrank old root (stored old P) (stored new P)
  shrank = (
    (reads_trees (stored new P) root).0 (record {
      tree = subst (λ k. IsTree k (nodes (stored new P)) root) (sym level_now) tree;
      shallow = subst (λ k. k ≤ 16) (sym level_now) shallow;
      apart = subst (λ k. Apart (met k (nodes (stored new P)) root)) (sym level_now) apart;
    }) ∙ ap Some (ap (λ k. items k (nodes (stored new P)) root) level_now ∙ entries),
    record {
      from = λ n h. elim (from n (new_is n h)) [ inl o ↦ inl (is_old n o) | inr f ↦ inr (free n f) ];
      to = λ n h. elim (to n (inl (old_is n h))) [ inl m ↦ inl (is_new n m) | inr g ↦ inr g ];
      keeps = λ n h k. elim (is_or_not n fresh) [
        | inl f ↦ elim (to n (inr f)) [
          | inl m ↦ absurd (both_ways _ k (is_new n m))
          | inr g ↦ g ∙ sym (stored-page old P n [] (free_page_of old n (free n f)))
        ]
        | inr absent ↦ keeps n (λ o. both_ways _ h (is_old n o)) absent (λ m. both_ways _ k (is_new n m))
      ];
    },
  )

-- the root's page is one
pub root_so : (old new : View) (P : Pages) (root l l' : ℕ) (want : List Entry) → l ≡ level_of (nodes (stored old P) root) → l' ≤ 16
    → Shrinks old new l' P (met l (nodes (stored old P)) root) (Some []) None (([], root) ∷ []) want → (read_tree root (stored new P) ≡ Some want) × Shrank old root (stored old P) (stored new P)
root_so old new P root l l' want level low s =
    let pages = append-nil (met l' (nodes (stored new P)) root) in
    shrank old new P root l l' want s.fresh level s.were_free s.became.in_order.0.0 low (subst Apart pages s.became.apart) (sym (append-nil (items l' (nodes (stored new P)) root)) ∙ s.became.entries)
    (λ x h. s.became.from x (subst (Has x) (sym pages) h))
    (λ x h. elim (s.became.to x h) [ inl m ↦ inl (subst (Has x) pages m) | inr g ↦ inr (s.are_gone x g) ])
    (λ x o f m. s.became.keeps x o f)

-- it is an empty leaf now
pub root_empty : (old mid new : View) (P : Pages) (root l : ℕ) (want : List Entry) → l ≡ level_of (nodes (stored old P) root) → IsSome (page_of mid root)
    → Shrinks old (with_page root [] mid) l P (met l (nodes (stored old P)) root) (Some []) None [] want → Wrote mid new root (empty_node 2 0)
    → (read_tree root (stored new P) ≡ Some want) × Shrank old root (stored old P) (stored new P)
root_empty old mid new P root l want level held s w =
    let here : nodes (stored new P) root ≡ Some (empty_node 2 0) = ap (λ (c : View). node_of (stored c P root)) w.changed ∙ ap node_of (stored-same mid P root w.bytes held) ∙ w.node_is in
    let others : (x : ℕ) → (x ≡ root → ⊥) → stored new P x ≡ stored (with_page root [] mid) P x =
    (λ x ne. ap (λ (c : View). stored c P x) w.changed ∙ stored-other mid P root x w.bytes (λ e. ne (sym e)) ∙ sym (stored-other mid P root x [] (λ e. ne (sym e)))) in
    shrank old new P root l 0 want s.fresh level s.were_free (subst IsLeaf (sym here) (refl, refl, tt)) (omega arith) ((λ h. h), tt) (ap entries_of here ∙ s.became.entries)
    (λ x h. elim h [ inl e ↦ inl (subst (λ y. Has y (met l (nodes (stored old P)) root)) (sym e) (own_met l (nodes (stored old P)) root)) | inr z ↦ absurd z ])
    (λ x h. elim (s.became.to x h) [ inl m ↦ absurd m | inr g ↦ elim (cases_eq x root) [ inl e ↦ inl (inl e) | inr ne ↦ inr (others x ne ∙ s.are_gone x g) ] ])
    (λ x o f m. others x (λ e. m (inl e)) ∙ s.became.keeps x o f)

-- the root takes the content of the only child
pub root_lowered : (old mid new : View) (P : Pages) (root m g : ℕ) (want : List Entry) → suc m ≡ level_of (nodes (stored old P) root) → suc m ≤ 16 → IsSome (page_of mid root)
    → Shrinks old (with_page root [] mid) m P (met (suc m) (nodes (stored old P)) root) (Some []) None (([], g) ∷ []) want → TookContent mid new root g m
    → (read_tree root (stored new P) ≡ Some want) × Shrank old root (stored old P) (stored new P)
root_lowered old mid new P root m g want level low held s t =
    let R = stored (with_page root [] mid) P in
    let gone : nodes R root ≡ None = gone_node (with_page root [] mid) P root (stored-same mid P root [] held) in
    let out : Has root (over (met m (nodes R)) (([], g) ∷ [])) → ⊥ = unmet m (nodes R) None (([], g) ∷ []) root s.became.in_order gone in
    let apart : g ≡ root → ⊥ = (λ e. out (subst (λ y. Has y (met m (nodes R) g ++ [])) e (first_in (met m (nodes R) g) g (own_met m (nodes R) g)))) in
    let moved = with_page root t.content mid in
    let there : IsSome (page_of moved g) = subst (λ (o : Option (List ℕ)). IsSome o) (sym (page_of-other mid root g t.content (λ e. apart (sym e)))) (held_some mid g t.content t.was) in
    let freed : stored new P g ≡ [] = ap (λ (c : View). stored c P g) t.changed ∙ stored-same moved P g [] there in
    let others : (x : ℕ) → (x ≡ root → ⊥) → (x ≡ g → ⊥) → stored new P x ≡ R x =
    (λ x a b. ap (λ (c : View). stored c P x) t.changed ∙ stored-other moved P g x [] (λ e. b (sym e)) ∙ stored-other mid P root x t.content (λ e. a (sym e)) ∙ sym (stored-other mid P root x [] (λ e. a (sym e)))) in
    let content : stored new P root ≡ R g =
    ap (λ (c : View). stored c P root) t.changed ∙ stored-other moved P g root [] apart ∙ stored-same mid P root t.content held ∙ sym (stored-page mid P g t.content t.was) ∙ sym (stored-other mid P root g [] (λ e. apart (sym e))) in
    let b = moved_first m (stored old P) R (stored new P) g root [] [] (met (suc m) (nodes (stored old P)) root) (Some []) None want s.fresh s.fresh s.freed (g ∷ but root s.freed) s.became out content others
    (λ x h. h) (λ x h. inr h) (inl (own_met (suc m) (nodes (stored old P)) root)) (λ x h. elim (but_either root x s.freed h) [ inl e ↦ inl e | inr k ↦ inr (inr k) ]) (inl refl) in
    root_so old new P root (suc m) m want level (omega arith) (record {
      fresh = s.fresh;
      freed = g ∷ but root s.freed;
      were_free = s.were_free;
      are_gone = λ x h. elim h [
        | inl e ↦ ap (stored new P) e ∙ freed
        | inr k ↦ elim (cases_eq x g) [ inl e ↦ ap (stored new P) e ∙ freed | inr ne ↦ (let u = but_says root x s.freed k in others x u.1 ne ∙ s.are_gone x u.0) ]
      ];
      became = b;
    })
  where
    first_in : (xs : List ℕ) (x : ℕ) → Has x xs → Has x (xs ++ [])
    first_in xs x h = subst (Has x) (sym (append-nil xs)) h

-- the root's content moves to a page that is free, and the root is an inner page over that and the second half
pub root_grown : (old mid new : View) (P : Pages) (root l : ℕ) (bound : List ℕ) (next : ℕ) (want : List Entry) → dropped mid ≡ dropped old → l ≡ level_of (nodes (stored old P) root) → suc l ≤ 16 → length bound ≤ 602
    → Shrinks old mid l P (met l (nodes (stored old P)) root) (Some []) None (([], root) ∷ (bound, next) ∷ []) want → GrowsTo mid new root l bound next
    → (read_tree root (stored new P) ≡ Some want) × Shrank old root (stored old P) (stored new P)
root_grown old mid new P root l bound next want given level low short s g =
    elim (reused l old mid P g.first (Some []) None (([], root) ∷ (bound, next) ∷ []) want (met l (nodes (stored old P)) root) given g.free s) [
      | inl o ↦ with_fresh s.fresh s.were_free (λ x h. h) (λ x h. inr h) (inl o)
      | inr f ↦ with_fresh (g.first ∷ s.fresh) (λ x h. elim h [ inl e ↦ subst (λ y. IsFree old y) (sym e) f | inr k ↦ s.were_free x k ]) (λ x h. inr h) (λ x h. h) (inr (inl refl))
    ]
  where
    c₁ : View
    c₁ = with_page g.first zeros mid

    c₂ : View
    c₂ = with_page g.first g.content c₁

    with_fresh : (fresh : List ℕ) → WereFree old fresh → ((x : ℕ) → Has x s.fresh → Has x fresh) → ((x : ℕ) → Has x fresh → (x ≡ g.first) ⊎ Has x s.fresh) → Has g.first (met l (nodes (stored old P)) root) ⊎ Has g.first fresh
        → (read_tree root (stored new P) ≡ Some want) × Shrank old root (stored old P) (stored new P)
    with_fresh fresh were also back mine =
        let olds = met l (nodes (stored old P)) root in
        let now : List Child = ([], root) ∷ (bound, next) ∷ [] in
        let none = free_node mid P g.first g.free in
        let there : nodes (stored mid P) root ≡ None → ⊥ = met_node l (nodes (stored mid P)) root root s.became.in_order.0.0 (own_met l (nodes (stored mid P)) root) in
        let apart : root ≡ g.first → ⊥ = (λ e. there (ap (nodes (stored mid P)) e ∙ none)) in
        let away : g.first ≡ root → ⊥ = (λ e. apart (sym e)) in
        let held₁ : IsSome (page_of c₁ g.first) = subst (λ (o : Option (List ℕ)). IsSome o) (sym (page_of-same mid g.first zeros (held_some mid g.first [] (free_page_of mid g.first g.free)))) refl in
        let held₂ : IsSome (page_of c₂ root) = subst (λ (o : Option (List ℕ)). IsSome o) (sym (page_of-other c₁ g.first root g.content away ∙ page_of-other mid g.first root zeros away ∙ g.was)) refl in
        let V = with_page root [] c₂ in
        let content : stored V P g.first ≡ stored mid P root = stored-other c₂ P root g.first [] apart ∙ stored-same c₁ P g.first g.content held₁ ∙ sym (stored-page mid P root g.content g.was) in
        let others : (x : ℕ) → (x ≡ g.first → ⊥) → (x ≡ root → ⊥) → stored V P x ≡ stored mid P x =
        (λ x a b. stored-other c₂ P root x [] (λ e. b (sym e)) ∙ stored-other c₁ P g.first x g.content (λ e. a (sym e)) ∙ stored-other mid P g.first x zeros (λ e. a (sym e))) in
        let gone : nodes (stored V P) root ≡ None = gone_node V P root (stored-same c₂ P root [] held₂) in
        let moved = moved_first l (stored old P) (stored mid P) (stored V P) root g.first [] ((bound, next) ∷ []) olds (Some []) None want s.fresh fresh s.freed (root ∷ but g.first s.freed) s.became
        (unmet l (nodes (stored mid P)) None now g.first s.became.in_order none) content others also back mine (λ x h. elim (but_either g.first x s.freed h) [ inl e ↦ inl e | inr k ↦ inr (inr k) ]) (inl refl) in
        let writes : (x : ℕ) → (x ≡ root → ⊥) → stored new P x ≡ stored V P x =
        (λ x ne. ap (λ (c : View). stored c P x) g.changed ∙ stored-other c₂ P root x g.top (λ e. ne (sym e)) ∙ sym (stored-other c₂ P root x [] (λ e. ne (sym e)))) in
        let top : nodes (stored new P) root ≡ Some g.node = ap (λ (c : View). node_of (stored c P root)) g.changed ∙ ap node_of (stored-same c₂ P root g.top held₂) ∙ g.node_is in
        let bounds = subst AreBounds (sym g.entries_are) ((g.long, short), tt) in
        let kids : children_of (nodes (stored new P) root) ≡ ([], g.first) ∷ (bound, next) ∷ [] =
        ap children_of top ∙ (λ i. ([], g.leftmost i) ∷ map child_of (g.entries_are i)) ∙ (λ i. ([], g.first) ∷ (bound, g.spelled i) ∷ []) in
        root_so old new P root l (suc l) want level low (record {
          fresh = fresh;
          freed = but g.first s.freed;
          were_free = were;
          are_gone = λ x h.
              let u = but_says g.first x s.freed h in
              let ne : x ≡ root → ⊥ = (λ e. there (gone_node mid P root (ap (stored mid P) (sym e) ∙ s.are_gone x u.0))) in
              writes x ne ∙ others x u.1 ne ∙ s.are_gone x u.0;
          became = write_one l (stored old P) (stored V P) (stored new P) root [] None None ([], g.first) ((bound, next) ∷ []) want olds olds fresh fresh (root ∷ but g.first s.freed) (but g.first s.freed) (Some [])
              (λ x h. h) (λ x h. h) (λ x h. inr h) (λ x h. elim h [ inl e ↦ inl e | inr k ↦ inr k ]) (inl (own_met l (nodes (stored old P)) root))
              (unmet l (nodes (stored V P)) None (([], g.first) ∷ (bound, next) ∷ []) root moved.in_order gone) moved writes (subst (IsInner (suc l)) (sym top) (g.kind_is, g.level_is, bounds)) kids (omega arith) (within_all want);
        })
