-- A root whose tree has changed: it keeps its level, or its content moves to a fresh page.
use Rattle.std.proofs.Common.{◌≡◌, ℕ, zero, suc, ◌<◌, ◌≤◌, List, [], ◌∷◌, ◌++◌, length, Option, Some, None, refl, ap, sym, ◌∙◌, subst, inl, inr, ◌⊎◌, arith}
use Rattle.std.proofs.lemmas.List.{append-nil}
use Rattle.sb_forms.specs.Pages.{Pages}
use Rattle.sb_node.specs.Entries.{Entry}
use Rattle.sb_node.specs.Page.{Node, node_of}
use Rattle.sb_forms.specs.Tree.{Nodes, nodes, children_of, entries_of, over, items, met, IsWithin, AreChildren, IsLeaf, IsInner, IsFull, IsTree, IsChild, Has, Apart, IsRoot, level_of, tree_items}
use Rattle.sb_btree.specs.Became.{Became}
use Rattle.sb_btree.proofs.Frames.{same, all_same, same_children, same_over_items, same_over_met, met_node}
use Rattle.sb_btree.proofs.Members.{has_left, has_right}
use Rattle.sb_btree.proofs.Became.{made}

-- the tree at a root after a change, and where the pages went
pub record Rooted (P Q : Pages) (root : ℕ) (want : List Entry) (fresh : List ℕ) : Type 0 where
  pub tree : IsRoot (nodes Q) root
  pub entries : tree_items (nodes Q) root ≡ want
  pub from : (x : ℕ) → Has x (met (level_of (nodes Q root)) (nodes Q) root) → Has x (met (level_of (nodes P root)) (nodes P) root) ⊎ Has x fresh
  pub to : (x : ℕ) → Has x (met (level_of (nodes P root)) (nodes P) root) ⊎ Has x fresh → Has x (met (level_of (nodes Q root)) (nodes Q) root)
  pub keeps : (x : ℕ) → (Has x (met (level_of (nodes P root)) (nodes P) root) → ⊥) → (Has x fresh → ⊥) → Q x ≡ P x

pub tree_level : (l : ℕ) (N : Nodes) (p : ℕ) → IsTree l N p → level_of (N p) ≡ l
tree_level zero N p t = leaf_level (N p) t
  where
    leaf_level : (o : Option Node) → IsLeaf o → level_of o ≡ 0
    leaf_level None h = absurd h
    leaf_level (Some n) h = h.1
tree_level (suc l) N p t = inner_level (N p) t.0
  where
    inner_level : (o : Option Node) → IsInner (suc l) o → level_of o ≡ suc l
    inner_level None h = absurd h
    inner_level (Some n) h = h.1

-- a tree at the root, of this level
rooted : (P Q : Pages) (root l l' : ℕ) (want : List Entry) (fresh : List ℕ) → level_of (nodes P root) ≡ l → IsTree l' (nodes Q) root → l' ≤ 16 → Apart (met l' (nodes Q) root) → items l' (nodes Q) root ≡ want
    → ((x : ℕ) → Has x (met l' (nodes Q) root) → Has x (met l (nodes P) root) ⊎ Has x fresh) → ((x : ℕ) → Has x (met l (nodes P) root) ⊎ Has x fresh → Has x (met l' (nodes Q) root))
    → ((x : ℕ) → (Has x (met l (nodes P) root) → ⊥) → (Has x fresh → ⊥) → Q x ≡ P x) → Rooted P Q root want fresh
rooted P Q root l l' want fresh e tree low apart is from to keeps =
    let e' = tree_level l' (nodes Q) root tree in
    record {
      tree = record { tree = subst (λ k. IsTree k (nodes Q) root) (sym e') tree; shallow = subst (λ k. k ≤ 16) (sym e') low; apart = subst (λ k. Apart (met k (nodes Q) root)) (sym e') apart };
      entries = ap (λ k. items k (nodes Q) root) e' ∙ is;
      from = λ x h. subst (λ k. Has x (met k (nodes P) root) ⊎ Has x fresh) (sym e) (from x (subst (λ k. Has x (met k (nodes Q) root)) e' h));
      to = λ x h. subst (λ k. Has x (met k (nodes Q) root)) (sym e') (to x (subst (λ k. Has x (met k (nodes P) root) ⊎ Has x fresh) e h));
      keeps = λ x o f. keeps x (λ h. o (subst (λ k. Has x (met k (nodes P) root)) (sym e) h)) f;
    }

-- a root whose page keeps its level
pub root_kept : (P Q : Pages) (root l : ℕ) (want : List Entry) (fresh : List ℕ) → level_of (nodes P root) ≡ l → l ≤ 16
    → Became l P Q (met l (nodes P) root) (Some []) None (([], root) ∷ []) want fresh [] → Rooted P Q root want fresh
root_kept P Q root l want fresh e low b =
    let pages = append-nil (met l (nodes Q) root) in
    rooted P Q root l l want fresh e b.in_order.0.0 low (subst Apart pages b.apart) (sym (append-nil (items l (nodes Q) root)) ∙ b.entries)
    (λ x h. b.from x (subst (Has x) (sym pages) h)) (λ x h. elim (b.to x h) [ inl m ↦ subst (Has x) pages m | inr z ↦ absurd z ]) b.keeps

-- ---- a page's content in another page
-- the pages that a tree meets below its first one
abbrev pub met_below : ℕ → Nodes → ℕ → List ℕ
met_below zero N p = []
met_below (suc l) N p = over (met l N) (children_of (N p))

pub met_first : (l : ℕ) (N : Nodes) (p : ℕ) → met l N p ≡ p ∷ met_below l N p
met_first zero N p = refl
met_first (suc l) N p = refl

pub record Moved (l : ℕ) (N M : Nodes) (p r : ℕ) : Type 0 where
  pub items_are : items l M r ≡ items l N p
  pub met_are : met l M r ≡ r ∷ met_below l N p
  pub tree : IsTree l N p → IsTree l M r
  pub full : IsFull N p → IsFull M r

pub moved : (l : ℕ) (N M : Nodes) (p r : ℕ) → M r ≡ N p → ((x : ℕ) → Has x (met_below l N p) → M x ≡ N x) → Moved l N M p r
moved zero N M p r e h = record {
  items_are = ap entries_of e;
  met_are = refl;
  tree = λ t. subst IsLeaf (sym e) t;
  full = λ f. subst (λ o. 0 < length (entries_of o)) (sym e) f;
}
moved (suc l) N M p r e h =
    let kids = all_same l N M (children_of (N p)) h in
    record {
      items_are = ap (λ o. over (items l M) (children_of o)) e ∙ same_over_items l N M (children_of (N p)) kids;
      met_are = ap (λ xs. r ∷ xs) (ap (λ o. over (met l M) (children_of o)) e ∙ same_over_met l N M (children_of (N p)) kids);
      tree = λ t. (subst (IsInner (suc l)) (sym e) t.0, subst (λ o. 0 < length (entries_of o)) (sym e) t.1, subst (λ o. AreChildren (IsChild l M) (items l M) None (children_of o)) (sym e) (same_children l N M None (children_of (N p)) kids t.2));
      full = λ f. subst (λ o. 0 < length (entries_of o)) (sym e) f;
    }

-- the root's content moves to a fresh page r, and the root is an inner page over r and q
pub root_moved : (P R Q : Pages) (root l q r : ℕ) (m : List ℕ) (want : List Entry) (fresh : List ℕ) → level_of (nodes P root) ≡ l → suc l ≤ 16 → IsTree l (nodes P) root
    → Became l P R (met l (nodes P) root) (Some []) None (([], root) ∷ (m, q) ∷ []) want fresh []
    → nodes P r ≡ None → (Has r fresh → ⊥) → Q r ≡ R root → ((x : ℕ) → (x ≡ root → ⊥) → (x ≡ r → ⊥) → Q x ≡ R x)
    → IsInner (suc l) (nodes Q root) → children_of (nodes Q root) ≡ ([], r) ∷ (m, q) ∷ []
    → Rooted P Q root want (r ∷ fresh)
root_moved P R Q root l q r m want fresh e low tree b free unused content writes inner is =
    let below = met_below l (nodes R) root in
    let rest = met l (nodes R) q ++ [] in
    let all : met l (nodes R) root ++ rest ≡ root ∷ (below ++ rest) = ap (λ xs. xs ++ rest) (met_first l (nodes R) root) in
    let apart : Apart (root ∷ (below ++ rest)) = subst Apart all b.apart in
    let mine : Has root (met l (nodes P) root) = subst (Has root) (sym (met_first l (nodes P) root)) (inl refl) in
    let came : (x : ℕ) → Has x (root ∷ (below ++ rest)) → Has x (met l (nodes P) root) ⊎ Has x fresh = (λ x h. b.from x (subst (Has x) (sym all) h)) in
    let out : Has r (root ∷ (below ++ rest)) → ⊥ = (λ h. elim (came r h) [ inl o ↦ met_node l (nodes P) root r tree o free | inr f ↦ unused f ]) in
    let unchanged : (x : ℕ) → Has x (below ++ rest) → nodes Q x ≡ nodes R x = (λ x h. ap node_of (writes x (λ s. apart.0 (subst (λ y. Has y (below ++ rest)) s h)) (λ s. out (inr (subst (λ y. Has y (below ++ rest)) s h))))) in
    let there = moved l (nodes R) (nodes Q) root r (ap node_of content) (λ x h. unchanged x (has_left x below rest h)) in
    let beside = same l (nodes R) (nodes Q) q (λ x h. unchanged x (has_right x below rest (has_left x (met l (nodes R) q) [] h))) in
    let first = b.in_order in
    let second = b.in_order.3 in
    let order : AreChildren (IsChild l (nodes Q)) (items l (nodes Q)) None (([], r) ∷ (m, q) ∷ []) =
    ((there.tree first.0.0, there.full first.0.1), subst (IsWithin [] (Some m)) (sym there.items_are) first.1, first.2, ((beside.tree second.0.0, beside.full second.0.1), subst (IsWithin m None) (sym beside.items) second.1, second.2, tt)) in
    let top = made l (nodes Q) root None ([], r) ((m, q) ∷ []) inner is (omega arith) order in
    let pages : met (suc l) (nodes Q) root ≡ root ∷ r ∷ (below ++ rest) = top.pages ∙ (λ i. root ∷ (there.met_are i ++ (beside.met i ++ []))) in
    let have : items (suc l) (nodes Q) root ≡ want = top.entries ∙ (λ i. there.items_are i ++ (beside.items i ++ [])) ∙ b.entries in
    rooted P Q root l (suc l) want (r ∷ fresh) e top.tree.0 low
    (subst Apart (sym pages) ((λ h. elim h [ inl s ↦ out (inl (sym s)) | inr g ↦ apart.0 g ]), ((λ h. out (inr h)), apart.1)))
    have
    (λ x h. from x (came x) (subst (Has x) pages h))
    (λ x h. subst (Has x) (sym pages) (to x (λ g. elim (b.to x g) [ inl a ↦ subst (Has x) all a | inr z ↦ absurd z ]) h))
    (λ x o f. writes x (λ s. o (subst (λ y. Has y (met l (nodes P) root)) (sym s) mine)) (λ s. f (inl s)) ∙ b.keeps x o (λ g. f (inr g)))
  where
    from : (x : ℕ) → (Has x (root ∷ (met_below l (nodes R) root ++ (met l (nodes R) q ++ []))) → Has x (met l (nodes P) root) ⊎ Has x fresh) → Has x (root ∷ r ∷ (met_below l (nodes R) root ++ (met l (nodes R) q ++ []))) → Has x (met l (nodes P) root) ⊎ Has x (r ∷ fresh)
    from x g (inl s) = elim (g (inl s)) [ inl o ↦ inl o | inr f ↦ inr (inr f) ]
    from x g (inr (inl s)) = inr (inl s)
    from x g (inr (inr h)) = elim (g (inr h)) [ inl o ↦ inl o | inr f ↦ inr (inr f) ]

    to : (x : ℕ) → (Has x (met l (nodes P) root) ⊎ Has x fresh → Has x (root ∷ (met_below l (nodes R) root ++ (met l (nodes R) q ++ [])))) → Has x (met l (nodes P) root) ⊎ Has x (r ∷ fresh) → Has x (root ∷ r ∷ (met_below l (nodes R) root ++ (met l (nodes R) q ++ [])))
    to x g (inl o) = behind (g (inl o))
      where
        behind : Has x (root ∷ (met_below l (nodes R) root ++ (met l (nodes R) q ++ []))) → Has x (root ∷ r ∷ (met_below l (nodes R) root ++ (met l (nodes R) q ++ [])))
        behind (inl s) = inl s
        behind (inr h) = inr (inr h)
    to x g (inr (inl s)) = inr (inl s)
    to x g (inr (inr f)) = behind (g (inr f))
      where
        behind : Has x (root ∷ (met_below l (nodes R) root ++ (met l (nodes R) q ++ []))) → Has x (root ∷ r ∷ (met_below l (nodes R) root ++ (met l (nodes R) q ++ [])))
        behind (inl s) = inl s
        behind (inr h) = inr (inr h)
