-- A tree depends on the pages that it meets alone.
use Rattle.std.proofs.Common.{◌≡◌, ℕ, suc, zero, ◌<◌, List, [], ◌∷◌, ◌++◌, length, Option, None, refl, ap, sym, ◌∙◌, subst, inl, inr, ◌⊎◌}
use Rattle.std.specs.List.{AllByRecursion}
use Rattle.sb_node.specs.Entries.{Entry}
use Rattle.sb_forms.specs.Tree.{Nodes, Child, children_of, entries_of, over, items, met, IsWithin, next_low, AreChildren, IsLeaf, IsInner, IsFull, IsTree, IsChild, Has, Apart}
use Rattle.sb_btree.proofs.Children.{all_map}
use Rattle.sb_btree.proofs.Members.{has_left, has_right, has_either}

pub record AreApart (xs ys : List ℕ) : Type 0 where
  pub first : Apart xs
  pub second : Apart ys
  pub each : (x : ℕ) → Has x xs → Has x ys → ⊥

pub apart-both : (xs ys : List ℕ) → AreApart xs ys → Apart (xs ++ ys)
apart-both [] ys a = a.second
apart-both (x ∷ xs) ys a = (
  λ h. elim (has_either x xs ys h) [ inl p ↦ a.first.0 p | inr q ↦ a.each x (inl refl) q ],
  apart-both xs ys (record { first = a.first.1; second = a.second; each = λ z p q. a.each z (inr p) q }),
)

pub both-apart : (xs ys : List ℕ) → Apart (xs ++ ys) → AreApart xs ys
both-apart [] ys a = record { first = tt; second = a; each = λ x p q. p }
both-apart (x ∷ xs) ys a =
    let rest = both-apart xs ys a.1 in
    record {
      first = (λ h. a.0 (has_left x xs ys h), rest.first);
      second = rest.second;
      each = λ z p q. each z p q a.0 rest.each;
    }
  where
    each : (z : ℕ) → (z ≡ x) ⊎ Has z xs → Has z ys → (Has x (xs ++ ys) → ⊥) → ((w : ℕ) → Has w xs → Has w ys → ⊥) → ⊥
    each z (inl e) q never rest = never (has_right x xs ys (subst (λ w. Has w ys) e q))
    each z (inr h) q never rest = rest z h q

-- the tree at a page is the same
pub record Same (l : ℕ) (N M : Nodes) (p : ℕ) : Type 0 where
  pub items : items l M p ≡ items l N p
  pub met : met l M p ≡ met l N p
  pub tree : IsTree l N p → IsTree l M p
  pub full : IsFull N p → IsFull M p

pub over_same : {A : Type 0} (f g : ℕ → List A) (ks : List Child) → AllByRecursion (λ k. g k.1 ≡ f k.1) ks → over g ks ≡ over f ks
over_same f g [] h = refl
over_same f g (k ∷ ks) h = (λ i. h.0 i ++ over_same f g ks h.1 i)

pub AreChildren_same : (P Q : ℕ → Type 0) (f g : ℕ → List Entry) (high : Option (List ℕ)) (ks : List Child) → AllByRecursion (λ k. g k.1 ≡ f k.1) ks → AllByRecursion (λ k. P k.1 → Q k.1) ks → AreChildren P f high ks → AreChildren Q g high ks
AreChildren_same P Q f g high [] e h a = tt
AreChildren_same P Q f g high (k ∷ ks) e h a = (h.0 a.0, subst (IsWithin k.0 (next_low high ks)) (sym e.0) a.1, a.2, AreChildren_same P Q f g high ks e.1 h.1 a.3)

pub same_over_items : (l : ℕ) (N M : Nodes) (ks : List Child) → AllByRecursion (λ k. Same l N M k.1) ks → over (items l M) ks ≡ over (items l N) ks
same_over_items l N M ks h = over_same (items l N) (items l M) ks (all_map (λ (k : Child). Same l N M k.1) (λ (k : Child). items l M k.1 ≡ items l N k.1) (λ k s. s.items) ks h)

pub same_over_met : (l : ℕ) (N M : Nodes) (ks : List Child) → AllByRecursion (λ k. Same l N M k.1) ks → over (met l M) ks ≡ over (met l N) ks
same_over_met l N M ks h = over_same (met l N) (met l M) ks (all_map (λ (k : Child). Same l N M k.1) (λ (k : Child). met l M k.1 ≡ met l N k.1) (λ k s. s.met) ks h)

pub same_children : (l : ℕ) (N M : Nodes) (high : Option (List ℕ)) (ks : List Child) → AllByRecursion (λ k. Same l N M k.1) ks → AreChildren (IsChild l N) (items l N) high ks → AreChildren (IsChild l M) (items l M) high ks
same_children l N M high ks h a =
    AreChildren_same (IsChild l N) (IsChild l M) (items l N) (items l M) high ks
    (all_map (λ (k : Child). Same l N M k.1) (λ (k : Child). items l M k.1 ≡ items l N k.1) (λ k s. s.items) ks h)
    (all_map (λ (k : Child). Same l N M k.1) (λ (k : Child). IsChild l N k.1 → IsChild l M k.1) (λ k s c. (s.tree c.0, s.full c.1)) ks h)
    a

-- a page with the same children, which are the same, has the same tree
pub same_node : (l : ℕ) (N M : Nodes) (p : ℕ) → M p ≡ N p → AllByRecursion (λ k. Same l N M k.1) (children_of (N p)) → Same (suc l) N M p
same_node l N M p e h = record {
  items = ap (λ o. over (items l M) (children_of o)) e ∙ same_over_items l N M (children_of (N p)) h;
  met = ap (λ xs. p ∷ xs) (ap (λ o. over (met l M) (children_of o)) e ∙ same_over_met l N M (children_of (N p)) h);
  tree = λ t. (subst (IsInner (suc l)) (sym e) t.0, subst (λ o. 0 < length (entries_of o)) (sym e) t.1, subst (λ o. AreChildren (IsChild l M) (items l M) None (children_of o)) (sym e) (same_children l N M None (children_of (N p)) h t.2));
  full = λ f. subst (λ o. 0 < length (entries_of o)) (sym e) f;
}

all_by : (l : ℕ) (N M : Nodes) → ((q : ℕ) → ((x : ℕ) → Has x (met l N q) → M x ≡ N x) → Same l N M q) → (ks : List Child) → ((x : ℕ) → Has x (over (met l N) ks) → M x ≡ N x) → AllByRecursion (λ k. Same l N M k.1) ks
all_by l N M f [] g = tt
all_by l N M f (k ∷ ks) g = (f k.1 (λ x a. g x (has_left x (met l N k.1) (over (met l N) ks) a)), all_by l N M f ks (λ x a. g x (has_right x (met l N k.1) (over (met l N) ks) a)))

-- no page that it meets has changed
pub same : (l : ℕ) (N M : Nodes) (p : ℕ) → ((x : ℕ) → Has x (met l N p) → M x ≡ N x) → Same l N M p
same zero N M p h =
    let e = h p (inl refl) in
    record { items = ap entries_of e; met = refl; tree = λ t. subst IsLeaf (sym e) t; full = λ f. subst (λ o. 0 < length (entries_of o)) (sym e) f }
same (suc l) N M p h = same_node l N M p (h p (inl refl)) (all_by l N M (λ q g. same l N M q g) (children_of (N p)) (λ x a. h x (inr a)))

pub all_same : (l : ℕ) (N M : Nodes) (ks : List Child) → ((x : ℕ) → Has x (over (met l N) ks) → M x ≡ N x) → AllByRecursion (λ k. Same l N M k.1) ks
all_same l N M ks g = all_by l N M (same l N M) ks g

pub some_child : (l : ℕ) (N : Nodes) (x : ℕ) → ((q : ℕ) → IsTree l N q → Has x (met l N q) → ⊥) → (high : Option (List ℕ)) (ks : List Child) → AreChildren (IsChild l N) (items l N) high ks → Has x (over (met l N) ks) → ⊥
some_child l N x f high [] a h = h
some_child l N x f high (k ∷ ks) a h = elim (has_either x (met l N k.1) (over (met l N) ks) h) [ inl p ↦ f k.1 a.0.0 p | inr q ↦ some_child l N x f high ks a.3 q ]

-- each page that a tree meets is a page of its form
pub met_node : (l : ℕ) (N : Nodes) (p x : ℕ) → IsTree l N p → Has x (met l N p) → N x ≡ None → ⊥
met_node zero N p x t (inl e) none = subst IsLeaf (ap N (sym e) ∙ none) t
met_node zero N p x t (inr h) none = h
met_node (suc l) N p x t (inl e) none = subst (IsInner (suc l)) (ap N (sym e) ∙ none) t.0
met_node (suc l) N p x t (inr h) none = some_child l N x (λ q u g. met_node l N q x u g none) None (children_of (N p)) t.2 h
