-- Children in order, and the one in which a key stands.
use Rattle.std.proofs.Common.{◌≡◌, ℕ, suc, true, false, cond, List, [], ◌∷◌, ◌++◌, map, Option, Some, None, refl, ap, sym, ◌∙◌, subst, append_assoc}
use Rattle.std.specs.declared.cmp.Ordering.TheVariants.{Less, Greater}
use Rattle.std.specs.List.{AllByRecursion}
use Rattle.sb_node.specs.Entries.{Entry, key_cmp, is_below}
use Rattle.sb_node.specs.Page.{Node}
use Rattle.sb_forms.specs.Tree.{Nodes, Child, child_of, children_of, over, items, IsUnder, IsWithin, next_low, GoesTo, AreChildren, IsInner, IsFull, IsTree, child_for, child_in}
use Rattle.sb_btree.proofs.Order.{AllLess, AllMore, below-less, above-trans, above-first, below-upto, below-greater, find_middle}
use Rattle.std.specs.FinMap.Entries.{find}

pub over-append : {A : Type 0} (f : ℕ → List A) (xs ys : List Child) → over f (xs ++ ys) ≡ over f xs ++ over f ys
over-append f [] ys = refl
over-append f (x ∷ xs) ys = ap (λ r. f x.1 ++ r) (over-append f xs ys) ∙ sym (append_assoc (f x.1) (over f xs) (over f ys))

pub next-append : (high : Option (List ℕ)) (xs ys : List Child) → next_low high (xs ++ ys) ≡ next_low (next_low high ys) xs
next-append high [] ys = refl
next-append high (x ∷ xs) ys = refl

-- children are in order where the first ones are up to the others
pub AreChildren-append : (P : ℕ → Type 0) (f : ℕ → List Entry) (high : Option (List ℕ)) (xs ys : List Child) → AreChildren P f (next_low high ys) xs → AreChildren P f high ys → AreChildren P f high (xs ++ ys)
AreChildren-append P f high [] ys a b = b
AreChildren-append P f high (x ∷ xs) ys a b =
    let e = next-append high xs ys in
    (a.0, subst (λ h. IsWithin x.0 h (f x.1)) (sym e) a.1, subst (GoesTo x.0) (sym e) a.2, AreChildren-append P f high xs ys a.3 b)

pub AreChildren-left : (P : ℕ → Type 0) (f : ℕ → List Entry) (high : Option (List ℕ)) (xs ys : List Child) → AreChildren P f high (xs ++ ys) → AreChildren P f (next_low high ys) xs
AreChildren-left P f high [] ys a = tt
AreChildren-left P f high (x ∷ xs) ys a =
    let e = next-append high xs ys in
    (a.0, subst (λ h. IsWithin x.0 h (f x.1)) e a.1, subst (GoesTo x.0) e a.2, AreChildren-left P f high xs ys a.3)

pub AreChildren-right : (P : ℕ → Type 0) (f : ℕ → List Entry) (high : Option (List ℕ)) (xs ys : List Child) → AreChildren P f high (xs ++ ys) → AreChildren P f high ys
AreChildren-right P f high [] ys a = a
AreChildren-right P f high (x ∷ xs) ys a = AreChildren-right P f high xs ys a.3

pub all_map : {A : Type 0} (P Q : A → Type 0) → ((x : A) → P x → Q x) → (xs : List A) → AllByRecursion P xs → AllByRecursion Q xs
all_map P Q f [] h = tt
all_map P Q f (x ∷ xs) h = (f x h.0, all_map P Q f xs h.1)

all_append : {A : Type 0} (P : A → Type 0) (xs ys : List A) → AllByRecursion P xs → AllByRecursion P ys → AllByRecursion P (xs ++ ys)
all_append P [] ys a b = b
all_append P (x ∷ xs) ys a b = (a.0, all_append P xs ys a.1 b)

-- what is below the bound of a later child is below the high bound
pub under_up : (low : List ℕ) (high : Option (List ℕ)) (key : List ℕ) → GoesTo low high → is_below key low ≡ true → IsUnder high key
under_up low None key g h = tt
under_up low (Some high) key g h = below-upto key low high h g

-- each item of children in order is not below the first bound
pub children_above : (P : ℕ → Type 0) (f : ℕ → List Entry) (high : Option (List ℕ)) (k : Child) (ks : List Child) → AreChildren P f high (k ∷ ks) → AllByRecursion (λ e. is_below e.0 k.0 ≡ false) (over f (k ∷ ks))
children_above P f high k [] h = all_append (λ (e : Entry). is_below e.0 k.0 ≡ false) (f k.1) [] (all_map (λ (e : Entry). (is_below e.0 k.0 ≡ false) × IsUnder high e.0) (λ (e : Entry). is_below e.0 k.0 ≡ false) (λ e p. p.0) (f k.1) h.1) tt
children_above P f high k (j ∷ ks) h =
    all_append (λ (e : Entry). is_below e.0 k.0 ≡ false) (f k.1) (over f (j ∷ ks))
    (all_map (λ (e : Entry). (is_below e.0 k.0 ≡ false) × IsUnder (Some j.0) e.0) (λ (e : Entry). is_below e.0 k.0 ≡ false) (λ e p. p.0) (f k.1) h.1)
    (all_map (λ (e : Entry). is_below e.0 j.0 ≡ false) (λ (e : Entry). is_below e.0 k.0 ≡ false) (λ e p. above-trans e.0 j.0 k.0 p h.2) (over f (j ∷ ks)) (children_above P f high j ks h.3))

-- the bounds of children in order rise up to the high one
pub children_goes : (P : ℕ → Type 0) (f : ℕ → List Entry) (high : Option (List ℕ)) (k : Child) (ks : List Child) → AreChildren P f high (k ∷ ks) → GoesTo k.0 high
children_goes P f high k [] h = h.2
children_goes P f high k (j ∷ ks) h = goes_on k.0 j.0 high h.2 (children_goes P f high j ks h.3)
  where
    goes_on : (low mid : List ℕ) (high : Option (List ℕ)) → is_below mid low ≡ false → GoesTo mid high → GoesTo low high
    goes_on low mid None a b = tt
    goes_on low mid (Some high) a b = above-trans high mid low b a

pub children_below : (P : ℕ → Type 0) (f : ℕ → List Entry) (high : Option (List ℕ)) (ks : List Child) → AreChildren P f high ks → AllByRecursion (λ e. IsUnder high e.0) (over f ks)
children_below P f high [] h = tt
children_below P f high (k ∷ []) h = all_append (λ (e : Entry). IsUnder high e.0) (f k.1) [] (all_map (λ (e : Entry). (is_below e.0 k.0 ≡ false) × IsUnder high e.0) (λ (e : Entry). IsUnder high e.0) (λ e p. p.1) (f k.1) h.1) tt
children_below P f high (k ∷ j ∷ ks) h =
    all_append (λ (e : Entry). IsUnder high e.0) (f k.1) (over f (j ∷ ks))
    (all_map (λ (e : Entry). (is_below e.0 k.0 ≡ false) × IsUnder (Some j.0) e.0) (λ (e : Entry). IsUnder high e.0) (λ e p. under_up j.0 high e.0 (children_goes P f high j ks h.3) p.1) (f k.1) h.1)
    (children_below P f high (j ∷ ks) h.3)

-- the child in which a key stands, among its neighbours
pub record Chosen (key : List ℕ) (high : Option (List ℕ)) (all : List Child) (child : ℕ) : Type 0 where
  pub before : List Child
  pub kid : Child
  pub after : List Child
  pub parts : all ≡ before ++ kid ∷ after
  pub is : kid.1 ≡ child
  pub low : is_below key kid.0 ≡ false
  pub under : IsUnder (next_low high after) key

pub chosen : (key : List ℕ) (high : Option (List ℕ)) (k : Child) (ks : List Child) → is_below key k.0 ≡ false → IsUnder high key → Chosen key high (k ∷ ks) (child_for key k.1 ks)
chosen key high k [] low under = record { before = []; kid = k; after = []; parts = refl; is = refl; low = low; under = under }
chosen key high k (j ∷ ks) low under =
    elim (is_below key j.0) as (λ t. is_below key j.0 ≡ t → Chosen key high (k ∷ j ∷ ks) (cond t k.1 (child_for key j.1 ks))) [
      | true ↦ λ e. record { before = []; kid = k; after = j ∷ ks; parts = refl; is = refl; low = low; under = e }
      | false ↦ λ e. let rest = chosen key high j ks e under in record { before = k ∷ rest.before; kid = rest.kid; after = rest.after; parts = ap (λ xs. k ∷ xs) rest.parts; is = rest.is; low = rest.low; under = rest.under }
    ] refl

pub less_before : (key low : List ℕ) (es : List Entry) → is_below key low ≡ false → AllByRecursion (λ e. IsUnder (Some low) e.0) es → AllLess key es
less_before key low es h a = all_map (λ (e : Entry). is_below e.0 low ≡ true) (λ (e : Entry). key_cmp key e.0 ≡ Greater) (λ e p. below-greater e.0 key (below-upto e.0 low key p h)) es a

pub more_after : (key : List ℕ) (P : ℕ → Type 0) (f : ℕ → List Entry) (high : Option (List ℕ)) (ks : List Child) → AreChildren P f high ks → IsUnder (next_low high ks) key → AllMore key (over f ks)
more_after key P f high [] h u = tt
more_after key P f high (k ∷ ks) h u = all_map (λ (e : Entry). is_below e.0 k.0 ≡ false) (λ (e : Entry). key_cmp key e.0 ≡ Less) (λ e p. below-less key e.0 (below-upto key k.0 e.0 u p)) (over f (k ∷ ks)) (children_above P f high k ks h)

-- the key stands in the chosen child alone
pub children_find : (P : ℕ → Type 0) (f : ℕ → List Entry) (key : List ℕ) (high : Option (List ℕ)) (k : Child) (ks : List Child) → AreChildren P f high (k ∷ ks) → is_below key k.0 ≡ false → IsUnder high key
    → find key_cmp key (over f (k ∷ ks)) ≡ find key_cmp key (f (child_for key k.1 ks))
children_find P f key high k ks h low under =
    let c = chosen key high k ks low under in
    let h' = subst (AreChildren P f high) c.parts h in
    let tail = AreChildren-right P f high c.before (c.kid ∷ c.after) h' in
    ap (λ xs. find key_cmp key (over f xs)) c.parts
    ∙ ap (find key_cmp key) (over-append f c.before (c.kid ∷ c.after))
    ∙ find_middle key (over f c.before) (f c.kid.1) (over f c.after)
    (less_before key c.kid.0 (over f c.before) c.low (children_below P f (Some c.kid.0) c.before (AreChildren-left P f high c.before (c.kid ∷ c.after) h')))
    (more_after key P f high c.after tail.3 c.under)
    ∙ ap (λ n. find key_cmp key (f n)) c.is

pub children_child : (P : ℕ → Type 0) (f : ℕ → List Entry) (key : List ℕ) (high : Option (List ℕ)) (k : Child) (ks : List Child) → AreChildren P f high (k ∷ ks) → P (child_for key k.1 ks)
children_child P f key high k [] h = h.0
children_child P f key high k (j ∷ ks) h = elim (is_below key j.0) as (λ t. P (cond t k.1 (child_for key j.1 ks))) [ true ↦ h.0 | false ↦ children_child P f key high j ks h.3 ]

-- the chosen child of an inner node
inner_child : (N : Nodes) (l : ℕ) (key : List ℕ) (o : Option Node) → IsInner (suc l) o → AreChildren (λ c. IsTree l N c × IsFull N c) (items l N) None (children_of o) → IsTree l N (child_in key o)
inner_child N l key None i h = absurd i
inner_child N l key (Some n) i h = (children_child (λ c. IsTree l N c × IsFull N c) (items l N) key None ([], n.head.a) (map child_of n.entries) h).0

pub tree_child : (N : Nodes) (l : ℕ) (key : List ℕ) (p : ℕ) → IsTree (suc l) N p → IsTree l N (child_in key (N p))
tree_child N l key p h = inner_child N l key (N p) h.0 h.2

inner_find : (N : Nodes) (l : ℕ) (key : List ℕ) (o : Option Node) → IsInner (suc l) o → AreChildren (λ c. IsTree l N c × IsFull N c) (items l N) None (children_of o) → find key_cmp key (over (items l N) (children_of o)) ≡ find key_cmp key (items l N (child_in key o))
inner_find N l key None i h = absurd i
inner_find N l key (Some n) i h = children_find (λ c. IsTree l N c × IsFull N c) (items l N) key None ([], n.head.a) (map child_of n.entries) h (above-first key) tt

-- a key is found in the child in which it stands
pub tree_step : (N : Nodes) (l : ℕ) (key : List ℕ) (p : ℕ) → IsTree (suc l) N p → find key_cmp key (items (suc l) N p) ≡ find key_cmp key (items l N (child_in key (N p)))
tree_step N l key p h = inner_find N l key (N p) h.0 h.2
