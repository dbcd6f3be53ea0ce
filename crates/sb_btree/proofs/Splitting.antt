-- An entry more in an inner page, and a list of entries that is cut in two.
use Rattle.std.proofs.Common.{◌≡◌, ℕ, ◌<◌, true, false, List, [], ◌∷◌, ◌++◌, map, length, Option, Some, None, refl, ap, sym, ◌∙◌, subst, arith, T}
use Rattle.std.specs.declared.cmp.Ordering.TheVariants.{Less, Greater}
use Rattle.std.specs.Ordering.{is_lt}
use Rattle.std.specs.List.{AllByRecursion}
use Rattle.std.specs.FinMap.Entries.{put, is_sorted, by_order, below_all}
use Rattle.sb_bytes.specs.Field.{number_at}
use Rattle.sb_forms.specs.Pages.{Pages}
use Rattle.sb_node.specs.Entries.{Entry, key_cmp, is_below}
use Rattle.sb_node.proofs.Sizes.{first, second, T_to}
use Rattle.sb_forms.specs.Tree.{Nodes, nodes, Child, child_of, items, met, IsUnder, IsWithin, next_low, AreChildren, IsChild}
use Rattle.sb_btree.specs.Became.{Became}
use Rattle.sb_btree.proofs.Order.{below-less, below-greater, below-upto, upto-below}
use Rattle.sb_btree.proofs.Children.{AreChildren-left, AreChildren-right, children_goes, Chosen}
use Rattle.sb_btree.proofs.Following.{tree_some}
use Rattle.sb_btree.proofs.Became.{not_below_self}
use Rattle.sb_btree.proofs.Writing.{below_not}

pub strictly : (low high : List ℕ) (es : List Entry) → 0 < length es → IsWithin low (Some high) es → is_below low high ≡ true
strictly low high [] some h = absurd (omega arith)
strictly low high (e ∷ es) some h = upto-below low e.0 high h.0.0 h.0.1

pub tail_of : {A : Type 0} (a b : A) (xs ys : List A) → a ∷ xs ≡ b ∷ ys → xs ≡ ys
tail_of a b xs ys e = cc

pub head_of : {A : Type 0} (a b : A) (xs ys : List A) → a ∷ xs ≡ b ∷ ys → a ≡ b
head_of a b xs ys e = cc

put_before : (m v : List ℕ) (es : List Entry) → AllByRecursion (λ k. key_cmp m k.0 ≡ Less) (map child_of es) → put key_cmp m v es ≡ (m, v) ∷ es
put_before m v [] h = refl
put_before m v (e ∷ es) h = ap (λ o. by_order o ((m, v) ∷ e ∷ es) ((e.0, v) ∷ es) (e ∷ put key_cmp m v es)) h.0

-- to put an entry behind the chosen child is to put a child there
pub put_kid : (m v : List ℕ) (k : Child) (es : List Entry) (before : List Child) (kid : Child) (after : List Child) → k ∷ map child_of es ≡ before ++ kid ∷ after
    → AllByRecursion (λ j. key_cmp m j.0 ≡ Greater) (before ++ kid ∷ []) → AllByRecursion (λ j. key_cmp m j.0 ≡ Less) after
    → k ∷ map child_of (put key_cmp m v es) ≡ before ++ (kid ∷ (m, number_at 4 v 0) ∷ after)
put_kid m v k es [] kid after e g l =
    let t = tail_of k kid (map child_of es) after e in
    let p = put_before m v es (subst (λ xs. AllByRecursion (λ j. key_cmp m j.0 ≡ Less) xs) (sym t) l) in
    (λ i. head_of k kid (map child_of es) after e i ∷ map child_of (p i)) ∙ ap (λ xs. kid ∷ (m, number_at 4 v 0) ∷ xs) t
put_kid m v k [] (b ∷ bs) kid after e g l = absurd (short bs (tail_of k b [] (bs ++ kid ∷ after) e))
  where
    short : (bs : List Child) → [] ≡ bs ++ kid ∷ after → ⊥
    short [] e = cc
    short (b ∷ bs) e = cc
put_kid m v k (x ∷ es) (b ∷ bs) kid after e g l =
    let t = tail_of k b (child_of x ∷ map child_of es) (bs ++ kid ∷ after) e in
    let more = first_is bs t g.1 in
    (λ i. head_of k b (child_of x ∷ map child_of es) (bs ++ kid ∷ after) e i ∷ map child_of (by_order (more i) ((m, v) ∷ x ∷ es) ((x.0, v) ∷ es) (x ∷ put key_cmp m v es)))
    ∙ ap (λ xs. b ∷ xs) (put_kid m v (child_of x) es bs kid after t g.1 l)
  where
    first_is : (bs : List Child) → child_of x ∷ map child_of es ≡ bs ++ kid ∷ after → AllByRecursion (λ j. key_cmp m j.0 ≡ Greater) (bs ++ kid ∷ []) → key_cmp m x.0 ≡ Greater
    first_is [] e h = ap (λ (j : Child). key_cmp m j.0) (head_of (child_of x) kid (map child_of es) after e) ∙ h.0
    first_is (b ∷ bs) e h = ap (λ (j : Child). key_cmp m j.0) (head_of (child_of x) b (map child_of es) (bs ++ kid ∷ after) e) ∙ h.0

-- the bounds of children up to one are no higher
bounds_upto : (P : ℕ → Type 0) (f : ℕ → List Entry) (low m : List ℕ) (before : List Child) (c : ℕ) → AreChildren P f (Some low) before → is_below low m ≡ true → AllByRecursion (λ j. key_cmp m j.0 ≡ Greater) (before ++ (low, c) ∷ [])
bounds_upto P f low m [] c h s = (below-greater low m s, tt)
bounds_upto P f low m (b ∷ bs) c h s = (below-greater b.0 m (upto-below b.0 low m (children_goes P f (Some low) b bs h) s), bounds_upto P f low m bs c h.3 s)

bounds_above : (P : ℕ → Type 0) (f : ℕ → List Entry) (m : List ℕ) (high : Option (List ℕ)) (after : List Child) → AreChildren P f high after → IsUnder (next_low high after) m → AllByRecursion (λ j. key_cmp m j.0 ≡ Less) after
bounds_above P f m high [] h u = tt
bounds_above P f m high (k ∷ []) h u = (below-less m k.0 u, tt)
bounds_above P f m high (k ∷ j ∷ ks) h u = (below-less m k.0 u, bounds_above P f m high (j ∷ ks) h.3 (below-upto m k.0 j.0 u h.2))

-- the first key of what is not empty lies below the high bound
under_high : (low : List ℕ) (high : Option (List ℕ)) (es : List Entry) → 0 < length es → IsWithin low high es → IsUnder high low
under_high low None es some h = tt
under_high low (Some high) es some h = strictly low high es some h

-- Where the chosen child became two, and the node has room, the entry of the second is put into the node: its children are then the new ones.
pub children_grown : (l : ℕ) (P Q : Pages) (key : List ℕ) (a : ℕ) (es : List Entry) (child q : ℕ) (m v : List ℕ) (want : List Entry) (fresh freed : List ℕ)
    → AreChildren (IsChild l (nodes P)) (items l (nodes P)) None (([], a) ∷ map child_of es) → (c : Chosen key None (([], a) ∷ map child_of es) child)
    → Became l P Q (met l (nodes P) c.kid.1) (Some c.kid.0) (next_low None c.after) ((c.kid.0, c.kid.1) ∷ (m, q) ∷ []) want fresh freed
    → number_at 4 v 0 ≡ q
    → ([], a) ∷ map child_of (put key_cmp m v es) ≡ c.before ++ (((c.kid.0, c.kid.1) ∷ (m, q) ∷ []) ++ c.after)
children_grown l P Q key a es child q m v want fresh freed h c b spelled =
    let h' = subst (AreChildren (IsChild l (nodes P)) (items l (nodes P)) None) c.parts h in
    let left = AreChildren-left (IsChild l (nodes P)) (items l (nodes P)) None c.before (c.kid ∷ c.after) h' in
    let right = AreChildren-right (IsChild l (nodes P)) (items l (nodes P)) None c.before (c.kid ∷ c.after) h' in
    let above = strictly c.kid.0 m (items l (nodes Q) c.kid.1) (tree_some l (nodes Q) c.kid.1 b.in_order.0.0 b.in_order.0.1) b.in_order.1 in
    let under = under_high m (next_low None c.after) (items l (nodes Q) q) (tree_some l (nodes Q) q b.in_order.3.0.0 b.in_order.3.0.1) b.in_order.3.1 in
    put_kid m v ([], a) es c.before c.kid c.after c.parts
    (bounds_upto (IsChild l (nodes P)) (items l (nodes P)) c.kid.0 m c.before c.kid.1 left above)
    (bounds_above (IsChild l (nodes P)) (items l (nodes P)) m None c.after right.3 under)
    ∙ ap (λ n. c.before ++ (c.kid ∷ (m, n) ∷ c.after)) spelled

-- ---- entries that are cut in two

below_T : (x y : List ℕ) → T (is_lt (key_cmp x y)) → is_below x y ≡ true
unfolding is_below
below_T x y p = T_to (is_lt (key_cmp x y)) p

below_at : (x : List ℕ) (xs : List Entry) (m : Entry) (ys : List Entry) → T (below_all key_cmp x (xs ++ m ∷ ys)) → is_below x m.0 ≡ true
below_at x [] m ys h = below_T x m.0 (first _ _ h)
below_at x (e ∷ xs) m ys h = below_at x xs m ys (second _ _ h)

pub cut_below : (xs : List Entry) (m : Entry) (ys : List Entry) → T (is_sorted key_cmp (xs ++ m ∷ ys)) → AllByRecursion (λ e. is_below e.0 m.0 ≡ true) xs
cut_below [] m ys h = tt
cut_below (x ∷ xs) m ys h = (below_at x.0 xs m ys (first _ _ h), cut_below xs m ys (second _ _ h))

all_above : (x : List ℕ) (ys : List Entry) → T (below_all key_cmp x ys) → AllByRecursion (λ e. is_below e.0 x ≡ false) ys
all_above x [] h = tt
all_above x (y ∷ ys) h = (below_not x y.0 (below_T x y.0 (first _ _ h)), all_above x ys (second _ _ h))

pub cut_above : (xs : List Entry) (m : Entry) (ys : List Entry) → T (is_sorted key_cmp (xs ++ m ∷ ys)) → AllByRecursion (λ e. is_below e.0 m.0 ≡ false) (m ∷ ys)
cut_above [] m ys h = (not_below_self m.0, all_above m.0 ys (first _ _ h))
cut_above (x ∷ xs) m ys h = cut_above xs m ys (second _ _ h)

-- ---- an entry behind a child, among children that are in order with it
pub kids_grown : (l : ℕ) (N : Nodes) (a : ℕ) (es : List Entry) (before : List Child) (kid : Child) (after : List Child) (m v : List ℕ) (q : ℕ)
    → ([], a) ∷ map child_of es ≡ before ++ kid ∷ after → AreChildren (IsChild l N) (items l N) None (before ++ (kid ∷ (m, q) ∷ after)) → number_at 4 v 0 ≡ q
    → ([], a) ∷ map child_of (put key_cmp m v es) ≡ before ++ (kid ∷ (m, q) ∷ after)
kids_grown l N a es before kid after m v q parts order spelled =
    let left = AreChildren-left (IsChild l N) (items l N) None before (kid ∷ (m, q) ∷ after) order in
    let right = AreChildren-right (IsChild l N) (items l N) None before (kid ∷ (m, q) ∷ after) order in
    let above = strictly kid.0 m (items l N kid.1) (tree_some l N kid.1 right.0.0 right.0.1) right.1 in
    let under = under_high m (next_low None after) (items l N q) (tree_some l N q right.3.0.0 right.3.0.1) right.3.1 in
    put_kid m v ([], a) es before kid after parts
    (bounds_upto (IsChild l N) (items l N) kid.0 m before kid.1 left above)
    (bounds_above (IsChild l N) (items l N) m None after right.3.3 under)
    ∙ ap (λ n. before ++ (kid ∷ (m, n) ∷ after)) spelled
