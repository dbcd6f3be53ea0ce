-- What a change makes of neighbours in a tree, at each level.
use Rattle.std.proofs.Common.{◌≡◌, ℕ, suc, ◌<◌, true, false, List, [], ◌∷◌, ◌++◌, map, length, Option, Some, None, ap, sym, ◌∙◌, subst, inl, inr, ◌⊎◌, arith}
use Rattle.std.specs.List.{AllByRecursion}
use Rattle.std.proofs.lemmas.List.{length-map}
use Rattle.std.specs.Cmp.{tied_itself}
use Rattle.std.specs.Ordering.{is_lt}
use Rattle.std.proofs.lemmas.Cmp.{nat_list_cmp_total}
use Rattle.sb_forms.specs.Pages.{Pages}
use Rattle.sb_node.specs.Entries.{Entry, is_below}
use Rattle.sb_node.specs.Page.{Node, node_of}
use Rattle.sb_forms.specs.Tree.{Nodes, nodes, Child, child_of, children_of, entries_of, over, items, met, IsUnder, IsWithin, next_low, GoesTo, AreChildren, IsInner, IsChild, Has, Apart}
use Rattle.sb_btree.specs.Became.{UpTo, Became}
use Rattle.sb_btree.proofs.Order.{above-trans, above-first, below-upto}
use Rattle.sb_btree.proofs.Children.{all_map, over-append, next-append, AreChildren-append}
use Rattle.sb_btree.proofs.Frames.{apart-both, both-apart, Same, all_same, same_children, same_over_items, same_over_met}
use Rattle.sb_btree.proofs.Members.{has_left, has_right, has_either}

under_raise : (a b : Option (List ℕ)) (key : List ℕ) → UpTo a b → IsUnder a key → IsUnder b key
under_raise a None key u h = tt
under_raise None (Some b) key u h = absurd u
under_raise (Some a) (Some b) key u h = below-upto key a b h u

goes_raise : (low : List ℕ) (a b : Option (List ℕ)) → UpTo a b → GoesTo low a → GoesTo low b
goes_raise low a None u h = tt
goes_raise low None (Some b) u h = absurd u
goes_raise low (Some a) (Some b) u h = above-trans b a low u h

within_raise : (low : List ℕ) (a b : Option (List ℕ)) (es : List Entry) → UpTo a b → IsWithin low a es → IsWithin low b es
within_raise low a b es u h = all_map (λ (e : Entry). (is_below e.0 low ≡ false) × IsUnder a e.0) (λ (e : Entry). (is_below e.0 low ≡ false) × IsUnder b e.0) (λ e p. (p.0, under_raise a b e.0 u p.1)) es h

pub not_below_self : (a : List ℕ) → is_below a a ≡ false
unfolding is_below
not_below_self a = ap is_lt (tied_itself nat_list_cmp_total a)

pub upto_self : (a : Option (List ℕ)) → UpTo a a
upto_self None = tt
upto_self (Some a) = not_below_self a

-- children in order stay so under a higher bound
pub AreChildren_raise : (P : ℕ → Type 0) (f : ℕ → List Entry) (a b : Option (List ℕ)) (ks : List Child) → UpTo a b → AreChildren P f a ks → AreChildren P f b ks
AreChildren_raise P f a b [] u h = tt
AreChildren_raise P f a b (k ∷ []) u h = (h.0, within_raise k.0 a b (f k.1) u h.1, goes_raise k.0 a b u h.2, tt)
AreChildren_raise P f a b (k ∷ j ∷ ks) u h = (h.0, h.1, h.2, AreChildren_raise P f a b (j ∷ ks) u h.3)

-- and with the first bound let go
pub AreChildren_first : (P : ℕ → Type 0) (f : ℕ → List Entry) (high : Option (List ℕ)) (k : Child) (ks : List Child) → AreChildren P f high (k ∷ ks) → AreChildren P f None (([], k.1) ∷ ks)
AreChildren_first P f high k ks h =
    let g = AreChildren_raise P f high None (k ∷ ks) tt h in
    (g.0, all_map (λ (e : Entry). (is_below e.0 k.0 ≡ false) × IsUnder (next_low None ks) e.0) (λ (e : Entry). (is_below e.0 [] ≡ false) × IsUnder (next_low None ks) e.0) (λ e p. (above-first e.0, p.1)) (f k.1) g.1, first_goes (next_low None ks), g.3)
  where
    first_goes : (a : Option (List ℕ)) → GoesTo [] a
    first_goes None = tt
    first_goes (Some b) = above-first b

-- the pages of two lists, where none of the first is among the others
module _ (l : ℕ) (P Q : Pages) (old fresh : List ℕ) (keeps : (x : ℕ) → (Has x old → ⊥) → (Has x fresh → ⊥) → Q x ≡ P x) (ks : List Child)
    (apart : (x : ℕ) → Has x (over (met l (nodes P)) ks) → Has x old → ⊥) (others : (x : ℕ) → Has x (over (met l (nodes P)) ks) → Has x fresh → ⊥) where
  pub untouched : AllByRecursion (λ k. Same l (nodes P) (nodes Q) k.1) ks
  untouched = all_same l (nodes P) (nodes Q) ks (λ x h. ap node_of (keeps x (apart x h) (others x h)))

-- the same among the neighbours on both sides
pub splice : (l : ℕ) (P Q : Pages) (xs ys : List Child) (old : List ℕ) (high start : Option (List ℕ)) (now : List Child) (want : List Entry) (fresh freed : List ℕ)
    → AreChildren (IsChild l (nodes P)) (items l (nodes P)) start xs → AreChildren (IsChild l (nodes P)) (items l (nodes P)) high ys
    → Apart (over (met l (nodes P)) xs ++ (old ++ over (met l (nodes P)) ys))
    → ((x : ℕ) → Has x fresh → Has x (over (met l (nodes P)) xs ++ (old ++ over (met l (nodes P)) ys)) → ⊥)
    → Became l P Q old start (next_low high ys) now want fresh freed
    → Became l P Q (over (met l (nodes P)) xs ++ (old ++ over (met l (nodes P)) ys)) (next_low start xs) high (xs ++ (now ++ ys)) (over (items l (nodes P)) xs ++ (want ++ over (items l (nodes P)) ys)) fresh freed
splice l P Q xs ys old high start now want fresh freed left right apart new b =
    let A = over (met l (nodes P)) xs in
    let C = over (met l (nodes P)) ys in
    let one = both-apart A (old ++ C) apart in
    let two = both-apart old C one.second in
    let sx = untouched l P Q old fresh b.keeps xs (λ x h g. one.each x h (has_left x old C g)) (λ x h g. new x g (has_left x A (old ++ C) h)) in
    let sy = untouched l P Q old fresh b.keeps ys (λ x h g. two.each x g h) (λ x h g. new x g (has_right x A (old ++ C) (has_right x old C h))) in
    let left' = AreChildren_raise (IsChild l (nodes Q)) (items l (nodes Q)) start (next_low (next_low high ys) now) xs b.starts (same_children l (nodes P) (nodes Q) start xs sx left) in
    let right' = same_children l (nodes P) (nodes Q) high ys sy right in
    let seam = next-append high now ys in
    let mx = same_over_met l (nodes P) (nodes Q) xs sx in
    let my = same_over_met l (nodes P) (nodes Q) ys sy in
    let B = over (met l (nodes Q)) now in
    let pages : over (met l (nodes Q)) (xs ++ (now ++ ys)) ≡ A ++ (B ++ C) =
    over-append (met l (nodes Q)) xs (now ++ ys) ∙ (λ i. mx i ++ over-append (met l (nodes Q)) now ys i) ∙ ap (λ zs. A ++ (B ++ zs)) my in
    record {
      in_order = AreChildren-append (IsChild l (nodes Q)) (items l (nodes Q)) high xs (now ++ ys) (subst (λ h. AreChildren (IsChild l (nodes Q)) (items l (nodes Q)) h xs) (sym seam) left') (AreChildren-append (IsChild l (nodes Q)) (items l (nodes Q)) high now ys b.in_order right');
      starts = subst (UpTo (next_low start xs)) (sym (next-append high xs (now ++ ys) ∙ ap (λ h. next_low h xs) seam)) (first_up start (next_low (next_low high ys) now) xs b.starts);
      entries = over-append (items l (nodes Q)) xs (now ++ ys) ∙ (λ i. same_over_items l (nodes P) (nodes Q) xs sx i ++ over-append (items l (nodes Q)) now ys i) ∙ (λ i. over (items l (nodes P)) xs ++ (b.entries i ++ same_over_items l (nodes P) (nodes Q) ys sy i));
      apart = subst Apart (sym pages) (apart-both A (B ++ C) (record {
        first = one.first;
        second = apart-both B C (record { first = b.apart; second = two.second; each = λ x h g. elim (b.from x h) [ inl o ↦ two.each x o g | inr f ↦ new x f (has_right x A (old ++ C) (has_right x old C g)) ] });
        each = λ x h g. elim (has_either x B C g) [
          | inl q ↦ elim (b.from x q) [ inl o ↦ one.each x h (has_left x old C o) | inr f ↦ new x f (has_left x A (old ++ C) h) ]
          | inr q ↦ one.each x h (has_right x old C q)
        ];
      }));
      from = λ x h. from x (has_either x A (B ++ C) (subst (Has x) pages h)) (λ q. has_either x B C q) (b.from x);
      to = λ x h. to x h b.to (subst (Has x) (sym pages));
      keeps = λ x h g. b.keeps x (λ o. h (has_right x A (old ++ C) (has_left x old C o))) g;
    }
  where
    first_up : (a b : Option (List ℕ)) (ks : List Child) → UpTo a b → UpTo (next_low a ks) (next_low b ks)
    first_up a b [] u = u
    first_up a b (k ∷ ks) u = not_below_self k.0

    from : (x : ℕ) → Has x (over (met l (nodes P)) xs) ⊎ Has x (over (met l (nodes Q)) now ++ over (met l (nodes P)) ys) → (Has x (over (met l (nodes Q)) now ++ over (met l (nodes P)) ys) → Has x (over (met l (nodes Q)) now) ⊎ Has x (over (met l (nodes P)) ys)) → (Has x (over (met l (nodes Q)) now) → Has x old ⊎ Has x fresh) → Has x (over (met l (nodes P)) xs ++ (old ++ over (met l (nodes P)) ys)) ⊎ Has x fresh
    from x (inl a) e f = inl (has_left x (over (met l (nodes P)) xs) (old ++ over (met l (nodes P)) ys) a)
    from x (inr bc) e f = elim (e bc) [
      | inl b ↦ elim (f b) [ inl o ↦ inl (has_right x (over (met l (nodes P)) xs) (old ++ over (met l (nodes P)) ys) (has_left x old (over (met l (nodes P)) ys) o)) | inr n ↦ inr n ]
      | inr c ↦ inl (has_right x (over (met l (nodes P)) xs) (old ++ over (met l (nodes P)) ys) (has_right x old (over (met l (nodes P)) ys) c))
    ]

    to : (x : ℕ) → Has x (over (met l (nodes P)) xs ++ (old ++ over (met l (nodes P)) ys)) ⊎ Has x fresh → ((y : ℕ) → Has y old ⊎ Has y fresh → Has y (over (met l (nodes Q)) now) ⊎ Has y freed)
        → (Has x (over (met l (nodes P)) xs ++ (over (met l (nodes Q)) now ++ over (met l (nodes P)) ys)) → Has x (over (met l (nodes Q)) (xs ++ (now ++ ys)))) → Has x (over (met l (nodes Q)) (xs ++ (now ++ ys))) ⊎ Has x freed
    to x (inr f) g there = elim (g x (inr f)) [
      | inl b ↦ inl (there (has_right x (over (met l (nodes P)) xs) (over (met l (nodes Q)) now ++ over (met l (nodes P)) ys) (has_left x (over (met l (nodes Q)) now) (over (met l (nodes P)) ys) b)))
      | inr z ↦ inr z
    ]
    to x (inl h) g there = elim (has_either x (over (met l (nodes P)) xs) (old ++ over (met l (nodes P)) ys) h) [
      | inl a ↦ inl (there (has_left x (over (met l (nodes P)) xs) (over (met l (nodes Q)) now ++ over (met l (nodes P)) ys) a))
      | inr k ↦ elim (has_either x old (over (met l (nodes P)) ys) k) [
        | inl o ↦ elim (g x (inl o)) [
          | inl b ↦ inl (there (has_right x (over (met l (nodes P)) xs) (over (met l (nodes Q)) now ++ over (met l (nodes P)) ys) (has_left x (over (met l (nodes Q)) now) (over (met l (nodes P)) ys) b)))
          | inr z ↦ inr z
        ]
        | inr c ↦ inl (there (has_right x (over (met l (nodes P)) xs) (over (met l (nodes Q)) now ++ over (met l (nodes P)) ys) (has_right x (over (met l (nodes Q)) now) (over (met l (nodes P)) ys) c)))
      ]
    ]

-- a page with these children is a tree of the next level
pub record Made (l : ℕ) (M : Nodes) (q : ℕ) (ks : List Child) : Type 0 where
  pub entries : items (suc l) M q ≡ over (items l M) ks
  pub pages : met (suc l) M q ≡ q ∷ over (met l M) ks
  pub tree : IsChild (suc l) M q

full_of : (o : Option Node) (c : ℕ) (ks : List Child) → children_of o ≡ ([], c) ∷ ks → 0 < length ks → 0 < length (entries_of o)
full_of None c ks e h = absurd (cc)
full_of (Some n) c ks e h =
    let s : length (map child_of n.entries) ≡ length ks = ap length (tail e) in
    omega (arith, s, length-map n.entries child_of, h)
  where
    tail : {a b : Child} {x y : List Child} → a ∷ x ≡ b ∷ y → x ≡ y
    tail e = cc

pub made : (l : ℕ) (M : Nodes) (q : ℕ) (high : Option (List ℕ)) (k : Child) (ks : List Child) → IsInner (suc l) (M q) → children_of (M q) ≡ ([], k.1) ∷ ks → 0 < length ks → AreChildren (IsChild l M) (items l M) high (k ∷ ks) → Made l M q (k ∷ ks)
made l M q high k ks inner e some h =
    let full = full_of (M q) k.1 ks e some in
    record {
      entries = ap (over (items l M)) e;
      pages = ap (λ xs. q ∷ over (met l M) xs) e;
      tree = ((inner, full, subst (AreChildren (IsChild l M) (items l M) None) (sym e) (AreChildren_first (IsChild l M) (items l M) high k ks h)), full);
    }

pub within_left : (low : List ℕ) (high : Option (List ℕ)) (xs ys : List Entry) → IsWithin low high (xs ++ ys) → IsWithin low high xs
within_left low high [] ys h = tt
within_left low high (x ∷ xs) ys h = (h.0, within_left low high xs ys h.1)

pub within_right : (low : List ℕ) (high : Option (List ℕ)) (xs ys : List Entry) → IsWithin low high (xs ++ ys) → IsWithin low high ys
within_right low high [] ys h = h
within_right low high (x ∷ xs) ys h = within_right low high xs ys h.1

pub zipped : (low mid : List ℕ) (high : Option (List ℕ)) (es : List Entry) → IsWithin low high es → AllByRecursion (λ e. is_below e.0 mid ≡ true) es → IsWithin low (Some mid) es
zipped low mid high [] h g = tt
zipped low mid high (e ∷ es) h g = ((h.0.0, g.0), zipped low mid high es h.1 g.1)

pub zipped_up : (low mid : List ℕ) (high : Option (List ℕ)) (es : List Entry) → IsWithin low high es → AllByRecursion (λ e. is_below e.0 mid ≡ false) es → IsWithin mid high es
zipped_up low mid high [] h g = tt
zipped_up low mid high (e ∷ es) h g = ((g.0, h.0.1), zipped_up low mid high es h.1 g.1)
