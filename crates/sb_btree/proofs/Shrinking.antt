-- Pages that are written where children have changed: one page, or two, of which the other may be one that was given back.
use Rattle.std.proofs.Common.{◌≡◌, ℕ, suc, ◌<◌, true, false, cond, List, [], ◌∷◌, ◌++◌, length, Option, Some, None, refl, ap, sym, ◌∙◌, subst, inl, inr, ◌⊎◌, true≢false}
use Rattle.std.specs.Prelude.{nat_eq}
use Rattle.std.proofs.lemmas.List.{append-nil}
use Rattle.std.proofs.lemmas.Bool.{cases_eq, eqb-true, eq-eqb}
use Rattle.sb_forms.specs.Pages.{Pages}
use Rattle.sb_ctx.specs.View.{View, dropped, stored}
use Rattle.sb_node.specs.Entries.{Entry}
use Rattle.sb_node.specs.Page.{has_form, node_of}
use Rattle.sb_forms.specs.Tree.{Nodes, nodes, Child, children_of, over, items, met, IsWithin, AreChildren, IsInner, IsChild, Has, Apart}
use Rattle.sb_forms.specs.Read.{has}
use Rattle.sb_btree.specs.Became.{Became}
use Rattle.sb_btree.specs.Inserts.{IsFree, WereFree}
use Rattle.sb_btree.specs.Removes.{Shrinks}
use Rattle.sb_btree.proofs.Members.{has_left, has_right, has_is, is_has}
use Rattle.sb_btree.proofs.Frames.{all_same, same_children, same_over_items, same_over_met, some_child, met_node}
use Rattle.sb_btree.proofs.Writing.{write_one, write_two, goes_between}
use Rattle.sb_btree.proofs.Following.{tree_some}
use Rattle.sb_btree.proofs.Became.{upto_self}
use Rattle.sb_btree.proofs.Growing.{met_below, met_first, moved}
use Rattle.sb_btree.proofs.Halved.{free_node}
use Rattle.sb_btree.proofs.Raised.{free_before}

-- ---- tests
pub is_or_not : (x : ℕ) (xs : List ℕ) → Has x xs ⊎ (Has x xs → ⊥)
is_or_not x xs = elim (has x xs) as (λ b. has x xs ≡ b → Has x xs ⊎ (Has x xs → ⊥)) [
  | true ↦ λ e. inl (has_is x xs e)
  | false ↦ λ e. inr (λ h. true≢false (sym (is_has x xs h) ∙ e))
] refl

-- a list without one page
pub but : ℕ → List ℕ → List ℕ
but r [] = []
but r (x ∷ xs) = cond (nat_eq x r) (but r xs) (x ∷ but r xs)

pub but_either : (r x : ℕ) (xs : List ℕ) → Has x xs → (x ≡ r) ⊎ Has x (but r xs)
unfolding but
but_either r x [] h = absurd h
but_either r x (y ∷ xs) h =
    elim (nat_eq y r) as (λ b. nat_eq y r ≡ b → (x ≡ r) ⊎ Has x (cond b (but r xs) (y ∷ but r xs))) [
      | true ↦ λ e. elim h [ inl s ↦ inl (s ∙ eqb-true y r e) | inr g ↦ but_either r x xs g ]
      | false ↦ λ e. elim h [ inl s ↦ inr (inl s) | inr g ↦ elim (but_either r x xs g) [ inl s ↦ inl s | inr k ↦ inr (inr k) ] ]
    ] refl

pub but_says : (r x : ℕ) (xs : List ℕ) → Has x (but r xs) → Has x xs × (x ≡ r → ⊥)
unfolding but
but_says r x [] h = absurd h
but_says r x (y ∷ xs) h =
    elim (nat_eq y r) as (λ b. nat_eq y r ≡ b → Has x (cond b (but r xs) (y ∷ but r xs)) → Has x (y ∷ xs) × (x ≡ r → ⊥)) [
      | true ↦ λ e g. let rest = but_says r x xs g in (inr rest.0, rest.1)
      | false ↦ λ e g. elim g [
        | inl s ↦ (inl s, λ is. true≢false (sym (eq-eqb y r (sym s ∙ is)) ∙ e))
        | inr k ↦ (let rest = but_says r x xs k in (inr rest.0, rest.1))
      ]
    ] refl h

-- ---- pages without bytes
pub no_node : node_of [] ≡ None
unfolding has_form
no_node = refl

pub gone_node : (c : View) (P : Pages) (x : ℕ) → stored c P x ≡ [] → nodes (stored c P) x ≡ None
gone_node c P x e = ap node_of e ∙ no_node

-- children meet no page without a node
pub unmet : (l : ℕ) (N : Nodes) (high : Option (List ℕ)) (ks : List Child) (x : ℕ) → AreChildren (IsChild l N) (items l N) high ks → N x ≡ None → Has x (over (met l N) ks) → ⊥
unmet l N high ks x order none h = some_child l N x (λ q t g. met_node l N q x t g none) high ks order h

pub own_met : (l : ℕ) (N : Nodes) (p : ℕ) → Has p (met l N p)
own_met l N p = subst (Has p) (sym (met_first l N p)) (inl refl)

pub became_freed : (l : ℕ) (P Q : Pages) (old : List ℕ) (start high : Option (List ℕ)) (now : List Child) (want : List Entry) (fresh freed freed' : List ℕ) → Became l P Q old start high now want fresh freed
    → ((x : ℕ) → Has x freed → Has x (over (met l (nodes Q)) now) ⊎ Has x freed') → Became l P Q old start high now want fresh freed'
became_freed l P Q old start high now want fresh freed freed' b f = record {
  in_order = b.in_order;
  starts = b.starts;
  entries = b.entries;
  apart = b.apart;
  from = b.from;
  to = λ x h. elim (b.to x h) [ inl m ↦ inl m | inr g ↦ f x g ];
  keeps = b.keeps;
}

-- ---- one page is written over children
pub page_one : (m : ℕ) (old mid new : View) (P : Pages) (q : ℕ) (low : List ℕ) (high top start : Option (List ℕ)) (k : Child) (ks : List Child) (want : List Entry) (olds olds' : List ℕ)
    → ((x : ℕ) → Has x olds → Has x olds') → ((x : ℕ) → Has x olds' → (x ≡ q) ⊎ Has x olds) → Has q olds' → (Has q olds → ⊥)
    → (nodes (stored old P) q ≡ None → ⊥) → (nodes (stored mid P) q ≡ None → ⊥)
    → Shrinks old mid m P olds start top (k ∷ ks) want
    → ((x : ℕ) → (x ≡ q → ⊥) → stored new P x ≡ stored mid P x)
    → IsInner (suc m) (nodes (stored new P) q) → children_of (nodes (stored new P) q) ≡ ([], k.1) ∷ ks → 0 < length ks → IsWithin low high want
    → Shrinks old new (suc m) P olds' (Some low) high ((low, q) ∷ []) want
page_one m old mid new P q low high top start k ks want olds olds' more split mine never was there s writes inner is some within = record {
  fresh = s.fresh;
  freed = s.freed;
  were_free = s.were_free;
  are_gone = λ x f. writes x (λ e. there (gone_node mid P q (ap (stored mid P) (sym e) ∙ s.are_gone x f))) ∙ s.are_gone x f;
  became =
      write_one m (stored old P) (stored mid P) (stored new P) q low high top k ks want olds olds' s.fresh s.fresh s.freed s.freed start more (λ x h. h) back (λ x g. inr g) (inl mine)
      (λ h. elim (s.became.from q h) [ inl o ↦ never o | inr f ↦ was (free_node old P q (s.were_free q f)) ])
      s.became writes inner is some within;
}
  where
    back : (x : ℕ) → Has x olds' ⊎ Has x s.fresh → (x ≡ q) ⊎ (Has x olds ⊎ Has x s.fresh)
    back x (inr f) = inr (inr f)
    back x (inl h) = elim (split x h) [ inl e ↦ inl e | inr o ↦ inr (inl o) ]

-- ---- the children are split over two pages
-- a page that is free was free before, or was one of the pages that were given back
pub reused : (m : ℕ) (old mid : View) (P : Pages) (r : ℕ) (start top : Option (List ℕ)) (now : List Child) (want : List Entry) (olds : List ℕ) → dropped mid ≡ dropped old → IsFree mid r
    → Shrinks old mid m P olds start top now want → Has r olds ⊎ IsFree old r
reused m old mid P r start top now want olds given free s = elim (is_or_not r olds) [
  | inl o ↦ inl o
  | inr absent ↦ elim (is_or_not r s.fresh) [
    | inl f ↦ inr (s.were_free r f)
    | inr unused ↦ inr (free_before old mid P r given (s.became.keeps r absent unused) free)
  ]
]

module _ (m : ℕ) (old mid new : View) (P : Pages) (q r : ℕ) (low : List ℕ) (high top start : Option (List ℕ)) (k j : Child) (ks js : List Child) (want : List Entry) (olds olds' : List ℕ)
    (more : (x : ℕ) → Has x olds → Has x olds') (split : (x : ℕ) → Has x olds' → (x ≡ q) ⊎ Has x olds) (mine : Has q olds') (never : Has q olds → ⊥)
    (was : nodes (stored old P) q ≡ None → ⊥) (there : nodes (stored mid P) q ≡ None → ⊥)
    (given : dropped mid ≡ dropped old) (free : IsFree mid r)
    (s : Shrinks old mid m P olds start top ((k ∷ ks) ++ (j ∷ js)) want)
    (writes : (x : ℕ) → (x ≡ q → ⊥) → (x ≡ r → ⊥) → stored new P x ≡ stored mid P x)
    (inner_left : IsInner (suc m) (nodes (stored new P) q)) (left_is : children_of (nodes (stored new P) q) ≡ ([], k.1) ∷ ks) (some_left : 0 < length ks)
    (inner_right : IsInner (suc m) (nodes (stored new P) r)) (right_is : children_of (nodes (stored new P) r) ≡ ([], j.1) ∷ js) (some_right : 0 < length js)
    (within : IsWithin low high want) where
  with_fresh : (fresh : List ℕ) → WereFree old fresh → ((x : ℕ) → Has x s.fresh → Has x fresh) → ((x : ℕ) → Has x fresh → (x ≡ r) ⊎ Has x s.fresh) → Has r olds' ⊎ Has r fresh
      → Shrinks old new (suc m) P olds' (Some low) high ((low, q) ∷ (j.0, r) ∷ []) want
  with_fresh fresh were also back mine_right =
      let none = free_node mid P r free in
      let out_right : Has r (over (met m (nodes (stored mid P))) ((k ∷ ks) ++ (j ∷ js))) → ⊥ = unmet m (nodes (stored mid P)) top ((k ∷ ks) ++ (j ∷ js)) r s.became.in_order none in
      let out_left : Has q (over (met m (nodes (stored mid P))) ((k ∷ ks) ++ (j ∷ js))) → ⊥ = (λ h. elim (s.became.from q h) [ inl o ↦ never o | inr f ↦ was (free_node old P q (s.were_free q f)) ]) in
      let two : Became (suc m) (stored old P) (stored new P) olds' (Some low) high ((low, q) ∷ (j.0, r) ∷ []) want fresh s.freed =
      write_two m (stored old P) (stored mid P) (stored new P) q r low high top k j ks js want olds olds' s.fresh fresh s.freed start more also
      (λ x h. elim h [ inl o ↦ elim (split x o) [ inl e ↦ inl (inl e) | inr g ↦ inr (inl g) ] | inr f ↦ elim (back x f) [ inl e ↦ inl (inr e) | inr g ↦ inr (inr g) ] ])
      (inl mine) mine_right (λ e. there (ap (nodes (stored mid P)) e ∙ none)) out_left out_right s.became writes inner_left left_is some_left inner_right right_is some_right within in
      record {
        fresh = fresh;
        freed = but r s.freed;
        were_free = were;
        are_gone = λ x f. let g = but_says r x s.freed f in writes x (λ e. there (gone_node mid P q (ap (stored mid P) (sym e) ∙ s.are_gone x g.0))) g.1 ∙ s.are_gone x g.0;
        became = became_freed (suc m) (stored old P) (stored new P) olds' (Some low) high ((low, q) ∷ (j.0, r) ∷ []) want fresh s.freed (but r s.freed) two
            (λ x f. elim (but_either r x s.freed f) [ inl e ↦ inl (subst (λ y. Has y (over (met (suc m) (nodes (stored new P))) ((low, q) ∷ (j.0, r) ∷ []))) (sym e) met_right) | inr g ↦ inr g ]);
      }
    where
      met_right : Has r (over (met (suc m) (nodes (stored new P))) ((low, q) ∷ (j.0, r) ∷ []))
      met_right = has_right r (met (suc m) (nodes (stored new P)) q) (met (suc m) (nodes (stored new P)) r ++ []) (inl refl)

  pub page_two : Shrinks old new (suc m) P olds' (Some low) high ((low, q) ∷ (j.0, r) ∷ []) want
  page_two = elim (reused m old mid P r start top ((k ∷ ks) ++ (j ∷ js)) want olds given free s) [
    | inl o ↦ with_fresh s.fresh s.were_free (λ x h. h) (λ x h. inr h) (inl (more r o))
    | inr f ↦ with_fresh (r ∷ s.fresh) (λ x h. elim h [ inl e ↦ subst (λ y. IsFree old y) (sym e) f | inr g ↦ s.were_free x g ]) (λ x h. inr h) (λ x h. h) (inr (inl refl))
  ]

-- ---- a page over one child is given back
pub page_none : (m : ℕ) (old mid new : View) (P : Pages) (q : ℕ) (low : List ℕ) (high top start : Option (List ℕ)) (k : Child) (want : List Entry) (olds olds' : List ℕ)
    → ((x : ℕ) → Has x olds → Has x olds') → ((x : ℕ) → Has x olds' → (x ≡ q) ⊎ Has x olds) → Has q olds' → (Has q olds → ⊥)
    → (nodes (stored old P) q ≡ None → ⊥)
    → Shrinks old mid m P olds start top (k ∷ []) want
    → ((x : ℕ) → (x ≡ q → ⊥) → stored new P x ≡ stored mid P x) → stored new P q ≡ [] → IsWithin low high want
    → Shrinks old new m P olds' (Some low) high ((low, k.1) ∷ []) want
page_none m old mid new P q low high top start k want olds olds' more split mine never was s writes gone within =
    let out : Has q (met m (nodes (stored mid P)) k.1 ++ []) → ⊥ = (λ h. elim (s.became.from q h) [ inl o ↦ never o | inr f ↦ was (free_node old P q (s.were_free q f)) ]) in
    let kids = all_same m (nodes (stored mid P)) (nodes (stored new P)) ((low, k.1) ∷ []) (λ x h. ap node_of (writes x (λ e. out (subst (λ y. Has y (met m (nodes (stored mid P)) k.1 ++ [])) e h)))) in
    let pages = same_over_met m (nodes (stored mid P)) (nodes (stored new P)) ((low, k.1) ∷ []) kids in
    let have : over (items m (nodes (stored new P))) ((low, k.1) ∷ []) ≡ want = same_over_items m (nodes (stored mid P)) (nodes (stored new P)) ((low, k.1) ∷ []) kids ∙ s.became.entries in
    let child : IsChild m (nodes (stored new P)) k.1 = (kids.0.tree s.became.in_order.0.0, kids.0.full s.became.in_order.0.1) in
    let w : IsWithin low high (items m (nodes (stored new P)) k.1) = subst (IsWithin low high) (sym have ∙ append-nil (items m (nodes (stored new P)) k.1)) within in
    record {
      fresh = s.fresh;
      freed = q ∷ s.freed;
      were_free = s.were_free;
      are_gone = λ x f. elim f [ inl e ↦ ap (stored new P) e ∙ gone | inr g ↦ elim (cases_eq x q) [ inl e ↦ ap (stored new P) e ∙ gone | inr ne ↦ writes x ne ∙ s.are_gone x g ] ];
      became = record {
        in_order = (child, w, goes_between low high (items m (nodes (stored new P)) k.1) (tree_some m (nodes (stored new P)) k.1 child.0 child.1) w, tt);
        starts = upto_self (Some low);
        entries = have;
        apart = subst Apart (sym pages) s.became.apart;
        from = λ x h. elim (s.became.from x (subst (Has x) pages h)) [ inl o ↦ inl (more x o) | inr f ↦ inr f ];
        to = λ x h. elim (back x h) [
          | inl e ↦ inr (inl e)
          | inr g ↦ elim (s.became.to x g) [ inl a ↦ inl (subst (Has x) (sym pages) a) | inr z ↦ inr (inr z) ]
        ];
        keeps = λ x o f. writes x (λ e. o (subst (λ y. Has y olds') (sym e) mine)) ∙ s.became.keeps x (λ a. o (more x a)) f;
      };
    }
  where
    back : (x : ℕ) → Has x olds' ⊎ Has x s.fresh → (x ≡ q) ⊎ (Has x olds ⊎ Has x s.fresh)
    back x (inr f) = inr (inr f)
    back x (inl h) = elim (split x h) [ inl e ↦ inl e | inr o ↦ inr (inl o) ]

-- ---- the first child's content moves to another page
pub moved_first : (l : ℕ) (P R Q : Pages) (c d : ℕ) (b : List ℕ) (ys : List Child) (old : List ℕ) (start high : Option (List ℕ)) (want : List Entry) (fresh fresh' freed freed' : List ℕ)
    → Became l P R old start high ((b, c) ∷ ys) want fresh freed
    → (Has d (over (met l (nodes R)) ((b, c) ∷ ys)) → ⊥) → Q d ≡ R c → ((x : ℕ) → (x ≡ d → ⊥) → (x ≡ c → ⊥) → Q x ≡ R x)
    → ((x : ℕ) → Has x fresh → Has x fresh') → ((x : ℕ) → Has x fresh' → (x ≡ d) ⊎ Has x fresh) → Has d old ⊎ Has d fresh'
    → ((x : ℕ) → Has x freed → (x ≡ d) ⊎ Has x freed') → Has c freed'
    → Became l P Q old start high ((b, d) ∷ ys) want fresh' freed'
moved_first l P R Q c d b ys old start high want fresh fresh' freed freed' s out content writes also back mine gone given =
    let below = met_below l (nodes R) c in
    let rest = over (met l (nodes R)) ys in
    let all : over (met l (nodes R)) ((b, c) ∷ ys) ≡ c ∷ (below ++ rest) = ap (λ xs. xs ++ rest) (met_first l (nodes R) c) in
    let apart : Apart (c ∷ (below ++ rest)) = subst Apart all s.apart in
    let none : Has d (c ∷ (below ++ rest)) → ⊥ = (λ h. out (subst (Has d) (sym all) h)) in
    let same : (x : ℕ) → Has x (below ++ rest) → nodes Q x ≡ nodes R x =
    (λ x h. ap node_of (writes x (λ e. none (inr (subst (λ y. Has y (below ++ rest)) e h))) (λ e. apart.0 (subst (λ y. Has y (below ++ rest)) e h)))) in
    let there = moved l (nodes R) (nodes Q) c d (ap node_of content) (λ x h. same x (has_left x below rest h)) in
    let kids = all_same l (nodes R) (nodes Q) ys (λ x h. same x (has_right x below rest h)) in
    let pages : over (met l (nodes Q)) ((b, d) ∷ ys) ≡ d ∷ (below ++ rest) = (λ i. there.met_are i ++ same_over_met l (nodes R) (nodes Q) ys kids i) in
    record {
      in_order = (
        (there.tree s.in_order.0.0, there.full s.in_order.0.1),
        subst (IsWithin b _) (sym there.items_are) s.in_order.1,
        s.in_order.2,
        same_children l (nodes R) (nodes Q) high ys kids s.in_order.3,
      );
      starts = s.starts;
      entries = (λ i. there.items_are i ++ same_over_items l (nodes R) (nodes Q) ys kids i) ∙ s.entries;
      apart = subst Apart (sym pages) ((λ h. none (inr h)), apart.1);
      from = λ x h. from x (subst (Has x) pages h) (λ g. s.from x (subst (Has x) (sym all) (inr g)));
      to = λ x h. elim (was x h) [
        | inl e ↦ inl (subst (Has x) (sym pages) (inl e))
        | inr g ↦ to x (s.to x g) (λ m. subst (Has x) all m) (λ m. subst (Has x) (sym pages) m)
      ];
      keeps = λ x o f. writes x (λ e. no_new x o f e) (λ e. no_old x o f e (s.from c (subst (Has c) (sym all) (inl refl)))) ∙ s.keeps x o (λ g. f (also x g));
    }
  where
    from : (x : ℕ) → (x ≡ d) ⊎ Has x (met_below l (nodes R) c ++ over (met l (nodes R)) ys) → (Has x (met_below l (nodes R) c ++ over (met l (nodes R)) ys) → Has x old ⊎ Has x fresh) → Has x old ⊎ Has x fresh'
    from x (inl e) f = elim mine [ inl o ↦ inl (subst (λ y. Has y old) (sym e) o) | inr g ↦ inr (subst (λ y. Has y fresh') (sym e) g) ]
    from x (inr h) f = elim (f h) [ inl o ↦ inl o | inr g ↦ inr (also x g) ]

    was : (x : ℕ) → Has x old ⊎ Has x fresh' → (x ≡ d) ⊎ (Has x old ⊎ Has x fresh)
    was x (inl o) = inr (inl o)
    was x (inr f) = elim (back x f) [ inl e ↦ inl e | inr g ↦ inr (inr g) ]

    to : (x : ℕ) → Has x (over (met l (nodes R)) ((b, c) ∷ ys)) ⊎ Has x freed → (Has x (over (met l (nodes R)) ((b, c) ∷ ys)) → (x ≡ c) ⊎ Has x (met_below l (nodes R) c ++ over (met l (nodes R)) ys))
        → ((x ≡ d) ⊎ Has x (met_below l (nodes R) c ++ over (met l (nodes R)) ys) → Has x (over (met l (nodes Q)) ((b, d) ∷ ys))) → Has x (over (met l (nodes Q)) ((b, d) ∷ ys)) ⊎ Has x freed'
    to x (inl m) f g = elim (f m) [ inl e ↦ inr (subst (λ y. Has y freed') (sym e) given) | inr h ↦ inl (g (inr h)) ]
    to x (inr z) f g = elim (gone x z) [ inl e ↦ inl (g (inl e)) | inr h ↦ inr h ]

    no_new : (x : ℕ) → (Has x old → ⊥) → (Has x fresh' → ⊥) → x ≡ d → ⊥
    no_new x o f e = elim mine [ inl a ↦ o (subst (λ y. Has y old) (sym e) a) | inr a ↦ f (subst (λ y. Has y fresh') (sym e) a) ]

    no_old : (x : ℕ) → (Has x old → ⊥) → (Has x fresh' → ⊥) → x ≡ c → Has c old ⊎ Has c fresh → ⊥
    no_old x o f e (inl a) = o (subst (λ y. Has y old) (sym e) a)
    no_old x o f e (inr a) = f (also x (subst (λ y. Has y fresh) (sym e) a))
