-- A page over a child that a removal has changed: where the key's place is, and what the page becomes.
use Rattle.std.proofs.Common.{◌≡◌, ℕ, suc, ◌<◌, true, false, cond, List, [], ◌∷◌, ◌++◌, length, map, Option, Some, None, refl, ap, sym, ◌∙◌, subst, inl, inr, ◌⊎◌}
use Rattle.std.proofs.lemmas.List.{append-nil}
use Rattle.std.specs.FinMap.Entries.{find}
use Rattle.sb_forms.specs.Pages.{Pages}
use Rattle.sb_ctx.specs.View.{View, stored}
use Rattle.sb_node.specs.Entries.{Entry, key_cmp, is_below}
use Rattle.sb_node.specs.Page.{Node}
use Rattle.sb_forms.specs.Tree.{nodes, Child, child_of, children_of, over, items, met, IsUnder, IsWithin, next_low, AreChildren, IsInner, IsChild, Has, Apart, child_in}
use Rattle.sb_btree.specs.Became.{Became, IsPlace}
use Rattle.sb_btree.specs.Held.{passed, nth_child}
use Rattle.sb_btree.specs.Removes.{Shrinks, entries_without}
use Rattle.sb_btree.proofs.Order.{AllLess, AllMore, above-first}
use Rattle.sb_btree.proofs.Children.{over-append, next-append, AreChildren-left, AreChildren-right, children_below, less_before, more_after, tree_step}
use Rattle.sb_btree.proofs.Frames.{both-apart, met_node}
use Rattle.sb_btree.proofs.Became.{splice}
use Rattle.sb_btree.proofs.Passing.{child_passed}
use Rattle.sb_btree.proofs.Halved.{free_node}
use Rattle.sb_btree.proofs.Without.{without_at, without_all}
use Rattle.sb_btree.proofs.Shrinking.{page_one, page_none}

-- the child in which a key stands, at its place among its neighbours
pub record PlacedAt (key : List ℕ) (k : Child) (es : List Entry) (i : ℕ) : Type 0 where
  pub before : List Child
  pub kid : Child
  pub after : List Child
  pub parts : k ∷ map child_of es ≡ before ++ kid ∷ after
  pub is : kid.1 ≡ nth_child k.1 es i
  pub low : is_below key kid.0 ≡ false
  pub under : IsUnder (next_low None after) key
  pub count : length before ≡ i

pub placed : (key : List ℕ) (k : Child) (es : List Entry) → is_below key k.0 ≡ false → PlacedAt key k es (passed (Some key) es)
placed key k [] low = record { before = []; kid = k; after = []; parts = refl; is = refl; low = low; under = tt; count = refl }
placed key k (e ∷ es) low =
    elim (is_below key e.0) as (λ t. is_below key e.0 ≡ t → PlacedAt key k (e ∷ es) (cond t 0 (suc (passed (Some key) es)))) [
      | true ↦ λ is. record { before = []; kid = k; after = map child_of (e ∷ es); parts = refl; is = refl; low = low; under = is; count = refl }
      | false ↦ λ is.
          let rest = placed key (child_of e) es is in
          record { before = k ∷ rest.before; kid = rest.kid; after = rest.after; parts = ap (λ xs. k ∷ xs) rest.parts; is = rest.is; low = rest.low; under = rest.under; count = ap suc rest.count }
    ] refl

pub without_within : (key low : List ℕ) (high : Option (List ℕ)) (es : List Entry) → IsWithin low high es → IsWithin low high (entries_without key es)
without_within key low high es h = without_all (λ (e : Entry). (is_below e.0 low ≡ false) × IsUnder high e.0) key es h

module _ (l : ℕ) (old : View) (P : Pages) (page : ℕ) (key low : List ℕ) (high : Option (List ℕ)) (n : Node) (at : nodes (stored old P) page ≡ Some n) (place : IsPlace (suc l) (stored old P) page low high key) where
  abbrev pub kids : List Child
  kids = ([], n.head.a) ∷ map child_of n.entries

  abbrev pub choice : PlacedAt key ([], n.head.a) n.entries (passed (Some key) n.entries)
  choice = placed key ([], n.head.a) n.entries (above-first key)

  pub met_is : met (suc l) (nodes (stored old P)) page ≡ page ∷ over (met l (nodes (stored old P))) kids
  met_is = ap (λ o. page ∷ over (met l (nodes (stored old P))) (children_of o)) at

  pub items_is : items (suc l) (nodes (stored old P)) page ≡ over (items l (nodes (stored old P))) kids
  items_is = ap (λ o. over (items l (nodes (stored old P))) (children_of o)) at

  pub in_order : AreChildren (IsChild l (nodes (stored old P))) (items l (nodes (stored old P))) None kids
  in_order = subst (λ o. AreChildren (IsChild l (nodes (stored old P))) (items l (nodes (stored old P))) None (children_of o)) at place.tree.2

  pub is_inner : IsInner (suc l) (Some n)
  is_inner = subst (IsInner (suc l)) at place.tree.0

  pub apart : Apart (page ∷ over (met l (nodes (stored old P))) kids)
  apart = subst Apart met_is place.apart

  here : Has page (met (suc l) (nodes (stored old P)) page)
  here = subst (Has page) (sym met_is) (inl refl)

  pub was : nodes (stored old P) page ≡ None → ⊥
  was none = met_node (suc l) (nodes (stored old P)) page page place.tree here none

  -- where the child stands
  pub right_order : AreChildren (IsChild l (nodes (stored old P))) (items l (nodes (stored old P))) None (choice.kid ∷ choice.after)
  right_order = AreChildren-right (IsChild l (nodes (stored old P))) (items l (nodes (stored old P))) None choice.before (choice.kid ∷ choice.after) (subst (AreChildren (IsChild l (nodes (stored old P))) (items l (nodes (stored old P))) None) choice.parts in_order)

  pub left_order : AreChildren (IsChild l (nodes (stored old P))) (items l (nodes (stored old P))) (Some choice.kid.0) choice.before
  left_order = AreChildren-left (IsChild l (nodes (stored old P))) (items l (nodes (stored old P))) None choice.before (choice.kid ∷ choice.after) (subst (AreChildren (IsChild l (nodes (stored old P))) (items l (nodes (stored old P))) None) choice.parts in_order)

  pub kid_place : IsPlace l (stored old P) choice.kid.1 choice.kid.0 (next_low None choice.after) key
  kid_place =
      let cut = ap (over (met l (nodes (stored old P)))) choice.parts ∙ over-append (met l (nodes (stored old P))) choice.before (choice.kid ∷ choice.after) in
      let one = both-apart (over (met l (nodes (stored old P))) choice.before) (met l (nodes (stored old P)) choice.kid.1 ++ over (met l (nodes (stored old P))) choice.after) (subst Apart cut apart.1) in
      let two = both-apart (met l (nodes (stored old P)) choice.kid.1) (over (met l (nodes (stored old P))) choice.after) one.second in
      record { tree = right_order.0.0; apart = two.first; within = right_order.1; above = choice.low; under = choice.under; goes = right_order.2 }

  pub kid_in : child_in key (nodes (stored old P) page) ≡ choice.kid.1
  kid_in = ap (child_in key) at ∙ child_passed key n.head.a n.entries ∙ sym choice.is

  -- the key stands there alone
  pub find_is : find key_cmp key (items (suc l) (nodes (stored old P)) page) ≡ find key_cmp key (items l (nodes (stored old P)) choice.kid.1)
  find_is = tree_step (nodes (stored old P)) l key page place.tree ∙ ap (λ c. find key_cmp key (items l (nodes (stored old P)) c)) kid_in

  pub less : AllLess key (over (items l (nodes (stored old P))) choice.before)
  less = less_before key choice.kid.0 (over (items l (nodes (stored old P))) choice.before) choice.low (children_below (IsChild l (nodes (stored old P))) (items l (nodes (stored old P))) (Some choice.kid.0) choice.before left_order)

  pub more : AllMore key (over (items l (nodes (stored old P))) choice.after)
  more = more_after key (IsChild l (nodes (stored old P))) (items l (nodes (stored old P))) None choice.after right_order.3 choice.under

  -- so the others stay
  pub want_is : entries_without key (over (items l (nodes (stored old P))) kids)
      ≡ over (items l (nodes (stored old P))) choice.before ++ (entries_without key (items l (nodes (stored old P)) choice.kid.1) ++ over (items l (nodes (stored old P))) choice.after)
  want_is =
      ap (λ ks. entries_without key (over (items l (nodes (stored old P))) ks)) choice.parts
      ∙ ap (entries_without key) (over-append (items l (nodes (stored old P))) choice.before (choice.kid ∷ choice.after))
      ∙ without_at key (over (items l (nodes (stored old P))) choice.before) (items l (nodes (stored old P)) choice.kid.1) (over (items l (nodes (stored old P))) choice.after) less more

  -- a change of neighbours is one of all the children
  pub whole : (mid : View) (xs mids ys : List Child) (start : Option (List ℕ)) (now : List Child) (want : List Entry) → kids ≡ xs ++ (mids ++ ys) → next_low (next_low None ys) mids ≡ start
      → entries_without key (over (items l (nodes (stored old P))) kids) ≡ over (items l (nodes (stored old P))) xs ++ (want ++ over (items l (nodes (stored old P))) ys)
      → Shrinks old mid l P (over (met l (nodes (stored old P))) mids) start (next_low None ys) now want
      → Shrinks old mid l P (over (met l (nodes (stored old P))) kids) (Some []) None (xs ++ (now ++ ys)) (entries_without key (over (items l (nodes (stored old P))) kids))
  whole mid xs mids ys start now want parts starts wants s =
      let N = nodes (stored old P) in
      let order = subst (AreChildren (IsChild l N) (items l N) None) parts in_order in
      let bound : next_low None (mids ++ ys) ≡ start = next-append None mids ys ∙ starts in
      let left = subst (λ h. AreChildren (IsChild l N) (items l N) h xs) bound (AreChildren-left (IsChild l N) (items l N) None xs (mids ++ ys) order) in
      let right = AreChildren-right (IsChild l N) (items l N) None mids ys (AreChildren-right (IsChild l N) (items l N) None xs (mids ++ ys) order) in
      let pages : over (met l N) kids ≡ over (met l N) xs ++ (over (met l N) mids ++ over (met l N) ys) =
      ap (over (met l N)) parts ∙ over-append (met l N) xs (mids ++ ys) ∙ ap (λ zs. over (met l N) xs ++ zs) (over-append (met l N) mids ys) in
      let new : (x : ℕ) → Has x s.fresh → Has x (over (met l N) xs ++ (over (met l N) mids ++ over (met l N) ys)) → ⊥ =
      (λ x f g. met_node (suc l) N page x place.tree (subst (Has x) (sym met_is) (inr (subst (Has x) (sym pages) g))) (free_node old P x (s.were_free x f))) in
      let first : next_low start xs ≡ Some [] = sym (ap (next_low None) parts ∙ next-append None xs (mids ++ ys) ∙ ap (λ h. next_low h xs) bound) in
      let b = splice l (stored old P) (stored mid P) xs ys (over (met l N) mids) None start now want s.fresh s.freed left right (subst Apart pages apart.1) new s.became in
      let one = subst (λ o. Became l (stored old P) (stored mid P) o (next_low start xs) None (xs ++ (now ++ ys)) (over (items l N) xs ++ (want ++ over (items l N) ys)) s.fresh s.freed) (sym pages) b in
      let two = subst (λ h. Became l (stored old P) (stored mid P) (over (met l N) kids) h None (xs ++ (now ++ ys)) (over (items l N) xs ++ (want ++ over (items l N) ys)) s.fresh s.freed) first one in
      record {
        fresh = s.fresh;
        freed = s.freed;
        were_free = s.were_free;
        are_gone = s.are_gone;
        became = subst (λ w. Became l (stored old P) (stored mid P) (over (met l N) kids) (Some []) None (xs ++ (now ++ ys)) w s.fresh s.freed) (sym wants) two;
      }

  -- of the child alone
  pub whole_kid : (mid : View) (now : List Child) → Shrinks old mid l P (met l (nodes (stored old P)) choice.kid.1) (Some choice.kid.0) (next_low None choice.after) now (entries_without key (items l (nodes (stored old P)) choice.kid.1))
      → Shrinks old mid l P (over (met l (nodes (stored old P))) kids) (Some []) None (choice.before ++ (now ++ choice.after)) (entries_without key (over (items l (nodes (stored old P))) kids))
  whole_kid mid now s =
      whole mid choice.before (choice.kid ∷ []) choice.after (Some choice.kid.0) now (entries_without key (items l (nodes (stored old P)) choice.kid.1)) choice.parts refl want_is
      (subst (λ xs. Shrinks old mid l P xs (Some choice.kid.0) (next_low None choice.after) now (entries_without key (items l (nodes (stored old P)) choice.kid.1))) (sym (append-nil (met l (nodes (stored old P)) choice.kid.1))) s)

  pub into : (x : ℕ) → Has x (over (met l (nodes (stored old P))) kids) → Has x (met (suc l) (nodes (stored old P)) page)
  into x h = subst (Has x) (sym met_is) (inr h)

  pub out_of : (x : ℕ) → Has x (met (suc l) (nodes (stored old P)) page) → (x ≡ page) ⊎ Has x (over (met l (nodes (stored old P))) kids)
  out_of x h = subst (Has x) met_is h

  pub within : IsWithin low high (entries_without key (over (items l (nodes (stored old P))) kids))
  within = subst (λ es. IsWithin low high (entries_without key es)) items_is (without_within key low high (items (suc l) (nodes (stored old P)) page) place.within)

  -- the page is written with the children that there are now
  pub parent_one : (mid new : View) (k : Child) (ks : List Child) (n' : Node) → Shrinks old mid l P (over (met l (nodes (stored old P))) kids) (Some []) None (k ∷ ks) (entries_without key (over (items l (nodes (stored old P))) kids))
      → (nodes (stored mid P) page ≡ None → ⊥) → ((x : ℕ) → (x ≡ page → ⊥) → stored new P x ≡ stored mid P x)
      → nodes (stored new P) page ≡ Some n' → IsInner (suc l) (Some n') → ([], n'.head.a) ∷ map child_of n'.entries ≡ ([], k.1) ∷ ks → 0 < length ks
      → Shrinks old new (suc l) P (met (suc l) (nodes (stored old P)) page) (Some low) high ((low, page) ∷ []) (entries_without key (items (suc l) (nodes (stored old P)) page))
  parent_one mid new k ks n' s there writes is inner list some =
      subst (λ es. Shrinks old new (suc l) P (met (suc l) (nodes (stored old P)) page) (Some low) high ((low, page) ∷ []) (entries_without key es)) (sym items_is)
      (page_one l old mid new P page low high None (Some []) k ks (entries_without key (over (items l (nodes (stored old P))) kids)) (over (met l (nodes (stored old P))) kids) (met (suc l) (nodes (stored old P)) page)
      into out_of here apart.0 was there s writes (subst (IsInner (suc l)) (sym is) inner) (ap children_of is ∙ list) some within)

  -- one child is left, and the page is given back
  pub parent_none : (mid new : View) (k : Child) → Shrinks old mid l P (over (met l (nodes (stored old P))) kids) (Some []) None (k ∷ []) (entries_without key (over (items l (nodes (stored old P))) kids))
      → ((x : ℕ) → (x ≡ page → ⊥) → stored new P x ≡ stored mid P x) → stored new P page ≡ []
      → Shrinks old new l P (met (suc l) (nodes (stored old P)) page) (Some low) high ((low, k.1) ∷ []) (entries_without key (items (suc l) (nodes (stored old P)) page))
  parent_none mid new k s writes gone =
      subst (λ es. Shrinks old new l P (met (suc l) (nodes (stored old P)) page) (Some low) high ((low, k.1) ∷ []) (entries_without key es)) (sym items_is)
      (page_none l old mid new P page low high None (Some []) k (entries_without key (over (items l (nodes (stored old P))) kids)) (over (met l (nodes (stored old P))) kids) (met (suc l) (nodes (stored old P)) page)
      into out_of here apart.0 was s writes gone within)
