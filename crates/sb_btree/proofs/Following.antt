-- The first entry behind a key: in the child in which the key stands, or in the next one.
use Rattle.std.proofs.Common.{◌≡◌, ℕ, zero, suc, ◌<◌, true, false, cond, List, [], ◌∷◌, length, map, Option, Some, None, option_map, is_some, refl, ap, sym, ◌∙◌, subst, inl, inr, ◌⊎◌, arith, true≢false, length-append}
use Rattle.std.specs.Prelude.{nat_lt, Err}
use Rattle.std.specs.List.{find as first}
use Rattle.std.proofs.lemmas.Bool.{lt-ltb, le-ltb}
use Rattle.sb_ctx.specs.View.{View, page_of}
use Rattle.sb_node.specs.declared.head.Head.{Head}
use Rattle.sb_node.specs.Entries.{Entry}
use Rattle.sb_node.specs.Page.{Node, node_in}
use Rattle.sb_forms.specs.Tree.{Nodes, child_of, children_of, entries_of, over, items, AreChildren, IsInner, IsFull, IsChild, IsTree, Has}
use Rattle.sb_forms.specs.Read.{has}
use Rattle.sb_btree.specs.Held.{IsTreePage, passed, nth_child}
use Rattle.sb_btree.specs.Ways.{child_on, way, is_behind, way_to, next_ways}
use Rattle.sb_btree.specs.Walks.{as_walk, Leads, Shows}
use Rattle.sb_btree.specs.Leaves.{entry_in, in_leaf}
use Rattle.sb_btree.specs.declared.lookup.LeafEntry.{LeafEntry}
use Rattle.sb_btree.specs.declared.walk.Stop.{Stop}
use Rattle.sb_btree.specs.declared.walk.Stop.TheVariants as stop
use Rattle.sb_btree.specs.declared.walk.Walk.{Walk}
use Rattle.sb_btree.specs.declared.walk.Walk.TheVariants.{Ready, Need, Fresh, Broken, NoMemory}
use Rattle.sb_btree.proofs.Descending.{child_on-passed, shown, way_first, without_leaf}
use Rattle.sb_btree.proofs.Members.{has_left, has_right, has_either, has_is, is_has}
use Rattle.sb_btree.proofs.Passing.{or_else, next_over, nth_is, child_for-entry}
use Rattle.sb_btree.proofs.Placing.{nth_first, page_count}

-- ---- a full tree has entries
pub tree_some : (l : ℕ) (N : Nodes) (p : ℕ) → IsTree l N p → IsFull N p → 0 < length (items l N p)
tree_some zero N p t full = full
tree_some (suc l) N p t full = by (λ c h. tree_some l N c h.0 h.1) (N p) t.0 t.2
  where
    by : ((c : ℕ) → IsChild l N c → 0 < length (items l N c)) → (o : Option Node) → IsInner (suc l) o → AreChildren (IsChild l N) (items l N) None (children_of o) → 0 < length (over (items l N) (children_of o))
    by each None i h = absurd i
    by each (Some n) i h = omega (arith, length-append (items l N n.head.a) (over (items l N) (map child_of n.entries)), each n.head.a h.0)

some_first : (es : List Entry) → 0 < length es → is_some (first (is_behind None) es) ≡ true
some_first [] h = absurd (omega arith)
some_first (e ∷ es) h = refl

child_some : (l : ℕ) (N : Nodes) (c : ℕ) → IsChild l N c → is_some (first (is_behind None) (items l N c)) ≡ true
child_some l N c h = some_first (items l N c) (tree_some l N c h.0 h.1)

-- ---- an inner page of a tree
pub record Inner (m : ℕ) (N : Nodes) (p : ℕ) (n : Node) : Type 0 where
  pub node_is : N p ≡ Some n
  pub tree : IsTree (suc m) N p

abbrev nth : Node → ℕ → ℕ
nth n i = nth_child n.head.a n.entries i

-- the first entry behind a key in the child at a place
abbrev first_in : ℕ → Nodes → Option (List ℕ) → ℕ → Option Entry
first_in m N after c = first (is_behind after) (items m N c)

children : (m : ℕ) (N : Nodes) (p : ℕ) (n : Node) → Inner m N p n → AreChildren (IsChild m N) (items m N) None (([], n.head.a) ∷ map child_of n.entries)
children m N p n inner = subst (λ o. AreChildren (IsChild m N) (items m N) None (children_of o)) inner.node_is inner.tree.2

-- it is in the child in which the key stands, or is the first one of the next child
next_in : (m : ℕ) (N : Nodes) (p : ℕ) (n : Node) (after : Option (List ℕ)) → Inner m N p n
    → first_in (suc m) N after p
    ≡ or_else (first_in m N after (nth n (passed after n.entries))) (cond (nat_lt (passed after n.entries) (length n.entries)) (first_in m N None (nth n (suc (passed after n.entries)))) None)
next_in m N p n after inner =
    ap (λ o. first (is_behind after) (over (items m N) (children_of o))) inner.node_is
    ∙ next_over (IsChild m N) (items m N) (child_some m N) after None [] n.head.a n.entries (children m N p n inner)

-- the child that has an entry is on the way to the entry's key
entry_child : (m : ℕ) (N : Nodes) (p : ℕ) (n : Node) (after : Option (List ℕ)) (i : ℕ) (e : Entry) → Inner m N p n → first_in m N after (nth n i) ≡ Some e → child_on (Some e.0) (N p) ≡ nth n i
entry_child m N p n after i e inner is =
    ap (child_on (Some e.0)) inner.node_is ∙ child_for-entry (IsChild m N) (items m N) None [] n.head.a n.entries i (is_behind after) e (children m N p n inner) is

-- the way to the first entry of a tree is the leftmost one
pub leftmost_way : (m : ℕ) (N : Nodes) (p : ℕ) (e : Entry) → IsTree m N p → first_in m N None p ≡ Some e → way m N (Some e.0) p ≡ way m N None p
leftmost_way zero N p e t is = refl
leftmost_way (suc m) N p e t is = by (λ c h f. leftmost_way m N c e h f) (N p) refl t.0
  where
    by : ((c : ℕ) → IsTree m N c → first_in m N None c ≡ Some e → way m N (Some e.0) c ≡ way m N None c) → (o : Option Node) → N p ≡ o → IsInner (suc m) o → way (suc m) N (Some e.0) p ≡ way (suc m) N None p
    by below None here i = absurd i
    by below (Some n) here i =
        let inner : Inner m N p n = record { node_is = here; tree = t } in
        let kids = children m N p n inner in
        let left : passed None n.entries ≡ 0 = none n.entries in
        let at : nth n (passed None n.entries) ≡ n.head.a = ap (nth n) left ∙ nth_first n.head.a n.entries in
        let found : first_in m N None n.head.a ≡ Some e = ends _ (first_in m N None n.head.a) (child_some m N n.head.a kids.0) (sym (next_in m N p n None inner ∙ ap (λ c. or_else (first_in m N None c) (cond (nat_lt (passed None n.entries) (length n.entries)) (first_in m N None (nth n (suc (passed None n.entries)))) None)) at) ∙ is) in
        let to : child_on (Some e.0) (N p) ≡ n.head.a = entry_child m N p n None 0 e inner (ap (first_in m N None) (nth_first n.head.a n.entries) ∙ found) ∙ nth_first n.head.a n.entries in
        let down : child_on None (N p) ≡ n.head.a = ap (child_on None) here in
        ap (λ c. p ∷ way m N (Some e.0) c) to ∙ ap (λ w. p ∷ w) (below n.head.a kids.0.0 found) ∙ sym (ap (λ c. p ∷ way m N None c) down)
      where
        none : (es : List Entry) → passed None es ≡ 0
        none [] = refl
        none (x ∷ es) = refl

        ends : (other o : Option Entry) → is_some o ≡ true → or_else o other ≡ Some e → o ≡ Some e
        ends other None some q = absurd (cc)
        ends other (Some x) some q = q

-- ---- the ways of the first child, and those of the next one
module _ (m : ℕ) (N : Nodes) (p : ℕ) (n : Node) (after : Option (List ℕ)) (inner : Inner m N p n) where
  pub ways_first : (x : ℕ) → Has x (next_ways m N after (nth n (passed after n.entries))) → Has x (next_ways (suc m) N after p)
  ways_first x h = by (first_in m N after (nth n (passed after n.entries))) refl (has_either x (way m N after (nth n (passed after n.entries))) _ h)
    where
      on : child_on after (N p) ≡ nth n (passed after n.entries)
      on = ap (child_on after) inner.node_is ∙ child_on-passed after n

      by : (o : Option Entry) → first_in m N after (nth n (passed after n.entries)) ≡ o → Has x (way m N after (nth n (passed after n.entries))) ⊎ Has x (way_to m N o (nth n (passed after n.entries))) → Has x (next_ways (suc m) N after p)
      by o is (inl g) = has_left x (way (suc m) N after p) (way_to (suc m) N (first_in (suc m) N after p) p) (subst (λ c. Has x (p ∷ way m N after c)) (sym on) (inr g))
      by None is (inr g) = absurd g
      by (Some e) is (inr g) =
          let all : first_in (suc m) N after p ≡ Some e = next_in m N p n after inner ∙ ap (λ o. or_else o (cond (nat_lt (passed after n.entries) (length n.entries)) (first_in m N None (nth n (suc (passed after n.entries)))) None)) is in
          let to = entry_child m N p n after (passed after n.entries) e inner is in
          has_right x (way (suc m) N after p) (way_to (suc m) N (first_in (suc m) N after p) p)
          (subst (λ o. Has x (way_to (suc m) N o p)) (sym all) (subst (λ c. Has x (p ∷ way m N (Some e.0) c)) (sym to) (inr g)))

  pub next_first : first_in m N after (nth n (passed after n.entries)) ≡ None → passed after n.entries < length n.entries → first_in (suc m) N after p ≡ first_in m N None (nth n (suc (passed after n.entries)))
  next_first none less =
      next_in m N p n after inner ∙ ap (λ o. or_else o (cond (nat_lt (passed after n.entries) (length n.entries)) (first_in m N None (nth n (suc (passed after n.entries)))) None)) none
      ∙ ap (λ b. cond b (first_in m N None (nth n (suc (passed after n.entries)))) None) (lt-ltb (passed after n.entries) (length n.entries) less)

  pub ways_next : first_in m N after (nth n (passed after n.entries)) ≡ None → passed after n.entries < length n.entries → (x : ℕ) → Has x (next_ways m N None (nth n (suc (passed after n.entries)))) → Has x (next_ways (suc m) N after p)
  ways_next none less x h = by (first_in m N None next) refl (has_either x (way m N None next) _ h)
    where
      next : ℕ
      next = nth n (suc (passed after n.entries))

      child : IsChild m N (nth n (suc (passed after n.entries)))
      child = nth_is (IsChild m N) (items m N) None [] n.head.a n.entries (suc (passed after n.entries)) (children m N p n inner)

      by : (o : Option Entry) → first_in m N None (nth n (suc (passed after n.entries))) ≡ o → Has x (way m N None (nth n (suc (passed after n.entries)))) ⊎ Has x (way_to m N o (nth n (suc (passed after n.entries)))) → Has x (next_ways (suc m) N after p)
      by None is g = absurd (true≢false (sym (child_some m N (nth n (suc (passed after n.entries))) child) ∙ ap is_some is))
      by (Some e) is g =
          let all = next_first none less ∙ is in
          let to = entry_child m N p n None (suc (passed after n.entries)) e inner is in
          let same = leftmost_way m N (nth n (suc (passed after n.entries))) e child.0 is in
          let here : Has x (way m N (Some e.0) (nth n (suc (passed after n.entries)))) = elim g [ inl a ↦ subst (Has x) (sym same) a | inr b ↦ b ] in
          has_right x (way (suc m) N after p) (way_to (suc m) N (first_in (suc m) N after p) p)
          (subst (λ o. Has x (way_to (suc m) N o p)) (sym all) (subst (λ c. Has x (p ∷ way m N (Some e.0) c)) (sym to) (inr here)))

-- ---- over a held page
abbrev pub NextLeads : ℕ → Nodes → Option (List ℕ) → ℕ → Walk (Option LeafEntry) → Type 0
NextLeads l N after p w = Leads (λ next. option_map entry_in next ≡ first (is_behind after) (items l N p)) (λ x. has x (next_ways l N after p)) w

-- an entry was found, or all entries of the page are passed
abbrev pub Ends : Option (List ℕ) → List Entry → Walk (Option LeafEntry) → Type 0
Ends after es (Ready next) = (is_some next ≡ true) ⊎ (passed after es ≡ length es)
Ends after es walk = Unit {0}

stop_ends : (after : Option (List ℕ)) (es : List Entry) (s : Stop) → Ends after es (as_walk (Err s))
stop_ends after es (stop.Need n) = tt
stop_ends after es stop.Fresh = tt
stop_ends after es (stop.Broken n) = tt
stop_ends after es stop.NoMemory = tt

end_first : (m : ℕ) (N : Nodes) (p : ℕ) (n : Node) (after : Option (List ℕ)) → Inner m N p n → (next : Option LeafEntry) → option_map entry_in next ≡ first_in m N after (nth n (passed after n.entries)) → Ends after n.entries (Ready next) → option_map entry_in next ≡ first_in (suc m) N after p
end_first m N p n after inner (Some e) is ends = sym (next_in m N p n after inner ∙ ap (λ o. or_else o (cond (nat_lt (passed after n.entries) (length n.entries)) (first_in m N None (nth n (suc (passed after n.entries)))) None)) (sym is))
end_first m N p n after inner None is (inl some) = absurd (true≢false (sym some))
end_first m N p n after inner None is (inr all) =
    sym (next_in m N p n after inner ∙ ap (λ o. or_else o (cond (nat_lt (passed after n.entries) (length n.entries)) (first_in m N None (nth n (suc (passed after n.entries)))) None)) (sym is)
    ∙ ap (λ b. cond b (first_in m N None (nth n (suc (passed after n.entries)))) None) (le-ltb (passed after n.entries) (length n.entries) (omega (arith, all))))

lead_first : (m : ℕ) (N : Nodes) (p : ℕ) (n : Node) (after : Option (List ℕ)) (w : Walk (Option LeafEntry)) → Inner m N p n → NextLeads m N after (nth n (passed after n.entries)) w → Ends after n.entries w → NextLeads (suc m) N after p w
lead_first m N p n after (Ready next) inner g ends = (end_first m N p n after inner next g.0 ends, tt)
lead_first m N p n after (Need x) inner g ends = (tt, is_has x (next_ways (suc m) N after p) (ways_first m N p n after inner x (has_is x (next_ways m N after (nth n (passed after n.entries))) g.1)))
lead_first m N p n after Fresh inner g ends = (g.0, tt)
lead_first m N p n after (Broken x) inner g ends = (g.0, tt)
lead_first m N p n after NoMemory inner g ends = (tt, tt)

lead_next : (m : ℕ) (N : Nodes) (p : ℕ) (n : Node) (after : Option (List ℕ)) (w : Walk (Option LeafEntry)) → Inner m N p n → first_in m N after (nth n (passed after n.entries)) ≡ None → passed after n.entries < length n.entries
    → NextLeads m N None (nth n (suc (passed after n.entries))) w → NextLeads (suc m) N after p w
lead_next m N p n after (Ready next) inner none less g = (g.0 ∙ sym (next_first m N p n after inner none less), tt)
lead_next m N p n after (Need x) inner none less g = (tt, is_has x (next_ways (suc m) N after p) (ways_next m N p n after inner none less x (has_is x (next_ways m N None (nth n (suc (passed after n.entries)))) g.1)))
lead_next m N p n after Fresh inner none less g = (g.0, tt)
lead_next m N p n after (Broken x) inner none less g = (g.0, tt)
lead_next m N p n after NoMemory inner none less g = (tt, tt)

-- a child of a held page
abbrev held_child : List ℕ → Head → ℕ → ℕ
held_child bytes head i = nth_child head.a (node_in bytes).entries i

same_child : (bytes : List ℕ) (head : Head) (i : ℕ) → head ≡ (node_in bytes).head → held_child bytes head i ≡ nth (node_in bytes) i
same_child bytes head i is = ap (λ (h : Head). nth_child h.a (node_in bytes).entries i) is

inner_of : (l m : ℕ) (c : View) (p : ℕ) (bytes : List ℕ) (head : Head) (N : Nodes) → l ≡ suc m → IsTreePage (page_of c p) l bytes head → Shows c N → IsTree l N p → Inner m N p (node_in bytes)
inner_of l m c p bytes head N is page shows t = record { node_is = shown c N p l bytes head shows page; tree = subst (λ k. IsTree k N p) is t }

child_is : (m : ℕ) (N : Nodes) (p : ℕ) (n : Node) (i : ℕ) → Inner m N p n → IsTree m N (nth n i)
child_is m N p n i inner = (nth_is (IsChild m N) (items m N) None [] n.head.a n.entries i (children m N p n inner)).0

pub page_length : (bytes : List ℕ) (head : Head) → head ≡ (node_in bytes).head → head.count ≡ length (node_in bytes).entries
page_length bytes head is = ap (λ (h : Head). h.count) is ∙ page_count bytes

-- the walk goes on in the child in which the key stands
pub next_leads : (l m : ℕ) (c : View) (p : ℕ) (after : Option (List ℕ)) (bytes : List ℕ) (head : Head) (child : ℕ) (w : Walk (Option LeafEntry)) → l ≡ suc m → IsTreePage (page_of c p) l bytes head
    → child ≡ held_child bytes head (passed after (node_in bytes).entries) → Ends after (node_in bytes).entries w
    → (N : Nodes) → Shows c N → IsTree l N p → (IsTree m N child → NextLeads m N after child w) → NextLeads l N after p w
next_leads l m c p after bytes head child w is page at ends N shows t below =
    let inner = inner_of l m c p bytes head N is page shows t in
    let same = at ∙ same_child bytes head (passed after (node_in bytes).entries) page.head_is in
    let under = child_is m N p (node_in bytes) (passed after (node_in bytes).entries) inner in
    subst (λ k. NextLeads k N after p w) (sym is)
    (lead_first m N p (node_in bytes) after w inner (subst (λ k. NextLeads m N after k w) same (below (subst (IsTree m N) (sym same) under))) ends)

pub next_stops : (l m : ℕ) (c : View) (p : ℕ) (after : Option (List ℕ)) (bytes : List ℕ) (head : Head) (child : ℕ) (s : Stop) → l ≡ suc m → IsTreePage (page_of c p) l bytes head
    → child ≡ held_child bytes head (passed after (node_in bytes).entries)
    → (N : Nodes) → Shows c N → IsTree l N p → (IsTree m N child → NextLeads m N after child (as_walk (Err s))) → NextLeads l N after p (as_walk (Err s))
next_stops l m c p after bytes head child s is page at = next_leads l m c p after bytes head child (as_walk (Err s)) is page at (stop_ends after (node_in bytes).entries s)

-- it found nothing there, and goes on in the next child
pub next_goes_on : (l m : ℕ) (c : View) (p : ℕ) (after : Option (List ℕ)) (bytes : List ℕ) (head : Head) (child next : ℕ) (found : Option LeafEntry) (w : Walk (Option LeafEntry)) → l ≡ suc m → IsTreePage (page_of c p) l bytes head
    → child ≡ held_child bytes head (passed after (node_in bytes).entries) → is_some found ≡ false → passed after (node_in bytes).entries < length (node_in bytes).entries
    → next ≡ held_child bytes head (suc (passed after (node_in bytes).entries))
    → (N : Nodes) → Shows c N → IsTree l N p → (IsTree m N child → NextLeads m N after child (Ready found)) → (IsTree m N next → NextLeads m N None next w) → NextLeads l N after p w
next_goes_on l m c p after bytes head child next found w is page at not less at_next N shows t below beside =
    let inner = inner_of l m c p bytes head N is page shows t in
    let i = passed after (node_in bytes).entries in
    let same = at ∙ same_child bytes head i page.head_is in
    let same_next = at_next ∙ same_child bytes head (suc i) page.head_is in
    let none = sym (below (subst (IsTree m N) (sym same) (child_is m N p (node_in bytes) i inner))).0 ∙ nothing found not in
    subst (λ k. NextLeads k N after p w) (sym is)
    (lead_next m N p (node_in bytes) after w inner (ap (λ k. first_in m N after k) (sym same) ∙ none) less
    (subst (λ k. NextLeads m N None k w) same_next (beside (subst (IsTree m N) (sym same_next) (child_is m N p (node_in bytes) (suc i) inner)))))
  where
    nothing : (o : Option LeafEntry) → is_some o ≡ false → option_map entry_in o ≡ None
    nothing None e = refl
    nothing (Some x) e = absurd (true≢false e)

-- a leaf has the entry
pub leaf_follows : (l : ℕ) (c : View) (p : ℕ) (after : Option (List ℕ)) (bytes : List ℕ) (head : Head) (next : Option LeafEntry) → l ≡ 0 → IsTreePage (page_of c p) l bytes head → (N : Nodes) → Shows c N
    → next ≡ option_map (in_leaf p) (first (is_behind after) (node_in bytes).entries) → option_map entry_in next ≡ first (is_behind after) (items l N p)
leaf_follows l c p after bytes head next is page N shows v =
    ap (option_map entry_in) v ∙ without_leaf p (first (is_behind after) (node_in bytes).entries)
    ∙ ap (λ o. first (is_behind after) (entries_of o)) (sym (shown c N p l bytes head shows page)) ∙ ap (λ k. first (is_behind after) (items k N p)) (sym is)

pub next_way_first : (l : ℕ) (N : Nodes) (after : Option (List ℕ)) (p : ℕ) → has p (next_ways l N after p) ≡ true
next_way_first l N after p =
    is_has p (next_ways l N after p) (has_left p (way l N after p) (way_to l N (first (is_behind after) (items l N p)) p) (has_is p (way l N after p) (way_first l N after p)))
