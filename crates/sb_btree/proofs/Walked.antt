-- A walk down to a leaf and the puts on its way back, for all pages in which the key's place is in the tree.
use Rattle.std.proofs.Common.{◌≡◌, ℕ, suc, Bool, true, false, List, ◌∷◌, Some, refl, ap, sym, ◌∙◌, subst, arith, T, true≢false}
use Rattle.std.specs.Prelude.{Result, Ok, Err}
use Rattle.sb_ctx.specs.View.{View, page_of, dropped, stored}
use Rattle.sb_node.specs.declared.head.Head.{Head}
use Rattle.sb_node.specs.Entries.{key_cmp}
use Rattle.std.specs.FinMap.Entries.{is_sorted}
use Rattle.std.proofs.lemmas.Bool.{or_right}
use Rattle.sb_node.specs.Page.{node_in}
use Rattle.sb_node.proofs.Edited.{node_of-form}
use Rattle.sb_node.proofs.Sizes.{head_counts, T_from}
use Rattle.sb_forms.specs.Tree.{nodes, IsSmall, IsTree}
use Rattle.sb_forms.specs.Read.{all_by, is_bound, has}
use Rattle.sb_btree.specs.Became.{IsPlace}
use Rattle.sb_btree.specs.Broken.{held_node, is_amiss, is_of_level}
use Rattle.sb_btree.specs.Held.{IsTreePage, Lacks, passed, nth_child}
use Rattle.sb_btree.specs.Inserts.{PutAt, PutChildAt, PutsAt, OverPlaces, KeepsHigher, IsSplit}
use Rattle.sb_btree.specs.Ways.{way}
use Rattle.sb_btree.specs.Walks.{Needs, OverNodes}
use Rattle.sb_btree.specs.declared.insertion.Put.{Put}
use Rattle.sb_btree.specs.declared.insertion.Put.TheVariants.{Kept, Done, Split}
use Rattle.sb_btree.specs.declared.walk.Stop.{Stop}
use Rattle.sb_btree.specs.declared.walk.Stop.TheVariants as stop
use Rattle.sb_btree.specs.declared.walk.Walk.{Walk}
use Rattle.sb_btree.specs.declared.walk.Walk.TheVariants.{Ready, Need, Fresh, Broken, NoMemory}
use Rattle.sb_btree.proofs.Descending.{tree_amiss, entries_lead, find_step, shown}
use Rattle.sb_btree.proofs.Edits.{level_of_head}
use Rattle.sb_btree.proofs.Halved.{held_some}
use Rattle.sb_btree.proofs.Passing.{child_passed}
use Rattle.sb_btree.proofs.Puts.{IsWhole, leaf_puts, same_puts, child_puts}
use Rattle.sb_btree.proofs.Raised.{kid, kid_low, kid_high, kid_place}
use Rattle.sb_btree.proofs.Roots.{stored_shows}

pub stop_puts : (stands : Bool) (old : View) (l page : ℕ) (key value : List ℕ) (s : Stop) → Lacks (page_of old page) (is_amiss l (page_of old page)) page s → OverPlaces old l page key (λ P low high. PutsAt stands old old l page key value P low high (Err s))
stop_puts stands old l page key value (stop.Need n) lacks P low high place = tt
stop_puts stands old l page key value stop.Fresh lacks P low high place = absurd lacks
stop_puts stands old l page key value (stop.Broken n) lacks P low high place =
    true≢false (sym lacks.1 ∙ tree_amiss l (page_of old page) (nodes (stored old P)) page (stored_shows old P page) place.tree)
stop_puts stands old l page key value stop.NoMemory lacks P low high place = tt

-- ---- a held page of a level
pub held_is : (c : View) (l page : ℕ) (bytes : List ℕ) (head : Head) → IsTreePage (page_of c page) l bytes head → held_node (page_of c page) ≡ Some (node_in bytes)
held_is c l page bytes head is = ap held_node is.held_is ∙ node_of-form bytes is.form

pub rising : (bytes : List ℕ) (c : View) (l page : ℕ) (head : Head) → IsTreePage (page_of c page) l bytes head → T (is_sorted key_cmp (node_in bytes).entries)
rising bytes c l page head is = T_from _ (head_counts bytes is.form).rising

pub level_here : (c : View) (l page : ℕ) (bytes : List ℕ) (head : Head) → IsTreePage (page_of c page) l bytes head → is_of_level l (node_in bytes).head ≡ true
level_here c l page bytes head is = ap (is_of_level l) (sym is.head_is) ∙ is.level_is

-- changes of lower pages leave it
pub still_held : (old mid : View) (l m page : ℕ) (bytes : List ℕ) (head : Head) → l ≡ suc m → IsTreePage (page_of old page) l bytes head → KeepsHigher old mid m → page_of mid page ≡ page_of old page
still_held old mid l m page bytes head down is keeps =
    let up = level_of_head l (node_in bytes).head (level_here old l page bytes head is) in
    keeps page bytes is.held_is is.form (omega (arith, up, down))

-- a put at it, as it was before changes of lower pages
pub put_there : (stands : Bool) (old mid new : View) (l page : ℕ) (key value bytes : List ℕ) (head : Head) (outcome : Result Put Stop) → IsTreePage (page_of old page) l bytes head → page_of mid page ≡ page_of old page
    → PutAt stands mid new l page (held_node (page_of mid page)) key value outcome → PutAt stands mid new l page (Some (node_in bytes)) key value outcome
put_there stands old mid new l page key value bytes head outcome is still put =
    subst (λ o. PutAt stands mid new l page o key value outcome) (ap held_node still ∙ held_is old l page bytes head is) put

-- no place is in a page of which an entry has no child
pub entries_puts : (stands : Bool) (old : View) (l m page : ℕ) (key value bytes : List ℕ) (head : Head) (s : Stop) → l ≡ suc m → IsTreePage (page_of old page) l bytes head → all_by is_bound (node_in bytes).entries ≡ false
    → OverPlaces old l page key (λ P low high. PutsAt stands old old l page key value P low high (Err s))
entries_puts stands old l m page key value bytes head s down is none P low high place = absurd (entries_lead l m old page bytes head down is none (nodes (stored old P)) (stored_shows old P) place.tree)

at_leaf : (stands : Bool) (old new : View) (page : ℕ) (key value bytes : List ℕ) (head : Head) (outcome : Result Put Stop) → IsTreePage (page_of old page) 0 bytes head → IsSmall (key, value)
    → PutAt stands old new 0 page (Some (node_in bytes)) key value outcome → OverPlaces old 0 page key (λ P low high. PutsAt stands old new 0 page key value P low high outcome)
at_leaf stands old new page key value bytes head outcome is small put P low high place =
    leaf_puts stands old new P page key value low high (node_in bytes) outcome (shown old (nodes (stored old P)) page 0 bytes head (stored_shows old P) is) (held_some old page bytes is.held_is) place small (rising bytes old 0 page head is) put

pub leaf_walk : (stands : Bool) (old new : View) (l page : ℕ) (key value bytes : List ℕ) (head : Head) (outcome : Result Put Stop) → l ≡ 0 → IsTreePage (page_of old page) l bytes head → IsSmall (key, value)
    → PutAt stands old new l page (Some (node_in bytes)) key value outcome → OverPlaces old l page key (λ P low high. PutsAt stands old new l page key value P low high outcome)
leaf_walk stands old new l page key value bytes head outcome zero_is =
    subst (λ k. IsTreePage (page_of old page) k bytes head → IsSmall (key, value) → PutAt stands old new k page (Some (node_in bytes)) key value outcome → OverPlaces old k page key (λ P low high. PutsAt stands old new k page key value P low high outcome)) (sym zero_is)
    (at_leaf stands old new page key value bytes head outcome)

-- ---- a put that split no page
pub whole : (put : Put) → ((bound : List ℕ) (next : ℕ) → put ≡ Split bound next → ⊥) → IsWhole (Ok put)
whole Kept h = tt
whole Done h = tt
whole (Split bound next) h = absurd (h bound next refl)

pub whole_split : (c : View) (l page : ℕ) (put : Put) → ((bound : List ℕ) (next : ℕ) → put ≡ Split bound next → ⊥) → IsSplit c l page put
whole_split c l page Kept h = tt
whole_split c l page Done h = tt
whole_split c l page (Split bound next) h = absurd (h bound next refl)

-- ---- a step to a child
module _ (stands : Bool) (m : ℕ) (old : View) (page child : ℕ) (key value bytes : List ℕ) (head : Head) (is : IsTreePage (page_of old page) (suc m) bytes head)
    (at : child ≡ nth_child head.a (node_in bytes).entries (passed (Some key) (node_in bytes).entries)) where
  kid_is : child ≡ nth_child (node_in bytes).head.a (node_in bytes).entries (passed (Some key) (node_in bytes).entries)
  kid_is = at ∙ ap (λ (h : Head). nth_child h.a (node_in bytes).entries (passed (Some key) (node_in bytes).entries)) is.head_is

  same_step : (new : View) (outcome : Result Put Stop) → IsWhole outcome → OverPlaces old m child key (λ P low high. PutsAt stands old new m child key value P low high outcome)
      → OverPlaces old (suc m) page key (λ P low high. PutsAt stands old new (suc m) page key value P low high outcome)
  same_step new outcome whole below P low high place =
      let n = node_in bytes in
      let there = shown old (nodes (stored old P)) page (suc m) bytes head (stored_shows old P) is in
      let to : child ≡ kid stands m old P page key value low high n there place = kid_is ∙ sym (child_passed key n.head.a n.entries) in
      let down = subst (λ c. IsPlace m (stored old P) c (kid_low stands m old P page key value low high n there place) (kid_high stands m old P page key value low high n there place) key) (sym to) (kid_place stands m old P page key value low high n there place) in
      same_puts stands m old P page key value low high n there place new outcome whole
      (subst (λ c. PutsAt stands old new m c key value P (kid_low stands m old P page key value low high n there place) (kid_high stands m old P page key value low high n there place) outcome) to (below P _ _ down))

  split_step : (mid new : View) (bound : List ℕ) (next : ℕ) (outcome : Result Put Stop) → dropped mid ≡ dropped old → page_of mid page ≡ page_of old page
      → OverPlaces old m child key (λ P low high. PutsAt stands old mid m child key value P low high (Ok (Split bound next))) → PutChildAt mid new (suc m) page (Some (node_in bytes)) bound next outcome
      → OverPlaces old (suc m) page key (λ P low high. PutsAt stands old new (suc m) page key value P low high outcome)
  split_step mid new bound next outcome given still below put P low high place =
      let n = node_in bytes in
      let there = shown old (nodes (stored old P)) page (suc m) bytes head (stored_shows old P) is in
      let to : child ≡ kid stands m old P page key value low high n there place = kid_is ∙ sym (child_passed key n.head.a n.entries) in
      let down = subst (λ c. IsPlace m (stored old P) c (kid_low stands m old P page key value low high n there place) (kid_high stands m old P page key value low high n there place) key) (sym to) (kid_place stands m old P page key value low high n there place) in
      child_puts stands m old P page key value low high n there place mid new bound next outcome given (held_some mid page bytes (still ∙ is.held_is))
      (stored_shows mid P page bytes (still ∙ is.held_is) ∙ node_of-form bytes is.form)
      (subst (λ c. PutsAt stands old mid m c key value P (kid_low stands m old P page key value low high n there place) (kid_high stands m old P page key value low high n there place) (Ok (Split bound next))) to (below P _ _ down)) put

-- no page was split
pub same_walk : (stands : Bool) (old new : View) (l m page child : ℕ) (key value bytes : List ℕ) (head : Head) (outcome : Result Put Stop) → l ≡ suc m → IsTreePage (page_of old page) l bytes head
    → child ≡ nth_child head.a (node_in bytes).entries (passed (Some key) (node_in bytes).entries) → IsWhole outcome
    → OverPlaces old m child key (λ P low high. PutsAt stands old new m child key value P low high outcome) → OverPlaces old l page key (λ P low high. PutsAt stands old new l page key value P low high outcome)
same_walk stands old new l m page child key value bytes head outcome down is at whole below =
    subst (λ k. OverPlaces old k page key (λ P low high. PutsAt stands old new k page key value P low high outcome)) (sym down)
    (same_step stands m old page child key value bytes head (subst (λ k. IsTreePage (page_of old page) k bytes head) down is) at new outcome whole below)

-- the child became two
pub split_walk : (stands : Bool) (old mid new : View) (l m page child : ℕ) (key value bytes : List ℕ) (head : Head) (bound : List ℕ) (next : ℕ) (outcome : Result Put Stop) → l ≡ suc m → IsTreePage (page_of old page) l bytes head
    → child ≡ nth_child head.a (node_in bytes).entries (passed (Some key) (node_in bytes).entries) → dropped mid ≡ dropped old → page_of mid page ≡ page_of old page
    → OverPlaces old m child key (λ P low high. PutsAt stands old mid m child key value P low high (Ok (Split bound next))) → PutChildAt mid new l page (Some (node_in bytes)) bound next outcome
    → OverPlaces old l page key (λ P low high. PutsAt stands old new l page key value P low high outcome)
split_walk stands old mid new l m page child key value bytes head bound next outcome down is at given still below put =
    subst (λ k. OverPlaces old k page key (λ P low high. PutsAt stands old new k page key value P low high outcome)) (sym down)
    (split_step stands m old page child key value bytes head (subst (λ k. IsTreePage (page_of old page) k bytes head) down is) at mid new bound next outcome given still below
    (subst (λ k. PutChildAt mid new k page (Some (node_in bytes)) bound next outcome) down put))

-- the way to the child goes on from the page
pub needs_step : (T : Type 0) (c : View) (l m page child : ℕ) (key bytes : List ℕ) (head : Head) (w : Walk T) → l ≡ suc m → IsTreePage (page_of c page) l bytes head
    → child ≡ nth_child head.a (node_in bytes).entries (passed (Some key) (node_in bytes).entries)
    → OverNodes c m child (λ N. Needs (λ n. has n (way m N (Some key) child)) w) → OverNodes c l page (λ N. Needs (λ n. has n (way l N (Some key) page)) w)
needs_step T c l m page child key bytes head w down is at below N shows tree =
    let s = find_step m N page key bytes head (shown c N page l bytes head shows is) is.head_is (subst (λ k. IsTree k N page) down tree) in
    subst (λ (k : ℕ). Needs (λ n. has n (way k N (Some key) page)) w) (sym down)
    (by w (subst (λ k. Needs (λ n. has n (way m N (Some key) k)) w) at (below N shows (subst (IsTree m N) (sym at) s.tree))) s.way_is)
  where
    by : (w : Walk T) → Needs (λ n. has n (way m N (Some key) (nth_child head.a (node_in bytes).entries (passed (Some key) (node_in bytes).entries)))) w
        → way (suc m) N (Some key) page ≡ page ∷ way m N (Some key) (nth_child head.a (node_in bytes).entries (passed (Some key) (node_in bytes).entries)) → Needs (λ n. has n (way (suc m) N (Some key) page)) w
    by (Ready r) h e = tt
    by (Need n) h e = ap (has n) e ∙ or_right _ _ h
    by Fresh h e = tt
    by (Broken n) h e = tt
    by NoMemory h e = tt
