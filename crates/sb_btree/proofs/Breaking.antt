-- The child that an inner page is left with, where it may be called broken.
use Rattle.std.proofs.Common.{◌≡◌, ℕ, zero, suc, ◌-◌, ◌≤◌, Bool, true, false, cond, not, List, [], length, Option, Some, None, IsSome, refl, ap, sym, ◌∙◌, subst, arith, true≢false}
use Rattle.std.specs.Prelude.{nat_eq, Result, Ok, Err, IfOk}
use Rattle.std.proofs.lemmas.Bool.{and_left, not-true}
use Rattle.sb_ctx.specs.View.{View, page_of, with_page, dropped}
use Rattle.sb_ctx.proofs.ViewLaws.{page_of-same, page_of-other}
use Rattle.sb_node.specs.declared.head.Head.{Head}
use Rattle.sb_node.specs.Page.{Node, has_form, node_in, node_of}
use Rattle.sb_node.proofs.Edited.{node_of-form}
use Rattle.sb_btree.specs.Broken.{held_node, is_of_level, is_page, is_unlike, breaks_below}
use Rattle.sb_btree.specs.Held.{IsTreePage, nth_child}
use Rattle.sb_btree.specs.Inserts.{PutChildAt, is_tree_page}
use Rattle.sb_btree.specs.Removes.{IsOther, MayBreak, KeepsAbove, DropsChild, TookChild, MergedChild, MergesChild, EndsBeside, taker, entered, first_without, without_child, page_beside}
use Rattle.sb_btree.specs.declared.insertion.Put.{Put}
use Rattle.sb_btree.specs.declared.insertion.Put.TheVariants as put
use Rattle.sb_btree.specs.declared.removal.Taken.{Taken}
use Rattle.sb_btree.specs.declared.removal.Taken.TheVariants.{Lacks, Done, Empty, Single, Split}
use Rattle.sb_btree.specs.declared.walk.Stop.{Stop}
use Rattle.sb_btree.specs.declared.walk.Walk.TheVariants as walk
use Rattle.sb_btree.proofs.Descending.{breaks_here, breaks_step}
use Rattle.sb_btree.proofs.Placing.{nth_first}
use Rattle.sb_btree.proofs.Edits.{held_still, level_of_head}
use Rattle.sb_btree.proofs.Walked.{held_is, level_here}
use Rattle.sb_btree.proofs.Merging.{node_held}
use Rattle.sb_btree.proofs.Joining.{levels_apart}
use Rattle.sb_btree.proofs.Below.{was_amiss, still_node, freed_node}

level_down : (l m : ℕ) → l ≡ suc m → l - 1 ≡ m
level_down l m down = omega (arith, down)

-- ---- a page that isn't one of a level
pub unlike_held : (l : ℕ) (o : Option (List ℕ)) → is_unlike l o ≡ true → IsSome o
unlike_held l None is = absurd (true≢false (sym is))
unlike_held l (Some bytes) is = refl

pub unlike_page : (l : ℕ) (o : Option (List ℕ)) → is_unlike l o ≡ true → is_page l (held_node o) ≡ false
unlike_page l None is = absurd (true≢false (sym is))
unlike_page l (Some bytes) is = by (node_of bytes) is
  where
    by : (o : Option Node) → elim o as (λ x. Bool) [ None ↦ true | Some n ↦ not (is_of_level l n.head) ] ≡ true → is_page l o ≡ false
    by None e = refl
    by (Some n) e = and_left (is_of_level l n.head) _ (not-true (is_of_level l n.head) e)

-- ---- the other child of two
-- it stands at a place
record At (n : Node) (g : ℕ) : Type 0 where
  place : ℕ
  is : g ≡ nth_child n.head.a n.entries place

first_at : (i : ℕ) (n : Node) → At n (first_without i n)
first_at i n = elim (nat_eq i 0) as (λ b. At n (cond b (nth_child n.head.a n.entries 1) n.head.a)) [
  | true ↦ record { place = 1; is = refl }
  | false ↦ record { place = 0; is = sym (nth_first n.head.a n.entries) }
]

-- and is the one beside
other_beside : (i : ℕ) (n : Node) → length n.entries ≡ 1 → i ≤ length n.entries → first_without i n ≡ page_beside i n
other_beside zero n one low = refl
other_beside (suc i) n one low =
    let none : i ≡ 0 = omega (arith, one, low) in
    ap (λ j. first_without (suc j) n) none ∙ sym (nth_first n.head.a n.entries) ∙ sym (ap (λ j. page_beside (suc j) n) none)

module _ (old : View) (l m page : ℕ) (bytes : List ℕ) (head : Head) (down : l ≡ suc m) (is : IsTreePage (page_of old page) l bytes head) where
  height : (node_in bytes).head.level ≡ suc m
  height = level_of_head l (node_in bytes).head (level_here old l page bytes head is) ∙ down

  -- a page of the level below is another one
  not_here : (g : ℕ) (b : List ℕ) → page_of old g ≡ Some b → is_of_level m (node_in b).head ≡ true → has_form b ≡ true → page ≡ g → ⊥
  not_here g b at like form = levels_apart old m page g (node_in bytes) (node_in b) (held_is old l page bytes head is) (ap held_node at ∙ node_of-form b form) (omega (arith, height)) like

  -- the child that was left when an empty one was dropped
  pub drop_single : (mid new : View) (child i g : ℕ) → dropped new ≡ dropped old → KeepsAbove old mid m child → DropsChild (with_page child [] mid) new page (Some (node_in bytes)) i (Ok (Single g)) → (g ≡ child → ⊥)
      → is_unlike m (page_of new g) ≡ true → breaks_below l (page_of old) page g ≡ true
  drop_single mid new child i g given higher d other unlike =
      let at = first_at i (node_in bytes) in
      let amiss = was_amiss m (page_of old g) (page_of new g) (held_still new old g (sym given) (unlike_held m (page_of new g) unlike))
      (λ b there form like.
      let low = level_of_head m (node_in b).head like in
      ap (λ (c : View). page_of c g) d.2.changed ∙ page_of-other (with_page child [] mid) page g d.2.bytes (not_here g b there like form) ∙ page_of-other mid child g [] (λ e. other (sym e))
      ∙ higher g b there form (omega (arith, low)) (λ e. absurd (other e)))
      (unlike_page m (page_of new g) unlike) in
      breaks_step {T = Taken} l m (page_of old) page bytes head at.place g (walk.Broken g) down is
      (d.1 ∙ at.is ∙ ap (λ (h : Head). nth_child h.a (node_in bytes).entries at.place) (sym is.head_is)) (breaks_here m (page_of old) g amiss)

-- ---- the page beside is one of its level still
put_like : (old new : View) (l q : ℕ) (n : Node) (bound : List ℕ) (child : ℕ) → IsSome (page_of old q) → is_of_level l n.head ≡ true → PutChildAt old new l q (Some n) bound child (Ok put.Done) → is_tree_page l (held_node (page_of new q)) ≡ true
put_like old new l q n bound child held like h = ap (λ (c : View). is_tree_page l (held_node (page_of c q))) h.3.1.changed ∙ ap (λ o. is_tree_page l (held_node o)) (page_of-same old q h.3.1.bytes held) ∙ ap (is_tree_page l) h.3.1.node_is ∙ like

pub merge_single : (old new : View) (m page : ℕ) (n : Node) (i child left g : ℕ) → held_node (page_of old page) ≡ Some n → is_of_level (suc m) n.head ≡ true → i ≤ length n.entries → MergedChild old new m page n i child left (Single g) → (g ≡ child → ⊥)
    → is_unlike m (page_of new g) ≡ true → ⊥
merge_single old new m page n i child left g at up low h other = by h.put_is h.gave.took h.dropping h.drops h.ends
  where
    whole : TookChild old h.gave.mid m (page_beside i n) h.gave.other h.gave.bound.0 left (nat_eq i 0) put.Done → (dropping : Taken) → DropsChild h.mid h.next page (Some n) i (Ok dropping) → (new ≡ h.next) × (Single g ≡ dropping)
        → is_unlike m (page_of new g) ≡ true → ⊥
    whole t Lacks d e unlike = absurd d
    whole t Done d e unlike = absurd (let f = e.1 in cc)
    whole t Empty d e unlike = absurd d
    whole t (Single k) d e unlike =
        let same : g ≡ k = single_of (e.1) in
        let b : g ≡ page_beside i n = same ∙ d.1 ∙ other_beside i n d.0 low in
        let like = put_like t.mid h.gave.mid m (page_beside i n) (taker (nat_eq i 0) left h.gave.other) h.gave.bound.0 (entered (nat_eq i 0) left h.gave.other) (node_held (page_of t.mid (page_beside i n)) (taker (nat_eq i 0) left h.gave.other) t.there)
        (taker_like (nat_eq i 0) h.gave.other t.like) t.puts in
        let away : page ≡ page_beside i n → ⊥ = (let tall = level_of_head (suc m) n.head up in levels_apart old m page (page_beside i n) n h.gave.other at h.gave.beside_is (omega (arith, tall)) t.like) in
        let there : page_of new g ≡ page_of h.gave.mid (page_beside i n) =
        ap (λ x. page_of new x) b ∙ ap (λ (c : View). page_of c (page_beside i n)) (e.0 ∙ d.2.changed) ∙ page_of-other h.mid page (page_beside i n) d.2.bytes away
        ∙ ap (λ (c : View). page_of c (page_beside i n)) h.gave.changed ∙ page_of-other h.gave.mid child (page_beside i n) [] (λ q. other (b ∙ sym q)) in
        not_unlike (page_of h.gave.mid (page_beside i n)) like (sym (ap (is_unlike m) there) ∙ unlike)
      where
        single_of : {a c : ℕ} → Single a ≡ Single c → a ≡ c
        single_of e = cc

        taker_like : (b : Bool) (k : Node) → is_of_level m k.head ≡ true → is_of_level m (taker b left k).head ≡ true
        taker_like true k like = like
        taker_like false k like = like

        not_unlike : (o : Option (List ℕ)) → is_tree_page m (held_node o) ≡ true → is_unlike m o ≡ true → ⊥
        not_unlike None like is = true≢false (sym is)
        not_unlike (Some b) like is = by (node_of b) like is
          where
            by : (o : Option Node) → is_tree_page m o ≡ true → elim o as (λ x. Bool) [ None ↦ true | Some k ↦ not (is_of_level m k.head) ] ≡ true → ⊥
            by None like is = true≢false (sym like)
            by (Some k) like is = true≢false (sym is ∙ ap not like)
    whole t (Split bound r) d e unlike = absurd d

    by : (p : Put) → TookChild old h.gave.mid m (page_beside i n) h.gave.other h.gave.bound.0 left (nat_eq i 0) p → (dropping : Taken) → DropsChild h.mid h.next page (Some n) i (Ok dropping) → EndsBeside h.next new (suc m) page (without_child i n) p dropping (Single g)
        → is_unlike m (page_of new g) ≡ true → ⊥
    by put.Kept t dropping d e unlike = absurd t.puts
    by put.Done t dropping d e unlike = whole t dropping d e unlike
    by (put.Split bound r) t dropping d e unlike = absurd e

-- ---- what is left above a child
-- an empty child was dropped
pub drop_may : (old mid new : View) (l m page child i : ℕ) (bytes : List ℕ) (head : Head) (outcome : Result Taken Stop) → l ≡ suc m → IsTreePage (page_of old page) l bytes head → dropped mid ≡ dropped old → KeepsAbove old mid m child
    → is_tree_page m (held_node (page_of mid child)) ≡ true → DropsChild (with_page child [] mid) new page (held_node (page_of (with_page child [] mid) page)) i outcome → dropped new ≡ dropped old → IfOk outcome (IsOther child) → IfOk outcome (MayBreak old new l page)
drop_may old mid new l m page child i bytes head outcome down is given higher low drops new_given other =
    by outcome (subst (λ o. DropsChild (with_page child [] mid) new page o i outcome) (freed_node old mid l m page child bytes head down is given higher i new outcome low) drops) other
  where
    by : (outcome : Result Taken Stop) → DropsChild (with_page child [] mid) new page (Some (node_in bytes)) i outcome → IfOk outcome (IsOther child) → IfOk outcome (MayBreak old new l page)
    by (Ok Lacks) d o = tt
    by (Ok Done) d o = tt
    by (Ok Empty) d o = tt
    by (Ok (Single g)) d o = λ unlike. drop_single old l m page bytes head down is mid new child i g new_given higher d o (subst (λ k. is_unlike k (page_of new g) ≡ true) (level_down l m down) unlike)
    by (Ok (Split bound r)) d o = tt
    by (Err s) d o = tt

-- the child gave its last child away
pub merge_may : (old mid new : View) (l m page child i left : ℕ) (bytes : List ℕ) (head : Head) (outcome : Result Taken Stop) → l ≡ suc m → IsTreePage (page_of old page) l bytes head → dropped mid ≡ dropped old → KeepsAbove old mid m child
    → i ≤ length (node_in bytes).entries → MergesChild mid new l page (held_node (page_of mid page)) i child left outcome → IfOk outcome (IsOther child) → IfOk outcome (MayBreak old new l page)
merge_may old mid new l m page child i left bytes head outcome down is given higher low merges other =
    by outcome (subst (λ o. MergesChild mid new (suc m) page o i child left outcome) node (subst (λ k. MergesChild mid new k page (held_node (page_of mid page)) i child left outcome) down merges)) other
  where
    node : held_node (page_of mid page) ≡ Some (node_in bytes)
    node = still_node old mid l m page child bytes head down is given higher

    by : (outcome : Result Taken Stop) → MergesChild mid new (suc m) page (Some (node_in bytes)) i child left outcome → IfOk outcome (IsOther child) → IfOk outcome (MayBreak old new l page)
    by (Ok Lacks) d o = tt
    by (Ok Done) d o = tt
    by (Ok Empty) d o = tt
    by (Ok (Single g)) d o = λ unlike. absurd (merge_single mid new m page (node_in bytes) i child left g node (subst (λ k. is_of_level k (node_in bytes).head ≡ true) down (level_here old l page bytes head is)) low d o (subst (λ k. is_unlike k (page_of new g) ≡ true) (level_down l m down) unlike))
    by (Ok (Split bound r)) d o = tt
    by (Err s) d o = tt
