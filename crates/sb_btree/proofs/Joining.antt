-- A child that is gone, as the pages are held: the page beside has its last child, and the page above has lost it.
use Rattle.std.proofs.Common.{◌≡◌, ℕ, suc, ◌-◌, ◌<◌, true, false, cond, ◌&&◌, List, [], Option, Some, None, refl, ap, sym, ◌∙◌, subst, inl, arith, true≢false}
use Rattle.std.specs.Prelude.{nat_eq, Result, Ok, Err}
use Rattle.std.proofs.lemmas.Option.{same_Some}
use Rattle.std.proofs.lemmas.Bool.{false_from_ne_true}
use Rattle.sb_ctx.specs.View.{View, page_of, dropped}
use Rattle.sb_ctx.proofs.ViewLaws.{page_of-other}
use Rattle.sb_node.specs.Entries.{without}
use Rattle.sb_node.specs.Page.{Node}
use Rattle.sb_btree.specs.Broken.{held_node, is_of_level, is_page}
use Rattle.sb_forms.specs.Read.{all_by, is_small, is_bound}
use Rattle.sb_forms.specs.Tree.{IsBound}
use Rattle.sb_btree.specs.Inserts.{is_tree_page}
use Rattle.sb_btree.specs.Removes.{Wrote, DropsChild, RaisesChild, GaveChild, GivesChild, MergesChild, EndsBeside, StopsBeside, without_child, page_beside}
use Rattle.sb_btree.specs.declared.insertion.Put.{Put}
use Rattle.sb_btree.specs.declared.insertion.Put.TheVariants as put
use Rattle.sb_btree.specs.declared.removal.Taken.{Taken}
use Rattle.sb_btree.specs.declared.removal.Taken.TheVariants.{Lacks, Done, Empty, Single, Split}
use Rattle.sb_btree.specs.declared.walk.Stop.{Stop}
use Rattle.sb_btree.specs.declared.walk.Stop.TheVariants as stop
use Rattle.sb_btree.proofs.Descending.{not_zero}
use Rattle.sb_btree.proofs.Reading.{all_says, bound_says}
use Rattle.sb_btree.proofs.Edits.{level_of_head}
use Rattle.sb_btree.proofs.Without.{without_every}
use Rattle.sb_btree.proofs.Merging.{node_held}
use Rattle.sb_btree.proofs.Giving.{node_some, wrote_node, took_others}

-- a held page of a level, and its node
pub record NodeAt (l : ℕ) (o : Option Node) : Type 0 where
  pub node : Node
  pub is : o ≡ Some node
  pub like : is_of_level l node.head ≡ true

pub node_at : (l : ℕ) (o : Option Node) → is_tree_page l o ≡ true → NodeAt l o
node_at l None h = absurd (true≢false (sym h))
node_at l (Some n) h = record { node = n; is = refl; like = h }

-- pages of two levels are two pages
pub levels_apart : (c : View) (m x y : ℕ) (n k : Node) → held_node (page_of c x) ≡ Some n → held_node (page_of c y) ≡ Some k → m < n.head.level → is_of_level m k.head ≡ true → x ≡ y → ⊥
levels_apart c m x y n k at there up down e =
    let same : n ≡ k = same_Some n k (sym at ∙ ap (λ z. held_node (page_of c z)) e ∙ there) in
    let b = level_of_head m k.head down in
    let h = ap (λ (z : Node). z.head.level) same in
    omega (arith, b, h, up)

-- pages of higher levels keep their bytes while a child goes to the page beside
pub gave_keeps : (old new : View) (m x : ℕ) (n k : Node) (i child left : ℕ) (put_is : Put) (gone : Node) → held_node (page_of old x) ≡ Some k → m < k.head.level → held_node (page_of old child) ≡ Some gone → is_of_level m gone.head ≡ true
    → GaveChild old new m n i child left put_is → page_of new x ≡ page_of old x
gave_keeps old new m x n k i child left put_is gone at up there down g =
    let beside = levels_apart old m x (page_beside i n) k g.other at g.beside_is up g.took.like in
    let away = levels_apart old m x child k gone at there up down in
    ap (λ (c : View). page_of c x) g.changed ∙ page_of-other g.mid child x [] (λ e. away (sym e))
    ∙ took_others old g.mid m (page_beside i n) g.other g.bound.0 left (nat_eq i 0) put_is g.took x (node_some (held_node (page_of old x)) k at) beside

pub wrote_dropped : (old new : View) (page : ℕ) (n : Node) (i : ℕ) (dropping : Taken) → DropsChild old new page (Some n) i (Ok dropping) → Wrote old new page (without_child i n)
wrote_dropped old new page n i Lacks d = absurd d
wrote_dropped old new page n i Done d = d.1
wrote_dropped old new page n i Empty d = absurd d
wrote_dropped old new page n i (Single g) d = d.2
wrote_dropped old new page n i (Split bound r) d = absurd d

-- a page without a child is amiss where it was
pub without_amiss : (m i : ℕ) (n : Node) → is_of_level (suc m) n.head ≡ true → is_page (suc m) (Some (without_child i n)) ≡ false → all_by is_bound n.entries ≡ false
without_amiss m i n like wrong =
    false_from_ne_true (all_by is_bound n.entries) (λ all.
    let left : all_by is_bound (without (i - 1) n.entries) ≡ true = (all_says is_bound IsBound bound_says (without (i - 1) n.entries)).1 (without_every IsBound (i - 1) n.entries ((all_says is_bound IsBound bound_says n.entries).0 all)) in
    true≢false (sym ((λ t. like t && all_by (cond (not_zero m t) is_small is_bound) (without (i - 1) n.entries)) ∙ left) ∙ wrong))

module _ (old : View) (l m page : ℕ) (n : Node) (i child left : ℕ) (down : l ≡ suc m) (at : held_node (page_of old page) ≡ Some n) (like : is_of_level l n.head ≡ true)
    (gone : Node) (there : held_node (page_of old child) ≡ Some gone) (under : is_of_level m gone.head ≡ true) where
  up : is_of_level (suc m) n.head ≡ true
  up = subst (λ k. is_of_level k n.head ≡ true) down like

  pub gave_child : (mid : View) (put_is : Put) → GivesChild old mid l page (held_node (page_of old page)) i child left (Ok put_is) → GaveChild old mid m n i child left put_is
  gave_child mid put_is g = subst (λ o. GivesChild old mid (suc m) page o i child left (Ok put_is)) at (subst (λ k. GivesChild old mid k page (held_node (page_of old page)) i child left (Ok put_is)) down g)

  pub stays : (mid : View) (put_is : Put) → GivesChild old mid l page (held_node (page_of old page)) i child left (Ok put_is) → page_of mid page ≡ page_of old page
  stays mid put_is g =
      let height = level_of_head (suc m) n.head up in
      gave_keeps old mid m page n n i child left put_is gone at (omega (arith, height)) there under (gave_child mid put_is g)

  as_merges : (new : View) (outcome : Result Taken Stop) → MergesChild old new (suc m) page (Some n) i child left outcome → MergesChild old new l page (held_node (page_of old page)) i child left outcome
  as_merges new outcome h = subst (λ k. MergesChild old new k page (held_node (page_of old page)) i child left outcome) (sym down) (subst (λ o. MergesChild old new (suc m) page o i child left outcome) (sym at) h)

  module _ (mid next : View) (put_is : Put) (g : GivesChild old mid l page (held_node (page_of old page)) i child left (Ok put_is)) (given : dropped mid ≡ dropped old) where
    pub there_still : held_node (page_of mid page) ≡ Some n
    there_still = ap held_node (stays mid put_is g) ∙ at

    pub drop_stops : (s : Stop) → DropsChild mid next page (held_node (page_of mid page)) i (Err s) → MergesChild old next l page (held_node (page_of old page)) i child left (Err s)
    drop_stops s d = as_merges next (Err s) (by s (subst (λ o. DropsChild mid next page o i (Err s)) there_still d))
      where
        by : (s : Stop) → DropsChild mid next page (Some n) i (Err s) → StopsBeside old next m page n i s
        by (stop.Need x) d = absurd d
        by stop.Fresh d = absurd d
        by (stop.Broken x) d = inl d
        by stop.NoMemory d = tt

    module _ (dropping : Taken) (d : DropsChild mid next page (held_node (page_of mid page)) i (Ok dropping)) (next_given : dropped next ≡ dropped mid) where
      pub drop_is : DropsChild mid next page (Some n) i (Ok dropping)
      drop_is = subst (λ o. DropsChild mid next page o i (Ok dropping)) there_still d

      pub next_is : held_node (page_of next page) ≡ Some (without_child i n)
      next_is = wrote_node mid next page (without_child i n) (node_held (page_of mid page) n there_still) (wrote_dropped mid next page n i dropping drop_is)

      pub next_like : is_tree_page l (held_node (page_of next page)) ≡ true
      next_like = ap (is_tree_page l) next_is ∙ like

      -- the page beside has room
      pub merge_whole : ((bound : List ℕ) (r : ℕ) → put_is ≡ put.Split bound r → ⊥) → MergesChild old next l page (held_node (page_of old page)) i child left (Ok dropping)
      merge_whole whole = as_merges next (Ok dropping) (record {
        mid = mid;
        next = next;
        put_is = put_is;
        gave = gave_child mid put_is g;
        given = given;
        stays = stays mid put_is g;
        dropping = dropping;
        drops = drop_is;
        next_given = next_given;
        ends = by put_is whole;
      })
        where
          by : (p : Put) → ((bound : List ℕ) (r : ℕ) → p ≡ put.Split bound r → ⊥) → EndsBeside next next (suc m) page (without_child i n) p dropping dropping
          by put.Kept w = (refl, refl)
          by put.Done w = (refl, refl)
          by (put.Split bound r) w = absurd (w bound r refl)

      -- it was split
      pub merge_split : (new : View) (bound : List ℕ) (r : ℕ) (outcome : Result Taken Stop) → put_is ≡ put.Split bound r → RaisesChild next new l page (held_node (page_of next page)) bound r outcome → MergesChild old new l page (held_node (page_of old page)) i child left outcome
      merge_split new bound r outcome is h =
          as_merges new outcome (by outcome (subst (λ o. RaisesChild next new (suc m) page o bound r outcome) next_is (subst (λ k. RaisesChild next new k page (held_node (page_of next page)) bound r outcome) down h)))
        where
          by : (outcome : Result Taken Stop) → RaisesChild next new (suc m) page (Some (without_child i n)) bound r outcome → MergesChild old new (suc m) page (Some n) i child left outcome
          by (Ok taken) h = record {
            mid = mid;
            next = next;
            put_is = put_is;
            gave = gave_child mid put_is g;
            given = given;
            stays = stays mid put_is g;
            dropping = dropping;
            drops = drop_is;
            next_given = next_given;
            ends = subst (λ p. EndsBeside next new (suc m) page (without_child i n) p dropping taken) (sym is) h;
          }
          by (Err (stop.Need x)) h = absurd h.3
          by (Err stop.Fresh) h = h.3.1
          by (Err (stop.Broken x)) h = inl (h.3.0, inl (without_amiss m i n up h.3.1))
          by (Err stop.NoMemory) h = tt
