-- The fresh pages that a page takes where it loses a child.
use Rattle.std.proofs.Common.{◌≡◌, ℕ, suc, ◌≤◌, true, List, length, Some, sym, subst}
use Rattle.std.specs.Prelude.{Result, Ok}
use Rattle.sb_ctx.specs.View.{View, page_of, dropped}
use Rattle.sb_node.specs.Page.{Node}
use Rattle.sb_forms.specs.Tree.{IsInner, entries_of}
use Rattle.sb_btree.specs.Broken.{held_node, is_of_level}
use Rattle.sb_btree.specs.Removes.{DropsChild, GivesChild}
use Rattle.sb_btree.specs.Spending.{MergesWithin, RaisesAt, TakesBeside}
use Rattle.sb_btree.specs.declared.insertion.Put.{Put}
use Rattle.sb_btree.specs.declared.insertion.Put.TheVariants as put
use Rattle.sb_btree.specs.declared.removal.Taken.{Taken}
use Rattle.sb_btree.specs.declared.walk.Stop.{Stop}
use Rattle.sb_btree.proofs.Giving.{HasNode, node_some}
use Rattle.sb_btree.proofs.Joining.{there_still, drop_is, next_is}
use Rattle.sb_btree.proofs.Sparing.{split_within, whole_within}

module _ (old : View) (l m page : ℕ) (n : Node) (i child left : ℕ) (down : l ≡ suc m) (at : held_node (page_of old page) ≡ Some n) (like : is_of_level l n.head ≡ true)
    (gone : Node) (there : held_node (page_of old child) ≡ Some gone) (under : is_of_level m gone.head ≡ true)
    (mid next : View) (put_is : Put) (g : GivesChild old mid l page (held_node (page_of old page)) i child left (Ok put_is)) (given : dropped mid ≡ dropped old)
    (dropping : Taken) (d : DropsChild mid next page (held_node (page_of mid page)) i (Ok dropping)) (next_given : dropped next ≡ dropped mid) where
  drops : DropsChild mid next page (Some n) i (Ok dropping)
  drops = drop_is old l m page n i child left down at like gone there under mid next put_is g given dropping d next_given

  has : HasNode mid page
  has = node_some (held_node (page_of mid page)) n (there_still old l m page n i child left down at like gone there under mid next put_is g given)

  pub merge_whole_within : ((bound : List ℕ) (r : ℕ) → put_is ≡ put.Split bound r → ⊥) → TakesBeside old mid (Ok put_is)
      → IsInner l (held_node (page_of old page)) → MergesWithin old next (held_node (page_of old page)) (Ok dropping)
  merge_whole_within whole beside inner = subst (λ o. MergesWithin old next o (Ok dropping)) (sym at) (whole_within old mid next page n i put_is dropping has whole beside drops)

  pub merge_split_within : (new : View) (bound : List ℕ) (r : ℕ) (outcome : Result Taken Stop) → put_is ≡ put.Split bound r → i ≤ length (entries_of (held_node (page_of old page))) → TakesBeside old mid (Ok put_is)
      → RaisesAt next new (held_node (page_of next page)) outcome → IsInner l (held_node (page_of old page)) → MergesWithin old new (held_node (page_of old page)) outcome
  merge_split_within new bound r outcome is low beside raises inner =
      let node = next_is old l m page n i child left down at like gone there under mid next put_is g given dropping d next_given in
      subst (λ o. MergesWithin old new o outcome) (sym at)
      (split_within old mid next new m page n i bound r dropping outcome has (subst (λ k. IsInner k (Some n)) down (subst (IsInner l) at inner)) (subst (λ o. i ≤ length (entries_of o)) at low)
      (subst (λ p. TakesBeside old mid (Ok p)) is beside) drops (subst (λ o. RaisesAt next new o outcome) node raises))
