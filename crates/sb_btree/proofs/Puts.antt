-- Each end of a put, for all pages in which the key's place is in a tree.
use Rattle.std.proofs.Common.{◌≡◌, ℕ, suc, not, Bool, false, List, Option, Some, IsSome, ap, sym, ◌∙◌, subst, T, true≢false}
use Rattle.std.specs.Prelude.{Result, Ok, Err}
use Rattle.std.specs.FinMap.Entries.{find, is_sorted}
use Rattle.sb_forms.specs.Pages.{Pages}
use Rattle.sb_ctx.specs.View.{View, page_of, dropped, stored}
use Rattle.sb_node.specs.Entries.{key_cmp}
use Rattle.sb_node.specs.Page.{Node}
use Rattle.sb_forms.specs.Tree.{nodes, entries_of, items, IsSmall, IsTree, child_in}
use Rattle.sb_btree.specs.Became.{IsPlace}
use Rattle.sb_btree.specs.Broken.{is_page}
use Rattle.sb_btree.specs.Inserts.{IsThere, PutAt, PutChildAt, PutsAt}
use Rattle.sb_btree.specs.declared.insertion.Put.{Put}
use Rattle.sb_btree.specs.declared.insertion.Put.TheVariants.{Kept, Done, Split}
use Rattle.sb_btree.specs.declared.walk.Stop.{Stop}
use Rattle.sb_btree.specs.declared.walk.Stop.TheVariants as stop
use Rattle.sb_btree.proofs.Children.{tree_step}
use Rattle.sb_btree.proofs.Descending.{tree_page}
use Rattle.sb_btree.proofs.Halved.{leaf_done, leaf_split}
use Rattle.sb_btree.proofs.Raised.{kid, kid_low, kid_high, find_is, raise_done, raise_grown, raise_split}

-- a page of a tree isn't amiss
not_amiss : (l : ℕ) (P : Pages) (page : ℕ) (n : Node) → nodes P page ≡ Some n → IsTree l (nodes P) page → is_page l (Some n) ≡ false → ⊥
not_amiss l P page n at t is = true≢false (sym (tree_page l (nodes P) page t) ∙ ap (is_page l) at ∙ is)

pub leaf_puts : (stands : Bool) (old new : View) (P : Pages) (page : ℕ) (key value low : List ℕ) (high : Option (List ℕ)) (n : Node) (outcome : Result Put Stop) → nodes (stored old P) page ≡ Some n → IsSome (page_of old page) → IsPlace 0 (stored old P) page low high key
    → IsSmall (key, value) → T (is_sorted key_cmp n.entries) → PutAt stands old new 0 page (Some n) key value outcome → PutsAt stands old new 0 page key value P low high outcome
leaf_puts stands old new P page key value low high n (Ok Kept) at held place small sorted h = (subst (λ o. IsThere (not stands) (find key_cmp key (entries_of o))) (sym at) h.0, h.1)
leaf_puts stands old new P page key value low high n (Ok Done) at held place small sorted h = leaf_done stands old new P page key value low high n at held place small h.0 h.1
leaf_puts stands old new P page key value low high n (Ok (Split bound next)) at held place small sorted h = (leaf_split stands old new P page next bound key value low high n at held place small h.0 sorted h.2, h.1)
leaf_puts stands old new P page key value low high n (Err (stop.Need x)) at held place small sorted h = tt
leaf_puts stands old new P page key value low high n (Err stop.Fresh) at held place small sorted h = subst (λ o. IsThere stands (find key_cmp key (entries_of o))) (sym at) h.0
leaf_puts stands old new P page key value low high n (Err (stop.Broken x)) at held place small sorted h = not_amiss 0 (stored old P) page n at place.tree h.1
leaf_puts stands old new P page key value low high n (Err stop.NoMemory) at held place small sorted h = tt

-- no page was split
abbrev pub IsWhole : Result Put Stop → Type 0
IsWhole (Ok (Split bound next)) = ⊥
IsWhole outcome = Unit {0}

module _ (stands : Bool) (l : ℕ) (old : View) (P : Pages) (page : ℕ) (key value low : List ℕ) (high : Option (List ℕ)) (n : Node) (at : nodes (stored old P) page ≡ Some n) (place : IsPlace (suc l) (stored old P) page low high key) where
  pub same_puts : (new : View) (outcome : Result Put Stop) → IsWhole outcome
      → PutsAt stands old new l (kid stands l old P page key value low high n at place) key value P (kid_low stands l old P page key value low high n at place) (kid_high stands l old P page key value low high n at place) outcome
      → PutsAt stands old new (suc l) page key value P low high outcome
  same_puts new (Ok Kept) whole h = (subst (IsThere (not stands)) (sym (tree_step (nodes (stored old P)) l key page place.tree ∙ ap (λ o. find key_cmp key (items l (nodes (stored old P)) (child_in key o))) at)) h.0, h.1)
  same_puts new (Ok Done) whole h = raise_done stands l old P page key value low high n at place new h
  same_puts new (Ok (Split bound next)) whole h = absurd whole
  same_puts new (Err (stop.Need x)) whole h = tt
  same_puts new (Err stop.Fresh) whole h = find_is stands l old P page key value low high n at place h
  same_puts new (Err (stop.Broken x)) whole h = h
  same_puts new (Err stop.NoMemory) whole h = tt

  pub child_puts : (mid new : View) (bound : List ℕ) (next : ℕ) (outcome : Result Put Stop) → dropped mid ≡ dropped old → IsSome (page_of mid page) → nodes (stored mid P) page ≡ Some n
      → PutsAt stands old mid l (kid stands l old P page key value low high n at place) key value P (kid_low stands l old P page key value low high n at place) (kid_high stands l old P page key value low high n at place) (Ok (Split bound next))
      → PutChildAt mid new (suc l) page (Some n) bound next outcome → PutsAt stands old new (suc l) page key value P low high outcome
  child_puts mid new bound next (Ok Kept) given held there below h = absurd h
  child_puts mid new bound next (Ok Done) given held there below h =
      raise_grown stands l old P page key value low high n at place mid bound h.0 next given below.0 held (h.1, below.1) h.2 new h.3.1
  child_puts mid new bound next (Ok (Split top r)) given held there below h =
      (raise_split stands l old P page key value low high n at place mid bound h.0 next given below.0 held (h.1, below.1) h.2 new top r there h.3.2, h.3.1)
  child_puts mid new bound next (Err (stop.Need x)) given held there below h = tt
  child_puts mid new bound next (Err stop.Fresh) given held there below h = find_is stands l old P page key value low high n at place below.0.0
  child_puts mid new bound next (Err (stop.Broken x)) given held there below h = not_amiss (suc l) (stored old P) page n at place.tree h.3.1
  child_puts mid new bound next (Err stop.NoMemory) given held there below h = tt
