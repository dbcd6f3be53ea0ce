-- An entry that is put into an inner page over changed children: the page has it, or is split.
use Rattle.std.proofs.Common.{◌≡◌, ℕ, suc, ◌<◌, ◌≤◌, List, [], ◌∷◌, ◌++◌, length, map, Option, Some, None, IsSome, ap, sym, ◌∙◌, subst, ◌⊎◌, arith}
use Rattle.std.specs.Prelude.{Ok}
use Rattle.std.proofs.lemmas.List.{length-map, map-append}
use Rattle.std.specs.FinMap.Entries.{put}
use Rattle.sb_bytes.specs.Field.{number_at}
use Rattle.sb_forms.specs.Pages.{Pages}
use Rattle.sb_ctx.specs.View.{View, page_of, dropped, stored}
use Rattle.sb_node.specs.Entries.{Entry, key_cmp}
use Rattle.sb_node.specs.Page.{Node, node_of, with_entries}
use Rattle.sb_forms.specs.Tree.{nodes, Child, child_of, children_of, IsWithin, IsBound, AreBounds, IsInner, Has}
use Rattle.sb_btree.specs.Inserts.{IsFree, AreHalves, PutChildAt, children_after}
use Rattle.sb_btree.specs.Removes.{Shrinks}
use Rattle.sb_btree.specs.declared.insertion.Put.{Put}
use Rattle.sb_btree.specs.declared.insertion.Put.TheVariants.{Kept, Done, Split}
use Rattle.sb_btree.proofs.Putting.{put_some}
use Rattle.sb_btree.proofs.Splitting.{tail_of, head_of}
use Rattle.sb_btree.proofs.Halved.{one_stored, one_others, two_left, two_right, two_others, apart_free}
use Rattle.sb_btree.proofs.Raised.{put_bounds, parts_bounds}
use Rattle.sb_btree.proofs.Shrinking.{page_one, page_two}

-- the pages after an entry was put into one, which had this node
pub record OnePage (mid new : View) (P : Pages) (q : ℕ) (n : Node) (key value : List ℕ) : Type 0 where
  pub is : nodes (stored new P) q ≡ Some (with_entries (put key_cmp key value n.entries) n)
  pub others : (x : ℕ) → (x ≡ q → ⊥) → stored new P x ≡ stored mid P x

pub record TwoPages (mid new : View) (P : Pages) (l q r : ℕ) (n : Node) (top key value : List ℕ) : Type 0 where
  pub lesser : List Entry
  pub other : Node
  pub free : IsFree mid r
  pub left_is : nodes (stored new P) q ≡ Some (with_entries lesser n)
  pub right_is : nodes (stored new P) r ≡ Some other
  pub kind_is : other.head.kind ≡ n.head.kind
  pub level_is : other.head.level ≡ n.head.level
  pub halves : AreHalves l top (put key_cmp key value n.entries) lesser other
  pub some : 0 < length lesser
  pub others : (x : ℕ) → (x ≡ q → ⊥) → (x ≡ r → ⊥) → stored new P x ≡ stored mid P x

abbrev pub PutPages : View → View → Pages → ℕ → ℕ → Node → List ℕ → List ℕ → Put → Type 0
PutPages mid new P l q n key value Kept = ⊥
PutPages mid new P l q n key value Done = OnePage mid new P q n key value
PutPages mid new P l q n key value (Split top r) = TwoPages mid new P l q r n top key value

-- what a put of a child comes to
pub put_pages : (mid new : View) (P : Pages) (l q : ℕ) (n : Node) (bound : List ℕ) (child : ℕ) (put_is : Put) → IsSome (page_of mid q) → nodes (stored mid P) q ≡ Some n → PutChildAt mid new l q (Some n) bound child (Ok put_is)
    → (v : List ℕ) × (length v ≡ 4) × (number_at 4 v 0 ≡ child) × PutPages mid new P l q n bound v put_is
put_pages mid new P l q n bound child Kept held at h = absurd h
put_pages mid new P l q n bound child Done held at h = (h.0, h.1, h.2, record { is = one_stored mid new P q n bound h.0 held h.3.1; others = λ x other. one_others mid new P q x n bound h.0 h.3.1 other })
put_pages mid new P l q n bound child (Split top r) held at h =
    let t = h.3.2 in
    let apart = apart_free mid P q r n at t.free in (
      h.0,
      h.1,
      h.2,
      record {
        lesser = t.lesser;
        other = t.other;
        free = t.free;
        left_is = two_left mid new P l q r n top bound h.0 held apart t;
        right_is = two_right mid new P l q r n top bound h.0 apart t;
        kind_is = t.kind_is;
        level_is = t.level_is;
        halves = t.halves;
        some = t.some;
        others = λ x a b. two_others mid new P l q r x n top bound h.0 t a b;
      },
    )

-- the bound of a second half is short
pub put_short : (mid new : View) (l q : ℕ) (n : Node) (bound : List ℕ) (child : ℕ) (top : List ℕ) (r : ℕ) → PutChildAt mid new l q (Some n) bound child (Ok (Split top r)) → length top ≤ 602
put_short mid new l q n bound child top r h = h.3.1

-- the same seen between two other moments
pub put_between : (mid new mid' new' : View) (P : Pages) (l q : ℕ) (n : Node) (key value : List ℕ) (put_is : Put) → PutPages mid new P l q n key value put_is
    → stored new' P q ≡ stored new P q → ((r : ℕ) → IsFree mid r → IsFree mid' r × (stored new' P r ≡ stored new P r)) → ((x : ℕ) → (x ≡ q → ⊥) → stored new P x ≡ stored mid P x → stored new' P x ≡ stored mid' P x)
    → PutPages mid' new' P l q n key value put_is
put_between mid new mid' new' P l q n key value Kept h here free others = h
put_between mid new mid' new' P l q n key value Done h here free others = record { is = ap node_of here ∙ h.is; others = λ x ne. others x ne (h.others x ne) }
put_between mid new mid' new' P l q n key value (Split top r) h here free others =
    let f = free r h.free in
    record {
      lesser = h.lesser;
      other = h.other;
      free = f.0;
      left_is = ap node_of here ∙ h.left_is;
      right_is = ap node_of f.1 ∙ h.right_is;
      kind_is = h.kind_is;
      level_is = h.level_is;
      halves = h.halves;
      some = h.some;
      others = λ x a b. others x a (h.others x a b);
    }

-- so the page is one of a tree again, or both are
module _ (m : ℕ) (old mid new : View) (P : Pages) (q : ℕ) (low : List ℕ) (high top start : Option (List ℕ)) (k : Child) (ks : List Child) (want : List Entry) (olds olds' : List ℕ)
    (more : (x : ℕ) → Has x olds → Has x olds') (split : (x : ℕ) → Has x olds' → (x ≡ q) ⊎ Has x olds) (mine : Has q olds') (never : Has q olds → ⊥)
    (was : nodes (stored old P) q ≡ None → ⊥) (there : nodes (stored mid P) q ≡ None → ⊥)
    (given : dropped mid ≡ dropped old)
    (s : Shrinks old mid m P olds start top (k ∷ ks) want) (within : IsWithin low high want)
    (n : Node) (key value : List ℕ) (inner : IsInner (suc m) (Some n)) (bound : IsBound (key, value))
    (list : ([], n.head.a) ∷ map child_of (put key_cmp key value n.entries) ≡ ([], k.1) ∷ ks) where
  pub put_page : (put_is : Put) → PutPages mid new P (suc m) q n key value put_is → Shrinks old new (suc m) P olds' (Some low) high (children_after q low put_is) want
  put_page Kept h = absurd h
  put_page Done h =
      let some : 0 < length ks = omega (arith, ap length (tail_of _ _ _ _ list), length-map (put key_cmp key value n.entries) child_of, put_some key value n.entries) in
      page_one m old mid new P q low high top start k ks want olds olds' more split mine never was there s h.others
      (subst (IsInner (suc m)) (sym h.is) (inner.0, inner.1, put_bounds key value n.entries bound inner.2)) (ap children_of h.is ∙ list) some within
  put_page (Split up r) h =
      let entry : Entry = (up, h.halves.0) in
      let cut : map child_of (put key_cmp key value n.entries) ≡ map child_of h.lesser ++ (child_of entry ∷ map child_of h.other.entries) = ap (map child_of) h.halves.1 ∙ map-append child_of h.lesser (entry ∷ h.other.entries) in
      let ks_are : ks ≡ map child_of h.lesser ++ (child_of entry ∷ map child_of h.other.entries) = sym (tail_of _ _ _ _ list) ∙ cut in
      let first : n.head.a ≡ k.1 = ap (λ (c : Child). c.1) (head_of _ _ _ _ list) in
      let bounds = parts_bounds h.lesser (entry ∷ h.other.entries) (subst AreBounds h.halves.1 (put_bounds key value n.entries bound inner.2)) in
      page_two m old mid new P q r low high top start k (child_of entry) (map child_of h.lesser) (map child_of h.other.entries) want olds olds' more split mine never was there given h.free
      (subst (λ xs. Shrinks old mid m P olds start top (k ∷ xs) want) ks_are s) h.others
      (subst (IsInner (suc m)) (sym h.left_is) (inner.0, inner.1, bounds.0)) (ap children_of h.left_is ∙ ap (λ c. ([], c) ∷ map child_of h.lesser) first) (omega (arith, length-map h.lesser child_of, h.some))
      (subst (IsInner (suc m)) (sym h.right_is) (h.kind_is ∙ inner.0, h.level_is ∙ inner.1, bounds.1.1)) (ap children_of h.right_is ∙ ap (λ c. ([], c) ∷ map child_of h.other.entries) h.halves.2) (omega (arith, length-map h.other.entries child_of, h.halves.3)) within
