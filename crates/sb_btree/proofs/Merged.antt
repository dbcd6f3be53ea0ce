-- A page of which one child gave its last child to the one beside and is given back.
use Rattle.std.proofs.Common.{◌≡◌, ℕ, suc, ◌+◌, ◌-◌, ◌<◌, ◌≤◌, Bool, true, false, cond, List, [], ◌∷◌, ◌++◌, length, map, Option, Some, None, IsSome, refl, ap, sym, ◌∙◌, subst, arith, append_assoc, length-append}
use Rattle.std.specs.Prelude.{nat_eq, slice_get, Ok}
use Rattle.std.proofs.lemmas.List.{length-map, append-nil}
use Rattle.std.specs.FinMap.Entries.{find}
use Rattle.sb_forms.specs.Pages.{Pages}
use Rattle.sb_ctx.proofs.ViewLaws.{dropped-with_page}
use Rattle.sb_ctx.specs.View.{View, held_at, page_of, with_page, dropped, stored}
use Rattle.sb_node.specs.Entries.{Entry, key_cmp, without}
use Rattle.sb_node.specs.Page.{Node}
use Rattle.sb_forms.specs.Tree.{nodes, Child, child_of, over, items, met, next_low, AreChildren, IsTree, IsChild, Has, Apart}
use Rattle.sb_btree.specs.Became.{IsPlace}
use Rattle.sb_btree.specs.Broken.{held_node}
use Rattle.sb_btree.specs.Held.{passed, nth_child}
use Rattle.sb_btree.specs.Inserts.{PutChildAt, children_after}
use Rattle.sb_btree.specs.Removes.{Shrinks, TakesAt, DropsChild, Wrote, MergedChild, EndsBeside, TookChild, taker, entered, entries_without, first_without, without_child, page_beside, place_beside}
use Rattle.sb_btree.specs.declared.insertion.Put.{Put}
use Rattle.sb_btree.specs.declared.insertion.Put.TheVariants as put
use Rattle.sb_btree.specs.declared.removal.Taken.{Taken}
use Rattle.sb_btree.specs.declared.removal.Taken.TheVariants.{Lacks, Done, Empty, Single, Split}
use Rattle.sb_btree.proofs.Children.{over-append, AreChildren-left, AreChildren-right}
use Rattle.sb_btree.proofs.Frames.{both-apart}
use Rattle.sb_btree.proofs.Members.{has_left}
use Rattle.sb_btree.proofs.Shrinking.{own_met}
use Rattle.sb_btree.proofs.Entered.{put_short}
use Rattle.sb_btree.proofs.Without.{length-without, children_without}
use Rattle.sb_btree.proofs.Descending.{positive}
use Rattle.sb_btree.proofs.Splitting.{tail_of, head_of}
use Rattle.sb_btree.proofs.Dropping.{without_inner}
use Rattle.sb_btree.proofs.Taking.{PlacedAt, in_order, is_inner, apart, want_is, whole}
use Rattle.sb_btree.proofs.Takes.{all, at_kid, full, Whole, found, held_other, wrote_is, wrote_held, drop_takes, raise_takes}
use Rattle.sb_btree.proofs.Merging.{node_held, merged_behind, merged_front}

none_left : {A : Type 0} (xs : List A) (c : A) (ys : List A) → [] ≡ xs ++ c ∷ ys → ⊥
none_left [] c ys e = cc
none_left (x ∷ xs) c ys e = cc

-- ---- a child by its place, and the bound behind it
nth_at : (k : Child) (es : List Entry) (xs : List Child) (c : Child) (ys : List Child) → k ∷ map child_of es ≡ xs ++ c ∷ ys → nth_child k.1 es (length xs) ≡ c.1
nth_at k [] [] c ys parts = ap (λ (j : Child). j.1) (head_of k c [] ys parts)
nth_at k [] (x ∷ xs) c ys parts = absurd (none_left xs c ys (tail_of k x [] (xs ++ c ∷ ys) parts))
nth_at k (e ∷ es) [] c ys parts = ap (λ (j : Child). j.1) (head_of k c (map child_of (e ∷ es)) ys parts)
nth_at k (e ∷ es) (x ∷ xs) c ys parts = nth_at (child_of e) es xs c ys (tail_of k x (map child_of (e ∷ es)) (xs ++ c ∷ ys) parts)

bound_at : (k : Child) (es : List Entry) (xs : List Child) (c d : Child) (ys : List Child) (e : Entry) → k ∷ map child_of es ≡ xs ++ (c ∷ d ∷ ys) → slice_get es (length xs) ≡ Some e → e.0 ≡ d.0
bound_at k [] xs c d ys e parts at = absurd (cc)
bound_at k (f ∷ es) [] c d ys e parts at =
    let same : f ≡ e = cc in
    ap (λ (x : Entry). x.0) (sym same) ∙ ap (λ (j : Child). j.0) (head_of (child_of f) d (map child_of es) ys (tail_of k c (map child_of (f ∷ es)) (d ∷ ys) parts))
bound_at k (f ∷ es) (x ∷ xs) c d ys e parts at = bound_at (child_of f) es xs c d ys e (tail_of k x (map child_of (f ∷ es)) (xs ++ (c ∷ d ∷ ys)) parts) at

-- the last one of some children
record Last (xs : List Child) : Type 0 where
  others : List Child
  last : Child
  are : xs ≡ others ++ last ∷ []
  count : length others + 1 ≡ length xs

last_of : (x : Child) (xs : List Child) → Last (x ∷ xs)
last_of x [] = record { others = []; last = x; are = refl; count = refl }
last_of x (y ∷ xs) = let rest = last_of y xs in record { others = x ∷ rest.others; last = rest.last; are = ap (λ zs. x ∷ zs) rest.are; count = omega (arith, rest.count) }

-- ---- where the page beside has the child
module _ (m : ℕ) (old : View) (P : Pages) (page : ℕ) (key low : List ℕ) (high : Option (List ℕ)) (n : Node) (at : nodes (stored old P) page ≡ Some n) (place : IsPlace (suc (suc m)) (stored old P) page low high key) where
  abbrev kids : List Child
  kids = all (suc m) old P page key low high n at place

  abbrev kid : Child
  kid = (at_kid (suc m) old P page key low high n at place).kid

  abbrev front : List Child
  front = (at_kid (suc m) old P page key low high n at place).before

  abbrev behind : List Child
  behind = (at_kid (suc m) old P page key low high n at place).after

  abbrev i : ℕ
  i = passed (Some key) n.entries

  abbrev IsSo : View → List Child → Type 0
  IsSo mid now = Whole (suc m) old P page key low high n at place mid now

  -- the page above loses the child, and may get the second half of the page beside
  merge_ends : (mid next new : View) (xs : List Child) (c : Child) (ys : List Child) (put_is : Put) (dropping taken : Taken) → IsSo mid (xs ++ (children_after c.1 c.0 put_is ++ ys))
      → ([], first_without i n) ∷ map child_of (without (i - 1) n.entries) ≡ xs ++ c ∷ ys → ((bound : List ℕ) (r : ℕ) → put_is ≡ put.Split bound r → length bound ≤ 602)
      → dropped mid ≡ dropped old → IsSome (page_of mid page) → IsSome (find key_cmp key (items (suc (suc m)) (nodes (stored old P)) page))
      → DropsChild mid next page (Some n) i (Ok dropping) → EndsBeside next new (suc (suc m)) page (without_child i n) put_is dropping taken
      → TakesAt old new (suc (suc m)) page key P low high (Ok taken)
  merge_ends mid next new xs c ys put_is dropping taken s list short given held has drops ends = by put_is s short ends
    where
      some : 0 < length n.entries
      some = full (suc m) old P page key low high n at place

      count : length (map child_of (without (i - 1) n.entries)) + 1 ≡ length n.entries
      count =
          let k = at_kid (suc m) old P page key low high n at place in
          let l : length kids ≡ length k.before + length (k.kid ∷ k.after) = ap length k.parts ∙ length-append k.before (k.kid ∷ k.after) in
          let less : i - 1 < length n.entries = omega (arith, l, k.count, length-map n.entries child_of, some) in
          omega (arith, length-map (without (i - 1) n.entries) child_of, length-without (i - 1) n.entries less)

      alone : IsSo mid (xs ++ ((c.0, c.1) ∷ ys)) → TakesAt old next (suc (suc m)) page key P low high (Ok dropping)
      alone s =
          drop_takes (suc m) old P page key low high n at place mid next ([], first_without i n) (map child_of (without (i - 1) n.entries)) dropping
          (subst (IsSo mid) (sym list) s) refl count held has drops

      wrote : (dropping : Taken) → DropsChild mid next page (Some n) i (Ok dropping) → Wrote mid next page (without_child i n)
      wrote Lacks d = absurd d
      wrote Done d = d.1
      wrote Empty d = absurd d
      wrote (Single g) d = d.2
      wrote (Split bound r) d = absurd d

      by : (put_is : Put) → IsSo mid (xs ++ (children_after c.1 c.0 put_is ++ ys)) → ((bound : List ℕ) (r : ℕ) → put_is ≡ put.Split bound r → length bound ≤ 602)
          → EndsBeside next new (suc (suc m)) page (without_child i n) put_is dropping taken → TakesAt old new (suc (suc m)) page key P low high (Ok taken)
      by put.Kept s short e = subst (λ (v : View). TakesAt old v (suc (suc m)) page key P low high (Ok taken)) (sym e.0) (subst (λ t. TakesAt old next (suc (suc m)) page key P low high (Ok t)) (sym e.1) (alone s))
      by put.Done s short e = subst (λ (v : View). TakesAt old v (suc (suc m)) page key P low high (Ok taken)) (sym e.0) (subst (λ t. TakesAt old next (suc (suc m)) page key P low high (Ok t)) (sym e.1) (alone s))
      by (put.Split bound r) s short e =
          let w = wrote dropping drops in
          raise_takes (suc m) old P page key low high n at place mid next new (without_child i n) xs (c.0, c.1) ys bound r (Ok taken) s list (without_inner (suc m) i n (is_inner (suc m) old P page key low high n at place)) (short bound r refl) given
          (wrote_held mid next page (without_child i n) held w) (wrote_is mid next P page (without_child i n) held w)
          (λ x ne. ap (λ (v : View). held_at v x) w.changed ∙ held_other mid page x w.bytes (λ q. ne (sym q))) has e

  -- the bound of a second half is short
  took_short : (before mid : View) (b g : ℕ) (in_front : Bool) (bound : List ℕ) (other : Node) (put_is : Put) → TookChild before mid (suc m) b other bound g in_front put_is → (top : List ℕ) (r : ℕ) → put_is ≡ put.Split top r → length top ≤ 602
  took_short before mid b g in_front bound other put_is t top r is =
      put_short t.mid mid (suc m) b (taker in_front g other) bound (entered in_front g other) top r (subst (λ p. PutChildAt t.mid mid (suc m) b (Some (taker in_front g other)) bound (entered in_front g other) (Ok p)) is t.puts)

  ordered : (xs : List Child) (first second : Child) (ys : List Child) → kids ≡ xs ++ (first ∷ second ∷ ys) → AreChildren (IsChild (suc m) (nodes (stored old P))) (items (suc m) (nodes (stored old P))) (next_low None ys) (first ∷ second ∷ [])
  ordered xs first second ys parts =
      AreChildren-left (IsChild (suc m) (nodes (stored old P))) (items (suc m) (nodes (stored old P))) None (first ∷ second ∷ []) ys
      (AreChildren-right (IsChild (suc m) (nodes (stored old P))) (items (suc m) (nodes (stored old P))) None xs (first ∷ second ∷ ys)
      (subst (AreChildren (IsChild (suc m) (nodes (stored old P))) (items (suc m) (nodes (stored old P))) None) parts (in_order (suc m) old P page key low high n at place)))

  set_apart : (xs : List Child) (first second : Child) (ys : List Child) → kids ≡ xs ++ (first ∷ second ∷ ys) → Apart (over (met (suc m) (nodes (stored old P))) (first ∷ second ∷ []))
  set_apart xs first second ys parts =
      let f = met (suc m) (nodes (stored old P)) in
      let cut = ap (over f) parts ∙ over-append f xs (first ∷ second ∷ ys) in
      let one = both-apart (over f xs) (over f (first ∷ second ∷ ys)) (subst Apart cut (apart (suc m) old P page key low high n at place).1) in
      (both-apart (over f (first ∷ second ∷ [])) (over f ys) (subst Apart (over-append f (first ∷ second ∷ []) ys) one.second)).first

  -- the page beside is a tree of its own
  pub record Beside (b : ℕ) : Type 0 where
    pub tree : IsTree (suc m) (nodes (stored old P)) b
    pub unmet : Has b (met (suc m) (nodes (stored old P)) kid.1) → ⊥

  pub beside_so : Beside (page_beside i n)
  beside_so = by front refl
    where
      k : PlacedAt key ([], n.head.a) n.entries i
      k = at_kid (suc m) old P page key low high n at place

      in_front : (ys : List Child) → behind ≡ ys → front ≡ [] → Beside (page_beside i n)
      in_front [] none empty =
          let l : length kids ≡ 1 = ap length (k.parts ∙ (λ j. empty j ++ k.kid ∷ none j)) in
          absurd (omega (arith, l, length-map n.entries child_of, full (suc m) old P page key low high n at place))
      in_front (second ∷ ys) behind_is empty =
          let parts : kids ≡ kid ∷ second ∷ ys = k.parts ∙ (λ j. empty j ++ k.kid ∷ behind_is j) in
          let first : i ≡ 0 = sym k.count ∙ ap length empty in
          let beside : page_beside i n ≡ second.1 = ap (λ x. nth_child n.head.a n.entries (place_beside x)) first ∙ nth_at ([], n.head.a) n.entries (kid ∷ []) second ys parts in
          let cut = both-apart (met (suc m) (nodes (stored old P)) kid.1) (met (suc m) (nodes (stored old P)) second.1 ++ []) (set_apart [] kid second ys parts) in
          subst Beside (sym beside) (record { tree = (ordered [] kid second ys parts).3.0.0; unmet = λ h. cut.each second.1 h (has_left second.1 (met (suc m) (nodes (stored old P)) second.1) [] (own_met (suc m) (nodes (stored old P)) second.1)) })

      by : (xs : List Child) → front ≡ xs → Beside (page_beside i n)
      by [] empty = in_front behind refl empty
      by (x ∷ xs) front_is =
          let last = last_of x xs in
          let parts : kids ≡ last.others ++ (last.last ∷ kid ∷ behind) = k.parts ∙ ap (λ zs. zs ++ k.kid ∷ k.after) (front_is ∙ last.are) ∙ append_assoc last.others (last.last ∷ []) (kid ∷ behind) in
          let count : i ≡ length (x ∷ xs) = sym k.count ∙ ap length front_is in
          let start : i - 1 ≡ length last.others = omega (arith, count, last.count) in
          let place_is : place_beside i ≡ length last.others = ap (λ b. cond b 1 (i - 1)) (positive i (omega (arith, count))) ∙ start in
          let beside : page_beside i n ≡ last.last.1 = ap (nth_child n.head.a n.entries) place_is ∙ nth_at ([], n.head.a) n.entries last.others last.last (kid ∷ behind) parts in
          let cut = both-apart (met (suc m) (nodes (stored old P)) last.last.1) (met (suc m) (nodes (stored old P)) kid.1 ++ []) (set_apart last.others last.last kid behind parts) in
          subst Beside (sym beside) (record { tree = (ordered last.others last.last kid behind parts).0.0; unmet = λ h. cut.each last.last.1 (own_met (suc m) (nodes (stored old P)) last.last.1) (has_left last.last.1 (met (suc m) (nodes (stored old P)) kid.1) [] h) })

  pub merge_takes : (before new : View) (g : ℕ) (gone : Node) (taken : Taken) → dropped before ≡ dropped old
      → TakesAt old before (suc m) kid.1 key P kid.0 (next_low None behind) (Ok (Single g)) → held_node (page_of before kid.1) ≡ Some gone → held_node (page_of before page) ≡ Some n
      → MergedChild before new (suc m) page n i kid.1 g taken → TakesAt old new (suc (suc m)) page key P low high (Ok taken)
  merge_takes before new g gone taken given took gone_is page_is h = by front refl
    where
      k : PlacedAt key ([], n.head.a) n.entries i
      k = at_kid (suc m) old P page key low high n at place

      has : IsSome (find key_cmp key (items (suc (suc m)) (nodes (stored old P)) page))
      has = found (suc m) old P page key low high n at place took.1.0

      given_mid : dropped h.gave.mid ≡ dropped before
      given_mid = sym (dropped-with_page h.gave.mid kid.1 []) ∙ ap dropped (sym h.gave.changed) ∙ h.given

      held : IsSome (page_of h.mid page)
      held = subst (λ (o : Option (List ℕ)). IsSome o) (sym h.stays) (node_held (page_of before page) n page_is)

      wants : entries_without key (over (items (suc m) (nodes (stored old P))) kids)
          ≡ over (items (suc m) (nodes (stored old P))) front ++ (entries_without key (items (suc m) (nodes (stored old P)) kid.1) ++ over (items (suc m) (nodes (stored old P))) behind)
      wants = want_is (suc m) old P page key low high n at place

      taken_by : (b : ℕ) (bound : List ℕ) (in_front : Bool) → page_beside i n ≡ b → h.gave.bound.0 ≡ bound → nat_eq i 0 ≡ in_front → TookChild before h.gave.mid (suc m) b h.gave.other bound g in_front h.put_is
      taken_by b bound in_front p q r =
          subst (λ x. TookChild before h.gave.mid (suc m) x h.gave.other bound g in_front h.put_is) p
          (subst (λ x. TookChild before h.gave.mid (suc m) (page_beside i n) h.gave.other x g in_front h.put_is) q
          (subst (λ x. TookChild before h.gave.mid (suc m) (page_beside i n) h.gave.other h.gave.bound.0 g x h.put_is) r h.gave.took))

      ending : (xs : List Child) (c : Child) (ys : List Child) → IsSo (with_page kid.1 [] h.gave.mid) (xs ++ (children_after c.1 c.0 h.put_is ++ ys))
          → ([], first_without i n) ∷ map child_of (without (i - 1) n.entries) ≡ xs ++ c ∷ ys → TakesAt old new (suc (suc m)) page key P low high (Ok taken)
      ending xs c ys s list =
          merge_ends h.mid h.next new xs c ys h.put_is h.dropping taken (subst (λ (v : View). IsSo v (xs ++ (children_after c.1 c.0 h.put_is ++ ys))) (sym h.gave.changed) s) list
          (took_short before h.gave.mid (page_beside i n) g (nat_eq i 0) h.gave.bound.0 h.gave.other h.put_is h.gave.took) (h.given ∙ given) held has h.drops h.ends

      in_front : (ys : List Child) → behind ≡ ys → front ≡ [] → TakesAt old new (suc (suc m)) page key P low high (Ok taken)
      in_front [] none empty =
          let l : length kids ≡ 1 = ap length (k.parts ∙ (λ j. empty j ++ k.kid ∷ none j)) in
          absurd (omega (arith, l, length-map n.entries child_of, full (suc m) old P page key low high n at place))
      in_front (second ∷ ys) behind_is empty =
          let parts : kids ≡ kid ∷ second ∷ ys = k.parts ∙ (λ j. empty j ++ k.kid ∷ behind_is j) in
          let first : i ≡ 0 = sym k.count ∙ ap length empty in
          let second_is : nth_child n.head.a n.entries 1 ≡ second.1 = nth_at ([], n.head.a) n.entries (kid ∷ []) second ys parts in
          let beside : page_beside i n ≡ second.1 = ap (λ x. nth_child n.head.a n.entries (place_beside x)) first ∙ second_is in
          let start : i - 1 ≡ 0 = omega (arith, first) in
          let bound : h.gave.bound.0 ≡ second.0 = bound_at ([], n.head.a) n.entries [] kid second ys h.gave.bound parts (ap (slice_get n.entries) (sym start) ∙ h.gave.between) in
          let test : nat_eq i 0 ≡ true = ap (λ x. nat_eq x 0) first in
          let W = entries_without key (items (suc m) (nodes (stored old P)) kid.1) in
          let s = merged_front m old before h.gave.mid P kid second (next_low None ys) key g h.put_is h.gave.other gone (ordered [] kid second ys parts) (set_apart [] kid second ys parts) given given_mid
          (subst (λ (x : List ℕ). length x ≤ 602) bound h.gave.short) gone_is (subst (λ x. held_node (page_of before x) ≡ Some h.gave.other) beside h.gave.beside_is)
          (subst (λ xs. Shrinks old (with_page kid.1 [] before) m P (met (suc m) (nodes (stored old P)) kid.1) (Some kid.0) (next_low None xs) ((kid.0, g) ∷ []) W) behind_is took.1.1)
          (taken_by second.1 second.0 true beside bound test) in
          let want = wants ∙ (λ j. over (items (suc m) (nodes (stored old P))) (empty j) ++ (W ++ over (items (suc m) (nodes (stored old P))) (behind_is j)))
          ∙ sym (append_assoc W (items (suc m) (nodes (stored old P)) second.1) (over (items (suc m) (nodes (stored old P))) ys)) in
          let kid_is : ([], n.head.a) ≡ kid = head_of ([], n.head.a) kid (map child_of n.entries) (second ∷ ys) parts in
          ending [] (kid.0, second.1) ys
          (whole (suc m) old P page key low high n at place (with_page kid.1 [] h.gave.mid) [] (kid ∷ second ∷ []) ys (Some kid.0) (children_after second.1 kid.0 h.put_is) (W ++ items (suc m) (nodes (stored old P)) second.1) parts refl want s)
          (ap (λ b. ([], cond b (nth_child n.head.a n.entries 1) n.head.a) ∷ map child_of (without (i - 1) n.entries)) test ∙ (λ j. ((kid_is j).0, second_is j) ∷ map child_of (without (start j) n.entries))
          ∙ ap (λ xs. (kid.0, second.1) ∷ xs) (children_without n.entries [] second ys 0 (tail_of ([], n.head.a) kid (map child_of n.entries) (second ∷ ys) parts) refl))

      by : (xs : List Child) → front ≡ xs → TakesAt old new (suc (suc m)) page key P low high (Ok taken)
      by [] empty = in_front behind refl empty
      by (x ∷ xs) front_is =
          let last = last_of x xs in
          let cut : front ≡ last.others ++ last.last ∷ [] = front_is ∙ last.are in
          let parts : kids ≡ last.others ++ (last.last ∷ kid ∷ behind) = k.parts ∙ ap (λ zs. zs ++ k.kid ∷ k.after) cut ∙ append_assoc last.others (last.last ∷ []) (kid ∷ behind) in
          let count : i ≡ length (x ∷ xs) = sym k.count ∙ ap length front_is in
          let start : i - 1 ≡ length last.others = omega (arith, count, last.count) in
          let later : i - 1 ≡ length xs = omega (arith, count) in
          let test : nat_eq i 0 ≡ false = positive i (omega (arith, count)) in
          let place_is : place_beside i ≡ length last.others = ap (λ b. cond b 1 (i - 1)) test ∙ start in
          let beside : page_beside i n ≡ last.last.1 = ap (nth_child n.head.a n.entries) place_is ∙ nth_at ([], n.head.a) n.entries last.others last.last (kid ∷ behind) parts in
          let bound : h.gave.bound.0 ≡ kid.0 = bound_at ([], n.head.a) n.entries last.others last.last kid behind h.gave.bound parts (ap (slice_get n.entries) (sym start) ∙ h.gave.between) in
          let W = entries_without key (items (suc m) (nodes (stored old P)) kid.1) in
          let R = over (items (suc m) (nodes (stored old P))) behind in
          let X = over (items (suc m) (nodes (stored old P))) last.others in
          let Y = items (suc m) (nodes (stored old P)) last.last.1 in
          let s = merged_behind m old before h.gave.mid P last.last kid (next_low None behind) key g h.put_is h.gave.other gone (ordered last.others last.last kid behind parts) (set_apart last.others last.last kid behind parts) given given_mid
          (subst (λ (x : List ℕ). length x ≤ 602) bound h.gave.short) gone_is (subst (λ x. held_node (page_of before x) ≡ Some h.gave.other) beside h.gave.beside_is) took.1.1 (taken_by last.last.1 kid.0 false beside bound test) in
          let want : entries_without key (over (items (suc m) (nodes (stored old P))) kids) ≡ X ++ ((Y ++ W) ++ R) =
          wants ∙ ap (λ zs. over (items (suc m) (nodes (stored old P))) zs ++ (W ++ R)) cut ∙ ap (λ es. es ++ (W ++ R)) (over-append (items (suc m) (nodes (stored old P))) last.others (last.last ∷ []))
          ∙ append_assoc X (Y ++ []) (W ++ R) ∙ ap (λ es. X ++ (es ++ (W ++ R))) (append-nil Y) ∙ ap (λ es. X ++ es) (sym (append_assoc Y W R)) in
          let all_is : ([], n.head.a) ∷ map child_of n.entries ≡ x ∷ (xs ++ kid ∷ behind) = k.parts ∙ ap (λ zs. zs ++ k.kid ∷ k.after) front_is in
          ending last.others last.last behind
          (whole (suc m) old P page key low high n at place (with_page kid.1 [] h.gave.mid) last.others (last.last ∷ kid ∷ []) behind (Some last.last.0) (children_after last.last.1 last.last.0 h.put_is) (Y ++ W) parts refl want s)
          (ap (λ b. ([], cond b (nth_child n.head.a n.entries 1) n.head.a) ∷ map child_of (without (i - 1) n.entries)) test ∙ ap (λ j. ([], n.head.a) ∷ map child_of (without j n.entries)) later
          ∙ (λ j. head_of ([], n.head.a) x (map child_of n.entries) (xs ++ kid ∷ behind) all_is j ∷ children_without n.entries xs kid behind (length xs) (tail_of ([], n.head.a) x (map child_of n.entries) (xs ++ kid ∷ behind) all_is) refl j)
          ∙ ap (λ zs. zs ++ behind) last.are ∙ append_assoc last.others (last.last ∷ []) behind)
