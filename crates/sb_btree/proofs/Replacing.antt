-- Another value for a key of a page, put into a copy without the key's entry.
use Rattle.std.proofs.Common.{◌≡◌, ℕ, zero, suc, ◌+◌, ◌<◌, ◌≤◌, Bool, true, false, true≢false, cond, not, ◌&&◌, List, [], ◌∷◌, drop, Option, Some, None, IsSome, refl, ap, sym, ◌∙◌, subst, arith, T}
use Rattle.std.specs.Prelude.{nat_eq, Result, Ok, Err}
use Rattle.std.specs.Str.{bytes_eq}
use Rattle.std.specs.FinMap.Entries.{find, put, is_sorted, is_sorted-put, is_sorted-where_key, find-put, find-where_key, same_entries}
use Rattle.std.proofs.lemmas.Cmp.{nat_list_cmp_total}
use Rattle.std.proofs.lemmas.Map.Text.{is_eq-slice_cmp}
use Rattle.std.specs.declared.cmp.Ordering.{Ordering}
use Rattle.std.specs.declared.cmp.Ordering.TheVariants.{Less, Equal, Greater}
use Rattle.std.specs.Ordering.{is_eq}
use Rattle.std.proofs.lemmas.Bool.{and_parts, false_from_ne_true}
use Rattle.std.proofs.lemmas.List.Sums.{sum_by-cons}
use Rattle.sb_ctx.specs.View.{View}
use Rattle.sb_node.specs.Entries.{Entry, key_cmp, place_of, size_of, sizes, without}
use Rattle.sb_node.specs.Page.{has_form, node_in, with_entries}
use Rattle.sb_node.proofs.Sizes.{head_counts, T_from}
use Rattle.sb_forms.specs.Read.{all_by, is_small, is_bound}
use Rattle.sb_btree.specs.Broken.{is_page, is_of_level}
use Rattle.sb_btree.specs.Inserts.{AreHalves, PutAt}
use Rattle.sb_btree.specs.Removes.{entries_without}
use Rattle.sb_btree.specs.Spending.{TakesAt}
use Rattle.sb_btree.specs.declared.insertion.Put.{Put}
use Rattle.sb_btree.specs.declared.insertion.Put.TheVariants.{Kept, Done, Split}
use Rattle.sb_btree.specs.declared.walk.Stop.{Stop}
use Rattle.sb_btree.specs.declared.walk.Stop.TheVariants as stop
use Rattle.sb_btree.proofs.Cutting.{cut_entries, found_there}
use Rattle.sb_btree.proofs.Order.{same_key}
use Rattle.sb_btree.proofs.Reading.{all_says}
use Rattle.sb_btree.proofs.Without.{apart_less, apart_more, same_bytes, without_every, without_later}

-- ---- entries without that of the key
kept : (key : List ℕ) (e : Entry) (es : List Entry) → not (bytes_eq e.0 key) ≡ true → entries_without key (e ∷ es) ≡ e ∷ entries_without key es
kept key e es stays = ap (λ b. cond b (e ∷ entries_without key es) (entries_without key es)) stays

gone : (key : List ℕ) (e : Entry) (es : List Entry) → e.0 ≡ key → entries_without key (e ∷ es) ≡ entries_without key es
gone key e es same =
    ap (λ k. cond (not (bytes_eq k key)) (e ∷ entries_without key es) (entries_without key es)) same ∙ ap (λ b. cond (not b) (e ∷ entries_without key es) (entries_without key es)) (same_bytes key)

passes : (key : List ℕ) (e : Entry) (es : List Entry) (o : Ordering) → key_cmp key e.0 ≡ o → is_eq o ≡ false → find key_cmp key (e ∷ es) ≡ find key_cmp key es
passes key e es o is other = ap (λ c. cond (is_eq c) (Some e.1) (find key_cmp key es)) is ∙ ap (λ b. cond b (Some e.1) (find key_cmp key es)) other

-- none of them has the key
find-without : (key : List ℕ) (es : List Entry) → find key_cmp key (entries_without key es) ≡ None
find-without key [] = refl
find-without key (e ∷ es) =
    elim (key_cmp key e.0) as (λ o. key_cmp key e.0 ≡ o → find key_cmp key (entries_without key (e ∷ es)) ≡ None) [
      | Less ↦ λ is. ap (find key_cmp key) (kept key e es (apart_more key e.0 is)) ∙ passes key e (entries_without key es) Less is refl ∙ find-without key es
      | Equal ↦ λ is. ap (find key_cmp key) (gone key e es (sym (same_key key e.0 is))) ∙ find-without key es
      | Greater ↦ λ is. ap (find key_cmp key) (kept key e es (apart_less key e.0 is)) ∙ passes key e (entries_without key es) Greater is refl ∙ find-without key es
    ] refl

same_test : (key q : List ℕ) → is_eq (key_cmp q key) ≡ false → not (bytes_eq q key) ≡ true
same_test key q other = ap not (sym (is_eq-slice_cmp q key) ∙ other)

-- a put over the entry is one beside the others
pub put_over : (key value : List ℕ) (es : List Entry) → T (is_sorted key_cmp es) → put key_cmp key value (entries_without key es) ≡ put key_cmp key value es
put_over key value es sorted =
    same_entries key_cmp nat_list_cmp_total same_key (put key_cmp key value (entries_without key es)) (put key_cmp key value es)
    (is_sorted-put key_cmp nat_list_cmp_total key value (entries_without key es) (is_sorted-where_key key_cmp (λ k. not (bytes_eq k key)) es sorted)) (is_sorted-put key_cmp nat_list_cmp_total key value es sorted)
    (λ q. find-put key_cmp nat_list_cmp_total q key value (entries_without key es) ∙ by q ∙ sym (find-put key_cmp nat_list_cmp_total q key value es))
  where
    by : (q : List ℕ) → cond (is_eq (key_cmp q key)) (Some value) (find key_cmp q (entries_without key es)) ≡ cond (is_eq (key_cmp q key)) (Some value) (find key_cmp q es)
    by q = elim (is_eq (key_cmp q key)) as (λ t. is_eq (key_cmp q key) ≡ t → cond t (Some value) (find key_cmp q (entries_without key es)) ≡ cond t (Some value) (find key_cmp q es)) [
      | true ↦ λ is. refl
      | false ↦ λ is. find-where_key key_cmp (λ k. not (bytes_eq k key)) q (λ x tie. ap (λ (k : List ℕ). not (bytes_eq k key)) (sym (same_key q x tie))) es ∙ ap (λ b. cond b (find key_cmp q es) None) (same_test key q is)
    ] refl

-- ---- entries but the one at a place
sizes-without : (j : ℕ) (es : List Entry) → sizes (without j es) ≤ sizes es
sizes-without j [] = none j
  where
    none : (j : ℕ) → sizes (without j []) ≤ sizes []
    none zero = omega arith
    none (suc j) = let s : suc j + 1 ≡ suc (j + 1) = omega arith in omega (arith, ap (λ k. sizes (drop {A = Entry} k [])) s)
sizes-without zero (e ∷ es) = omega (arith, sum_by-cons size_of e es)
sizes-without (suc j) (e ∷ es) = omega (arith, ap sizes (without_later j e es), sizes-without j es, sum_by-cons size_of e es, sum_by-cons size_of e (without j es))

all_without : (t : Entry → Bool) (j : ℕ) (es : List Entry) → all_by t es ≡ true → all_by t (without j es) ≡ true
all_without t j es h =
    (all_says t (λ e. t e ≡ true) (λ e. ((λ x. x), (λ x. x))) (without j es)).1 (without_every (λ e. t e ≡ true) j es ((all_says t (λ e. t e ≡ true) (λ e. ((λ x. x), (λ x. x))) es).0 h))

-- ---- a page out of which the entry was cut
module _ (old new : View) (l page : ℕ) (bytes key value : List ℕ) (i : ℕ) (form : has_form bytes ≡ true) (place : place_of key (node_in bytes).entries ≡ Ok i) where
  pub cut_lacks : find key_cmp key (without i (node_in bytes).entries) ≡ None
  cut_lacks = ap (find key_cmp key) (cut_entries bytes key i form place) ∙ find-without key (node_in bytes).entries

  there : IsSome (find key_cmp key (node_in bytes).entries)
  there = found_there key (node_in bytes).entries i place

  entries_are : put key_cmp key value (without i (node_in bytes).entries) ≡ put key_cmp key value (node_in bytes).entries
  entries_are =
      ap (put key_cmp key value) (cut_entries bytes key i form place) ∙ put_over key value (node_in bytes).entries (T_from _ (head_counts bytes form).rising)

  was_no_page : is_page l (Some (with_entries (without i (node_in bytes).entries) (node_in bytes))) ≡ false → is_page l (Some (node_in bytes)) ≡ false
  was_no_page wrong =
      false_from_ne_true (is_page l (Some (node_in bytes))) (λ is.
      let both = and_parts (is_of_level l (node_in bytes).head) (all_by (cond (nat_eq l 0) is_small is_bound) (node_in bytes).entries) is in
      true≢false (sym ((λ t. both.0 t && all_without (cond (nat_eq l 0) is_small is_bound) i (node_in bytes).entries both.1 t)) ∙ wrong))

  pub replaced : (outcome : Result Put Stop) → PutAt false old new l page (Some (with_entries (without i (node_in bytes).entries) (node_in bytes))) key value outcome → PutAt true old new l page (Some (node_in bytes)) key value outcome
  replaced (Ok Kept) h = absurd (true≢false (sym h.0 ∙ ap (λ (o : Option (List ℕ)). elim o [ None ↦ false | Some v ↦ true ]) cut_lacks))
  replaced (Ok Done) h = (there, record { bytes = h.1.bytes; changed = h.1.changed; node_is = h.1.node_is ∙ ap (λ es. Some (with_entries es (node_in bytes))) entries_are })
  replaced (Ok (Split bound next)) h = (
    there,
    h.1,
    record {
      left = h.2.left;
      right = h.2.right;
      lesser = h.2.lesser;
      other = h.2.other;
      free = h.2.free;
      changed = h.2.changed;
      left_is = h.2.left_is;
      right_is = h.2.right_is;
      kind_is = h.2.kind_is;
      level_is = h.2.level_is;
      halves = subst (λ es. AreHalves l bound es h.2.lesser h.2.other) entries_are h.2.halves;
      some = h.2.some;
    },
  )
  replaced (Err (stop.Need x)) h = absurd h
  replaced (Err stop.Fresh) h = (there, h.1)
  replaced (Err (stop.Broken x)) h = (h.0, was_no_page h.1)
  replaced (Err stop.NoMemory) h = tt

  pub replaced_takes : (size : ℕ) (outcome : Result Put Stop) → TakesAt old new size (Some (with_entries (without i (node_in bytes).entries) (node_in bytes))) outcome → TakesAt old new size (Some (node_in bytes)) outcome
  replaced_takes size outcome takes = by outcome takes
    where
      lacks : 4072 < sizes (without i (node_in bytes).entries) + size → 4072 < (node_in bytes).head.used + size
      lacks h = omega (arith, h, sizes-without i (node_in bytes).entries, (head_counts bytes form).used)

      by : (outcome : Result Put Stop) → TakesAt old new size (Some (with_entries (without i (node_in bytes).entries) (node_in bytes))) outcome → TakesAt old new size (Some (node_in bytes)) outcome
      by (Ok Kept) h = h
      by (Ok Done) h = h
      by (Ok (Split bound next)) h = (lacks h.0, h.1)
      by (Err (stop.Need x)) h = tt
      by (Err stop.Fresh) h = (lacks h.0, h.1)
      by (Err (stop.Broken x)) h = tt
      by (Err stop.NoMemory) h = tt
