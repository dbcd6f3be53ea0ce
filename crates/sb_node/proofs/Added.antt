-- An entry is put among the others.
use Rattle.std.proofs.Common.{suc, zero, ◌≡◌, ℕ, ◌+◌, ◌-◌, ◌<◌, ◌≤◌, true, List, [], ◌∷◌, length, take, drop, get_or, Option, Some, None, refl, ap, sym, ◌∙◌, subst, arith, length-take, length-drop, length-append}
use Rattle.std.specs.Prelude.{Result, Ok, Err}
use Rattle.std.specs.Int.{bytes_high_first}
use Rattle.std.specs.List.{CopiedTo, SameBelow}
use Rattle.std.specs.Ordering.{ordering_reverse}
use Rattle.std.specs.declared.cmp.Ordering.TheVariants.{Less, Equal, Greater}
use Rattle.std.specs.FinMap.Entries.{put, by_order as by_three}
use Rattle.std.proofs.lemmas.Bool.{eqb-true, eq-eqb}
use Rattle.std.proofs.lemmas.Cmp.{nat_list_cmp_total}
use Rattle.std.proofs.lemmas.List.{ext_get_or, get_or-take, get_or-drop, get_or-append-add}
use Rattle.std.proofs.Math.ListN.{get_or-append}
use Rattle.sb_bytes.specs.Field.{number_at}
use Rattle.sb_node.specs.Entries.{Entry, key_cmp, is_below, place_of, size_of}
use Rattle.sb_node.specs.Page.{key_at, value_at, after_at, entries_at, is_filled, is_above, has_form, node_in, with_entries, Becomes}
use Rattle.sb_node.specs.Writes.{Wrote, spell, start_at}
use Rattle.sb_node.proofs.Numbers.{number_at-same, number_spelled, number_written}
use Rattle.sb_node.proofs.Runs.{after_above, steps, step_back, Runs, start_above, is_formed}
use Rattle.sb_node.proofs.Shifted.{Shifted, shifted_key, shifted_value, shifted_after, shifted_entries, shifted_filled}
use Rattle.sb_node.proofs.Sizes.{less_below}
use Rattle.sb_node.proofs.Placed.{by_order, place_from, scanned, err_within}
use Rattle.sb_node.proofs.Edited.{becomes}

-- this entry begins at a place
pub record Stands (c : List ℕ) (at : ℕ) (key value : List ℕ) : Type 0 where
  pub key_is : key_at c at ≡ key
  pub value_is : value_at c at ≡ value
  pub after : after_at c at ≡ at + size_of (key, value)

-- an entry that was written begins there
pub stands : (new : List ℕ) (at : ℕ) (key value : List ℕ) → at + size_of (key, value) ≤ length new → length key < 65536 → length value < 65536
    → ((j : ℕ) → j < length (spell key value) → get_or new (at + j) 0 ≡ get_or (spell key value) j 0) → Stands new at key value
unfolding number_at key_at value_at after_at
stands new at key value room key_short value_short here =
    let k16 : number_at 2 new at ≡ length key =
    number_at-same 2 0 at (bytes_high_first 2 (length key)) new (λ k lt. here k (omega (arith, spelled)) ∙ first_bytes k lt) ∙ number_spelled 2 (length key) key_short in
    let v16 : number_at 2 new (at + 2) ≡ length value =
    number_at-same 2 0 (at + 2) (bytes_high_first 2 (length value)) new (λ k lt. let s : at + 2 + k ≡ at + (2 + k) = omega arith in ap (λ j. get_or new j 0) s ∙ here (2 + k) (omega (arith, spelled)) ∙ next_bytes k lt)
    ∙ number_spelled 2 (length value) value_short in
    record {
      key_is = ap (λ n. take n (drop (at + 4) new)) k16
          ∙ piece (at + 4) key (omega arith) (λ i lt. let s : at + 4 + i ≡ at + (4 + i) = omega arith in ap (λ k. get_or new k 0) s ∙ here (4 + i) (omega (arith, spelled)) ∙ key_in i lt);
      value_is = (λ i. take (v16 i) (drop (at + 4 + k16 i) new))
          ∙ piece (at + 4 + length key) value (omega arith) (λ i lt. let s : at + 4 + length key + i ≡ at + (4 + (length key + i)) = omega arith in ap (λ k. get_or new k 0) s ∙ here (4 + (length key + i)) (omega (arith, spelled)) ∙ value_in i lt);
      after = (λ i. at + 4 + k16 i + v16 i) ∙ (omega arith);
    }
  where
    spelled : length (spell key value) ≡ 4 + (length key + length value)
    spelled = let e = length-append key value in omega arith

    first_bytes : (k : ℕ) → k < 2 → get_or (spell key value) k 0 ≡ get_or (bytes_high_first 2 (length key)) (0 + k) 0
    first_bytes zero lt = refl
    first_bytes (suc zero) lt = refl
    first_bytes (suc (suc k)) lt = absurd (omega arith)

    next_bytes : (k : ℕ) → k < 2 → get_or (spell key value) (2 + k) 0 ≡ get_or (bytes_high_first 2 (length value)) (0 + k) 0
    next_bytes zero lt = refl
    next_bytes (suc zero) lt = refl
    next_bytes (suc (suc k)) lt = absurd (omega arith)

    four : (i : ℕ) → 4 + i ≡ suc (suc (suc (suc i)))
    four i = omega arith

    key_in : (i : ℕ) → i < length key → get_or (spell key value) (4 + i) 0 ≡ get_or key i 0
    key_in i lt = ap (λ k. get_or (spell key value) k 0) (four i) ∙ get_or-append key value 0 i lt

    value_in : (i : ℕ) → i < length value → get_or (spell key value) (4 + (length key + i)) 0 ≡ get_or value i 0
    value_in i lt = ap (λ k. get_or (spell key value) k 0) (four (length key + i)) ∙ get_or-append-add key value i 0

    piece : (p : ℕ) (xs : List ℕ) → p + length xs ≤ length new → ((i : ℕ) → i < length xs → get_or new (p + i) 0 ≡ get_or xs i 0) → take (length xs) (drop p new) ≡ xs
    piece p xs r f =
        let l : length (take (length xs) (drop p new)) ≡ length xs = simp (length-take, length-drop) (omega arith) in
        ext_get_or 0 (take (length xs) (drop p new)) xs l (λ i lt. let lt' = subst (λ k. i < k) l lt in get_or-take (length xs) (drop p new) i 0 lt' ∙ get_or-drop p new i 0 ∙ f i lt')

put_first : (key value : List ℕ) (e : Entry) (es : List Entry) → key_cmp key e.0 ≡ Less → put key_cmp key value (e ∷ es) ≡ (key, value) ∷ e ∷ es
put_first key value e es less = ap (λ o. by_three o ((key, value) ∷ e ∷ es) ((e.0, value) ∷ es) (e ∷ put key_cmp key value es)) less

put_later : (key value : List ℕ) (e : Entry) (es : List Entry) → key_cmp key e.0 ≡ Greater → put key_cmp key value (e ∷ es) ≡ e ∷ put key_cmp key value es
put_later key value e es more = ap (λ o. by_three o ((key, value) ∷ e ∷ es) ((e.0, value) ∷ es) (e ∷ put key_cmp key value es)) more

greater_below : (x y : List ℕ) → key_cmp x y ≡ Greater → is_below y x ≡ true
greater_below x y e = less_below y x (nat_list_cmp_total.antisymm y x ∙ ap ordering_reverse e)

-- the entries from a place on have the new one among them
record Inserted (b c key value : List ℕ) (end size : ℕ) (last : Option (List ℕ)) (n at : ℕ) : Type 0 where
  pub entries : entries_at c (suc n) at ≡ put key_cmp key value (entries_at b n at)
  pub run : is_filled c (end + size) last (suc n) at ≡ true

module _ (b c key value : List ℕ) (size end x : ℕ) (sized : size ≡ size_of (key, value)) (new : Stands c x key value) (front : Shifted b c 0 0 24 x) (behind : Shifted b c size 0 x end) where
  -- the entry comes first
  here : (n at : ℕ) (last : Option (List ℕ)) → x ≡ at → is_filled b end last n at ≡ true → is_above last key ≡ true → (0 < n → key_cmp key (key_at b at) ≡ Less)
      → Inserted b c key value end size last n at
  here zero at last e r u less =
      let at_here = subst (λ k. Stands c k key value) e new in
      let stop : at ≡ end = eqb-true at end r in
      let after = at_here.after in
      record {
        entries = (λ i. (at_here.key_is i, at_here.value_is i) ∷ []);
        run = step_back c (end + size) last 0 at (omega (arith, after)) (ap (is_above last) at_here.key_is ∙ u) (eq-eqb (after_at c at) (end + size) (omega (arith, after)));
      }
  here (suc n) at last e r u less =
      let at_here = subst (λ k. Stands c k key value) e new in
      let after = at_here.after in
      let first_less = less (omega arith) in
      let s = steps b end last n at r in
      let runs : Runs b end (suc n) at = record { last = last; run = r } in
      let tail = shifted_entries b c size 0 x end behind end (suc n) at (after_at c at) (omega (arith, after)) (omega (arith, e)) (omega arith) runs in
      let run_tail = shifted_filled b c size 0 x end behind end (end + size) (suc n) at (after_at c at) (Some key) (omega (arith, after)) (omega arith) (omega (arith, e)) (omega arith) runs in
      let again = step_back b end (Some key) n at s.within (less_below key (key_at b at) first_less) s.rest in
      record {
        entries = (λ i. (at_here.key_is i, at_here.value_is i) ∷ tail i) ∙ sym (put_first key value (key_at b at, value_at b at) (entries_at b n (after_at b at)) first_less);
        run =
            step_back c (end + size) last (suc n) at (omega (arith, after, s.within, after_above b at)) (ap (is_above last) at_here.key_is ∙ u)
            (ap (λ k. is_filled c (end + size) (Some k) (suc n) (after_at c at)) at_here.key_is ∙ run_tail ∙ again);
      }

  inserted : (i j n at : ℕ) (last : Option (List ℕ)) → place_from key j (entries_at b n at) ≡ Err (j + i) → x ≡ start_at b i at → 24 ≤ at → is_filled b end last n at ≡ true
      → is_above last key ≡ true → Inserted b c key value end size last n at
  inserted zero j zero at last p e l r u = here 0 at last e r u (λ none. absurd (omega arith))
  inserted zero j (suc n) at last p e l r u = here (suc n) at last e r u (λ some. first_less (key_at b at) (place_from key (j + 1) (entries_at b n (after_at b at))) later p)
    where
      later : place_from key (j + 1) (entries_at b n (after_at b at)) ≡ Err (j + 0) → ⊥
      later q = let g = err_within key (j + 1) (entries_at b n (after_at b at)) (j + 0) q in omega (arith, g.0)

      first_less : (k : List ℕ) (r : Result ℕ ℕ) → (r ≡ Err (j + 0) → ⊥) → by_order (key_cmp key k) (Err j) (Ok j) r ≡ Err (j + 0) → key_cmp key k ≡ Less
      first_less k r f q = elim (key_cmp key k) as (λ o. by_order o (Err j) (Ok j) r ≡ Err (j + 0) → o ≡ Less) [ Less ↦ λ h. refl | Equal ↦ λ h. absurd (cc) | Greater ↦ λ h. absurd (f h) ] q
  inserted (suc i) j zero at last p e l r u = absurd (let s : j ≡ j + suc i = cc in omega arith)
  inserted (suc i) j (suc n) at last p e l r u =
      let up = after_above b at in
      let on = start_above b i (after_at b at) in
      let in_front : after_at b at ≤ x = omega (arith, e, on) in
      let more = greater (key_at b at) (place_from key (j + 1) (entries_at b n (after_at b at))) p in
      let k = shifted_key b c 0 0 24 x front at at (omega arith) l in_front in
      let v = shifted_value b c 0 0 24 x front at at (omega arith) l in_front in
      let a : after_at c at ≡ after_at b at = omega (arith, shifted_after b c 0 0 24 x front at at (omega arith) l (omega (arith, up, in_front))) in
      let s = steps b end last n at r in
      let onward : place_from key (j + 1) (entries_at b n (after_at b at)) ≡ Err ((j + 1) + i) = more.1 ∙ ap Err (omega arith) in
      let deep = inserted i (j + 1) n (after_at b at) (Some (key_at b at)) onward e (omega (arith, up)) s.rest (greater_below key (key_at b at) more.0) in
      record {
        entries = (λ t. (k t, v t) ∷ entries_at c (suc n) (a t)) ∙ ap (λ es. (key_at b at, value_at b at) ∷ es) deep.entries
            ∙ sym (put_later key value (key_at b at, value_at b at) (entries_at b n (after_at b at)) more.0);
        run =
            step_back c (end + size) last (suc n) at (omega (arith, a, s.within)) (ap (is_above last) k ∙ s.up)
            ((λ t. is_filled c (end + size) (Some (k t)) (suc n) (a t)) ∙ deep.run);
      }
    where
      greater : (k : List ℕ) (r : Result ℕ ℕ) → by_order (key_cmp key k) (Err j) (Ok j) r ≡ Err (j + suc i) → (key_cmp key k ≡ Greater) × (r ≡ Err (j + suc i))
      greater k r q = elim (key_cmp key k) as (λ o. by_order o (Err j) (Ok j) r ≡ Err (j + suc i) → (o ≡ Greater) × (r ≡ Err (j + suc i))) [
        | Less ↦ λ h. absurd (let s : j ≡ j + suc i = cc in omega arith)
        | Equal ↦ λ h. absurd (cc)
        | Greater ↦ λ h. (refl, h)
      ] q

-- the bytes behind the place go on by the size of the entry, which is written there, and count and bytes in use are raised
pub added : (b b₁ b₂ b₃ b₄ : List ℕ) (i at size count used : ℕ) (key value : List ℕ) → has_form b ≡ true → place_of key (node_in b).entries ≡ Err i
    → at ≡ start_at b i 24 → at ≤ 24 + number_at 2 b 4 → size ≡ size_of (key, value) → number_at 2 b 4 + size ≤ 4072
    → length b₁ ≡ length b → CopiedTo b b₁ at (at + size) (24 + number_at 2 b 4 - at) → SameBelow b b₁ (at + size)
    → Wrote b₁ b₂ at (spell key value) → Wrote b₂ b₃ 2 (bytes_high_first 2 count) → Wrote b₃ b₄ 4 (bytes_high_first 2 used)
    → count ≡ number_at 2 b 2 + 1 → count < 65536 → used ≡ number_at 2 b 4 + size
    → Becomes b b₄ (with_entries (put key_cmp key value (node_in b).entries) (node_in b))
added b b₁ b₂ b₃ b₄ i at size count used key value form place start inside sized room len copied below w₂ w₃ w₄ is_count small is_used =
    let size_b : length b ≡ 4096 = (is_formed b form).size in
    let low = start_above b i 24 in
    let long : length b₄ ≡ length b = w₄.len ∙ w₃.len ∙ w₂.len ∙ len in
    let front : Shifted b b₄ 0 0 24 at = record {
      agree = λ j k l h e. let s : k ≡ j = omega arith in ap (λ n. get_or b₄ n 0) s ∙ w₄.above j (omega arith) ∙ w₃.above j (omega arith) ∙ w₂.below j h ∙ below j 0 (omega arith);
      inb = omega arith;
      inc = λ k e. omega (arith, long);
    } in
    let behind : Shifted b b₄ size 0 at (24 + number_at 2 b 4) = record {
      agree = λ j k l h e.
          let s : at + (k - (at + size)) ≡ j = omega arith in
          w₄.above k (omega (arith, low)) ∙ w₃.above k (omega (arith, low)) ∙ w₂.above k (omega (arith, spelled)) ∙ copied k 0 (omega arith) (omega arith) ∙ ap (λ n. get_or b n 0) s;
      inb = omega arith;
      inc = λ k e. omega (arith, long);
    } in
    let new = stands b₄ at key value (omega (arith, long)) (omega arith) (omega arith) (λ j lt. w₄.above (at + j) (omega (arith, low)) ∙ w₃.above (at + j) (omega (arith, low)) ∙ w₂.here j lt) in
    let placed : place_from key 0 (entries_at b (number_at 2 b 2) 24) ≡ Err (0 + i) = scanned b key form ∙ place ∙ ap Err (omega arith) in
    let made = inserted b b₄ key value size (24 + number_at 2 b 4) at sized new front behind i 0 (number_at 2 b 2) 24 None placed start (omega arith) (is_formed b form).run refl in
    let c2 : number_at 2 b₄ 2 ≡ suc (number_at 2 b 2) =
    number_at-same 2 2 2 b₃ b₄ (λ k lt. w₄.below (2 + k) (omega arith)) ∙ number_written 2 2 count b₂ b₃ small w₃ ∙ is_count ∙ (omega arith) in
    let c4 : number_at 2 b₄ 4 ≡ number_at 2 b 4 + size = number_written 2 4 used b₃ b₄ (omega arith) w₄ ∙ is_used in
    let end : 24 + number_at 2 b₄ 4 ≡ 24 + number_at 2 b 4 + size = omega (arith, c4) in
    becomes b b₄ (put key_cmp key value (node_in b).entries) long (long ∙ size_b) (omega (arith, c4))
    ((λ t. is_filled b₄ (end t) None (c2 t) 24) ∙ made.run) (ap (λ n. entries_at b₄ n 24) c2 ∙ made.entries)
    (record {
      kind = w₄.below 0 (omega arith) ∙ w₃.below 0 (omega arith) ∙ w₂.below 0 (omega (arith, low)) ∙ below 0 0 (omega (arith, low));
      level = w₄.below 1 (omega arith) ∙ w₃.below 1 (omega arith) ∙ w₂.below 1 (omega (arith, low)) ∙ below 1 0 (omega (arith, low));
      rest = λ j l h. w₄.above j (omega arith) ∙ w₃.above j (omega arith) ∙ w₂.below j (omega (arith, low)) ∙ below j 0 (omega (arith, low));
    })
  where
    spelled : length (spell key value) ≡ size_of (key, value)
    spelled = let e = length-append key value in omega arith
