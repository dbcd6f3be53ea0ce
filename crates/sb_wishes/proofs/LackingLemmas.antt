-- The change for which no page was left.
use Rattle.std.proofs.Common.{◌≡◌, ℕ, zero, suc, ◌+◌, ◌-◌, ◌^◌, ◌<◌, ◌≤◌, max, Bool, true, false, cond, not, ◌||◌, List, [], ◌++◌, length, T, Option, Some, None, is_none, refl, sym, ap, subst, ◌∙◌, arith, nat_lt, append-nil, inl, inr, ◌⊎◌}
use Rattle.std.specs.Int.{to_be_bytes, from_be_bytes, w64}
use Rattle.std.specs.Str.{bytes_eq}
use Rattle.std.specs.FinMap.Entries.{find-where_key, is_sorted, is_sorted-where_key}
use Rattle.std.specs.Ordering.{is_eq}
use Rattle.std.proofs.lemmas.Map.Text.{is_eq-slice_cmp}
use Rattle.std.proofs.lemmas.Option.{same_Some}
use Rattle.std.proofs.lemmas.Nat.{from_be_bytes-to_be_bytes_8}
use Rattle.sb_value.specs.Equal.{bytes_same}
use Rattle.sb_value.specs.Order.{bytes_cmp}
use Rattle.sb_rule.specs.declared.change.Change.{Change}
use Rattle.sb_rule.specs.declared.change.Change.TheVariants as change
use Rattle.sb_relation.specs.Db.{Key, Row, Rows, Relation, row_at, without_row, key_of}
use Rattle.sb_relation.specs.Keys.{Keying, Picked, Coded, Counted, Just, Taken, NoGreater, keying_of, new_keys, is_free, greatest}
use Rattle.sb_relation.specs.Lawful.{AreRows}
use Rattle.sb_fold.specs.Outcome.{Work, made, with_picks, Leads, ◌>>=◌}
use Rattle.sb_fold.specs.Wishes.{Wish, Edit, Adds, Takes, Turns, edit_of, wished}
use Rattle.sb_ctx.proofs.AuthorLaws.{length-moved_row, length-with_row, length-without_row}
use Rattle.sb_ctx.specs.declared.instance.Instance.{Instance}
use Rattle.sb_ctx.specs.declared.calls.MethodCall.TheVariants as call
use Rattle.sb_ctx.specs.Method.{call_of, code_of}
use Rattle.sb_ctx.specs.MethodAnswers.{GetsKey, IsGiven}
use Rattle.sb_drive.specs.Slots.{Slots, owned}
use Rattle.sb_drive.specs.Spaces.{LeadsWithin}
use Rattle.sb_drive.proofs.SpacesLemmas.{GoesOn, LeadsWithin-on}
use Rattle.sb_registry.specs.Boxes.{Meanings}
use Rattle.sb_standing.specs.Lacking.{IsShort, LacksFor}
use Rattle.sb_standing.specs.Live.{HasRows}
use Rattle.sb_standing.specs.Placing.TheVariants as placing
use Rattle.sb_standing.specs.Placings.{IsPlaced}
use Rattle.sb_catalog.specs.declared.descriptor.Attached.{Attached}
use Rattle.sb_wishes.specs.Edits.{settled}
use Rattle.sb_wishes.specs.Outcomes.{LacksPage}
use Rattle.sb_wishes.specs.Wished.{HasCounts, IsTableOf, is_long_in}
use Rattle.sb_wishes.proofs.CountsLemmas.{counts_free}
use Rattle.sb_wishes.proofs.SettledLemmas.{GivesChange, ends, free_placed, keys-same, long-same, settled-short}

-- ---- a record key that no row has
abbrev numbered : ℕ → Key
numbered n = to_be_bytes w64 n

other_number : (n k : ℕ) → n < 2 ^ 64 → k < n → bytes_eq (numbered k) (numbered n) ≡ false
other_number n k small below = by (bytes_eq (numbered k) (numbered n)) refl
  where
    by : (b : Bool) → bytes_eq (numbered k) (numbered n) ≡ b → b ≡ false
    by true is =
        let same : k ≡ n = sym (from_be_bytes-to_be_bytes_8 k (omega (arith, below, small))) ∙ ap (from_be_bytes w64) ((bytes_same (numbered k) (numbered n)).0 is)
        ∙ from_be_bytes-to_be_bytes_8 n small in
        absurd (omega (arith, below, same))
    by false is = refl

row_at-other : (rows : Rows) (key k : Key) → bytes_eq k key ≡ false → row_at (without_row rows key) k ≡ row_at rows k
row_at-other rows key k other =
    find-where_key bytes_cmp (λ x. not (bytes_eq x key)) k (λ x tie. ap (λ (y : Key). not (bytes_eq y key)) (sym ((bytes_same k x).0 (sym (is_eq-slice_cmp k x) ∙ ap is_eq tie)))) rows
    ∙ ap (λ b. cond (not b) (row_at rows k) None) other

-- one of more numbers than there are rows
abbrev HasFree : ℕ → Rows → Type 0
HasFree n rows = (k : ℕ) × (k < n) × (row_at rows (numbered k) ≡ None)

numbered_free : (n : ℕ) (rows : Rows) → T (is_sorted bytes_cmp rows) → length rows < n → n ≤ 2 ^ 48 → HasFree n rows
numbered_free zero rows rising few small = absurd (omega (arith, few))
numbered_free (suc n) rows rising few small = by (row_at rows (numbered n)) refl
    (λ less. numbered_free n (without_row rows (numbered n)) (is_sorted-where_key bytes_cmp (λ x. not (bytes_eq x (numbered n))) rows rising) less (omega (arith, small)))
  where
    by : (o : Option Row) → row_at rows (numbered n) ≡ o → (length (without_row rows (numbered n)) < n → HasFree n (without_row rows (numbered n))) → HasFree (suc n) rows
    by None is rest = (n, omega arith, is)
    by (Some old) is rest =
        let one = length-without_row rows (numbered n) old rising is in
        let free = rest (omega (arith, one, few)) in
        (free.0, omega (arith, free.1), sym (row_at-other rows (numbered n) (numbered free.0) (other_number n free.0 (omega (arith, small)) free.1)) ∙ free.2)

-- a row that gets a key may get this one
given_key : (keying : Keying) (rows : Rows) (own : Option Key) (code : Key) → T (is_sorted bytes_cmp rows) → length rows < 2 ^ 48
    → IsGiven (new_keys keying rows own code) → (key : Key) × IsPlaced (new_keys keying rows own code) (placing.Key key) (λ k. Unit {0}) (Unit {0})
given_key Picked rows None code rising few is =
    let free = numbered_free (length rows + 1) rows rising (omega arith) (omega (arith, few)) in
    (numbered free.0, (ap is_none free.2, tt))
given_key Picked rows (Some own) code rising few is =
    let free = numbered_free (length rows + 1) rows rising (omega arith) (omega (arith, few)) in
    (numbered free.0, (or_free (bytes_eq own (numbered free.0)) (ap is_none free.2), tt))
  where
    or_free : {c : Bool} (b : Bool) → c ≡ true → b || c ≡ true
    or_free true is = refl
    or_free false is = is
given_key Coded rows own code rising few is = by (is_free rows own code) is
  where
    by : (b : Bool) → IsGiven (cond b (Just code) Taken) → (key : Key) × IsPlaced (cond b (Just code) Taken) (placing.Key key) (λ k. Unit {0}) (Unit {0})
    by true is = (code, (refl, tt))
    by false is = absurd is
given_key Counted rows (Some own) code rising few is = (own, (refl, tt))
given_key Counted rows None code rising few is = by (nat_lt (greatest rows) (2 ^ 64 - 1)) is
  where
    next : Key
    next = to_be_bytes w64 (greatest rows + 1)

    by : (b : Bool) → IsGiven (cond b (Just next) NoGreater) → (key : Key) × IsPlaced (cond b (Just next) NoGreater) (placing.Key key) (λ k. Unit {0}) (Unit {0})
    by true is = (next, (refl, tt))
    by false is = absurd is

-- ---- the change
module _ (m : Meanings) (s : Slots) (inst : Instance) (r : Relation) (has : HasRows m s inst r.rows) (total : ℕ) where
  lawful : AreRows inst.schema r.rows
  lawful = (has.live.law.formed inst (owned s inst.owner) r.rows has.holds).lawful

  abbrev Most : ℕ → Type 0
  Most n = IsShort s inst.owner (max (has.live.box.bound (length r.rows)) (has.live.box.bound n)) total

  -- the key that a row may get, by what its storage method says of it
  given_by : (rules : List Attached) (own : Option Key) (row : Row) → IsTableOf inst rules r
      → IsGiven (new_keys (keying_of has.live.box.rules.code) r.rows own (code_of inst row))
      → (key : Key) × IsPlaced (new_keys (keying_of r.method) r.rows own (key_of r row)) (placing.Key key) (λ k. Unit {0}) (Unit {0})
  given_by rules own row t gets =
      given_key (keying_of r.method) r.rows own (key_of r row) lawful.rising lawful.few
      (subst IsGiven (ap (λ code. new_keys (keying_of code) r.rows own (code_of inst row)) (sym has.live.may.code) ∙ keys-same inst rules r own row t) gets)

  counted : HasCounts r → keying_of r.method ≡ Counted → greatest r.rows < 2 ^ 64 - 1 → row_at r.rows (to_be_bytes w64 (greatest r.rows + 1)) ≡ None
  counted counts is small = counts_free r.rows (greatest r.rows) small (counts is)

  -- ---- the change that the work gives, once it is known that its row gets a key
  pub given_add : (rules : List Attached) (row copy : Row) → copy ≡ row → IsTableOf inst rules r → is_long_in inst rules row ≡ false → GetsKey has.live.box inst (call.Insert copy) r.rows
      → (key : Key) × IsPlaced (new_keys (keying_of r.method) r.rows None (key_of r row)) (placing.Key key) (λ k. Unit {0}) (Unit {0})
      × GivesChange (settled inst.relation r (Adds row)) (change.Insert key row)
  given_add rules row copy copied t short gets =
      let keys = new_keys (keying_of r.method) r.rows None (key_of r row) in
      let given = given_by rules None row t (subst (λ (x : Row). IsGiven (new_keys (keying_of has.live.box.rules.code) r.rows None (code_of inst x))) copied gets) in
      let end = ends inst.relation keys (λ k. change.Insert k row) (placing.Key given.0) (λ k. Unit {0}) (Unit {0}) given.1 in (
        given.0,
        given.1,
        (
          end.0.0,
          λ g. subst (λ (w : Work Change). Leads w g end.0.0 (made (change.Insert given.0 row)) (record g { used = g.used ++ end.0.0 }))
              (sym (settled-short inst.relation r (Adds row) (sym (long-same inst rules r row t) ∙ short))) (end.0.1 g),
        ),
      )

  pub given_take : (key : Key) (old : Row) → GivesChange (settled inst.relation r (Takes key old)) (change.Delete key old)
  given_take key old = ([], λ g. record { leads = λ more. λ i. made (change.Delete key old) (record (with_picks g more) { used = sym (append-nil g.used) i }) })

  pub given_turn : (rules : List Attached) (from at : Key) (old after copy : Row) → at ≡ from → copy ≡ after → IsTableOf inst rules r → is_long_in inst rules after ≡ false
      → GetsKey has.live.box inst (call.Update at copy) r.rows
      → (to : Key) × IsPlaced (new_keys (keying_of r.method) r.rows (Some from) (key_of r after)) (placing.Key to) (λ k. Unit {0}) (Unit {0})
      × GivesChange (settled inst.relation r (Turns from old after)) (change.Update from old to after)
  given_turn rules from at old after copy at_is copied t short gets =
      let keys = new_keys (keying_of r.method) r.rows (Some from) (key_of r after) in
      let given = given_by rules (Some from) after t (subst (λ (x : Row). IsGiven (new_keys (keying_of has.live.box.rules.code) r.rows (Some from) (code_of inst x))) copied
      (subst (λ (k : Key). IsGiven (new_keys (keying_of has.live.box.rules.code) r.rows (Some k) (code_of inst copy))) at_is gets)) in
      let end = ends inst.relation keys (λ k. change.Update from old k after) (placing.Key given.0) (λ k. Unit {0}) (Unit {0}) given.1 in (
        given.0,
        given.1,
        (
          end.0.0,
          λ g. subst (λ (w : Work Change). Leads w g end.0.0 (made (change.Update from old given.0 after)) (record g { used = g.used ++ end.0.0 }))
              (sym (settled-short inst.relation r (Turns from old after) (sym (long-same inst rules r after t) ∙ short))) (end.0.1 g),
        ),
      )

  pub lacks_add : {S : Type 0} (Ways : ℕ → S → S → Type 0) (old new : S) (rules : List Attached) (row copy : Row) → copy ≡ row → IsTableOf inst rules r → is_long_in inst rules row ≡ false
      → LacksFor has.live.box inst (call.Insert copy) r.rows s total → LeadsWithin Ways (has.live.box.cost (call.Insert copy) r.rows) old new
      → LacksPage Ways m s inst r has (settled inst.relation r (Adds row)) old new total
  lacks_add Ways old new rules row copy copied t short lacks cost =
      let given = given_add rules row copy copied t short lacks.gets in
      record {
        change = change.Insert given.0 row;
        picks = given.2.0;
        wished = given.2.1;
        short = λ counts.
            subst Most (sym (length-with_row r.rows given.0 row lawful.rising
            (new_free (free_placed (keying_of r.method) r.rows None (key_of r row) given.0 (λ k. Unit {0}) (Unit {0}) (counted counts) given.1)))) lacks.short;
        cost = subst (λ (x : Row). LeadsWithin Ways (has.live.box.cost (call.Insert x) r.rows) old new) copied cost;
      }
    where
      new_free : {key : Key} → (◌≡◌ {A = Option Key} None (Some key)) ⊎ (row_at r.rows key ≡ None) → row_at r.rows key ≡ None
      new_free (inl e) = absurd (cc)
      new_free (inr none) = none

  -- the same of what is wished, by the edit that it comes to, and from an earlier moment
  pub lacks_wished : {S : Type 0} (Ways : ℕ → S → S → Type 0) (earlier old new : S) (wish : Wish) (edit : Edit) → edit_of inst.relation r wish ≡ made edit
      → GoesOn Ways → Ways 0 earlier old
      → LacksPage Ways m s inst r has (settled inst.relation r edit) old new total → LacksPage Ways m s inst r has (wished inst.relation r wish) earlier new total
  lacks_wished Ways earlier old new wish edit is goes_on first lacks =
      subst (λ (w : Work Change). LacksPage Ways m s inst r has w earlier new total) (sym (ap (λ (w : Work Edit). w >>= settled inst.relation r) is))
      (record {
        change = lacks.change;
        picks = lacks.picks;
        wished = lacks.wished;
        short = lacks.short;
        cost = LeadsWithin-on Ways (has.live.box.cost (call_of lacks.change) r.rows) earlier old new goes_on first lacks.cost;
      })

  pub lacks_take : {S : Type 0} (Ways : ℕ → S → S → Type 0) (before new : S) (key at : Key) (old : Row) → at ≡ key → row_at r.rows key ≡ Some old
      → LacksFor has.live.box inst (call.Delete at) r.rows s total → LeadsWithin Ways (has.live.box.cost (call.Delete at) r.rows) before new
      → LacksPage Ways m s inst r has (settled inst.relation r (Takes key old)) before new total
  lacks_take Ways before new key at old copied there lacks cost = record {
    change = change.Delete key old;
    picks = (given_take key old).0;
    wished = (given_take key old).1;
    short = λ counts. subst Most (less (length-without_row r.rows key old lawful.rising there)) lacks.short;
    cost = subst (λ (k : Key). LeadsWithin Ways (has.live.box.cost (call.Delete k) r.rows) before new) copied cost;
  }
    where
      less : {n k : ℕ} → n + 1 ≡ k → k - 1 ≡ n
      less is = omega (arith, is)

  pub lacks_turn : {S : Type 0} (Ways : ℕ → S → S → Type 0) (before new : S) (rules : List Attached) (from at : Key) (old after copy : Row) → at ≡ from → copy ≡ after → IsTableOf inst rules r
      → row_at r.rows from ≡ Some old → is_long_in inst rules after ≡ false
      → LacksFor has.live.box inst (call.Update at copy) r.rows s total → LeadsWithin Ways (has.live.box.cost (call.Update at copy) r.rows) before new
      → LacksPage Ways m s inst r has (settled inst.relation r (Turns from old after)) before new total
  lacks_turn Ways before new rules from at old after copy at_is copied t there short lacks cost =
      let given = given_turn rules from at old after copy at_is copied t short lacks.gets in
      record {
        change = change.Update from old given.0 after;
        picks = given.2.0;
        wished = given.2.1;
        short = λ counts.
            subst Most (sym (length-moved_row r.rows from given.0 old after lawful.rising there
            (new_free (free_placed (keying_of r.method) r.rows (Some from) (key_of r after) given.0 (λ k. Unit {0}) (Unit {0}) (counted counts) given.1)))) lacks.short;
        cost = subst (λ (x : Row). LeadsWithin Ways (has.live.box.cost (call.Update from x) r.rows) before new) copied
            (subst (λ (k : Key). LeadsWithin Ways (has.live.box.cost (call.Update k copy) r.rows) before new) at_is cost);
      }
    where
      new_free : {key : Key} → (◌≡◌ {A = Option Key} (Some from) (Some key)) ⊎ (row_at r.rows key ≡ None) → (key ≡ from → ⊥) → row_at r.rows key ≡ None
      new_free {key} (inl e) other = absurd (other (sym (same_Some from key e)))
      new_free (inr none) other = none
