-- The change that a wish makes is one of the rows that stand.
use Rattle.std.proofs.Common.{◌≡◌, ◌+◌, ◌-◌, ◌^◌, Bool, true, false, ◌&&◌, ◌||◌, T, List, [], ◌∷◌, ◌++◌, ◌⊎◌, inl, inr, Option, Some, None, is_none, refl, sym, ap}
use Rattle.std.specs.Prelude.{cond, nat_lt}
use Rattle.std.specs.Int.{to_be_bytes, w64}
use Rattle.std.specs.Str.{bytes_eq}
use Rattle.std.specs.FinMap.Entries.{is_sorted}
use Rattle.std.proofs.lemmas.Bool.{and_parts, ltb-true}
use Rattle.std.proofs.lemmas.Option.{same_Some}
use Rattle.sb_value.specs.Equal.{bytes_same}
use Rattle.sb_value.specs.Order.{bytes_cmp}
use Rattle.sb_value.proofs.Truths.{is_none-none}
use Rattle.sb_pred.specs.Columns.{column_value}
use Rattle.sb_rule.specs.declared.change.Change.{Change}
use Rattle.sb_rule.specs.declared.change.Change.TheVariants as change
use Rattle.sb_relation.specs.Db.{Name, Key, Row, Rows, Relation, row_at, key_of}
use Rattle.sb_relation.specs.Keys.{Keying, Picked, Coded, Counted, Just, Taken, NoGreater, keying_of, is_record_key, is_free, greatest, new_keys}
use Rattle.sb_fold.specs.declared.refusal.Refusal.TheVariants.{TooLong}
use Rattle.sb_fold.specs.Outcome.{Going, Outcome, Gives, Stopped, NoStep, made, no_step, continue, refuse_if, ◌>>=◌}
use Rattle.sb_fold.specs.Wishes.{Wish, Put, Remove, Replace, Raise, Edit, Adds, Takes, Turns, found, raised, edit_of, is_long_edit, pick, take_key, key_for, change_of, wished}
use Rattle.sb_cascade.specs.FittingLaws.{OfGiven}
use Rattle.sb_cascade.proofs.FittingRows.{of_next, of_weaker}
use Rattle.sb_deferred.specs.Complete.{IsChangeOf}
use Rattle.sb_sound_rows.proofs.Keys.{next_free}
use Rattle.sb_sound_rows.proofs.Rows.{goes}

-- ---- keys
-- no row has the key, or this row alone
abbrev IsFree : Rows → Option Key → Key → Type 0
IsFree rows own key = (own ≡ Some key) ⊎ (row_at rows key ≡ None)

freed : (rows : Rows) (own : Option Key) (key : Key) → is_free rows own key ≡ true → IsFree rows own key
freed rows None key is = inr (is_none-none (row_at rows key) is)
freed rows (Some own) key is = by (bytes_eq own key) refl is
  where
    by : (b : Bool) → bytes_eq own key ≡ b → (b || is_none (row_at rows key)) ≡ true → IsFree rows (Some own) key
    by true same it = inl (ap (λ (k : Key). Some k) ((bytes_same own key).0 same))
    by false differs it = inr (is_none-none (row_at rows key) it)

of_pick : (may : Key → Bool) (picks : List Key) (g : Going) → OfGiven (λ key new. may key ≡ true) (pick may picks g)
of_pick may [] g = tt
of_pick may (key ∷ picks) g = by (may key) refl
  where
    by : (b : Bool) → may key ≡ b → OfGiven (λ k new. may k ≡ true) (cond b (made key (record g { picks = picks; used = g.used ++ key ∷ [] })) (no_step {A = Key} g))
    by true is = is
    by false is = tt

of_keying : (name : Name) (rows : Rows) (own : Option Key) (code : Key) (g : Going) → T (is_sorted bytes_cmp rows) → (keying : Keying)
    → OfGiven (λ key new. IsFree rows own key) (take_key name (new_keys keying rows own code) g)
of_keying name rows own code g rises Picked =
    of_weaker (λ key new. (is_record_key key && is_free rows own key) ≡ true) (λ key new. IsFree rows own key) (pick (λ key. is_record_key key && is_free rows own key) g.picks g)
    (of_pick (λ key. is_record_key key && is_free rows own key) g.picks g) (λ key new is. freed rows own key (and_parts (is_record_key key) (is_free rows own key) is).1)
of_keying name rows own code g rises Coded = by (is_free rows own code) refl
  where
    by : (b : Bool) → is_free rows own code ≡ b → OfGiven (λ key new. IsFree rows own key) (take_key name (cond b (Just code) Taken) g)
    by true is = freed rows own code is
    by false is = tt
of_keying name rows (Some key) code g rises Counted = inl refl
of_keying name rows None code g rises Counted = by (nat_lt (greatest rows) (2 ^ 64 - 1)) refl
  where
    by : (b : Bool) → nat_lt (greatest rows) (2 ^ 64 - 1) ≡ b
        → OfGiven (λ key new. IsFree rows None key) (take_key name (cond b (Just (to_be_bytes w64 (greatest rows + 1))) NoGreater) g)
    by true small = inr (next_free rows (ltb-true (greatest rows) (2 ^ 64 - 1) small) rises)
    by false small = tt

key_free : (name : Name) (r : Relation) (own : Option Key) (row : Row) (g : Going) → T (is_sorted bytes_cmp r.rows) → OfGiven (λ key new. IsFree r.rows own key) (key_for name r own row g)
key_free name r own row g rises = of_keying name r.rows own (key_of r row) g rises (keying_of r.method)

-- ---- changes
-- a wish that takes the row of a key away
abbrev pub takes : Wish → Key → Bool
takes (Remove key) k = bytes_eq k key
takes _ k = false

-- the change is one of these rows, and takes away what was wished so
pub record IsOwn (rows : Rows) (wish : Wish) (c : Change) : Type 0 where
  pub of : IsChangeOf rows c
  pub taken : (key : Key) → takes wish key ≡ true → goes c key ≡ true

abbrev IsEditOf : Rows → Wish → Edit → Type 0
IsEditOf rows wish (Adds row) = (key : Key) → takes wish key ≡ true → ⊥
IsEditOf rows wish (Takes key old) = (row_at rows key ≡ Some old) × ((k : Key) → takes wish k ≡ true → bytes_eq k key ≡ true)
IsEditOf rows wish (Turns key old new) = (row_at rows key ≡ Some old) × ((k : Key) → takes wish k ≡ true → bytes_eq k key ≡ true)

any_given : {A : Type 0} (o : Outcome A) → OfGiven (λ x g. Unit {0}) o
any_given (Gives x g) = tt
any_given (Stopped r trail) = tt
any_given (NoStep trail) = tt

edit_own : (name : Name) (r : Relation) (wish : Wish) (g : Going) → OfGiven (λ edit new. IsEditOf r.rows wish edit) (edit_of name r wish g)
edit_own name r (Put row) g = λ key e. absurd (cc)
edit_own name r (Remove key) g = by (row_at r.rows key) refl
  where
    by : (o : Option Row) → row_at r.rows key ≡ o → OfGiven (λ edit new. IsEditOf r.rows (Remove key) edit) (continue (λ old. made (Takes key old)) (found name o g))
    by None there = tt
    by (Some old) there = (there, λ k e. e)
edit_own name r (Replace key row) g = by (row_at r.rows key) refl
  where
    by : (o : Option Row) → row_at r.rows key ≡ o → OfGiven (λ edit new. IsEditOf r.rows (Replace key row) edit) (continue (λ old. made (Turns key old row)) (found name o g))
    by None there = tt
    by (Some old) there = (there, λ k e. absurd (cc))
edit_own name r (Raise key column more) g = by (row_at r.rows key) refl
  where
    by : (o : Option Row) → row_at r.rows key ≡ o
        → OfGiven (λ edit new. IsEditOf r.rows (Raise key column more) edit)
        (continue (λ old. (raised name r.schema column more old (column_value r.schema (Some old) column) >>= λ row. made (Turns key old row))) (found name o g))
    by None there = tt
    by (Some old) there =
        of_next (λ row new. Unit {0}) (λ edit new. IsEditOf r.rows (Raise key column more) edit) (raised name r.schema column more old (column_value r.schema (Some old) column) g)
        (λ row. made (Turns key old row)) (any_given (raised name r.schema column more old (column_value r.schema (Some old) column) g)) (λ row new given. (there, λ k e. absurd (cc)))

new_free : (rows : Rows) (key : Key) → IsFree rows None key → row_at rows key ≡ None
new_free rows key (inl e) = absurd (cc)
new_free rows key (inr free) = free

other_free : (rows : Rows) (from to : Key) → IsFree rows (Some from) to → (to ≡ from → ⊥) → row_at rows to ≡ None
other_free rows from to (inl e) other = absurd (other (sym (same_Some from to e)))
other_free rows from to (inr free) other = free

change_own : (name : Name) (r : Relation) (wish : Wish) (edit : Edit) (g : Going) → T (is_sorted bytes_cmp r.rows) → IsEditOf r.rows wish edit → OfGiven (λ c new. IsOwn r.rows wish c) (change_of name r edit g)
change_own name r wish (Adds row) g rises is =
    of_next (λ key new. IsFree r.rows None key) (λ c new. IsOwn r.rows wish c) (key_for name r None row g) (λ key. made (change.Insert key row)) (key_free name r None row g rises)
    (λ key new free. record { of = new_free r.rows key free; taken = λ k e. absurd (is k e) })
change_own name r wish (Takes key old) g rises is = record { of = is.0; taken = is.1 }
change_own name r wish (Turns key old row) g rises is =
    of_next (λ to new. IsFree r.rows (Some key) to) (λ c new. IsOwn r.rows wish c) (key_for name r (Some key) row g) (λ to. made (change.Update key old to row)) (key_free name r (Some key) row g rises)
    (λ to new free. record { of = (is.0, other_free r.rows key to free); taken = is.1 })

pub wished_own : (name : Name) (r : Relation) (wish : Wish) (g : Going) → T (is_sorted bytes_cmp r.rows) → OfGiven (λ c new. IsOwn r.rows wish c) (wished name r wish g)
wished_own name r wish g rises =
    of_next (λ edit new. IsEditOf r.rows wish edit) (λ c new. IsOwn r.rows wish c) (edit_of name r wish g) (λ edit. (refuse_if (is_long_edit r edit) (TooLong name) >>= λ _. change_of name r edit))
    (edit_own name r wish g) (λ edit mid is. by edit mid is (is_long_edit r edit))
  where
    by : (edit : Edit) (mid : Going) → IsEditOf r.rows wish edit → (b : Bool) → OfGiven (λ c new. IsOwn r.rows wish c) (continue (λ _. change_of name r edit) (refuse_if b (TooLong name) mid))
    by edit mid is true = tt
    by edit mid is false = change_own name r wish edit mid rises is
