-- The change that a wish makes brings a row that the relation may have.
use Rattle.std.proofs.Common.{◌≡◌, ℕ, ◌+◌, ◌==◌, Bool, true, false, ◌&&◌, ◌||◌, List, [], ◌∷◌, ◌++◌, Option, Some, None, ◌^◌, ◌-◌, refl, sym, ap, subst, ◌∙◌}
use Rattle.std.specs.Prelude.{All, cond, nat_le, nat_lt, IfSome, ℤ, ◌+ℤ◌}
use Rattle.std.specs.Int.{to_be_bytes, w64}
use Rattle.std.specs.List.{list_any}
use Rattle.std.proofs.lemmas.Bool.{and_parts, ltb-false, le-leb, or_parts}
use Rattle.std.proofs.lemmas.Option.{same_Some}
use Rattle.sb_value.specs.declared.value.Value.{Value}
use Rattle.sb_value.specs.declared.value.Value.TheVariants.{Int, Text}
use Rattle.sb_value.specs.Fits.{first_misfit}
use Rattle.sb_codec.specs.Tuples.{IsTuple}
use Rattle.sb_pred.specs.Columns.{column_value}
use Rattle.sb_rule.specs.Bound.{row_before}
use Rattle.sb_rule.specs.declared.change.Change.{Change}
use Rattle.sb_rule.specs.declared.change.Change.TheVariants as change
use Rattle.sb_relation.specs.Db.{Name, Key, Row, Relation, row_at, key_of, tree}
use Rattle.sb_relation.specs.Keys.{Just, Taken, NoGreater, Keying, Picked, Coded, Counted, keying_of, is_record_key, is_free, greatest, new_keys}
use Rattle.sb_relation.specs.Lawful.{IsRow, is_long_row, is_long_code, is_long_for, is_too_long}
use Rattle.sb_fold.specs.declared.refusal.Refusal.TheVariants.{TooLong, Range}
use Rattle.sb_fold.specs.Extensions.{Extensions}
use Rattle.sb_fold.specs.Outcome.{Going, Outcome, Gives, Stopped, NoStep, Work, made, refuse, no_step, continue, refuse_if, ◌>>=◌}
use Rattle.sb_fold.specs.Wishes.{Wish, Put, Remove, Replace, Raise, Takes, Turns, pick, take_key, key_for, is_long_edit, found, change_of, wished, is_i64, with_value, raised}
use Rattle.sb_plain.specs.Lawful.{IsRowOf, IsChangeOf}
use Rattle.sb_plain.proofs.SoundLemmas.{all_at}
use Rattle.sb_plain.proofs.ValueLemmas.{fits_with, tuple_with, value_kind, storable_int}
use Rattle.sb_lawful_rows.specs.Work.{IsWishOf, IsLawfulTrail, IsLawfulWork, EndsLawful}

-- ---- what work ends with
-- a fact of what work gives and of what stands then; where it gives nothing, its trail is lawful
abbrev pub OfEnd : {A : Type 0} → Extensions → (A → Going → Type 0) → Outcome A → Type 0
OfEnd ext P (Gives x g) = P x g
OfEnd ext P (Stopped r trail) = IsLawfulTrail ext trail
OfEnd ext P (NoStep trail) = IsLawfulTrail ext trail

pub of_next : {A B : Type 0} (ext : Extensions) (P : A → Going → Type 0) (Q : B → Going → Type 0) (o : Outcome A) (next : A → Work B) → OfEnd ext P o
    → ((x : A) (g : Going) → P x g → OfEnd ext Q (next x g)) → OfEnd ext Q (continue next o)
of_next ext P Q (Gives x g) next given then = then x g given
of_next ext P Q (Stopped r trail) next given then = given
of_next ext P Q (NoStep trail) next given then = given

pub of_weaker : {A : Type 0} (ext : Extensions) (P Q : A → Going → Type 0) (o : Outcome A) → OfEnd ext P o → ((x : A) (g : Going) → P x g → Q x g) → OfEnd ext Q o
of_weaker ext P Q (Gives x g) given weaker = weaker x g given
of_weaker ext P Q (Stopped r trail) given weaker = given
of_weaker ext P Q (NoStep trail) given weaker = given

pub ends : {A : Type 0} (ext : Extensions) (P : A → Going → Type 0) (o : Outcome A) → OfEnd ext P o → ((x : A) (g : Going) → P x g → IsLawfulWork ext g) → EndsLawful ext o
ends ext P (Gives x g) given weaker = weaker x g given
ends ext P (Stopped r trail) given weaker = given
ends ext P (NoStep trail) given weaker = given

-- only picks came and went
pub record Same (old new : Going) : Type 0 where
  pub db : new.db ≡ old.db
  pub queue : new.queue ≡ old.queue
  pub trail : new.trail ≡ old.trail

same_here : (g : Going) → Same g g
same_here g = record { db = refl; queue = refl; trail = refl }

-- ---- record keys
record IsKeyOf (r : Relation) (row : Row) (key : Key) : Type 0 where
  keyed : is_record_key key ≡ true
  coded : r.method ≡ 2 → key ≡ key_of r row

short_code : (n : ℕ) → nat_lt 200 n ≡ false → nat_le n 200 ≡ true
short_code n e = le-leb n 200 (ltb-false 200 n e)

of_pick : (ext : Extensions) (may : Key → Bool) (picks : List Key) (going : Going) → IsLawfulTrail ext going.trail → OfEnd ext (λ key g. (may key ≡ true) × Same going g) (pick may picks going)
of_pick ext may [] going trail = trail
of_pick ext may (key ∷ picks) going trail = of_test (may key) refl
  where
    of_test : (b : Bool) → may key ≡ b
        → OfEnd ext (λ k g. (may k ≡ true) × Same going g) (cond b (made key (record going { picks = picks; used = going.used ++ key ∷ [] })) (no_step {A = Key} going))
    of_test true is = (is, record { db = refl; queue = refl; trail = refl })
    of_test false is = trail

of_keying : (ext : Extensions) (name : Name) (r : Relation) (row : Row) (own : Option Key) (going : Going) → IsLawfulTrail ext going.trail → ((key : Key) → own ≡ Some key → is_record_key key ≡ true)
    → (keying : Keying) → (keying ≡ Coded → is_long_code r.schema r.key row ≡ false) → (r.method ≡ 2 → keying ≡ Coded)
    → OfEnd ext (λ key g. IsKeyOf r row key × Same going g) (take_key name (new_keys keying r.rows own (key_of r row)) going)
of_keying ext name r row own going trail owned Picked short tie =
    of_weaker ext (λ key g. ((is_record_key key && is_free r.rows own key) ≡ true) × Same going g) (λ key g. IsKeyOf r row key × Same going g)
    (pick (λ key. is_record_key key && is_free r.rows own key) going.picks going) (of_pick ext (λ key. is_record_key key && is_free r.rows own key) going.picks going trail)
    (λ key g is. (record { keyed = (and_parts (is_record_key key) (is_free r.rows own key) is.0).0; coded = λ two. absurd (not_coded (tie two)) }, is.1))
  where
    not_coded : Picked ≡ Coded → ⊥
    not_coded e = cc
of_keying ext name r row own going trail owned Coded short tie = of_test (is_free r.rows own (key_of r row))
  where
    of_test : (b : Bool) → OfEnd ext (λ key g. IsKeyOf r row key × Same going g) (take_key name (cond b (Just (key_of r row)) Taken) going)
    of_test true = (record { keyed = short_code _ (short refl); coded = λ two. refl }, same_here going)
    of_test false = trail
of_keying ext name r row (Some key) going trail owned Counted short tie = (record { keyed = owned key refl; coded = λ two. absurd (not_coded (tie two)) }, same_here going)
  where
    not_coded : Counted ≡ Coded → ⊥
    not_coded e = cc
of_keying ext name r row None going trail owned Counted short tie = of_test (nat_lt (greatest r.rows) (2 ^ 64 - 1))
  where
    not_coded : Counted ≡ Coded → ⊥
    not_coded e = cc

    of_test : (b : Bool) → OfEnd ext (λ key g. IsKeyOf r row key × Same going g) (take_key name (cond b (Just (to_be_bytes w64 (greatest r.rows + 1))) NoGreater) going)
    of_test true = (record { keyed = refl; coded = λ two. absurd (not_coded (tie two)) }, same_here going)
    of_test false = trail

-- ---- rows
short_parts : (r : Relation) (row : Row) → is_too_long r row ≡ false → (is_long_row r.schema row ≡ false) × ((r.method == tree && is_long_code r.schema r.key row) ≡ false)
short_parts r row e =
    or_parts (is_long_row r.schema row) (r.method == tree && is_long_code r.schema r.key row)
    (or_parts (is_long_row r.schema row || (r.method == tree && is_long_code r.schema r.key row)) (list_any (λ a. is_long_for r.schema row a.rule) r.attachments) e).0

-- where the key is a code, that isn't too long
key_short : (r : Relation) (row : Row) → is_too_long r row ≡ false → keying_of r.method ≡ Coded → is_long_code r.schema r.key row ≡ false
key_short r row short coded = ap (λ (b : Bool). b && is_long_code r.schema r.key row) (sym (by (r.method == 2) (r.method == 3) coded)) ∙ (short_parts r row short).1
  where
    by : (b c : Bool) → cond b Coded (cond c Counted Picked) ≡ Coded → b ≡ true
    by true c e = refl
    by false true e = cc
    by false false e = cc

row_is : (r : Relation) (row : Row) (key : Key) → IsTuple row → first_misfit r.schema row ≡ None → is_too_long r row ≡ false → IsKeyOf r row key → IsRowOf r key row
row_is r row key tuple fits short is = record {
  stored = record { tuple = tuple; fits = fits; short = (short_parts r row short).0 };
  short = short;
  keyed = is.keyed;
  coded = is.coded;
}

-- ---- the change
-- its new row is one that the relation may have, and its old one has the relation's columns
pub record IsMade (r : Relation) (c : Change) : Type 0 where
  pub new : IsChangeOf r c
  pub old : IfSome (row_before c) (IsRow r.schema)

abbrev Makes : Extensions → Relation → Going → Outcome Change → Type 0
Makes ext r going o = OfEnd ext (λ c g. IsMade r c × Same going g) o

with_new_row : (ext : Extensions) (name : Name) (r : Relation) (own : Option Key) (row : Row) (going : Going) (make : Key → Change) → IsLawfulTrail ext going.trail
    → ((key : Key) → own ≡ Some key → is_record_key key ≡ true) → IsTuple row → first_misfit r.schema row ≡ None → ((key : Key) → IsRowOf r key row → IsMade r (make key))
    → Makes ext r going ((refuse_if (is_too_long r row) (TooLong name) >>= λ _. (key_for name r own row >>= λ key. made (make key))) going)
with_new_row ext name r own row going make trail owned tuple fits is = of_test (is_too_long r row) refl
  where
    of_test : (b : Bool) → is_too_long r row ≡ b → Makes ext r going ((refuse_if b (TooLong name) >>= λ _. (key_for name r own row >>= λ key. made (make key))) going)
    of_test true long = trail
    of_test false short =
        of_next ext (λ key g. IsKeyOf r row key × Same going g) (λ c g. IsMade r c × Same going g) (key_for name r own row going) (λ key. made (make key))
        (of_keying ext name r row own going trail owned (keying_of r.method) (key_short r row short) (λ two. ap keying_of two))
        (λ key g keyed. (is key (row_is r row key tuple fits short keyed.0), keyed.1))

module _ (ext : Extensions) (name : Name) (r : Relation) (going : Going) (trail : IsLawfulTrail ext going.trail) (rows : All (λ row. IsRowOf r row.0 row.1) r.rows) where
  stands : (key : Key) (old : Row) → row_at r.rows key ≡ Some old → IsRowOf r key old
  stands key old there = all_at (IsRowOf r) r.rows key old rows there

  -- another row in its place
  turned : (key : Key) (old new : Row) → row_at r.rows key ≡ Some old → IsTuple new → first_misfit r.schema new ≡ None
      → Makes ext r going ((refuse_if (is_too_long r new) (TooLong name) >>= λ _. (key_for name r (Some key) new >>= λ to. made (change.Update key old to new))) going)
  turned key old new there tuple fits =
      with_new_row ext name r (Some key) new going (λ to. change.Update key old to new) trail
      (λ own e. subst (λ (k : Key). is_record_key k ≡ true) (same_Some key own e) ((stands key old there).keyed)) tuple fits (λ to at. record { new = at; old = (stands key old there).stored })

  pub wished_ok : (wish : Wish) → IsWishOf r.schema wish → Makes ext r going (wished name r wish going)
  wished_ok (Put row) is = with_new_row ext name r None row going (λ key. change.Insert key row) trail (λ key own. absurd (cc)) is.0 is.1 (λ key new. record { new = new; old = tt })
  wished_ok (Remove key) is = of_found (row_at r.rows key) refl
    where
      of_found : (o : Option Row) → row_at r.rows key ≡ o
          → Makes ext r going (((found name o >>= λ old. made (Takes key old)) >>= λ edit. (refuse_if (is_long_edit r edit) (TooLong name) >>= λ _. change_of name r edit)) going)
      of_found None there = trail
      of_found (Some old) there = (record { new = tt; old = (stands key old there).stored }, same_here going)
  wished_ok (Replace key row) is = of_found (row_at r.rows key) refl
    where
      of_found : (o : Option Row) → row_at r.rows key ≡ o
          → Makes ext r going (((found name o >>= λ old. made (Turns key old row)) >>= λ edit. (refuse_if (is_long_edit r edit) (TooLong name) >>= λ _. change_of name r edit)) going)
      of_found None there = trail
      of_found (Some old) there = turned key old row there is.0 is.1
  wished_ok (Raise key column by) is = of_found (row_at r.rows key) refl
    where
      of_sum : (old : Row) (n : ℤ) → row_at r.rows key ≡ Some old → column_value r.schema (Some old) column ≡ Some (Int n) → (b : Bool) → is_i64 (n +ℤ by) ≡ b
          → Makes ext r going (continue (λ edit. (refuse_if (is_long_edit r edit) (TooLong name) >>= λ _. change_of name r edit))
          (continue (λ new. made (Turns key old new)) (cond b (made (with_value r.schema column (Int (n +ℤ by)) old)) (refuse {A = Row} (Range name)) going)))
      of_sum old n there value false fits = trail
      of_sum old n there value true fits =
          let row : IsRow r.schema old = (stands key old there).stored in
          turned key old (with_value r.schema column (Int (n +ℤ by)) old) there (tuple_with r.schema column (Int (n +ℤ by)) old (storable_int (n +ℤ by) fits) row.tuple)
          (fits_with r.schema column (Int (n +ℤ by)) old (value_kind r.schema old column (Int n) row.fits value) row.fits)

      of_value : (old : Row) → row_at r.rows key ≡ Some old → (o : Option Value) → column_value r.schema (Some old) column ≡ o
          → Makes ext r going (continue (λ edit. (refuse_if (is_long_edit r edit) (TooLong name) >>= λ _. change_of name r edit))
          (continue (λ new. made (Turns key old new)) (raised name r.schema column by old o going)))
      of_value old there None value = let row : IsRow r.schema old = (stands key old there).stored in turned key old old there row.tuple row.fits
      of_value old there (Some (Text s)) value = let row : IsRow r.schema old = (stands key old there).stored in turned key old old there row.tuple row.fits
      of_value old there (Some (Int n)) value = of_sum old n there value (is_i64 (n +ℤ by)) refl

      of_found : (o : Option Row) → row_at r.rows key ≡ o
          → Makes ext r going (((found name o >>= λ old. (raised name r.schema column by old (column_value r.schema (Some old) column) >>= λ new. made (Turns key old new)))
          >>= λ edit. (refuse_if (is_long_edit r edit) (TooLong name) >>= λ _. change_of name r edit)) going)
      of_found None there = trail
      of_found (Some old) there = of_value old there (column_value r.schema (Some old) column) refl
