-- A command on one row of a relation whose rules are alone leaves a lawful state.
use Rattle.std.proofs.Common.{◌≡◌, ℕ, ◌+◌, ◌==◌, Bool, true, false, ◌&&◌, ◌||◌, List, [], ◌∷◌, ◌++◌, Option, Some, None, suc, ◌^◌, ◌-◌, refl, sym, ap, subst, ◌∙◌, append-nil}
use Rattle.std.specs.Prelude.{All, cond, nat_le, nat_lt, ℤ, ◌+ℤ◌}
use Rattle.std.specs.Int.{to_be_bytes, w64}
use Rattle.std.specs.List.{list_any, flat_map}
use Rattle.std.proofs.lemmas.Bool.{and_parts, ltb-false, le-leb, or_parts}
use Rattle.std.proofs.lemmas.List.Elements.{All-head, All-tail}
use Rattle.std.proofs.lemmas.Option.{same_Some}
use Rattle.sb_value.specs.declared.schema.Column.{Column}
use Rattle.sb_value.specs.declared.value.Value.{Value}
use Rattle.sb_value.specs.declared.value.Value.TheVariants.{Int, Text}
use Rattle.sb_value.specs.Fits.{kind_of, first_misfit}
use Rattle.sb_value.specs.Spelling.{IsStorable}
use Rattle.sb_codec.specs.Tuples.{IsTuple}
use Rattle.sb_pred.specs.declared.predicate.Term.{Term}
use Rattle.sb_pred.specs.declared.predicate.Term.TheVariants.{Const}
use Rattle.sb_pred.specs.Columns.{column_kind, column_value}
use Rattle.sb_rule.specs.declared.action.Action.{Action}
use Rattle.sb_rule.specs.declared.action.Action.TheVariants as action
use Rattle.sb_rule.specs.declared.change.Change.{Change}
use Rattle.sb_rule.specs.declared.change.Change.TheVariants as change
use Rattle.sb_rule.specs.declared.rule.Rule.{Rule}
use Rattle.sb_rule.specs.declared.rule.Rule.TheVariants.{Refers, Trigger}
use Rattle.sb_relation.specs.Changes.{changed}
use Rattle.sb_relation.specs.Db.{Name, Key, Row, Rows, Attached, Relation, Db, relation_at, rows_at, schema_at, row_at, key_of, tree}
use Rattle.sb_relation.specs.Fits.{relation_of}
use Rattle.sb_relation.specs.Keys.{Just, Taken, NoGreater, Keying, Picked, Coded, Counted, keying_of, is_record_key, is_free, greatest, new_keys}
use Rattle.sb_relation.specs.Lawful.{IsRow, is_long_row, is_long_code, is_long_for, is_too_long}
use Rattle.sb_relation.specs.Rules.{follows, late_actions}
use Rattle.sb_fold.specs.declared.refusal.Refusal.TheVariants.{TooLong, Range}
use Rattle.sb_fold.specs.Extensions.{Extensions}
use Rattle.sb_fold.specs.Fold as fold
use Rattle.sb_fold.specs.Outcome.{Going, Outcome, Gives, Stopped, NoStep, Work, made, refuse, no_step, continue, refuse_if, ◌>>=◌, change_to}
use Rattle.sb_fold.specs.Wishes.{Wish, Put, Remove, Replace, Raise, Takes, Turns, pick, take_key, key_for, is_long_edit, found, change_of, wished, is_match, pairs_of, wish_of, const_of, add_wish, is_i64, with_value, raised}
use Rattle.sb_plain.specs.Lawful.{IsRowOf, IsChangeOf, IsLawfulRelation, IsLawful, IsSoundNow, AreAlone, is_alone}
use Rattle.sb_plain.proofs.ChangeLemmas.{changes-lawful}
use Rattle.sb_plain.proofs.SoundLemmas.{all_at}
use Rattle.sb_plain.proofs.SoundChangeLemmas.{alone_after, schema_after, changes-sound}
use Rattle.sb_plain.proofs.ValueLemmas.{fits_with, tuple_with, value_kind, storable_int}

-- ---- what work gives
abbrev pub OfGiven : {A : Type 0} → (A → Going → Type 0) → Outcome A → Type 0
OfGiven P (Gives x going) = P x going
OfGiven P (Stopped r trail) = Unit {0}
OfGiven P (NoStep trail) = Unit {0}

pub of_next : {A B : Type 0} (P : A → Going → Type 0) (Q : B → Going → Type 0) (o : Outcome A) (next : A → Work B) → OfGiven P o → ((x : A) (g : Going) → P x g → OfGiven Q (next x g)) → OfGiven Q (continue next o)
of_next P Q (Gives x g) next given then = then x g given
of_next P Q (Stopped r trail) next given then = tt
of_next P Q (NoStep trail) next given then = tt

-- the database and what waits stand as they did
record Stays (old new : Going) : Type 0 where
  db : new.db ≡ old.db
  queue : new.queue ≡ old.queue

-- ---- record keys
record IsKeyOf (r : Relation) (row : Row) (key : Key) : Type 0 where
  keyed : is_record_key key ≡ true
  coded : r.method ≡ 2 → key ≡ key_of r row

short_code : (n : ℕ) → nat_lt 200 n ≡ false → nat_le n 200 ≡ true
short_code n e = le-leb n 200 (ltb-false 200 n e)

of_pick : (may : Key → Bool) (picks : List Key) (going : Going) → OfGiven (λ key g. (may key ≡ true) × Stays going g) (pick may picks going)
of_pick may [] going = tt
of_pick may (key ∷ picks) going = of_test (may key) refl
  where
    of_test : (b : Bool) → may key ≡ b → OfGiven (λ k g. (may k ≡ true) × Stays going g) (cond b (made key (record going { picks = picks; used = going.used ++ key ∷ [] })) (no_step {A = Key} going))
    of_test true is = (is, record { db = refl; queue = refl })
    of_test false is = tt

of_weaker : {A : Type 0} (P Q : A → Going → Type 0) (o : Outcome A) → OfGiven P o → ((x : A) (g : Going) → P x g → Q x g) → OfGiven Q o
of_weaker P Q (Gives x g) given weaker = weaker x g given
of_weaker P Q (Stopped r trail) given weaker = tt
of_weaker P Q (NoStep trail) given weaker = tt

of_keying : (name : Name) (r : Relation) (row : Row) (own : Option Key) (going : Going) → ((key : Key) → own ≡ Some key → is_record_key key ≡ true)
    → (keying : Keying) → (keying ≡ Coded → is_long_code r.schema r.key row ≡ false) → (r.method ≡ 2 → keying ≡ Coded) → OfGiven (λ key g. IsKeyOf r row key × Stays going g) (take_key name (new_keys keying r.rows own (key_of r row)) going)
of_keying name r row own going owned Picked short tie =
    of_weaker (λ key g. ((is_record_key key && is_free r.rows own key) ≡ true) × Stays going g) (λ key g. IsKeyOf r row key × Stays going g)
    (pick (λ key. is_record_key key && is_free r.rows own key) going.picks going) (of_pick (λ key. is_record_key key && is_free r.rows own key) going.picks going)
    (λ key g is. (record { keyed = (and_parts (is_record_key key) (is_free r.rows own key) is.0).0; coded = λ two. absurd (not_coded (tie two)) }, is.1))
  where
    not_coded : Picked ≡ Coded → ⊥
    not_coded e = cc
of_keying name r row own going owned Coded short tie = of_test (is_free r.rows own (key_of r row))
  where
    of_test : (b : Bool) → OfGiven (λ key g. IsKeyOf r row key × Stays going g) (take_key name (cond b (Just (key_of r row)) Taken) going)
    of_test true = (record { keyed = short_code _ (short refl); coded = λ two. refl }, record { db = refl; queue = refl })
    of_test false = tt
of_keying name r row (Some key) going owned Counted short tie = (record { keyed = owned key refl; coded = λ two. absurd (not_coded (tie two)) }, record { db = refl; queue = refl })
  where
    not_coded : Counted ≡ Coded → ⊥
    not_coded e = cc
of_keying name r row None going owned Counted short tie = of_test (nat_lt (greatest r.rows) (2 ^ 64 - 1))
  where
    not_coded : Counted ≡ Coded → ⊥
    not_coded e = cc

    of_test : (b : Bool) → OfGiven (λ key g. IsKeyOf r row key × Stays going g) (take_key name (cond b (Just (to_be_bytes w64 (greatest r.rows + 1))) NoGreater) going)
    of_test true = (record { keyed = refl; coded = λ two. absurd (not_coded (tie two)) }, record { db = refl; queue = refl })
    of_test false = tt

-- ---- wishes
-- the new row of a wish is of these columns
abbrev pub IsWishOf : List Column → Wish → Type 0
IsWishOf schema (Put row) = IsTuple row × (first_misfit schema row ≡ None)
IsWishOf schema (Remove key) = Unit {0}
IsWishOf schema (Replace key row) = IsTuple row × (first_misfit schema row ≡ None)
IsWishOf schema (Raise key column by) = Unit {0}

short_parts : (r : Relation) (row : Row) → is_too_long r row ≡ false → (is_long_row r.schema row ≡ false) × ((r.method == tree && is_long_code r.schema r.key row) ≡ false)
short_parts r row e =
    or_parts (is_long_row r.schema row) (r.method == tree && is_long_code r.schema r.key row)
    (or_parts (is_long_row r.schema row || (r.method == tree && is_long_code r.schema r.key row)) (list_any (λ a. is_long_for r.schema row a.rule) r.attachments) e).0

-- where the key is a code, that isn't too long
key_short : (r : Relation) (row : Row) → is_too_long r row ≡ false → keying_of r.method ≡ Coded → is_long_code r.schema r.key row ≡ false
key_short r row short coded = ap (λ (b : Bool). b && is_long_code r.schema r.key row) (sym (by (r.method == 2) (r.method == 3) coded)) ∙ (short_parts r row short).1
  where
    by : (b c : Bool) → cond b Coded (cond c Counted Picked) ≡ Coded → b ≡ true
    by true c e = refl
    by false true e = cc
    by false false e = cc

row_is : (r : Relation) (row : Row) (key : Key) → IsTuple row → first_misfit r.schema row ≡ None → is_too_long r row ≡ false → IsKeyOf r row key → IsRowOf r key row
row_is r row key tuple fits short is = record {
  stored = record { tuple = tuple; fits = fits; short = (short_parts r row short).0 };
  short = short;
  keyed = is.keyed;
  coded = is.coded;
}

with_new_row : (name : Name) (r : Relation) (own : Option Key) (row : Row) (going : Going) (make : Key → Change) → ((key : Key) → own ≡ Some key → is_record_key key ≡ true) → IsTuple row
    → first_misfit r.schema row ≡ None → ((key : Key) → IsRowOf r key row → IsChangeOf r (make key))
    → OfGiven (λ c g. IsChangeOf r c × Stays going g) ((refuse_if (is_too_long r row) (TooLong name) >>= λ _. (key_for name r own row >>= λ key. made (make key))) going)
with_new_row name r own row going make owned tuple fits is = of_test (is_too_long r row) refl
  where
    of_test : (b : Bool) → is_too_long r row ≡ b → OfGiven (λ c g. IsChangeOf r c × Stays going g) ((refuse_if b (TooLong name) >>= λ _. (key_for name r own row >>= λ key. made (make key))) going)
    of_test true long = tt
    of_test false short =
        of_next (λ key g. IsKeyOf r row key × Stays going g) (λ c g. IsChangeOf r c × Stays going g) (key_for name r own row going) (λ key. made (make key))
        (of_keying name r row own going owned (keying_of r.method) (key_short r row short) (λ two. ap keying_of two))
        (λ key g keyed. (is key (row_is r row key tuple fits short keyed.0), keyed.1))

wished_ok : (name : Name) (r : Relation) (wish : Wish) (going : Going) → All (λ row. IsRowOf r row.0 row.1) r.rows → IsWishOf r.schema wish → OfGiven (λ c g. IsChangeOf r c × Stays going g) (wished name r wish going)
wished_ok name r (Put row) going rows is = with_new_row name r None row going (λ key. change.Insert key row) (λ key own. absurd (cc)) is.0 is.1 (λ key new. new)
wished_ok name r (Remove key) going rows is = of_found (row_at r.rows key)
  where
    of_found : (o : Option Row) → OfGiven (λ c g. IsChangeOf r c × Stays going g)
        ((((found name o >>= λ old. made (Takes key old)) >>= λ edit. (refuse_if (is_long_edit r edit) (TooLong name) >>= λ _. change_of name r edit))) going)
    of_found None = tt
    of_found (Some old) = (tt, record { db = refl; queue = refl })
wished_ok name r (Replace key row) going rows is = of_found (row_at r.rows key) refl
  where
    of_found : (o : Option Row) → row_at r.rows key ≡ o → OfGiven (λ c g. IsChangeOf r c × Stays going g)
        ((((found name o >>= λ old. made (Turns key old row)) >>= λ edit. (refuse_if (is_long_edit r edit) (TooLong name) >>= λ _. change_of name r edit))) going)
    of_found None there = tt
    of_found (Some old) there =
        with_new_row name r (Some key) row going (λ to. change.Update key old to row)
        (λ own e. subst (λ (k : Key). is_record_key k ≡ true) (same_Some key own e) ((all_at (IsRowOf r) r.rows key old rows there).keyed)) is.0 is.1 (λ to new. new)
wished_ok name r (Raise key column by) going rows is = of_found (row_at r.rows key) refl
  where
    turned : (old new : Row) → row_at r.rows key ≡ Some old → IsTuple new → first_misfit r.schema new ≡ None
        → OfGiven (λ c g. IsChangeOf r c × Stays going g) ((refuse_if (is_too_long r new) (TooLong name) >>= λ _. (key_for name r (Some key) new >>= λ to. made (change.Update key old to new))) going)
    turned old new there tuple fits =
        with_new_row name r (Some key) new going (λ to. change.Update key old to new)
        (λ own e. subst (λ (k : Key). is_record_key k ≡ true) (same_Some key own e) ((all_at (IsRowOf r) r.rows key old rows there).keyed)) tuple fits (λ to at. at)

    of_sum : (old : Row) (n : ℤ) → row_at r.rows key ≡ Some old → column_value r.schema (Some old) column ≡ Some (Int n) → (b : Bool) → is_i64 (n +ℤ by) ≡ b → OfGiven (λ c g. IsChangeOf r c × Stays going g)
        (continue (λ edit. (refuse_if (is_long_edit r edit) (TooLong name) >>= λ _. change_of name r edit))
        (continue (λ new. made (Turns key old new)) (cond b (made (with_value r.schema column (Int (n +ℤ by)) old)) (refuse {A = Row} (Range name)) going)))
    of_sum old n there value false fits = tt
    of_sum old n there value true fits =
        let row : IsRow r.schema old = (all_at (IsRowOf r) r.rows key old rows there).stored in
        turned old (with_value r.schema column (Int (n +ℤ by)) old) there (tuple_with r.schema column (Int (n +ℤ by)) old (storable_int (n +ℤ by) fits) row.tuple)
        (fits_with r.schema column (Int (n +ℤ by)) old (value_kind r.schema old column (Int n) row.fits value) row.fits)

    of_value : (old : Row) → row_at r.rows key ≡ Some old → (o : Option Value) → column_value r.schema (Some old) column ≡ o → OfGiven (λ c g. IsChangeOf r c × Stays going g)
        (continue (λ edit. (refuse_if (is_long_edit r edit) (TooLong name) >>= λ _. change_of name r edit))
        (continue (λ new. made (Turns key old new)) (raised name r.schema column by old o going)))
    of_value old there None value = let row : IsRow r.schema old = (all_at (IsRowOf r) r.rows key old rows there).stored in turned old old there row.tuple row.fits
    of_value old there (Some (Text s)) value = let row : IsRow r.schema old = (all_at (IsRowOf r) r.rows key old rows there).stored in turned old old there row.tuple row.fits
    of_value old there (Some (Int n)) value = of_sum old n there value (is_i64 (n +ℤ by)) refl

    of_found : (o : Option Row) → row_at r.rows key ≡ o → OfGiven (λ c g. IsChangeOf r c × Stays going g)
        (((found name o >>= λ old. (raised name r.schema column by old (column_value r.schema (Some old) column) >>= λ new. made (Turns key old new)))
        >>= λ edit. (refuse_if (is_long_edit r edit) (TooLong name) >>= λ _. change_of name r edit)) going)
    of_found None there = tt
    of_found (Some old) there = of_value old there (column_value r.schema (Some old) column) refl

-- ---- what follows
follows_none : (db : Db) (name : Name) (c : Change) (rule : Rule) → is_alone rule ≡ true → follows db name rule c ≡ []
follows_none db name c (Refers side columns other others mode deferred) alone = absurd (cc)
follows_none db name c (Trigger on pred act deferred) alone = absurd (cc)
follows_none db name c _ alone = refl

late_none : (db : Db) (name : Name) (c : Change) (rule : Rule) → is_alone rule ≡ true → late_actions db name rule c ≡ []
late_none db name c (Trigger on pred act deferred) alone = absurd (cc)
late_none db name c _ alone = refl

flat_none : (f : Rule → List Action) (items : List Attached) → ((rule : Rule) → is_alone rule ≡ true → f rule ≡ []) → All (λ a. is_alone a.rule ≡ true) items → flat_map (λ a. f a.rule) items ≡ []
flat_none f [] none alone = refl
flat_none f (a ∷ items) none alone =
    ap (λ (l : List Action). l ++ flat_map (λ x. f x.rule) items) (none a.rule (All-head (λ x. is_alone x.rule ≡ true) a items alone))
    ∙ flat_none f items none (All-tail (λ x. is_alone x.rule ≡ true) a items alone)

-- what work on rows of the named relation keeps
pub record Worked (ext : Extensions) (name : Name) (old new : Going) : Type 0 where
  pub lawful : IsLawful ext new.db
  pub sound : IsSoundNow ext new.db
  pub alone : All (λ a. is_alone a.rule ≡ true) (fold.attachments_at new.db name)
  pub schema : schema_at new.db name ≡ schema_at old.db name
  pub queue : new.queue.actions ≡ old.queue.actions

answered_ok : (ext : Extensions) (below : fold.Changes) (name : Name) (r : Relation) (c : Change) (g : Going) → relation_at g.db name ≡ Some r → AreAlone r → IsChangeOf r c → IsLawful ext g.db
    → IsSoundNow ext g.db → OfGiven (λ key n. Worked ext name g n) (fold.answer_change ext below name c (fold.reach_change ext name r c g))
answered_ok ext below name r c g there alone is lawful sound = of_veto (fold.vetoing ext (changed g.db name c) name c (fold.attachments_at (changed g.db name c) name)) refl
  where
    left : Going
    left = fold.queue_late name c (fold.reach_change ext name r c g)

    calm : All (λ a. is_alone a.rule ≡ true) (fold.attachments_at (changed g.db name c) name)
    calm = alone_after g.db name r c there alone

    of_following : (actions : List Action) → actions ≡ [] → Worked ext name g left → OfGiven (λ key n. Worked ext name g n) (continue (λ _. made (fold.key_after c)) (fold.act_all below actions left))
    of_following [] none worked = worked
    of_following (a ∷ actions) none worked = absurd (cc)

    of_veto : (veto : Option Name) → fold.vetoing ext (changed g.db name c) name c (fold.attachments_at (changed g.db name c) name) ≡ veto
        → OfGiven (λ key n. Worked ext name g n)
        (continue (λ _. (change_to (fold.queue_late name c) >>= λ _. ((λ going. fold.act_all below (fold.following going.db name c) going) >>= λ _. made (fold.key_after c))))
        (fold.unless_vetoed name veto (fold.reach_change ext name r c g)))
    of_veto (Some attachment) vetoed = tt
    of_veto None passed =
        of_following (fold.following (changed g.db name c) name c) (flat_none (λ rule. follows (changed g.db name c) name rule c) (fold.attachments_at (changed g.db name c) name) (follows_none (changed g.db name c) name c) calm)
        (record {
          lawful = changes-lawful ext g.db name r c there is lawful;
          sound = changes-sound ext g.db name r c there alone lawful sound passed;
          alone = calm;
          schema = schema_after g.db name r c there;
          queue =
              ap (λ (l : List Action). g.queue.actions ++ l)
              (flat_none (λ rule. late_actions (changed g.db name c) name rule c) (fold.attachments_at (changed g.db name c) name) (late_none (changed g.db name c) name c) calm)
              ∙ append-nil g.queue.actions;
        })

-- a command's own change, where the relation's rules are alone and the wish is of its columns
pub change_ok : (ext : Extensions) (levels : ℕ) (name : Name) (wish : Wish) (going : Going) → IsLawful ext going.db → IsSoundNow ext going.db
    → ((r : Relation) → relation_at going.db name ≡ Some r → AreAlone r × IsWishOf r.schema wish) → OfGiven (λ key n. Worked ext name going n) (fold.change_within ext (suc levels) name wish going)
change_ok ext levels name wish going lawful sound is = of_relation (relation_at going.db name) refl
  where
    then : (r : Relation) → relation_at going.db name ≡ Some r → (c : Change) (g : Going) → IsChangeOf r c × Stays going g
        → OfGiven (λ key n. Worked ext name going n) (fold.answer_change ext (fold.change_within ext levels) name c (fold.reach_change ext name r c g))
    then r there c g made_it =
        of_weaker (λ key n. Worked ext name g n) (λ key n. Worked ext name going n) (fold.answer_change ext (fold.change_within ext levels) name c (fold.reach_change ext name r c g))
        (answered_ok ext (fold.change_within ext levels) name r c g (ap (λ (d : Db). relation_at d name) made_it.1.db ∙ there) (is r there).0 made_it.0 (subst (IsLawful ext) (sym made_it.1.db) lawful)
        (subst (IsSoundNow ext) (sym made_it.1.db) sound))
        (λ key n worked. record {
          lawful = worked.lawful;
          sound = worked.sound;
          alone = worked.alone;
          schema = worked.schema ∙ ap (λ (d : Db). schema_at d name) made_it.1.db;
          queue = worked.queue ∙ ap (λ q. q.actions) made_it.1.queue;
        })

    of_relation : (o : Option Relation) → relation_at going.db name ≡ o → OfGiven (λ key n. Worked ext name going n) (fold.one_change ext (fold.change_within ext levels) name wish o going)
    of_relation None there = tt
    of_relation (Some r) there =
        of_next (λ c g. IsChangeOf r c × Stays going g) (λ key n. Worked ext name going n) (wished name r wish going)
        (λ c. change_to (fold.reach_change ext name r c) >>= λ _. fold.answer_change ext (fold.change_within ext levels) name c)
        (wished_ok name r wish going (all_at (IsLawfulRelation ext going.db) going.db name r lawful.relations there).rows (is r there).1) (then r there)

-- ---- actions
abbrev IfWish : (Wish → Type 0) → Option Wish → Type 0
IfWish P None = Unit {0}
IfWish P (Some wish) = P wish

-- what an action wishes of the rows of these columns is of these columns
abbrev pub IsFitting : List Column → Action → Type 0
IsFitting schema a = (key : Key) (row : Row) → IsRow schema row → IfWish (IsWishOf schema) (wish_of schema a key row)

begins : (ext : Extensions) (name : Name) (g : Going) → IsLawful ext g.db → IsSoundNow ext g.db → All (λ a. is_alone a.rule ≡ true) (fold.attachments_at g.db name) → Worked ext name g g
begins ext name g lawful sound alone = record { lawful = lawful; sound = sound; alone = alone; schema = refl; queue = refl }

goes_on : (ext : Extensions) (name : Name) (a b c : Going) → Worked ext name a b → Worked ext name b c → Worked ext name a c
goes_on ext name a b c first second = record { lawful = second.lawful; sound = second.sound; alone = second.alone; schema = second.schema ∙ first.schema; queue = second.queue ∙ first.queue }

alone_there : (db : Db) (name : Name) (r : Relation) → relation_at db name ≡ Some r → All (λ a. is_alone a.rule ≡ true) (fold.attachments_at db name) → AreAlone r
alone_there db name r there alone = subst (λ (o : Option Relation). All (λ a. is_alone a.rule ≡ true) (elim o as (λ _. List Attached) [ None ↦ [] | Some q ↦ q.attachments ])) there alone

schema_there : (db : Db) (name : Name) (r : Relation) → relation_at db name ≡ Some r → schema_at db name ≡ r.schema
schema_there db name r there = ap (λ (o : Option Relation). elim o as (λ _. List Column) [ None ↦ [] | Some q ↦ q.schema ]) there

if_ok : (ext : Extensions) (levels : ℕ) (name : Name) (wish : Option Wish) (g : Going) → IsLawful ext g.db → IsSoundNow ext g.db → All (λ a. is_alone a.rule ≡ true) (fold.attachments_at g.db name)
    → IfWish (IsWishOf (schema_at g.db name)) wish → OfGiven (λ n h. Worked ext name g h) (fold.change_if (fold.change_within ext (suc levels)) name wish g)
if_ok ext levels name None g lawful sound alone is = begins ext name g lawful sound alone
if_ok ext levels name (Some wish) g lawful sound alone is =
    of_next (λ key n. Worked ext name g n) (λ n h. Worked ext name g h) (fold.change_within ext (suc levels) name wish g) (λ _. made 1)
    (change_ok ext levels name wish g lawful sound (λ r there. (alone_there g.db name r there alone, subst (λ (schema : List Column). IsWishOf schema wish) (schema_there g.db name r there) is)))
    (λ key n worked. worked)

-- the wish of a row that stands
wish_ok : (ext : Extensions) (db : Db) (name : Name) (a : Action) (key : Key) → IsLawful ext db → IsFitting (schema_at db name) a
    → IfWish (IsWishOf (schema_at db name)) (fold.wish_for (schema_at db name) a key (row_at (rows_at db name) key))
wish_ok ext db name a key lawful fitting = of_relation (relation_at db name) refl
  where
    of_match : (row : Row) → IsRow (schema_at db name) row → (b : Bool) → IfWish (IsWishOf (schema_at db name)) (cond b (wish_of (schema_at db name) a key row) None)
    of_match row is true = fitting key row is
    of_match row is false = tt

    of_row : (r : Relation) → relation_at db name ≡ Some r → (o : Option Row) → row_at r.rows key ≡ o → IfWish (IsWishOf (schema_at db name)) (fold.wish_for (schema_at db name) a key o)
    of_row r there None is = tt
    of_row r there (Some row) is =
        of_match row
        (subst (λ (schema : List Column). IsRow schema row) (sym (schema_there db name r there)) ((all_at (IsRowOf r) r.rows key row ((all_at (IsLawfulRelation ext db) db name r lawful.relations there).rows) is).stored))
        (is_match (schema_at db name) (pairs_of a) row)

    of_relation : (o : Option Relation) → relation_at db name ≡ o
        → IfWish (IsWishOf (schema_at db name)) (fold.wish_for (schema_at db name) a key (row_at (elim o as (λ _. Rows) [ None ↦ [] | Some q ↦ q.rows ]) key))
    of_relation None there = tt
    of_relation (Some r) there = of_row r there (row_at r.rows key) refl

each_ok : (ext : Extensions) (levels : ℕ) (a : Action) (keys : List Key) (g : Going) → IsLawful ext g.db → IsSoundNow ext g.db → All (λ x. is_alone x.rule ≡ true) (fold.attachments_at g.db (relation_of a))
    → IsFitting (schema_at g.db (relation_of a)) a → OfGiven (λ n h. Worked ext (relation_of a) g h) (fold.change_each (fold.change_within ext (suc levels)) a keys g)
each_ok ext levels a [] g lawful sound alone fitting = begins ext (relation_of a) g lawful sound alone
each_ok ext levels a (key ∷ keys) g lawful sound alone fitting =
    of_next (λ n h. Worked ext (relation_of a) g h) (λ n h. Worked ext (relation_of a) g h)
    (fold.change_if (fold.change_within ext (suc levels)) (relation_of a) (fold.wish_for (schema_at g.db (relation_of a)) a key (row_at (rows_at g.db (relation_of a)) key)) g)
    (λ one. (fold.change_each (fold.change_within ext (suc levels)) a keys >>= λ others. made (one + others)))
    (if_ok ext levels (relation_of a) (fold.wish_for (schema_at g.db (relation_of a)) a key (row_at (rows_at g.db (relation_of a)) key)) g lawful sound alone (wish_ok ext g.db (relation_of a) a key lawful fitting))
    (λ one h worked.
    of_next (λ n k. Worked ext (relation_of a) h k) (λ n k. Worked ext (relation_of a) g k) (fold.change_each (fold.change_within ext (suc levels)) a keys h) (λ others. made (one + others))
    (each_ok ext levels a keys h worked.lawful worked.sound worked.alone (subst (λ (schema : List Column). IsFitting schema a) (sym worked.schema) fitting))
    (λ others k more. goes_on ext (relation_of a) g h k worked more))

-- rows that match go
pub delete_ok : (ext : Extensions) (levels : ℕ) (name : Name) (pairs : List (Name × Term)) (g : Going) → IsLawful ext g.db → IsSoundNow ext g.db → All (λ x. is_alone x.rule ≡ true) (fold.attachments_at g.db name)
    → OfGiven (λ n h. Worked ext name g h) (fold.act (fold.change_within ext (suc levels)) (action.Delete name pairs) g)
delete_ok ext levels name pairs g lawful sound alone = each_ok ext levels (action.Delete name pairs) (fold.matching g.db (action.Delete name pairs)) g lawful sound alone (λ key row is. tt)

-- rows that match get a value that can be stored, of its column's kind
pub set_ok : (ext : Extensions) (levels : ℕ) (name column : Name) (v : Value) (pairs : List (Name × Term)) (g : Going) → IsStorable v → column_kind (schema_at g.db name) column ≡ Some (kind_of v) → IsLawful ext g.db
    → IsSoundNow ext g.db → All (λ x. is_alone x.rule ≡ true) (fold.attachments_at g.db name)
    → OfGiven (λ n h. Worked ext name g h) (fold.act (fold.change_within ext (suc levels)) (action.Set name column (Const v) pairs) g)
set_ok ext levels name column v pairs g one kinds lawful sound alone =
    each_ok ext levels (action.Set name column (Const v) pairs) (fold.matching g.db (action.Set name column (Const v) pairs)) g lawful sound alone
    (λ key row is. (tuple_with (schema_at g.db name) column v row one is.tuple, fits_with (schema_at g.db name) column v row kinds is.fits))

-- rows that match get a number more in a column
add_fits : (schema : List Column) (name column : Name) (term : Term) (pairs : List (Name × Term)) → IsFitting schema (action.Add name column term pairs)
add_fits schema name column term pairs key row is = of_values (const_of term)
  where
    of_values : (values : List Value) → IfWish (IsWishOf schema) (add_wish column values key)
    of_values [] = tt
    of_values (Int n ∷ values) = tt
    of_values (Text s ∷ values) = tt

pub add_ok : (ext : Extensions) (levels : ℕ) (name column : Name) (term : Term) (pairs : List (Name × Term)) (g : Going) → IsLawful ext g.db → IsSoundNow ext g.db
    → All (λ x. is_alone x.rule ≡ true) (fold.attachments_at g.db name) → OfGiven (λ n h. Worked ext name g h) (fold.act (fold.change_within ext (suc levels)) (action.Add name column term pairs) g)
add_ok ext levels name column term pairs g lawful sound alone =
    each_ok ext levels (action.Add name column term pairs) (fold.matching g.db (action.Add name column term pairs)) g lawful sound alone (add_fits (schema_at g.db name) name column term pairs)
