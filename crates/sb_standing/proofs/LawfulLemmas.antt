-- Rows, changes and roots that the boxes' laws tell of.
use Rattle.std.proofs.Common.{◌≡◌, ◌≢◌, ℕ, zero, suc, ◌==◌, Bool, true, false, ◌||◌, ◌&&◌, cond, is_eq, List, [], ◌∷◌, All, get_or, Option, Some, None, IfSome, sym, ap, subst, ◌∙◌}
use Rattle.std.specs.List.{list_any, slice_get}
use Rattle.std.proofs.lemmas.List.Elements.{All-head, All-tail}
use Rattle.std.proofs.lemmas.Option.{same_Some}
use Rattle.std.proofs.lemmas.Bool.{or_parts}
use Rattle.sb_value.specs.declared.schema.Column.{Column}
use Rattle.sb_value.specs.Fits.{Fits}
use Rattle.sb_value.specs.Order.{bytes_cmp}
use Rattle.sb_rule.specs.declared.change.Change.{Change}
use Rattle.sb_rule.specs.declared.change.Change.TheVariants as change
use Rattle.sb_rule.specs.Bound.{row_before, row_after}
use Rattle.sb_relation.specs.Db
use Rattle.sb_relation.specs.Db.{Key, Row, Rows, Relation, relation_at, row_at, tree}
use Rattle.sb_relation.specs.Lawful.{IsRow, AreRows, is_long_code, is_long_row, is_long_for, is_too_long}
use Rattle.sb_rows.specs.Instance.{Instance}
use Rattle.sb_rows.specs.Attachment.{AreLawful, MayHold, MayMeet, IsChangeOf}
use Rattle.sb_rows.specs.AttachAnswers.{content_over}
use Rattle.sb_rows.specs.Laws.{HoldRows}
use Rattle.sb_rows.specs.Boxes.{Meanings}
use Rattle.sb_rows.specs.Slots.{Slots, owned}
use Rattle.sb_catalog.specs.declared.descriptor.Attached.{Attached}
use Rattle.sb_catalog.proofs.Parts.{one_rule}
use Rattle.sb_standing.specs.Asked.{Suits}
use Rattle.sb_standing.specs.Instances.{rule_instance}
use Rattle.sb_standing.specs.Standing.{IsKept}
use Rattle.sb_standing.specs.Tables.{Kept, db_of, table_of, KeepsTable, Tables}
use Rattle.sb_standing.proofs.KeptLemmas.{kept_at-all, kept_at-relation}

-- ---- what formed pages hold
HoldRows-table : (m : Meanings) (durable : ℕ → Bool) (s : Slots) (k : Kept) (keeps : KeepsTable m durable s k) → HoldRows keeps.rows.live.box (table_of durable k) (owned s k.descriptor.owner) k.relation.rows
HoldRows-table m durable s k keeps = keeps.rows.live.law.formed (table_of durable k) (owned s k.descriptor.owner) k.relation.rows keeps.rows.holds

-- rows of the relation
pub AreRows-table : (m : Meanings) (durable : ℕ → Bool) (s : Slots) (k : Kept) → KeepsTable m durable s k → AreRows k.relation.schema k.relation.rows
AreRows-table m durable s k keeps = subst (λ (columns : List Column). AreRows columns k.relation.rows) keeps.is.schema (HoldRows-table m durable s k keeps).lawful

pub AreLawful-tables : (m : Meanings) (durable : ℕ → Bool) (root : ℕ) (s : Slots) (kept : List Kept) → Tables m durable root s kept → AreLawful (db_of kept)
AreLawful-tables m durable root s kept tables name r at =
    let there = kept_at-relation kept name r at in
    subst (λ (q : Relation). AreRows q.schema q.rows) there.is
    (AreRows-table m durable s there.kept_there (kept_at-all (KeepsTable m durable s) kept name there.kept_there tables.each there.at))

-- the root of a storage method's instance is a page, and that of an attachment that has pages
pub root-table : (m : Meanings) (durable : ℕ → Bool) (s : Slots) (k : Kept) → KeepsTable m durable s k → owned s k.descriptor.owner k.descriptor.root ≢ []
root-table m durable s k keeps = (HoldRows-table m durable s k keeps).root

pub roots-tables : (m : Meanings) (durable : ℕ → Bool) (root : ℕ) (s : Slots) (kept : List Kept) → Tables m durable root s kept → All (λ k. owned s k.descriptor.owner k.descriptor.root ≢ []) kept
roots-tables m durable root s kept tables = λ i d in'. root-table m durable s (get_or kept i d) (tables.each i d in')

pub root-rule : (m : Meanings) (durable : ℕ → Bool) (s : Slots) (db : Db.Db) (k : Kept) (d : Attached) (a : Db.Attached) → IsKept m durable s db k d a → d.owner ≢ 0 → owned s d.owner d.root ≢ []
root-rule m durable s db k d a kept some =
    let inst = rule_instance (durable k.descriptor.method) k.name k.descriptor d in
    (kept.law.formed inst (owned s d.owner) (content_over kept.box inst a.rule db a.buckets) kept.holds).root some

-- ---- a change that an attachment may meet
row_at-all : (P : Key × Row → Type 0) (rows : Rows) (key : Key) (row : Row) → All P rows → row_at rows key ≡ Some row → (k : Key) × P (k, row)
row_at-all P [] key row all at = absurd (cc)
row_at-all P (e ∷ rows) key row all at = by (is_eq (bytes_cmp key e.0)) (row_at-all P rows key row (All-tail P e rows all)) at
  where
    by : (b : Bool) → (row_at rows key ≡ Some row → (k : Key) × P (k, row)) → cond b (Some e.1) (row_at rows key) ≡ Some row → (k : Key) × P (k, row)
    by true rest at = (e.0, subst (λ (r : Row). P (e.0, r)) (same_Some e.1 row at) (All-head P e rows all))
    by false rest at = rest at

old_fits : (schema : List Column) (rows : Rows) (c : Change) → AreRows schema rows → IsChangeOf rows c → IfSome (row_before c) (Fits schema)
old_fits schema rows (change.Insert key new) are of = tt
old_fits schema rows (change.Delete key old) are of = (row_at-all (λ (e : Key × Row). IsRow schema e.1) rows key old are.each of).1.fits
old_fits schema rows (change.Update from old to new) are of = (row_at-all (λ (e : Key × Row). IsRow schema e.1) rows from old are.each of.0).1.fits

-- no code that an attachment keeps of the row is too long
none_long : (schema : List Column) (row : Row) (others : List Db.Attached) (i : ℕ) (a : Db.Attached) → list_any (λ x. is_long_for schema row x.rule) others ≡ false → slice_get others i ≡ Some a → is_long_for schema row a.rule ≡ false
none_long schema row [] i a none at = absurd (cc)
none_long schema row (x ∷ others) zero a none at = ap (λ (y : Db.Attached). is_long_for schema row y.rule) (sym (same_Some x a at)) ∙ (or_parts (is_long_for schema row x.rule) (list_any (λ y. is_long_for schema row y.rule) others) none).0
none_long schema row (x ∷ others) (suc i) a none at = none_long schema row others i a (or_parts (is_long_for schema row x.rule) (list_any (λ y. is_long_for schema row y.rule) others) none).1 at

last_false : (r : Relation) (row : Row) → is_too_long r row ≡ false → list_any (λ a. is_long_for r.schema row a.rule) r.attachments ≡ false
last_false r row is =
    (or_parts (is_long_row r.schema row || (r.method == tree && is_long_code r.schema r.key row)) (list_any (λ (a : Db.Attached). is_long_for r.schema row a.rule) r.attachments) is).1

some_weaker : {A : Type 0} (o : Option A) (P Q : A → Type 0) → ((x : A) → P x → Q x) → IfSome o P → IfSome o Q
some_weaker None P Q weaker h = h
some_weaker (Some x) P Q weaker h = weaker x h

-- the columns that an attachment sees are those of its relation
schema-kept : (m : Meanings) (durable : ℕ → Bool) (s : Slots) (db : Db.Db) (k : Kept) (d : Attached) (a : Db.Attached) → IsKept m durable s db k d a → relation_at db k.name ≡ Some k.relation → k.relation.schema ≡ k.descriptor.schema
schema-kept m durable s db k d a kept there = ap (λ (r : Relation). r.schema) (same_Some k.relation kept.stands.relation (sym there ∙ kept.stands.there)) ∙ kept.stands.schema

pub MayMeet-suits : (m : Meanings) (durable : ℕ → Bool) (s : Slots) (db : Db.Db) (k : Kept) (i : ℕ) (d : Attached) (a : Db.Attached) (c : Change) → Suits k.relation c → (kept : IsKept m durable s db k d a) →
    relation_at db k.name ≡ Some k.relation → slice_get k.relation.attachments i ≡ Some a → MayMeet kept.box (rule_instance (durable k.descriptor.method) k.name k.descriptor d) c
MayMeet-suits m durable s db k i d a c suits kept there among = record {
  keys = suits.keys;
  old = subst (λ (columns : List Column). IfSome (row_before c) (Fits columns)) same (old_fits k.relation.schema k.relation.rows c (kept.stands.lawful k.name k.relation there) suits.of);
  new = some_weaker (row_after c) (λ row. IsRow k.relation.schema row × (is_too_long k.relation row ≡ false)) (MayHold kept.box inst) (λ row may. record {
    is_row = subst (λ (columns : List Column). IsRow columns row) same may.0;
    code = λ rule spelled.
        ap (λ (columns : List Column). is_long_for columns row rule) (sym same)
        ∙ ap (is_long_for k.relation.schema row) (one_rule kept.box.rules.code inst.desc rule a.rule spelled kept.stands.spelled)
        ∙ none_long k.relation.schema row k.relation.attachments i a (last_false k.relation row may.1) among;
  }) suits.new;
}
  where
    inst : Instance
    inst = rule_instance (durable k.descriptor.method) k.name k.descriptor d

    same : k.relation.schema ≡ k.descriptor.schema
    same = schema-kept m durable s db k d a kept there
