-- The record keys that a find answers, by the relation that is found.
use Rattle.std.proofs.Common.{◌≡◌, ℕ, true, false, cond, List, [], map, filter, Option, Some, None, option_map, is_none, refl, sym, ap, subst, ◌∙◌}
use Rattle.std.proofs.lemmas.Bool.{cond-true, cond-false}
use Rattle.std.proofs.lemmas.Option.{same_Some}
use Rattle.sb_value.specs.declared.value.Value.{Value}
use Rattle.sb_value.specs.declared.schema.Column.{Column}
use Rattle.sb_relation.specs.Db.{Name, Key, Rows, Relation, Db, relation_at}
use Rattle.sb_relation.specs.Fits.{first_unnamed, places_in}
use Rattle.sb_relation.specs.Rules.{has_values}
use Rattle.sb_ctx.specs.declared.instance.Instance.{Instance}
use Rattle.sb_ctx.specs.View.{keys_with}
use Rattle.sb_registry.specs.Boxes.{Meanings}
use Rattle.sb_drive.specs.Slots.{Slots}
use Rattle.sb_opened.specs.Live.{HasRows}
use Rattle.sb_catalog.specs.declared.descriptor.Descriptor.{Descriptor}
use Rattle.sb_opened.specs.Instances.{table_instance}
use Rattle.sb_opened.specs.Tables.{Kept, KeepsTable, Tables, db_of, kept_at, table_of}
use Rattle.sb_opened.proofs.KeptLemmas.{kept_at-all, kept_at-name, relation_at-kept, relation_at-there}
use Rattle.sb_opened.specs.declared.relation.OpenRelation.{OpenRelation}
use Rattle.sb_opened.specs.Opened.{IsDurable, IsOpen}

-- ---- keys by the relation that is found
abbrev schema_in : Option Relation → List Column
schema_in o = elim o [ None ↦ [] | Some r ↦ r.schema ]

abbrev rows_in : Option Relation → Rows
rows_in o = elim o [ None ↦ [] | Some r ↦ r.rows ]

-- the keys of those rows that have these values
abbrev pub keys_of : List Column → List Name → List Value → Rows → List Key
keys_of schema columns values rows = map (λ row. row.0) (filter (λ row. has_values schema columns values row.1) rows)

abbrev keys_in : List Name → List Value → Option Relation → List Key
keys_in columns values o = cond (is_none (first_unnamed (places_in (schema_in o) columns))) (keys_of (schema_in o) columns values (rows_in o)) []

keys_in-none : (columns : List Name) (values : List Value) → keys_in columns values None ≡ []
keys_in-none columns values = elim (is_none (first_unnamed (places_in [] columns))) as (λ b. ◌≡◌ {A = List Key} (cond b [] []) []) [ true ↦ refl | false ↦ refl ]

-- none without the relation
pub keys_with-none : (db : Db) (name : Name) (columns : List Name) (values : List Value) → relation_at db name ≡ None → keys_with db name columns values ≡ []
keys_with-none db name columns values none = ap (keys_in columns values) none ∙ keys_in-none columns values

-- nor where a column isn't there
pub keys_with-unnamed : (db : Db) (name : Name) (r : Relation) (columns : List Name) (values : List Value) → relation_at db name ≡ Some r → is_none (first_unnamed (places_in r.schema columns)) ≡ false → keys_with db name columns values ≡ []
keys_with-unnamed db name r columns values there unnamed =
    ap (keys_in columns values) there ∙ cond-false (is_none (first_unnamed (places_in r.schema columns))) (keys_of r.schema columns values r.rows) [] unnamed

pub keys_with-named : (db : Db) (name : Name) (r : Relation) (columns : List Name) (values : List Value) → relation_at db name ≡ Some r → is_none (first_unnamed (places_in r.schema columns)) ≡ true →
    keys_with db name columns values ≡ keys_of r.schema columns values r.rows
keys_with-named db name r columns values there named =
    ap (keys_in columns values) there ∙ cond-true (is_none (first_unnamed (places_in r.schema columns))) (keys_of r.schema columns values r.rows) [] named

-- ---- a relation that was opened
-- it is the one of this name, and its table holds the rows
pub record IsAt (m : Meanings) (s : Slots) (kept : List Kept) (name : Name) (o : OpenRelation) : Type 0 where
  pub k : Kept
  pub there : relation_at (db_of kept) name ≡ Some k.relation
  pub rows : HasRows m s o.table k.relation.rows
  pub schema : o.table.schema ≡ k.relation.schema

described_at : (o : Option Kept) (d : Descriptor) → Some d ≡ option_map (λ (k : Kept). k.descriptor) o → (k : Kept) × (o ≡ Some k) × (d ≡ k.descriptor)
described_at None d is = absurd (cc)
described_at (Some k) d is = (k, refl, same_Some d k.descriptor is)

pub IsAt-opened : (m : Meanings) (root : ℕ) (s : Slots) (kept : List Kept) (name : Name) (o : OpenRelation) → Tables m IsDurable root s kept → IsOpen m o → o.name ≡ name →
    Some o.descriptor ≡ option_map (λ (k : Kept). k.descriptor) (kept_at kept name) → IsAt m s kept name o
IsAt-opened m root s kept name o tables opened named found = record {
  k = k;
  there = relation_at-there kept name k at.1;
  rows = subst (λ (inst : Instance). HasRows m s inst k.relation.rows) (sym same) keeps.rows;
  schema = ap (λ (inst : Instance). inst.schema) same ∙ keeps.is.schema;
}
  where
    at : (k : Kept) × (kept_at kept name ≡ Some k) × (o.descriptor ≡ k.descriptor)
    at = described_at (kept_at kept name) o.descriptor found

    k : Kept
    k = at.0

    keeps : KeepsTable m IsDurable s k
    keeps = kept_at-all (KeepsTable m IsDurable s) kept name k tables.each at.1

    names : o.name ≡ k.name
    names = named ∙ sym (kept_at-name kept name k at.1)

    same : o.table ≡ table_of IsDurable k
    same = opened.table ∙ (λ i. table_instance true (names i) (at.2 i))

none_at : (o : Option Kept) → None ≡ option_map (λ (k : Kept). k.descriptor) o → o ≡ None
none_at None is = refl
none_at (Some k) is = absurd (cc)

-- there is none
pub keys_with-unopened : (kept : List Kept) (name : Name) (columns : List Name) (values : List Value) → None ≡ option_map (λ (k : Kept). k.descriptor) (kept_at kept name) → keys_with (db_of kept) name columns values ≡ []
keys_with-unopened kept name columns values found =
    keys_with-none (db_of kept) name columns values (relation_at-kept kept name ∙ ap (option_map (λ (k : Kept). k.relation)) (none_at (kept_at kept name) found))

-- a column of the opened one isn't there
pub keys_with-columnless : (m : Meanings) (s : Slots) (kept : List Kept) (name : Name) (o : OpenRelation) (columns : List Name) (values : List Value) → IsAt m s kept name o →
    is_none (first_unnamed (places_in o.table.schema columns)) ≡ false → keys_with (db_of kept) name columns values ≡ []
keys_with-columnless m s kept name o columns values at unnamed =
    keys_with-unnamed (db_of kept) name at.k.relation columns values at.there (subst (λ (schema : List Column). is_none (first_unnamed (places_in schema columns)) ≡ false) at.schema unnamed)

-- all are
pub keys_with-opened : (m : Meanings) (s : Slots) (kept : List Kept) (name : Name) (o : OpenRelation) (columns : List Name) (values : List Value) (at : IsAt m s kept name o) →
    is_none (first_unnamed (places_in o.table.schema columns)) ≡ true → keys_with (db_of kept) name columns values ≡ keys_of o.table.schema columns values at.k.relation.rows
keys_with-opened m s kept name o columns values at named =
    keys_with-named (db_of kept) name at.k.relation columns values at.there (subst (λ (schema : List Column). is_none (first_unnamed (places_in schema columns)) ≡ true) at.schema named)
    ∙ ap (λ (schema : List Column). keys_of schema columns values at.k.relation.rows) (sym at.schema)
