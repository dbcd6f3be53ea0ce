-- What an open relation tells of the pages that keep it.
use Rattle.std.proofs.Common.{◌≡◌, ℕ, Bool, true, false, cond, List, [], ◌∷◌, map, filter, All, Option, Some, None, bytes_eq, refl, sym, ap, ◌∙◌, subst}
use Rattle.std.proofs.lemmas.List.Elements.{All-head, All-tail}
use Rattle.std.proofs.lemmas.Option.{same_Some}
use Rattle.sb_value.specs.declared.schema.Column.{Column}
use Rattle.sb_value.specs.Equal.{bytes_same}
use Rattle.sb_rule.specs.declared.action.Action.{Action}
use Rattle.sb_relation.specs.Db.{Name, Key, Relation, Db, relation_at, rows_at, schema_at, row_at, Rows}
use Rattle.sb_relation.specs.Fits.{relation_of}
use Rattle.sb_fold.specs.Fold.{matching, wish_for}
use Rattle.sb_fold.specs.Wishes.{is_match, pairs_of}
use Rattle.sb_cascade.specs.Steps.{wish_there}
use Rattle.sb_registry.specs.Boxes.{Meanings}
use Rattle.sb_drive.specs.Slots.{Slots}
use Rattle.sb_standing.specs.Live.{HasRows}
use Rattle.sb_ctx.specs.declared.instance.Instance.{Instance}
use Rattle.sb_catalog.specs.declared.descriptor.Descriptor.{Descriptor}
use Rattle.sb_catalog.specs.Descriptors.{IsDescriptorOf}
use Rattle.sb_standing.specs.Instances.{table_instance}
use Rattle.sb_standing.specs.Tables.{Kept, KeepsTable, Tables, db_of, kept_at, table_of}
use Rattle.sb_standing.proofs.KeptLemmas.{kept_at-all, kept_at-name, relation_at-there}
use Rattle.sb_asking.specs.OpenRelation.{OpenRelation}
use Rattle.sb_asking.specs.Opened.{IsDurable}
use Rattle.sb_engine.specs.Working.{AreOpened, IsOpened, open_at}

-- ---- the open relation of a name
-- what is so of all that are open is so of it, and it has the name
pub open_at-all : (P : OpenRelation → Type 0) (opened : List OpenRelation) (name : Name) (one : OpenRelation) → All P opened → open_at opened name ≡ Some one → P one
open_at-all P [] name one all at = absurd (cc)
open_at-all P (o ∷ opened) name one all at = of_test (bytes_eq o.name name) at (λ is. open_at-all P opened name one (All-tail P o opened all) is)
  where
    of_test : (b : Bool) → cond b (Some o) (open_at opened name) ≡ Some one → (open_at opened name ≡ Some one → P one) → P one
    of_test true is rest = subst P (same_Some o one is) (All-head P o opened all)
    of_test false is rest = rest is

pub open_at-name : (opened : List OpenRelation) (name : Name) (one : OpenRelation) → open_at opened name ≡ Some one → one.name ≡ name
open_at-name [] name one at = absurd (cc)
open_at-name (o ∷ opened) name one at = of_test (bytes_eq o.name name) refl at (λ is. open_at-name opened name one is)
  where
    of_test : (b : Bool) → bytes_eq o.name name ≡ b → cond b (Some o) (open_at opened name) ≡ Some one → (open_at opened name ≡ Some one → one.name ≡ name) → one.name ≡ name
    of_test true same is rest = ap (λ (x : OpenRelation). x.name) (sym (same_Some o one is)) ∙ (bytes_same o.name name).0 same
    of_test false same is rest = rest is

-- ---- its rows
-- the pages hold the rows of the relation of this name, through the instance that is open
pub record HasOpen (m : Meanings) (s : Slots) (kept : List Kept) (name : Name) (one : OpenRelation) : Type 0 where
  pub k : Kept
  pub at : kept_at kept name ≡ Some k
  pub there : relation_at (db_of kept) name ≡ Some k.relation
  pub same : k.descriptor ≡ one.descriptor
  pub named : k.name ≡ one.name
  pub name_is : one.name ≡ name
  pub is : IsDescriptorOf k.relation one.descriptor
  pub inst : one.table ≡ table_of IsDurable k
  pub schema : one.table.schema ≡ k.relation.schema
  pub rows : HasRows m s one.table k.relation.rows

pub has_open : (m : Meanings) (root : ℕ) (s : Slots) (kept : List Kept) (opened : List OpenRelation) (name : Name) (one : OpenRelation)
    → Tables m IsDurable root s kept → AreOpened m kept opened → open_at opened name ≡ Some one → HasOpen m s kept name one
has_open m root s kept opened name one tables are at =
    let is = open_at-all (IsOpened m kept) opened name one are at in
    let name_is = open_at-name opened name one at in
    let k = is.one in
    let there : kept_at kept name ≡ Some k = ap (λ (n : Name). kept_at kept n) (sym name_is) ∙ is.at in
    let table = kept_at-all (KeepsTable m IsDurable s) kept name k tables.each there in
    let named : k.name ≡ one.name = kept_at-name kept one.name k is.at in
    let inst : one.table ≡ table_of IsDurable k = is.is.table ∙ ap (λ (n : Name). table_instance true n one.descriptor) (sym named) ∙ ap (λ (d : Descriptor). table_instance true k.name d) (sym is.same) in
    let described : IsDescriptorOf k.relation one.descriptor = subst (λ (d : Descriptor). IsDescriptorOf k.relation d) is.same table.is in
    record {
      k = k;
      at = there;
      there = relation_at-there kept name k there;
      same = is.same;
      named = named;
      name_is = name_is;
      is = described;
      inst = inst;
      schema = ap (λ (i : Instance). i.schema) is.is.table ∙ described.schema;
      rows = subst (λ (i : Instance). HasRows m s i k.relation.rows) (sym inst) table.rows;
    }

-- ---- what is asked of its rows
rows_there : (db : Db) (name : Name) (r : Relation) → relation_at db name ≡ Some r → rows_at db name ≡ r.rows
rows_there db name r there = ap (λ (o : Option Relation). elim o as (λ _. Rows) [ None ↦ [] | Some r ↦ r.rows ]) there

pub schema_there : (db : Db) (name : Name) (r : Relation) → relation_at db name ≡ Some r → schema_at db name ≡ r.schema
schema_there db name r there = ap (λ (o : Option Relation). elim o as (λ _. List Column) [ None ↦ [] | Some r ↦ r.schema ]) there

pub matching-there : (db : Db) (a : Action) (r : Relation) (schema : List Column) → relation_at db (relation_of a) ≡ Some r → schema ≡ r.schema
    → map (λ row. row.0) (filter (λ row. is_match schema (pairs_of a) row.1) r.rows) ≡ matching db a
matching-there db a r schema there same =
    ap (λ (columns : List Column). map (λ row. row.0) (filter (λ row. is_match columns (pairs_of a) row.1) r.rows)) (same ∙ sym (schema_there db (relation_of a) r there))
    ∙ ap (λ rows. map (λ row. row.0) (filter (λ row. is_match (schema_at db (relation_of a)) (pairs_of a) row.1) rows)) (sym (rows_there db (relation_of a) r there))

pub wish_there-there : (db : Db) (a : Action) (key : Key) (r : Relation) (schema : List Column) → relation_at db (relation_of a) ≡ Some r → schema ≡ r.schema
    → wish_for schema a key (row_at r.rows key) ≡ wish_there db a key
wish_there-there db a key r schema there same =
    ap (λ (columns : List Column). wish_for columns a key (row_at r.rows key)) (same ∙ sym (schema_there db (relation_of a) r there))
    ∙ ap (λ rows. wish_for (schema_at db (relation_of a)) a key (row_at rows key)) (sym (rows_there db (relation_of a) r there))
