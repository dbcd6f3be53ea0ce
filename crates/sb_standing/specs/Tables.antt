-- The catalogue of a store, and the rows of its relations.
use Rattle.std.specs.Prelude.{◌≡◌, ℕ, ◌≤◌, length, Bool, true, not, List, [], ◌∷◌, map, filter, All, Option, Some, None, T, IsUtf8, bytes_eq}
use Rattle.std.specs.List.{find}
use Rattle.std.specs.FinMap.Entries.{by_order, where_key, is_sorted}
use Rattle.std.specs.Ordering.{is_lt}
use Rattle.sb_value.specs.Order.{bytes_cmp}
use Rattle.sb_value.specs.declared.schema.Column.{Column}
use Rattle.sb_node.specs.Entries.{Entry, key_cmp, is_below}
use Rattle.sb_relation.specs.Db.{Name, Relation, Db}
use Rattle.sb_rows.specs.Maps.{map_in}
use Rattle.sb_rows.specs.Instance.{Instance}
use Rattle.sb_rows.specs.Boxes.{Meanings}
use Rattle.sb_rows.specs.Slots.{Slots, owned}
use Rattle.sb_rows.specs.Live.{HasRows}
use Rattle.sb_catalog.specs.declared.descriptor.Descriptor.{Descriptor}
use Rattle.sb_catalog.specs.Descriptors.{descriptor_spelling, IsDescriptorOf, IsStorableDescriptor}
use Rattle.sb_standing.specs.Instances.{table_instance}

-- a relation of the database with its descriptor
pub record Kept : Type 0 where
  pub name : Name
  pub descriptor : Descriptor
  pub relation : Relation

-- its entry in the catalogue's tree
abbrev pub entry_of : Kept → Entry
entry_of k = (k.name, descriptor_spelling k.descriptor)

abbrev pub db_of : List Kept → Db
db_of kept = map (λ k. (k.name, k.relation)) kept

-- the relation of a name
abbrev pub kept_at : List Kept → Name → Option Kept
kept_at kept name = find (λ k. bytes_eq k.name name) kept

-- a relation in its place by the order of names, in that of one of its name
abbrev pub put_kept : Kept → List Kept → List Kept
put_kept k [] = k ∷ []
put_kept k (o ∷ kept) = by_order (bytes_cmp k.name o.name) (k ∷ o ∷ kept) (k ∷ kept) (o ∷ put_kept k kept)

-- the relations of other names
abbrev pub without_kept : Name → List Kept → List Kept
without_kept name kept = filter (λ k. not (bytes_eq k.name name)) kept

-- the entries of other keys
abbrev pub entries_without : List ℕ → List Entry → List Entry
entries_without key entries = where_key key_cmp (λ k. not (bytes_eq k key)) entries

-- ---- the first behind a name
-- behind a name in the order of names, or anywhere
abbrev pub is_above : Option Name → Name → Bool
is_above None name = true
is_above (Some low) name = is_lt (bytes_cmp low name)

-- the same of an entry by its key, as a tree is asked
abbrev pub is_behind : Option (List ℕ) → Entry → Bool
is_behind None e = true
is_behind (Some key) e = is_below key e.0

-- the first that is kept behind a name, or of all
abbrev pub first_above : Option Name → List Kept → Option Kept
first_above low kept = find (λ k. is_above low k.name) kept

-- the relations of a database behind a name, or all
abbrev pub above : Option Name → Db → Db
above low db = filter (λ e. is_above low e.0) db

-- the first relation, with its descriptor; or there is none
abbrev pub IsFirst : Db → Option (Name × Descriptor) → Type 0
IsFirst [] None = Unit {0}
IsFirst [] (Some found) = ⊥
IsFirst (e ∷ db) None = ⊥
IsFirst (e ∷ db) (Some found) = (found.0 ≡ e.0) × IsDescriptorOf e.1 found.1

-- the relation is there with this descriptor, or neither is
abbrev pub Describes : Option Relation → Option Descriptor → Type 0
Describes None None = Unit {0}
Describes None (Some d) = ⊥
Describes (Some r) None = ⊥
Describes (Some r) (Some d) = IsDescriptorOf r d

-- ---- pages
-- all other owners have the same pages
abbrev pub KeepsOthers : ℕ → Slots → Slots → Type 0
KeepsOthers owner s t = (o : ℕ) → (o ≡ owner → ⊥) → owned t o ≡ owned s o

-- the instance of its storage method
abbrev pub table_of : (ℕ → Bool) → Kept → Instance
table_of durable k = table_instance (durable k.descriptor.method) k.name k.descriptor

-- 1 to 16 columns, so that rows can be stored
pub record IsWide (schema : List Column) : Type 0 where
  pub some : 1 ≤ length schema
  pub few : length schema ≤ 16

-- the name is a text, the descriptor is the relation's and can be stored, and the pages of a live box hold the rows
pub record KeepsTable (m : Meanings) (durable : ℕ → Bool) (s : Slots) (k : Kept) : Type 0 where
  pub is : IsDescriptorOf k.relation k.descriptor
  pub storable : IsStorableDescriptor k.descriptor
  pub named : IsUtf8 k.name
  pub wide : IsWide k.descriptor.schema
  pub rows : HasRows m s (table_of durable k) k.relation.rows

-- The catalogue, a tree of all pages of owner 2, has the relations with their descriptors, in the order of their names; and the pages of their storage methods hold the rows.
pub record Tables (m : Meanings) (durable : ℕ → Bool) (root : ℕ) (s : Slots) (kept : List Kept) : Type 0 where
  pub rising : T (is_sorted bytes_cmp (db_of kept))
  pub catalogue : map_in root (owned s 2) ≡ Some (map entry_of kept)
  pub each : All (KeepsTable m durable s) kept
