-- What the entries of the catalogue tell of the database.
use Rattle.std.specs.Prelude.{◌≡◌, ℕ, Bool, List, map, Option, Some, None}
use Rattle.std.specs.List.{find as first}
use Rattle.std.specs.FinMap.Entries.{find}
use Rattle.sb_node.specs.Entries.{Entry, key_cmp}
use Rattle.sb_relation.specs.Db.{Name, relation_at}
use Rattle.sb_rows.specs.Boxes.{Meanings}
use Rattle.sb_rows.specs.Slots.{Slots}
use Rattle.sb_catalog.specs.declared.descriptor.Descriptor.{Descriptor}
use Rattle.sb_catalog.specs.Descriptors.{descriptor_spelling, IsStorableDescriptor}
use Rattle.sb_standing.specs.Tables.{Kept, entry_of, db_of, kept_at, is_behind, first_above, above, IsFirst, Describes, Tables}

-- ---- the entry of a name
-- these bytes spell the descriptor of the relation of the name, and of no other descriptor that can be stored
pub record IsEntry (kept : List Kept) (name : Name) (bytes : List ℕ) : Type 0 where
  pub one : Kept
  pub at : kept_at kept name ≡ Some one
  pub storable : IsStorableDescriptor one.descriptor
  pub spelled : bytes ≡ descriptor_spelling one.descriptor
  pub only : (d : Descriptor) → IsStorableDescriptor d → bytes ≡ descriptor_spelling d → d ≡ one.descriptor
  pub describes : Describes (relation_at (db_of kept) name) (Some one.descriptor)

abbrev pub EntriesTell : Type 0
EntriesTell =
    (m : Meanings) (durable : ℕ → Bool) (root : ℕ) (s : Slots) (kept : List Kept) (name : Name) (bytes : List ℕ)
    → Tables m durable root s kept → find key_cmp name (map entry_of kept) ≡ Some bytes → IsEntry kept name bytes

-- without an entry there is no relation
pub record HasNoEntry (kept : List Kept) (name : Name) : Type 0 where
  pub none : kept_at kept name ≡ None
  pub describes : Describes (relation_at (db_of kept) name) None

abbrev pub MissingTell : Type 0
MissingTell = (kept : List Kept) (name : Name) → find key_cmp name (map entry_of kept) ≡ None → HasNoEntry kept name

-- ---- the first entry behind a name
-- it is that of the first relation behind the name
pub record IsFirstEntry (low : Option Name) (kept : List Kept) (e : Entry) : Type 0 where
  pub one : Kept
  pub at : first_above low kept ≡ Some one
  pub name : e.0 ≡ one.name
  pub storable : IsStorableDescriptor one.descriptor
  pub spelled : e.1 ≡ descriptor_spelling one.descriptor
  pub only : (d : Descriptor) → IsStorableDescriptor d → e.1 ≡ descriptor_spelling d → d ≡ one.descriptor
  pub is_first : IsFirst (above low (db_of kept)) (Some (e.0, one.descriptor))

abbrev pub FirstTells : Type 0
FirstTells =
    (m : Meanings) (durable : ℕ → Bool) (root : ℕ) (s : Slots) (kept : List Kept) (low : Option Name) (e : Entry)
    → Tables m durable root s kept → first (is_behind low) (map entry_of kept) ≡ Some e → IsFirstEntry low kept e

-- without one there is no relation behind the name
abbrev pub LastTells : Type 0
LastTells =
    (m : Meanings) (durable : ℕ → Bool) (root : ℕ) (s : Slots) (kept : List Kept) (low : Option Name)
    → Tables m durable root s kept → first (is_behind low) (map entry_of kept) ≡ None → IsFirst (above low (db_of kept)) None
