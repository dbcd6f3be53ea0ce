-- Relations and rules that come and go, and what stands then.
use Rattle.std.specs.Prelude.{◌≡◌, ℕ, ◌<◌, Bool, false, not, List, [], ◌∷◌, ◌++◌, map, Some, None, IsUtf8, bytes_eq}
use Rattle.std.specs.FinMap.Entries.{put, where_key}
use Rattle.sb_value.specs.Order.{bytes_cmp}
use Rattle.sb_node.specs.Entries.{key_cmp}
use Rattle.sb_rule.specs.declared.rule.Rule.{Rule}
use Rattle.sb_relation.specs.Build.{mirror_of, with_attached, with_rule}
use Rattle.sb_relation.specs.Buckets.{standing_buckets}
use Rattle.sb_relation.specs.Db
use Rattle.sb_relation.specs.Db.{Name, with_relation}
use Rattle.sb_rows.specs.Maps.{map_in}
use Rattle.sb_rows.specs.Boxes.{Meanings}
use Rattle.sb_rows.specs.Slots.{Slots, owned}
use Rattle.sb_rows.specs.Live.{HasRows}
use Rattle.sb_catalog.specs.declared.descriptor.Attached.{Attached}
use Rattle.sb_catalog.specs.Descriptors.{descriptor_spelling, described, standing, IsDescriptorOf, IsStorableDescriptor}
use Rattle.sb_standing.specs.Instances.{owners_of}
use Rattle.sb_standing.specs.Tables.{IsWide, Kept, entry_of, db_of, kept_at, put_kept, without_kept, entries_without, KeepsOthers, table_of}
use Rattle.sb_standing.specs.Standing.{IsKept, is_join, IsUnnamed, attached_kept, detached_kept, owners_named, IsOwner, Keeps}

-- ---- a relation that comes
-- the owner had no page, and of other owners only the catalogue's pages change
pub record Comes (s t : Slots) (owner : ℕ) : Type 0 where
  pub is : IsOwner owner
  pub none : (n : ℕ) → owned s owner n ≡ []
  pub others : (o : ℕ) → (o ≡ owner → ⊥) → (o ≡ 2 → ⊥) → owned t o ≡ owned s o

-- a relation of a new name, without rows and attachments, has pages of a new owner and its entry in the catalogue
pub record Created (m : Meanings) (durable : ℕ → Bool) (root : ℕ) (s t : Slots) (kept : List Kept) (k : Kept) : Type 0 where
  pub new : kept_at kept k.name ≡ None
  pub rows : k.relation.rows ≡ []
  pub attachments : k.relation.attachments ≡ []
  pub is : IsDescriptorOf k.relation k.descriptor
  pub storable : IsStorableDescriptor k.descriptor
  pub named : IsUtf8 k.name
  pub wide : IsWide k.descriptor.schema
  pub comes : Comes s t k.descriptor.owner
  pub has : HasRows m t (table_of durable k) []
  pub catalogue : map_in root (owned t 2) ≡ Some (put key_cmp k.name (descriptor_spelling k.descriptor) (map entry_of kept))

-- what stands, stands with it
abbrev pub CreatedKeeps : Type 0
CreatedKeeps =
    (m : Meanings) (durable : ℕ → Bool) (root : ℕ) (s t : Slots) (gone : List ℕ) (kept : List Kept) (k : Kept)
    → Keeps m durable root s gone kept → Created m durable root s t kept k → Keeps m durable root t gone (put_kept k kept)

-- the database is the one with the relation, whether or not one of its name was there
abbrev pub PutDb : Type 0
PutDb = (k : Kept) (kept : List Kept) → db_of (put_kept k kept) ≡ with_relation (db_of kept) k.name k.relation

-- ---- a relation that goes
-- a relation that no rule of another names has no entry in the catalogue any more, and all other pages stay
pub record Dropped (root : ℕ) (s t : Slots) (kept : List Kept) (name : Name) (k : Kept) : Type 0 where
  pub there : kept_at kept name ≡ Some k
  pub unnamed : IsUnnamed name kept
  pub others : KeepsOthers 2 s t
  pub catalogue : map_in root (owned t 2) ≡ Some (entries_without name (map entry_of kept))

-- what stands, stands without it and its attachments, whose pages are to go
abbrev pub DroppedKeeps : Type 0
DroppedKeeps =
    (m : Meanings) (durable : ℕ → Bool) (root : ℕ) (s t : Slots) (gone : List ℕ) (kept : List Kept) (name : Name) (k : Kept)
    → Keeps m durable root s gone kept → Dropped root s t kept name k
    → Keeps m durable root t (gone ++ owners_of k.descriptor) (without_kept name kept)

abbrev pub DroppedDb : Type 0
DroppedDb = (name : Name) (kept : List Kept) → db_of (without_kept name kept) ≡ where_key bytes_cmp (λ other. not (bytes_eq other name)) (db_of kept)

-- ---- a rule that comes
-- A rule that is no join is kept over the database with it, by an instance of a new owner or of none. The catalogue has the new descriptor.
pub record Attaches (m : Meanings) (durable : ℕ → Bool) (root : ℕ) (s t : Slots) (kept : List Kept) (k : Kept) (d : Attached) (a : Db.Attached)
    : Type 0 where
  pub there : kept_at kept k.name ≡ Some k
  pub joinless : is_join a.rule ≡ false
  pub is : described d ≡ standing a
  pub storable : IsStorableDescriptor (attached_kept d a k).descriptor
  pub comes : Comes s t d.owner
  pub keeps : IsKept m durable t (db_of (put_kept (attached_kept d a k) kept)) k d a
  pub catalogue : map_in root (owned t 2) ≡ Some (put key_cmp k.name (descriptor_spelling (attached_kept d a k).descriptor) (map entry_of kept))

abbrev pub AttachedKeeps : Type 0
AttachedKeeps =
    (m : Meanings) (durable : ℕ → Bool) (root : ℕ) (s t : Slots) (gone : List ℕ) (kept : List Kept) (k : Kept) (d : Attached) (a : Db.Attached)
    → Keeps m durable root s gone kept → Attaches m durable root s t kept k d a → Keeps m durable root t gone (put_kept (attached_kept d a k) kept)

-- a rule that is kept over the database before is kept over the one with it
abbrev pub AttachedKept : Type 0
AttachedKept =
    (m : Meanings) (durable : ℕ → Bool) (s : Slots) (kept : List Kept) (k : Kept) (d : Attached) (a : Db.Attached) → kept_at kept k.name ≡ Some k
    → IsKept m durable s (db_of kept) k d a → IsKept m durable s (db_of (put_kept (attached_kept d a k) kept)) k d a

-- the database is the one with the attachment
abbrev pub AttachedDb : Type 0
AttachedDb =
    (kept : List Kept) (k : Kept) (d : Attached) (a : Db.Attached) → kept_at kept k.name ≡ Some k
    → a.buckets ≡ standing_buckets a.rule k.relation.rows → db_of (put_kept (attached_kept d a k) kept) ≡ with_attached (db_of kept) k.name a.name a.rule

-- which is the one with the rule, where that has no mirror
abbrev pub AloneDb : Type 0
AloneDb =
    (db : Db.Db) (relation name : Name) (rule : Rule) → mirror_of relation rule ≡ None
    → with_rule db relation name rule ≡ with_attached db relation name rule

-- ---- rules that go
-- the catalogue has the relation's descriptor without the attachments of a name, and all other pages stay
pub record Detaches (root : ℕ) (s t : Slots) (kept : List Kept) (k : Kept) (label : Name) : Type 0 where
  pub there : kept_at kept k.name ≡ Some k
  pub others : KeepsOthers 2 s t
  pub catalogue : map_in root (owned t 2) ≡ Some (put key_cmp k.name (descriptor_spelling (detached_kept label k).descriptor) (map entry_of kept))

-- what stands, stands without them, and their pages are to go
abbrev pub DetachedKeeps : Type 0
DetachedKeeps =
    (m : Meanings) (durable : ℕ → Bool) (root : ℕ) (s t : Slots) (gone : List ℕ) (kept : List Kept) (k : Kept) (label : Name)
    → Keeps m durable root s gone kept → Detaches root s t kept k label
    → Keeps m durable root t (gone ++ owners_named label k.descriptor) (put_kept (detached_kept label k) kept)

-- ---- pages that go
-- the pages of one owner, and no others, are nobody's
pub record Freed (s t : Slots) (owner : ℕ) : Type 0 where
  pub none : (n : ℕ) → owned t owner n ≡ []
  pub others : KeepsOthers owner s t

-- what stands, stands once the pages of an owner that was to go have gone
abbrev pub FreedKeeps : Type 0
FreedKeeps =
    (m : Meanings) (durable : ℕ → Bool) (root : ℕ) (s t : Slots) (owner : ℕ) (gone : List ℕ) (kept : List Kept)
    → Keeps m durable root s (owner ∷ gone) kept → Freed s t owner → Keeps m durable root t gone kept

-- ---- pages that stay
-- what stands, stands where the pages of the catalogue and of all owners behind it stay
abbrev pub StaysKeeps : Type 0
StaysKeeps =
    (m : Meanings) (durable : ℕ → Bool) (root : ℕ) (s t : Slots) (gone : List ℕ) (kept : List Kept) → ((o : ℕ) → 1 < o → owned t o ≡ owned s o)
    → Keeps m durable root s gone kept → Keeps m durable root t gone kept

-- ---- a new store
-- an empty catalogue and no other pages stand for no relations
abbrev pub NewKeeps : Type 0
NewKeeps =
    (m : Meanings) (durable : ℕ → Bool) (root : ℕ) (s : Slots) → map_in root (owned s 2) ≡ Some [] → ((o : ℕ) → 2 < o → (n : ℕ) → owned s o n ≡ [])
    → Keeps m durable root s [] []
