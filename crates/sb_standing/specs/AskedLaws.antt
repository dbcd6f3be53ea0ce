-- Laws of a change that is asked of attachments.
use Rattle.std.specs.Prelude.{◌≡◌, ℕ, ◌+◌, ◌≤◌, Bool, List, T, length, Some}
use Rattle.std.specs.List.{slice_get}
use Rattle.std.specs.FinMap.Entries.{is_sorted}
use Rattle.sb_value.specs.Order.{bytes_cmp}
use Rattle.sb_rule.specs.declared.change.Change.{Change}
use Rattle.sb_relation.specs.Changes.{changed, changed_rows}
use Rattle.sb_relation.specs.Db
use Rattle.sb_relation.specs.Db.{Name}
use Rattle.sb_rows.specs.Instance.{Instance}
use Rattle.sb_rows.specs.View.{View, FoundIn}
use Rattle.sb_rows.specs.Attachment.{MayMeet}
use Rattle.sb_rows.specs.AttachAnswers.{Holds, BeforeChange, content_after}
use Rattle.sb_rows.specs.Boxes.{Meanings}
use Rattle.sb_rows.specs.Slots.{Slots, owned}
use Rattle.sb_rows.specs.Live.{HasRows}
use Rattle.sb_catalog.specs.declared.descriptor.Attached.{Attached}
use Rattle.sb_standing.specs.Instances.{rule_instance}
use Rattle.sb_standing.specs.Tables.{Kept, KeepsOthers, db_of, kept_at, table_of}
use Rattle.sb_standing.specs.Standing.{IsKept, Keeps}
use Rattle.sb_standing.specs.Asked.{Suits, Asks, changed_kept}

-- the instance of an attachment
abbrev pub rule_of : (ℕ → Bool) → Kept → Attached → Instance
rule_of durable k d = rule_instance (durable k.descriptor.method) k.name k.descriptor d

-- a call of the storage method changed the rows of the relation, by a change that suits it
pub record HasPut (m : Meanings) (durable : ℕ → Bool) (s t : Slots) (k : Kept) (c : Change) : Type 0 where
  pub suits : Suits k.relation c
  pub others : KeepsOthers k.descriptor.owner s t
  pub rows : HasRows m t (table_of durable k) (changed_rows k.relation.rows c)

-- an attachment is kept over the database before and may meet the change, and what its call presupposes is so, whatever it finds in the changed one
pub record CanAsk (m : Meanings) (durable : ℕ → Bool) (s : Slots) (before : Db.Db) (name : Name) (c : Change) (k : Kept) (d : Attached)
    (a : Db.Attached) : Type 0 where
  pub kept : IsKept m durable s before k d a
  pub meets : MayMeet kept.box (rule_of durable k d) c
  pub of : (view : View) → FoundIn view (changed before name c)
      → BeforeChange kept.box (rule_of durable k d) a.rule before a.buckets c view (owned s d.owner)

-- an attachment was asked: its pages hold the content over the changed database, and those of other owners stay
pub record HasAsked (m : Meanings) (durable : ℕ → Bool) (s t : Slots) (before : Db.Db) (c : Change) (k : Kept) (d : Attached)
    (a : Db.Attached) : Type 0 where
  pub kept : IsKept m durable s before k d a
  pub others : KeepsOthers d.owner s t
  pub holds : Holds kept.box (rule_of durable k d) (owned t d.owner)
      (content_after kept.box (rule_of durable k d) a.rule before a.buckets c)

-- ---- laws
-- with its rows changed, none of a relation's attachments is asked yet
abbrev pub PutAsksNone : Type 0
PutAsksNone =
    (m : Meanings) (durable : ℕ → Bool) (root : ℕ) (s t : Slots) (gone : List ℕ) (kept : List Kept) (name : Name) (k : Kept) (c : Change)
    → Keeps m durable root s gone kept → kept_at kept name ≡ Some k → HasPut m durable s t k c → Asks m durable root t gone kept name c 0

-- a relation has as many attachments as its descriptor
abbrev pub HasAsMany : Type 0
HasAsMany =
    (m : Meanings) (durable : ℕ → Bool) (root : ℕ) (s : Slots) (gone : List ℕ) (before : List Kept) (name : Name) (c : Change) (i : ℕ) (k : Kept)
    → Asks m durable root s gone before name c i → kept_at before name ≡ Some k → length k.descriptor.attachments ≡ length k.relation.attachments

-- the next one can be asked
abbrev pub NextCanAsk : Type 0
NextCanAsk =
    (m : Meanings) (durable : ℕ → Bool) (root : ℕ) (s : Slots) (gone : List ℕ) (before : List Kept) (name : Name) (c : Change) (i : ℕ)
    (k : Kept) (d : Attached)
    → Asks m durable root s gone before name c i → kept_at before name ≡ Some k → slice_get k.descriptor.attachments i ≡ Some d
    → (a : Db.Attached) × (slice_get k.relation.attachments i ≡ Some a) × CanAsk m durable s (db_of before) name c k d a

-- with the next one asked, one more is
abbrev pub AskedAsksMore : Type 0
AskedAsksMore =
    (m : Meanings) (durable : ℕ → Bool) (root : ℕ) (s t : Slots) (gone : List ℕ) (before : List Kept) (name : Name) (c : Change) (i : ℕ)
    (k : Kept) (d : Attached) (a : Db.Attached)
    → Asks m durable root s gone before name c i → kept_at before name ≡ Some k → slice_get k.descriptor.attachments i ≡ Some d
    → slice_get k.relation.attachments i ≡ Some a → HasAsked m durable s t (db_of before) c k d a → Asks m durable root t gone before name c (i + 1)

-- with all of them asked, the store stands for the changed relations
abbrev pub AllAskedKeeps : Type 0
AllAskedKeeps =
    (m : Meanings) (durable : ℕ → Bool) (root : ℕ) (s : Slots) (gone : List ℕ) (before : List Kept) (name : Name) (c : Change) (i : ℕ) (k : Kept)
    → Asks m durable root s gone before name c i → kept_at before name ≡ Some k → length k.descriptor.attachments ≤ i
    → Keeps m durable root s gone (changed_kept name c before)

-- and these are the changed database
abbrev pub ChangedIsDb : Type 0
ChangedIsDb =
    (name : Name) (c : Change) (kept : List Kept) → T (is_sorted bytes_cmp (db_of kept))
    → db_of (changed_kept name c kept) ≡ changed (db_of kept) name c

-- each owner has the same pages
abbrev pub ArePages : Slots → Slots → Type 0
ArePages s t = (o : ℕ) → owned t o ≡ owned s o

-- what changes no pages changes nothing of it
abbrev pub SamePagesKeep : Type 0
SamePagesKeep =
    (m : Meanings) (durable : ℕ → Bool) (root : ℕ) (s t : Slots) (gone : List ℕ) (kept : List Kept) → ArePages s t
    → Keeps m durable root s gone kept → Keeps m durable root t gone kept

abbrev pub SamePagesAsk : Type 0
SamePagesAsk =
    (m : Meanings) (durable : ℕ → Bool) (root : ℕ) (s t : Slots) (gone : List ℕ) (before : List Kept) (name : Name) (c : Change) (i : ℕ)
    → ArePages s t
    → Asks m durable root s gone before name c i → Asks m durable root t gone before name c i
