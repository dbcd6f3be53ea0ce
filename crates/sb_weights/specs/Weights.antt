-- How many pages a store has for a database, against what the database needs.
use Rattle.std.specs.Prelude.{◌≡◌, ℕ, ◌+◌, ◌<◌, ◌≤◌, Bool, true, List, ◌∷◌, ◌++◌, length, All, Some, None, sum, max}
use Rattle.std.specs.List.{slice_get}
use Rattle.sb_rule.specs.declared.change.Change.{Change}
use Rattle.sb_rule.specs.declared.rule.Rule.{Rule}
use Rattle.sb_relation.specs.Changes.{changed, changed_rows}
use Rattle.sb_relation.specs.Db
use Rattle.sb_relation.specs.Db.{Name, Rows, Db}
use Rattle.sb_fold.specs.Extensions.{Extensions, is_durable_method}
use Rattle.sb_fold.specs.Need.{need}
use Rattle.sb_fold.specs.Outcome.{Gone, Reached}
use Rattle.sb_forms.specs.Pages.{ArePages, page_count}
use Rattle.sb_ctx.specs.declared.calls.AttachCall.TheVariants.{Changed}
use Rattle.sb_ctx.specs.declared.instance.Instance.{Instance}
use Rattle.sb_ctx.specs.AttachAnswers.{content_after, content_over, most_pages}
use Rattle.sb_ctx.specs.Attachment.{Attachment}
use Rattle.sb_ctx.specs.Method.{Method}
use Rattle.sb_ctx.specs.View.{nothing}
use Rattle.sb_relation.specs.Keys.{Counted, keying_of}
use Rattle.sb_registry.specs.Boxes.{Meanings, method_of, attachment_of}
use Rattle.sb_drive.specs.Slots.{Slots, owned}
use Rattle.sb_drive.specs.Spaces.{AreUsed}
use Rattle.sb_room.specs.Owned.{pages_of, IsTabled}
use Rattle.sb_catalog.specs.declared.descriptor.Attached.{Attached}
use Rattle.sb_standing.specs.Asked.{Asks}
use Rattle.sb_standing.specs.AskedLaws.{rule_of}
use Rattle.sb_standing.specs.Standing.{Keeps, owners_in}
use Rattle.sb_standing.specs.Lacking.{IsShort}
use Rattle.sb_standing.specs.Tables.{Kept, Tables, db_of, kept_at}
use Rattle.sb_weights.specs.Rooms.{extensions_of}

-- ---- relations and owners
-- all relations outlive the run
abbrev pub AreMeant : Extensions → List Kept → Type 0
AreMeant ext kept = All (λ k. is_durable_method ext k.relation.method ≡ true) kept

-- the owners of a store: the catalogue's, those of instances, and those of what is gone
abbrev pub owners_with : List Kept → List ℕ → List ℕ
owners_with kept gone = 2 ∷ owners_in kept ++ gone

-- the most pages of a storage method during a call that makes a change of these rows
abbrev pub most_changed : Method → Rows → Change → ℕ
most_changed box rows c = max (box.bound (length rows)) (box.bound (length (changed_rows rows c)))

-- the most pages of an attachment during a call that asks it of a change
abbrev pub most_asked : Attachment → Instance → Rule → Db → ℕ → Change → ℕ
most_asked box inst rule db buckets c =
    most_pages box (Changed c) (content_over box inst rule db buckets) (content_after box inst rule db buckets c)

-- ---- points
-- a database at rest, with pages held aside
abbrev pub resting : Db → Gone → ℕ → Reached
resting db aside spent = record { before = db; after = db; change = None; aside = aside; spent = spent }

-- and with a change of one relation
abbrev pub changing : Db → Name → Change → Gone → ℕ → Reached
changing db name c aside spent =
    record { before = db; after = changed db name c; change = Some (name, c); aside = aside; spent = spent }

-- ---- laws
-- The pages of a store at rest are within its need.
abbrev pub RestIsWithin : Type 0
RestIsWithin =
    (m : Meanings) (durable : ℕ → Bool) (root : ℕ) (s : Slots) (gone : List ℕ) (kept : List Kept) (aside : Gone) (spent : ℕ)
    → AreMeant (extensions_of m) kept → ((o : ℕ) → ArePages (owned s o)) → Keeps m durable root s gone kept
    → pages_of s gone ≤ sum aside.durable
    → pages_of s (owners_with kept gone) ≤ need (extensions_of m) true (resting (db_of kept) aside spent)

-- Where all pages are used, and none is held as a fresh one, there are no more than those that the space takes for itself and the need together.
abbrev pub FullIsNeeded : Type 0
FullIsNeeded =
    (m : Meanings) (durable : ℕ → Bool) (root : ℕ) (s : Slots) (gone : List ℕ) (kept : List Kept) (aside : Gone) (spent : ℕ)
    → AreMeant (extensions_of m) kept → ((o : ℕ) → ArePages (owned s o)) → Keeps m durable root s gone kept
    → pages_of s gone ≤ sum aside.durable
    → (total table used of : ℕ) → total ≤ 65536 → IsTabled table s → AreUsed total s nothing used of
    → total ≤ table + page_count (owned s 1) + need (extensions_of m) true (resting (db_of kept) aside spent)

-- With the fresh pages of a call of the storage method that is within its room, the pages are within the need of the change that it makes.
abbrev pub ChangeIsWithin : Type 0
ChangeIsWithin =
    (m : Meanings) (durable : ℕ → Bool) (root : ℕ) (s : Slots) (gone : List ℕ) (kept : List Kept) (aside : Gone) (spent : ℕ)
    (name : Name) (k : Kept) (c : Change) (box : Method) (fresh : ℕ)
    → AreMeant (extensions_of m) kept → ((o : ℕ) → ArePages (owned s o)) → Keeps m durable root s gone kept
    → pages_of s gone ≤ sum aside.durable
    → kept_at kept name ≡ Some k → method_of k.descriptor.method m.methods ≡ Some box
    → page_count (owned s k.descriptor.owner) + fresh < most_changed box k.relation.rows c
    → pages_of s (owners_with kept gone) + fresh ≤ need (extensions_of m) true (changing (db_of kept) name c aside spent)

-- So where no page is left for the call, there are no more than those that the space takes for itself and the need together.
abbrev pub ChangeIsFull : Type 0
ChangeIsFull =
    (m : Meanings) (durable : ℕ → Bool) (root : ℕ) (s : Slots) (gone : List ℕ) (kept : List Kept) (aside : Gone) (spent : ℕ)
    (name : Name) (k : Kept) (c : Change) (box : Method) (table total : ℕ)
    → AreMeant (extensions_of m) kept → ((o : ℕ) → ArePages (owned s o)) → Keeps m durable root s gone kept
    → pages_of s gone ≤ sum aside.durable
    → kept_at kept name ≡ Some k → method_of k.descriptor.method m.methods ≡ Some box
    → total ≤ 65536 → IsTabled table s → IsShort s k.descriptor.owner (most_changed box k.relation.rows c) total
    → total ≤ table + page_count (owned s 1) + need (extensions_of m) true (changing (db_of kept) name c aside spent)

-- While its attachments are asked of a change, the pages are within the need of this change.
abbrev pub AskedIsWithin : Type 0
AskedIsWithin =
    (m : Meanings) (durable : ℕ → Bool) (root : ℕ) (s : Slots) (gone : List ℕ) (before : List Kept) (aside : Gone) (spent : ℕ)
    (name : Name) (c : Change) (i : ℕ)
    → AreMeant (extensions_of m) before → ((o : ℕ) → ArePages (owned s o)) → Asks m durable root s gone before name c i
    → pages_of s gone ≤ sum aside.durable
    → pages_of s (owners_with before gone) ≤ need (extensions_of m) true (changing (db_of before) name c aside spent)

-- So are they with the fresh pages of a call that asks the next of them, where the call is within its room.
abbrev pub AskingIsWithin : Type 0
AskingIsWithin =
    (m : Meanings) (durable : ℕ → Bool) (root : ℕ) (s : Slots) (gone : List ℕ) (before : List Kept) (aside : Gone) (spent : ℕ)
    (name : Name) (c : Change) (i : ℕ) (k : Kept) (d : Attached) (a : Db.Attached) (box : Attachment) (fresh : ℕ)
    → AreMeant (extensions_of m) before → ((o : ℕ) → ArePages (owned s o)) → Asks m durable root s gone before name c i
    → pages_of s gone ≤ sum aside.durable
    → kept_at before name ≡ Some k → slice_get k.descriptor.attachments i ≡ Some d → slice_get k.relation.attachments i ≡ Some a
    → attachment_of d.code m.attachments ≡ Some box
    → page_count (owned s d.owner) + fresh < most_asked box (rule_of durable k d) a.rule (db_of before) a.buckets c
    → pages_of s (owners_with before gone) + fresh ≤ need (extensions_of m) true (changing (db_of before) name c aside spent)

-- and where no page is left for it, there are no more than those of the space itself and the need together
abbrev pub AskingIsFull : Type 0
AskingIsFull =
    (m : Meanings) (durable : ℕ → Bool) (root : ℕ) (s : Slots) (gone : List ℕ) (before : List Kept) (aside : Gone) (spent : ℕ)
    (name : Name) (c : Change) (i : ℕ) (k : Kept) (d : Attached) (a : Db.Attached) (box : Attachment) (table total : ℕ)
    → AreMeant (extensions_of m) before → ((o : ℕ) → ArePages (owned s o)) → Asks m durable root s gone before name c i
    → pages_of s gone ≤ sum aside.durable
    → kept_at before name ≡ Some k → slice_get k.descriptor.attachments i ≡ Some d → slice_get k.relation.attachments i ≡ Some a
    → attachment_of d.code m.attachments ≡ Some box
    → total ≤ 65536 → IsTabled table s
    → IsShort s d.owner (most_asked box (rule_of durable k d) a.rule (db_of before) a.buckets c) total
    → total ≤ table + page_count (owned s 1) + need (extensions_of m) true (changing (db_of before) name c aside spent)

-- ---- relations that outlive the run
-- They do where no storage method counts its keys, and live boxes keep them as such.
abbrev pub LastingAreMeant : Type 0
LastingAreMeant =
    (m : Meanings) (durable : ℕ → Bool) (root : ℕ) (s : Slots) (kept : List Kept) → ((code : ℕ) → durable code ≡ true)
    → All (λ k. keying_of k.descriptor.method ≡ Counted → ⊥) kept → Tables m durable root s kept → AreMeant (extensions_of m) kept
