-- What the pages of a space keep, and what a call on them is refused for.
use Rattle.std.specs.Prelude.{◌≡◌, ℕ, ◌+◌, ◌≤◌, List, [], ◌++◌}
use Rattle.sb_relation.specs.Db.{Db}
use Rattle.sb_fold.specs.declared.refusal.Refusal.{Refusal}
use Rattle.sb_fold.specs.declared.refusal.Refusal.TheVariants.{Room}
use Rattle.sb_fold.specs.declared.refusal.Room.TheVariants.{Data}
use Rattle.sb_forms.specs.Pages.{page_count}
use Rattle.sb_drive.specs.Slots.{Slots, owned}
use Rattle.sb_drive.specs.Spaces.{LeadsOn, Wanted}
use Rattle.sb_registry.specs.Boxes.{Meanings}
use Rattle.sb_standing.specs.Standing.{Keeps}
use Rattle.sb_standing.specs.Tables.{Kept, db_of}
use Rattle.sb_engine.specs.Beside.{AreWithin}
use Rattle.sb_engine.specs.Opened.{IsDurable}
use Rattle.sb_engine.specs.Measures.{AreHeld}
use Rattle.sb_engine.specs.declared.running.Running.{Running}
use Rattle.sb_engine.specs.Working.{AreLasting}

-- A state of a space: its pages keep a database of relations that outlive the run, beside those of owners that are to go, which these bounds are held
-- aside for.
pub record KeepsDb {S : Type 0} (Has : Wanted → Slots → S → Type 0) (m : Meanings) (root : ℕ) (gone aside : List ℕ) (db : Db) (space : S) : Type 0 where
  pub want : Wanted
  pub slots : Slots
  pub kept : List Kept
  pub has : Has want slots space
  pub is : db ≡ db_of kept
  pub keeps : Keeps m IsDurable root slots gone kept
  pub lasting : AreLasting kept
  pub held : AreHeld slots gone aside

-- the same of an engine at work, whatever waits
abbrev pub KeepsIn : {B S : Type 0} → (Wanted → Slots → S → Type 0) → (B → Meanings) → List ℕ → Db → Running B S → Type 0
KeepsIn Has meanings aside db a = KeepsDb Has (meanings a.boxes.now) a.place.root a.work.now.gone.items aside db a.space.now

-- So they do, and instances, what is to go and the catalogue have so many pages at most.
pub record KeepsWithin {S : Type 0} (Has : Wanted → Slots → S → Type 0) (m : Meanings) (root : ℕ) (gone aside : List ℕ) (most : ℕ) (db : Db)
    (space : S) : Type 0 where
  pub keeps : KeepsDb Has m root gone aside db space
  pub within : AreWithin keeps.slots keeps.kept gone most

abbrev pub KeepsWithinIn : {B S : Type 0} → (Wanted → Slots → S → Type 0) → (B → Meanings) → List ℕ → ℕ → Db → Running B S → Type 0
KeepsWithinIn Has meanings aside most db a = KeepsWithin Has (meanings a.boxes.now) a.place.root a.work.now.gone.items aside most db a.space.now

-- At a moment on the way here a space had no more pages than those that it takes for itself and so many.
pub record IsFullAt {S : Type 0} (Has : Wanted → Slots → S → Type 0) (Leads : ℕ → S → S → Type 0) (table : S → ℕ) (most total : ℕ) (now : S) : Type 0 where
  pub space : S
  pub leads : LeadsOn Leads space now
  pub want : Wanted
  pub slots : Slots
  pub has : Has want slots space
  pub full : total ≤ table space + page_count (owned slots 1) + most

-- So it is where want of a page is the refusal.
abbrev pub IsFullBy : {S : Type 0} → (Wanted → Slots → S → Type 0) → (ℕ → S → S → Type 0) → (S → ℕ) → ℕ → Refusal → S → Type 0
IsFullBy Has Leads table most (Room (Data used total)) now = total ≤ 65536 → IsFullAt Has Leads table most total now
IsFullBy Has Leads table most r now = Unit {0}

-- owners more are to go, behind those that were
abbrev pub HasMore : List ℕ → List ℕ → Type 0
HasMore old new = (more : List ℕ) × (new ≡ old ++ more)

-- Nothing is open any more; what waits, and what was picked, stay.
pub record Closes {B S : Type 0} (old new : Running B S) : Type 0 where
  pub opened : new.work.now.opened.items ≡ []
  pub queue : new.work.now.queue ≡ old.work.now.queue
  pub done : new.work.now.done ≡ old.work.now.done
  pub picks : new.work.now.picks.items ≡ old.work.now.picks.items
