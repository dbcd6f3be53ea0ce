-- How the refusals of a space of pages are those of commands.
use Rattle.std.specs.Prelude.{◌≡◌}
use Rattle.sb_drive.specs.declared.space.SpaceFault.{SpaceFault}
use Rattle.sb_drive.specs.declared.space.SpaceFault.TheVariants as fault
use Rattle.sb_fold.specs.declared.refusal.Refusal.{Refusal}
use Rattle.sb_fold.specs.declared.refusal.Refusal.TheVariants as refusal
use Rattle.sb_cascade.specs.Runs.{IsQuiet, OnFault}
use Rattle.sb_fold.specs.declared.refusal.Room.TheVariants.{Data, Temp, Log, Gates}

abbrev pub refusal_of : SpaceFault → Refusal
refusal_of fault.Fault = refusal.Fault
refusal_of (fault.DataFull used total) = refusal.Room (Data used total)
refusal_of (fault.TempFull used total) = refusal.Room (Temp used total)
refusal_of (fault.LogFull used need total) = refusal.Room (Log used need total)
refusal_of (fault.GatesFull used total) = refusal.Room (Gates used total)
refusal_of (fault.Damaged page) = refusal.Damaged page
refusal_of fault.Down = refusal.Fault
refusal_of fault.NoMemory = refusal.NoMemory

-- some call of the space was refused so
pub record IsRefusedBy {S : Type 0} (Fails : SpaceFault → S → S → Type 0) (r : Refusal) (now : S) : Type 0 where
  pub fault : SpaceFault
  pub is : refusal_of fault ≡ r
  pub before : S
  pub fails : Fails fault before now

-- The space has the cause of a refusal: no room, or a fault. No page that stands is damaged, and the other refusals want no cause.
abbrev pub HasRefusalCause : {S : Type 0} → (SpaceFault → S → S → Type 0) → Refusal → S → Type 0
HasRefusalCause Fails (refusal.Room room) now = IsRefusedBy Fails (refusal.Room room) now
HasRefusalCause Fails refusal.Fault now = IsRefusedBy Fails refusal.Fault now
HasRefusalCause Fails (refusal.Damaged page) now = ⊥
HasRefusalCause Fails r now = Unit {0}

-- it doesn't say that a page is wanting
abbrev pub HasPagesLeft : Refusal → Type 0
HasPagesLeft (refusal.Room (Data used total)) = ⊥
HasPagesLeft r = Unit {0}

-- Where the refusal is a fault, some call of the space was refused so, whatever its pages keep.
abbrev pub HasFaultCause : {S : Type 0} → (SpaceFault → S → S → Type 0) → Refusal → S → Type 0
HasFaultCause Fails r now = OnFault r (IsRefusedBy Fails refusal.Fault now)

-- a refusal that says nothing of pages and of the disk wants no cause
pub quiet_cause : {S : Type 0} (Fails : SpaceFault → S → S → Type 0) (r : Refusal) (now : S) → IsQuiet r → HasRefusalCause Fails r now
quiet_cause Fails (refusal.Syntax column) now quiet = tt
quiet_cause Fails refusal.Down now quiet = tt
quiet_cause Fails refusal.State now quiet = tt
quiet_cause Fails (refusal.NoRelation name) now quiet = tt
quiet_cause Fails (refusal.Exists name) now quiet = tt
quiet_cause Fails (refusal.NoName name) now quiet = tt
quiet_cause Fails (refusal.NoExtension code) now quiet = tt
quiet_cause Fails (refusal.InUse relation name) now quiet = tt
quiet_cause Fails refusal.Mistyped now quiet = tt
quiet_cause Fails (refusal.TooLong relation) now quiet = tt
quiet_cause Fails refusal.Mixed now quiet = tt
quiet_cause Fails refusal.Limit now quiet = tt
quiet_cause Fails (refusal.NoRecord relation) now quiet = tt
quiet_cause Fails (refusal.Duplicate relation) now quiet = tt
quiet_cause Fails (refusal.Veto relation name) now quiet = tt
quiet_cause Fails (refusal.Range relation) now quiet = tt
quiet_cause Fails refusal.Depth now quiet = tt
quiet_cause Fails refusal.DeferLimit now quiet = tt
quiet_cause Fails (refusal.Room room) now quiet = absurd quiet
quiet_cause Fails (refusal.Damaged page) now quiet = absurd quiet
quiet_cause Fails refusal.Fault now quiet = absurd quiet
quiet_cause Fails refusal.NoMemory now quiet = tt
