-- How refusals of a space come to those of a layer.
use Rattle.std.proofs.Common.{◌≡◌, ◌⊎◌, ℕ, Bool, true, false, true≢false, refl, sym, subst, inl, inr}
use Rattle.sb_drive.specs.declared.space.SpaceFault.{SpaceFault}
use Rattle.sb_drive.specs.declared.space.SpaceFault.TheVariants as fault
use Rattle.sb_drive.specs.Slots.{Slots}
use Rattle.sb_drive.specs.Spaces.{IsReadFault, IsRefused, Wanted}
use Rattle.sb_registry.specs.Runs.{IsSound}
use Rattle.sb_relation.specs.Db.{Name}
use Rattle.sb_rule.specs.declared.change.Change.{Change}
use Rattle.sb_fold.specs.Extensions.{Extensions}
use Rattle.sb_fold.specs.Outcome.{Going, Trail}
use Rattle.sb_cascade.specs.Runs.{IsVetoed, IsVetoedIf, NotAsked, OnFault, is_free, is_room}
use Rattle.sb_fold.specs.declared.refusal.Refusal.{Refusal}
use Rattle.sb_fold.specs.declared.refusal.Refusal.TheVariants as refusal
use Rattle.sb_registry.specs.Boxes.{Meanings}
use Rattle.sb_engine.specs.Licensed.{definite_roomless, roomless_licence}
use Rattle.sb_engine.specs.Refusals.{HasFaultCause, HasRefusalCause, IsRefusedBy, refusal_of}
use Rattle.sb_engine.specs.Working.{IsPaid, IsStoppedIn}

-- it is none that a definition gives
pub free_refusal : (e : SpaceFault) → is_free (refusal_of e) ≡ true
free_refusal fault.Fault = refl
free_refusal (fault.DataFull used total) = refl
free_refusal (fault.TempFull used total) = refl
free_refusal (fault.LogFull used need total) = refl
free_refusal (fault.GatesFull used total) = refl
free_refusal (fault.Damaged page) = refl
free_refusal fault.Down = refl
free_refusal fault.NoMemory = refl

-- that of a reading call says nothing of room
pub roomless_refusal : (e : SpaceFault) → IsReadFault e → is_room (refusal_of e) ≡ false
roomless_refusal fault.Fault read = refl
roomless_refusal (fault.DataFull used total) read = absurd read
roomless_refusal (fault.TempFull used total) read = absurd read
roomless_refusal (fault.LogFull used need total) read = absurd read
roomless_refusal (fault.GatesFull used total) read = absurd read
roomless_refusal (fault.Damaged page) read = refl
roomless_refusal fault.Down read = refl
roomless_refusal fault.NoMemory read = refl

-- where no page is called damaged, it has its cause
pub refused_cause : {S : Type 0} (Fails : SpaceFault → S → S → Type 0) (Same : Type 0) (old new : S) (e : SpaceFault) → IsRefused Same (Fails e old new) e → IsSound e → HasRefusalCause Fails (refusal_of e) new
refused_cause Fails Same old new fault.Fault is sound = record { fault = fault.Fault; is = refl; before = old; fails = is }
refused_cause Fails Same old new (fault.DataFull used total) is sound = record { fault = fault.DataFull used total; is = refl; before = old; fails = is }
refused_cause Fails Same old new (fault.TempFull used total) is sound = record { fault = fault.TempFull used total; is = refl; before = old; fails = is }
refused_cause Fails Same old new (fault.LogFull used need total) is sound = record { fault = fault.LogFull used need total; is = refl; before = old; fails = is }
refused_cause Fails Same old new (fault.GatesFull used total) is sound = record { fault = fault.GatesFull used total; is = refl; before = old; fails = is }
refused_cause Fails Same old new (fault.Damaged page) is sound = absurd sound
refused_cause Fails Same old new fault.Down is sound = record { fault = fault.Down; is = refl; before = old; fails = is }
refused_cause Fails Same old new fault.NoMemory is sound = tt

-- one that a definition gives wants no cause
pub definite_cause : {S : Type 0} (Fails : SpaceFault → S → S → Type 0) (r : Refusal) (now : S) → is_free r ≡ false → HasRefusalCause Fails r now
definite_cause Fails (refusal.Syntax column) now is = tt
definite_cause Fails refusal.Down now is = tt
definite_cause Fails refusal.State now is = tt
definite_cause Fails (refusal.NoRelation name) now is = tt
definite_cause Fails (refusal.Exists name) now is = tt
definite_cause Fails (refusal.NoName name) now is = tt
definite_cause Fails (refusal.NoExtension code) now is = tt
definite_cause Fails (refusal.InUse relation name) now is = tt
definite_cause Fails refusal.Mistyped now is = tt
definite_cause Fails (refusal.TooLong relation) now is = tt
definite_cause Fails refusal.Mixed now is = tt
definite_cause Fails refusal.Limit now is = tt
definite_cause Fails (refusal.NoRecord relation) now is = tt
definite_cause Fails (refusal.Duplicate relation) now is = tt
definite_cause Fails (refusal.Veto relation name) now is = tt
definite_cause Fails (refusal.Range relation) now is = tt
definite_cause Fails refusal.Depth now is = tt
definite_cause Fails refusal.DeferLimit now is = tt
definite_cause Fails refusal.NoMemory now is = tt
definite_cause Fails (refusal.Room room) now is = absurd (true≢false is)
definite_cause Fails (refusal.Damaged page) now is = absurd (true≢false is)
definite_cause Fails refusal.Fault now is = absurd (true≢false is)

-- the refusal of a reading call
pub read_stop : {S : Type 0} (Has : Wanted → Slots → S → Type 0) (Spent : ℕ → S → Type 0) (Leads : ℕ → S → S → Type 0) (Fails : SpaceFault → S → S → Type 0) (table : S → ℕ) (m : Meanings) (e : SpaceFault)
    (trail : Trail) (now : S) → IsReadFault e → HasRefusalCause Fails (refusal_of e) now → IsPaid Spent 0 trail.spent now
    → IsStoppedIn Has Spent Leads Fails table m (refusal_of e) trail now
read_stop Has Spent Leads Fails table m e trail now read cause paid = record {
  cause = cause;
  paid = paid;
  licensed = roomless_licence Has Leads table m (refusal_of e) trail now (roomless_refusal e read);
}

-- one that a definition gives
pub definite_stop : {S : Type 0} (Has : Wanted → Slots → S → Type 0) (Spent : ℕ → S → Type 0) (Leads : ℕ → S → S → Type 0) (Fails : SpaceFault → S → S → Type 0) (table : S → ℕ) (m : Meanings) (r : Refusal)
    (trail : Trail) (now : S) → is_free r ≡ false → IsPaid Spent 0 trail.spent now → IsStoppedIn Has Spent Leads Fails table m r trail now
definite_stop Has Spent Leads Fails table m r trail now is paid = record {
  paid = paid;
  cause = definite_cause Fails r now is;
  licensed = roomless_licence Has Leads table m r trail now (definite_roomless r is);
}

-- ---- faults, whatever the pages keep
-- a refusal is a fault, or no fact of a fault is asked of it
pub fault_or : (r : Refusal) (IsSo : Type 0) → (r ≡ refusal.Fault) ⊎ OnFault r IsSo
fault_or refusal.Fault IsSo = inl refl
fault_or r IsSo = inr tt

-- a fact of a fault, by one that a refusal gives where it is one
pub on_fault : (r : Refusal) (IsSo : Type 0) → (r ≡ refusal.Fault → IsSo) → OnFault r IsSo
on_fault r IsSo gives = of (fault_or r IsSo)
  where
    of : (r ≡ refusal.Fault) ⊎ OnFault r IsSo → OnFault r IsSo
    of (inl is) = subst (λ (x : Refusal). OnFault x IsSo) (sym is) (gives is)
    of (inr so) = so

-- and back
pub of_fault : (r : Refusal) (IsSo : Type 0) → OnFault r IsSo → r ≡ refusal.Fault → IsSo
of_fault r IsSo so is = subst (λ (x : Refusal). OnFault x IsSo) is so

-- one whose cause the space has
pub caused_fault : {S : Type 0} (Fails : SpaceFault → S → S → Type 0) (r : Refusal) (now : S) → HasRefusalCause Fails r now → HasFaultCause Fails r now
caused_fault Fails r now cause =
    on_fault r (IsRefusedBy Fails refusal.Fault now) (λ is. subst (λ (x : Refusal). HasRefusalCause Fails x now) is cause)

-- that of a refused call of the space
pub refused_fault : {S : Type 0} (Fails : SpaceFault → S → S → Type 0) (Same : Type 0) (old new : S) (e : SpaceFault) → IsRefused Same (Fails e old new) e
    → HasFaultCause Fails (refusal_of e) new
refused_fault Fails Same old new fault.Fault is = record { fault = fault.Fault; is = refl; before = old; fails = is }
refused_fault Fails Same old new fault.Down is = record { fault = fault.Down; is = refl; before = old; fails = is }
refused_fault Fails Same old new e is = tt

-- ---- an attachment that was asked
-- a refusal of the space is no veto
pub not_asked : {R : Type 0} (Stopped : Refusal → Trail → R → Type 0) (ext : Extensions) (name : Name) (c : Change) (i : ℕ) (g : Going) (e : SpaceFault) (new : R) → Stopped (refusal_of e) g.trail new
    → NotAsked Stopped ext name c i g (refusal_of e) new
not_asked Stopped ext name c i g e new stopped = record {
  vetoed = subst (λ (b : Bool). IsVetoedIf b ext name c i g (refusal_of e)) (sym (free_refusal e)) tt;
  stopped = stopped;
}

-- a veto, or want of memory for it
pub not_admitted : {R : Type 0} (Stopped : Refusal → Trail → R → Type 0) (ext : Extensions) (name : Name) (c : Change) (i : ℕ) (g : Going) (label : Name) (r : Refusal) (new : R)
    → (r ≡ refusal.Veto name label) ⊎ (r ≡ refusal.NoMemory) → IsVetoed ext name c i g (refusal.Veto name label) → Stopped (refusal.Veto name label) g.trail new → Stopped refusal.NoMemory g.trail new
    → NotAsked Stopped ext name c i g r new
not_admitted Stopped ext name c i g label r new (inl is) vetoed stopped wanting =
    subst (λ (x : Refusal). NotAsked Stopped ext name c i g x new) (sym is) (record { vetoed = vetoed; stopped = stopped })
not_admitted Stopped ext name c i g label r new (inr is) vetoed stopped wanting =
    subst (λ (x : Refusal). NotAsked Stopped ext name c i g x new) (sym is) (record { vetoed = tt; stopped = wanting })
