-- Refusals that say nothing of room want no more than their cause.
use Rattle.std.specs.Prelude.{◌≡◌, ℕ, false}
use Rattle.std.proofs.Common.{refl, true≢false, arith}
use Rattle.sb_fold.specs.declared.refusal.Refusal.{Refusal}
use Rattle.sb_fold.specs.declared.refusal.Refusal.TheVariants as refusal
use Rattle.sb_fold.specs.declared.refusal.Room.TheVariants.{Data}
use Rattle.sb_fold.specs.Outcome.{Trail}
use Rattle.sb_cascade.specs.Runs.{IsQuiet, is_free, is_room}
use Rattle.sb_registry.specs.Boxes.{Meanings}
use Rattle.sb_drive.specs.declared.space.SpaceFault.{SpaceFault}
use Rattle.sb_drive.specs.Slots.{Slots}
use Rattle.sb_drive.specs.Spaces.{Wanted}
use Rattle.sb_engine.specs.declared.running.Running.{Running}
use Rattle.sb_engine.specs.Refusals.{HasPagesLeft, quiet_cause}
use Rattle.sb_engine.specs.Working.{IsLicensed, IsPaid, IsStoppedFor}

pub roomless_licence : {S : Type 0} (Has : Wanted → Slots → S → Type 0) (Leads : ℕ → S → S → Type 0) (table : S → ℕ) (m : Meanings) (r : Refusal) (trail : Trail) (now : S)
    → is_room r ≡ false → IsLicensed Has Leads table m r trail now
roomless_licence Has Leads table m (refusal.Room room) trail now is = absurd (true≢false is)
roomless_licence Has Leads table m r trail now is = tt

-- one that doesn't say that a page is wanting
pub paged_licence : {S : Type 0} (Has : Wanted → Slots → S → Type 0) (Leads : ℕ → S → S → Type 0) (table : S → ℕ) (m : Meanings) (r : Refusal) (trail : Trail) (now : S)
    → HasPagesLeft r → IsLicensed Has Leads table m r trail now
paged_licence Has Leads table m (refusal.Room (Data used total)) trail now left = absurd left
paged_licence Has Leads table m r trail now left = tt

pub quiet_roomless : (r : Refusal) → IsQuiet r → is_room r ≡ false
quiet_roomless (refusal.Room room) quiet = absurd quiet
quiet_roomless r quiet = refl

-- one that a definition gives
pub definite_roomless : (r : Refusal) → is_free r ≡ false → is_room r ≡ false
definite_roomless (refusal.Room room) is = absurd (true≢false is)
definite_roomless r is = refl

-- fewer changes were made where more are left to come
pub paid_for : {S : Type 0} {Spent : ℕ → S → Type 0} {rest paid : ℕ} {space : S} → IsPaid Spent rest paid space → IsPaid Spent 0 paid space
paid_for is = record { changes = is.changes; within = omega (arith, is.within); spent = is.spent }

-- one that says nothing of pages and of the disk may stop an engine wherever it stands
pub quiet_stop : {B S : Type 0} (Has : Wanted → Slots → S → Type 0) (Spent : ℕ → S → Type 0) (Leads : ℕ → S → S → Type 0) (Fails : SpaceFault → S → S → Type 0) (table : S → ℕ)
    (meanings : B → Meanings) {rest : ℕ} (r : Refusal) (trail : Trail) (a : Running B S) → IsQuiet r → IsPaid Spent rest trail.spent a.space.now
    → IsStoppedFor Has Spent Leads Fails table meanings r trail a
quiet_stop Has Spent Leads Fails table meanings r trail a quiet paid = record {
  cause = quiet_cause Fails r a.space.now quiet;
  licensed = roomless_licence Has Leads table (meanings a.boxes.now) r trail a.space.now (quiet_roomless r quiet);
  paid = paid_for paid;
}
