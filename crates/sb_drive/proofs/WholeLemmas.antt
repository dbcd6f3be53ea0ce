-- Each page that an owner sees is whole.
use Rattle.std.proofs.Common.{◌≢◌, ℕ, ◌==◌, Bool, true, false, cond, [], refl}
use Rattle.sb_ctx.specs.Pages.{IsWhole}
use Rattle.sb_drive.specs.Slots.{Slot, IsPage, bytes_for}

pub bytes_for-whole : (owner : ℕ) (slot : Slot) → IsPage slot → bytes_for owner slot ≢ [] → IsWhole (bytes_for owner slot)
bytes_for-whole owner slot is some = by (owner == 0) (slot.0 == owner) some
  where
    by : (b d : Bool) → cond b [] (cond d slot.1 []) ≢ [] → IsWhole (cond b [] (cond d slot.1 []))
    by true d some = absurd (some refl)
    by false true some = is some
    by false false some = absurd (some refl)
