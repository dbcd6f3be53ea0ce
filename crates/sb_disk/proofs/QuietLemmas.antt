-- Writes in a zone that a reading doesn't see.
use Rattle.std.proofs.Common.{◌≡◌, ⊎_elim, ℕ, ◌+◌, ◌<◌, ◌≤◌, Option, Some, List, length, get_or, sym, ◌∙◌}
use Rattle.sb_bytes.specs.Bytes.{splice}
use Rattle.sb_disk.specs.Disk.{Story, Leaves, after_write, after_sync, wrote}
use Rattle.sb_disk.specs.Moments.{LeavesOnly, LeavesTorn}
use Rattle.sb_disk.specs.Quiet.{IsQuiet, Ignores}
use Rattle.sb_disk.proofs.RangeLemmas.{splice-AgreesBut}
use Rattle.sb_disk.proofs.MomentLemmas.{on_write}

module _ {X : Type 0} (read : List ℕ → X) (Zone : ℕ → Type 0) (s : Story) (quiet : IsQuiet Zone s) (ignores : Ignores read Zone s.now.reads) where
  -- each image of now is read as the contents
  pub quiet_left : (image : List ℕ) → Leaves s.now image → read image ≡ read s.now.reads
  quiet_left image left = ignores image left.size (λ i out. left.bytes i (λ covered. out (quiet i covered)))

  -- a write in the zone, in each of its outcomes
  pub quiet_torn : (at count : ℕ) → ((i : ℕ) → at ≤ i → i < at + count → Zone i) → (image : List ℕ) → LeavesTorn at count (Some s) image → read image ≡ read s.now.reads
  quiet_torn at count zone image torn = ignores image torn.size (λ i out. torn.bytes i (λ covered. ⊎_elim (λ (here : (at ≤ i) × (i < at + count)). out (zone i here.0 here.1)) (λ there. out (quiet i there)) covered))

  -- after a write in the zone all is read as before, and what is pending lies in the zone still
  pub quiet_wrote : (at : ℕ) (bytes : List ℕ) → at + length bytes ≤ length s.now.reads → ((i : ℕ) → at ≤ i → i < at + length bytes → Zone i)
      → (read (splice at bytes s.now.reads) ≡ read s.now.reads) × IsQuiet Zone (after_write at (length bytes) (splice at bytes s.now.reads) s) × Ignores read Zone (splice at bytes s.now.reads)
  quiet_wrote at bytes fits zone =
      let agrees = splice-AgreesBut at bytes s.now.reads fits in
      let elsewhere : (i : ℕ) → ¬ Zone i → get_or s.now.reads i 0 ≡ get_or (splice at bytes s.now.reads) i 0 =
      λ i out. agrees.bytes i (λ covered. ⊎_elim (λ (here : (at ≤ i) × (i < at + length bytes)). out (zone i here.0 here.1)) (λ none. none) covered) in
      let same : read (splice at bytes s.now.reads) ≡ read s.now.reads = ignores (splice at bytes s.now.reads) agrees.size elsewhere in (
        same,
        (λ i covered. ⊎_elim (λ (here : (at ≤ i) × (i < at + length bytes)). zone i here.0 here.1) (λ there. quiet i there) covered),
        (λ new size agree. ignores new (agrees.size ∙ size) (λ i out. elsewhere i out ∙ agree i out) ∙ sym same),
      )

  -- after a sync the zone may be any other
  pub quiet_synced : (Other : ℕ → Type 0) → IsQuiet Other (after_sync s)
  quiet_synced Other i none = absurd none

  -- one write in the zone: at each moment the reading is as before
  pub quiet_write : (a new : Option Story) (P : List ℕ → Type 0) (at : ℕ) (bytes : List ℕ) → ((image : List ℕ) → read image ≡ read s.now.reads → P image)
      → at + length bytes ≤ length s.now.reads → ((i : ℕ) → at ≤ i → i < at + length bytes → Zone i) → LeavesOnly a (Some s) P → new ≡ wrote at bytes (Some s) → LeavesOnly a new P
  quiet_write a new P at bytes leads fits zone so_far is = on_write a (Some s) new P at bytes fits so_far is (λ image torn. leads image (quiet_torn at (length bytes) zone image torn))
