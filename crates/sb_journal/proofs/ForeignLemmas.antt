-- A write outside the regions of a journal, as that of a page.
use Rattle.std.proofs.Common.{◌≡◌, inl, inr, ⊎_elim, ℕ, ◌+◌, ◌≤◌, Option, Some, None, List, [], ◌∷◌, length, sym, subst, arith}
use Rattle.sb_bytes.specs.Bytes.{splice}
use Rattle.sb_disk.specs.Disk.{Range, Story, AgreesBut, after_write, after_idle, after_sync, after_failed_sync, wrote, synced, WriteFault, TornWrite, IdleWrite, LateWrite, SyncFault, LostSync, LateSync, FailedWrite, FailedSync}
use Rattle.sb_disk.specs.Moments.{LeavesTorn, Sure}
use Rattle.sb_disk.proofs.RangeLemmas.{splice-AgreesBut}
use Rattle.sb_journal.specs.Chunks.{ReadsAs, bytes_of}
use Rattle.sb_journal.specs.State.{State, chunks_of, Lies, Sound, Stands, StandsOn, IsOff}
use Rattle.sb_journal.proofs.RegionLemmas.{Ready, lies_on, none_sure, sure_more, kept_by, Stands-but}

module _ (s : Story) (j : State) (stands : Stands s j) (lies : Lies (length s.now.reads) j.gates j.log) (sound : Sound j) (at count : ℕ) (off : IsOff j at count) where
  gates_off : (written : List Range) → Sure j.gates.start j.gates.len written → Sure j.gates.start j.gates.len (record { start = at; len = count } ∷ written)
  gates_off written sure = sure_more j.gates.start j.gates.len (record { start = at; len = count }) written sure off.of_gates

  chunks_off : (written : List Range) → Sure j.log.start (bytes_of j.lens) written → Sure j.log.start (bytes_of j.lens) (record { start = at; len = count } ∷ written)
  chunks_off written sure = sure_more j.log.start (bytes_of j.lens) (record { start = at; len = count }) written sure
      (⊎_elim (λ (behind : j.log.start + j.log.len ≤ at). inl (let inside = sound.log in omega arith)) (λ (before : at + count ≤ j.log.start). inr before) off.of_log)

  -- each outcome of the write reads as the chunks
  pub foreign_torn : (image : List ℕ) → LeavesTorn at count (Some s) image → ReadsAs j.gates j.log image (chunks_of j s.now.reads)
  foreign_torn image torn = kept_by s j stands lies sound (record { start = at; len = count } ∷ s.now.written) image torn (gates_off s.now.written stands.gates) (chunks_off s.now.written stands.chunks)

  -- and the journal stands after it
  pub foreign_stands : (reads : List ℕ) → AgreesBut (record { start = at; len = count } ∷ []) s.now.reads reads → Stands (after_write at count reads s) j
  foreign_stands reads agrees = Stands-but s (after_write at count reads s) j stands lies sound (record { start = at; len = count } ∷ []) agrees
      (gates_off [] (none_sure j.gates.start j.gates.len)) (chunks_off [] (none_sure j.log.start (bytes_of j.lens)))
      (gates_off s.now.written stands.gates) (chunks_off s.now.written stands.chunks)

-- ---- the same of what is told
-- a write there, a failed one too, leaves the journal standing
pub StandsOn-wrote : (told new : Option Story) (size clock : ℕ) (j : State) (at : ℕ) (bytes : List ℕ) → Ready told size clock j → at + length bytes ≤ size → IsOff j at (length bytes) → new ≡ wrote at bytes told → StandsOn new j
StandsOn-wrote None new size clock j at bytes ready within off is = subst (λ (n : Option Story). StandsOn n j) (sym is) tt
StandsOn-wrote (Some s) new size clock j at bytes ready within off is = subst (λ (n : Option Story). StandsOn n j) (sym is) (λ up.
    let long : length s.now.reads ≡ size = ready.fits.bytes in
    foreign_stands s j (ready.stands up) (lies_on s size j ready.fits.bytes ready.lies) ready.sound at (length bytes) off (splice at bytes s.now.reads) (splice-AgreesBut at bytes s.now.reads (omega arith)))

idle_stands : (s : Story) (j : State) → Stands s j → Stands (after_idle s) j
idle_stands s j stands = record { reads = stands.reads; gates = stands.gates; chunks = stands.chunks; shut = stands.shut }

sync_stands : (s : Story) (j : State) → Stands s j → Stands (after_sync s) j
sync_stands s j stands = record { reads = stands.reads; gates = none_sure j.gates.start j.gates.len; chunks = none_sure j.log.start (bytes_of j.lens); shut = stands.shut }

fault_stands : (s t : Story) (j : State) (at count : ℕ) → Stands s j → Lies (length s.now.reads) j.gates j.log → Sound j → IsOff j at count → WriteFault at count s t → Stands t j
fault_stands s t j at count stands lies sound off (TornWrite reads agrees is) = subst (λ (u : Story). Stands u j) (sym is) (foreign_stands s j stands lies sound at count off reads agrees)
fault_stands s t j at count stands lies sound off (IdleWrite is) = subst (λ (u : Story). Stands u j) (sym is) (idle_stands s j stands)
fault_stands s t j at count stands lies sound off (LateWrite is) = subst (λ (u : Story). Stands u j) (sym is) stands

pub StandsOn-FailedWrite : (told new : Option Story) (size clock : ℕ) (j : State) (at count : ℕ) → Ready told size clock j → IsOff j at count → FailedWrite at count told new → StandsOn new j
StandsOn-FailedWrite None new size clock j at count ready off failed = subst (λ (n : Option Story). StandsOn n j) (sym failed) tt
StandsOn-FailedWrite (Some s) None size clock j at count ready off failed = absurd failed
StandsOn-FailedWrite (Some s) (Some t) size clock j at count ready off failed = λ up. fault_stands s t j at count (ready.stands up) (lies_on s size j ready.fits.bytes ready.lies) ready.sound off failed

-- and so does a sync
pub StandsOn-synced : (told new : Option Story) (j : State) → StandsOn told j → new ≡ synced told → StandsOn new j
StandsOn-synced None new j stands is = subst (λ (n : Option Story). StandsOn n j) (sym is) tt
StandsOn-synced (Some s) new j stands is = subst (λ (n : Option Story). StandsOn n j) (sym is) (λ up. sync_stands s j (stands up))

sync_fault_stands : (s t : Story) (j : State) → Stands s j → Lies (length s.now.reads) j.gates j.log → Sound j → SyncFault s t → Stands t j
sync_fault_stands s t j stands lies sound (LostSync reads agrees is) = subst (λ (u : Story). Stands u j) (sym is)
    (Stands-but s (after_failed_sync reads s) j stands lies sound s.now.written agrees stands.gates stands.chunks stands.gates stands.chunks)
sync_fault_stands s t j stands lies sound (LateSync is) = subst (λ (u : Story). Stands u j) (sym is) stands

pub StandsOn-FailedSync : (told new : Option Story) (size clock : ℕ) (j : State) → Ready told size clock j → FailedSync told new → StandsOn new j
StandsOn-FailedSync None new size clock j ready failed = subst (λ (n : Option Story). StandsOn n j) (sym failed) tt
StandsOn-FailedSync (Some s) None size clock j ready failed = absurd failed
StandsOn-FailedSync (Some s) (Some t) size clock j ready failed = λ up. sync_fault_stands s t j (ready.stands up) (lies_on s size j ready.fits.bytes ready.lies) ready.sound failed
