-- Zeros over a range, in one write and a sync.
use Rattle.std.proofs.Common.{◌≡◌, ℕ, suc, zero, ◌+◌, ◌-◌, ◌≤◌, Option, Some, None, List, length, get_or, drop, replicate, refl, sym, ◌∙◌, ap, subst, arith}
use Rattle.std.proofs.lemmas.List.{get_or-take, get_or-drop, length-replicate}
use Rattle.sb_bytes.specs.Bytes.{splice}
use Rattle.sb_bytes.proofs.BytesLaws.{slice-splice}
use Rattle.sb_disk.specs.Disk.{Fits, Story, WhereTold, after_write, after_sync, wrote, synced, FailedWrite}
use Rattle.sb_disk.specs.Moments.{LeavesOnly, LeavesTorn, Within}
use Rattle.sb_disk.proofs.RangeLemmas.{AgreesBut-more, splice-AgreesBut}
use Rattle.sb_disk.proofs.MomentLemmas.{started, on_write, on_failed_write}
use Rattle.sb_journal.specs.Closing.{Zeroed}

-- before the write
leaves_none : (told : Option Story) (at count : ℕ) → LeavesOnly told told (LeavesTorn at count told)
leaves_none None at count = started None (LeavesTorn at count None) (λ image left. left)
leaves_none (Some s) at count = started (Some s) (LeavesTorn at count (Some s)) (λ image left. AgreesBut-more (record { start = at; len = count }) s.now.written s.now.reads image left)

within_on : (told : Option Story) (size clock at count : ℕ) → Fits size clock told → at + count ≤ size → Within at count told
within_on None size clock at count fits le = tt
within_on (Some s) size clock at count fits le = let e : length s.now.reads ≡ size = fits.bytes in omega arith

pub zeros_left : (told new : Option Story) (size clock at count : ℕ) → Fits size clock told → at + count ≤ size → new ≡ wrote at (replicate count 0) told → LeavesOnly told new (LeavesTorn at count told)
zeros_left told new size clock at count fits le is =
    let n : length (replicate {A = ℕ} count 0) ≡ count = length-replicate {A = ℕ} count 0 in
    on_write told told new (LeavesTorn at count told) at (replicate count 0) (within_on told size clock at (length (replicate {A = ℕ} count 0)) fits (omega arith)) (leaves_none told at count) is
    (λ image torn. subst (λ (k : ℕ). LeavesTorn at k told image) n torn)

pub zeros_failed : (told new : Option Story) (at count : ℕ) → FailedWrite at count told new → LeavesOnly told new (LeavesTorn at count told)
zeros_failed told new at count failed = on_failed_write told told new (LeavesTorn at count told) at count (leaves_none told at count) failed (λ image torn. torn)

zero_byte : (n i : ℕ) → get_or (replicate {A = ℕ} n 0) i 0 ≡ 0
zero_byte zero i = refl
zero_byte (suc n) zero = refl
zero_byte (suc n) (suc i) = zero_byte n i

zeroed : (s : Story) (at : ℕ) (bytes : List ℕ) → at + length bytes ≤ length s.now.reads → ((i : ℕ) → get_or bytes i 0 ≡ 0) → Zeroed at (length bytes) s (after_sync (after_write at (length bytes) (splice at bytes s.now.reads) s))
zeroed s at bytes fits zeros = record {
  zeros = λ i from to.
      let is : i ≡ at + (i - at) = omega arith in
      ap (λ (m : ℕ). get_or (splice at bytes s.now.reads) m 0) is
      ∙ sym (get_or-drop at (splice at bytes s.now.reads) (i - at) 0)
      ∙ sym (get_or-take (length bytes) (drop at (splice at bytes s.now.reads)) (i - at) 0 (omega arith))
      ∙ ap (λ (l : List ℕ). get_or l (i - at) 0) (slice-splice at bytes s.now.reads (omega arith))
      ∙ zeros (i - at);
  elsewhere = splice-AgreesBut at bytes s.now.reads fits;
  settled = refl;
}

pub zeros_done : (told mid new : Option Story) (size clock at count : ℕ) → Fits size clock told → at + count ≤ size → mid ≡ wrote at (replicate count 0) told → new ≡ synced mid → WhereTold told new (Zeroed at count)
zeros_done told mid new size clock at count fits le wrote_is synced_is = subst (λ (n : Option Story). WhereTold told n (Zeroed at count)) (sym (synced_is ∙ ap synced wrote_is)) (go told fits)
  where
    n : length (replicate {A = ℕ} count 0) ≡ count
    n = length-replicate {A = ℕ} count 0

    go : (told : Option Story) → Fits size clock told → WhereTold told (synced (wrote at (replicate count 0) told)) (Zeroed at count)
    go None fits = refl
    go (Some s) fits =
        let e : length s.now.reads ≡ size = fits.bytes in
        let k = n in
        subst (λ (m : ℕ). Zeroed at m s (after_sync (after_write at (length (replicate {A = ℕ} count 0)) (splice at (replicate count 0) s.now.reads) s))) n
        (zeroed s at (replicate count 0) (omega arith) (zero_byte count))
