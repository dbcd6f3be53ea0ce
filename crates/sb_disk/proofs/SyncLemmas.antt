-- A byte that is not pending is as it was when the disk was last synced.
use Rattle.std.proofs.Common.{◌≡◌, inl, inr, ℕ, Option, Some, None, List, [], ◌∷◌, length, get_or, refl, sym, ◌∙◌, ap, subst}
use Rattle.sb_bytes.specs.Bytes.{splice}
use Rattle.sb_disk.specs.Disk.{Range, Moment, Story, Covered, AgreesBut, Leaves, after_write, after_sync, after_failed_sync, wrote, synced, WriteFault, TornWrite, IdleWrite, LateWrite, SyncFault, LostSync, LateSync, FailedWrite, FailedSync}
use Rattle.sb_disk.specs.Moments.{Within}
use Rattle.sb_disk.specs.Syncs.{WroteRange, SameRanges, IsSince, AtSync, AfterSync, IsAnchored, unless_pending, at_last_sync, last_synced}
use Rattle.sb_disk.proofs.RangeLemmas.{AgreesBut-none, AgreesBut-same, splice-AgreesBut}

-- two moments of the same ranges
same_ranges : (written : List Range) (reads new older : List ℕ) → AgreesBut written reads new → unless_pending written new (unless_pending written reads older) ≡ unless_pending written reads older
same_ranges [] reads new older agrees = AgreesBut-none reads new agrees
same_ranges (range ∷ ranges) reads new older agrees = refl

-- a byte that no range of the present moment has
sure_byte : (now : Moment) (before : List Moment) → IsSince now before → (i : ℕ) → ¬ Covered i now.written → get_or now.reads i 0 ≡ get_or (at_last_sync (now ∷ before)) i 0
sure_byte _ _ (AtSync now before settled) i out = ap (λ (written : List Range). get_or (unless_pending written now.reads (at_last_sync before)) i 0) (sym settled)
sure_byte _ _ (AfterSync now last before (WroteRange range is agrees) since) i out =
    sym (agrees.bytes i (λ covered. out (subst (Covered i) (sym is) (here_only covered))))
    ∙ sure_byte last before since i (λ covered. out (subst (Covered i) (sym is) (inr covered)))
    ∙ ap (λ (written : List Range). get_or (unless_pending written now.reads (at_last_sync (last ∷ before))) i 0) (sym is)
  where
    here_only : Covered i (range ∷ []) → Covered i (range ∷ last.written)
    here_only (inl here) = inl here
    here_only (inr none) = absurd none
sure_byte _ _ (AfterSync now last before (SameRanges is agrees) since) i out =
    let still : ¬ Covered i last.written = λ covered. out (subst (Covered i) (sym is) covered) in
    sym (agrees.bytes i still)
    ∙ sure_byte last before since i still
    ∙ sym (ap (λ (bytes : List ℕ). get_or bytes i 0) (ap (λ (written : List Range). unless_pending written now.reads (at_last_sync (last ∷ before))) is ∙ same_ranges last.written last.reads now.reads (at_last_sync before) agrees))

-- A place that wasn't written since the last successful sync holds, in every image that a crash may leave now, the byte of that sync.
pub Leaves-last_synced : (s : Story) → IsSince s.now s.before → (image : List ℕ) → Leaves s.now image → (i : ℕ) → ¬ Covered i s.now.written → get_or image i 0 ≡ get_or (last_synced s) i 0
Leaves-last_synced s since image left i out = sym (left.bytes i out) ∙ sure_byte s.now s.before since i out

-- A failed call leaves what was synced last. (A write does too, by computation.)
pub last_synced-WriteFault : (at count : ℕ) (old new : Story) → WriteFault at count old new → last_synced new ≡ last_synced old
last_synced-WriteFault at count old new (TornWrite reads agrees is) = ap last_synced is
last_synced-WriteFault at count old new (IdleWrite is) = ap last_synced is ∙ same_ranges old.now.written old.now.reads old.now.reads (at_last_sync old.before) (AgreesBut-same old.now.written old.now.reads)
last_synced-WriteFault at count old new (LateWrite is) = ap last_synced is

pub last_synced-SyncFault : (old new : Story) → SyncFault old new → last_synced new ≡ last_synced old
last_synced-SyncFault old new (LostSync reads agrees is) = ap last_synced is ∙ same_ranges old.now.written old.now.reads reads (at_last_sync old.before) agrees
last_synced-SyncFault old new (LateSync is) = ap last_synced is

-- ---- from a moment at which no write is pending each call keeps the anchor
pub IsAnchored-synced : (a new : Option Story) → new ≡ synced a → IsAnchored new
IsAnchored-synced None new is = subst IsAnchored (sym is) tt
IsAnchored-synced (Some s) new is = subst IsAnchored (sym is) (AtSync (after_sync s).now (after_sync s).before refl)

pub IsAnchored-wrote : (at : ℕ) (bytes : List ℕ) (a new : Option Story) → Within at (length bytes) a → IsAnchored a → new ≡ wrote at bytes a → IsAnchored new
IsAnchored-wrote at bytes None new within since is = subst IsAnchored (sym is) tt
IsAnchored-wrote at bytes (Some s) new within since is = subst IsAnchored (sym is)
    (AfterSync (after_write at (length bytes) (splice at bytes s.now.reads) s).now s.now s.before (WroteRange (record { start = at; len = length bytes }) refl (splice-AgreesBut at bytes s.now.reads within)) since)

write_fault_since : (at count : ℕ) (old new : Story) → IsSince old.now old.before → WriteFault at count old new → IsSince new.now new.before
write_fault_since at count old new since (TornWrite reads agrees is) = subst (λ (s : Story). IsSince s.now s.before) (sym is)
    (AfterSync (after_write at count reads old).now old.now old.before (WroteRange (record { start = at; len = count }) refl agrees) since)
write_fault_since at count old new since (IdleWrite is) = subst (λ (s : Story). IsSince s.now s.before) (sym is) (AfterSync old.now old.now old.before (SameRanges refl (AgreesBut-same old.now.written old.now.reads)) since)
write_fault_since at count old new since (LateWrite is) = subst (λ (s : Story). IsSince s.now s.before) (sym is) since

pub IsAnchored-FailedWrite : (at count : ℕ) (a new : Option Story) → IsAnchored a → FailedWrite at count a new → IsAnchored new
IsAnchored-FailedWrite at count None new since failed = subst IsAnchored (sym failed) tt
IsAnchored-FailedWrite at count (Some s) None since failed = absurd failed
IsAnchored-FailedWrite at count (Some s) (Some t) since failed = write_fault_since at count s t since failed

sync_fault_since : (old new : Story) → IsSince old.now old.before → SyncFault old new → IsSince new.now new.before
sync_fault_since old new since (LostSync reads agrees is) = subst (λ (s : Story). IsSince s.now s.before) (sym is) (AfterSync (after_failed_sync reads old).now old.now old.before (SameRanges refl agrees) since)
sync_fault_since old new since (LateSync is) = subst (λ (s : Story). IsSince s.now s.before) (sym is) since

pub IsAnchored-FailedSync : (a new : Option Story) → IsAnchored a → FailedSync a new → IsAnchored new
IsAnchored-FailedSync None new since failed = subst IsAnchored (sym failed) tt
IsAnchored-FailedSync (Some s) None since failed = absurd failed
IsAnchored-FailedSync (Some s) (Some t) since failed = sync_fault_since s t since failed
