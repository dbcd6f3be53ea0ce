-- How a run of writes of pages goes on, and what a crash in it leaves.
use Rattle.std.proofs.Common.{◌≡◌, inl, inr, ⊎_elim, ℕ, ◌+◌, ◌*◌, ◌<◌, ◌≤◌, Option, Some, None, List, [], ◌∷◌, length, take, drop, refl, sym, ◌∙◌, ap, subst, arith}
use Rattle.std.proofs.lemmas.Bool.{cases_lt}
use Rattle.sb_bytes.specs.Bytes.{splice}
use Rattle.sb_bytes.proofs.BytesLaws.{slice-splice}
use Rattle.sb_disk.specs.Disk.{Range, Story, Fits, WhereTold, AgreesBut, IsIn, after_write, after_sync, wrote, FailedWrite}
use Rattle.sb_disk.specs.Moments.{LeavesOnly, LeavesTorn, Within, Sure}
use Rattle.sb_disk.proofs.RangeLemmas.{AgreesBut-more, AgreesBut-slice, splice-AgreesBut}
use Rattle.sb_disk.proofs.MomentLemmas.{started, on_write, on_failed_write}
use Rattle.sb_journal.proofs.RegionLemmas.{none_sure, sure_more}
use Rattle.sb_recover.specs.Laying.{IsWithin, AreLaid, Lays}

-- ---- ranges
abbrev range : ℕ → ℕ → Range
range at count = record { start = at; len = count }

-- a part of a range
part_of : (at count part n i : ℕ) → at ≤ part → part + n ≤ at + count → IsIn i (range part n) → IsIn i (range at count)
part_of at count part n i from to here = let a = here.0 in let b = here.1 in (omega arith, omega arith)

module _ (at count : ℕ) where
  pub IsWithin-none : (s : Story) → IsWithin at count s s
  IsWithin-none s = record { bytes = record { size = refl; bytes = λ i out. refl }; pending = λ i covered. inr covered }

  -- what a write of a part may leave is what one of the whole range may
  pub IsWithin-torn : (part n : ℕ) (s t : Story) (image : List ℕ) → at ≤ part → part + n ≤ at + count → IsWithin at count s t → LeavesTorn part n (Some t) image → LeavesTorn at count (Some s) image
  IsWithin-torn part n s t image from to within torn = record {
    size = within.bytes.size ∙ torn.size;
    bytes = λ i out. within.bytes.bytes i (λ covered. ⊎_elim (λ (here : IsIn i (range at count)). out (inl here)) (λ none. none) covered)
        ∙ torn.bytes i (λ covered. ⊎_elim (λ (here : IsIn i (range part n)). out (inl (part_of at count part n i from to here))) (λ there. out (within.pending i there)) covered);
  }

  -- a change of a part behind it
  pub IsWithin-then : (part n : ℕ) (s t u : Story) → at ≤ part → part + n ≤ at + count → IsWithin at count s t → IsWithin part n t u → IsWithin at count s u
  IsWithin-then part n s t u from to first second = record {
    bytes = record {
      size = first.bytes.size ∙ second.bytes.size;
      bytes = λ i out. first.bytes.bytes i out
          ∙ second.bytes.bytes i (λ covered. ⊎_elim (λ (here : IsIn i (range part n)). out (inl (part_of at count part n i from to here))) (λ none. none) covered);
    };
    pending = λ i covered. ⊎_elim
        (λ (here : IsIn i (range part n)). inl (part_of at count part n i from to here))
        (λ there. first.pending i there)
        (second.pending i covered);
  }

  pub IsWithin-sync : (s t : Story) → IsWithin at count s t → IsWithin at count s (after_sync t)
  IsWithin-sync s t within = record { bytes = within.bytes; pending = λ i none. absurd none }

-- one write
pub IsWithin-wrote : (at : ℕ) (bytes : List ℕ) (t : Story) → at + length bytes ≤ length t.now.reads → IsWithin at (length bytes) t (after_write at (length bytes) (splice at bytes t.now.reads) t)
IsWithin-wrote at bytes t fits = record { bytes = splice-AgreesBut at bytes t.now.reads fits; pending = λ i covered. covered }

-- a larger range
pub IsWithin-wider : (at count part n : ℕ) (t u : Story) → at ≤ part → part + n ≤ at + count → IsWithin part n t u → IsWithin at count t u
IsWithin-wider at count part n t u from to within = IsWithin-then at count part n t t u from to (IsWithin-none at count t) within

-- ---- one page more
module _ (at : ℕ) (page : ℕ → List ℕ) (k : ℕ) where
  -- it doesn't reach those before it
  earlier_sure : (q : ℕ) → q < k → Sure (at + 4096 * q) 4096 (range (at + 4096 * k) 4096 ∷ [])
  earlier_sure q lt = sure_more (at + 4096 * q) 4096 (range (at + 4096 * k) 4096) [] (none_sure (at + 4096 * q) 4096) (inl (omega arith))

  module _ (bytes : List ℕ) (long : length bytes ≡ 4096) (is : bytes ≡ page k) (s t : Story) (fits : at + 4096 * (k + 1) ≤ length t.now.reads) (laid : AreLaid at k page s t) where
    abbrev after : List ℕ
    after = splice (at + 4096 * k) bytes t.now.reads

    agrees : AgreesBut (range (at + 4096 * k) 4096 ∷ []) t.now.reads after
    agrees = subst (λ (n : ℕ). AgreesBut (range (at + 4096 * k) n ∷ []) t.now.reads after) long (splice-AgreesBut (at + 4096 * k) bytes t.now.reads (omega arith))

    this_page : take 4096 (drop (at + 4096 * k) after) ≡ page k
    this_page = subst (λ (n : ℕ). take n (drop (at + 4096 * k) after) ≡ page k) long (slice-splice (at + 4096 * k) bytes t.now.reads (omega arith) ∙ is)

    pages_more : (q : ℕ) → q < k + 1 → take 4096 (drop (at + 4096 * q) after) ≡ page q
    pages_more q lt = ⊎_elim
        (λ (earlier : q < k). sym (AgreesBut-slice (range (at + 4096 * k) 4096 ∷ []) t.now.reads after (at + 4096 * q) 4096 agrees (earlier_sure q earlier)) ∙ laid.pages q earlier)
        (λ (here : k ≤ q). let same : k ≡ q = omega arith in subst (λ (m : ℕ). take 4096 (drop (at + 4096 * m) after) ≡ page m) same this_page)
        (cases_lt q k)

    AreLaid-more : AreLaid at (k + 1) page s (after_write (at + 4096 * k) (length bytes) after t)
    AreLaid-more = record {
      pages = pages_more;
      within = IsWithin-then at (4096 * (k + 1)) (at + 4096 * k) (length bytes) s t (after_write (at + 4096 * k) (length bytes) after t) (omega arith) (omega arith)
          (IsWithin-wider at (4096 * (k + 1)) at (4096 * k) s t (omega arith) (omega arith) laid.within)
          (IsWithin-wrote (at + 4096 * k) bytes t (omega arith));
    }

-- ---- a run of such writes
module _ (at count : ℕ) (page : ℕ → List ℕ) where
  pub Lays-none : (told : Option Story) → Lays at count 0 page told told
  Lays-none None = record { laid = refl; leaves = started None (LeavesTorn at (4096 * count) None) (λ image left. left) }
  Lays-none (Some s) = record {
    laid = record { pages = λ k none. absurd (omega arith); within = IsWithin-none at (4096 * 0) s };
    leaves = started (Some s) (LeavesTorn at (4096 * count) (Some s)) (λ image left. AgreesBut-more (range at (4096 * count)) s.now.written s.now.reads image left);
  }

  module _ (size clock k : ℕ) (old told new : Option Story) (fits : Fits size clock told) (room : at + 4096 * count ≤ size) (lt : k < count) (lays : Lays at count k page old told) where
    torn_page : (old told : Option Story) → WhereTold old told (AreLaid at k page) → (image : List ℕ) → LeavesTorn (at + 4096 * k) 4096 told image → LeavesTorn at (4096 * count) old image
    torn_page None told laid image torn = subst (λ (o : Option Story). LeavesTorn (at + 4096 * k) 4096 o image) laid torn
    torn_page (Some s) None laid image torn = absurd laid
    torn_page (Some s) (Some t) laid image torn =
        IsWithin-torn at (4096 * count) (at + 4096 * k) 4096 s t image (omega arith) (omega arith) (IsWithin-wider at (4096 * count) at (4096 * k) s t (omega arith) (omega arith) laid.within) torn

    pub Lays-failed : FailedWrite (at + 4096 * k) 4096 told new → LeavesOnly old new (LeavesTorn at (4096 * count) old)
    Lays-failed failed = on_failed_write old told new (LeavesTorn at (4096 * count) old) (at + 4096 * k) 4096 lays.leaves failed (torn_page old told lays.laid)

    module _ (bytes : List ℕ) (long : length bytes ≡ 4096) (is : bytes ≡ page k) (wrote_is : new ≡ wrote (at + 4096 * k) bytes told) where
      fits_on : (told : Option Story) → Fits size clock told → Within (at + 4096 * k) (length bytes) told
      fits_on None fits = tt
      fits_on (Some t) fits = let e : length t.now.reads ≡ size = fits.bytes in omega arith

      laid_more : (old told new : Option Story) → Fits size clock told → WhereTold old told (AreLaid at k page) → new ≡ wrote (at + 4096 * k) bytes told → WhereTold old new (AreLaid at (k + 1) page)
      laid_more None told new fits laid is_wrote = is_wrote ∙ ap (wrote (at + 4096 * k) bytes) laid
      laid_more (Some s) None new fits laid is_wrote = absurd laid
      laid_more (Some s) (Some t) new fits laid is_wrote =
          let e : length t.now.reads ≡ size = fits.bytes in
          subst (λ (n : Option Story). WhereTold (Some s) n (AreLaid at (k + 1) page)) (sym is_wrote) (AreLaid-more at page k bytes long is s t (omega arith) laid)

      pub Lays-more : Lays at count (k + 1) page old new
      Lays-more = record {
        laid = laid_more old told new fits lays.laid wrote_is;
        leaves = on_write old told new (LeavesTorn at (4096 * count) old) (at + 4096 * k) bytes (fits_on told fits) lays.leaves wrote_is
            (λ image torn. torn_page old told lays.laid image (subst (λ (n : ℕ). LeavesTorn (at + 4096 * k) n told image) long torn));
      }
