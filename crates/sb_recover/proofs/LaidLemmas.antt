-- What the writes of a new store leave of a disk.
use Rattle.std.proofs.Common.{◌≡◌, ◌⊎◌, inl, inr, ℕ, ◌+◌, ◌-◌, ◌*◌, ◌/◌, ◌%◌, ◌<◌, ◌≤◌, Option, Some, None, Result, Ok, OnOk, OnErr, List, [], ◌∷◌, length, get_or, take, drop, refl, sym, ◌∙◌, ap, subst, arith}
use Rattle.std.proofs.lemmas.List.{get_or-take, get_or-drop}
use Rattle.sb_bytes.specs.Bytes.{splice}
use Rattle.sb_bytes.proofs.BytesLaws.{slice-splice}
use Rattle.sb_disk.specs.Disk.{Range, Story, Fits, WhereTold, after_write, after_sync, wrote, synced, FailedWrite}
use Rattle.sb_disk.specs.Moments.{LeavesOnly, LeavesTorn, Within, Sure}
use Rattle.sb_disk.proofs.RangeLemmas.{AgreesBut-more, AgreesBut-slice, AgreesBut-byte}
use Rattle.sb_disk.proofs.MomentLemmas.{started, weaker, and_then, on_write_call}
use Rattle.sb_journal.proofs.RegionLemmas.{none_sure, sure_more}
use Rattle.sb_log.specs.declared.geometry.Geometry.{Geometry}
use Rattle.sb_images.specs.Layout.{need}
use Rattle.sb_recover.specs.FirstPages.{super_page, free_page, first_page}
use Rattle.sb_recover.specs.Laying.{IsWithin, AreLaid, KeepsLog, IsLaid}
use Rattle.sb_recover.proofs.FirstPageLemmas.{free_page-byte}
use Rattle.sb_recover.proofs.LayingLemmas.{IsWithin-none, IsWithin-torn, IsWithin-then, IsWithin-sync, IsWithin-wrote, IsWithin-wider}

-- ---- bytes that a change doesn't reach
abbrev range : ℕ → ℕ → Range
range at count = record { start = at; len = count }

off : (at count i n : ℕ) → (i + n ≤ at) ⊎ (at + count ≤ i) → Sure i n (range at count ∷ [])
off at count i n apart = sure_more i n (range at count) [] (none_sure i n) apart

pub IsWithin-slice : (at count i n : ℕ) (s t : Story) → (i + n ≤ at) ⊎ (at + count ≤ i) → IsWithin at count s t → take n (drop i t.now.reads) ≡ take n (drop i s.now.reads)
IsWithin-slice at count i n s t apart within = sym (AgreesBut-slice (range at count ∷ []) s.now.reads t.now.reads i n within.bytes (off at count i n apart))

pub IsWithin-byte : (at count i : ℕ) (s t : Story) → (i + 1 ≤ at) ⊎ (at + count ≤ i) → IsWithin at count s t → get_or t.now.reads i 0 ≡ get_or s.now.reads i 0
IsWithin-byte at count i s t apart within = sym (AgreesBut-byte (range at count ∷ []) s.now.reads t.now.reads i 1 i within.bytes (off at count i 1 apart) (omega arith) (omega arith))

-- ---- the three writes
module _ (g : Geometry) (s t u v : Story) where
  abbrev all : ℕ
  all = 69631 + g.log + 4096 * g.pages

  module _ (named : IsWithin 1 4095 s t) (super : take 4095 (drop 1 t.now.reads) ≡ drop 1 (super_page g)) (gates : AreLaid 4096 16 (λ k. free_page) t u) (pages : AreLaid (69632 + g.log) g.pages (first_page g.pages) u v) where
    gate_byte : (k j : ℕ) → k < 16 → j < 4096 → get_or u.now.reads (4096 + 4096 * k + j) 0 ≡ 0
    gate_byte k j row place =
        sym (get_or-drop (4096 + 4096 * k) u.now.reads j 0) ∙ sym (get_or-take 4096 (drop (4096 + 4096 * k) u.now.reads) j 0 place)
        ∙ ap (λ (l : List ℕ). get_or l j 0) (gates.pages k row) ∙ free_page-byte j

    gates_shut : (i : ℕ) → 4096 ≤ i → i < 69632 → get_or v.now.reads i 0 ≡ 0
    gates_shut i from to =
        let k = (i - 4096) / 4096 in
        let j = (i - 4096) % 4096 in
        let place : 4096 + 4096 * k + j ≡ i = omega arith in
        let row : k < 16 = omega arith in
        let short : j < 4096 = omega arith in
        IsWithin-byte (69632 + g.log) (4096 * g.pages) i u v (inl (omega arith)) pages.within
        ∙ ap (λ (m : ℕ). get_or u.now.reads m 0) (sym place) ∙ gate_byte k j row short

    log_kept : KeepsLog g s v
    log_kept i from to =
        IsWithin-byte (69632 + g.log) (4096 * g.pages) i u v (inl (omega arith)) pages.within
        ∙ IsWithin-byte 4096 (4096 * 16) i t u (inr (omega arith)) gates.within
        ∙ IsWithin-byte 1 4095 i s t (inr (omega arith)) named

    all_within : IsWithin 1 all s v
    all_within = IsWithin-then 1 all (69632 + g.log) (4096 * g.pages) s u v (omega arith) (omega arith)
        (IsWithin-then 1 all 4096 (4096 * 16) s t u (omega arith) (omega arith) (IsWithin-wider 1 all 1 4095 s t (omega arith) (omega arith) named) gates.within)
        pages.within

    IsLaid-sync : IsLaid g s (after_sync v)
    IsLaid-sync = record {
      settled = refl;
      super = IsWithin-slice (69632 + g.log) (4096 * g.pages) 1 4095 u v (inl (omega arith)) pages.within
          ∙ IsWithin-slice 4096 (4096 * 16) 1 4095 t u (inl (omega arith)) gates.within ∙ super;
      gates = gates_shut;
      pages = pages.pages;
      log = log_kept;
      within = IsWithin-sync 1 all s v all_within;
    }

-- ---- the same of what is told
-- a story that was none is none
none_still : (o p : Option Story) (R : Story → Story → Type 0) → o ≡ None → WhereTold o p R → p ≡ None
none_still o p R is told = subst (λ (q : Option Story). WhereTold q p R) is told

module _ (g : Geometry) (bytes : List ℕ) (long : length bytes ≡ 4095) (is : bytes ≡ drop 1 (super_page g)) where
  named_on : (s : Story) → need g.pages g.log ≤ length s.now.reads → IsWithin 1 4095 s (after_write 1 (length bytes) (splice 1 bytes s.now.reads) s)
  named_on s room = IsWithin-wider 1 4095 1 (length bytes) s (after_write 1 (length bytes) (splice 1 bytes s.now.reads) s) (omega arith) (omega arith) (IsWithin-wrote 1 bytes s (omega arith))

  super_on : (s : Story) → need g.pages g.log ≤ length s.now.reads → take 4095 (drop 1 (splice 1 bytes s.now.reads)) ≡ drop 1 (super_page g)
  super_on s room = subst (λ (n : ℕ). take n (drop 1 (splice 1 bytes s.now.reads)) ≡ drop 1 (super_page g)) long (slice-splice 1 bytes s.now.reads (omega arith) ∙ is)

  laid_some : (s : Story) (mid last : Option Story) → need g.pages g.log ≤ length s.now.reads → WhereTold (wrote 1 bytes (Some s)) mid (AreLaid 4096 16 (λ k. free_page))
      → WhereTold mid last (AreLaid (69632 + g.log) g.pages (first_page g.pages)) → WhereTold (Some s) (synced last) (IsLaid g)
  laid_some s None last room gates pages = absurd gates
  laid_some s (Some u) None room gates pages = absurd pages
  laid_some s (Some u) (Some v) room gates pages =
      IsLaid-sync g s (after_write 1 (length bytes) (splice 1 bytes s.now.reads) s) u v (named_on s room) (super_on s room) gates pages

  pub IsLaid-on : (size clock : ℕ) (o p q r new : Option Story) → Fits size clock o → need g.pages g.log ≤ size → p ≡ wrote 1 bytes o → WhereTold p q (AreLaid 4096 16 (λ k. free_page))
      → WhereTold q r (AreLaid (69632 + g.log) g.pages (first_page g.pages)) → new ≡ synced r → WhereTold o new (IsLaid g)
  IsLaid-on size clock None p q r new fits room named gates pages is_synced =
      is_synced ∙ ap synced (none_still q r (AreLaid (69632 + g.log) g.pages (first_page g.pages)) (none_still p q (AreLaid 4096 16 (λ k. free_page)) named gates) pages)
  IsLaid-on size clock (Some s) p q r new fits room named gates pages is_synced =
      let e : length s.now.reads ≡ size = fits.bytes in
      subst (λ (n : Option Story). WhereTold (Some s) n (IsLaid g)) (sym is_synced)
      (laid_some s q r (omega arith) (subst (λ (o : Option Story). WhereTold o q (AreLaid 4096 16 (λ k. free_page))) named gates) pages)

-- ---- what a crash leaves
module _ (at count : ℕ) where
  torn_behind : (part n : ℕ) (o p : Option Story) → at ≤ part → part + n ≤ at + count → WhereTold o p (IsWithin at count) → (image : List ℕ) → LeavesTorn part n p image → LeavesTorn at count o image
  torn_behind part n None p from to within image torn = subst (λ (q : Option Story). LeavesTorn part n q image) within torn
  torn_behind part n (Some s) None from to within image torn = absurd within
  torn_behind part n (Some s) (Some t) from to within image torn = IsWithin-torn at count part n s t image from to within torn

  within_none : (o : Option Story) → WhereTold o o (IsWithin at count)
  within_none None = refl
  within_none (Some s) = IsWithin-none at count s

  pub within_then : (part n : ℕ) (o p q : Option Story) → at ≤ part → part + n ≤ at + count → WhereTold o p (IsWithin at count) → WhereTold p q (IsWithin part n) → WhereTold o q (IsWithin at count)
  within_then part n None p q from to first second = none_still p q (IsWithin part n) first second
  within_then part n (Some s) None q from to first second = absurd first
  within_then part n (Some s) (Some t) None from to first second = second
  within_then part n (Some s) (Some t) (Some u) from to first second = IsWithin-then at count part n s t u from to first second

  left_none : (o : Option Story) → LeavesOnly o o (LeavesTorn at count o)
  left_none None = started None (LeavesTorn at count None) (λ image left. left)
  left_none (Some s) = started (Some s) (LeavesTorn at count (Some s)) (λ image left. AgreesBut-more (range at count) s.now.written s.now.reads image left)

  -- a run in a part, behind one in the range
  pub left_then : (part n : ℕ) (o p q : Option Story) → at ≤ part → part + n ≤ at + count → WhereTold o p (IsWithin at count) → LeavesOnly o p (LeavesTorn at count o) → LeavesOnly p q (LeavesTorn part n p) → LeavesOnly o q (LeavesTorn at count o)
  left_then part n o p q from to within first second =
      and_then o p q (LeavesTorn at count o) first (weaker p q (LeavesTorn part n p) (LeavesTorn at count o) (torn_behind part n o p from to within) second)

  -- one write, of either end
  pub left_write : {T E : Type 0} (result : Result T E) (part : ℕ) (bytes : List ℕ) (o p : Option Story) → at ≤ part → part + length bytes ≤ at + count → Within part (length bytes) o
      → OnOk result (p ≡ wrote part bytes o) → OnErr result (FailedWrite part (length bytes) o p) → LeavesOnly o p (LeavesTorn at count o)
  left_write result part bytes o p from to fits ok err =
      on_write_call result o o p (LeavesTorn at count o) part bytes fits (left_none o) ok err (torn_behind part (length bytes) o o from to (within_none o))

within_wrote : (at : ℕ) (bytes : List ℕ) (o p : Option Story) → Within at (length bytes) o → p ≡ wrote at bytes o → WhereTold o p (IsWithin at (length bytes))
within_wrote at bytes None p fits is = is
within_wrote at bytes (Some s) p fits is = subst (λ (n : Option Story). WhereTold (Some s) n (IsWithin at (length bytes))) (sym is) (IsWithin-wrote at bytes s fits)

pub AreLaid-within : (at count : ℕ) (page : ℕ → List ℕ) (o p : Option Story) → WhereTold o p (AreLaid at count page) → WhereTold o p (IsWithin at (4096 * count))
AreLaid-within at count page None p laid = laid
AreLaid-within at count page (Some s) None laid = laid
AreLaid-within at count page (Some s) (Some t) laid = laid.within

pub Fits-within : (size clock at count : ℕ) (o : Option Story) → Fits size clock o → at + count ≤ size → Within at count o
Fits-within size clock at count None fits le = tt
Fits-within size clock at count (Some s) fits le = let e : length s.now.reads ≡ size = fits.bytes in omega arith

-- a write is within any range that has its own
pub within_write : (at count part : ℕ) (bytes : List ℕ) (o p : Option Story) → at ≤ part → part + length bytes ≤ at + count → Within part (length bytes) o → p ≡ wrote part bytes o → WhereTold o p (IsWithin at count)
within_write at count part bytes o p from to fits is = within_then at count part (length bytes) o o p from to (within_none at count o) (within_wrote part bytes o p fits is)

-- the moments of the three writes
module _ (g : Geometry) (size clock : ℕ) (bytes : List ℕ) (long : length bytes ≡ 4095) (o p : Option Story) (fits : Fits size clock o) (room : need g.pages g.log ≤ size) (named : p ≡ wrote 1 bytes o) where
  abbrev rest : ℕ
  rest = 69631 + g.log + 4096 * g.pages

  left_named : LeavesOnly o p (LeavesTorn 1 rest o)
  left_named = left_write 1 rest {T = Unit {0}} {E = Unit {0}} (Ok tt) 1 bytes o p (omega arith) (omega arith) (Fits-within size clock 1 (length bytes) o fits (omega arith)) named tt

  named_within : WhereTold o p (IsWithin 1 rest)
  named_within = within_write 1 rest 1 bytes o p (omega arith) (omega arith) (Fits-within size clock 1 (length bytes) o fits (omega arith)) named

  pub left_gates : (q : Option Story) → LeavesOnly p q (LeavesTorn 4096 (4096 * 16) p) → LeavesOnly o q (LeavesTorn 1 rest o)
  left_gates q run = left_then 1 rest 4096 (4096 * 16) o p q (omega arith) (omega arith) named_within left_named run

  pub left_pages : (q r : Option Story) → WhereTold p q (AreLaid 4096 16 (λ k. free_page)) → LeavesOnly p q (LeavesTorn 4096 (4096 * 16) p)
      → LeavesOnly q r (LeavesTorn (69632 + g.log) (4096 * g.pages) q) → LeavesOnly o r (LeavesTorn 1 rest o)
  left_pages q r gates run more = left_then 1 rest (69632 + g.log) (4096 * g.pages) o q r (omega arith) (omega arith)
      (within_then 1 rest 4096 (4096 * 16) o p q (omega arith) (omega arith) named_within (AreLaid-within 4096 16 (λ k. free_page) p q gates)) (left_gates q run) more
