-- Closing the first gate, and then the others.
use Rattle.std.proofs.Common.{◌≡◌, inl, inr, ⊎_elim, ℕ, ◌+◌, ◌-◌, ◌<◌, ◌≤◌, false, Option, Some, None, List, [], ◌∷◌, length, get_or, refl, sym, ◌∙◌, ap, subst, arith}
use Rattle.std.proofs.lemmas.Bool.{cases_eq}
use Rattle.sb_disk.specs.Disk.{Range, Story, Covered, AgreesBut, WhereTold}
use Rattle.sb_disk.specs.Moments.{LeavesOnly, LeavesTorn, Sure}
use Rattle.sb_disk.proofs.MomentLemmas.{started, weaker, and_then}
use Rattle.sb_journal.specs.Chunks.{IsOpen, ReadsAs, bytes_of, chunks_from}
use Rattle.sb_journal.specs.State.{State, chunks_of, Lies, Sound, Stands, StandsOn, IsClosing, IsClosingOn, Closed, after_close}
use Rattle.sb_journal.specs.Closing.{Zeroed}
use Rattle.sb_journal.proofs.ChunkLemmas.{total-chunks_from, reads_kept}
use Rattle.sb_journal.proofs.RegionLemmas.{Ready, lies_on, none_sure, left_by}

module _ (s : Story) (j : State) (stands : Stands s j) (lies : Lies (length s.now.reads) j.gates j.log) (sound : Sound j) where
  -- an image that agrees on the gates and on the chunks
  reads_by : (image : List ℕ) → length s.now.reads ≡ length image → ((i : ℕ) → j.gates.start ≤ i → i < j.gates.start + j.gates.len → get_or s.now.reads i 0 ≡ get_or image i 0)
      → ((i : ℕ) → j.log.start ≤ i → i < j.log.start + bytes_of j.lens → get_or s.now.reads i 0 ≡ get_or image i 0) → ReadsAs j.gates j.log image (chunks_of j s.now.reads)
  reads_by image size gates chunks =
      let fits : j.log.start + bytes_of j.lens ≤ length s.now.reads = let l = lies.log_fits in let k = sound.log in omega arith in
      let t = total-chunks_from j.log.start j.lens s.now.reads fits in
      reads_kept (chunks_of j s.now.reads) j.gates.start (j.gates.start + j.gates.len) j.log.start (j.log.start + j.log.len) s.now.reads image size
      (λ i from to lt. gates i from lt) (λ i from to. chunks i from (omega arith)) stands.reads

  off_gates : (i : ℕ) → j.log.start ≤ i → i < j.log.start + bytes_of j.lens → j.gates.start ≤ i → i < j.gates.start + j.gates.len → ⊥
  off_gates i from to lo hi = ⊎_elim
      (λ (l : j.gates.start + j.gates.len ≤ j.log.start). absurd (omega arith))
      (λ (l : j.log.start + j.log.len ≤ j.gates.start). absurd (let k = sound.log in omega arith))
      lies.apart

  -- the first gate is torn
  pub first_torn : 0 < j.gates.len → IsOpen s.now.reads j.gates.start → (image : List ℕ) → LeavesTorn j.gates.start 1 (Some s) image → IsClosing s j image
  first_torn some was image torn = record {
    chunks = ⊎_elim
        (λ (yes : get_or image j.gates.start 0 ≡ 165). inl (reads_by image torn.size
        (λ i from to. ⊎_elim
        (λ (same : i ≡ j.gates.start). ap (λ (k : ℕ). get_or s.now.reads k 0) same ∙ was ∙ sym yes ∙ ap (λ (k : ℕ). get_or image k 0) (sym same))
        (λ (other : i ≡ j.gates.start → ⊥). torn.bytes i (λ covered. ⊎_elim
        (λ (here : (j.gates.start ≤ i) × (i < j.gates.start + 1)). other (let a = here.0 in let b = here.1 in omega arith))
        (λ there. stands.gates i from to there) covered))
        (cases_eq i j.gates.start))
        (λ i from to. torn.bytes i (λ covered. ⊎_elim
        (λ (here : (j.gates.start ≤ i) × (i < j.gates.start + 1)). off_gates i from to here.0 (let b = here.1 in omega arith))
        (λ there. stands.chunks i from to there) covered))))
        (λ (no : get_or image j.gates.start 0 ≡ 165 → ⊥). inr (λ lt is. no is))
        (cases_eq (get_or image j.gates.start 0) 165);
    elsewhere = record {
      size = torn.size;
      bytes = λ i out. torn.bytes i (λ covered. ⊎_elim
          (λ (here : (j.gates.start ≤ i) × (i < j.gates.start + 1)). out (inl (here.0, (let b = here.1 in omega arith))))
          (λ there. out (inr there)) covered);
    };
  }

-- the first gate is closed on the disk, and what else changed is in the gates
pub record HalfClosed (j : State) (s t : Story) : Type 0 where
  pub shut : 0 < j.gates.len → ¬ IsOpen t.now.reads j.gates.start
  pub sure : 0 < j.gates.len → ¬ Covered j.gates.start t.now.written
  pub elsewhere : AgreesBut (j.gates ∷ []) s.now.reads t.now.reads
  pub written : (i : ℕ) → Covered i t.now.written → Covered i s.now.written

-- the first of the gates, where there is one
pub record IsFirst (j : State) (first : ℕ) : Type 0 where
  pub most : first ≤ 1
  pub fits : first ≤ j.gates.len
  pub one : 0 < j.gates.len → first ≡ 1

rest_torn : (s t : Story) (j : State) (first : ℕ) → IsFirst j first → HalfClosed j s t → (image : List ℕ) → LeavesTorn (j.gates.start + first) (j.gates.len - first) (Some t) image → IsClosing s j image
rest_torn s t j first is half image torn =
    let fits = is.fits in record {
      chunks = inr (λ lt yes.
          let one = is.one (omega arith) in
          half.shut (omega arith) (torn.bytes j.gates.start (λ covered. ⊎_elim
          (λ (here : (j.gates.start + first ≤ j.gates.start) × (j.gates.start < j.gates.start + first + (j.gates.len - first))). absurd (let a = here.0 in omega arith))
          (λ there. half.sure (omega arith) there) covered) ∙ yes));
      elsewhere = record {
        size = half.elsewhere.size ∙ torn.size;
        bytes = λ i out. half.elsewhere.bytes i (λ covered. ⊎_elim (λ here. out (inl here)) (λ none. none) covered)
            ∙ torn.bytes i (λ covered. ⊎_elim
            (λ (here : (j.gates.start + first ≤ i) × (i < j.gates.start + first + (j.gates.len - first))). out (inl ((let a = here.0 in omega arith), (let b = here.1 in omega arith))))
            (λ there. out (inr (half.written i there))) covered);
      };
    }

-- after the zeros of the first gate
half_zeroed : (s t : Story) (j : State) → 0 < j.gates.len → Zeroed j.gates.start 1 s t → HalfClosed j s t
half_zeroed s t j some zeroed = record {
  shut = λ lt is. let z = zeroed.zeros j.gates.start (omega arith) (omega arith) in absurd (omega arith);
  sure = λ lt covered. subst (λ (ranges : List Range). Covered j.gates.start ranges) zeroed.settled covered;
  elsewhere = record {
    size = zeroed.elsewhere.size;
    bytes = λ i out. zeroed.elsewhere.bytes i (λ covered. ⊎_elim
        (λ (here : (j.gates.start ≤ i) × (i < j.gates.start + 1)). out (inl (here.0, (let b = here.1 in omega arith)))) (λ none. none) covered);
  };
  written = λ i covered. absurd (subst (λ (ranges : List Range). Covered i ranges) zeroed.settled covered);
}

-- where there is no chunk the first gate is closed already
half_none : (s : Story) (j : State) → Stands s j → j.lens ≡ [] → HalfClosed j s s
half_none s j stands none = record {
  shut = λ some. subst (λ (lens : List ℕ). ReadsAs j.gates j.log s.now.reads (chunks_from j.log.start lens s.now.reads)) none stands.reads (omega arith);
  sure = λ some covered. stands.gates j.gates.start (omega arith) (omega arith) covered;
  elsewhere = record { size = refl; bytes = λ i out. refl };
  written = λ i covered. covered;
}

closed_rest : (s t u : Story) (j : State) (first : ℕ) → IsFirst j first → HalfClosed j s t → Zeroed (j.gates.start + first) (j.gates.len - first) t u → Closed j (after_close j) s u
closed_rest s t u j first is half zeroed =
    let fits = is.fits in
    let shut : 0 < j.gates.len → ¬ IsOpen u.now.reads j.gates.start = λ some yes.
    let one = is.one some in
    let gate : get_or t.now.reads j.gates.start 0 ≡ get_or u.now.reads j.gates.start 0 = zeroed.elsewhere.bytes j.gates.start (λ covered. ⊎_elim
    (λ (here : (j.gates.start + first ≤ j.gates.start) × (j.gates.start < j.gates.start + first + (j.gates.len - first))). absurd (let a = here.0 in omega arith)) (λ none. none) covered) in
    half.shut some (gate ∙ yes) in
    record {
      stands = record {
        reads = λ lt. shut (omega arith);
        gates = subst (λ (ranges : List Range). Sure j.gates.start j.gates.len ranges) (sym zeroed.settled) (none_sure j.gates.start j.gates.len);
        chunks = λ i from to covered. absurd (omega arith);
        shut = (
          (λ clean i from to yes. ⊎_elim
              (λ (same : i ≡ j.gates.start). shut (omega arith) (subst (λ (k : ℕ). get_or u.now.reads k 0 ≡ 165) same yes))
              (λ (other : i ≡ j.gates.start → ⊥).
              let most = is.most in
              let behind : j.gates.start + 1 ≤ i = omega arith in
              let z = zeroed.zeros i (omega arith) (omega arith) in absurd (omega arith))
              (cases_eq i j.gates.start)),
          (λ none. refl),
        );
      };
      elsewhere = record {
        size = half.elsewhere.size ∙ zeroed.elsewhere.size;
        bytes = λ i out. half.elsewhere.bytes i out ∙ zeroed.elsewhere.bytes i (λ covered. ⊎_elim
            (λ (here : (j.gates.start + first ≤ i) × (i < j.gates.start + first + (j.gates.len - first))). out (inl ((let a = here.0 in omega arith), (let b = here.1 in omega arith)))) (λ none. none) covered);
      };
      settled = zeroed.settled;
    }

-- ---- the same of what is told
pub close_none : (told : Option Story) (size clock : ℕ) (j : State) → Ready told size clock j → LeavesOnly told told (IsClosingOn told j)
close_none None size clock j ready = started None (IsClosingOn None j) (λ image left. left)
close_none (Some s) size clock j ready =
    started (Some s) (IsClosingOn (Some s) j) (λ image left up. record {
      chunks = inl (left_by s j (ready.stands up) (lies_on s size j ready.fits.bytes ready.lies) ready.sound image left);
      elsewhere = record { size = left.size; bytes = λ i out. left.bytes i (λ covered. out (inr covered)) };
    })

first_open : (s : Story) (j : State) → Stands s j → 0 < length j.lens → IsOpen s.now.reads j.gates.start
first_open s j stands some = go j.lens some stands.reads
  where
    go : (lens : List ℕ) → 0 < length lens → ReadsAs j.gates j.log s.now.reads (chunks_from j.log.start lens s.now.reads) → IsOpen s.now.reads j.gates.start
    go [] lt reads = absurd (omega arith)
    go (n ∷ lens) lt reads = reads.1

pub close_first : (told new : Option Story) (size clock : ℕ) (j : State) → Ready told size clock j → 0 < length j.lens → LeavesOnly told new (LeavesTorn j.gates.start 1 told) → LeavesOnly told new (IsClosingOn told j)
close_first None new size clock j ready some run = weaker None new (LeavesTorn j.gates.start 1 None) (IsClosingOn None j) (λ image left. left) run
close_first (Some s) new size clock j ready some run =
    weaker (Some s) new (LeavesTorn j.gates.start 1 (Some s)) (IsClosingOn (Some s) j)
    (λ image torn up. first_torn s j (ready.stands up) (lies_on s size j ready.fits.bytes ready.lies) ready.sound (let g = ready.sound.gates in omega arith) (first_open s j (ready.stands up) some) image torn) run

pub close_rest : (told mid new : Option Story) (j : State) (first : ℕ) → IsFirst j first → WhereTold told mid (HalfClosed j) → LeavesOnly told mid (IsClosingOn told j)
    → LeavesOnly mid new (LeavesTorn (j.gates.start + first) (j.gates.len - first) mid) → LeavesOnly told new (IsClosingOn told j)
close_rest None mid new j first is half before run =
    and_then None mid new (IsClosingOn None j) before
    (weaker mid new (LeavesTorn (j.gates.start + first) (j.gates.len - first) mid) (IsClosingOn None j) (λ image left. subst (λ (m : Option Story). LeavesTorn (j.gates.start + first) (j.gates.len - first) m image) half left) run)
close_rest (Some s) None new j first is half before run = absurd half
close_rest (Some s) (Some t) new j first is half before run =
    and_then (Some s) (Some t) new (IsClosingOn (Some s) j) before
    (weaker (Some t) new (LeavesTorn (j.gates.start + first) (j.gates.len - first) (Some t)) (IsClosingOn (Some s) j) (λ image torn up. rest_torn s t j first is half image torn) run)

pub half_zeroed_on : (told new : Option Story) (j : State) → 0 < j.gates.len → WhereTold told new (Zeroed j.gates.start 1) → WhereTold told new (HalfClosed j)
half_zeroed_on None new j some zeroed = zeroed
half_zeroed_on (Some s) None j some zeroed = absurd zeroed
half_zeroed_on (Some s) (Some t) j some zeroed = half_zeroed s t j some zeroed

pub half_none_on : (told : Option Story) (j : State) → StandsOn told j → j.failed ≡ false → j.lens ≡ [] → WhereTold told told (HalfClosed j)
half_none_on None j stands up none = refl
half_none_on (Some s) j stands up none = half_none s j (stands up) none

pub closed_on : (told mid new : Option Story) (j : State) (first : ℕ) → IsFirst j first → WhereTold told mid (HalfClosed j) → WhereTold mid new (Zeroed (j.gates.start + first) (j.gates.len - first)) → WhereTold told new (Closed j (after_close j))
closed_on None mid new j first is half zeroed = go mid half zeroed
  where
    go : (mid : Option Story) → mid ≡ None → WhereTold mid new (Zeroed (j.gates.start + first) (j.gates.len - first)) → new ≡ None
    go None none e = e
    go (Some t) none e = absurd (cc none)
closed_on (Some s) None new j first is half zeroed = absurd half
closed_on (Some s) (Some t) None j first is half zeroed = absurd zeroed
closed_on (Some s) (Some t) (Some u) j first is half zeroed = closed_rest s t u j first is half zeroed

pub Closed-StandsOn : (a b : Option Story) (j k : State) → WhereTold a b (Closed j k) → StandsOn b k
Closed-StandsOn None b j k now = subst (λ (n : Option Story). StandsOn n k) (sym now) tt
Closed-StandsOn (Some s) None j k now = absurd now
Closed-StandsOn (Some s) (Some t) j k now = λ up. now.stands
