-- What each step makes of a store's disk.
use Rattle.std.proofs.Common.{◌≡◌, ◌⊎◌, inl, inr, ⊎_elim, ℕ, suc, zero, ◌+◌, ◌<◌, ◌≤◌, true, List, [], ◌∷◌, ◌++◌, length, take, drop, refl, sym, ◌∙◌, ap, subst, arith, append_assoc}
use Rattle.std.proofs.lemmas.Bool.{cases_order, cases_eq}
use Rattle.std.proofs.lemmas.List.{append-nil}
use Rattle.sb_bytes.specs.Bytes.{splice}
use Rattle.sb_bytes.proofs.BytesLaws.{slice-splice}
use Rattle.sb_disk.specs.Disk.{Range, Story, AgreesBut, after_write, after_sync}
use Rattle.sb_disk.specs.Moments.{Sure}
use Rattle.sb_disk.proofs.RangeLemmas.{AgreesBut-slice, splice-AgreesBut}
use Rattle.sb_journal.specs.Chunks.{bytes_of}
use Rattle.sb_journal.specs.State.{State, Sound, Stands, chunks_of, pending_of, pending_chunk, room_of, Appended, Forced, Closed, after_append, after_force, after_close}
use Rattle.sb_journal.proofs.ChunkLemmas.{chunks_from_kept}
use Rattle.sb_journal.proofs.RegionLemmas.{none_sure, sure_more, AgreesBut-gates}
use Rattle.sb_journal.proofs.ForeignLemmas.{foreign_stands}
use Rattle.sb_log.specs.declared.geometry.Geometry.{Geometry}
use Rattle.sb_log.specs.Records.{Record, Begin, Image, Changed, Back, Commit, AreRecords, Spells, spelled}
use Rattle.sb_log.specs.Restored.{restored, imaged, IsCoveredBehind, IsCovered, IsHarmless, AreHarmless}
use Rattle.sb_log.proofs.RowLemmas.{spelled-append, spelled_none, AreRecords-append, Spells-more}
use Rattle.sb_log.proofs.RestoredLemmas.{imaged-append, base-imaged, restored-imaged, IsCoveredBehind-append}
use Rattle.sb_images.specs.Layout.{place_of, page_at, IsStoreOf}
use Rattle.sb_images.specs.Store.{IsPlaced, HoldsRecords, IsPlain, restored_on, IsReadyFor, AllOpen, IsStolen}
use Rattle.sb_images.proofs.LayoutLemmas.{page_within, page_off_gates, page_off_log, super_off_gates, super_off_log, IsOff-page, log_before, super_off_page, page_off_page, page_at-AgreesBut, IsStoreOf-AgreesBut}
use Rattle.sb_images.proofs.HoldLemmas.{IsPlaced-lies, restored_on-plain, backed-write}

-- the pending bytes lie in the log
tail_sure : (at used len place n k : ℕ) → used + room_of k ≤ len → at + len ≤ place → Sure (at + used + 4) k (record { start = place; len = n } ∷ [])
tail_sure at used len place n zero fits before = λ i from to covered. absurd (omega arith)
tail_sure at used len place n (suc m) fits before =
    let f : used + (4 + suc m) ≤ len = fits in
    sure_more (at + used + 4) (suc m) (record { start = place; len = n }) [] (none_sure (at + used + 4) (suc m)) (inl (omega arith))

-- the pending bytes as a chunk, where there are any
one_chunk : (n : ℕ) (bytes : List ℕ) → 0 < n → pending_chunk n bytes ≡ bytes ∷ []
one_chunk zero bytes some = absurd (omega arith)
one_chunk (suc n) bytes some = refl

-- some or none
none_or_some : (n : ℕ) → (n ≡ 0) ⊎ (0 < n)
none_or_some zero = inl refl
none_or_some (suc n) = inr (omega arith)

-- the journal stands in the same regions, in another state
IsPlaced-next : (s t : Story) (j k : State) (g : Geometry) → IsPlaced s j g → IsStoreOf g t.now.reads → Sure 0 4096 t.now.written → k.gates ≡ j.gates → k.log ≡ j.log → k.failed ≡ j.failed → Sound k → Stands t k → IsPlaced t k g
IsPlaced-next s t j k g placed store super gates log failed sound stands = record {
  store = store;
  super = super;
  gates = gates ∙ placed.gates;
  log = log ∙ placed.log;
  sound = sound;
  up = failed ∙ placed.up;
  stands = stands;
}

-- ---- an append
module _ (s t : Story) (j k : State) (g : Geometry) (opened pending more : List Record) (n : ℕ) (done : k ≡ after_append n j) (sound : Sound k) (appended : Appended (spelled more) j k s t) where
  sure_append : (at count : ℕ) → Sure at count (j.log ∷ []) → Sure at count s.now.written → Sure at count t.now.written
  sure_append at count off sure i from to covered = ⊎_elim (λ there. sure i from to there) (λ here. off i from to here) (appended.written i covered)

  pub page_at-append : IsPlaced s j g → (p : ℕ) → page_at g p t.now.reads ≡ page_at g p s.now.reads
  page_at-append placed p = page_at-AgreesBut g p (j.log ∷ []) s.now.reads t.now.reads appended.elsewhere (page_off_log g j placed.gates placed.log p [] (none_sure (place_of g p) 4096))

  pub HoldsRecords-append : HoldsRecords s j g opened pending → IsCoveredBehind (opened ++ pending) more → AreRecords more → HoldsRecords t k g opened (pending ++ more)
  HoldsRecords-append holds covered all = record {
    placed =
        let placed = holds.placed in
        let off = super_off_log g j placed.gates placed.log [] (none_sure 0 4096) in
        IsPlaced-next s t j k g placed (IsStoreOf-AgreesBut g (j.log ∷ []) s.now.reads t.now.reads appended.elsewhere off placed.store) (sure_append 0 4096 off placed.super)
        (ap (λ (x : State). x.gates) done) (ap (λ (x : State). x.log) done) (ap (λ (x : State). x.failed) done) sound appended.stands;
    forced = subst (λ (cs : List (List ℕ)). Spells cs opened) (sym appended.chunks) holds.forced;
    tail = appended.pending ∙ ap (λ (l : List ℕ). l ++ spelled more) holds.tail ∙ sym (spelled-append pending more);
    sound = subst (λ (l : List Record). AreRecords l) (append_assoc opened pending more) (AreRecords-append (opened ++ pending) more holds.sound all);
    covered = subst (λ (l : List Record). IsCovered l) (append_assoc opened pending more) (IsCoveredBehind-append [] (opened ++ pending) more holds.covered covered);
    backed = λ p lt. ⊎_elim (λ (is : imaged opened p ≡ true). inl is)
        (λ (sure : Sure (place_of g p) 4096 s.now.written). inr (sure_append (place_of g p) 4096 (page_off_log g j holds.placed.gates holds.placed.log p [] (none_sure (place_of g p) 4096)) sure))
        (holds.backed p lt);
  }

  pub restored_on-append : IsPlaced s j g → (recs : List Record) (p : ℕ) → restored_on t g recs p ≡ restored_on s g recs p
  restored_on-append placed recs p = ap (λ (d : List ℕ). restored recs p d) (page_at-append placed p)

  pub IsReadyFor-append : (want : ℕ → List ℕ) → IsReadyFor want s j g opened pending → IsCoveredBehind (opened ++ pending) more → AreRecords more → IsPlain s g opened (pending ++ more) → IsReadyFor want t k g opened (pending ++ more)
  IsReadyFor-append want ready covered all plain = record {
    holds = HoldsRecords-append ready.holds covered all;
    plain = λ p lt. subst (λ (d : List ℕ). AreHarmless opened p d (pending ++ more)) (sym (page_at-append ready.holds.placed p)) (plain p lt);
    same = λ p lt. restored_on-append ready.holds.placed opened p ∙ ready.same p lt;
  }

-- ---- a force
module _ (s t : Story) (j k : State) (g : Geometry) (opened pending : List Record) (done : k ≡ after_force j) (sound : Sound k) (forced : Forced j k s t) where
  -- where no byte is pending, none is after it
  sure_force : (at count : ℕ) → Sure at count s.now.written → Sure at count t.now.written
  sure_force at count sure = ⊎_elim
      (λ (none : j.pending ≡ 0). subst (λ (u : Story). Sure at count u.now.written) (sym (forced.idle none)) sure)
      (λ (some : 0 < j.pending). subst (λ (w : List Range). Sure at count w) (sym (forced.settled some)) (none_sure at count))
      (none_or_some j.pending)

  pub page_at-force : IsPlaced s j g → (p : ℕ) → page_at g p t.now.reads ≡ page_at g p s.now.reads
  page_at-force placed p = page_at-AgreesBut g p (j.gates ∷ j.log ∷ []) s.now.reads t.now.reads (AgreesBut-gates j (j.log ∷ []) s.now.reads t.now.reads forced.elsewhere)
      (page_off_gates g j placed.gates placed.log p (j.log ∷ []) (page_off_log g j placed.gates placed.log p [] (none_sure (place_of g p) 4096)))

  spells_force : HoldsRecords s j g opened pending → Spells (chunks_of k t.now.reads) (opened ++ pending)
  spells_force holds = subst (λ (cs : List (List ℕ)). Spells cs (opened ++ pending)) (sym forced.chunks) (⊎_elim
      (λ (none : j.pending ≡ 0).
      let empty : pending ≡ [] = spelled_none pending (sym holds.tail ∙ ap (λ (m : ℕ). take m (drop (j.log.start + bytes_of j.lens + 4) s.now.reads)) none) in
      let chunks : chunks_of j s.now.reads ++ pending_chunk j.pending (pending_of j s.now.reads) ≡ chunks_of j s.now.reads =
      ap (λ (m : ℕ). chunks_of j s.now.reads ++ pending_chunk m (pending_of j s.now.reads)) none ∙ append-nil (chunks_of j s.now.reads) in
      subst (λ (cs : List (List ℕ)). Spells cs (opened ++ pending)) (sym chunks)
      (subst (λ (l : List Record). Spells (chunks_of j s.now.reads) l) (sym (ap (λ (l : List Record). opened ++ l) empty ∙ append-nil opened)) holds.forced))
      (λ (some : 0 < j.pending).
      subst (λ (l : List (List ℕ)). Spells (chunks_of j s.now.reads ++ l) (opened ++ pending)) (sym (one_chunk j.pending (pending_of j s.now.reads) some))
      (subst (λ (l : List ℕ). Spells (chunks_of j s.now.reads ++ l ∷ []) (opened ++ pending)) (sym holds.tail) (Spells-more (chunks_of j s.now.reads) opened pending holds.forced)))
      (none_or_some j.pending))

  imaged_force : (p : ℕ) → imaged opened p ≡ true → imaged (opened ++ pending) p ≡ true
  imaged_force p is = rw (imaged-append opened pending p, is) refl

  pub HoldsRecords-force : HoldsRecords s j g opened pending → HoldsRecords t k g (opened ++ pending) []
  HoldsRecords-force holds = record {
    placed =
        let placed = holds.placed in
        let off = super_off_gates g j placed.gates placed.log (j.log ∷ []) (super_off_log g j placed.gates placed.log [] (none_sure 0 4096)) in
        IsPlaced-next s t j k g placed (IsStoreOf-AgreesBut g (j.gates ∷ j.log ∷ []) s.now.reads t.now.reads (AgreesBut-gates j (j.log ∷ []) s.now.reads t.now.reads forced.elsewhere) off placed.store) (sure_force 0 4096 placed.super)
        (ap (λ (x : State). x.gates) done) (ap (λ (x : State). x.log) done) (ap (λ (x : State). x.failed) done) sound forced.stands;
    forced = spells_force holds;
    tail = ap (λ (x : State). pending_of x t.now.reads) done;
    sound = subst (λ (l : List Record). AreRecords l) (sym (append-nil (opened ++ pending))) holds.sound;
    covered = subst (λ (l : List Record). IsCovered l) (sym (append-nil (opened ++ pending))) holds.covered;
    backed = λ p lt. ⊎_elim (λ (is : imaged opened p ≡ true). inl (imaged_force p is)) (λ (sure : Sure (place_of g p) 4096 s.now.written). inr (sure_force (place_of g p) 4096 sure)) (holds.backed p lt);
  }

  pub restored_on-force : IsPlaced s j g → (recs : List Record) (p : ℕ) → restored_on t g recs p ≡ restored_on s g recs p
  restored_on-force placed recs p = ap (λ (d : List ℕ). restored recs p d) (page_at-force placed p)

  pub AllOpen-force : (want : ℕ → List ℕ) → IsReadyFor want s j g opened pending → AllOpen want k g (opened ++ pending) s t
  AllOpen-force want ready = record {
    ready = record {
      holds = HoldsRecords-force ready.holds;
      plain = λ p lt. tt;
      same = λ p lt. restored_on-force ready.holds.placed (opened ++ pending) p ∙ restored_on-plain s j g opened pending ready.holds ready.plain p lt ∙ ready.same p lt;
    };
    pages = λ p lt. page_at-force ready.holds.placed p;
  }

-- ---- the write of a page
-- where a page has an Image, its bytes on the disk don't matter to what is pending
IsHarmless-imaged : (recs : List Record) (r : Record) (p : ℕ) (a b : List ℕ) → imaged recs p ≡ true → IsHarmless recs p a r → IsHarmless recs p b r
IsHarmless-imaged recs (Begin tx) p a b is harmless = tt
IsHarmless-imaged recs (Image page bytes) p a b is harmless = λ here. base-imaged p recs bytes b is
IsHarmless-imaged recs (Changed c) p a b is harmless = harmless
IsHarmless-imaged recs (Back tx n) p a b is harmless = harmless
IsHarmless-imaged recs (Commit tx) p a b is harmless = harmless

pub AreHarmless-imaged : (recs more : List Record) (p : ℕ) (a b : List ℕ) → imaged recs p ≡ true → AreHarmless recs p a more → AreHarmless recs p b more
AreHarmless-imaged recs [] p a b is harmless = tt
AreHarmless-imaged recs (r ∷ more) p a b is harmless =
    (IsHarmless-imaged recs r p a b is harmless.0, AreHarmless-imaged (recs ++ r ∷ []) more p a b (rw (imaged-append recs (r ∷ []) p, is) refl) harmless.1)

module _ (s : Story) (j : State) (g : Geometry) (opened pending : List Record) (p at n : ℕ) (is : imaged opened p ≡ true) (from : place_of g p ≤ at) (to : at + n ≤ place_of g p + 4096) (reads : List ℕ) (agrees : AgreesBut (record { start = at; len = n } ∷ []) s.now.reads reads) where
  pub page_at-write : (q : ℕ) → ¬ (q ≡ p) → page_at g q reads ≡ page_at g q s.now.reads
  page_at-write q other = page_at-AgreesBut g q (record { start = at; len = n } ∷ []) s.now.reads reads agrees (⊎_elim
      (λ (e : p ≡ q). absurd (other (sym e)))
      (λ (apart : (p < q) ⊎ (q < p)). page_off_page g p q at n [] from to apart (none_sure (place_of g q) 4096))
      (cases_order p q))

  pub HoldsRecords-write : HoldsRecords s j g opened pending → HoldsRecords (after_write at n reads s) j g opened pending
  HoldsRecords-write holds =
      let placed = holds.placed in
      let before = log_before g j placed.gates placed.log p in
      let room = placed.sound.log in
      let chunks : chunks_of j s.now.reads ≡ chunks_of j reads = chunks_from_kept j.log.start j.lens s.now.reads reads agrees.size
      (λ i low high. agrees.bytes i (sure_more j.log.start (bytes_of j.lens) (record { start = at; len = n }) [] (none_sure j.log.start (bytes_of j.lens)) (inl (omega arith)) i low high)) in
      let tail : pending_of j s.now.reads ≡ pending_of j reads = AgreesBut-slice (record { start = at; len = n } ∷ []) s.now.reads reads (j.log.start + bytes_of j.lens + 4) j.pending agrees
      (tail_sure j.log.start (bytes_of j.lens) j.log.len at n j.pending room (omega arith)) in
      record {
        placed = IsPlaced-next s (after_write at n reads s) j j g placed
            (IsStoreOf-AgreesBut g (record { start = at; len = n } ∷ []) s.now.reads reads agrees (super_off_page g p at n [] from (none_sure 0 4096)) placed.store)
            (super_off_page g p at n s.now.written from placed.super) refl refl refl placed.sound
            (foreign_stands s j placed.stands (IsPlaced-lies s j g placed) placed.sound at n (IsOff-page g j placed.gates placed.log p at n from) reads agrees);
        forced = subst (λ (cs : List (List ℕ)). Spells cs opened) chunks holds.forced;
        tail = sym tail ∙ holds.tail;
        sound = holds.sound;
        covered = holds.covered;
        backed = backed-write s j g opened pending holds p at n is from to;
      }

  -- each page is restored as it was, by these records and by more
  pub restored_on-write : (recs : List Record) → imaged recs p ≡ true → (q : ℕ) → restored_on (after_write at n reads s) g recs q ≡ restored_on s g recs q
  restored_on-write recs has q = ⊎_elim
      (λ (e : q ≡ p). restored-imaged recs q (page_at g q reads) (page_at g q s.now.reads) (subst (λ (x : ℕ). imaged recs x ≡ true) (sym e) has))
      (λ (other : ¬ (q ≡ p)). ap (λ (d : List ℕ). restored recs q d) (page_at-write q other))
      (cases_eq q p)

  plain_write : IsPlain s g opened pending → IsPlain (after_write at n reads s) g opened pending
  plain_write plain q below = ⊎_elim
      (λ (e : q ≡ p). AreHarmless-imaged opened pending q (page_at g q s.now.reads) (page_at g q reads) (subst (λ (x : ℕ). imaged opened x ≡ true) (sym e) is) (plain q below))
      (λ (other : ¬ (q ≡ p)). subst (λ (d : List ℕ). AreHarmless opened q d pending) (sym (page_at-write q other)) (plain q below))
      (cases_eq q p)

  pub IsReadyFor-write : (want : ℕ → List ℕ) → IsReadyFor want s j g opened pending → IsReadyFor want (after_write at n reads s) j g opened pending
  IsReadyFor-write want ready = record {
    holds = HoldsRecords-write ready.holds;
    plain = plain_write ready.plain;
    same = λ q below. restored_on-write opened is q ∙ ready.same q below;
  }

-- a whole page
pub IsStolen-wrote : (want : ℕ → List ℕ) (s : Story) (j : State) (g : Geometry) (opened pending : List Record) (p : ℕ) (bytes : List ℕ) → IsReadyFor want s j g opened pending → p < g.pages → imaged opened p ≡ true → length bytes ≡ 4096
    → IsStolen want j g opened pending p bytes s (after_write (place_of g p) (length bytes) (splice (place_of g p) bytes s.now.reads) s)
IsStolen-wrote want s j g opened pending p bytes ready lt is long =
    let within = page_within g (length s.now.reads) p ready.holds.placed.store.room lt in
    let from : place_of g p ≤ place_of g p = omega arith in
    let to : place_of g p + length bytes ≤ place_of g p + 4096 = omega arith in
    let agrees = splice-AgreesBut (place_of g p) bytes s.now.reads (omega arith) in
    let reads : List ℕ = splice (place_of g p) bytes s.now.reads in
    record {
      ready = IsReadyFor-write s j g opened pending p (place_of g p) (length bytes) is from to (splice (place_of g p) bytes s.now.reads) agrees want ready;
      page = ap (λ (m : ℕ). take m (drop (place_of g p) (splice (place_of g p) bytes s.now.reads))) (sym long) ∙ slice-splice (place_of g p) bytes s.now.reads (omega arith);
      others = λ q below other. page_at-write s j g opened pending p (place_of g p) (length bytes) is from to (splice (place_of g p) bytes s.now.reads) agrees q other;
    }

-- ---- a sync
pub IsReadyFor-sync : (want : ℕ → List ℕ) (s : Story) (j : State) (g : Geometry) (opened pending : List Record) → IsReadyFor want s j g opened pending → IsReadyFor want (after_sync s) j g opened pending
IsReadyFor-sync want s j g opened pending ready =
    let holds = ready.holds in
    let placed = holds.placed in
    let stands = placed.stands in
    record {
      holds = record {
        placed = IsPlaced-next s (after_sync s) j j g placed placed.store (none_sure 0 4096) refl refl refl placed.sound
            (record { reads = stands.reads; gates = none_sure j.gates.start j.gates.len; chunks = none_sure j.log.start (bytes_of j.lens); shut = stands.shut });
        forced = holds.forced;
        tail = holds.tail;
        sound = holds.sound;
        covered = holds.covered;
        backed = λ p lt. inr (none_sure (place_of g p) 4096);
      };
      plain = ready.plain;
      same = ready.same;
    }

-- ---- the gates are closed
-- after it there are no records, and the pages are those of the disk
module _ (s t : Story) (j k : State) (g : Geometry) (done : k ≡ after_close j) (sound : Sound k) (closed : Closed j k s t) (placed : IsPlaced s j g) where
  sure_close : (at count : ℕ) → Sure at count t.now.written
  sure_close at count = subst (λ (w : List Range). Sure at count w) (sym closed.settled) (none_sure at count)

  pub page_at-close : (p : ℕ) → page_at g p t.now.reads ≡ page_at g p s.now.reads
  page_at-close p = page_at-AgreesBut g p (j.gates ∷ []) s.now.reads t.now.reads closed.elsewhere (page_off_gates g j placed.gates placed.log p [] (none_sure (place_of g p) 4096))

  pub IsReadyFor-close : (want : ℕ → List ℕ) → ((p : ℕ) → p < g.pages → page_at g p s.now.reads ≡ want p) → IsReadyFor want t k g [] []
  IsReadyFor-close want pages = record {
    holds = record {
      placed = IsPlaced-next s t j k g placed
          (IsStoreOf-AgreesBut g (j.gates ∷ []) s.now.reads t.now.reads closed.elsewhere (super_off_gates g j placed.gates placed.log [] (none_sure 0 4096)) placed.store)
          (sure_close 0 4096) (ap (λ (x : State). x.gates) done) (ap (λ (x : State). x.log) done) (ap (λ (x : State). x.failed) done) sound closed.stands;
      forced = subst (λ (x : State). Spells (chunks_of x t.now.reads) []) (sym done) refl;
      tail = ap (λ (x : State). pending_of x t.now.reads) done;
      sound = tt;
      covered = tt;
      backed = λ p lt. inr (sure_close (place_of g p) 4096);
    };
    plain = λ p lt. tt;
    same = λ p lt. page_at-close p ∙ pages p lt;
  }
