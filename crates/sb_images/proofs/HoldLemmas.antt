-- What a crash leaves of a store.
use Rattle.std.proofs.Common.{◌≡◌, ◌⊎◌, inl, inr, ⊎_elim, ℕ, ◌+◌, ◌<◌, ◌≤◌, true, Some, List, [], ◌∷◌, ◌++◌, length, refl, sym, ◌∙◌, ap, subst}
use Rattle.std.proofs.lemmas.Bool.{cases_order}
use Rattle.sb_disk.specs.Disk.{Range, Story, AgreesBut, Leaves}
use Rattle.sb_disk.specs.Moments.{Sure, LeavesTorn}
use Rattle.sb_journal.specs.Chunks.{ReadsAs}
use Rattle.sb_journal.specs.State.{State, Lies, chunks_of, pending_of, IsKept, IsForced, IsClosing}
use Rattle.sb_journal.proofs.RegionLemmas.{left_by, AgreesBut-gates}
use Rattle.sb_disk.proofs.RangeLemmas.{AgreesBut-more}
use Rattle.sb_journal.proofs.ForeignLemmas.{foreign_torn}
use Rattle.sb_log.specs.declared.geometry.Geometry.{Geometry}
use Rattle.sb_log.specs.Records.{Record, Spells}
use Rattle.sb_log.specs.Restored.{restored, imaged}
use Rattle.sb_log.proofs.RowLemmas.{AreRecords-parts, Spells-more}
use Rattle.sb_log.proofs.RestoredLemmas.{imaged-append, restored-imaged, restored-all_harmless, IsCoveredBehind-parts}
use Rattle.sb_images.specs.Layout.{gates_of, log_of, place_of, page_at, IsStoreOf}
use Rattle.sb_images.specs.Images.{Restores}
use Rattle.sb_images.specs.Store.{IsPlaced, HoldsRecords, IsPlain, restored_on}
use Rattle.sb_images.proofs.LayoutLemmas.{Lies-at, page_off_gates, page_off_log, super_off_gates, super_off_log, IsOff-page, super_off_page, page_off_page, page_at-AgreesBut, IsStoreOf-AgreesBut}
use Rattle.sb_images.proofs.ImageLemmas.{Restores-empty}

-- the regions lie in the disk
pub IsPlaced-lies : (s : Story) (j : State) (g : Geometry) → IsPlaced s j g → Lies (length s.now.reads) j.gates j.log
IsPlaced-lies s j g placed = Lies-at g (length s.now.reads) j placed.store.sizes placed.store.room placed.gates placed.log

module _ (s : Story) (j : State) (g : Geometry) (opened pending : List Record) (holds : HoldsRecords s j g opened pending) where
  placed : IsPlaced s j g
  placed = holds.placed

  lies : Lies (length s.now.reads) j.gates j.log
  lies = IsPlaced-lies s j g holds.placed

  -- ---- what an image restores
  -- the pages that matter are as they are now
  abbrev SamePages : List ℕ → Type 0
  SamePages image = (p : ℕ) → p < g.pages → (imaged opened p ≡ true) ⊎ (page_at g p image ≡ page_at g p s.now.reads)

  restored_same : (recs : List Record) (image : List ℕ) → ((p : ℕ) → imaged opened p ≡ true → imaged recs p ≡ true) → SamePages image
      → (p : ℕ) → p < g.pages → restored recs p (page_at g p image) ≡ restored_on s g recs p
  restored_same recs image more same p lt = ⊎_elim
      (λ (is : imaged opened p ≡ true). restored-imaged recs p (page_at g p image) (page_at g p s.now.reads) (more p is))
      (λ (e : page_at g p image ≡ page_at g p s.now.reads). ap (λ (d : List ℕ). restored recs p d) e)
      (same p lt)

  in_places : (image : List ℕ) (chunks : List (List ℕ)) → ReadsAs j.gates j.log image chunks → ReadsAs (gates_of g) (log_of g) image chunks
  in_places image chunks reads = subst (λ (r : Range). ReadsAs r (log_of g) image chunks) holds.placed.gates (subst (λ (r : Range). ReadsAs j.gates r image chunks) holds.placed.log reads)

  -- the open chunks are read: the image restores what they make of the pages
  restores_old : (image : List ℕ) → IsStoreOf g image → SamePages image → ReadsAs j.gates j.log image (chunks_of j s.now.reads) → Restores g (restored_on s g opened) image
  restores_old image store same reads = record {
    recs = opened;
    store = store;
    logs = record { chunks = chunks_of j s.now.reads; reads = in_places image (chunks_of j s.now.reads) reads; spells = holds.forced; sound = (AreRecords-parts opened pending holds.sound).0 };
    covered = (IsCoveredBehind-parts [] opened pending holds.covered).0;
    each = restored_same opened image (λ p is. is) same;
  }

  imaged_more : (p : ℕ) → imaged opened p ≡ true → imaged (opened ++ pending) p ≡ true
  imaged_more p is = rw (imaged-append opened pending p, is) refl

  -- the pending chunk is read too
  restores_new : (image : List ℕ) → IsStoreOf g image → SamePages image → ReadsAs j.gates j.log image (chunks_of j s.now.reads ++ pending_of j s.now.reads ∷ []) → Restores g (restored_on s g (opened ++ pending)) image
  restores_new image store same reads = record {
    recs = opened ++ pending;
    store = store;
    logs = record {
      chunks = chunks_of j s.now.reads ++ pending_of j s.now.reads ∷ [];
      reads = in_places image (chunks_of j s.now.reads ++ pending_of j s.now.reads ∷ []) reads;
      spells = subst (λ (l : List ℕ). Spells (chunks_of j s.now.reads ++ l ∷ []) (opened ++ pending)) (sym holds.tail) (Spells-more (chunks_of j s.now.reads) opened pending holds.forced);
      sound = holds.sound;
    };
    covered = holds.covered;
    each = restored_same (opened ++ pending) image imaged_more same;
  }

  -- where what is pending changes nothing yet, both are the same pages
  pub restored_on-plain : IsPlain s g opened pending → (p : ℕ) → p < g.pages → restored_on s g (opened ++ pending) p ≡ restored_on s g opened p
  restored_on-plain plain p lt = restored-all_harmless opened pending p (page_at g p s.now.reads) (plain p lt)

  -- ---- ranges that may differ
  same_pages : (ranges : List Range) (image : List ℕ) → ((p : ℕ) → p < g.pages → (imaged opened p ≡ true) ⊎ Sure (place_of g p) 4096 ranges) → AgreesBut ranges s.now.reads image → SamePages image
  same_pages ranges image sure agrees p lt = ⊎_elim
      (λ (is : imaged opened p ≡ true). inl is)
      (λ (here : Sure (place_of g p) 4096 ranges). inr (page_at-AgreesBut g p ranges s.now.reads image agrees here))
      (sure p lt)

  page_off_regions : (p : ℕ) (written : List Range) → Sure (place_of g p) 4096 written → Sure (place_of g p) 4096 (j.gates ∷ j.log ∷ written)
  page_off_regions p written sure = page_off_gates g j placed.gates placed.log p (j.log ∷ written) (page_off_log g j placed.gates placed.log p written sure)

  super_off_regions : (written : List Range) → Sure 0 4096 written → Sure 0 4096 (j.gates ∷ j.log ∷ written)
  super_off_regions written sure = super_off_gates g j placed.gates placed.log (j.log ∷ written) (super_off_log g j placed.gates placed.log written sure)

  backed_regions : (p : ℕ) → p < g.pages → (imaged opened p ≡ true) ⊎ Sure (place_of g p) 4096 (j.gates ∷ j.log ∷ s.now.written)
  backed_regions p lt = ⊎_elim (λ (is : imaged opened p ≡ true). inl is) (λ (sure : Sure (place_of g p) 4096 s.now.written). inr (page_off_regions p s.now.written sure)) (holds.backed p lt)

  store_regions : (image : List ℕ) → AgreesBut (j.gates ∷ j.log ∷ s.now.written) s.now.reads image → IsStoreOf g image
  store_regions image agrees = IsStoreOf-AgreesBut g (j.gates ∷ j.log ∷ s.now.written) s.now.reads image agrees (super_off_regions s.now.written placed.super) placed.store

  -- ---- what a crash leaves
  -- a crash now
  pub restores-now : (image : List ℕ) → Leaves s.now image → Restores g (restored_on s g opened) image
  restores-now image left = restores_old image
      (IsStoreOf-AgreesBut g s.now.written s.now.reads image left placed.super placed.store)
      (same_pages s.now.written image holds.backed left)
      (left_by s j placed.stands lies placed.sound image left)

  -- a crash within an append
  pub restores-append : (image : List ℕ) → IsKept s j image → Restores g (restored_on s g opened) image
  restores-append image kept =
      let elsewhere = AgreesBut-more j.gates (j.log ∷ s.now.written) s.now.reads image kept.elsewhere in
      restores_old image (store_regions image elsewhere) (same_pages (j.gates ∷ j.log ∷ s.now.written) image backed_regions elsewhere) kept.chunks

  -- a crash within a force: the open chunks, or the pending one too
  pub restores-force : (image : List ℕ) → IsForced s j image → Restores g (restored_on s g opened) image ⊎ Restores g (restored_on s g (opened ++ pending)) image
  restores-force image forced =
      let elsewhere = AgreesBut-gates j (j.log ∷ s.now.written) s.now.reads image forced.elsewhere in
      let store = store_regions image elsewhere in
      let same = same_pages (j.gates ∷ j.log ∷ s.now.written) image backed_regions elsewhere in
      ⊎_elim
      (λ (reads : ReadsAs j.gates j.log image (chunks_of j s.now.reads)). inl (restores_old image store same reads))
      (λ (reads : ReadsAs j.gates j.log image (chunks_of j s.now.reads ++ pending_of j s.now.reads ∷ [])). inr (restores_new image store same reads))
      forced.chunks

  -- a crash while the gates are closed, where each page is on the disk as it is restored
  pub restores-close : ((p : ℕ) → p < g.pages → Sure (place_of g p) 4096 s.now.written × (page_at g p s.now.reads ≡ restored_on s g opened p))
      → (image : List ℕ) → IsClosing s j image → Restores g (restored_on s g opened) image
  restores-close written image closing = ⊎_elim
      (λ (reads : ReadsAs j.gates j.log image (chunks_of j s.now.reads)). restores_old image store (λ p lt. inr (same p lt)) reads)
      (λ (reads : ReadsAs j.gates j.log image []). Restores-empty g (restored_on s g opened) image store (in_places image [] reads) (λ p lt. same p lt ∙ (written p lt).1))
      closing.chunks
    where
      store : IsStoreOf g image
      store = IsStoreOf-AgreesBut g (j.gates ∷ s.now.written) s.now.reads image closing.elsewhere (super_off_gates g j placed.gates placed.log s.now.written placed.super) placed.store

      same : (p : ℕ) → p < g.pages → page_at g p image ≡ page_at g p s.now.reads
      same p lt = page_at-AgreesBut g p (j.gates ∷ s.now.written) s.now.reads image closing.elsewhere (page_off_gates g j placed.gates placed.log p s.now.written (written p lt).0)

  -- a crash within the write of a page that has an Image in an open chunk
  module _ (p at n : ℕ) (is : imaged opened p ≡ true) (from : place_of g p ≤ at) (to : at + n ≤ place_of g p + 4096) where
    pub backed-write : (q : ℕ) → q < g.pages → (imaged opened q ≡ true) ⊎ Sure (place_of g q) 4096 (record { start = at; len = n } ∷ s.now.written)
    backed-write q below = ⊎_elim
        (λ (e : p ≡ q). inl (subst (λ (x : ℕ). imaged opened x ≡ true) e is))
        (λ (apart : (p < q) ⊎ (q < p)). ⊎_elim
        (λ (has : imaged opened q ≡ true). inl has)
        (λ (sure : Sure (place_of g q) 4096 s.now.written). inr (page_off_page g p q at n s.now.written from to apart sure))
        (holds.backed q below))
        (cases_order p q)

    pub restores-write : (image : List ℕ) → LeavesTorn at n (Some s) image → Restores g (restored_on s g opened) image
    restores-write image torn = restores_old image
        (IsStoreOf-AgreesBut g (record { start = at; len = n } ∷ s.now.written) s.now.reads image torn (super_off_page g p at n s.now.written from placed.super) placed.store)
        (same_pages (record { start = at; len = n } ∷ s.now.written) image backed-write torn)
        (foreign_torn s j placed.stands lies placed.sound at n (IsOff-page g j placed.gates placed.log p at n from) image torn)
