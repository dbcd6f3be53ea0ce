-- A store, step by step.
use Rattle.std.proofs.Common.{◌≡◌, inl, inr, ⊎_elim, ℕ, ◌<◌, ◌≤◌, true, false, Option, Some, None, List, [], ◌∷◌, ◌++◌, length, refl, sym, ◌∙◌, ap, subst, append_assoc}
use Rattle.sb_disk.specs.Disk.{Story, WhereTold, synced}
use Rattle.sb_journal.specs.State.{State, Sound, Appended, Forced, Closed, after_append, after_force, after_close}
use Rattle.sb_log.specs.declared.geometry.Geometry.{Geometry}
use Rattle.sb_log.specs.Records.{Record, Commit, AreRecords, spelled}
use Rattle.sb_log.specs.Standing.{standing, count_of}
use Rattle.sb_log.specs.Restored.{imaged, IsCovered}
use Rattle.sb_log.specs.Views.{Active, ending}
use Rattle.sb_log.specs.Whole.{IsWhole}
use Rattle.sb_log.proofs.RestoredLemmas.{IsCoveredBehind-parts}
use Rattle.sb_log.proofs.ImageLemmas.{now-not_imaged}
use Rattle.sb_log.proofs.WholeLemmas.{IsWhole-empty, IsWhole-forced, IsWhole-checkpoint, IsWhole-restored, IsWhole-idle}
use Rattle.sb_images.specs.Layout.{page_at}
use Rattle.sb_images.specs.Store.{IsStore, IsReadyOn, IsStoreOn, IsStolen, KeepsRest, OnDisk, WillBe, own_of, with_changes}
use Rattle.sb_images.proofs.LayoutLemmas.{length-page_at}
use Rattle.std.proofs.lemmas.Bool.{cases_eq}
use Rattle.std.proofs.lemmas.List.{append-nil}
use Rattle.sb_images.proofs.HoldLemmas.{restored_on-plain}
use Rattle.sb_images.proofs.StepLemmas.{HoldsRecords-append, page_at-append, IsReadyFor-append, page_at-force, AllOpen-force, IsReadyFor-sync, page_at-close, IsReadyFor-close}
use Rattle.sb_images.proofs.CommitLemmas.{IsReadyOn-commit}
use Rattle.sb_images.proofs.PageLemmas.{IsWhole-pages, restored-commit_same, restored-commit_own, restored-commit_only}

pub IsStoreOn-ready : (want now : ℕ → List ℕ) (told : Option Story) (j : State) (g : Geometry) (opened pending : List Record) (active : List Active) → IsStoreOn want now told j g opened pending active → IsReadyOn want told j g opened pending
IsStoreOn-ready want now None j g opened pending active store = tt
IsStoreOn-ready want now (Some s) j g opened pending active store = store.ready

-- with an empty log and no transaction, the pages now are those of the disk
pub IsStoreOn-empty : (want : ℕ → List ℕ) (told : Option Story) (j : State) (g : Geometry) → IsReadyOn want told j g [] [] → IsStoreOn want want told j g [] [] []
IsStoreOn-empty want None j g ready = tt
IsStoreOn-empty want (Some s) j g ready =
    let disk : ℕ → List ℕ = λ p. page_at g p s.now.reads in
    let room = ready.holds.placed.store.room in
    let empty = IsWhole-empty g.pages want (λ p lt. ap length (sym (ready.same p lt)) ∙ length-page_at g p s.now.reads room lt) in
    record { ready = ready; whole = IsWhole-pages g.pages want disk want [] [] [] (λ p lt. inr (ready.same p lt)) empty }

module _ (want now : ℕ → List ℕ) (j : State) (g : Geometry) (opened pending : List Record) (active : List Active) where
  -- ---- what is known of the pages
  -- where no transaction is active, the pages now are those wanted
  pub IsStore-idle : (s : Story) → active ≡ [] → IsStore want now s j g opened pending active → (p : ℕ) → p < g.pages → now p ≡ want p
  IsStore-idle s none store p lt =
      let whole = subst (λ (l : List Active). IsWhole g.pages (λ q. page_at g q s.now.reads) now opened pending l) none store.whole in
      sym (IsWhole-idle g.pages (λ q. page_at g q s.now.reads) now opened pending whole p lt) ∙ store.ready.same p lt

  -- a page without an Image is on the disk as it is now
  pub now-on_disk : (s : Story) → IsStore want now s j g opened pending active → (p : ℕ) → p < g.pages → imaged (opened ++ pending) p ≡ false → now p ≡ page_at g p s.now.reads
  now-on_disk s store p lt is = now-not_imaged (opened ++ pending) active p (page_at g p s.now.reads) (now p) store.whole.covered is (store.whole.pages p lt)

  -- ---- no call is made
  -- a transaction begins, a change is undone, an abort ends
  pub IsStoreOn-step : (then : ℕ → List ℕ) (then_active : List Active) (told : Option Story) → ((disk : ℕ → List ℕ) → IsWhole g.pages disk now opened pending active → IsWhole g.pages disk then opened pending then_active)
      → IsStoreOn want now told j g opened pending active → IsStoreOn want then told j g opened pending then_active
  IsStoreOn-step then then_active None step store = tt
  IsStoreOn-step then then_active (Some s) step store = record { ready = store.ready; whole = step (λ p. page_at g p s.now.reads) store.whole }

  -- ---- the log
  module _ (then : ℕ → List ℕ) (then_active : List Active) (k : State) (more : List Record) (bytes : List ℕ) (spells : bytes ≡ spelled more) (done : k ≡ after_append (length bytes) j) (sound : Sound k) (all : AreRecords more)
      (step : (disk : ℕ → List ℕ) → IsWhole g.pages disk now opened pending active → IsWhole g.pages disk then opened (pending ++ more) then_active) where
    store_append : (s t : Story) → Appended bytes j k s t → IsStore want now s j g opened pending active → IsStore want then t k g opened (pending ++ more) then_active
    store_append s t appended store =
        let whole = step (λ p. page_at g p s.now.reads) store.whole in
        let spelled_so = subst (λ (l : List ℕ). Appended l j k s t) spells appended in
        let covered : IsCovered ((opened ++ pending) ++ more) = subst (λ (l : List Record). IsCovered l) (sym (append_assoc opened pending more)) whole.covered in
        record {
          ready = IsReadyFor-append s t j k g opened pending more (length bytes) done sound spelled_so want store.ready (IsCoveredBehind-parts [] (opened ++ pending) more covered).1 all whole.plain;
          whole = IsWhole-pages g.pages (λ p. page_at g p s.now.reads) (λ p. page_at g p t.now.reads) then opened (pending ++ more) then_active
              (λ p lt. inr (page_at-append s t j k g opened pending more (length bytes) done sound spelled_so store.ready.holds.placed p)) whole;
        }

    -- records that change nothing that is restored: those of a change, a Back, a Begin
    pub IsStoreOn-append : (told new : Option Story) → WhereTold told new (Appended bytes j k) → IsStoreOn want now told j g opened pending active → IsStoreOn want then new k g opened (pending ++ more) then_active
    IsStoreOn-append None new appended store = subst (λ (m : Option Story). IsStoreOn want then m k g opened (pending ++ more) then_active) (sym appended) tt
    IsStoreOn-append (Some s) None appended store = absurd appended
    IsStoreOn-append (Some s) (Some t) appended store = store_append s t appended store

  store_force : (s t : Story) (k : State) → k ≡ after_force j → Sound k → Forced j k s t → IsStore want now s j g opened pending active → IsStore want now t k g (opened ++ pending) [] active
  store_force s t k done sound forced store = record {
    ready = (AllOpen-force s t j k g opened pending done sound forced want store.ready).ready;
    whole = IsWhole-pages g.pages (λ p. page_at g p s.now.reads) (λ p. page_at g p t.now.reads) now (opened ++ pending) [] active
        (λ p lt. inr (page_at-force s t j k g opened pending done sound forced store.ready.holds.placed p))
        (IsWhole-forced g.pages (λ p. page_at g p s.now.reads) now opened pending active store.whole);
  }

  pub IsStoreOn-force : (k : State) (told new : Option Story) → k ≡ after_force j → Sound k → WhereTold told new (Forced j k) → IsStoreOn want now told j g opened pending active → IsStoreOn want now new k g (opened ++ pending) [] active
  IsStoreOn-force k None new done sound forced store = subst (λ (m : Option Story). IsStoreOn want now m k g (opened ++ pending) [] active) (sym forced) tt
  IsStoreOn-force k (Some s) None done sound forced store = absurd forced
  IsStoreOn-force k (Some s) (Some t) done sound forced store = store_force s t k done sound forced store

  -- ---- pages are written
  -- a call after which the store is ready, and no page without an Image in an open chunk has changed
  pub IsStoreOn-rest : (k : State) (told new : Option Story) → IsReadyOn want new k g opened pending → WhereTold told new (KeepsRest g opened) → IsStoreOn want now told j g opened pending active → IsStoreOn want now new k g opened pending active
  IsStoreOn-rest k None new ready rest store = subst (λ (m : Option Story). IsStoreOn want now m k g opened pending active) (sym rest) tt
  IsStoreOn-rest k (Some s) None ready rest store = absurd rest
  IsStoreOn-rest k (Some s) (Some t) ready rest store = record {
    ready = ready;
    whole = IsWhole-pages g.pages (λ p. page_at g p s.now.reads) (λ p. page_at g p t.now.reads) now opened pending active rest store.whole;
  }

  -- the same where what was pending was forced
  pub IsStoreOn-forced_rest : (k : State) (told new : Option Story) → IsReadyOn want new k g (opened ++ pending) [] → WhereTold told new (KeepsRest g (opened ++ pending)) → IsStoreOn want now told j g opened pending active → IsStoreOn want now new k g (opened ++ pending) [] active
  IsStoreOn-forced_rest k None new ready rest store = subst (λ (m : Option Story). IsStoreOn want now m k g (opened ++ pending) [] active) (sym rest) tt
  IsStoreOn-forced_rest k (Some s) None ready rest store = absurd rest
  IsStoreOn-forced_rest k (Some s) (Some t) ready rest store = record {
    ready = ready;
    whole = IsWhole-pages g.pages (λ p. page_at g p s.now.reads) (λ p. page_at g p t.now.reads) now (opened ++ pending) [] active rest
        (IsWhole-forced g.pages (λ p. page_at g p s.now.reads) now opened pending active store.whole);
  }

  pub KeepsRest-stolen : (p : ℕ) (bytes : List ℕ) (told new : Option Story) → imaged opened p ≡ true → WhereTold told new (IsStolen want j g opened pending p bytes) → WhereTold told new (KeepsRest g opened)
  KeepsRest-stolen p bytes None new is stolen = stolen
  KeepsRest-stolen p bytes (Some s) None is stolen = stolen
  KeepsRest-stolen p bytes (Some s) (Some t) is stolen = λ q below. ⊎_elim
      (λ (e : q ≡ p). inl (subst (λ (x : ℕ). imaged opened x ≡ true) (sym e) is))
      (λ (other : ¬ (q ≡ p)). inr (stolen.others q below other))
      (cases_eq q p)

  pub IsStoreOn-synced : (told new : Option Story) → new ≡ synced told → IsStoreOn want now told j g opened pending active → IsStoreOn want now new j g opened pending active
  IsStoreOn-synced None new is store = subst (λ (m : Option Story). IsStoreOn want now m j g opened pending active) (sym is) tt
  IsStoreOn-synced (Some s) new is store = subst (λ (m : Option Story). IsStoreOn want now m j g opened pending active) (sym is)
      (record { ready = IsReadyFor-sync want s j g opened pending store.ready; whole = store.whole })

-- ---- a checkpoint
module _ (want now : ℕ → List ℕ) (j : State) (g : Geometry) (opened pending : List Record) where
  store_close : (s t : Story) (k : State) → k ≡ after_close j → Sound k → Closed j k s t → IsStore want now s j g opened pending [] → ((p : ℕ) → p < g.pages → page_at g p s.now.reads ≡ now p) → IsStore want now t k g [] [] []
  store_close s t k done sound closed store pages =
      let placed = store.ready.holds.placed in
      let same = IsStore-idle want now j g opened pending [] s refl store in
      record {
        ready = IsReadyFor-close s t j k g done sound closed placed want (λ p lt. pages p lt ∙ same p lt);
        whole = IsWhole-pages g.pages now (λ p. page_at g p t.now.reads) now [] [] []
            (λ p lt. inr (page_at-close s t j k g done sound closed placed p ∙ pages p lt))
            (IsWhole-checkpoint g.pages (λ p. page_at g p s.now.reads) now opened pending store.whole);
      }

  -- where the disk's pages are those now
  pub IsStoreOn-close : (k : State) (told new : Option Story) → k ≡ after_close j → Sound k → WhereTold told new (Closed j k) → OnDisk now told g → IsStoreOn want now told j g opened pending [] → IsStoreOn want now new k g [] [] []
  IsStoreOn-close k None new done sound closed pages store = subst (λ (m : Option Story). IsStoreOn want now m k g [] [] []) (sym closed) tt
  IsStoreOn-close k (Some s) None done sound closed pages store = absurd closed
  IsStoreOn-close k (Some s) (Some t) done sound closed pages store = store_close s t k done sound closed store (λ p lt. (pages p lt).1)

  -- and they are those wanted
  pub OnDisk-idle : (told : Option Story) → OnDisk now told g → IsStoreOn want now told j g opened pending [] → OnDisk want told g
  OnDisk-idle None pages store = tt
  OnDisk-idle (Some s) pages store = λ p lt. ((pages p lt).0, (pages p lt).1 ∙ IsStore-idle want now j g opened pending [] s refl store p lt)

-- ---- a commit
module _ (want now : ℕ → List ℕ) (j : State) (g : Geometry) (opened pending : List Record) (a : Active) (rest : List Active) where
  -- the committed pages once what stands of this transaction is written over them
  pub WillBe-commit : (told : Option Story) → IsStoreOn want now told j g opened pending (a ∷ rest) → WillBe (with_changes (own_of (opened ++ pending) a) want) told g ((opened ++ pending) ++ ending (a ∷ []))
  WillBe-commit None store = tt
  WillBe-commit (Some s) store = λ p lt. restored-commit_own (opened ++ pending) a rest p (page_at g p s.now.reads) (now p) want store.whole.active (store.whole.pages p lt)
      (restored_on-plain s j g opened pending store.ready.holds store.ready.plain p lt ∙ store.ready.same p lt)

  -- where all of its changes in the log stand, no Back is needed
  pub WillBe-commit_only : (told : Option Story) → count_of a.tx (standing (opened ++ pending)) ≤ a.n → IsStoreOn want now told j g opened pending (a ∷ rest)
      → WillBe (with_changes (own_of (opened ++ pending) a) want) told g ((opened ++ pending) ++ Commit a.tx ∷ [])
  WillBe-commit_only None few store = tt
  WillBe-commit_only (Some s) few store = λ p lt. restored-commit_only (opened ++ pending) a rest p (page_at g p s.now.reads) (now p) want store.whole.active (store.whole.pages p lt)
      (restored_on-plain s j g opened pending store.ready.holds store.ready.plain p lt ∙ store.ready.same p lt) few

  -- The records of the commit are in open chunks, and the others are active still.
  module _ (then : ℕ → List ℕ) (k l : State) (more : List Record) (bytes : List ℕ) (spells : bytes ≡ spelled more) (done : k ≡ after_append (length bytes) j) (sound : Sound k) (forced_done : l ≡ after_force k) (sound_l : Sound l) (all : AreRecords more)
      (step : (disk : ℕ → List ℕ) → IsWhole g.pages disk now opened pending (a ∷ rest) → IsWhole g.pages disk now ((opened ++ pending) ++ more) [] rest) where
    store_commit : (s t u : Story) → Appended bytes j k s t → Forced k l t u → WillBe then (Some s) g ((opened ++ pending) ++ more) → IsStore want now s j g opened pending (a ∷ rest) → IsStore then now u l g (opened ++ (pending ++ more)) [] rest
    store_commit s t u appended forced will store =
        let whole = step (λ p. page_at g p s.now.reads) store.whole in
        let spelled_so = subst (λ (l : List ℕ). Appended l j k s t) spells appended in
        let none : ((opened ++ pending) ++ more) ++ [] ≡ (opened ++ pending) ++ more = append-nil ((opened ++ pending) ++ more) in
        let covered = (IsCoveredBehind-parts [] (opened ++ pending) more (subst (λ (x : List Record). IsCovered x) none whole.covered)).1 in
        let placed = store.ready.holds.placed in
        let mid = HoldsRecords-append s t j k g opened pending more (length bytes) done sound spelled_so store.ready.holds covered all in
        record {
          ready = IsReadyOn-commit want then j k g opened pending more bytes spells done sound covered all l (Some s) (Some t) (Some u) store.ready will appended forced_done sound_l forced;
          whole = IsWhole-pages g.pages (λ p. page_at g p s.now.reads) (λ p. page_at g p u.now.reads) now (opened ++ (pending ++ more)) [] rest
              (λ p lt. inr (page_at-force t u k l g opened (pending ++ more) forced_done sound_l forced mid.placed p ∙ page_at-append s t j k g opened pending more (length bytes) done sound spelled_so placed p))
              (subst (λ (x : List Record). IsWhole g.pages (λ p. page_at g p s.now.reads) now x [] rest) (append_assoc opened pending more) whole);
        }

    pub IsStoreOn-commit : (told mid new : Option Story) → WhereTold told mid (Appended bytes j k) → WhereTold mid new (Forced k l) → WillBe then told g ((opened ++ pending) ++ more) → IsStoreOn want now told j g opened pending (a ∷ rest)
        → IsStoreOn then now new l g (opened ++ (pending ++ more)) [] rest
    IsStoreOn-commit None mid new appended forced will store =
        let none : new ≡ None = subst (λ (m : Option Story). WhereTold m new (Forced k l)) appended forced in
        subst (λ (m : Option Story). IsStoreOn then now m l g (opened ++ (pending ++ more)) [] rest) (sym none) tt
    IsStoreOn-commit (Some s) None new appended forced will store = absurd appended
    IsStoreOn-commit (Some s) (Some t) None appended forced will store = absurd forced
    IsStoreOn-commit (Some s) (Some t) (Some u) appended forced will store = store_commit s t u appended forced will store

-- the last one that is active commits the pages now
pub WillBe-alone : (want now : ℕ → List ℕ) (told : Option Story) (j : State) (g : Geometry) (opened pending : List Record) (a : Active) → IsStoreOn want now told j g opened pending (a ∷ []) → WillBe now told g ((opened ++ pending) ++ ending (a ∷ []))
WillBe-alone want now None j g opened pending a store = tt
WillBe-alone want now (Some s) j g opened pending a store = λ p lt. IsWhole-restored g.pages (λ q. page_at g q s.now.reads) now opened pending (a ∷ []) store.whole p lt

pub WillBe-alone_only : (want now : ℕ → List ℕ) (told : Option Story) (j : State) (g : Geometry) (opened pending : List Record) (a : Active) → count_of a.tx (standing (opened ++ pending)) ≤ a.n → IsStoreOn want now told j g opened pending (a ∷ [])
    → WillBe now told g ((opened ++ pending) ++ Commit a.tx ∷ [])
WillBe-alone_only want now None j g opened pending a few store = tt
WillBe-alone_only want now (Some s) j g opened pending a few store = λ p lt.
    restored-commit_same (opened ++ pending) a p (page_at g p s.now.reads) few ∙ IsWhole-restored g.pages (λ q. page_at g q s.now.reads) now opened pending (a ∷ []) store.whole p lt
