-- What each call of the journal and the disk leaves, in the words of its clauses.
use Rattle.std.proofs.Common.{◌≡◌, ⊎_elim, ℕ, ◌<◌, true, Option, Some, None, Result, OnOk, OnErr, List, [], ◌++◌, length, sym, ◌∙◌, subst, arith}
use Rattle.sb_disk.specs.Disk.{Story, WhereTold, wrote, synced, FailedWrite}
use Rattle.sb_disk.specs.Moments.{LeavesOnly, LeavesTorn, Within}
use Rattle.sb_disk.proofs.MomentLemmas.{started, weaker, on_write, on_failed_write, on_write_call}
use Rattle.sb_journal.specs.State.{State, Sound, StandsOn, IsKeptOn, IsForcedOn, IsClosingOn, Appended, Forced, Closed, after_append, after_force, after_close}
use Rattle.sb_log.specs.declared.geometry.Geometry.{Geometry}
use Rattle.sb_log.specs.Records.{Record, AreRecords, spelled}
use Rattle.sb_log.specs.Restored.{imaged, IsCoveredBehind}
use Rattle.sb_images.specs.Layout.{place_of}
use Rattle.sb_images.specs.Images.{Restores}
use Rattle.sb_images.specs.Store.{IsReadyFor, IsReadyOn, IsPlainOn, AllOpen, IsStolen, OnDisk, restored_on}
use Rattle.sb_images.proofs.LayoutLemmas.{page_within}
use Rattle.sb_images.proofs.ImageLemmas.{Restores-as}
use Rattle.sb_images.proofs.HoldLemmas.{restored_on-plain, restores-now, restores-append, restores-force, restores-close, restores-write}
use Rattle.sb_images.proofs.StepLemmas.{IsReadyFor-append, AllOpen-force, IsStolen-wrote, IsReadyFor-sync, IsReadyFor-close}

module _ (want : ℕ → List ℕ) (j : State) (g : Geometry) (opened pending : List Record) where
  wanted : (s : Story) → IsReadyFor want s j g opened pending → (image : List ℕ) → Restores g (restored_on s g opened) image → Restores g want image
  wanted s ready image restores = Restores-as g (restored_on s g opened) want image ready.same restores

  -- the journal stands
  pub IsReadyOn-stands : (told : Option Story) → IsReadyOn want told j g opened pending → StandsOn told j
  IsReadyOn-stands None ready = tt
  IsReadyOn-stands (Some s) ready = λ up. ready.holds.placed.stands

  -- ---- at each moment the pages wanted are restored
  -- no call
  pub LeavesOnly-idle : (told : Option Story) → IsReadyOn want told j g opened pending → LeavesOnly told told (Restores g want)
  LeavesOnly-idle None ready = started None (Restores g want) (λ image left. absurd left)
  LeavesOnly-idle (Some s) ready = started (Some s) (Restores g want) (λ image left. wanted s ready image (restores-now s j g opened pending ready.holds image left))

  pub LeavesOnly-append : (told new : Option Story) → IsReadyOn want told j g opened pending → LeavesOnly told new (IsKeptOn told j) → LeavesOnly told new (Restores g want)
  LeavesOnly-append None new ready run = weaker None new (IsKeptOn None j) (Restores g want) (λ image left. absurd left) run
  LeavesOnly-append (Some s) new ready run = weaker (Some s) new (IsKeptOn (Some s) j) (Restores g want)
      (λ image kept. wanted s ready image (restores-append s j g opened pending ready.holds image (kept ready.holds.placed.up))) run

  pub LeavesOnly-force : (told new : Option Story) → IsReadyOn want told j g opened pending → LeavesOnly told new (IsForcedOn told j) → LeavesOnly told new (Restores g want)
  LeavesOnly-force None new ready run = weaker None new (IsForcedOn None j) (Restores g want) (λ image left. absurd left) run
  LeavesOnly-force (Some s) new ready run = weaker (Some s) new (IsForcedOn (Some s) j) (Restores g want)
      (λ image forced. ⊎_elim
      (λ (old : Restores g (restored_on s g opened) image). wanted s ready image old)
      (λ (all : Restores g (restored_on s g (opened ++ pending)) image).
      Restores-as g (restored_on s g (opened ++ pending)) want image (λ p lt. restored_on-plain s j g opened pending ready.holds ready.plain p lt ∙ ready.same p lt) all)
      (restores-force s j g opened pending ready.holds image (forced ready.holds.placed.up))) run

  -- where the disk's pages are those wanted
  pub LeavesOnly-close : (told new : Option Story) → IsReadyOn want told j g opened pending → OnDisk want told g → LeavesOnly told new (IsClosingOn told j) → LeavesOnly told new (Restores g want)
  LeavesOnly-close None new ready pages run = weaker None new (IsClosingOn None j) (Restores g want) (λ image left. absurd left) run
  LeavesOnly-close (Some s) new ready pages run = weaker (Some s) new (IsClosingOn (Some s) j) (Restores g want)
      (λ image closing. wanted s ready image
      (restores-close s j g opened pending ready.holds (λ p lt. ((pages p lt).0, (pages p lt).1 ∙ sym (ready.same p lt))) image (closing ready.holds.placed.up))) run

  -- the write of a page that has an Image in an open chunk, behind a run
  module _ (p : ℕ) (bytes : List ℕ) (lt : p < g.pages) (is : imaged opened p ≡ true) (long : length bytes ≡ 4096) where
    page_fits : (told : Option Story) → IsReadyOn want told j g opened pending → Within (place_of g p) (length bytes) told
    page_fits None ready = tt
    page_fits (Some s) ready = let within = page_within g (length s.now.reads) p ready.holds.placed.store.room lt in omega arith

    torn_page : (told : Option Story) → IsReadyOn want told j g opened pending → (image : List ℕ) → LeavesTorn (place_of g p) (length bytes) told image → Restores g want image
    torn_page None ready image torn = absurd torn
    torn_page (Some s) ready image torn = wanted s ready image (restores-write s j g opened pending ready.holds p (place_of g p) (length bytes) is (omega arith) (omega arith) image torn)

    pub LeavesOnly-write : {T E : Type 0} (result : Result T E) (old told new : Option Story) → IsReadyOn want told j g opened pending → LeavesOnly old told (Restores g want)
        → OnOk result (new ≡ wrote (place_of g p) bytes told) → OnErr result (FailedWrite (place_of g p) (length bytes) told new) → LeavesOnly old new (Restores g want)
    LeavesOnly-write result old told new ready so_far ok err =
        on_write_call result old told new (Restores g want) (place_of g p) bytes (page_fits told ready) so_far ok err (torn_page told ready)

    pub LeavesOnly-wrote : (old told new : Option Story) → IsReadyOn want told j g opened pending → LeavesOnly old told (Restores g want)
        → new ≡ wrote (place_of g p) bytes told → LeavesOnly old new (Restores g want)
    LeavesOnly-wrote old told new ready so_far is_wrote =
        on_write old told new (Restores g want) (place_of g p) bytes (page_fits told ready) so_far is_wrote (torn_page told ready)

    pub LeavesOnly-failed_write : (old told new : Option Story) → IsReadyOn want told j g opened pending → LeavesOnly old told (Restores g want)
        → FailedWrite (place_of g p) (length bytes) told new → LeavesOnly old new (Restores g want)
    LeavesOnly-failed_write old told new ready so_far failed =
        on_failed_write old told new (Restores g want) (place_of g p) (length bytes) so_far failed (torn_page told ready)

    -- ---- what each call makes of it
    pub IsStolen-on : (told new : Option Story) → IsReadyOn want told j g opened pending → new ≡ wrote (place_of g p) bytes told → WhereTold told new (IsStolen want j g opened pending p bytes)
    IsStolen-on None new ready is_wrote = is_wrote
    IsStolen-on (Some s) new ready is_wrote = subst (λ (n : Option Story). WhereTold (Some s) n (IsStolen want j g opened pending p bytes)) (sym is_wrote)
        (IsStolen-wrote want s j g opened pending p bytes ready lt is long)

  pub IsReadyOn-stolen : (p : ℕ) (bytes : List ℕ) (told new : Option Story) → WhereTold told new (IsStolen want j g opened pending p bytes) → IsReadyOn want new j g opened pending
  IsReadyOn-stolen p bytes None new stolen = subst (λ (n : Option Story). IsReadyOn want n j g opened pending) (sym stolen) tt
  IsReadyOn-stolen p bytes (Some s) None stolen = absurd stolen
  IsReadyOn-stolen p bytes (Some s) (Some t) stolen = stolen.ready

  pub IsReadyOn-append : (k : State) (more : List Record) (bytes : List ℕ) (told new : Option Story) → bytes ≡ spelled more → k ≡ after_append (length bytes) j → Sound k → WhereTold told new (Appended bytes j k)
      → IsCoveredBehind (opened ++ pending) more → AreRecords more → IsReadyOn want told j g opened pending → IsPlainOn told g opened (pending ++ more)
      → IsReadyOn want new k g opened (pending ++ more)
  IsReadyOn-append k more bytes None new spells done sound appended covered all ready plain = subst (λ (m : Option Story). IsReadyOn want m k g opened (pending ++ more)) (sym appended) tt
  IsReadyOn-append k more bytes (Some s) None spells done sound appended covered all ready plain = absurd appended
  IsReadyOn-append k more bytes (Some s) (Some t) spells done sound appended covered all ready plain =
      IsReadyFor-append s t j k g opened pending more (length bytes) done sound (subst (λ (l : List ℕ). Appended l j k s t) spells appended) want ready covered all plain

  -- what was pending is in open chunks now
  pub AllOpen-on : (k : State) (told new : Option Story) → k ≡ after_force j → Sound k → WhereTold told new (Forced j k) → IsReadyOn want told j g opened pending → WhereTold told new (AllOpen want k g (opened ++ pending))
  AllOpen-on k None new done sound forced ready = forced
  AllOpen-on k (Some s) None done sound forced ready = absurd forced
  AllOpen-on k (Some s) (Some t) done sound forced ready = AllOpen-force s t j k g opened pending done sound forced want ready

  pub IsReadyOn-synced : (told new : Option Story) → new ≡ synced told → IsReadyOn want told j g opened pending → IsReadyOn want new j g opened pending
  IsReadyOn-synced None new is ready = subst (λ (m : Option Story). IsReadyOn want m j g opened pending) (sym is) tt
  IsReadyOn-synced (Some s) new is ready = subst (λ (m : Option Story). IsReadyOn want m j g opened pending) (sym is) (IsReadyFor-sync want s j g opened pending ready)

  -- no record is left, and the pages are those of the disk
  pub IsReadyOn-close : (k : State) (told new : Option Story) → k ≡ after_close j → Sound k → WhereTold told new (Closed j k) → IsReadyOn want told j g opened pending → OnDisk want told g → IsReadyOn want new k g [] []
  IsReadyOn-close k None new done sound closed ready pages = subst (λ (m : Option Story). IsReadyOn want m k g [] []) (sym closed) tt
  IsReadyOn-close k (Some s) None done sound closed ready pages = absurd closed
  IsReadyOn-close k (Some s) (Some t) done sound closed ready pages = IsReadyFor-close s t j k g done sound closed ready.holds.placed want (λ p lt. (pages p lt).1)

pub IsReadyOn-open : (want : ℕ → List ℕ) (k : State) (g : Geometry) (recs : List Record) (told new : Option Story) → WhereTold told new (AllOpen want k g recs) → IsReadyOn want new k g recs []
IsReadyOn-open want k g recs None new all = subst (λ (n : Option Story). IsReadyOn want n k g recs []) (sym all) tt
IsReadyOn-open want k g recs (Some s) None all = absurd all
IsReadyOn-open want k g recs (Some s) (Some t) all = all.ready

-- pages that are the same are wanted alike
pub IsReadyOn-as : (want other : ℕ → List ℕ) (told : Option Story) (j : State) (g : Geometry) (opened pending : List Record) → ((p : ℕ) → p < g.pages → want p ≡ other p) → IsReadyOn want told j g opened pending → IsReadyOn other told j g opened pending
IsReadyOn-as want other None j g opened pending same ready = tt
IsReadyOn-as want other (Some s) j g opened pending same ready = record { holds = ready.holds; plain = ready.plain; same = λ p lt. ready.same p lt ∙ same p lt }
