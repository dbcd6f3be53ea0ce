-- How a run of writes of pages goes on, and how it ends.
use Rattle.std.proofs.Common.{◌≡◌, ◌⊎◌, inl, inr, ⊎_elim, ℕ, ◌<◌, true, Option, Some, None, Result, OnOk, OnErr, List, length, refl, sym, ◌∙◌, ap, subst}
use Rattle.std.proofs.lemmas.Bool.{cases_eq}
use Rattle.sb_disk.specs.Disk.{Story, WhereTold, wrote, synced, FailedWrite, FailedSync}
use Rattle.sb_disk.specs.Moments.{LeavesOnly}
use Rattle.sb_disk.proofs.MomentLemmas.{on_sync_call}
use Rattle.sb_journal.proofs.RegionLemmas.{none_sure}
use Rattle.sb_journal.specs.State.{State}
use Rattle.sb_log.specs.declared.geometry.Geometry.{Geometry}
use Rattle.sb_log.specs.Records.{Record}
use Rattle.sb_log.specs.Restored.{imaged}
use Rattle.sb_images.specs.Layout.{place_of, page_at}
use Rattle.sb_images.specs.Images.{Restores}
use Rattle.sb_images.specs.Store.{IfTold, IsReadyOn, IsStolen, KeepsRest, OnDisk}
use Rattle.sb_images.specs.Writing.{AreWritten, Writes, HasRest}
use Rattle.sb_images.proofs.CallLemmas.{LeavesOnly-idle, LeavesOnly-write, LeavesOnly-wrote, IsStolen-on, IsReadyOn-stolen}

module _ (want pages : ℕ → List ℕ) (j : State) (g : Geometry) (opened pending : List Record) where
  -- before the first write
  none_written : (told : Option Story) → WhereTold told told (AreWritten pages g (λ q. ⊥))
  none_written None = refl
  none_written (Some s) = λ p lt is. ⊎_elim (λ (so : page_at g p s.now.reads ≡ pages p). so) (λ none. absurd none) is

  none_touched : (told : Option Story) → WhereTold told told (KeepsRest g opened)
  none_touched None = refl
  none_touched (Some s) = λ p lt. inr refl

  pub Writes-none : (told : Option Story) → IsReadyOn want told j g opened pending → Writes want pages j g opened pending (λ q. ⊥) told told
  Writes-none told ready = record { leaves = LeavesOnly-idle want j g opened pending told ready; ready = ready; written = none_written told; rest = none_touched told }

  -- those that are said to be done may be fewer
  fewer_written : (Done Fewer : ℕ → Type 0) → ((q : ℕ) → q < g.pages → Fewer q → Done q) → (a b : Option Story) → WhereTold a b (AreWritten pages g Done) → WhereTold a b (AreWritten pages g Fewer)
  fewer_written Done Fewer fewer None b written = written
  fewer_written Done Fewer fewer (Some s) None written = written
  fewer_written Done Fewer fewer (Some s) (Some t) written = λ p lt is.
      written p lt (⊎_elim (λ (so : page_at g p s.now.reads ≡ pages p). inl so) (λ (done : Fewer p). inr (fewer p lt done)) is)

  pub Writes-fewer : (Done Fewer : ℕ → Type 0) → ((q : ℕ) → q < g.pages → Fewer q → Done q) → (a b : Option Story) → Writes want pages j g opened pending Done a b → Writes want pages j g opened pending Fewer a b
  Writes-fewer Done Fewer fewer a b run = record { leaves = run.leaves; ready = run.ready; written = fewer_written Done Fewer fewer a b run.written; rest = run.rest }

  -- one page more
  module _ (Done : ℕ → Type 0) (p : ℕ) (bytes : List ℕ) (a b c : Option Story) (lt : p < g.pages) (is : imaged opened p ≡ true) (long : length bytes ≡ 4096) (run : Writes want pages j g opened pending Done a b) where
    pub Writes-leaves : {T E : Type 0} (result : Result T E) → OnOk result (c ≡ wrote (place_of g p) bytes b) → OnErr result (FailedWrite (place_of g p) (length bytes) b c) → LeavesOnly a c (Restores g want)
    Writes-leaves result ok err = LeavesOnly-write want j g opened pending p bytes lt is long result a b c run.ready run.leaves ok err

    more_written : (a b c : Option Story) → IfTold a (bytes ≡ pages p) → WhereTold a b (AreWritten pages g Done) → WhereTold b c (IsStolen want j g opened pending p bytes) → WhereTold a c (AreWritten pages g (λ q. Done q ⊎ (q ≡ p)))
    more_written None b c so written stolen = subst (λ (n : Option Story). WhereTold n c (IsStolen want j g opened pending p bytes)) written stolen
    more_written (Some s) None c so written stolen = absurd written
    more_written (Some s) (Some t) None so written stolen = stolen
    more_written (Some s) (Some t) (Some u) so written stolen = λ q below had. ⊎_elim
        (λ (e : q ≡ p). ap (λ (x : ℕ). page_at g x u.now.reads) e ∙ stolen.page ∙ so ∙ ap pages (sym e))
        (λ (other : ¬ (q ≡ p)). stolen.others q below other ∙ written q below (⊎_elim
        (λ (was : page_at g q s.now.reads ≡ pages q). inl was)
        (λ (done : Done q ⊎ (q ≡ p)). ⊎_elim (λ (earlier : Done q). inr earlier) (λ (e : q ≡ p). absurd (other e)) done)
        had))
        (cases_eq q p)

    more_touched : (a b c : Option Story) → WhereTold a b (KeepsRest g opened) → WhereTold b c (IsStolen want j g opened pending p bytes) → WhereTold a c (KeepsRest g opened)
    more_touched None b c rest stolen = subst (λ (n : Option Story). WhereTold n c (IsStolen want j g opened pending p bytes)) rest stolen
    more_touched (Some s) None c rest stolen = absurd rest
    more_touched (Some s) (Some t) None rest stolen = stolen
    more_touched (Some s) (Some t) (Some u) rest stolen = λ q below. ⊎_elim
        (λ (e : q ≡ p). inl (subst (λ (x : ℕ). imaged opened x ≡ true) (sym e) is))
        (λ (other : ¬ (q ≡ p)). ⊎_elim
        (λ (has : imaged opened q ≡ true). inl has)
        (λ (so : page_at g q t.now.reads ≡ page_at g q s.now.reads). inr (stolen.others q below other ∙ so))
        (rest q below))
        (cases_eq q p)

    pub Writes-more : IfTold a (bytes ≡ pages p) → c ≡ wrote (place_of g p) bytes b → Writes want pages j g opened pending (λ q. Done q ⊎ (q ≡ p)) a c
    Writes-more so is_wrote =
        let stolen = IsStolen-on want j g opened pending p bytes lt is long b c run.ready is_wrote in
        record {
          leaves = LeavesOnly-wrote want j g opened pending p bytes lt is long a b c run.ready run.leaves is_wrote;
          ready = IsReadyOn-stolen want j g opened pending p bytes b c stolen;
          written = more_written a b c so run.written stolen;
          rest = more_touched a b c run.rest stolen;
        }

  -- the sync behind them
  pub Writes-sync_leaves : {T E : Type 0} (result : Result T E) (Done : ℕ → Type 0) (a b c : Option Story) → Writes want pages j g opened pending Done a b → OnOk result (c ≡ synced b) → OnErr result (FailedSync b c) → LeavesOnly a c (Restores g want)
  Writes-sync_leaves result Done a b c run ok err = on_sync_call result a b c (Restores g want) run.leaves ok err

  -- where each other page was so already
  pub OnDisk-writes : (Done : ℕ → Type 0) (a b c : Option Story) → Writes want pages j g opened pending Done a b → HasRest pages a g Done → c ≡ synced b → OnDisk pages c g
  OnDisk-writes Done None b c run rest is = subst (λ (m : Option Story). OnDisk pages m g) (sym (is ∙ ap synced run.written)) tt
  OnDisk-writes Done (Some s) None c run rest is = absurd run.written
  OnDisk-writes Done (Some s) (Some t) c run rest is = subst (λ (m : Option Story). OnDisk pages m g) (sym is) (λ p lt. (none_sure (place_of g p) 4096, run.written p lt (rest p lt)))
