-- What a crash leaves of a store while its dirty pages are written.
use Rattle.std.proofs.Common.{◌≡◌, ◌⊎◌, inl, inr, ⊎_elim, ℕ, true, Option, Some, None, List, [], ◌∷◌, ◌++◌, refl, sym, ◌∙◌, ap, subst}
use Rattle.sb_disk.specs.Disk.{Story, WhereTold, wrote, synced}
use Rattle.sb_disk.specs.Moments.{LeavesOnly, RanOk, RanErr}
use Rattle.sb_disk.proofs.MomentLemmas.{and_then, on_sync, on_failed_sync}
use Rattle.sb_journal.specs.State.{State, Sound, IsForcedOn, Forced, after_force}
use Rattle.sb_log.specs.declared.geometry.Geometry.{Geometry}
use Rattle.sb_log.specs.Records.{Record}
use Rattle.sb_log.specs.Restored.{imaged}
use Rattle.sb_images.specs.Layout.{place_of, page_at}
use Rattle.sb_images.specs.Images.{Restores}
use Rattle.sb_images.specs.Store.{IfTold, IsReadyOn, AllOpen, KeepsRest}
use Rattle.sb_images.specs.Writing.{Writes}
use Rattle.sb_images.proofs.CallLemmas.{LeavesOnly-force, LeavesOnly-failed_write, IsReadyOn-synced, AllOpen-on, IsReadyOn-open}
use Rattle.sb_images.proofs.WritingLemmas.{Writes-none, Writes-fewer, Writes-more}
use Rattle.sb_pool.specs.Calls.{IsReadyStill}
use Rattle.sb_pool.specs.Frames.{Put, puts}
use Rattle.sb_pool.proofs.PutLemmas.{All}
use Rattle.sb_pool.proofs.PutRuns.{IsPage}

if_told : (told : Option Story) (A : Type 0) → A → IfTold told A
if_told None A has = tt
if_told (Some s) A has = has

rest_synced : (g : Geometry) (recs : List Record) (a b c : Option Story) → WhereTold a b (KeepsRest g recs) → c ≡ synced b → WhereTold a c (KeepsRest g recs)
rest_synced g recs None b c rest is = is ∙ ap synced rest
rest_synced g recs (Some s) None c rest is = absurd rest
rest_synced g recs (Some s) (Some t) c rest is = subst (λ (n : Option Story). WhereTold (Some s) n (KeepsRest g recs)) (sym is) rest

module _ (want pages : ℕ → List ℕ) (j : State) (g : Geometry) (recs : List Record) where
  -- with a page more the run goes on
  put_more : (d : Put) (a b : Option Story) → IsPage g d.page d.bytes → imaged recs d.page ≡ true → d.bytes ≡ pages d.page → Writes want pages j g recs [] (λ q. ⊥) a b
      → Writes want pages j g recs [] (λ q. ⊥) a (wrote (place_of g d.page) d.bytes b)
  put_more d a b page is so run = Writes-fewer want pages j g recs [] (λ q. ⊥ ⊎ (q ≡ d.page)) (λ q. ⊥) (λ q lt none. absurd none) a (wrote (place_of g d.page) d.bytes b)
      (Writes-more want pages j g recs [] (λ q. ⊥) d.page d.bytes a b (wrote (place_of g d.page) d.bytes b) page.below is page.long run (if_told a (d.bytes ≡ pages d.page) so) refl)

  -- none of the calls failed
  pub images_ok : (ds : List Put) (a b c : Option Story) → All (IsPage g) ds → All (λ p bytes. imaged recs p ≡ true) ds → All (λ p bytes. bytes ≡ pages p) ds → Writes want pages j g recs [] (λ q. ⊥) a b
      → RanOk (puts g ds) b c → LeavesOnly a c (Restores g want) × IsReadyStill want g recs [] j a c
  images_ok [] a b c are is so run ran =
      (on_sync a b c (Restores g want) run.leaves ran, record { ready = IsReadyOn-synced want j g recs [] b c ran run.ready; rest = rest_synced g recs a b c run.rest ran })
  images_ok (d ∷ ds) a b c are is so run ran = images_ok ds a (wrote (place_of g d.page) d.bytes b) c are.1 is.1 so.1 (put_more d a b are.0 is.0 so.0 run) ran

  -- one of them did
  pub images_err : (ds : List Put) (a b c : Option Story) → All (IsPage g) ds → All (λ p bytes. imaged recs p ≡ true) ds → All (λ p bytes. bytes ≡ pages p) ds → Writes want pages j g recs [] (λ q. ⊥) a b
      → RanErr (puts g ds) b c → LeavesOnly a c (Restores g want)
  images_err [] a b c are is so run (inl failed) = on_failed_sync a b c (Restores g want) run.leaves failed
  images_err [] a b c are is so run (inr ran) = absurd ran
  images_err (d ∷ ds) a b c are is so run (inl failed) = let page = are.0 in LeavesOnly-failed_write want j g recs [] d.page d.bytes page.below is.0 page.long a b c run.ready run.leaves failed
  images_err (d ∷ ds) a b c are is so run (inr ran) = images_err ds a (wrote (place_of g d.page) d.bytes b) c are.1 is.1 so.1 (put_more d a b are.0 is.0 so.0 run) ran

-- ---- behind a force
rest_behind : (want : ℕ → List ℕ) (k : State) (g : Geometry) (recs : List Record) (a b c : Option Story) → WhereTold a b (AllOpen want k g recs) → WhereTold b c (KeepsRest g recs) → WhereTold a c (KeepsRest g recs)
rest_behind want k g recs None b c now rest = subst (λ (n : Option Story). WhereTold n c (KeepsRest g recs)) now rest
rest_behind want k g recs (Some s) None c now rest = absurd now
rest_behind want k g recs (Some s) (Some t) None now rest = rest
rest_behind want k g recs (Some s) (Some t) (Some u) now rest = λ p lt. ⊎_elim
    (λ (is : imaged recs p ≡ true). inl is)
    (λ (same : page_at g p u.now.reads ≡ page_at g p t.now.reads). inr (same ∙ now.pages p lt))
    (rest p lt)

module _ (want pages : ℕ → List ℕ) (j k : State) (g : Geometry) (opened pending : List Record) (ds : List Put) (told mid new : Option Story) (ready : IsReadyOn want told j g opened pending)
    (are : All (IsPage g) ds) (is : All (λ p bytes. imaged (opened ++ pending) p ≡ true) ds) (so : All (λ p bytes. bytes ≡ pages p) ds)
    (any : LeavesOnly told mid (IsForcedOn told j)) (done : k ≡ after_force j) (sound : Sound k) (forced : WhereTold told mid (Forced j k)) where
  so_far : LeavesOnly told mid (Restores g want)
  so_far = LeavesOnly-force want j g opened pending told mid ready any

  open_now : WhereTold told mid (AllOpen want k g (opened ++ pending))
  open_now = AllOpen-on want j g opened pending k told mid done sound forced ready

  begun : Writes want pages k g (opened ++ pending) [] (λ q. ⊥) mid mid
  begun = Writes-none want pages k g (opened ++ pending) [] mid (IsReadyOn-open want k g (opened ++ pending) told mid open_now)

  pub flush_ok : RanOk (puts g ds) mid new → LeavesOnly told new (Restores g want) × IsReadyStill want g (opened ++ pending) [] k told new
  flush_ok ran =
      let after = images_ok want pages k g (opened ++ pending) ds mid mid new are is so begun ran in
      (and_then told mid new (Restores g want) so_far after.0, record { ready = after.1.ready; rest = rest_behind want k g (opened ++ pending) told mid new open_now after.1.rest })

  pub flush_err : RanErr (puts g ds) mid new → LeavesOnly told new (Restores g want)
  flush_err ran = and_then told mid new (Restores g want) so_far (images_err want pages k g (opened ++ pending) ds mid mid new are is so begun ran)
