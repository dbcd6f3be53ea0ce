-- A store that was restarted, for the crates above: it is mounted with the pages that its log restored, and a journal that is opened on it has no chunks.
use Rattle.std.proofs.Common.{◌≡◌, ℕ, ◌<◌, Option, Some, None, List, [], ◌∷◌, length, refl, sym, ◌∙◌, ap, subst, arith}
use Rattle.sb_disk.specs.Disk.{Range, Story, WhereTold}
use Rattle.sb_disk.specs.Moments.{Sure}
use Rattle.sb_disk.proofs.MomentLemmas.{IsSettled-none}
use Rattle.sb_journal.specs.Chunks.{ReadsAs, chunks_from}
use Rattle.sb_journal.specs.Opening.{Opened}
use Rattle.sb_journal.specs.State.{State, Sound, StandsOn}
use Rattle.sb_journal.proofs.OneReading.{one_reading}
use Rattle.sb_journal.proofs.RegionLemmas.{none_sure}
use Rattle.sb_log.specs.declared.geometry.Geometry.{Geometry}
use Rattle.sb_log.specs.Records.{Record}
use Rattle.sb_log.specs.Restored.{restored}
use Rattle.sb_images.specs.Layout.{gates_of, log_of, place_of, page_at}
use Rattle.sb_images.specs.Images.{Restores}
use Rattle.sb_images.specs.Store.{IsReadyOn, IsMounted, OnDisk}
use Rattle.sb_images.proofs.ImageLemmas.{Logs-one, Restores-empty}
use Rattle.sb_images.proofs.RestartLemmas.{IsReadyOn-mounted}
use Rattle.sb_recover.specs.Restarted.{IsRestarted}

module _ (g : Geometry) (s t : Story) (restart : IsRestarted g s t) where
  none_read : ReadsAs (gates_of g) (log_of g) t.now.reads []
  none_read = λ below. restart.shut 4096 (omega arith) (omega arith)

  -- each page as it stands on the disk
  pub IsMounted-pages : IsMounted (λ p. page_at g p t.now.reads) (Some t) g
  IsMounted-pages = (IsSettled-none t restart.settled, Restores-empty g (λ p. page_at g p t.now.reads) t.now.reads restart.still none_read (λ p lt. refl))

  -- the pages that were wanted
  page_wanted : (want : ℕ → List ℕ) → Restores g want s.now.reads → (p : ℕ) → p < g.pages → page_at g p t.now.reads ≡ want p
  page_wanted want old p lt =
      let same : restart.recs ≡ old.recs = Logs-one g s.now.reads old.recs restart.logs.chunks restart.recs restart.store.sizes old.logs restart.logs.reads restart.logs.sound restart.logs.spells in
      restart.pages p lt ∙ ap (λ (l : List Record). restored l p (page_at g p s.now.reads)) same ∙ old.each p lt

  mounted : (want : ℕ → List ℕ) → Restores g want s.now.reads → IsMounted want (Some t) g
  mounted want old = (IsSettled-none t restart.settled, Restores-empty g want t.now.reads restart.still none_read (page_wanted want old))

  on_disk : (want : ℕ → List ℕ) → Restores g want s.now.reads → OnDisk want (Some t) g
  on_disk want old = λ p lt. (subst (λ (w : List Range). Sure (place_of g p) 4096 w) (sym restart.settled) (none_sure (place_of g p) 4096), page_wanted want old p lt)

  no_lens : (at : ℕ) (lens image : List ℕ) → chunks_from at lens image ≡ [] → lens ≡ []
  no_lens at [] image e = refl
  no_lens at (n ∷ lens) image e = absurd (let l = ap (λ (x : List (List ℕ)). length x) e in omega (arith, l))

  no_chunks : (j : State) → Opened (Some t) (gates_of g) (log_of g) j → j.lens ≡ []
  no_chunks j is_opened = no_lens 69632 j.lens t.now.reads
      (one_reading (gates_of g) (log_of g) t.now.reads (chunks_from 69632 j.lens t.now.reads) [] (let most = restart.still.sizes.log.1 in omega (arith, most)) is_opened.read none_read)

  ready : (want : ℕ → List ℕ) (j : State) → IsMounted want (Some t) g → Opened (Some t) (gates_of g) (log_of g) j → Sound j → StandsOn (Some t) j → IsReadyOn want (Some t) j g [] []
  ready want j is_mounted is_opened sound stands =
      IsReadyOn-mounted want j g (ap (λ (x : State). x.gates) is_opened.state) (ap (λ (x : State). x.log) is_opened.state) sound (ap (λ (x : State). x.failed) is_opened.state) (ap (λ (x : State). x.pending) is_opened.state)
      [] [] tt refl (Some t) stands is_mounted (ap (λ (l : List ℕ). chunks_from j.log.start l t.now.reads) (sym (no_chunks j is_opened)))

-- ---- the same of what is told
module _ (g : Geometry) (want : ℕ → List ℕ) where
  pub IsMounted-restarted : (old new : Option Story) → WhereTold old new (IsRestarted g) → IsMounted want old g → IsMounted want new g
  IsMounted-restarted None new restart is_mounted = subst (λ (m : Option Story). IsMounted want m g) (sym restart) tt
  IsMounted-restarted (Some s) None restart is_mounted = absurd restart
  IsMounted-restarted (Some s) (Some t) restart is_mounted = mounted g s t restart want is_mounted.1

  pub OnDisk-restarted : (old new : Option Story) → WhereTold old new (IsRestarted g) → IsMounted want old g → OnDisk want new g
  OnDisk-restarted None new restart is_mounted = subst (λ (m : Option Story). OnDisk want m g) (sym restart) tt
  OnDisk-restarted (Some s) None restart is_mounted = absurd restart
  OnDisk-restarted (Some s) (Some t) restart is_mounted = on_disk g s t restart want is_mounted.1

  -- A journal that is opened then has no chunks, and the store is ready.
  pub IsReadyOn-restarted : (old new : Option Story) (j : State) → WhereTold old new (IsRestarted g) → IsMounted want new g → Opened new (gates_of g) (log_of g) j → Sound j → StandsOn new j → IsReadyOn want new j g [] []
  IsReadyOn-restarted None new j restart is_mounted is_opened sound stands = subst (λ (m : Option Story). IsReadyOn want m j g [] []) (sym restart) tt
  IsReadyOn-restarted (Some s) None j restart is_mounted is_opened sound stands = absurd restart
  IsReadyOn-restarted (Some s) (Some t) j restart is_mounted is_opened sound stands = ready g s t restart want j is_mounted is_opened sound stands
