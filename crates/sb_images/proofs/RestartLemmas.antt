-- What a restart finds, and what it leaves.
use Rattle.std.proofs.Common.{◌≡◌, inl, inr, ⊎_elim, ℕ, ◌+◌, ◌<◌, ◌≤◌, true, false, Option, Some, None, List, [], length, take, drop, sym, ◌∙◌, ap, subst, arith}
use Rattle.std.proofs.lemmas.Bool.{cases_Bool}
use Rattle.std.proofs.lemmas.List.{append-nil}
use Rattle.sb_disk.specs.Disk.{Range, Story, WhereTold}
use Rattle.sb_disk.specs.Moments.{LeavesOnly, IsSettled, Sure}
use Rattle.sb_disk.proofs.MomentLemmas.{started, Leaves-reads, IsSettled-LeavesNow, IsSettled-none}
use Rattle.sb_journal.specs.Chunks.{IsOpen, ReadsAs, bytes_of}
use Rattle.sb_journal.specs.State.{State, Sound, Stands, StandsOn, chunks_of, Closed, after_close}
use Rattle.sb_log.specs.declared.geometry.Geometry.{Geometry}
use Rattle.sb_log.specs.Records.{Record, AreRecords, Spells}
use Rattle.sb_log.specs.Restored.{restored, imaged, IsCovered}
use Rattle.sb_log.proofs.RestoredLemmas.{restored-imaged}
use Rattle.sb_log.proofs.ImageLemmas.{restored-not_imaged}
use Rattle.sb_images.specs.Layout.{gates_of, log_of, place_of, page_at}
use Rattle.sb_images.specs.Images.{Restores}
use Rattle.sb_images.specs.Store.{IsReadyFor, IfTold, IsReadyOn, IsMounted, AreChunks, AreShut}
use Rattle.sb_images.specs.Writing.{HasRest}
use Rattle.sb_images.proofs.ImageLemmas.{Logs-one, Restores-as}
use Rattle.sb_images.proofs.HoldLemmas.{restores-now}

-- the contents are an image
pub Restores-contents : (want : ℕ → List ℕ) (s : Story) (j : State) (g : Geometry) (opened pending : List Record) → IsReadyFor want s j g opened pending → Restores g want s.now.reads
Restores-contents want s j g opened pending ready =
    Restores-as g (λ p. restored opened p (page_at g p s.now.reads)) want s.now.reads ready.same (restores-now s j g opened pending ready.holds s.now.reads (Leaves-reads s.now))

-- before the first call they are what a crash leaves
pub LeavesOnly-mounted : (want : ℕ → List ℕ) (told : Option Story) (g : Geometry) → IsMounted want told g → LeavesOnly told told (Restores g want)
LeavesOnly-mounted want None g mounted = started None (Restores g want) (λ image left. absurd left)
LeavesOnly-mounted want (Some s) g mounted = started (Some s) (Restores g want) (λ image left. subst (λ (i : List ℕ). Restores g want i) (sym (IsSettled-LeavesNow (Some s) mounted.0 image left)) mounted.1)

-- ---- what is found
module _ (want : ℕ → List ℕ) (j : State) (g : Geometry) (gates : j.gates ≡ gates_of g) (log : j.log ≡ log_of g) (sound : Sound j) (up : j.failed ≡ false) (none : j.pending ≡ 0) (chunks : List (List ℕ)) (recs : List Record) (all : AreRecords recs) (spells : Spells chunks recs) where
  module _ (s : Story) (stands : Stands s j) (settled : IsSettled (Some s)) (restores : Restores g want s.now.reads) (are : chunks ≡ chunks_of j s.now.reads) where
    reads_here : ReadsAs (gates_of g) (log_of g) s.now.reads chunks
    reads_here = subst (λ (cs : List (List ℕ)). ReadsAs (gates_of g) (log_of g) s.now.reads cs) (sym are)
        (subst (λ (r : Range). ReadsAs r (log_of g) s.now.reads (chunks_of j s.now.reads)) gates (subst (λ (r : Range). ReadsAs j.gates r s.now.reads (chunks_of j s.now.reads)) log stands.reads))

    recs_are : recs ≡ restores.recs
    recs_are = Logs-one g s.now.reads restores.recs chunks recs restores.store.sizes restores.logs reads_here all spells

    settled_sure : (at count : ℕ) → Sure at count s.now.written
    settled_sure at count = λ i from to. settled i

    ready_here : IsReadyFor want s j g recs []
    ready_here = record {
      holds = record {
        placed = record { store = restores.store; super = settled_sure 0 4096; gates = gates; log = log; sound = sound; up = up; stands = stands };
        forced = subst (λ (cs : List (List ℕ)). Spells cs recs) are spells;
        tail = ap (λ (m : ℕ). take m (drop (j.log.start + bytes_of j.lens + 4) s.now.reads)) none;
        sound = subst (λ (l : List Record). AreRecords l) (sym (append-nil recs)) all;
        covered = subst (λ (l : List Record). IsCovered l) (sym recs_are ∙ sym (append-nil recs)) restores.covered;
        backed = λ p lt. inr (settled_sure (place_of g p) 4096);
      };
      plain = λ p lt. tt;
      same = λ p lt. ap (λ (l : List Record). restored l p (page_at g p s.now.reads)) recs_are ∙ restores.each p lt;
    }

  -- where the contents restore these pages and no byte is pending, the records that are read in the chunks make the store ready
  pub IsReadyOn-mounted : (told : Option Story) → StandsOn told j → IsMounted want told g → AreChunks told j chunks → IsReadyOn want told j g recs []
  IsReadyOn-mounted None stands mounted are = tt
  IsReadyOn-mounted (Some s) stands mounted are = ready_here s (stands up) mounted.0 mounted.1 are

module _ (want : ℕ → List ℕ) (j : State) (g : Geometry) (opened : List Record) where
  -- a page that has an Image is restored whatever the disk has
  pub IfTold-restored : (pending : List Record) (p : ℕ) (disk : List ℕ) (told : Option Story) → p < g.pages → imaged opened p ≡ true → IsReadyOn want told j g opened pending → IfTold told (restored opened p disk ≡ want p)
  IfTold-restored pending p disk None lt is ready = tt
  IfTold-restored pending p disk (Some s) lt is ready = restored-imaged opened p disk (page_at g p s.now.reads) is ∙ ready.same p lt

  -- each other page is on the disk as it is restored
  pub HasRest-ready : (told : Option Story) → IsReadyOn want told j g opened [] → HasRest want told g (λ p. imaged opened p ≡ true)
  HasRest-ready None ready = tt
  HasRest-ready (Some s) ready = λ p lt. ⊎_elim
      (λ (is : imaged opened p ≡ true). inr is)
      (λ (is : imaged opened p ≡ false). inl (sym (restored-not_imaged opened p (page_at g p s.now.reads) (subst (λ (l : List Record). IsCovered l) (append-nil opened) ready.holds.covered) is) ∙ ready.same p lt))
      (cases_Bool (imaged opened p))

-- ---- what is left, when the gates are closed
module _ (j k : State) (g : Geometry) where
  pub IsMounted-close : (want : ℕ → List ℕ) (told new : Option Story) → WhereTold told new (Closed j k) → IsReadyOn want new k g [] [] → IsMounted want new g
  IsMounted-close want None new closed ready = subst (λ (m : Option Story). IsMounted want m g) (sym closed) tt
  IsMounted-close want (Some s) None closed ready = absurd closed
  IsMounted-close want (Some s) (Some t) closed ready = (IsSettled-none t closed.settled, Restores-contents want t k g [] [] ready)

  shut_close : (s t : Story) → k ≡ after_close j → j.gates ≡ gates_of g → Closed j k s t → (i : ℕ) → 4096 ≤ i → i < 69632 → ¬ IsOpen t.now.reads i
  shut_close s t done gates closed i from to =
      let start : k.gates.start ≡ 4096 = ap (λ (x : State). x.gates.start) done ∙ ap (λ (r : Range). r.start) gates in
      let len : k.gates.len ≡ 65536 = ap (λ (x : State). x.gates.len) done ∙ ap (λ (r : Range). r.len) gates in
      let count : length k.lens ≡ 0 = ap (λ (x : State). length x.lens) done in
      closed.stands.shut.0 (ap (λ (x : State). x.clean) done) i (omega arith) (omega arith)

  pub AreShut-close : (told new : Option Story) → k ≡ after_close j → j.gates ≡ gates_of g → WhereTold told new (Closed j k) → AreShut new g
  AreShut-close None new done gates closed = subst (λ (m : Option Story). AreShut m g) (sym closed) tt
  AreShut-close (Some s) None done gates closed = absurd closed
  AreShut-close (Some s) (Some t) done gates closed = shut_close s t done gates closed
