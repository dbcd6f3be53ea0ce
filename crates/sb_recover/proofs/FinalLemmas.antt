-- What each step of a restart leaves.
use Rattle.std.proofs.Common.{◌≡◌, inl, inr, ⊎_elim, ℕ, ◌+◌, ◌*◌, ◌<◌, ◌≤◌, true, false, Option, Some, None, Result, OnOk, OnErr, List, [], ◌∷◌, length, sym, ◌∙◌, ap, subst, arith}
use Rattle.std.proofs.lemmas.Bool.{cases_Bool, both_ways}
use Rattle.sb_disk.specs.Disk.{Range, Story, IsIn, AgreesBut, WhereTold, synced, after_sync, FailedSync}
use Rattle.sb_disk.specs.Moments.{LeavesOnly, Sure}
use Rattle.sb_disk.proofs.MomentLemmas.{and_then, weaker, on_sync_call, IsSettled-none}
use Rattle.sb_disk.proofs.RangeLemmas.{AgreesBut-same, AgreesBut-then, same_slice}
use Rattle.sb_journal.specs.Chunks.{ReadsAs, bytes_of}
use Rattle.sb_journal.specs.State.{State, Stands, StandsOn, Lies, IsOff, chunks_of, IsClosingOn, Closed, after_close}
use Rattle.sb_journal.proofs.ForeignLemmas.{foreign_torn, foreign_stands}
use Rattle.sb_journal.proofs.RegionLemmas.{none_sure}
use Rattle.sb_journal.proofs.OneReading.{one_reading}
use Rattle.sb_log.specs.declared.geometry.Geometry.{Geometry}
use Rattle.sb_log.specs.Records.{Record}
use Rattle.sb_log.specs.Restored.{restored, IsCovered}
use Rattle.sb_log.proofs.RestoredLemmas.{restored-imaged}
use Rattle.sb_images.specs.Layout.{gates_of, log_of, place_of, page_at, IsStoreOf}
use Rattle.sb_images.specs.Images.{Logs, Restores}
use Rattle.sb_images.specs.Store.{IsReadyOn, IsMounted, OnDisk}
use Rattle.sb_images.proofs.LayoutLemmas.{Lies-at, IsStoreOf-AgreesBut, page_at-AgreesBut, IsOff-page, one_geometry, page_off_gates, super_off_gates}
use Rattle.sb_images.proofs.ImageLemmas.{Logs-one}
use Rattle.sb_images.proofs.RestartLemmas.{IsReadyOn-mounted, LeavesOnly-mounted, AreShut-close}
use Rattle.sb_images.proofs.CallLemmas.{LeavesOnly-close}
use Rattle.sb_recover.specs.Frames.{has}
use Rattle.sb_recover.specs.declared.fault.OpenFault.{OpenFault}
use Rattle.sb_recover.specs.declared.fault.OpenFault.TheVariants as faults
use Rattle.sb_recover.specs.Faults.{IsFree}
use Rattle.sb_recover.specs.Geometries.{IsStoreTold, HoldsNone, NoStoreErr}
use Rattle.sb_recover.specs.Restoring.{AreRestored, RestoredOn}
use Rattle.sb_recover.specs.Writing.{AgreesOff, LeavesPages, AllWritten}
use Rattle.sb_recover.specs.BadLog.{IsLog, LogErr, IsPast, IsNoRow, IsBadLogOn}
use Rattle.sb_recover.specs.Restarted.{IsRestarted, WasBad, RestartErr}
use Rattle.sb_recover.proofs.LogLemmas.{Spelled, Spelled-rows}

-- ---- outside the pages
AgreesBut-data : (g : Geometry) (frames : List (List ℕ)) (old new : List ℕ) → AgreesOff g frames old new → AgreesBut (record { start = place_of g 0; len = 4096 * g.pages } ∷ []) old new
AgreesBut-data g frames old new off = record {
  size = off.size;
  bytes = λ i out. off.bytes i (λ held. out (inl (
    let from = held.from in omega (arith, from),
    let to = held.to in let below = held.below in omega (arith, to, below),
  )));
}

page_at-off : (g : Geometry) (frames : List (List ℕ)) (old new : List ℕ) (p : ℕ) → AgreesOff g frames old new → has frames p ≡ false → page_at g p new ≡ page_at g p old
page_at-off g frames old new p off none = sym (same_slice (place_of g p) 4096 old new off.size (λ i from to. off.bytes i (λ held.
    let q_from = held.from in let q_to = held.to in
    let same : held.p ≡ p = omega (arith, from, to, q_from, q_to) in
    both_ways (has frames p) none (subst (λ (q : ℕ). has frames q ≡ true) same held.held_is))))

-- ---- with the journal of a store
module _ (s : Story) (g : Geometry) (j : State) (chunks frames : List (List ℕ)) (store : IsStoreOf g s.now.reads) (log : IsLog (Some s) g j chunks) where
  lies : Lies (length s.now.reads) j.gates j.log
  lies = Lies-at g (length s.now.reads) j store.sizes store.room log.gates log.log

  stands : Stands s j
  stands = log.stands log.up

  off : IsOff j (place_of g 0) (4096 * g.pages)
  off = IsOff-page g j log.gates log.log 0 (place_of g 0) (4096 * g.pages) (omega arith)

  reads_as : ReadsAs (gates_of g) (log_of g) s.now.reads chunks
  reads_as = subst (λ (cs : List (List ℕ)). ReadsAs (gates_of g) (log_of g) s.now.reads cs) (sym log.are)
      (subst (λ (r : Range). ReadsAs r (log_of g) s.now.reads (chunks_of j s.now.reads)) log.gates (subst (λ (r : Range). ReadsAs j.gates r s.now.reads (chunks_of j s.now.reads)) log.log stands.reads))

  pub spelled : Spelled chunks
  spelled = Spelled-rows chunks log.rows

  pub logs_here : Logs g s.now.reads spelled.recs
  logs_here = record { chunks = chunks; reads = reads_as; spells = spelled.spells; sound = spelled.are }

  -- an image that differs in pages that are held alone
  module _ (image : List ℕ) (agrees : AgreesOff g frames s.now.reads image) where
    store_kept : IsStoreOf g image
    store_kept = IsStoreOf-AgreesBut g (record { start = place_of g 0; len = 4096 * g.pages } ∷ []) s.now.reads image (AgreesBut-data g frames s.now.reads image agrees)
        (λ i from to covered. ⊎_elim (λ (inside : (place_of g 0 ≤ i) × (i < place_of g 0 + 4096 * g.pages)). let low = inside.0 in absurd (omega (arith, to, low))) (λ none. none) covered) store

    chunks_kept : ReadsAs (gates_of g) (log_of g) image chunks
    chunks_kept =
        let torn : AgreesBut (record { start = place_of g 0; len = 4096 * g.pages } ∷ s.now.written) s.now.reads image =
        AgreesBut-then (record { start = place_of g 0; len = 4096 * g.pages }) s.now.written s.now.reads image image (AgreesBut-data g frames s.now.reads image agrees)
        (AgreesBut-same (record { start = place_of g 0; len = 4096 * g.pages } ∷ s.now.written) image) in
        subst (λ (cs : List (List ℕ)). ReadsAs (gates_of g) (log_of g) image cs) (sym log.are)
        (subst (λ (r : Range). ReadsAs r (log_of g) image (chunks_of j s.now.reads)) log.gates (subst (λ (r : Range). ReadsAs j.gates r image (chunks_of j s.now.reads)) log.log
        (foreign_torn s j stands lies log.sound (place_of g 0) (4096 * g.pages) off image torn)))

    module _ (restores_pages : RestoredOn (Some s) g chunks frames) where
      are_restored : AreRestored g.pages (λ p. page_at g p s.now.reads) spelled.recs frames
      are_restored = restores_pages spelled.recs spelled.are spelled.spells

      -- the pages that are held have Images
      pub Restores-pages : (want : ℕ → List ℕ) → Restores g want s.now.reads → Restores g want image
      Restores-pages want old =
          let same : spelled.recs ≡ old.recs = Logs-one g s.now.reads old.recs chunks spelled.recs store.sizes old.logs reads_as spelled.are spelled.spells in
          let covered : IsCovered spelled.recs = subst IsCovered (sym same) old.covered in
          record {
            recs = spelled.recs;
            store = store_kept;
            logs = record { chunks = chunks; reads = chunks_kept; spells = spelled.spells; sound = spelled.are };
            covered = covered;
            each = λ p lt. ⊎_elim
                (λ (is : has frames p ≡ true). restored-imaged spelled.recs p (page_at g p image) (page_at g p s.now.reads) (are_restored.logged covered p lt is))
                (λ (isnt : has frames p ≡ false). ap (λ (d : List ℕ). restored spelled.recs p d) (page_at-off g frames s.now.reads image p agrees isnt))
                (cases_Bool (has frames p))
                ∙ ap (λ (l : List Record). restored l p (page_at g p s.now.reads)) same ∙ old.each p lt;
          }

  -- ---- when they are written
  module _ (t : Story) (written : AllWritten g frames s t) where
    pub Stands-written : Stands t j
    Stands-written =
        let after = foreign_stands s j stands lies log.sound (place_of g 0) (4096 * g.pages) off t.now.reads (AgreesBut-data g frames s.now.reads t.now.reads written.elsewhere) in
        record {
          reads = after.reads;
          gates = subst (λ (w : List Range). Sure j.gates.start j.gates.len w) (sym written.settled) (none_sure j.gates.start j.gates.len);
          chunks = subst (λ (w : List Range). Sure j.log.start (bytes_of j.lens) w) (sym written.settled) (none_sure j.log.start (bytes_of j.lens));
          shut = after.shut;
        }

    same_chunks : chunks ≡ chunks_of j t.now.reads
    same_chunks = one_reading (gates_of g) (log_of g) t.now.reads chunks (chunks_of j t.now.reads) (let most = store.sizes.log.1 in omega (arith, most))
        (chunks_kept t.now.reads written.elsewhere)
        (subst (λ (r : Range). ReadsAs r (log_of g) t.now.reads (chunks_of j t.now.reads)) log.gates (subst (λ (r : Range). ReadsAs j.gates r t.now.reads (chunks_of j t.now.reads)) log.log Stands-written.reads))

    module _ (restores_pages : RestoredOn (Some s) g chunks frames) where
      page_now : (p : ℕ) → p < g.pages → page_at g p t.now.reads ≡ restored spelled.recs p (page_at g p s.now.reads)
      page_now p lt = written.pages p lt ∙ (restores_pages spelled.recs spelled.are spelled.spells).each p lt

      pub IsMounted-written : (want : ℕ → List ℕ) → Restores g want s.now.reads → IsMounted want (Some t) g
      IsMounted-written want old = (IsSettled-none t written.settled, Restores-pages t.now.reads written.elsewhere restores_pages want old)

      pub OnDisk-written : (want : ℕ → List ℕ) → Restores g want s.now.reads → OnDisk want (Some t) g
      OnDisk-written want old =
          let same : spelled.recs ≡ old.recs = Logs-one g s.now.reads old.recs chunks spelled.recs store.sizes old.logs reads_as spelled.are spelled.spells in
          λ p lt. (
            subst (λ (w : List Range). Sure (place_of g p) 4096 w) (sym written.settled) (none_sure (place_of g p) 4096),
            page_now p lt ∙ ap (λ (l : List Record). restored l p (page_at g p s.now.reads)) same ∙ old.each p lt,
          )

      pub IsReadyOn-written : (want : ℕ → List ℕ) → Restores g want s.now.reads → IsReadyOn want (Some t) j g spelled.recs []
      IsReadyOn-written want old = IsReadyOn-mounted want j g log.gates log.log log.sound log.up log.none chunks spelled.recs spelled.are spelled.spells
          (Some t) (λ up. Stands-written) (IsMounted-written want old) same_chunks

      -- ---- and the gates are closed
      pub IsRestarted-closed : (k : State) (u : Story) → k ≡ after_close j → Closed j k t u → IsRestarted g s u
      IsRestarted-closed k u done closed = record {
        recs = spelled.recs;
        store = store;
        logs = logs_here;
        pages = λ p lt. page_at-AgreesBut g p (j.gates ∷ []) t.now.reads u.now.reads closed.elsewhere (page_off_gates g j log.gates log.log p [] (none_sure (place_of g p) 4096)) ∙ page_now p lt;
        still = IsStoreOf-AgreesBut g (j.gates ∷ []) t.now.reads u.now.reads closed.elsewhere (super_off_gates g j log.gates log.log [] (none_sure 0 4096)) (store_kept t.now.reads written.elsewhere);
        elsewhere = record {
          size = written.elsewhere.size ∙ closed.elsewhere.size;
          bytes = λ i out. (AgreesBut-data g frames s.now.reads t.now.reads written.elsewhere).bytes i (λ covered. out (inr covered))
              ∙ closed.elsewhere.bytes i (λ covered. out (⊎_elim (λ inside. inl (subst (λ (r : Range). IsIn i r) log.gates inside)) (λ none. absurd none) covered));
        };
        settled = closed.settled;
        shut = AreShut-close j k g (Some t) (Some u) done log.gates closed;
      }

-- ---- the same of what is told
module _ (want : ℕ → List ℕ) (h : Geometry) where
  pub IsMounted-synced : (told : Option Story) → IsMounted want told h → IsMounted want (synced told) h
  IsMounted-synced None mounted = tt
  IsMounted-synced (Some s) mounted = ((λ i none. none), mounted.1)

  -- the first sync
  pub LeavesOnly-first : {T E : Type 0} (result : Result T E) (told new : Option Story) → IsMounted want told h → OnOk result (new ≡ synced told) → OnErr result (FailedSync told new) → LeavesOnly told new (Restores h want)
  LeavesOnly-first result told new mounted ok err = on_sync_call result told told new (Restores h want) (LeavesOnly-mounted want told h mounted) ok err

  module _ (g : Geometry) (j : State) (chunks frames : List (List ℕ)) where
    pages_leave : (told : Option Story) → IsMounted want told h → IsStoreTold told g → IsLog told g j chunks → RestoredOn told g chunks frames → (image : List ℕ) → LeavesPages g frames told image → Restores h want image
    pages_leave None mounted store log restores image left = absurd left
    pages_leave (Some s) mounted store log restores image left =
        let same : h ≡ g = one_geometry h g s.now.reads mounted.1.store store in
        subst (λ (x : Geometry). Restores x want image) (sym same)
        (Restores-pages s g j chunks frames store log image left restores want (subst (λ (x : Geometry). Restores x want s.now.reads) same mounted.1))

    pub LeavesOnly-pages : (told mid new : Option Story) → LeavesOnly told mid (Restores h want) → IsMounted want mid h → IsStoreTold mid g → IsLog mid g j chunks → RestoredOn mid g chunks frames
        → LeavesOnly mid new (LeavesPages g frames mid) → LeavesOnly told new (Restores h want)
    LeavesOnly-pages told mid new so_far mounted store log restores run =
        and_then told mid new (Restores h want) so_far (weaker mid new (LeavesPages g frames mid) (Restores h want) (pages_leave mid mounted store log restores) run)

    closing_leaves : (mid new last : Option Story) → IsMounted want mid h → IsStoreTold mid g → IsLog mid g j chunks → RestoredOn mid g chunks frames
        → WhereTold mid new (AllWritten g frames) → LeavesOnly new last (IsClosingOn new j) → LeavesOnly new last (Restores h want)
    closing_leaves None new last mounted store log restores written run =
        LeavesOnly-close want j h [] [] new last (subst (λ (m : Option Story). IsReadyOn want m j h [] []) (sym written) tt) (subst (λ (m : Option Story). OnDisk want m h) (sym written) tt) run
    closing_leaves (Some s) None last mounted store log restores written run = absurd written
    closing_leaves (Some s) (Some t) last mounted store log restores written run =
        let same : h ≡ g = one_geometry h g s.now.reads mounted.1.store store in
        let old : Restores g want s.now.reads = subst (λ (x : Geometry). Restores x want s.now.reads) same mounted.1 in
        subst (λ (x : Geometry). LeavesOnly (Some t) last (Restores x want)) (sym same)
        (LeavesOnly-close want j g (spelled s g j chunks frames store log).recs [] (Some t) last
        (IsReadyOn-written s g j chunks frames store log t written restores want old) (OnDisk-written s g j chunks frames store log t written restores want old) run)

    pub LeavesOnly-closed : (told mid new last : Option Story) → LeavesOnly told new (Restores h want) → IsMounted want mid h → IsStoreTold mid g → IsLog mid g j chunks → RestoredOn mid g chunks frames
        → WhereTold mid new (AllWritten g frames) → LeavesOnly new last (IsClosingOn new j) → LeavesOnly told last (Restores h want)
    LeavesOnly-closed told mid new last so_far mounted store log restores written run =
        and_then told new last (Restores h want) so_far (closing_leaves mid new last mounted store log restores written run)

module _ (g : Geometry) (j : State) (chunks frames : List (List ℕ)) where
  -- the journal stands when the pages are written
  pub StandsOn-written : (mid new : Option Story) → IsStoreTold mid g → IsLog mid g j chunks → WhereTold mid new (AllWritten g frames) → StandsOn new j
  StandsOn-written None new store log written = subst (λ (m : Option Story). StandsOn m j) (sym written) tt
  StandsOn-written (Some s) None store log written = absurd written
  StandsOn-written (Some s) (Some t) store log written = λ up. Stands-written s g j chunks frames store log t written

  restarted : (k : State) (mid new last : Option Story) → IsStoreTold mid g → IsLog mid g j chunks → RestoredOn mid g chunks frames → WhereTold mid new (AllWritten g frames)
      → k ≡ after_close j → WhereTold new last (Closed j k) → WhereTold mid last (IsRestarted g)
  restarted k None new last store log restores written done closed = subst (λ (m : Option Story). WhereTold m last (Closed j k)) written closed
  restarted k (Some s) None last store log restores written done closed = absurd written
  restarted k (Some s) (Some t) None store log restores written done closed = absurd closed
  restarted k (Some s) (Some t) (Some u) store log restores written done closed = IsRestarted-closed s g j chunks frames store log t written restores k u done closed

  before_sync : (told last : Option Story) → WhereTold (synced told) last (IsRestarted g) → WhereTold told last (IsRestarted g)
  before_sync None last is = is
  before_sync (Some s) None is = is
  before_sync (Some s) (Some u) is = record { recs = is.recs; store = is.store; logs = is.logs; pages = is.pages; still = is.still; elsewhere = is.elsewhere; settled = is.settled; shut = is.shut }

  pub IsRestarted-told : (k : State) (told mid new last : Option Story) → mid ≡ synced told → IsStoreTold mid g → IsLog mid g j chunks → RestoredOn mid g chunks frames → WhereTold mid new (AllWritten g frames)
      → k ≡ after_close j → WhereTold new last (Closed j k) → WhereTold told last (IsRestarted g)
  IsRestarted-told k told mid new last is store log restores written done closed =
      before_sync told last (subst (λ (m : Option Story). WhereTold m last (IsRestarted g)) is
      (restarted k mid new last store log restores written done closed))

-- ---- refusals
HoldsNone-before : (told : Option Story) → HoldsNone (synced told) → HoldsNone told
HoldsNone-before None none = tt
HoldsNone-before (Some s) none = none

WasBad-before : (told : Option Story) (g : Geometry) (chunk offset : ℕ) → IsStoreTold (synced told) g → IsBadLogOn (synced told) g chunk offset → WasBad told chunk offset
WasBad-before None g chunk offset store bad = tt
WasBad-before (Some s) g chunk offset store bad = (
  g,
  store,
  record {
    lens = bad.lens;
    count = bad.count;
    gate = bad.gate;
    begins = bad.begins;
    rows = bad.rows;
    bad = ⊎_elim
        (λ (past : (offset ≡ 0) × IsPast (after_sync s) g bad.lens). inl (past.0, record { is_open = past.1.is_open; past = past.1.past }))
        (λ (row : IsNoRow (after_sync s) g bad.lens offset). inr (record { n = row.n; begins = row.begins; bad = row.bad }))
        bad.bad;
  },
)

pub RestartErr-store : (told mid new : Option Story) (e : OpenFault) → mid ≡ synced told → new ≡ mid → NoStoreErr mid e → RestartErr e told new
RestartErr-store told mid new faults.Fault is same err = tt
RestartErr-store told mid new faults.NotStore is same err = (HoldsNone-before told (subst HoldsNone is err), same ∙ is)
RestartErr-store told mid new other is same err = absurd err

pub RestartErr-log : (told mid new : Option Story) (g : Geometry) (e : OpenFault) → mid ≡ synced told → new ≡ mid → IsStoreTold mid g → LogErr mid g e → RestartErr e told new
RestartErr-log told mid new g faults.Fault is same store err = tt
RestartErr-log told mid new g faults.NoMemory is same store err = same ∙ is
RestartErr-log told mid new g (faults.BadLog chunk offset) is same store err = (
  WasBad-before told g chunk offset (subst (λ (m : Option Story). IsStoreTold m g) is store) (subst (λ (m : Option Story). IsBadLogOn m g chunk offset) is err),
  same ∙ is,
)
RestartErr-log told mid new g other is same store err = absurd err

pub RestartErr-free : (told mid new : Option Story) (e : OpenFault) → mid ≡ synced told → new ≡ mid → IsFree e → RestartErr e told new
RestartErr-free told mid new faults.Fault is same err = tt
RestartErr-free told mid new faults.NoMemory is same err = same ∙ is
RestartErr-free told mid new other is same err = absurd err

-- ---- the steps of a restart
-- what was read before the first write
pub record IsReadBefore (told mid : Option Story) (g : Geometry) (j : State) (chunks frames : List (List ℕ)) : Type 0 where
  pub is : mid ≡ synced told
  pub store : IsStoreTold mid g
  pub log : IsLog mid g j chunks
  pub restores : RestoredOn mid g chunks frames

pub IsReadBefore-made : (told a b m mid : Option Story) (g : Geometry) (j : State) (chunks given frames held_frames : List (List ℕ)) → a ≡ synced told → b ≡ a → m ≡ b → mid ≡ m → given ≡ chunks → held_frames ≡ frames
    → IsStoreTold a g → IsLog b g j chunks → RestoredOn m g given frames → IsReadBefore told mid g j chunks held_frames
IsReadBefore-made told a b m mid g j chunks given frames held_frames synced_is b_is m_is mid_is given_is frames_are store log restores = record {
  is = mid_is ∙ m_is ∙ b_is ∙ synced_is;
  store = subst (λ (t : Option Story). IsStoreTold t g) (sym (mid_is ∙ m_is ∙ b_is)) store;
  log = subst (λ (t : Option Story). IsLog t g j chunks) (sym (mid_is ∙ m_is)) log;
  restores = subst (λ (t : Option Story). RestoredOn t g chunks held_frames) (sym mid_is)
      (subst (λ (cs : List (List ℕ)). RestoredOn m g cs held_frames) given_is (subst (λ (fs : List (List ℕ)). RestoredOn m g given fs) (sym frames_are) restores));
}

module _ (told mid : Option Story) (g : Geometry) (j : State) (chunks frames : List (List ℕ)) (found : IsReadBefore told mid g j chunks frames) where
  pub StandsOn-read : (new : Option Story) → WhereTold mid new (AllWritten g frames) → StandsOn new j
  StandsOn-read new written = StandsOn-written g j chunks frames mid new found.store found.log written

  pub IsRestarted-read : (k : State) (new last : Option Story) → WhereTold mid new (AllWritten g frames) → k ≡ after_close j → WhereTold new last (Closed j k) → WhereTold told last (IsRestarted g)
  IsRestarted-read k new last written done closed = IsRestarted-told g j chunks frames k told mid new last found.is found.store found.log found.restores written done closed

  module _ (want : ℕ → List ℕ) (h : Geometry) (mounted : IsMounted want told h) (so_far : LeavesOnly told mid (Restores h want)) where
    mounted_mid : IsMounted want mid h
    mounted_mid = subst (λ (t : Option Story). IsMounted want t h) (sym found.is) (IsMounted-synced want h told mounted)

    pub LeavesOnly-read : (new : Option Story) → LeavesOnly mid new (LeavesPages g frames mid) → LeavesOnly told new (Restores h want)
    LeavesOnly-read new run = LeavesOnly-pages want h g j chunks frames told mid new so_far mounted_mid found.store found.log found.restores run

    pub LeavesOnly-last : (new last : Option Story) → LeavesOnly mid new (LeavesPages g frames mid) → WhereTold mid new (AllWritten g frames) → LeavesOnly new last (IsClosingOn new j) → LeavesOnly told last (Restores h want)
    LeavesOnly-last new last run written closing =
        LeavesOnly-closed want h g j chunks frames told mid new last (LeavesOnly-read new run) mounted_mid found.store found.log found.restores written closing
