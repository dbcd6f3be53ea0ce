-- What a flush makes of a pool and its disk.
use Rattle.std.proofs.Common.{◌≡◌, ⊎_elim, ℕ, ◌<◌, ◌≤◌, true, false, Option, Some, None, is_some, List, [], ◌∷◌, length, refl, sym, ◌∙◌, ap, subst, arith, zero-add}
use Rattle.std.proofs.lemmas.Bool.{cases_Bool, cases_lt, false≢true}
use Rattle.std.proofs.lemmas.List.{get_or_past}
use Rattle.std.proofs.Math.ListN as list
use Rattle.sb_disk.specs.Disk.{Range, Story, WhereTold}
use Rattle.sb_disk.specs.Moments.{Sized, Sure, RanOk, RanErr, contents}
use Rattle.sb_journal.specs.State.{Forced, Lies, Sound, StandsOn, after_force, after_fault}
use Rattle.sb_journal.specs.State as journal
use Rattle.sb_journal.proofs.RegionLemmas.{none_sure, AgreesBut-gates}
use Rattle.sb_log.specs.declared.geometry.Geometry.{Geometry}
use Rattle.sb_log.specs.Records.{Record}
use Rattle.sb_log.specs.Restored.{imaged}
use Rattle.sb_images.specs.Layout.{need, place_of, page_at, gates_of, log_of}
use Rattle.sb_images.specs.Store.{OnDisk}
use Rattle.sb_images.proofs.LayoutLemmas.{Lies-at, page_off_gates, page_off_log, page_at-AgreesBut}
use Rattle.sb_pool.specs.Calls.{Serves, AreImaged}
use Rattle.sb_pool.specs.Frames.{Put, dirty_from, puts}
use Rattle.sb_pool.specs.Pages.{bytes_or, pool_page, IsClean, PagesAgreeOn, AgreesOn, KeepsPages, AreFlushed}
use Rattle.sb_pool.specs.State.{Held, State, held, IsWritten, IsDirty, NoneMoreDirty, cleaned, flushed}
use Rattle.sb_pool.proofs.PutLemmas.{All, IsPut, All-dirty, dirty-IsPut}
use Rattle.sb_pool.proofs.PutRuns.{IsPage, ArePut, StandsOn-puts, StandsOn-puts_err, puts_ok, is_put, none_told}

-- ---- the dirty pages
-- a pool has a place for each page, and each page that is held has its bytes
pub record IsPool (pool : State) : Type 0 where
  pub count : length pool.pages ≡ pool.geometry.pages
  pub long : (p : ℕ) (x : Held) → held pool p ≡ Some x → length x.bytes ≡ 4096

pub none_some : {A : Type 0} (x : A) → None ≡ Some x → ⊥
none_some x is = cc

held_below : (pool : State) (p : ℕ) (x : Held) → held pool p ≡ Some x → p < length pool.pages
held_below pool p x is = ⊎_elim
    (λ (below : p < length pool.pages). below)
    (λ (past : length pool.pages ≤ p). absurd (none_some x (sym (get_or_past pool.pages p None past) ∙ is)))
    (cases_lt p (length pool.pages))

written_some : (h : Option Held) (x : Held) → h ≡ Some x → x.dirty ≡ true → IsWritten h
written_some h x is dirty = subst IsWritten (sym is) dirty

module _ (pool : State) where
  -- those that a flush writes
  abbrev pub dirty_pages : List Put
  dirty_pages = dirty_from 0 pool.pages

  all_dirty : (P : ℕ → List ℕ → Type 0) → ((p : ℕ) (x : Held) → held pool p ≡ Some x → x.dirty ≡ true → P p x.bytes) → All P dirty_pages
  all_dirty P has = All-dirty P pool.pages 0 (λ p x is dirty. subst (λ (q : ℕ). P q x.bytes) (sym (zero-add p)) (has p x is dirty))

  pub dirty-IsPage : IsPool pool → All (IsPage pool.geometry) dirty_pages
  dirty-IsPage whole = all_dirty (IsPage pool.geometry) (λ p x is dirty. record { below = (let below = held_below pool p x is in let count = whole.count in omega arith); long = whole.long p x is })

  pub dirty-imaged : (recs : List Record) → AreImaged pool recs → All (λ p bytes. imaged recs p ≡ true) dirty_pages
  dirty-imaged recs are = all_dirty (λ p bytes. imaged recs p ≡ true) (λ p x is dirty. are p (written_some (held pool p) x is dirty))

  pub dirty-bytes : (told : Option Story) → All (λ p bytes. bytes ≡ pool_page told pool p) dirty_pages
  dirty-bytes told = all_dirty (λ p bytes. bytes ≡ pool_page told pool p) (λ p x is dirty. ap (λ (h : Option Held). bytes_or (page_at pool.geometry p (contents told)) h) (sym is))

  not_dirty : (p : ℕ) → ¬ IsPut dirty_pages p → ¬ IsDirty pool p
  not_dirty p out dirty = out (subst (λ (q : ℕ). IsPut dirty_pages q) (zero-add p) (dirty-IsPut pool.pages 0 p dirty))

  -- ---- what the disk has of a page
  clean_page : (h : Option Held) (disk : List ℕ) → ¬ IsWritten h → IsClean h disk → disk ≡ bytes_or disk h
  clean_page None disk clean is = refl
  clean_page (Some x) disk clean is = ⊎_elim (λ (dirty : x.dirty ≡ true). absurd (clean dirty)) (λ (same : x.dirty ≡ false). sym (is same)) (cases_Bool x.dirty)

  cleaned_page : (h : Option Held) (old new : List ℕ) → new ≡ bytes_or old h → bytes_or new (cleaned h) ≡ bytes_or old h
  cleaned_page None old new is = is
  cleaned_page (Some x) old new is = refl

  cleaned_clean : (h : Option Held) (old new : List ℕ) → new ≡ bytes_or old h → IsClean (cleaned h) new
  cleaned_clean None old new is = tt
  cleaned_clean (Some x) old new is = λ same. sym is

  held_flushed : (p : ℕ) → held (flushed pool) p ≡ cleaned (held pool p)
  held_flushed p = list.get_or-map cleaned pool.pages p None

  cleaned_dirty : (h : Option Held) → IsWritten (cleaned h) → ⊥
  cleaned_dirty None dirty = dirty
  cleaned_dirty (Some x) dirty = false≢true dirty

  pub flushed-clean : (p : ℕ) → IsDirty (flushed pool) p → ⊥
  flushed-clean p dirty = cleaned_dirty (held pool p) (subst IsWritten (held_flushed p) dirty)

  pub flushed-dirty : NoneMoreDirty pool (flushed pool)
  flushed-dirty p dirty = absurd (flushed-clean p dirty)

  -- ---- a run behind a force
  module _ (size : ℕ) (j k : journal.State) (room : need pool.geometry.pages pool.geometry.log ≤ size) (gates : j.gates ≡ gates_of pool.geometry) (log : j.log ≡ log_of pool.geometry) (whole : IsPool pool) where
    page_forced : (s t : Story) (p : ℕ) → Forced j k s t → page_at pool.geometry p t.now.reads ≡ page_at pool.geometry p s.now.reads
    page_forced s t p forced = page_at-AgreesBut pool.geometry p (j.gates ∷ j.log ∷ []) s.now.reads t.now.reads (AgreesBut-gates j (j.log ∷ []) s.now.reads t.now.reads forced.elsewhere)
        (page_off_gates pool.geometry j gates log p (j.log ∷ []) (page_off_log pool.geometry j gates log p [] (none_sure (place_of pool.geometry p) 4096)))

    room_at : (t : Story) → length t.now.reads ≡ size → need pool.geometry.pages pool.geometry.log ≤ length t.now.reads
    room_at t is = omega arith

    all_flushed : (s t u : Story) → Forced j k s t → ((p : ℕ) → p < pool.geometry.pages → IsClean (held pool p) (page_at pool.geometry p s.now.reads))
        → ArePut pool.geometry (pool_page (Some s) pool) dirty_pages t u → OnDisk (pool_page (Some s) pool) (Some u) pool.geometry
    all_flushed s t u forced clean put p lt = (
      subst (λ (w : List Range). Sure (place_of pool.geometry p) 4096 w) (sym put.settled) (none_sure (place_of pool.geometry p) 4096),
      ⊎_elim
          (λ (one : IsPut dirty_pages p). put.written p one)
          (λ (out : ¬ IsPut dirty_pages p). put.kept.pages p out ∙ page_forced s t p forced ∙ clean_page (held pool p) (page_at pool.geometry p s.now.reads) (not_dirty p out) (clean p lt))
          (is_put pool.geometry dirty_pages p),
    )

    put_flushed : (s t : Story) (new : Option Story) → Forced j k s t → ((p : ℕ) → p < pool.geometry.pages → IsClean (held pool p) (page_at pool.geometry p s.now.reads))
        → WhereTold (Some t) new (ArePut pool.geometry (pool_page (Some s) pool) dirty_pages) → AreFlushed pool (Some s) new
    put_flushed s t None forced clean put = put
    put_flushed s t (Some u) forced clean put = all_flushed s t u forced clean put

    -- where no call failed
    pub AreFlushed-ok : (told mid new : Option Story) → j.failed ≡ false → Sized size mid → WhereTold told mid (Forced j k) → PagesAgreeOn told j pool → RanOk (puts pool.geometry dirty_pages) mid new → AreFlushed pool told new
    AreFlushed-ok None mid new up long forced agrees ran = none_told pool.geometry dirty_pages new (subst (λ (m : Option Story). RanOk (puts pool.geometry dirty_pages) m new) forced ran)
    AreFlushed-ok (Some s) None new up long forced agrees ran = absurd forced
    AreFlushed-ok (Some s) (Some t) new up long forced agrees ran = put_flushed s t new forced (agrees up)
        (puts_ok pool.geometry (pool_page (Some s) pool) dirty_pages t new (room_at t long) (dirty-IsPage whole) (dirty-bytes (Some s)) ran)

  -- ---- what the pool says after it
  PagesAgreeOn-flushed : (k : journal.State) (told new : Option Story) → AreFlushed pool told new → PagesAgreeOn new k (flushed pool)
  PagesAgreeOn-flushed k None new flush = subst (λ (n : Option Story). PagesAgreeOn n k (flushed pool)) (sym flush) tt
  PagesAgreeOn-flushed k (Some s) None flush = tt
  PagesAgreeOn-flushed k (Some s) (Some u) flush = λ up p lt. subst (λ (h : Option Held). IsClean h (page_at pool.geometry p u.now.reads)) (sym (held_flushed p))
      (cleaned_clean (held pool p) (page_at pool.geometry p s.now.reads) (page_at pool.geometry p u.now.reads) (flush p lt).1)

  pub AgreesOn-flushed : (k : journal.State) (told new : Option Story) → AreFlushed pool told new → AgreesOn new k (flushed pool)
  AgreesOn-flushed k told new flush = record { pages = PagesAgreeOn-flushed k told new flush; position = omega arith }

  pub KeepsPages-flushed : (k : journal.State) (told new : Option Story) → AreFlushed pool told new → KeepsPages k pool (flushed pool) told new
  KeepsPages-flushed k None new flush = flush
  KeepsPages-flushed k (Some s) None flush = flush
  KeepsPages-flushed k (Some s) (Some u) flush = λ up p lt. ap (λ (h : Option Held). bytes_or (page_at pool.geometry p u.now.reads) h) (held_flushed p)
      ∙ cleaned_page (held pool p) (page_at pool.geometry p s.now.reads) (page_at pool.geometry p u.now.reads) (flush p lt).1

  -- ---- where the force failed
  pub KeepsPages-fault : (k : journal.State) (told new : Option Story) → is_some told ≡ is_some new → k.failed ≡ true → KeepsPages k pool pool told new
  KeepsPages-fault k None None tells down = refl
  KeepsPages-fault k None (Some u) tells down = absurd (false≢true tells)
  KeepsPages-fault k (Some s) None tells down = absurd (false≢true (sym tells))
  KeepsPages-fault k (Some s) (Some u) tells down = λ up. absurd (false≢true (sym up ∙ down))

-- ---- the journal serves on
module _ (g : Geometry) (told mid new : Option Story) (size : ℕ) (j k : journal.State) (serves : Serves told size j g) where
  pub Serves-lies : Lies size j.gates j.log
  Serves-lies = Lies-at g size j serves.sizes serves.room serves.gates serves.log

  pub Serves-fault : (len : ℕ) → len ≡ size → k ≡ after_fault j → StandsOn new k → Serves new len k g
  Serves-fault len is done stands = record {
    sizes = serves.sizes;
    room = (let room = serves.room in omega arith);
    gates = ap (λ (x : journal.State). x.gates) done ∙ serves.gates;
    log = ap (λ (x : journal.State). x.log) done ∙ serves.log;
    stands = stands;
    clean = ap (λ (x : journal.State). x.clean) done ∙ serves.clean;
    free = subst (λ (x : journal.State). 0 < x.pending → length x.lens < x.gates.len) (sym done) serves.free;
  }

  pub Serves-forced : (len : ℕ) → len ≡ size → k ≡ after_force j → StandsOn new k → Serves new len k g
  Serves-forced len is done stands = record {
    sizes = serves.sizes;
    room = (let room = serves.room in omega arith);
    gates = ap (λ (x : journal.State). x.gates) done ∙ serves.gates;
    log = ap (λ (x : journal.State). x.log) done ∙ serves.log;
    stands = stands;
    clean = ap (λ (x : journal.State). x.clean) done ∙ serves.clean;
    free = λ some. absurd (let none : k.pending ≡ 0 = ap (λ (x : journal.State). x.pending) done in omega arith);
  }

  -- behind the force, the journal stands in whatever the run leaves
  module _ (ds : List Put) (are : All (IsPage g) ds) (done : k ≡ after_force j) (sound : Sound k) (long : Sized size mid) (stands : StandsOn mid k) where
    k_gates : k.gates ≡ gates_of g
    k_gates = ap (λ (x : journal.State). x.gates) done ∙ serves.gates

    k_log : k.log ≡ log_of g
    k_log = ap (λ (x : journal.State). x.log) done ∙ serves.log

    k_lies : Lies size k.gates k.log
    k_lies = Lies-at g size k serves.sizes serves.room k_gates k_log

    pub Serves-ok : (len : ℕ) → len ≡ size → RanOk (puts g ds) mid new → Serves new len k g
    Serves-ok len is ran = Serves-forced len is done (StandsOn-puts size k g serves.room k_gates k_log k_lies sound ds mid new are long stands ran)

    pub Serves-err : (len : ℕ) → len ≡ size → RanErr (puts g ds) mid new → Serves new len k g
    Serves-err len is ran = Serves-forced len is done (StandsOn-puts_err size k g serves.room k_gates k_log k_lies sound ds mid new are long stands ran)
