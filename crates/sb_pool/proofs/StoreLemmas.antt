-- A pool over a store: what the calls of the journal and of the pool make of both.
use Rattle.std.proofs.Common.{◌≡◌, ◌⊎◌, ⊎_elim, ℕ, ◌<◌, ◌≤◌, true, false, cond, ◌==◌, Option, Some, None, List, [], ◌∷◌, ◌++◌, refl, sym, ◌∙◌, ap, subst}
use Rattle.sb_bytes.specs.Bytes.{splice}
use Rattle.sb_disk.specs.Disk.{Story, WhereTold}
use Rattle.sb_disk.specs.Moments.{Sure}
use Rattle.sb_journal.specs.State.{used_of, Appended, Forced, Closed}
use Rattle.sb_journal.specs.State as journal
use Rattle.sb_journal.proofs.RegionLemmas.{none_sure, AgreesBut-gates}
use Rattle.sb_log.specs.declared.geometry.Geometry.{Geometry}
use Rattle.sb_log.specs.Records.{Record}
use Rattle.sb_log.specs.Restored.{base, imaged, IsCovered}
use Rattle.sb_log.specs.Views.{Active, AreActive, IsPage}
use Rattle.sb_log.proofs.RestoredLemmas.{imaged-append, base-imaged}
use Rattle.sb_images.specs.Layout.{place_of, page_at, gates_of, log_of}
use Rattle.sb_images.specs.Store.{IsReadyFor, IsStore, IsStoreOn, KeepsRest}
use Rattle.sb_images.proofs.LayoutLemmas.{page_off_gates, page_off_log, page_at-AgreesBut}
use Rattle.sb_pool.specs.Calls.{AreTied, IsReadyStill, IsReadyWith}
use Rattle.sb_pool.specs.Pages.{bytes_or, pool_page, with_bytes, IsClean, PagesAgreeOn, AgreesOn, ArePagesOn, Becomes, KeepsPages}
use Rattle.sb_pool.specs.State.{State, held}

-- ---- calls of the journal
-- each page is on the disk as it was
pub record SamePages (g : Geometry) (s t : Story) : Type 0 where
  pub pages : (p : ℕ) → page_at g p t.now.reads ≡ page_at g p s.now.reads

module _ (g : Geometry) (j k : journal.State) (gates : j.gates ≡ gates_of g) (log : j.log ≡ log_of g) where
  off_log : (p : ℕ) → Sure (place_of g p) 4096 (j.log ∷ [])
  off_log p = page_off_log g j gates log p [] (none_sure (place_of g p) 4096)

  same_append : (bytes : List ℕ) (s t : Story) → Appended bytes j k s t → SamePages g s t
  same_append bytes s t appended = record { pages = λ p. page_at-AgreesBut g p (j.log ∷ []) s.now.reads t.now.reads appended.elsewhere (off_log p) }

  same_force : (s t : Story) → Forced j k s t → SamePages g s t
  same_force s t forced = record { pages = λ p. page_at-AgreesBut g p (j.gates ∷ j.log ∷ []) s.now.reads t.now.reads (AgreesBut-gates j (j.log ∷ []) s.now.reads t.now.reads forced.elsewhere) (page_off_gates g j gates log p (j.log ∷ []) (off_log p)) }

  same_close : (s t : Story) → Closed j k s t → SamePages g s t
  same_close s t closed = record { pages = λ p. page_at-AgreesBut g p (j.gates ∷ []) s.now.reads t.now.reads closed.elsewhere (page_off_gates g j gates log p [] (none_sure (place_of g p) 4096)) }

  pub SamePages-append : (bytes : List ℕ) (told new : Option Story) → WhereTold told new (Appended bytes j k) → WhereTold told new (SamePages g)
  SamePages-append bytes None new appended = appended
  SamePages-append bytes (Some s) None appended = appended
  SamePages-append bytes (Some s) (Some t) appended = same_append bytes s t appended

  pub SamePages-force : (told new : Option Story) → WhereTold told new (Forced j k) → WhereTold told new (SamePages g)
  SamePages-force None new forced = forced
  SamePages-force (Some s) None forced = forced
  SamePages-force (Some s) (Some t) forced = same_force s t forced

  pub SamePages-close : (told new : Option Story) → WhereTold told new (Closed j k) → WhereTold told new (SamePages g)
  SamePages-close None new closed = closed
  SamePages-close (Some s) None closed = closed
  SamePages-close (Some s) (Some t) closed = same_close s t closed

-- the journal, where it hasn't failed, had not
module _ (j k : journal.State) (up : k.failed ≡ false → j.failed ≡ false) where
  PagesAgreeOn-same : (pool : State) (told new : Option Story) → WhereTold told new (SamePages pool.geometry) → PagesAgreeOn told j pool → PagesAgreeOn new k pool
  PagesAgreeOn-same pool None new same agrees = subst (λ (n : Option Story). PagesAgreeOn n k pool) (sym same) tt
  PagesAgreeOn-same pool (Some s) None same agrees = tt
  PagesAgreeOn-same pool (Some s) (Some t) same agrees = λ still p lt. subst (λ (disk : List ℕ). IsClean (held pool p) disk) (sym (same.pages p)) (agrees (up still) p lt)

  -- where the log reaches the last write still
  pub AgreesOn-same : (pool : State) (told new : Option Story) → WhereTold told new (SamePages pool.geometry) → pool.position ≤ used_of k → AgreesOn told j pool → AgreesOn new k pool
  AgreesOn-same pool told new same reaches agrees = record { pages = PagesAgreeOn-same pool told new same agrees.pages; position = reaches }

  pub ArePagesOn-same : (pages : ℕ → List ℕ) (pool : State) (told new : Option Story) → WhereTold told new (SamePages pool.geometry) → ArePagesOn pages told j pool → ArePagesOn pages new k pool
  ArePagesOn-same pages pool None new same are = subst (λ (n : Option Story). ArePagesOn pages n k pool) (sym same) tt
  ArePagesOn-same pages pool (Some s) None same are = tt
  ArePagesOn-same pages pool (Some s) (Some t) same are = λ still p lt. ap (λ (disk : List ℕ). bytes_or disk (held pool p)) (same.pages p) ∙ are (up still) p lt

  -- ---- calls of the pool
  module _ (pages : ℕ → List ℕ) (pool after : State) (sizes : after.geometry ≡ pool.geometry) where
    -- a call that keeps the pages
    pub ArePagesOn-kept : (told new : Option Story) → KeepsPages k pool after told new → ArePagesOn pages told j pool → ArePagesOn pages new k after
    ArePagesOn-kept None new kept are = subst (λ (n : Option Story). ArePagesOn pages n k after) (sym kept) tt
    ArePagesOn-kept (Some s) None kept are = tt
    ArePagesOn-kept (Some s) (Some t) kept are = λ still p lt. kept still p lt ∙ are (up still) p (subst (λ (g : Geometry). p < g.pages) sizes lt)

    -- a write
    pub ArePagesOn-write : (page offset : ℕ) (bytes : List ℕ) (told new : Option Story) → Becomes (with_bytes page offset bytes (pool_page told pool)) k after told new → ArePagesOn pages told j pool
        → ArePagesOn (with_bytes page offset bytes pages) new k after
    ArePagesOn-write page offset bytes None new wrote are = subst (λ (n : Option Story). ArePagesOn (with_bytes page offset bytes pages) n k after) (sym wrote) tt
    ArePagesOn-write page offset bytes (Some s) None wrote are = tt
    ArePagesOn-write page offset bytes (Some s) (Some t) wrote are = λ still p lt. wrote still p lt
        ∙ ap (λ (x : List ℕ). cond (page == p) (splice offset bytes x) x) (are (up still) p (subst (λ (g : Geometry). p < g.pages) sizes lt))

-- the store goes on, perhaps with more of its records in open chunks
module _ (want now : ℕ → List ℕ) (j k : journal.State) (g : Geometry) (opened pending : List Record) (active : List Active) where
  -- with these records open, and these pending, to which the pool is tied
  pub record GoesOn (after : State) (new : Option Story) : Type 0 where
    pub opened_now : List Record
    pub pending_now : List Record
    pub same : opened_now ++ pending_now ≡ opened ++ pending
    pub store : IsStoreOn want now new k g opened_now pending_now active
    pub tied : AreTied after k opened_now pending_now

  module _ (o p : List Record) (same : o ++ p ≡ opened ++ pending) where
    base_same : (s t : Story) (q : ℕ) → (imaged o q ≡ true) ⊎ (page_at g q t.now.reads ≡ page_at g q s.now.reads) → base q (o ++ p) (page_at g q s.now.reads) ≡ base q (o ++ p) (page_at g q t.now.reads)
    base_same s t q rest = ⊎_elim
        (λ (is : imaged o q ≡ true). base-imaged q (o ++ p) (page_at g q s.now.reads) (page_at g q t.now.reads) (rw (imaged-append o p q, is) refl))
        (λ (e : page_at g q t.now.reads ≡ page_at g q s.now.reads). ap (λ (d : List ℕ). base q (o ++ p) d) (sym e))
        rest

    goes_on : (s t : Story) → IsStore want now s j g opened pending active → IsReadyFor want t k g o p → KeepsRest g o s t → IsStore want now t k g o p active
    goes_on s t store ready rest = record {
      ready = ready;
      whole = record {
        plain = ready.plain;
        covered = subst (λ (l : List Record). IsCovered l) (sym same) store.whole.covered;
        active = subst (λ (l : List Record). AreActive l active) (sym same) store.whole.active;
        pages = λ q lt. subst (λ (b : List ℕ). IsPage (o ++ p) active b (now q) q) (base_same s t q (rest q lt))
            (subst (λ (l : List Record). IsPage l active (base q l (page_at g q s.now.reads)) (now q) q) (sym same) (store.whole.pages q lt));
      };
    }

    pub IsStoreOn-still : (told new : Option Story) → IsStoreOn want now told j g opened pending active → IsReadyStill want g o p k told new → IsStoreOn want now new k g o p active
    IsStoreOn-still None new store still = subst (λ (n : Option Story). IsStoreOn want now n k g o p active) (sym still.rest) tt
    IsStoreOn-still (Some s) None store still = absurd still.rest
    IsStoreOn-still (Some s) (Some t) store still = goes_on s t store still.ready still.rest

  pub IsStoreOn-with : (after : State) (told new : Option Story) → IsStoreOn want now told j g opened pending active → IsReadyWith want g (opened ++ pending) k after told new → GoesOn after new
  IsStoreOn-with after told new store still = record {
    opened_now = still.0;
    pending_now = still.1;
    same = still.2;
    store = IsStoreOn-still still.0 still.1 still.2 told new store still.3;
    tied = still.4;
  }
