-- What a checkpoint and a commit leave, in the words of their calls.
use Rattle.std.proofs.Common.{◌≡◌, ℕ, ◌^◌, ◌<◌, ◌≤◌, false, Option, Some, None, List, [], ◌∷◌, ◌++◌, length, sym, ◌∙◌, ap, subst, arith}
use Rattle.std.proofs.lemmas.List.{append-nil}
use Rattle.sb_disk.specs.Disk.{Story, WhereTold}
use Rattle.sb_disk.specs.Moments.{LeavesOnly}
use Rattle.sb_disk.proofs.MomentLemmas.{and_then}
use Rattle.sb_journal.specs.State.{Sound, StandsOn, IsForcedOn, IsClosingOn, Appended, Forced, Closed, after_append, after_force, after_close}
use Rattle.sb_journal.specs.State as journal
use Rattle.sb_log.specs.declared.geometry.Geometry.{Geometry}
use Rattle.sb_log.specs.Records.{Record, Commit, spelling}
use Rattle.sb_log.specs.Standing.{standing, count_of}
use Rattle.sb_log.specs.Views.{Active, active_with}
use Rattle.sb_images.specs.Images.{Restores, IsOldOrNew}
use Rattle.sb_images.specs.Store.{IsStoreOn, OnDisk, own_of, with_changes}
use Rattle.sb_images.proofs.CallLemmas.{LeavesOnly-close}
use Rattle.sb_images.proofs.CommitLemmas.{LeavesOnly-commit}
use Rattle.sb_images.proofs.PageLemmas.{IsWhole-commit_only}
use Rattle.sb_images.proofs.StoreLemmas.{IsStoreOn-ready, IsStoreOn-close, OnDisk-idle, WillBe-commit_only, IsStoreOn-commit}
use Rattle.sb_pool.specs.Calls.{Serves, IsReadyStill}
use Rattle.sb_pool.specs.Pages.{AgreesOn, ArePagesOn, AreFlushed}
use Rattle.sb_pool.specs.State as pool
use Rattle.sb_pool.proofs.StoreLemmas.{SamePages, SamePages-close, AgreesOn-same, ArePagesOn-same, IsStoreOn-still}

-- ---- a checkpoint
-- the pages now are on the disk
OnDisk-flushed : (want now : ℕ → List ℕ) (p : pool.State) (j : journal.State) (opened pending : List Record) (told new : Option Story) → IsStoreOn want now told j p.geometry opened pending [] → ArePagesOn now told j p
    → AreFlushed p told new → OnDisk now new p.geometry
OnDisk-flushed want now p j opened pending None new store pages flush = subst (λ (n : Option Story). OnDisk now n p.geometry) (sym flush) tt
OnDisk-flushed want now p j opened pending (Some s) None store pages flush = absurd flush
OnDisk-flushed want now p j opened pending (Some s) (Some t) store pages flush = λ q lt. ((flush q lt).0, (flush q lt).1 ∙ pages store.ready.holds.placed.up q lt)

module _ (want now : ℕ → List ℕ) (p : pool.State) (j k : journal.State) (opened pending : List Record) (told mid new : Option Story) (store : IsStoreOn want now told j p.geometry opened pending []) (pages : ArePagesOn now told j p)
    (still : IsReadyStill want p.geometry (opened ++ pending) [] k told mid) (flush : AreFlushed p told mid) where
  on_disk : OnDisk now mid p.geometry
  on_disk = OnDisk-flushed want now p j opened pending told mid store pages flush

  store_mid : IsStoreOn want now mid k p.geometry (opened ++ pending) [] []
  store_mid = IsStoreOn-still want now j k p.geometry opened pending [] (opened ++ pending) [] (append-nil (opened ++ pending)) told mid store still

  pub LeavesOnly-checkpoint : LeavesOnly told mid (Restores p.geometry want) → LeavesOnly mid new (IsClosingOn mid k) → LeavesOnly told new (Restores p.geometry want)
  LeavesOnly-checkpoint so_far run = and_then told mid new (Restores p.geometry want) so_far
      (LeavesOnly-close want k p.geometry (opened ++ pending) [] mid new still.ready (OnDisk-idle want now k p.geometry (opened ++ pending) [] mid on_disk store_mid) run)

  pub IsStoreOn-checkpoint : (l : journal.State) → l ≡ after_close k → Sound l → WhereTold mid new (Closed k l) → IsStoreOn want now new l p.geometry [] [] []
  IsStoreOn-checkpoint l done sound closed = IsStoreOn-close want now k p.geometry (opened ++ pending) [] l mid new done sound closed on_disk store_mid

-- the journal and the pool behind it
module _ (g : Geometry) (k l : journal.State) (done : l ≡ after_close k) (mid new : Option Story) (size len : ℕ) (serves : Serves mid size k g) where
  still_up : l.failed ≡ false → k.failed ≡ false
  still_up up = sym (ap (λ (x : journal.State). x.failed) done) ∙ up

  pub Serves-close : StandsOn new l → len ≡ size → Serves new len l g
  Serves-close stands long = record {
    sizes = serves.sizes;
    room = let h = serves.room in omega arith;
    gates = ap (λ (x : journal.State). x.gates) done ∙ serves.gates;
    log = ap (λ (x : journal.State). x.log) done ∙ serves.log;
    stands = stands;
    clean = ap (λ (x : journal.State). x.clean) done;
    free = λ some. absurd (let none = ap (λ (x : journal.State). x.pending) done in omega arith);
  }

  pub AgreesOn-close : (p : pool.State) → p.geometry ≡ g → p.position ≡ 0 → WhereTold mid new (Closed k l) → AgreesOn mid k p → AgreesOn new l p
  AgreesOn-close p is none closed agrees = AgreesOn-same k l still_up p mid new
      (subst (λ (h : Geometry). WhereTold mid new (SamePages h)) (sym is) (SamePages-close g k l serves.gates serves.log mid new closed)) (omega arith) agrees

  pub ArePagesOn-close : (now : ℕ → List ℕ) (p : pool.State) → p.geometry ≡ g → WhereTold mid new (Closed k l) → ArePagesOn now mid k p → ArePagesOn now new l p
  ArePagesOn-close now p is closed pages = ArePagesOn-same k l still_up now p mid new
      (subst (λ (h : Geometry). WhereTold mid new (SamePages h)) (sym is) (SamePages-close g k l serves.gates serves.log mid new closed)) pages

-- ---- a commit
module _ (want now : ℕ → List ℕ) (j k : journal.State) (g : Geometry) (opened pending : List Record) (tx n : ℕ) (rest : List Active) (told mid new : Option Story) (is : tx < 2 ^ 32)
    (store : IsStoreOn want now told j g opened pending (active_with tx n ∷ rest)) (few : count_of tx (standing (opened ++ pending)) ≤ n)
    (done : k ≡ after_append (length (spelling (Commit tx))) j) (sound : Sound k) (appended : WhereTold told mid (Appended (spelling (Commit tx)) j k)) where
  abbrev then : ℕ → List ℕ
  then = with_changes (own_of (opened ++ pending) (active_with tx n)) want

  pub LeavesOnly-committed : LeavesOnly told mid (Restores g want) → LeavesOnly mid new (IsForcedOn mid k) → LeavesOnly told new (IsOldOrNew g want then)
  LeavesOnly-committed so_far run = LeavesOnly-commit want then j k g opened pending (Commit tx ∷ []) (spelling (Commit tx)) (sym (append-nil (spelling (Commit tx)))) done sound (tt, tt) (is, tt) told mid new
      (IsStoreOn-ready want now told j g opened pending (active_with tx n ∷ rest) store)
      (WillBe-commit_only want now j g opened pending (active_with tx n) rest told few store) appended so_far run

  pub IsStoreOn-committed : (l : journal.State) → l ≡ after_force k → Sound l → WhereTold mid new (Forced k l) → IsStoreOn then now new l g (opened ++ (pending ++ Commit tx ∷ [])) [] rest
  IsStoreOn-committed l forced_done sound_l forced = IsStoreOn-commit want now j g opened pending (active_with tx n) rest then k l (Commit tx ∷ []) (spelling (Commit tx)) (sym (append-nil (spelling (Commit tx)))) done sound forced_done sound_l (is, tt)
      (λ disk whole. IsWhole-commit_only g.pages disk now opened pending (active_with tx n) rest few whole) told mid new appended forced
      (WillBe-commit_only want now j g opened pending (active_with tx n) rest told few store) store
