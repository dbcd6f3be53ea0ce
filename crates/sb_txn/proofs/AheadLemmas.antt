-- What a write leaves of a store that was ahead of its pool.
use Rattle.std.proofs.Common.{◌≡◌, ◌⊎◌, ⊎_elim, ℕ, true, Option, List, ◌++◌, sym, ◌∙◌, subst, arith}
use Rattle.sb_disk.specs.Disk.{Story}
use Rattle.sb_journal.specs.State as journal
use Rattle.sb_log.specs.declared.geometry.Geometry.{Geometry}
use Rattle.sb_log.specs.Records.{Record}
use Rattle.sb_log.specs.Restored.{imaged}
use Rattle.sb_images.specs.Store.{IsStoreOn}
use Rattle.sb_pool.specs.Calls.{Serves, AreImaged, IsSameOrForced, IsReadyWith}
use Rattle.sb_pool.specs.Pages.{AgreesOn, with_bytes, pool_page, Becomes}
use Rattle.sb_pool.specs.State.{IsDirty}
use Rattle.sb_pool.specs.State as pool
use Rattle.sb_pool.proofs.StoreLemmas.{ArePagesOn-write, IsStoreOn-with}
use Rattle.sb_txn.specs.Ahead.{Leans}
use Rattle.sb_txn.specs.Book.{Book, views}
use Rattle.sb_txn.specs.Clauses.{HoldsAll}
use Rattle.sb_txn.specs.Parts.{stored}
use Rattle.sb_txn.specs.State.{together}
use Rattle.sb_txn.specs.Tied.{IsBookOf}
use Rattle.sb_txn.proofs.RoomLemmas.{SameRoom-forced}
use Rattle.sb_txn.proofs.TiedLemmas.{HasReserve-same}

module _ (want now : ℕ → List ℕ) (told new : Option Story) (size len : ℕ) (j k : journal.State) (p after : pool.State) (book : Book) (opened pending : List Record) (page offset : ℕ) (bytes : List ℕ) where
  pub HoldsAll-written : Leans want now (with_bytes page offset bytes now) opened pending (stored told size j p book)
      → after.geometry ≡ p.geometry → Becomes (with_bytes page offset bytes (pool_page told p)) k after told new
      → IsReadyWith want p.geometry (opened ++ pending) k after told new
      → IsSameOrForced j k → Serves new len k after.geometry → AgreesOn new k after
      → HoldsAll want (with_bytes page offset bytes now) (opened ++ pending) (record { told = new; size = len; store = together k after book })
  HoldsAll-written leans sizes wrote still forced serves agrees =
      let room = SameRoom-forced j k forced in
      let then : ℕ → List ℕ = with_bytes page offset bytes now in
      let goes = IsStoreOn-with want then j k p.geometry opened pending (views book.actives) after told new leans.store still in (
        goes.opened_now,
        goes.pending_now,
        record {
          up = room.up ∙ leans.up;
          store = subst (λ (g : Geometry). IsStoreOn want then new k g goes.opened_now goes.pending_now (views book.actives)) (sym sizes) goes.store;
          serves = serves;
          agrees = agrees;
          pages = ArePagesOn-write j k (λ up. sym room.up ∙ up) now p after sizes page offset bytes told new wrote leans.pages;
          tied = goes.tied;
          knows = subst (λ (l : List Record). IsBookOf after.geometry.pages l book) (sym goes.same) (subst (λ (g : Geometry). IsBookOf g.pages (opened ++ pending) book) (sym sizes) leans.knows);
          spare = HasReserve-same j k book room leans.spare;
        },
        goes.same,
      )
