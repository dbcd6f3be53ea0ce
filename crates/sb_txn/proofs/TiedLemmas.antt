-- What each step leaves of a store.
use Rattle.std.proofs.Common.{◌≡◌, ℕ, ◌<◌, ◌≤◌, Bool, false, Option, Some, None, is_some, List, ◌++◌, length, sym, ◌∙◌, ap, subst, arith}
use Rattle.std.specs.List.{All}
use Rattle.sb_disk.specs.Disk.{Story, Range}
use Rattle.sb_journal.specs.State.{used_of}
use Rattle.sb_journal.specs.State as journal
use Rattle.sb_log.specs.declared.geometry.Geometry.{Geometry}
use Rattle.sb_log.specs.Records.{Record}
use Rattle.std.proofs.lemmas.Bool.{false≢true}
use Rattle.sb_images.specs.Layout.{page_at}
use Rattle.sb_images.specs.Store.{IfTold, IsStoreOn}
use Rattle.sb_pool.specs.Calls.{Serves, AreImaged, IsSameOrForced, IsReadyWith}
use Rattle.sb_pool.specs.Pages.{bytes_or, AgreesOn, ArePagesOn, KeepsPages}
use Rattle.sb_pool.specs.State.{Held, held, NoneMoreDirty}
use Rattle.sb_pool.specs.State as pool
use Rattle.sb_pool.proofs.StoreLemmas.{ArePagesOn-kept, IsStoreOn-with}
use Rattle.sb_txn.specs.Book.{ActiveTransaction, Book, views}
use Rattle.sb_txn.specs.Clauses.{HoldsAll, Loads, Refused}
use Rattle.sb_txn.specs.Parts.{Parts, stored}
use Rattle.sb_txn.specs.State.{together}
use Rattle.sb_txn.specs.Tied.{IsBookOf, HasReserve, Holds}
use Rattle.sb_txn.proofs.RoomLemmas.{SameRoom, SameRoom-forced}

-- ---- room
-- a journal whose chunks take as many bytes and gates has as much of both in reserve
pub HasReserve-same : (j k : journal.State) (book : Book) → SameRoom j k → HasReserve j book → HasReserve k book
HasReserve-same j k book same spare = record {
  few = subst (λ (n : ℕ). All (λ (o : ActiveTransaction). length o.undos ≤ n) book.actives) (sym same.used) spare.few;
  room = let e = same.used in let l = ap (λ (r : Range). r.len) same.log_is in let h = spare.room in omega arith;
  gates = let e = same.gates in let l = ap (λ (r : Range). r.len) same.gates_is in let h = spare.gates in omega arith;
}

-- ---- a page is brought into memory
module _ (want now : ℕ → List ℕ) (told new : Option Story) (size len : ℕ) (j k : journal.State) (p after : pool.State) (book : Book) (opened pending : List Record) where
  -- the store after a call of the pool that keeps the pages
  pub HoldsAll-kept : Holds want now opened pending (stored told size j p book) → after.geometry ≡ p.geometry → KeepsPages k p after told new → IsReadyWith want p.geometry (opened ++ pending) k after told new
      → IsSameOrForced j k → Serves new len k after.geometry → AgreesOn new k after → HoldsAll want now (opened ++ pending) (record { told = new; size = len; store = together k after book })
  HoldsAll-kept holds sizes kept still forced serves agrees =
      let room = SameRoom-forced j k forced in
      let goes = IsStoreOn-with want now j k p.geometry opened pending (views book.actives) after told new holds.store still in (
        goes.opened_now,
        goes.pending_now,
        record {
          up = room.up ∙ holds.up;
          store = subst (λ (g : Geometry). IsStoreOn want now new k g goes.opened_now goes.pending_now (views book.actives)) (sym sizes) goes.store;
          serves = serves;
          agrees = agrees;
          pages = ArePagesOn-kept j k (λ up. sym room.up ∙ up) now p after sizes told new kept holds.pages;
          tied = goes.tied;
          knows = subst (λ (l : List Record). IsBookOf after.geometry.pages l book) (sym goes.same) (subst (λ (g : Geometry). IsBookOf g.pages (opened ++ pending) book) (sym sizes) holds.knows);
          spare = HasReserve-same j k book room holds.spare;
        },
        goes.same,
      )

-- ---- what the calls say of it
pub Refused-loads : (old new : Parts) → Loads old new → Refused old new
Refused-loads old new loads = record { book = loads.book; pages = loads.pages; journal = loads.journal }

-- the bytes of a page that is held are those now
pub bytes_now : (now : ℕ → List ℕ) (old new : Option Story) (k : journal.State) (p : pool.State) (n : ℕ) (bytes : List ℕ) (dirty : Bool) → is_some old ≡ is_some new → ArePagesOn now new k p → k.failed ≡ false → n < p.geometry.pages
    → held p n ≡ Some (record { bytes = bytes; dirty = dirty }) → IfTold old (bytes ≡ now n)
bytes_now now None new k p n bytes dirty tells pages up lt is = tt
bytes_now now (Some s) None k p n bytes dirty tells pages up lt is = absurd (false≢true (sym tells))
bytes_now now (Some s) (Some t) k p n bytes dirty tells pages up lt is = sym (ap (λ (h : Option Held). bytes_or (page_at p.geometry n t.now.reads) h) is) ∙ pages up n lt
