-- What the steps of a store make of its records and its pages.
use Rattle.std.specs.Prelude.{◌≡◌, ◌⊎◌, ℕ, ◌+◌, ◌*◌, ◌^◌, ◌<◌, ◌≤◌, length, Result, OnErr, IfErr, Bool, true, false, Option, List, [], ◌∷◌, ◌++◌}
use Rattle.sb_disk.specs.Causes.{Rose}
use Rattle.sb_disk.specs.Disk.{Story, WhereTold}
use Rattle.sb_journal.specs.Chunks.{bytes_of}
use Rattle.sb_journal.specs.State.{StandsOn, used_of}
use Rattle.sb_journal.specs.State as journal
use Rattle.sb_log.specs.declared.geometry.Geometry.{Geometry}
use Rattle.sb_log.specs.Records.{Record}
use Rattle.sb_log.specs.Views.{Active}
use Rattle.sb_log.specs.Whole.{IsWhole}
use Rattle.sb_images.specs.Layout.{gates_of, log_of, page_at}
use Rattle.sb_pool.specs.Calls.{Moment}
use Rattle.sb_txn.specs.Book.{Book}
use Rattle.sb_txn.specs.declared.fault.StoreFault.{StoreFault}
use Rattle.sb_txn.specs.declared.fault.StoreFault.TheVariants.{Fault}

-- With the record pending, the pages now are these, and these transactions are active.
abbrev pub Steps : Geometry → (ℕ → List ℕ) → (ℕ → List ℕ) → List Record → List Record → Record
    → List Active → List Active → Type 0
Steps g now then opened pending r active after =
    (disk : ℕ → List ℕ) → IsWhole g.pages disk now opened pending active → IsWhole g.pages disk then opened (pending ++ r ∷ []) after

-- the record, if so
abbrev pub some : Bool → Record → List Record
some true r = r ∷ []
some false r = []

-- each page is on the disk as it was
abbrev pub HasSamePages : Geometry → Story → Story → Type 0
HasSamePages g s t = (p : ℕ) → page_at g p t.now.reads ≡ page_at g p s.now.reads

-- so it is, where the journal stands in the regions of such a store
abbrev pub KeepsDisk : journal.State → Option Story → Option Story → Type 0
KeepsDisk j old new = (g : Geometry) → j.gates ≡ gates_of g → j.log ≡ log_of g → WhereTold old new (HasSamePages g)

-- the bytes that the chunks and the pending one take, with a length field even where nothing is pending
abbrev pub filled : journal.State → ℕ
filled j = bytes_of j.lens + 4 + j.pending

-- What a call on the journal keeps: the disk's length, the regions, and that the journal stands.
pub record Stays {D : Type 0} (told : D → Option Story) (len faults : D → ℕ) (old new : D) (j k : journal.State) : Type 0 where
  pub size : len new ≡ len old
  pub later : faults old ≤ faults new
  pub gates : k.gates ≡ j.gates
  pub log : k.log ≡ j.log
  pub stands : StandsOn (told new) k

-- What a checkpoint keeps: the sizes of disk and store. Its one refusal is Fault, which means that the disk failed a call, now or in an earlier call
-- of the journal.
pub record KeepsSizes {T : Type 0} (old new : Moment) (result : Result T StoreFault) : Type 0 where
  pub size : new.size ≡ old.size
  pub geometry : new.pool.geometry ≡ old.pool.geometry
  pub later : old.faults ≤ new.faults
  pub err : IfErr result (λ e. e ≡ Fault)
  pub cause : OnErr result ((old.journal.failed ≡ true) ⊎ Rose old.faults new.faults)

-- No more than half of the log is used, nor of its gates, nor of the numbers of transactions, which nobody reaches.
pub record HasHalf (j : journal.State) (book : Book) : Type 0 where
  pub bytes : 2 * used_of j ≤ j.log.len
  pub chunks : 2 * length j.lens ≤ 65536
  pub next : book.next < 2 ^ 31

-- A begin takes a checkpoint exactly here: no transaction is active, and more than half of something is used.
pub record TakesCheckpoint (j : journal.State) (book : Book) : Type 0 where
  pub none : book.actives ≡ []
  pub over : HasHalf j book → ⊥
