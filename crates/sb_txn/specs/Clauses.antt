-- How a store is left by its calls.
use Rattle.std.specs.Prelude.{◌≡◌, ◌⊎◌, ℕ, ◌+◌, ◌*◌, ◌<◌, ◌≤◌, ◌||◌, nat_lt, true, false, Option, Result, OnOk, IfErr, IsErrOf, List, [], ◌∷◌, ◌++◌, length, take, drop}
use Rattle.sb_disk.specs.Causes.{Rose}
use Rattle.sb_disk.specs.Disk.{Story}
use Rattle.sb_disk.specs.Moments.{LeavesOnly}
use Rattle.sb_journal.specs.State.{used_of, after_append}
use Rattle.sb_journal.specs.State as journal
use Rattle.sb_log.specs.Records.{Change, Record, Begin, Image, Changed, Back}
use Rattle.sb_log.specs.Views.{active_with}
use Rattle.sb_images.specs.Images.{Restores, IsOldOrNew}
use Rattle.sb_images.specs.Store.{IfTold, own_of, with_changes}
use Rattle.sb_pool.specs.Calls.{IsSameOrForced}
use Rattle.sb_pool.specs.Pages.{with_bytes}
use Rattle.sb_txn.specs.Book.{Undo, ActiveTransaction, Book, put_in, new_transaction, begun_book, emptied_book, with_actives, with_change, undone_transaction, wants_of, change_len}
use Rattle.sb_txn.specs.State.{State, together}
use Rattle.sb_txn.specs.Steps.{TakesCheckpoint, some}
use Rattle.sb_txn.specs.Tied.{Holds, reserve, gates_used}
use Rattle.sb_txn.specs.Parts.{Parts, parts}
use Rattle.sb_txn.specs.declared.changing.Wants.{Wants}
use Rattle.sb_txn.specs.declared.fault.StoreFault.{StoreFault}
use Rattle.sb_txn.specs.declared.fault.StoreFault.TheVariants.{Fault, LogFull, GatesFull, Down, NoMemory}

-- so it is with some records
abbrev pub HoldsPages : (ℕ → List ℕ) → (ℕ → List ℕ) → Parts → Type 0
HoldsPages want now p = (opened pending : List Record) × Holds want now opened pending p

-- so it is with some records, which are these in all
abbrev pub HoldsAll : (ℕ → List ℕ) → (ℕ → List ℕ) → List Record → Parts → Type 0
HoldsAll want now recs p = (opened pending : List Record) × Holds want now opened pending p × (opened ++ pending ≡ recs)

-- until a call has failed it is a store, with some pages wanted and some now
abbrev pub IsReady : Parts → Type 0
IsReady p = p.store.book.down ≡ false → (want now : ℕ → List ℕ) × HoldsPages want now p

-- what is wanted stays, and the pages now become these
abbrev pub Leads : Parts → Parts → ((ℕ → List ℕ) → ℕ → List ℕ) → Type 0
Leads old new change = (want now : ℕ → List ℕ) → HoldsPages want now old → HoldsPages want (change now) new

-- at each moment of a call, at its faults too, a crash leaves what was wanted
pub record LeavesWanted (old new : Parts) : Type 0 where
  pub each : (want now : ℕ → List ℕ) → HoldsPages want now old → LeavesOnly old.told new.told (Restores old.store.pool.geometry want)

-- ---- what each call keeps
-- A call of a store that is down answers Down and touches nothing.
pub record IsDown {D T : Type 0} (old new : D) (s t : State) (result : Result T StoreFault) : Type 0 where
  pub answer : IsErrOf result Down
  pub disk : new ≡ old
  pub store : t ≡ s

-- The disk's length and the sizes stay, and the store is ready again. Its Fault means that the disk failed a call within it; from then on, and then
-- alone, the store is down.
pub record StaysReady {D T : Type 0} (told : D → Option Story) (len faults : D → ℕ) (old new : D) (s t : State) (result : Result T StoreFault)
    : Type 0 where
  pub size : len new ≡ len old
  pub geometry : t.pool.geometry ≡ s.pool.geometry
  pub later : faults old ≤ faults new
  pub ready : IsReady (parts told len new t)
  pub down : s.book.down ≡ true → IsDown old new s t result
  pub only : IsErrOf result Down → s.book.down ≡ true
  pub fault : IsErrOf result Fault → Rose (faults old) (faults new) × (t.book.down ≡ true)
  pub up : t.book.down ≡ true → (s.book.down ≡ true) ⊎ IsErrOf result Fault

-- the two refusals that most calls have
abbrev pub IsFaultOrDown : StoreFault → Type 0
IsFaultOrDown Fault = Unit {0}
IsFaultOrDown Down = Unit {0}
IsFaultOrDown e = ⊥

-- ---- how the log grows
-- The log takes at most so many bytes more, and none less; and at most so many gates more, where what is pending counts as a chunk.
pub record Grows (s t : State) (more_bytes more_gates : ℕ) : Type 0 where
  pub bytes : used_of t.journal ≤ used_of s.journal + more_bytes
  pub least : used_of s.journal ≤ used_of t.journal
  pub gates : gates_used t.journal ≤ gates_used s.journal + more_gates

-- So many bytes more are logged, with a length field where nothing was pending any more. Before that and behind it what was pending may be forced.
pub record IsLogged (j k : journal.State) (n : ℕ) : Type 0 where
  pub from : journal.State
  pub first : IsSameOrForced j from
  pub then : IsSameOrForced (after_append n from) k
  pub bytes : used_of k ≡ used_of j + journal.need_of from.pending n

-- The call has changed nothing, and no byte more of the log is used; what was pending may be forced.
pub record Refused (old new : Parts) : Type 0 where
  pub book : new.store.book ≡ old.store.book
  pub pages : Leads old new (λ now. now)
  pub journal : IsSameOrForced old.store.journal new.store.journal

-- ---- page
-- A page was brought into memory: the book is as it was, and so are all pages and records; what was pending may be forced now.
pub record Loads (old new : Parts) : Type 0 where
  pub book : new.store.book ≡ old.store.book
  pub pages : Leads old new (λ now. now)
  pub logged : (want now : ℕ → List ℕ) (opened pending : List Record) → Holds want now opened pending old → HoldsAll want now (opened ++ pending) new
  pub journal : IsSameOrForced old.store.journal new.store.journal

-- What `page` leaves: nothing has changed.
pub record IsPaged {D T : Type 0} (told : D → Option Story) (len faults : D → ℕ) (old new : D) (s t : State) (result : Result T StoreFault)
    : Type 0 where
  pub same : OnOk result (Loads (parts told len old s) (parts told len new t))
  pub leaves : LeavesWanted (parts told len old s) (parts told len new t)
  pub err : IfErr result IsFaultOrDown
  pub keeps : StaysReady told len faults old new s t result

-- ---- begin
-- Behind a checkpoint the numbers begin anew, at 1.
pub record IsAnew (s t : State) (tx : ℕ) : Type 0 where
  pub number : tx ≡ 1
  pub log : used_of t.journal ≡ 0
  pub chunks : t.journal.lens ≡ []
  pub book : t.book ≡ begun_book (emptied_book s.book)

-- A begin: the number of the one behind it will be one more. Without a checkpoint only the book has changed, and the number is the next one.
pub record Begins (old new : Parts) (tx : ℕ) : Type 0 where
  pub actives : new.store.book.actives ≡ old.store.book.actives ++ new_transaction tx ∷ []
  pub next : new.store.book.next ≡ tx + 1
  pub pages : Leads old new (λ now. now)
  pub at_once : (TakesCheckpoint old.store.journal old.store.book → ⊥)
      → new.store ≡ together old.store.journal old.store.pool (begun_book old.store.book)
  pub anew : TakesCheckpoint old.store.journal old.store.book → IsAnew old.store new.store tx

-- a begin that takes no checkpoint makes no call on the disk
abbrev pub AsksNothing : {D : Type 0} → D → D → State → Type 0
AsksNothing old new s = (TakesCheckpoint s.journal s.book → ⊥) → new ≡ old

-- ---- change
-- how many bytes of the log a change of so many bytes wants: its records, a length field, and the reserve of each active transaction
abbrev pub need_of : Book → ActiveTransaction → ℕ → ℕ → ℕ
need_of book o page count = change_len (wants_of book o page) count + 4 + reserve * length book.actives

-- the records of a change, with those that are wanted before it
abbrev pub records_of : Wants → ActiveTransaction → List ℕ → Change → List Record
records_of w o image c =
    some w.begin (Begin o.tx) ++ (some w.back (Back o.tx (length o.undos)) ++ (some w.image (Image c.page image) ++ Changed c ∷ []))

-- the bytes of a page in a range
abbrev pub range_of : ℕ → ℕ → List ℕ → List ℕ
range_of offset count image = take count (drop offset image)

-- a change of so many bytes of a page that was so, by this transaction
abbrev pub change_in : ActiveTransaction → ℕ → ℕ → ℕ → List ℕ → List ℕ → Change
change_in o owner page offset image bytes =
    record { tx = o.tx; owner = owner; page = page; offset = offset; before = range_of offset (length bytes) image; after = bytes }

-- what undoes it
abbrev pub undo_in : ℕ → ℕ → List ℕ → List ℕ → Undo
undo_in page offset image bytes = record { page = page; offset = offset; before = range_of offset (length bytes) image }

-- A change of the transaction: its range has these bytes now, and can be given back what it had. The log has its records behind all others, and no more.
pub record Changes (old new : Parts) (o : ActiveTransaction) (owner page offset : ℕ) (bytes : List ℕ) : Type 0 where
  pub image : List ℕ
  pub was : (want now : ℕ → List ℕ) → HoldsPages want now old → IfTold old.told (image ≡ now page)
  pub book : new.store.book ≡ with_change old.store.book o (undo_in page offset image bytes)
  pub pages : Leads old new (with_bytes page offset bytes)
  pub logged : (want now : ℕ → List ℕ) (opened pending : List Record) → Holds want now opened pending old
      → HoldsAll want (with_bytes page offset bytes now)
      ((opened ++ pending) ++ records_of (wants_of old.store.book o page) o image (change_in o owner page offset image bytes)) new
  pub journal : IsLogged old.store.journal new.store.journal (change_len (wants_of old.store.book o page) (length bytes))
  pub grows : Grows old.store new.store 12400 3
  pub least : used_of old.store.journal + change_len (wants_of old.store.book o page) (length bytes) ≤ used_of new.store.journal

-- Why a change is refused: the log hasn't the bytes that it wants; or it has them, and no gate is left beside those that end the active transactions. Both numbers are those before any record of it.
abbrev pub ChangeErr : Parts → Parts → ActiveTransaction → ℕ → ℕ → StoreFault → Type 0
ChangeErr old new o page count (LogFull used need total) =
    (used ≡ used_of old.store.journal) × (need ≡ need_of old.store.book o page count) × (total ≡ old.store.journal.log.len)
    × (total < used + need) × Refused old new
ChangeErr old new o page count (GatesFull used total) =
    (used_of old.store.journal + need_of old.store.book o page count ≤ old.store.journal.log.len)
    × (used ≡ length new.store.journal.lens) × (total ≡ old.store.journal.gates.len) × (65535 < used + length old.store.book.actives)
    × Refused old new
ChangeErr old new o page count NoMemory = Refused old new
ChangeErr old new o page count e = IsFaultOrDown e

-- there is room for a change: each that isn't refused had it
pub record HasRoom (s : State) (o : ActiveTransaction) (page count : ℕ) : Type 0 where
  pub bytes : used_of s.journal + need_of s.book o page count ≤ s.journal.log.len
  pub gates : length s.journal.lens + length s.book.actives ≤ 65535

-- ---- back
-- the pages with the bytes before each of these changes, the last of them first
abbrev pub unwound : List Undo → (ℕ → List ℕ) → ℕ → List ℕ
unwound [] pages = pages
unwound (u ∷ us) pages = with_bytes u.page u.offset u.before (unwound us pages)

-- the transaction with the first n of its changes alone; what was undone is said by its next record
abbrev pub cut_back : ActiveTransaction → ℕ → ActiveTransaction
cut_back o n = record o { undos = take n o.undos; undone = o.undone || nat_lt n (length o.undos) }

-- the last change of the transaction is undone, and what was pending may be forced
pub record UndoesLast (old new : Parts) (o : ActiveTransaction) : Type 0 where
  pub others : List Undo
  pub last : Undo
  pub was : o.undos ≡ others ++ last ∷ []
  pub book : new.store.book ≡ with_actives old.store.book (put_in (undone_transaction o others) old.store.book.actives)
  pub pages : Leads old new (with_bytes last.page last.offset last.before)
  pub journal : IsSameOrForced old.store.journal new.store.journal

-- Back to the first n changes of the transaction. No byte more of the log is used; what was pending may be forced.
pub record GoesBack (old new : Parts) (o : ActiveTransaction) (n : ℕ) : Type 0 where
  pub book : new.store.book ≡ with_actives old.store.book (put_in (cut_back o n) old.store.book.actives)
  pub pages : Leads old new (unwound (drop n o.undos))
  pub journal : IsSameOrForced old.store.journal new.store.journal

-- The end of a transaction without a commit, and without a byte more of the log. Where it was the only one, the pages now are those wanted, which are those at its begin.
pub record Aborts (old new : Parts) (o : ActiveTransaction) (rest : List ActiveTransaction) : Type 0 where
  pub book : new.store.book ≡ with_actives old.store.book rest
  pub pages : Leads old new (unwound o.undos)
  pub alone : rest ≡ [] → (want now : ℕ → List ℕ) → HoldsPages want now old → HoldsPages want want new
  pub journal : IsSameOrForced old.store.journal new.store.journal

-- ---- commit
-- the pages wanted, with the changes of the transaction that stand
abbrev pub committed_pages : List Record → ActiveTransaction → (ℕ → List ℕ) → ℕ → List ℕ
committed_pages recs o want = with_changes (own_of recs (active_with o.tx (length o.undos))) want

-- After a commit these are the pages wanted. The pages now stay, and the others are active still.
pub record Commits (old new : Parts) (o : ActiveTransaction) (rest : List ActiveTransaction) : Type 0 where
  pub book : new.store.book ≡ with_actives old.store.book rest
  pub pages : (want now : ℕ → List ℕ) (opened pending : List Record) → Holds want now opened pending old
      → HoldsPages (committed_pages (opened ++ pending) o want) now new
  pub alone : rest ≡ [] → (want now : ℕ → List ℕ) → HoldsPages want now old → HoldsPages now now new
  pub grows : Grows old.store new.store 1024 1
  pub chunks : length new.store.journal.lens ≤ length old.store.journal.lens + 1

-- at each moment of it, at a fault too, a crash leaves the old pages wanted or the new ones
abbrev pub LeavesCommit : Parts → Parts → ActiveTransaction → Type 0
LeavesCommit old new o = (want now : ℕ → List ℕ) (opened pending : List Record) → Holds want now opened pending old
    → LeavesOnly old.told new.told (IsOldOrNew old.store.pool.geometry want (committed_pages (opened ++ pending) o want))

-- the same of the one active transaction: the old pages wanted, or the pages now
abbrev pub LeavesOne : Parts → Parts → Type 0
LeavesOne old new = (want now : ℕ → List ℕ) → HoldsPages want now old
    → LeavesOnly old.told new.told (IsOldOrNew old.store.pool.geometry want now)

-- a commit of a transaction that made no change makes no call on the disk
abbrev pub CommitAsksNothing : {D : Type 0} → ActiveTransaction → D → D → State → State → Type 0
CommitAsksNothing o old new s t = o.begun ≡ false → (new ≡ old) × (t.journal ≡ s.journal)

-- ---- checkpoint
-- The log is empty after it, the numbers begin anew, and the pages now are those wanted.
pub record Checkpoints (old new : Parts) : Type 0 where
  pub actives : new.store.book.actives ≡ []
  pub book : new.store.book ≡ emptied_book old.store.book
  pub log : used_of new.store.journal ≡ 0
  pub chunks : new.store.journal.lens ≡ []
  pub pages : (want now : ℕ → List ℕ) → HoldsPages want now old → Holds want now [] [] new

-- What a begin does first: it takes a checkpoint, or leaves the store as it is.
pub record MakesRoom (old new : Parts) : Type 0 where
  pub actives : new.store.book.actives ≡ old.store.book.actives
  pub pages : Leads old new (λ now. now)
  pub stays : (TakesCheckpoint old.store.journal old.store.book → ⊥) → new.store ≡ old.store
  pub empties : TakesCheckpoint old.store.journal old.store.book → Checkpoints old new
