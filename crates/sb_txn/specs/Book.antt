-- What a store has in memory of its log.
use Rattle.std.specs.Prelude.{◌≡◌, ◌⊎◌, ℕ, ◌+◌, ◌-◌, ◌*◌, ◌^◌, ◌<◌, ◌≤◌, ◌==◌, Bool, true, false, cond, not, Option, Some, None, IsSome, List, [], ◌∷◌, ◌++◌, length, replicate, slice_index_or, slice_set}
use Rattle.std.specs.List.{All}
use Rattle.sb_log.specs.Views.{Active, active_with}
use Rattle.sb_txn.specs.declared.changing.Wants.{Wants}

-- an undo: the place of a change, and the bytes before it
pub record Undo : Type 0 where
  pub page : ℕ
  pub offset : ℕ
  pub before : List ℕ

-- An active transaction: its number, its changes that stand, the first of them first, whether the log has a record of it, and whether changes of it were undone since its last record.
pub record ActiveTransaction : Type 0 where
  pub tx : ℕ
  pub undos : List Undo
  pub begun : Bool
  pub undone : Bool

-- The number of the next transaction, which pages have an Image in the log, the active transactions, and whether a call has failed.
pub record Book : Type 0 where
  pub next : ℕ
  pub imaged : List Bool
  pub actives : List ActiveTransaction
  pub down : Bool

-- the active transactions, by how many of their changes stand
abbrev pub views : List ActiveTransaction → List Active
views [] = []
views (o ∷ os) = active_with o.tx (length o.undos) ∷ views os

-- the book of a store of so many pages whose log is empty
abbrev pub empty_book : ℕ → Book
empty_book pages = record { next = 1; imaged = replicate pages false; actives = []; down = false }

-- a transaction that has changed nothing
abbrev pub new_transaction : ℕ → ActiveTransaction
new_transaction tx = record { tx = tx; undos = []; begun = false; undone = false }

-- the book with a transaction more
abbrev pub begun_book : Book → Book
begun_book book = record book { next = book.next + 1; actives = book.actives ++ new_transaction book.next ∷ [] }

-- how many of these transactions have a record in the log
abbrev pub begun_in : List ActiveTransaction → ℕ
begun_in [] = 0
begun_in (o ∷ os) = cond o.begun 1 0 + begun_in os

-- A transaction more may begin: fewer than eight are active. Beside others it needs a number that is left; where none is active, a checkpoint gives the numbers back long before the last.
pub record MayBegin (book : Book) : Type 0 where
  pub few : length book.actives < 8
  pub numbered : 0 < length book.actives → book.next < 2 ^ 32 - 1

-- the book of a log that was emptied
abbrev pub emptied_book : Book → Book
emptied_book book = record (empty_book (length book.imaged)) { actives = book.actives; down = book.down }

-- the transaction with a change more
abbrev pub changed_transaction : ActiveTransaction → Undo → ActiveTransaction
changed_transaction o u = record { tx = o.tx; undos = o.undos ++ u ∷ []; begun = true; undone = false }

-- what is logged before a change of the page: a Begin if the transaction has no record yet, a Back if changes of it were undone
-- behind its last record, an Image if the page has none
abbrev pub wants_of : Book → ActiveTransaction → ℕ → Wants
wants_of book o page = record { begin = not o.begun; back = o.undone; image = not (slice_index_or book.imaged page false) }

-- the bytes of the records before a change
abbrev pub wants_len : Wants → ℕ
wants_len w = cond w.begin 5 0 + cond w.back 9 0 + cond w.image 4101 0

-- the bytes of the records of a change of so many bytes, those before it among them
abbrev pub change_len : Wants → ℕ → ℕ
change_len w count = wants_len w + (15 + 2 * count)

-- ---- the transaction of a number
-- the one of it, where it is active
abbrev pub transaction_with : ℕ → List ActiveTransaction → Option ActiveTransaction
transaction_with tx [] = None
transaction_with tx (o ∷ os) = cond (o.tx == tx) (Some o) (transaction_with tx os)

-- it is active
abbrev pub IsAmong : ℕ → List ActiveTransaction → Type 0
IsAmong tx actives = IsSome (transaction_with tx actives)

-- the other active ones
abbrev pub others : ℕ → List ActiveTransaction → List ActiveTransaction
others tx [] = []
others tx (o ∷ os) = cond (o.tx == tx) os (o ∷ others tx os)

-- no other one is active
abbrev pub IsOnly : ℕ → List ActiveTransaction → Type 0
IsOnly tx actives = IsAmong tx actives × (others tx actives ≡ [])

-- with this one in the place of that of its number
abbrev pub put_in : ActiveTransaction → List ActiveTransaction → List ActiveTransaction
put_in o [] = []
put_in o (x ∷ os) = cond (x.tx == o.tx) (o ∷ os) (x ∷ put_in o os)

-- how many changes of the transaction stand
abbrev pub standing_of : ℕ → List ActiveTransaction → ℕ
standing_of tx [] = 0
standing_of tx (o ∷ os) = cond (o.tx == tx) (length o.undos) (standing_of tx os)

-- the change is of another page, or its range ends before this one, or begins behind it
abbrev pub IsClear : ℕ → ℕ → ℕ → Undo → Type 0
IsClear page offset count u = u.page ≡ page → (u.offset + length u.before ≤ offset) ⊎ (offset + count ≤ u.offset)

-- so it is with each change of these transactions that stands
abbrev pub AreClear : ℕ → ℕ → ℕ → List ActiveTransaction → Type 0
AreClear page offset count actives = All (λ o. All (IsClear page offset count) o.undos) actives

-- ---- what calls make of the book
-- with these active transactions
abbrev pub with_actives : Book → List ActiveTransaction → Book
with_actives book actives = record book { actives = actives }

-- with a change more of this transaction, of a page that has an Image now
abbrev pub with_change : Book → ActiveTransaction → Undo → Book
with_change book o u = record book { imaged = slice_set book.imaged u.page true; actives = put_in (changed_transaction o u) book.actives }

-- the transaction with these changes alone, since the others were undone
abbrev pub undone_transaction : ActiveTransaction → List Undo → ActiveTransaction
undone_transaction o undos = record o { undos = undos; undone = true }

-- the last change of this transaction is undone
pub record Pops (o : ActiveTransaction) (old new : Book) (u : Undo) : Type 0 where
  pub others : List Undo
  pub was : o.undos ≡ others ++ u ∷ []
  pub is : new ≡ with_actives old (put_in (undone_transaction o others) old.actives)
