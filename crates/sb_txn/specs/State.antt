-- A store as contracts see it.
use Rattle.sb_journal.specs.State as journal
use Rattle.sb_pool.specs.State as pool
use Rattle.sb_txn.specs.Book.{Book}
use Rattle.sb_txn.specs.declared.store.Store.{Store}

-- its journal, its pool, and what it has in memory of its log
abbrev pub State : Type 0
State = Store

-- a store of these parts
abbrev pub together : journal.State → pool.State → Book → State
together j p b = record { journal = j; pool = p; book = b }
