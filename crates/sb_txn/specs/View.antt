-- How contracts see a store and its book.
use Rattle.std.specs.Prelude.{map}
use Rattle.sb_txn.specs.declared.book.Undo as code_undo
use Rattle.sb_txn.specs.declared.book.ActiveTransaction as code_transaction
use Rattle.sb_txn.specs.declared.book.Book.TheInside as code_book
use Rattle.sb_txn.specs.Book.{Undo, ActiveTransaction, Book}

abbrev pub undo_of : code_undo.Undo → Undo
undo_of u = record { page = u.page; offset = u.offset; before = u.before.items }

abbrev pub transaction_of : code_transaction.ActiveTransaction → ActiveTransaction
transaction_of o = record { tx = o.tx; undos = map undo_of o.undos.items; begun = o.begun; undone = o.undone }

abbrev pub book_of : code_book.Inside → Book
book_of b = record { next = b.next; imaged = b.imaged.items; actives = map transaction_of b.actives.items; down = b.down }
