use Rattle.sb_txn.specs.Book.{standing_of}
use Rattle.sb_txn.proofs.BackLemmas.{WentBack}
use Rattle.sb_txn.proofs.store.Store.undo_behind.Given as goal

abbrev pub invariant-loop-self : goal.invariant-loop-self
invariant-loop-self g l = WentBack g.D.Disk.told g.D.Disk.len g.D.Disk.faults l.fn.disk l.disk l.fn.self l.self l.tx l.n

abbrev pub decreases-loop-self : goal.decreases-loop-self
decreases-loop-self g l = standing_of l.tx l.self.book.actives
