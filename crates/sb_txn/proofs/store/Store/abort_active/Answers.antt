use Rattle.std.proofs.Common.{◌≡◌, false, sym, ◌∙◌, ap, subst}
use Rattle.sb_txn.specs.Book.{Book, others}
use Rattle.sb_txn.specs.Clauses.{cut_back, Aborts}
use Rattle.sb_txn.specs.Parts.{parts}
use Rattle.sb_txn.specs.State.{together}
use Rattle.sb_txn.proofs.BackLemmas.{Aborts-back, transaction_with-back}
use Rattle.sb_txn.proofs.CalledLemmas.{transaction_with-among, IsAmong-found}
use Rattle.sb_txn.proofs.KeepsLemmas.{StaysReady-still, StaysReady-ok}
use Rattle.sb_txn.proofs.store.Store.abort_active.Goals as goal

pub returns-clause-aborts : goal.returns-clause-aborts
returns-clause-aborts g c o is =
    let back = c.in_ok-undo_behind.ensures.back o is in
    subst (λ (b : Book). Aborts (parts g.D.Disk.told g.D.Disk.len c.args.disk.now c.args.self.now) (parts g.D.Disk.told g.D.Disk.len c.undo_behind.new.disk (together c.undo_behind.new.self.journal c.undo_behind.new.self.pool b)) o (others c.args.tx c.args.self.now.book.actives))
    (sym c.end.ensures)
    (Aborts-back (parts g.D.Disk.told g.D.Disk.len c.args.disk.now c.args.self.now) (g.D.Disk.told c.undo_behind.new.disk) (g.D.Disk.len c.undo_behind.new.disk) c.undo_behind.new.self.journal c.undo_behind.new.self.pool c.undo_behind.new.self.book c.args.tx o is back)

pub end-requires : goal.end-requires
end-requires g c =
    let tx = c.args.tx in
    let found = transaction_with-among tx c.args.self.now.book.actives c.requires.among in
    let old = parts g.D.Disk.told g.D.Disk.len c.args.disk.now c.args.self.now in
    let new = parts g.D.Disk.told g.D.Disk.len c.undo_behind.new.disk c.undo_behind.new.self in
    IsAmong-found tx c.undo_behind.new.self.book.actives (cut_back found.0 0) (transaction_with-back old new tx found.0 found.1 0 (c.in_ok-undo_behind.ensures.back found.0 found.1))

pub returns-clause-keeps : goal.returns-clause-keeps
returns-clause-keeps g c =
    let back = c.in_ok-undo_behind.ensures in
    let s = c.args.self.now in
    let up = c.requires.up in
    let found = transaction_with-among c.args.tx s.book.actives c.requires.among in
    let aborts = returns-clause-aborts g c found.0 found.1 in
    let mid_up = StaysReady-still g.D.Disk.told g.D.Disk.len g.D.Disk.faults tt c.args.disk.now c.undo_behind.new.disk s c.undo_behind.new.self up back.keeps in
    let still : c.end.new.self.down ≡ false = ap (λ (b : Book). b.down) c.end.ensures ∙ mid_up in
    StaysReady-ok g.D.Disk.told g.D.Disk.len g.D.Disk.faults tt c.args.disk.now c.undo_behind.new.disk s (together c.undo_behind.new.self.journal c.undo_behind.new.self.pool c.end.new.self) up still back.keeps.size back.keeps.geometry back.keeps.later
    (λ _. let store = c.requires.ready up in (store.0, _, aborts.pages store.0 store.1 store.2))
