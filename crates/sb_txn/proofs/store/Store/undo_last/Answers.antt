use Rattle.std.proofs.Common.{refl, ◌∙◌, ap, arith}
use Rattle.sb_txn.specs.Book.{Book}
use Rattle.sb_txn.specs.Parts.{parts}
use Rattle.sb_txn.specs.State.{together}
use Rattle.sb_txn.specs.View.{undo_of}
use Rattle.sb_txn.proofs.CalledLemmas.{found_standing}
use Rattle.sb_txn.proofs.KeepsLemmas.{StaysReady-after}
use Rattle.sb_txn.proofs.ResultLemmas.{OnOk-map}
use Rattle.sb_txn.proofs.UndoLemmas.{UndoFits-undo, IsAhead-undo, LeavesWanted-undo, UndoesLast-undo}
use Rattle.sb_txn.proofs.store.Store.undo_last.Goals as goal

-- the book has the change no longer, and the page has it still
pub write_range-requires-clause-ahead : goal.write_range-requires-clause-ahead
write_range-requires-clause-ahead g c =
    let found = found_standing c.args.tx c.args.self.now.book.actives c.requires.some in
    let store = c.requires.ready c.requires.up in (
      store.0,
      store.1,
      IsAhead-undo (g.D.Disk.told c.args.disk.now) (g.D.Disk.len c.args.disk.now) c.args.self.now.journal c.args.self.now.pool c.args.self.now.book c.pop-undo.new.self c.args.tx found.0 found.1
          (undo_of c.pop-undo.result) (c.pop-undo.ensures found.0 found.1) c.deref.result.now c.deref.ensures.value store.0 store.1 store.2,
    )

pub write_range-requires-clause-up : goal.write_range-requires-clause-up
write_range-requires-clause-up g c =
    let found = found_standing c.args.tx c.args.self.now.book.actives c.requires.some in
    ap (λ (b : Book). b.down) (c.pop-undo.ensures found.0 found.1).is ∙ c.requires.up

pub write_range-requires-clause-page : goal.write_range-requires-clause-page
write_range-requires-clause-page g c =
    let found = found_standing c.args.tx c.args.self.now.book.actives c.requires.some in
    let store = c.requires.ready c.requires.up in
    (UndoFits-undo (g.D.Disk.told c.args.disk.now) (g.D.Disk.len c.args.disk.now) c.args.self.now.journal c.args.self.now.pool c.args.self.now.book c.pop-undo.new.self c.args.tx found.0 found.1
    (undo_of c.pop-undo.result) (c.pop-undo.ensures found.0 found.1) c.deref.result.now c.deref.ensures.value store.0 store.1 store.2).0

pub write_range-requires-clause-range : goal.write_range-requires-clause-range
write_range-requires-clause-range g c =
    let found = found_standing c.args.tx c.args.self.now.book.actives c.requires.some in
    let store = c.requires.ready c.requires.up in
    (UndoFits-undo (g.D.Disk.told c.args.disk.now) (g.D.Disk.len c.args.disk.now) c.args.self.now.journal c.args.self.now.pool c.args.self.now.book c.pop-undo.new.self c.args.tx found.0 found.1
    (undo_of c.pop-undo.result) (c.pop-undo.ensures found.0 found.1) c.deref.result.now c.deref.ensures.value store.0 store.1 store.2).1

-- and now the page has the bytes before it
pub returns-clause-undoes : goal.returns-clause-undoes
returns-clause-undoes g c =
    let end = parts g.D.Disk.told g.D.Disk.len c.write_range.new.disk c.write_range.new.self in
    OnOk-map c.write_range.result _ _ (λ caught o is.
    UndoesLast-undo (g.D.Disk.told c.args.disk.now) (g.D.Disk.len c.args.disk.now) c.args.self.now.journal c.args.self.now.pool c.args.self.now.book c.pop-undo.new.self c.args.tx o is
    (undo_of c.pop-undo.result) (c.pop-undo.ensures o is) c.deref.result.now c.deref.ensures.value end caught) c.write_range.ensures.written

pub returns-clause-any_moment : goal.returns-clause-any_moment
returns-clause-any_moment g c =
    let end = parts g.D.Disk.told g.D.Disk.len c.write_range.new.disk c.write_range.new.self in
    let found = found_standing c.args.tx c.args.self.now.book.actives c.requires.some in
    LeavesWanted-undo (g.D.Disk.told c.args.disk.now) (g.D.Disk.len c.args.disk.now) c.args.self.now.journal c.args.self.now.pool c.args.self.now.book c.pop-undo.new.self c.args.tx found.0 found.1
    (undo_of c.pop-undo.result) (c.pop-undo.ensures found.0 found.1) c.deref.result.now c.deref.ensures.value end c.write_range.ensures.any_moment

pub returns-clause-keeps : goal.returns-clause-keeps
returns-clause-keeps g c =
    let found = found_standing c.args.tx c.args.self.now.book.actives c.requires.some in
    let still = ap (λ (b : Book). b.down) (c.pop-undo.ensures found.0 found.1).is ∙ c.requires.up in
    StaysReady-after g.D.Disk.told g.D.Disk.len g.D.Disk.faults c.write_range.result _ _ _ c.args.self.now (together c.args.self.now.journal c.args.self.now.pool c.pop-undo.new.self)
    c.write_range.new.self
    c.requires.up still refl refl (omega arith) c.write_range.ensures.keeps
