use Rattle.sb_txn.specs.Parts.{parts}
use Rattle.sb_txn.proofs.BesideLemmas.{IsOnly-one_active, AreTwo-begin, down-refused}
use Rattle.sb_txn.proofs.KeepsLemmas.{not_both, StaysReady-up}
use Rattle.sb_store_tests.proofs.store.beside.Goals as goal

pub returns-then-not-may_begin-clause-only : goal.returns-then-not-may_begin-clause-only
returns-then-not-may_begin-clause-only g c up = IsOnly-one_active _ c.args.low.now.number c.args.store.now.book.actives (c.requires.one up)

pub returns-in_err-high-clause-only : goal.returns-in_err-high-clause-only
returns-in_err-high-clause-only g c up =
    let call = c.in_err-high.ensures in
    not_both c.begin.new.self.book.down up
    (down-refused g.D.Disk.told g.D.Disk.len g.D.Disk.faults c.args.disk.now c.begin.new.disk c.args.store.now c.begin.new.self c.in_err-high.field-0.0 call.err call.keeps)

pub take_turns-done-requires-clause-two : goal.take_turns-done-requires-clause-two
take_turns-done-requires-clause-two g c up =
    let begun = c.in_ok-high.ensures in
    let was = StaysReady-up g.D.Disk.told g.D.Disk.len g.D.Disk.faults c.in_ok-high.high c.args.disk.now c.begin.new.disk c.args.store.now c.begin.new.self begun.keeps in
    AreTwo-begin _ (parts g.D.Disk.told g.D.Disk.len c.args.disk.now c.args.store.now) (parts g.D.Disk.told g.D.Disk.len c.begin.new.disk c.begin.new.self) c.args.low.now.number c.in_ok-high.high.number
    (c.requires.one was) begun.begins up begun.keeps.ready
