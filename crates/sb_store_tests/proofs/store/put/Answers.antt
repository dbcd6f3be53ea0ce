use Rattle.sb_txn.proofs.OnlyLemmas.{IsOnly-change, standing-change}
use Rattle.sb_store_tests.proofs.store.put.Goals as goal

pub returns-clause-only : goal.returns-clause-only
returns-clause-only g c up =
    let call = c.change.ensures in
    IsOnly-change g.D.Disk.told g.D.Disk.len g.D.Disk.faults c.args.disk.now c.change.new.disk c.args.store.now c.change.new.self c.args.tx.now.number c.requires.only up c.change.result 1 c.args.page 5 c.args.bytes.now call.keeps call.changes call.refused

pub returns-clause-standing : goal.returns-clause-standing
returns-clause-standing g c =
    let call = c.change.ensures in
    standing-change g.D.Disk.told g.D.Disk.len g.D.Disk.faults c.args.disk.now c.change.new.disk c.args.store.now c.change.new.self c.args.tx.now.number c.requires.only c.change.result 1 c.args.page 5 c.args.bytes.now call.keeps call.changes
