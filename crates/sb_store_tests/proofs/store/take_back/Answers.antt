use Rattle.sb_txn.proofs.OnlyLemmas.{IsOnly-back}
use Rattle.sb_store_tests.proofs.store.take_back.Goals as goal

pub returns-clause-only : goal.returns-clause-only
returns-clause-only g c up =
    let call = c.back_to.ensures in
    IsOnly-back g.D.Disk.told g.D.Disk.len g.D.Disk.faults c.args.disk.now c.back_to.new.disk c.args.store.now c.back_to.new.self c.args.tx.now.number c.requires.only up c.back_to.result c.args.mark.changes call.keeps call.back call.err
