use Rattle.sb_txn.specs.Parts.{parts}
use Rattle.sb_space.proofs.OpeningLemmas.{fresh-clean, OnlyLoads-loaded}
use Rattle.sb_space.proofs.opening.load_page.Goals as goal

pub returns-in-Ok-clause-loads : goal.returns-in-Ok-clause-loads
returns-in-Ok-clause-loads g c =
    let call = c.in-Ok.ensures in
    OnlyLoads-loaded g.D.Disk.told g.D.Disk.len g.D.Disk.faults c.args.disk.now c.load.new.disk c.args.store.now c.load.new.self (tt {0}) call.reads.only call.keeps call.loads c.requires.fresh

pub returns-in-Ok-clause-reads : goal.returns-in-Ok-clause-reads
returns-in-Ok-clause-reads g c =
    let call = c.in-Ok.ensures in
    record {
      story = (call.reads.only (fresh-clean (parts g.D.Disk.told g.D.Disk.len c.args.disk.now c.args.store.now) c.requires.fresh)).0;
      size = call.keeps.size;
      later = call.keeps.later;
    }
