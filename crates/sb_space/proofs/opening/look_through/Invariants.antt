use Rattle.sb_journal.specs.Opening.{OnlyReads}
use Rattle.sb_txn.specs.Parts.{parts}
use Rattle.sb_space.specs.Opening.{AreTablePages, OnlyLoads, WhereNow}
use Rattle.sb_space.proofs.opening.look_through.Given as goal

-- the pages so far have the form, and were brought into memory
abbrev pub invariant-loop-p : goal.invariant-loop-p
invariant-loop-p g l = record {
  formed : WhereNow (parts g.D.Disk.told g.D.Disk.len l.fn.disk l.fn.store) (λ now. AreTablePages l.fn.store.pool.geometry.pages now l.p);
  loads : OnlyLoads (parts g.D.Disk.told g.D.Disk.len l.fn.disk l.fn.store) (parts g.D.Disk.told g.D.Disk.len l.disk l.store);
  reads : OnlyReads g.D.Disk.told g.D.Disk.len g.D.Disk.faults l.fn.disk l.disk;
}
