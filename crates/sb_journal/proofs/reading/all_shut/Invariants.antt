use Rattle.std.proofs.Common.{◌≡◌, ◌-◌, ◌≤◌, true}
use Rattle.sb_journal.specs.Opening.{AllShut}
use Rattle.sb_journal.proofs.reading.all_shut.Given as goal

abbrev pub invariant-pieces : goal.invariant-pieces
invariant-pieces g l = record {
  order : l.from ≤ l.at;
  within : l.at ≤ l.to;
  shut : AllShut (g.D.Disk.told l.fn.disk) l.from l.at true;
  told : g.D.Disk.told l.disk ≡ g.D.Disk.told l.fn.disk;
  len : g.D.Disk.len l.disk ≡ g.D.Disk.len l.fn.disk;
  faults : g.D.Disk.faults l.fn.disk ≤ g.D.Disk.faults l.disk;
}

abbrev pub decreases-pieces : goal.decreases-pieces
decreases-pieces g l = l.to - l.at
