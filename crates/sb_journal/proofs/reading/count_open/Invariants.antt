use Rattle.std.proofs.Common.{◌≡◌, ◌-◌, ◌<◌, ◌≤◌, ℕ, true}
use Rattle.sb_journal.specs.Opening.{GateIs}
use Rattle.sb_journal.proofs.reading.count_open.Given as goal

abbrev pub invariant-pieces : goal.invariant-pieces
invariant-pieces g l = record {
  order : l.from ≤ l.at;
  within : l.at ≤ l.to;
  each : (i : ℕ) → l.from ≤ i → i < l.at → GateIs (g.D.Disk.told l.fn.disk) i true;
  told : g.D.Disk.told l.disk ≡ g.D.Disk.told l.fn.disk;
  len : g.D.Disk.len l.disk ≡ g.D.Disk.len l.fn.disk;
  faults : g.D.Disk.faults l.fn.disk ≤ g.D.Disk.faults l.disk;
}

abbrev pub decreases-pieces : goal.decreases-pieces
decreases-pieces g l = l.to - l.at
