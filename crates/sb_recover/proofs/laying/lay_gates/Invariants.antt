use Rattle.std.proofs.Common.{◌≡◌, ◌≤◌}
use Rattle.sb_recover.specs.FirstPages.{free_page}
use Rattle.sb_recover.specs.Laying.{Lays}
use Rattle.sb_recover.proofs.laying.lay_gates.Given as goal

abbrev pub invariant-loop-k : goal.invariant-loop-k
invariant-loop-k g l = record {
  lays : Lays 4096 16 l.k (λ k. free_page) (g.D.Disk.told l.fn.disk) (g.D.Disk.told l.disk);
  len : g.D.Disk.len l.disk ≡ g.D.Disk.len l.fn.disk;
  faults : g.D.Disk.faults l.fn.disk ≤ g.D.Disk.faults l.disk;
}
