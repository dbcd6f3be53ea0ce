use Rattle.std.proofs.Common.{◌≡◌, ◌+◌, ◌≤◌}
use Rattle.sb_recover.specs.FirstPages.{first_page}
use Rattle.sb_recover.specs.Laying.{Lays}
use Rattle.sb_recover.proofs.laying.lay_pages.Given as goal

abbrev pub invariant-loop-p : goal.invariant-loop-p
invariant-loop-p g l = record {
  lays : Lays (69632 + l.g.log) l.g.pages l.p (first_page l.g.pages) (g.D.Disk.told l.fn.disk) (g.D.Disk.told l.disk);
  len : g.D.Disk.len l.disk ≡ g.D.Disk.len l.fn.disk;
  faults : g.D.Disk.faults l.fn.disk ≤ g.D.Disk.faults l.disk;
}
