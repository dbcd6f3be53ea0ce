use Rattle.std.proofs.Common.{◌≡◌, ◌≤◌}
use Rattle.sb_recover.specs.Frames.{texts}
use Rattle.sb_recover.specs.Writing.{Wrote}
use Rattle.sb_recover.proofs.writing.write_pages.Given as goal

abbrev pub invariant-loop-page : goal.invariant-loop-page
invariant-loop-page g l = record {
  wrote : Wrote l.g (texts l.frames) l.page (g.D.Disk.told l.fn.disk) (g.D.Disk.told l.disk);
  len : g.D.Disk.len l.disk ≡ g.D.Disk.len l.fn.disk;
  later : g.D.Disk.faults l.fn.disk ≤ g.D.Disk.faults l.disk;
}
