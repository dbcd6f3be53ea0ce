use Rattle.std.proofs.Common.{◌≡◌, ◌≤◌, map, drop}
use Rattle.sb_pool.specs.Frames.{held_of, dirty_from, puts}
use Rattle.sb_pool.proofs.RunLemmas.{RunsOn}
use Rattle.sb_pool.proofs.flushing.put_all_out.Given as goal

abbrev pub invariant-loop-page : goal.invariant-loop-page
invariant-loop-page g l = record {
  runs : RunsOn (puts l.geometry (dirty_from l.page (drop l.page (map held_of l.frames)))) (puts l.geometry (dirty_from 0 (map held_of l.frames))) (g.D.Disk.told l.initial.disk) (g.D.Disk.told l.disk);
  len : g.D.Disk.len l.disk ≡ g.D.Disk.len l.initial.disk;
  later : g.D.Disk.faults l.initial.disk ≤ g.D.Disk.faults l.disk;
}
