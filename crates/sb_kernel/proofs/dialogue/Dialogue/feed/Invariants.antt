use Rattle.std.proofs.Common.{◌≡◌, ◌≤◌, ◌++◌, ℕ, List, take, false}
use Rattle.sb_registry.specs.Boxes.{Meanings}
use Rattle.sb_opening.specs.Sessions.{CanRun}
use Rattle.sb_kernel.specs.World.{At, at, world}
use Rattle.sb_kernel.specs.Runs.{Stands}
use Rattle.sb_kernel.proofs.dialogue.Dialogue.feed.Given as goal

abbrev pub invariant-loop-byte : goal.invariant-loop-byte
invariant-loop-byte g l = record {
  leads : (m : Meanings) (bytes : List ℕ) (first : At g.row.B.Denot g.row.D.Denot)
      → Stands (world g.B.Boxes.meanings g.D.Disk.told g.D.Disk.len g.D.Disk.clock g.D.Disk.faults) m bytes l.fn.self.line first
      (at l.fn.disk l.fn.self.session (g.K.Sink.held l.fn.sink) l.fn.self.starts)
      → Stands (world g.B.Boxes.meanings g.D.Disk.told g.D.Disk.len g.D.Disk.clock g.D.Disk.faults) m (bytes ++ take l.byte-index l.piece) l.self.line first
      (at l.disk l.self.session (g.K.Sink.held l.sink) l.self.starts);
  runs : CanRun g.B.Boxes.meanings g.D.Disk.told g.D.Disk.len l.disk l.self.session;
  up : l.self.session.down ≡ false;
  sink : g.K.Sink.faults l.fn.sink ≤ g.K.Sink.faults l.sink;
  later : g.D.Disk.faults l.fn.disk ≤ g.D.Disk.faults l.disk;
}
