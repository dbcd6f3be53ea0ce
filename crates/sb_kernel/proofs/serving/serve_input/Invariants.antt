use Rattle.std.proofs.Common.{◌≡◌, [], ◌≤◌, ◌-◌, ℕ, List, Option, false}
use Rattle.sb_registry.specs.Boxes.{Meanings}
use Rattle.sb_opening.specs.Sessions.{CanRun}
use Rattle.sb_kernel.specs.World.{At, at, world}
use Rattle.sb_kernel.specs.Serving.{counted, Serves, NeverFall}
use Rattle.sb_kernel.proofs.Served.{ServesSome}
use Rattle.sb_kernel.proofs.serving.serve_input.Given as goal

abbrev pub invariant-loop-taken : goal.invariant-loop-taken
invariant-loop-taken g l = record {
  serves : (m : Meanings) (left : Option (List ℕ)) (first : At g.row.B.Denot g.row.D.Denot)
      → Serves (world g.B.Boxes.meanings g.D.Disk.told g.D.Disk.len g.D.Disk.clock g.D.Disk.faults) m [] left (g.S.Source.left l.fn.source) l.fn.dialogue.line first
      (at l.fn.disk l.fn.dialogue.session (g.K.Sink.held l.fn.sink) l.fn.dialogue.starts)
      → ServesSome (world g.B.Boxes.meanings g.D.Disk.told g.D.Disk.len g.D.Disk.clock g.D.Disk.faults) m l.taken left (g.S.Source.left l.source) l.dialogue.line first
      (at l.disk l.dialogue.session (g.K.Sink.held l.sink) l.dialogue.starts);
  runs : CanRun g.B.Boxes.meanings g.D.Disk.told g.D.Disk.len l.disk l.dialogue.session;
  up : l.dialogue.session.down ≡ false;
  within : l.taken ≤ l.most;
  counts : NeverFall (counted (g.S.Source.faults l.fn.source) (g.K.Sink.faults l.fn.sink) (g.D.Disk.faults l.fn.disk))
      (counted (g.S.Source.faults l.source) (g.K.Sink.faults l.sink) (g.D.Disk.faults l.disk));
}

abbrev pub decreases-loop-taken : goal.decreases-loop-taken
decreases-loop-taken g l = l.most - l.taken
