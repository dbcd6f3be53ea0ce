use Rattle.std.proofs.Common.{◌≤◌, length}
use Rattle.sb_kernel.proofs.Partly.{Partly}
use Rattle.sb_kernel.proofs.writing.write_all.Given as goal

abbrev pub invariant-loop-rest : goal.invariant-loop-rest
invariant-loop-rest g l = record {
  partly : Partly (g.K.Sink.held l.fn.sink) (g.K.Sink.held l.sink) l.bytes l.rest;
  later : g.K.Sink.faults l.fn.sink ≤ g.K.Sink.faults l.sink;
}

abbrev pub decreases-loop-rest : goal.decreases-loop-rest
decreases-loop-rest g l = length l.rest
