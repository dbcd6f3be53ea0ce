use Rattle.std.proofs.Common.{◌++◌, take, arith}
use Rattle.std.proofs.lemmas.Result.{err_from_is_err_and}
use Rattle.sb_kernel.specs.World.{at, world}
use Rattle.sb_kernel.proofs.Taking.{stops_in_piece, stands_behind, stands_at_end}
use Rattle.sb_kernel.proofs.dialogue.Dialogue.feed.Goals as goal

pub returns-in_err-take-clause-leads : goal.returns-in_err-take-clause-leads
returns-in_err-take-clause-leads g c = λ m bytes first stands.
    let p = err_from_is_err_and c.from_residual.result c.from_residual.ensures.1 in
    let w = world g.B.Boxes.meanings g.D.Disk.told g.D.Disk.len g.D.Disk.clock g.D.Disk.faults in
    let piece = c.args.piece.now in
    let i = c.loop-byte.byte-index in
    let now = at c.take.new.disk c.take.new.self.session (g.K.Sink.held c.take.new.sink) c.take.new.self.starts in
    rw (p.1, p.2) (stops_in_piece w m c.in_err-take.field-0.0 bytes piece i first now c.loop-byte-test.true (c.in_err-take.ensures.leads m (bytes ++ take i piece) first (c.loop-byte.invariant.leads m bytes first stands)))

pub loop-byte-preserved : goal.loop-byte-preserved
loop-byte-preserved g c =
    let w = world g.B.Boxes.meanings g.D.Disk.told g.D.Disk.len g.D.Disk.clock g.D.Disk.faults in
    let piece = c.args.piece.now in
    let i = c.loop-byte.byte-index in
    let now = at c.take.new.disk c.take.new.self.session (g.K.Sink.held c.take.new.sink) c.take.new.self.starts in
    record {
      leads = λ m bytes first stands. stands_behind w m bytes piece i c.take.new.self.line first now c.loop-byte-test.true (c.in_ok-take.ensures.leads m (bytes ++ take i piece) first (c.loop-byte.invariant.leads m bytes first stands));
      runs = c.take.ensures.runs;
      up = c.in_ok-take.ensures.up;
      sink = omega (arith, c.loop-byte.invariant.sink, c.take.ensures.cause.later);
      later = omega (arith, c.loop-byte.invariant.later, c.take.ensures.later);
    }

pub returns-clause-leads : goal.returns-clause-leads
returns-clause-leads g c = λ m bytes first stands.
    let w = world g.B.Boxes.meanings g.D.Disk.told g.D.Disk.len g.D.Disk.clock g.D.Disk.faults in
    let now = at c.loop-byte.disk c.loop-byte.self.session (g.K.Sink.held c.loop-byte.sink) c.loop-byte.self.starts in
    stands_at_end w m bytes c.args.piece.now c.loop-byte.byte-index c.loop-byte.self.line first now c.loop-byte-test.false (c.loop-byte.invariant.leads m bytes first stands)
