use Rattle.sb_kernel.specs.World.{at, world}
use Rattle.sb_kernel.specs.Serving.{counted}
use Rattle.std.proofs.Common.{[], ◌∙◌}
use Rattle.sb_kernel.proofs.Served.{serves_first, HasServed-closed, NeverFall-closed, HasCause-closed}
use Rattle.sb_kernel.proofs.serving.serve.Goals as goal

pub returns-clause-served : goal.returns-clause-served
returns-clause-served g c = λ m.
    let w = world g.B.Boxes.meanings g.D.Disk.told g.D.Disk.len g.D.Disk.clock g.D.Disk.faults in
    let left = g.S.Source.left c.args.source.now in
    let held = g.K.Sink.held c.args.sink.now in
    let first = at c.args.disk.now c.args.session held [] in
    let d = c.new-dialogue.result in
    let new = c.serve_input-ending.new in
    let fresh = serves_first w m left d.line c.args.disk.now c.args.session d.session held d.starts c.new-dialogue.ensures.session c.new-dialogue.ensures.line c.new-dialogue.ensures.starts in
    HasServed-closed w m c.args.most left (g.S.Source.left new.source) c.serve_input-ending.result first new.disk c.close.new.disk new.dialogue.session c.args.session (g.K.Sink.held new.sink) new.dialogue.starts c.into_starts.result
    c.serve_input-ending.ensures.runs.up c.close.ensures.closed (c.into_starts.ensures ∙ c.close.ensures.starts) (c.serve_input-ending.ensures.ended m left first fresh)

pub returns-clause-counts : goal.returns-clause-counts
returns-clause-counts g c =
    let first = counted (g.S.Source.faults c.args.source.now) (g.K.Sink.faults c.args.sink.now) (g.D.Disk.faults c.args.disk.now) in
    let last = counted (g.S.Source.faults c.serve_input-ending.new.source) (g.K.Sink.faults c.serve_input-ending.new.sink) (g.D.Disk.faults c.serve_input-ending.new.disk) in
    NeverFall-closed first last (g.D.Disk.faults c.close.new.disk) c.close.ensures.closed.later c.serve_input-ending.ensures.counts

pub returns-clause-cause : goal.returns-clause-cause
returns-clause-cause g c =
    let first = counted (g.S.Source.faults c.args.source.now) (g.K.Sink.faults c.args.sink.now) (g.D.Disk.faults c.args.disk.now) in
    let last = counted (g.S.Source.faults c.serve_input-ending.new.source) (g.K.Sink.faults c.serve_input-ending.new.sink) (g.D.Disk.faults c.serve_input-ending.new.disk) in
    HasCause-closed c.serve_input-ending.result first last (g.D.Disk.faults c.close.new.disk) c.close.ensures.closed.later c.serve_input-ending.ensures.cause
