use Rattle.std.proofs.Common.{refl}
use Rattle.sb_sound_plays.specs.World.{world}
use Rattle.sb_run.specs.Run.{NotBegun}
use Rattle.sb_run.proofs.RunLemmas.{runs_mounted}
use Rattle.sb_run.proofs.running.run_mounted.Goals as goal

pub returns-in-Ok-clause-run : goal.returns-in-Ok-clause-run
returns-in-Ok-clause-run g c =
    runs_mounted (world g.B.Boxes.meanings g.D.Disk.told g.D.Disk.len g.D.Disk.clock g.D.Disk.faults) (g.B.Boxes.meanings c.args.boxes) c.args.words.now c.args.most
    (g.S.Source.left c.args.source.now) (g.S.Source.left c.serve-ending.new.source) (g.K.Sink.held c.args.sink.now) (g.K.Sink.held c.serve-ending.new.sink)
    c.args.disk.now c.start.new.disk c.serve-ending.new.disk _ c.serve-ending.result.0 (record { status = c.status.result; starts = c.serve-ending.result.1 })
    c.in-Ok.ensures.started c.start.ensures.later c.serve-ending.ensures.counts.disk (c.serve-ending.ensures.served (g.B.Boxes.meanings c.args.boxes)) c.status.ensures

pub returns-in-Err-clause-run : goal.returns-in-Err-clause-run
returns-in-Err-clause-run g c = NotBegun c.in-Err.fault c.in-Err.ensures.refused refl c.refuse_store.ensures.refused
