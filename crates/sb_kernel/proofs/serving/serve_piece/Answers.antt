use Rattle.std.proofs.Common.{◌<◌, ◌≤◌, length, arith}
use Rattle.sb_kernel.specs.World.{at, world}
use Rattle.sb_kernel.proofs.Served.{ends_with_input, stops_at_last_line, serves_more, stops_in_piece}
use Rattle.sb_kernel.proofs.serving.serve_piece.Goals as goal

pub returns-in-Ok-finish-clause-leads : goal.returns-in-Ok-finish-clause-leads
returns-in-Ok-finish-clause-leads g c = λ m bytes left first room within serves.
    let w = world g.B.Boxes.meanings g.D.Disk.told g.D.Disk.len g.D.Disk.clock g.D.Disk.faults in
    let old = g.S.Source.left c.args.source.now in
    let new = g.S.Source.left c.read.new.self in
    let line = c.args.dialogue.now.line in
    let now = at c.args.disk.now c.args.dialogue.now.session (g.K.Sink.held c.args.sink.now) c.args.dialogue.now.starts in
    let last = at c.finish.new.disk c.finish.new.self.session (g.K.Sink.held c.finish.new.sink) c.finish.new.self.starts in
    let count = c.in-Ok.count in
    let buffer = c.read.new.buffer in
    let some : 0 < length buffer = omega arith in
    let asked : 0 < room = omega arith in
    ends_with_input w m bytes left old new line first now last room count buffer asked serves c.in-Ok.ensures.took c.if-count-eq0.true some (c.in-Ok-finish.ensures.leads m bytes first serves.stands)

pub returns-in-Err-clause-leads : goal.returns-in-Err-clause-leads
returns-in-Err-clause-leads g c = λ m bytes left first room within serves.
    let w = world g.B.Boxes.meanings g.D.Disk.told g.D.Disk.len g.D.Disk.clock g.D.Disk.faults in
    let old = g.S.Source.left c.args.source.now in
    let new = g.S.Source.left c.read.new.self in
    let line = c.args.dialogue.now.line in
    let now = at c.args.disk.now c.args.dialogue.now.session (g.K.Sink.held c.args.sink.now) c.args.dialogue.now.starts in
    let last = at c.finish.new.disk c.finish.new.self.session (g.K.Sink.held c.finish.new.sink) c.finish.new.self.starts in
    let count = c.in-Ok.count in
    let buffer = c.read.new.buffer in
    let some : 0 < length buffer = omega arith in
    stops_at_last_line w m c.in-Err.stop bytes left old new line first now last room count buffer serves c.in-Ok.ensures.took c.if-count-eq0.true some (c.in-Err.ensures.leads m bytes first serves.stands)

pub returns-in-Ok-feed-clause-leads : goal.returns-in-Ok-feed-clause-leads
returns-in-Ok-feed-clause-leads g c = λ m bytes left first room within serves.
    let w = world g.B.Boxes.meanings g.D.Disk.told g.D.Disk.len g.D.Disk.clock g.D.Disk.faults in
    let old = g.S.Source.left c.args.source.now in
    let new = g.S.Source.left c.read.new.self in
    let line = c.args.dialogue.now.line in
    let now = at c.args.disk.now c.args.dialogue.now.session (g.K.Sink.held c.args.sink.now) c.args.dialogue.now.starts in
    let last = at c.feed.new.disk c.feed.new.self.session (g.K.Sink.held c.feed.new.sink) c.feed.new.self.starts in
    let count = c.in-Ok.count in
    let buffer = c.read.new.buffer in
    let some : 0 < count = omega arith in
    let fits : length buffer ≤ room = omega arith in
    serves_more w m bytes left old new line c.feed.new.self.line first now last room count buffer serves c.in-Ok.ensures.took some c.in-Ok.ensures.most fits (c.in-Ok-feed.ensures.leads m bytes first serves.stands)

pub returns-in-Err-feed-clause-leads : goal.returns-in-Err-feed-clause-leads
returns-in-Err-feed-clause-leads g c = λ m bytes left first room within serves.
    let w = world g.B.Boxes.meanings g.D.Disk.told g.D.Disk.len g.D.Disk.clock g.D.Disk.faults in
    let old = g.S.Source.left c.args.source.now in
    let new = g.S.Source.left c.read.new.self in
    let line = c.args.dialogue.now.line in
    let now = at c.args.disk.now c.args.dialogue.now.session (g.K.Sink.held c.args.sink.now) c.args.dialogue.now.starts in
    let last = at c.feed.new.disk c.feed.new.self.session (g.K.Sink.held c.feed.new.sink) c.feed.new.self.starts in
    let count = c.in-Ok.count in
    let buffer = c.read.new.buffer in
    let fits : length buffer ≤ room = omega arith in
    let short : length buffer ≤ 4096 = omega arith in
    stops_in_piece w m c.in-Err-feed.stop bytes left old new line first now last room count buffer serves c.in-Ok.ensures.took c.in-Ok.ensures.most fits short (c.in-Err-feed.ensures.leads m bytes first serves.stands)
