use Rattle.std.proofs.Common.{◌<◌, length, arith}
use Rattle.std.proofs.lemmas.Result.{err_from_is_err_and}
use Rattle.sb_lines.specs.Lines.{whole_lines, most_held}
use Rattle.sb_kernel.specs.World.{at, world}
use Rattle.sb_kernel.proofs.Taking.{pushed_byte, passed_byte, goes_on_with, stops_on, ends_line, stops_at_end}
use Rattle.sb_kernel.proofs.dialogue.Dialogue.take.Goals as goal

pub returns-then-len-ge-MOST_HELD-clause-leads : goal.returns-then-len-ge-MOST_HELD-clause-leads
returns-then-len-ge-MOST_HELD-clause-leads g c = λ m bytes first stands.
    let w = world g.B.Boxes.meanings g.D.Disk.told g.D.Disk.len g.D.Disk.clock g.D.Disk.faults in
    let line = c.args.self.now.line in
    let now = at c.args.disk.now c.args.self.now.session (g.K.Sink.held c.args.sink.now) c.args.self.now.starts in
    let full : length line < most_held → ⊥ = λ few. omega (arith, few, c.len.ensures, c.if-len-ge-MOST_HELD.true) in
    goes_on_with w m bytes c.args.byte line line first now c.if-byte-ne10.true (passed_byte bytes c.args.byte line c.if-byte-ne10.true full stands.line) stands

pub returns-in_err-push-clause-leads : goal.returns-in_err-push-clause-leads
returns-in_err-push-clause-leads g c = λ m bytes first stands.
    let p = err_from_is_err_and c.from_residual.result c.from_residual.ensures.1 in
    let w = world g.B.Boxes.meanings g.D.Disk.told g.D.Disk.len g.D.Disk.clock g.D.Disk.faults in
    let now = at c.args.disk.now c.args.self.now.session (g.K.Sink.held c.args.sink.now) c.args.self.now.starts in
    rw (p.1, p.2) (stops_on w m bytes c.args.byte c.args.self.now.line first now c.if-byte-ne10.true stands)

pub returns-then-byte-ne10-clause-leads : goal.returns-then-byte-ne10-clause-leads
returns-then-byte-ne10-clause-leads g c = λ m bytes first stands.
    let w = world g.B.Boxes.meanings g.D.Disk.told g.D.Disk.len g.D.Disk.clock g.D.Disk.faults in
    let line = c.args.self.now.line in
    let new = c.push.new.self in
    let now = at c.args.disk.now c.args.self.now.session (g.K.Sink.held c.args.sink.now) c.args.self.now.starts in
    let few : length line < most_held = omega (arith, c.len.ensures, c.if-len-ge-MOST_HELD.false) in
    goes_on_with w m bytes c.args.byte line new first now c.if-byte-ne10.true (pushed_byte bytes c.args.byte line new c.if-byte-ne10.true few stands.line c.in_ok-push.ensures.ok) stands

pub returns-in_err-answer-clause-leads : goal.returns-in_err-answer-clause-leads
returns-in_err-answer-clause-leads g c = λ m bytes first stands.
    let p = err_from_is_err_and c.from_residual-in_err-answer.result c.from_residual-in_err-answer.ensures.1 in
    let w = world g.B.Boxes.meanings g.D.Disk.told g.D.Disk.len g.D.Disk.clock g.D.Disk.faults in
    let now = at c.answer.new.disk c.answer.new.self.session (g.K.Sink.held c.answer.new.sink) c.answer.new.self.starts in
    rw (p.1, p.2) (stops_at_end w m bytes c.args.byte c.args.self.now.line c.in_err-answer.field-0.0 first now c.if-byte-ne10.false stands.line (c.in_err-answer.ensures.leads m (whole_lines bytes) first stands.answered))

pub returns-clause-leads : goal.returns-clause-leads
returns-clause-leads g c = λ m bytes first stands.
    let w = world g.B.Boxes.meanings g.D.Disk.told g.D.Disk.len g.D.Disk.clock g.D.Disk.faults in
    let now = at c.answer.new.disk c.answer.new.self.session (g.K.Sink.held c.answer.new.sink) c.answer.new.self.starts in
    ends_line w m bytes c.args.byte c.args.self.now.line c.truncate.new.self first now c.if-byte-ne10.false stands.line c.truncate.ensures (c.in_ok-answer.ensures.leads m (whole_lines bytes) first stands.answered)
