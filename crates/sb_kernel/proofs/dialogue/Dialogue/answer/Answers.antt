use Rattle.std.proofs.Common.{[], ◌∷◌, refl}
use Rattle.std.proofs.lemmas.Result.{err_from_is_err_and}
use Rattle.sb_plain.specs.Text.{reply_text}
use Rattle.sb_kernel.specs.World.{at, world}
use Rattle.sb_kernel.proofs.Answered.{IsAnswered, is_answered, Given-alone, GivenFront-alone, stops_unread, stops_unprinted, stops_at_sink, leads_on}
use Rattle.sb_kernel.proofs.dialogue.Dialogue.answer.Goals as goal

pub returns-in_err-reply-clause-leads : goal.returns-in_err-reply-clause-leads
returns-in_err-reply-clause-leads g c = λ m lines first answered.
    let p = err_from_is_err_and c.from_residual.result c.from_residual.ensures.1 in
    let w = world g.B.Boxes.meanings g.D.Disk.told g.D.Disk.len g.D.Disk.clock g.D.Disk.faults in
    let same = c.in_err-reply.ensures.unread in
    rw (p.1, p.2) (stops_unread w m lines (c.args.self.now.line ∷ []) first c.args.disk.now c.answer_line.new.disk c.args.self.now.session c.answer_line.new.session (g.K.Sink.held c.args.sink.now) c.args.self.now.starts c.answer_line.new.starts same.1 same.0 same.2 answered)

pub returns-in_err-print_reply-clause-leads : goal.returns-in_err-print_reply-clause-leads
returns-in_err-print_reply-clause-leads g c = λ m lines first answered.
    let p = err_from_is_err_and c.from_residual-in_err-print_reply.result c.from_residual-in_err-print_reply.ensures.1 in
    let w = world g.B.Boxes.meanings g.D.Disk.told g.D.Disk.len g.D.Disk.clock g.D.Disk.faults in
    let line = c.args.self.now.line in
    let reply = c.in_ok-reply.reply in
    let old = at c.args.disk.now c.args.self.now.session (g.K.Sink.held c.args.sink.now) c.args.self.now.starts in
    let now = at c.answer_line.new.disk c.answer_line.new.session (g.K.Sink.held c.args.sink.now) c.answer_line.new.starts in
    let one : IsAnswered w line reply old now =
    is_answered w line c.as_slice.result.now c.content-line.result.now c.asks.result reply old now c.as_slice.ensures c.content-line.ensures c.asks.ensures c.if-not-asks.false c.requires.up (c.requires.runs.up c.requires.up) c.in_ok-reply.ensures.begun c.in_ok-reply.ensures.keeps.later c.in_ok-reply.ensures.replied in
    rw (p.1, p.2) (stops_unprinted w g.met.D.Disk.fits m lines line reply first old now one refl answered)

pub returns-in_err-write_all-clause-leads : goal.returns-in_err-write_all-clause-leads
returns-in_err-write_all-clause-leads g c = λ m lines first answered.
    let p = err_from_is_err_and c.from_residual-in_err-write_all.result c.from_residual-in_err-write_all.ensures.1 in
    let w = world g.B.Boxes.meanings g.D.Disk.told g.D.Disk.len g.D.Disk.clock g.D.Disk.faults in
    let line = c.args.self.now.line in
    let reply = c.in_ok-reply.reply in
    let old = at c.args.disk.now c.args.self.now.session (g.K.Sink.held c.args.sink.now) c.args.self.now.starts in
    let now = at c.answer_line.new.disk c.answer_line.new.session (g.K.Sink.held c.write_all.new.sink) c.answer_line.new.starts in
    let one : IsAnswered w line reply old now =
    is_answered w line c.as_slice.result.now c.content-line.result.now c.asks.result reply old now c.as_slice.ensures c.content-line.ensures c.asks.ensures c.if-not-asks.false c.requires.up (c.requires.runs.up c.requires.up) c.in_ok-reply.ensures.begun c.in_ok-reply.ensures.keeps.later c.in_ok-reply.ensures.replied in
    let given = GivenFront-alone old.held now.held c.as_slice-2.result.now c.print_reply.new.out c.truncate.new.self (reply_text reply) c.as_slice-2.ensures c.in_ok-print_reply.ensures.ok c.truncate.ensures c.in_err-write_all.ensures.wrote in
    rw (p.1, p.2) (stops_at_sink w g.met.D.Disk.fits m lines line reply first old now one given answered)

pub returns-clause-leads : goal.returns-clause-leads
returns-clause-leads g c = λ m lines first answered.
    let w = world g.B.Boxes.meanings g.D.Disk.told g.D.Disk.len g.D.Disk.clock g.D.Disk.faults in
    let line = c.args.self.now.line in
    let reply = c.in_ok-reply.reply in
    let old = at c.args.disk.now c.args.self.now.session (g.K.Sink.held c.args.sink.now) c.args.self.now.starts in
    let now = at c.answer_line.new.disk c.answer_line.new.session (g.K.Sink.held c.write_all.new.sink) c.answer_line.new.starts in
    let one : IsAnswered w line reply old now =
    is_answered w line c.as_slice.result.now c.content-line.result.now c.asks.result reply old now c.as_slice.ensures c.content-line.ensures c.asks.ensures c.if-not-asks.false c.requires.up (c.requires.runs.up c.requires.up) c.in_ok-reply.ensures.begun c.in_ok-reply.ensures.keeps.later c.in_ok-reply.ensures.replied in
    let given = Given-alone old.held now.held c.as_slice-2.result.now c.print_reply.new.out c.truncate.new.self (reply_text reply) c.as_slice-2.ensures c.in_ok-print_reply.ensures.ok c.truncate.ensures c.in_ok-write_all.ensures.wrote in
    leads_on w g.met.D.Disk.fits m lines line reply c.goes_on.result first old now c.goes_on.ensures one given answered
