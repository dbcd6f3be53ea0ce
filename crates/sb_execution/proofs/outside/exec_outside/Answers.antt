use Rattle.std.proofs.Common.{false, Option, sym, ap, ◌∙◌, subst}
use Rattle.sb_txn.specs.Parts.{parts}
use Rattle.sb_session.specs.declared.session.Open.{Open}
use Rattle.sb_session.specs.Sessions.{CanGoOn}
use Rattle.sb_execution.proofs.SessionLemmas.{ends_alone, keeps_session, leaves_session, room_outside, runs_alone}
use Rattle.sb_plain.specs.declared.reply.Reply.{Reply}
use Rattle.sb_execution.specs.Serving.{may_have_committed}
use Rattle.sb_execution.proofs.outside.exec_outside.Goals as goal

pub work_outside-result-requires-clause-none : goal.work_outside-result-requires-clause-none
work_outside-result-requires-clause-none g c =
    let x = c.args.session.now in
    subst (λ (o : Option Open). CanGoOn (g.B.Boxes.meanings x.boxes) x.place (parts g.D.Disk.told g.D.Disk.len c.args.disk.now x.space.store) o) c.requires.none (c.requires.runs.goes c.requires.up)

pub returns-clause-ends : goal.returns-clause-ends
returns-clause-ends g c =
    let x = c.args.session.now in
    ends_alone g.B.Boxes.meanings g.D.Disk.told g.D.Disk.len g.D.Disk.faults c.args.command.now c.args.disk.now c.work_outside-result.new.disk x c.told.new.session c.requires.runs c.requires.up
    c.work_outside-result.new.space c.told.ensures.space c.told.ensures.boxes c.told.ensures.place c.work_outside-result.result c.told.result c.told.ensures.reply c.told.ensures.down
    c.work_outside-result.ensures.ended.remains c.requires.none (c.told.ensures.current ∙ c.requires.none) c.work_outside-result.new.opened.items (λ i. (c.told.ensures.opened i).items) c.work_outside-result.ensures.ended

pub returns-clause-room : goal.returns-clause-room
returns-clause-room g c =
    let x = c.args.session.now in
    room_outside g.B.Boxes.meanings g.D.Disk.told g.D.Disk.len g.D.Disk.faults c.args.command.now c.args.disk.now c.work_outside-result.new.disk x c.told.new.session c.requires.runs c.requires.up
    c.work_outside-result.new.space c.told.ensures.space c.told.ensures.boxes c.told.ensures.place c.work_outside-result.result c.told.result c.told.ensures.reply c.told.ensures.down
    c.work_outside-result.ensures.ended.remains c.requires.none (c.told.ensures.current ∙ c.requires.none) c.work_outside-result.new.opened.items (λ i. (c.told.ensures.opened i).items) c.work_outside-result.ensures.ended

pub returns-clause-keeps : goal.returns-clause-keeps
returns-clause-keeps g c =
    let x = c.args.session.now in
    keeps_session g.B.Boxes.meanings g.D.Disk.told g.D.Disk.len g.D.Disk.faults c.args.command.now c.args.disk.now c.work_outside-result.new.disk x c.told.new.session c.requires.runs c.requires.up
    c.work_outside-result.new.space c.told.ensures.space c.told.ensures.boxes c.told.ensures.place c.work_outside-result.result c.told.result c.told.ensures.reply c.told.ensures.down
    c.work_outside-result.ensures.ended.remains c.work_outside-result.ensures.ended.fault

pub returns-clause-runs : goal.returns-clause-runs
returns-clause-runs g c =
    let x = c.args.session.now in
    runs_alone g.B.Boxes.meanings g.D.Disk.told g.D.Disk.len g.D.Disk.faults c.args.command.now c.args.disk.now c.work_outside-result.new.disk x c.told.new.session c.requires.runs c.requires.up
    c.work_outside-result.new.space c.told.ensures.space c.told.ensures.boxes c.told.ensures.place c.work_outside-result.result c.told.result c.told.ensures.reply c.told.ensures.down
    c.work_outside-result.ensures.ended.remains c.requires.none (c.told.ensures.current ∙ c.requires.none) c.work_outside-result.new.opened.items (λ i. (c.told.ensures.opened i).items) c.work_outside-result.ensures.ended
    c.work_outside-result.ensures.are_open

pub returns-clause-leaves : goal.returns-clause-leaves
returns-clause-leaves g c = λ never.
    let x = c.args.session.now in
    leaves_session g.B.Boxes.meanings g.D.Disk.told g.D.Disk.len g.D.Disk.faults c.args.command.now c.args.disk.now c.work_outside-result.new.disk x c.told.new.session c.requires.runs c.requires.up
    c.work_outside-result.new.space c.told.ensures.space c.told.ensures.boxes c.told.ensures.place c.work_outside-result.result c.told.result c.told.ensures.reply c.told.ensures.down
    (c.work_outside-result.ensures.ended.leaves
    (sym (ap (λ (r : Reply). may_have_committed c.args.command.now false r) c.told.ensures.reply) ∙ never))
