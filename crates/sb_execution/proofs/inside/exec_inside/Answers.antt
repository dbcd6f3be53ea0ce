use Rattle.std.proofs.Common.{◌≡◌, Option, Some, sym, ◌∙◌, subst}
use Rattle.sb_txn.specs.Parts.{parts}
use Rattle.sb_session.specs.declared.session.Open.{Open}
use Rattle.sb_session.specs.Sessions.{CanGoOn}
use Rattle.sb_execution.proofs.SessionLemmas.{ends_inside, keeps_session, leaves_session, room_within, runs_inside}
use Rattle.sb_execution.proofs.inside.exec_inside.Goals as goal

pub work_inside-result-requires-clause-goes : goal.work_inside-result-requires-clause-goes
work_inside-result-requires-clause-goes g c =
    let x = c.args.session.now in
    let some : x.open ≡ Some c.in-Some.current = sym c.take.ensures.value ∙ c.in-Some.is in
    subst (λ (o : Option Open). CanGoOn (g.B.Boxes.meanings x.boxes) x.place (parts g.D.Disk.told g.D.Disk.len c.args.disk.now x.space.store) o) some (c.requires.runs.goes c.requires.up)

pub returns-clause-ends : goal.returns-clause-ends
returns-clause-ends g c =
    let x = c.args.session.now in
    let some : x.open ≡ Some c.in-Some.current = sym c.take.ensures.value ∙ c.in-Some.is in
    ends_inside g.B.Boxes.meanings g.D.Disk.told g.D.Disk.len g.D.Disk.faults c.args.command.now c.args.disk.now c.work_inside-result.new.disk x c.told.new.session c.requires.runs c.requires.up
    c.work_inside-result.new.space c.told.ensures.space c.told.ensures.boxes c.told.ensures.place c.work_inside-result.result c.told.result c.told.ensures.reply c.told.ensures.down
    c.work_inside-result.ensures.remains c.in-Some.current c.work_inside-result.new.current some c.told.ensures.current (λ i. (c.told.ensures.opened i).items) c.work_inside-result.ensures

pub returns-clause-room : goal.returns-clause-room
returns-clause-room g c =
    let x = c.args.session.now in
    let some : x.open ≡ Some c.in-Some.current = sym c.take.ensures.value ∙ c.in-Some.is in
    room_within g.B.Boxes.meanings g.D.Disk.told g.D.Disk.len g.D.Disk.faults c.args.command.now c.args.disk.now c.work_inside-result.new.disk x c.told.new.session c.requires.runs c.requires.up
    c.work_inside-result.new.space c.told.ensures.space c.told.ensures.boxes c.told.ensures.place c.work_inside-result.result c.told.result c.told.ensures.reply c.told.ensures.down
    c.work_inside-result.ensures.remains c.in-Some.current c.work_inside-result.new.current some c.told.ensures.current (λ i. (c.told.ensures.opened i).items) c.work_inside-result.ensures

pub returns-clause-any_moment : goal.returns-clause-any_moment
returns-clause-any_moment g c =
    let x = c.args.session.now in
    leaves_session g.B.Boxes.meanings g.D.Disk.told g.D.Disk.len g.D.Disk.faults c.args.command.now c.args.disk.now c.work_inside-result.new.disk x c.told.new.session c.requires.runs c.requires.up
    c.work_inside-result.new.space c.told.ensures.space c.told.ensures.boxes c.told.ensures.place c.work_inside-result.result c.told.result c.told.ensures.reply c.told.ensures.down
    c.work_inside-result.ensures.leaves

pub returns-clause-keeps : goal.returns-clause-keeps
returns-clause-keeps g c =
    let x = c.args.session.now in
    keeps_session g.B.Boxes.meanings g.D.Disk.told g.D.Disk.len g.D.Disk.faults c.args.command.now c.args.disk.now c.work_inside-result.new.disk x c.told.new.session c.requires.runs c.requires.up
    c.work_inside-result.new.space c.told.ensures.space c.told.ensures.boxes c.told.ensures.place c.work_inside-result.result c.told.result c.told.ensures.reply c.told.ensures.down
    c.work_inside-result.ensures.remains c.work_inside-result.ensures.fault

pub returns-clause-runs : goal.returns-clause-runs
returns-clause-runs g c =
    let x = c.args.session.now in
    let some : x.open ≡ Some c.in-Some.current = sym c.take.ensures.value ∙ c.in-Some.is in
    runs_inside g.B.Boxes.meanings g.D.Disk.told g.D.Disk.len g.D.Disk.faults c.args.command.now c.args.disk.now c.work_inside-result.new.disk x c.told.new.session c.requires.runs c.requires.up
    c.work_inside-result.new.space c.told.ensures.space c.told.ensures.boxes c.told.ensures.place c.work_inside-result.result c.told.result c.told.ensures.reply c.told.ensures.down
    c.work_inside-result.ensures.remains c.in-Some.current c.work_inside-result.new.current some c.told.ensures.current (λ i. (c.told.ensures.opened i).items) c.work_inside-result.ensures
