use Rattle.std.proofs.Common.{Some, refl, sym, ◌∙◌}
use Rattle.sb_session.specs.declared.session.Session.{Session}
use Rattle.sb_session.proofs.Commands.{Carried-saved}
use Rattle.sb_session.proofs.session.Session.savepoint.Goals as goal

pub returns-clause-ends : goal.returns-clause-ends
returns-clause-ends g c =
    let meanings = g.B.Boxes.meanings in
    let told = g.D.Disk.told in
    let len = g.D.Disk.len in
    let faults = g.D.Disk.faults in
    let x = c.args.self.now in
    let d = c.args.disk.now in
    let y : Session g.row.B.Denot = record { boxes = x.boxes; space = x.space; place = x.place; opened = x.opened; «open» = Some c.save-saved.new.current; down = x.down } in
    (Carried-saved meanings told len faults d x c.requires.runs c.if-self.false c.args.name.now c.in-Some.current c.save-saved.new.current y (sym c.take.ensures.value ∙ c.in-Some.is) refl refl refl refl refl refl
    c.save-saved.ensures.transaction c.save-saved.result c.save-saved.ensures.saved c.save-saved.ensures.refused c.save-saved.ensures.same).ends

pub returns-clause-runs : goal.returns-clause-runs
returns-clause-runs g c =
    let meanings = g.B.Boxes.meanings in
    let told = g.D.Disk.told in
    let len = g.D.Disk.len in
    let faults = g.D.Disk.faults in
    let x = c.args.self.now in
    let d = c.args.disk.now in
    let y : Session g.row.B.Denot = record { boxes = x.boxes; space = x.space; place = x.place; opened = x.opened; «open» = Some c.save-saved.new.current; down = x.down } in
    (Carried-saved meanings told len faults d x c.requires.runs c.if-self.false c.args.name.now c.in-Some.current c.save-saved.new.current y (sym c.take.ensures.value ∙ c.in-Some.is) refl refl refl refl refl refl
    c.save-saved.ensures.transaction c.save-saved.result c.save-saved.ensures.saved c.save-saved.ensures.refused c.save-saved.ensures.same).runs
