use Rattle.std.proofs.Common.{inl, refl, sym, ◌∙◌}
use Rattle.sb_txn.specs.Parts.{parts}
use Rattle.sb_session.specs.declared.session.Session.{Session}
use Rattle.sb_session.proofs.Commands.{Carried-abort}
use Rattle.sb_session.proofs.WantLemmas.{KeepsWanted-none}
use Rattle.sb_session.proofs.session.Session.abort.Goals as goal

pub returns-then-self-clause-any_moment : goal.returns-then-self-clause-any_moment
returns-then-self-clause-any_moment g c =
    KeepsWanted-none (parts g.D.Disk.told g.D.Disk.len c.args.disk.now c.args.self.now.space.store)

pub returns-in_default-clause-any_moment : goal.returns-in_default-clause-any_moment
returns-in_default-clause-any_moment g c =
    KeepsWanted-none (parts g.D.Disk.told g.D.Disk.len c.args.disk.now c.args.self.now.space.store)

pub returns-in-Ok-clause-ends : goal.returns-in-Ok-clause-ends
returns-in-Ok-clause-ends g c =
    let meanings = g.B.Boxes.meanings in
    let told = g.D.Disk.told in
    let len = g.D.Disk.len in
    let faults = g.D.Disk.faults in
    let x = c.args.self.now in
    let d = c.args.disk.now in
    let y : Session g.row.B.Denot = record { boxes = x.boxes; space = c.abort.new.space; place = x.place; opened = x.opened; «open» = c.take.new.self; down = x.down } in
    (Carried-abort meanings told len faults d x c.requires.runs c.if-self.false c.abort.new.disk y c.abort.new.space refl refl refl refl (inl refl) c.in-Some.current c.in-Ok.ensures.remains (sym c.take.ensures.value ∙ c.in-Some.is)
    c.take.ensures.after c.in-Ok.ensures.none c.in-Ok.ensures.rests).ends
