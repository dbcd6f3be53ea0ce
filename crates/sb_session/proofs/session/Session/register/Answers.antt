use Rattle.std.proofs.Common.{Bool, refl, sym, ◌∙◌, subst}
use Rattle.sb_value.proofs.Truths.{is_some-none}
use Rattle.sb_plain.specs.declared.command.Command.TheVariants as command
use Rattle.sb_session.specs.declared.session.Session.{Session}
use Rattle.sb_vectors.specs.Vectors.{Registers}
use Rattle.sb_session.proofs.Carried.{IsSame-itself}
use Rattle.sb_session.proofs.Commands.{Carried-misplaced}
use Rattle.sb_session.proofs.Moves.{Carried-not_spare, register-step}
use Rattle.sb_session.proofs.SameBoxes.{registered-same}
use Rattle.sb_session.proofs.session.Session.register.Goals as goal

pub returns-then-is_some-clause-ends : goal.returns-then-is_some-clause-ends
returns-then-is_some-clause-ends g c =
    let meanings = g.B.Boxes.meanings in
    let told = g.D.Disk.told in
    let len = g.D.Disk.len in
    let faults = g.D.Disk.faults in
    let x = c.args.self.now in
    let d = c.args.disk.now in
    (Carried-misplaced meanings told len faults d x c.requires.runs c.if-self.false (command.Register c.args.method c.args.code) x (IsSame-itself meanings x) (λ s inside. inside ∙ sym c.is_some.ensures ∙ c.if-is_some.true)).ends

pub returns-in-Ok-true-clause-ends : goal.returns-in-Ok-true-clause-ends
returns-in-Ok-true-clause-ends g c =
    let meanings = g.B.Boxes.meanings in
    let told = g.D.Disk.told in
    let len = g.D.Disk.len in
    let faults = g.D.Disk.faults in
    let x = c.args.self.now in
    let d = c.args.disk.now in
    let y : Session g.row.B.Denot = record { boxes = c.register.new.self; space = x.space; place = x.place; opened = c.clear.new.self; «open» = x.open; down = x.down } in
    let none = is_some-none x.open (sym c.is_some.ensures ∙ c.if-is_some.false) in
    register-step meanings told len faults d x y c.requires.runs c.if-self.false none refl refl refl refl c.args.method c.args.code c.clear.ensures.items c.in-Ok-true.ensures.unique (subst (λ (b : Bool). Registers c.args.method c.args.code b (meanings x.boxes) (meanings c.register.new.self)) c.in-Ok-true.field-0-test c.in-Ok-true.ensures.ok)

pub returns-in-Ok-false-clause-ends : goal.returns-in-Ok-false-clause-ends
returns-in-Ok-false-clause-ends g c =
    let meanings = g.B.Boxes.meanings in
    let told = g.D.Disk.told in
    let len = g.D.Disk.len in
    let faults = g.D.Disk.faults in
    let x = c.args.self.now in
    let d = c.args.disk.now in
    let y : Session g.row.B.Denot = record { boxes = c.register.new.self; space = x.space; place = x.place; opened = x.opened; «open» = x.open; down = x.down } in
    let none = is_some-none x.open (sym c.is_some.ensures ∙ c.if-is_some.false) in
    (Carried-not_spare meanings told len faults d x y c.requires.runs c.if-self.false none refl refl refl refl c.args.method c.args.code refl (subst (λ (b : Bool). Registers c.args.method c.args.code b (meanings x.boxes) (meanings c.register.new.self)) c.in-Ok-false.field-0-test c.in-Ok-false.ensures.ok)).ends

pub returns-in-Ok-true-clause-same : goal.returns-in-Ok-true-clause-same
returns-in-Ok-true-clause-same g c =
    let meanings = g.B.Boxes.meanings in
    registered-same c.args.method c.in-Ok-true.field-0 c.args.code (meanings c.args.self.now.boxes) (meanings c.register.new.self) c.requires.runs.unique c.in-Ok-true.ensures.unique c.in-Ok-true.ensures.ok

pub returns-in-Ok-false-clause-same : goal.returns-in-Ok-false-clause-same
returns-in-Ok-false-clause-same g c =
    let meanings = g.B.Boxes.meanings in
    registered-same c.args.method c.in-Ok-false.field-0 c.args.code (meanings c.args.self.now.boxes) (meanings c.register.new.self) c.requires.runs.unique c.in-Ok-false.ensures.unique c.in-Ok-false.ensures.ok
