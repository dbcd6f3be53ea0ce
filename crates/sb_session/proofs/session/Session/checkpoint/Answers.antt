use Rattle.std.proofs.Common.{inl, refl, sym, ◌∙◌}
use Rattle.sb_value.proofs.Truths.{is_some-none}
use Rattle.sb_plain.specs.declared.command.Command.TheVariants as command
use Rattle.sb_txn.specs.Parts.{parts}
use Rattle.sb_transactions.proofs.CallLemmas.{Remains-ok}
use Rattle.sb_transactions.proofs.PointLemmas.{Rests-stays}
use Rattle.sb_session.specs.declared.session.Session.{Session}
use Rattle.sb_session.proofs.Carried.{IsSame-itself}
use Rattle.sb_session.proofs.Commands.{Carried-checkpoint, Carried-misplaced}
use Rattle.sb_session.proofs.WantLemmas.{KeepsWanted-none}
use Rattle.sb_session.proofs.session.Session.checkpoint.Goals as goal

pub returns-then-self-clause-any_moment : goal.returns-then-self-clause-any_moment
returns-then-self-clause-any_moment g c =
    KeepsWanted-none (parts g.D.Disk.told g.D.Disk.len c.args.disk.now c.args.self.now.space.store)

pub returns-then-is_some-clause-ends : goal.returns-then-is_some-clause-ends
returns-then-is_some-clause-ends g c =
    let meanings = g.B.Boxes.meanings in
    let told = g.D.Disk.told in
    let len = g.D.Disk.len in
    let faults = g.D.Disk.faults in
    let x = c.args.self.now in
    let d = c.args.disk.now in
    (Carried-misplaced meanings told len faults d x c.requires.runs c.if-self.false command.Checkpoint x (IsSame-itself meanings x) (λ s inside. inside ∙ sym c.is_some.ensures ∙ c.if-is_some.true)).ends

pub returns-then-is_some-clause-any_moment : goal.returns-then-is_some-clause-any_moment
returns-then-is_some-clause-any_moment g c =
    KeepsWanted-none (parts g.D.Disk.told g.D.Disk.len c.args.disk.now c.args.self.now.space.store)

pub returns-in-Ok-clause-ends : goal.returns-in-Ok-clause-ends
returns-in-Ok-clause-ends g c =
    let meanings = g.B.Boxes.meanings in
    let told = g.D.Disk.told in
    let len = g.D.Disk.len in
    let faults = g.D.Disk.faults in
    let x = c.args.self.now in
    let d = c.args.disk.now in
    let e = c.checkpoint.new.disk in
    let space = c.checkpoint.new.self in
    let y : Session g.row.B.Denot = record { boxes = x.boxes; space = space; place = x.place; opened = x.opened; «open» = x.open; down = x.down } in
    let none = is_some-none x.open (sym c.is_some.ensures ∙ c.if-is_some.false) in
    (Carried-checkpoint meanings told len faults d x c.requires.runs c.if-self.false e y space refl refl refl refl (inl refl)
    (Remains-ok told len faults d e x.space.store space.store c.in-Ok.field-0 tt c.in-Ok.ensures.keeps) none none c.in-Ok.ensures.none
    (λ m root want db rests. Rests-stays m root want db 0 (parts told len d x.space.store) (parts told len e space.store) c.in-Ok.ensures.keeps.geometry c.in-Ok.ensures.pages rests)).ends
