use Rattle.std.proofs.Common.{◌≡◌, ℕ, Bool, List, Option, Some, position, inl, is_some, refl, sym, ap, ◌∙◌}
use Rattle.sb_txn.specs.Parts.{parts}
use Rattle.sb_session.specs.declared.session.Open.{Open}
use Rattle.sb_session.specs.declared.session.Savepoint.{Savepoint}
use Rattle.sb_session.specs.declared.session.Session.{Session}
use Rattle.sb_session.specs.Points.{is_named}
use Rattle.sb_session.proofs.Carried.{SameOpen-put}
use Rattle.sb_session.proofs.Commands.{Carried-not_there, Carried-rollback}
use Rattle.sb_session.proofs.PointLemmas.{place_known}
use Rattle.sb_session.proofs.WantLemmas.{KeepsWanted-none}
use Rattle.sb_session.proofs.session.Session.rollback.Goals as goal

-- the first place at which one passes
first_place : (test : Savepoint → Bool) (xs ys : List Savepoint) (o : Option ℕ) (i : ℕ) → o ≡ position test xs → xs ≡ ys → o ≡ Some i → position test ys ≡ Some i
first_place test xs ys o i is same at = ap (position test) (sym same) ∙ sym is ∙ at

pub returns-then-self-clause-any_moment : goal.returns-then-self-clause-any_moment
returns-then-self-clause-any_moment g c =
    KeepsWanted-none (parts g.D.Disk.told g.D.Disk.len c.args.disk.now c.args.self.now.space.store)

pub returns-in-None-clause-any_moment : goal.returns-in-None-clause-any_moment
returns-in-None-clause-any_moment g c =
    KeepsWanted-none (parts g.D.Disk.told g.D.Disk.len c.args.disk.now c.args.self.now.space.store)

pub returns-in_default-clause-ends : goal.returns-in_default-clause-ends
returns-in_default-clause-ends g c =
    let meanings = g.B.Boxes.meanings in
    let told = g.D.Disk.told in
    let len = g.D.Disk.len in
    let faults = g.D.Disk.faults in
    let x = c.args.self.now in
    let d = c.args.disk.now in
    let y : Session g.row.B.Denot = record { boxes = x.boxes; space = x.space; place = x.place; opened = x.opened; «open» = Some c.in-Some.current; down = x.down } in
    let some : x.open ≡ Some c.in-Some.current = c.in-Some.is in
    (Carried-not_there meanings told len faults d x c.requires.runs c.if-self.false c.args.name.now c.in-Some.current some y
    (record { boxes = refl; space = refl; place = refl; down = refl; opened = SameOpen-put c.in-Some.current c.in-Some.current x.open (Some c.in-Some.current) some refl refl refl; opened_same = refl }) c.no_name.result
    (c.no_name.ensures c.in-Some.current.points.items
    (sym (place_known (is_named c.args.name.now) c.deref.result.now c.in-Some.current.points.items c.point_of.result c.point_of.ensures c.deref.ensures.value) ∙ ap is_some c.in_default.is))).ends

pub returns-in_default-clause-any_moment : goal.returns-in_default-clause-any_moment
returns-in_default-clause-any_moment g c =
    KeepsWanted-none (parts g.D.Disk.told g.D.Disk.len c.args.disk.now c.args.self.now.space.store)

pub returns-in_default-clause-keeps : goal.returns-in_default-clause-keeps
returns-in_default-clause-keeps g c =
    let meanings = g.B.Boxes.meanings in
    let told = g.D.Disk.told in
    let len = g.D.Disk.len in
    let faults = g.D.Disk.faults in
    let x = c.args.self.now in
    let d = c.args.disk.now in
    let y : Session g.row.B.Denot = record { boxes = x.boxes; space = x.space; place = x.place; opened = x.opened; «open» = Some c.in-Some.current; down = x.down } in
    let some : x.open ≡ Some c.in-Some.current = c.in-Some.is in
    (Carried-not_there meanings told len faults d x c.requires.runs c.if-self.false c.args.name.now c.in-Some.current some y
    (record { boxes = refl; space = refl; place = refl; down = refl; opened = SameOpen-put c.in-Some.current c.in-Some.current x.open (Some c.in-Some.current) some refl refl refl; opened_same = refl }) c.no_name.result
    (c.no_name.ensures c.in-Some.current.points.items
    (sym (place_known (is_named c.args.name.now) c.deref.result.now c.in-Some.current.points.items c.point_of.result c.point_of.ensures c.deref.ensures.value) ∙ ap is_some c.in_default.is))).keeps

pub returns-in-Ok-clause-ends : goal.returns-in-Ok-clause-ends
returns-in-Ok-clause-ends g c =
    let meanings = g.B.Boxes.meanings in
    let told = g.D.Disk.told in
    let len = g.D.Disk.len in
    let faults = g.D.Disk.faults in
    let x = c.args.self.now in
    let d = c.args.disk.now in
    let new : Open = record { transaction = c.back_to.new.transaction; points = c.truncate.new.self } in
    let y : Session g.row.B.Denot = record { boxes = x.boxes; space = c.back_to.new.space; place = x.place; opened = x.opened; «open» = Some new; down = x.down } in
    (Carried-rollback meanings told len faults d x c.requires.runs c.if-self.false c.back_to.new.disk y c.back_to.new.space refl refl refl refl (inl refl) c.args.name.now c.in-Some.current new c.in-Some-point_of.i
    c.index.result.now c.index.result.now.point c.in-Some.is refl
    (first_place (is_named c.args.name.now) c.deref.result.now c.in-Some.current.points.items c.point_of.result c.in-Some-point_of.i c.point_of.ensures c.deref.ensures.value c.in-Some-point_of.is) (sym (ap (λ (s : Savepoint). s.point) c.index.ensures))
    c.truncate.ensures.items c.in-Ok.ensures.tx c.in-Ok.ensures.back c.in-Ok.ensures.earlier c.in-Ok.ensures.stand c.in-Ok.ensures.begun c.in-Ok.ensures.usable c.in-Ok.ensures.spent c.in-Ok.ensures.remains).ends

pub returns-in-Ok-clause-runs : goal.returns-in-Ok-clause-runs
returns-in-Ok-clause-runs g c =
    let meanings = g.B.Boxes.meanings in
    let told = g.D.Disk.told in
    let len = g.D.Disk.len in
    let faults = g.D.Disk.faults in
    let x = c.args.self.now in
    let d = c.args.disk.now in
    let new : Open = record { transaction = c.back_to.new.transaction; points = c.truncate.new.self } in
    let y : Session g.row.B.Denot = record { boxes = x.boxes; space = c.back_to.new.space; place = x.place; opened = x.opened; «open» = Some new; down = x.down } in
    (Carried-rollback meanings told len faults d x c.requires.runs c.if-self.false c.back_to.new.disk y c.back_to.new.space refl refl refl refl (inl refl) c.args.name.now c.in-Some.current new c.in-Some-point_of.i
    c.index.result.now c.index.result.now.point c.in-Some.is refl
    (first_place (is_named c.args.name.now) c.deref.result.now c.in-Some.current.points.items c.point_of.result c.in-Some-point_of.i c.point_of.ensures c.deref.ensures.value c.in-Some-point_of.is) (sym (ap (λ (s : Savepoint). s.point) c.index.ensures))
    c.truncate.ensures.items c.in-Ok.ensures.tx c.in-Ok.ensures.back c.in-Ok.ensures.earlier c.in-Ok.ensures.stand c.in-Ok.ensures.begun c.in-Ok.ensures.usable c.in-Ok.ensures.spent c.in-Ok.ensures.remains).runs
