use Rattle.std.proofs.Common.{sym, subst}
use Rattle.std.proofs.lemmas.Result.{IfErr-weaker, IfOk-weaker}
use Rattle.sb_drive.specs.declared.space.SpaceFault.{SpaceFault}
use Rattle.sb_fold.specs.Wishes.{Adds, Takes, Turns}
use Rattle.sb_relation.specs.Db.{Relation}
use Rattle.sb_drive.specs.Slots.{Slots}
use Rattle.sb_drive.specs.Spaces.{Wanted}
use Rattle.sb_standing.specs.Lacking.{WhereShort}
use Rattle.sb_standing.specs.Live.{HasRows}
use Rattle.sb_wishes.specs.Outcomes.{Begins, LacksPage}
use Rattle.sb_wishes.specs.declared.settling.Edit as code
use Rattle.sb_wishes.specs.declared.settling.Outcome.{Outcome}
use Rattle.sb_wishes.specs.Edits.{IsEditOf, edit_in, settled}
use Rattle.sb_wishes.proofs.CarriedLemmas.{BeginsOf, BeginsOfAll, ComesOf, ComesOfAll, LacksOf, LacksOfAll}
use Rattle.sb_wishes.proofs.settling.settle.Goals as goal

pub returns-in-Adds-clause-comes : goal.returns-in-Adds-clause-comes
returns-in-Adds-clause-comes g c =
    let m = g.B.Boxes.meanings c.args.boxes.now in
    let name = c.args.table.now.relation in
    IfOk-weaker {X = Outcome} {Y = SpaceFault} c.add.result
    (λ out. ComesOfAll g.S.PageSpace.has g.S.PageSpace.leads m c.args.table.now c.args.rules.now c.args.space.now c.add.new.space (λ r. settled name r (Adds c.in-Adds.new)) out)
    (λ out. ComesOf g.S.PageSpace.has g.S.PageSpace.leads m c.args.table.now c.args.rules.now c.args.space.now c.add.new.space (λ r. IsEditOf r.rows (edit_in c.args.edit)) (λ r. settled name r (edit_in c.args.edit)) out)
    (λ out comes.
    subst (λ (e : code.Edit). ComesOf g.S.PageSpace.has g.S.PageSpace.leads m c.args.table.now c.args.rules.now c.args.space.now c.add.new.space (λ r. IsEditOf r.rows (edit_in e)) (λ r. settled name r (edit_in e)) out)
    (sym c.in-Adds.is) (λ want s r has t h there. comes want s r has t h))
    c.add.ensures.comes

pub returns-in-Turns-clause-comes : goal.returns-in-Turns-clause-comes
returns-in-Turns-clause-comes g c =
    let m = g.B.Boxes.meanings c.args.boxes.now in
    let name = c.args.table.now.relation in
    IfOk-weaker {X = Outcome} {Y = SpaceFault} c.turn.result
    (λ out. ComesOf g.S.PageSpace.has g.S.PageSpace.leads m c.args.table.now c.args.rules.now c.args.space.now c.turn.new.space (λ r. IsEditOf r.rows (Turns c.in-Turns.key c.in-Turns.old c.in-Turns.new)) (λ r. settled name r (Turns c.in-Turns.key c.in-Turns.old c.in-Turns.new)) out)
    (λ out. ComesOf g.S.PageSpace.has g.S.PageSpace.leads m c.args.table.now c.args.rules.now c.args.space.now c.turn.new.space (λ r. IsEditOf r.rows (edit_in c.args.edit)) (λ r. settled name r (edit_in c.args.edit)) out)
    (λ out comes.
    subst (λ (e : code.Edit). ComesOf g.S.PageSpace.has g.S.PageSpace.leads m c.args.table.now c.args.rules.now c.args.space.now c.turn.new.space (λ r. IsEditOf r.rows (edit_in e)) (λ r. settled name r (edit_in e)) out)
    (sym c.in-Turns.is) comes)
    c.turn.ensures.comes

pub returns-in-Adds-clause-full : goal.returns-in-Adds-clause-full
returns-in-Adds-clause-full g c =
    let m = g.B.Boxes.meanings c.args.boxes.now in
    let name = c.args.table.now.relation in
    IfErr-weaker {T = Outcome} {E = SpaceFault} c.add.result
    (λ e. LacksOfAll g.S.PageSpace.has g.S.PageSpace.leads m c.args.table.now c.args.rules.now c.args.space.now c.add.new.space (λ r. settled name r (Adds c.in-Adds.new)) e)
    (λ e. LacksOf g.S.PageSpace.has g.S.PageSpace.leads m c.args.table.now c.args.rules.now c.args.space.now c.add.new.space (λ r. IsEditOf r.rows (edit_in c.args.edit)) (λ r. settled name r (edit_in c.args.edit)) e)
    (λ e full.
    subst (λ (x : code.Edit). LacksOf g.S.PageSpace.has g.S.PageSpace.leads m c.args.table.now c.args.rules.now c.args.space.now c.add.new.space (λ r. IsEditOf r.rows (edit_in x)) (λ r. settled name r (edit_in x)) e)
    (sym c.in-Adds.is) (λ want s r has t h there. full want s r has t h))
    c.add.ensures.full

pub returns-in-Takes-clause-full : goal.returns-in-Takes-clause-full
returns-in-Takes-clause-full g c =
    let m = g.B.Boxes.meanings c.args.boxes.now in
    let name = c.args.table.now.relation in
    IfErr-weaker {T = Outcome} {E = SpaceFault} c.take.result
    (λ e. (want : Wanted) (s : Slots) (r : Relation) → g.S.PageSpace.has want s c.args.space.now → (has : HasRows m s c.args.table.now r.rows) → IsEditOf r.rows (Takes c.in-Takes.key c.in-Takes.old) → WhereShort e (LacksPage g.S.PageSpace.leads m s c.args.table.now r has (settled name r (Takes c.in-Takes.key c.in-Takes.old)) c.args.space.now c.take.new.space))
    (λ e. LacksOf g.S.PageSpace.has g.S.PageSpace.leads m c.args.table.now c.args.rules.now c.args.space.now c.take.new.space (λ r. IsEditOf r.rows (edit_in c.args.edit)) (λ r. settled name r (edit_in c.args.edit)) e)
    (λ e full.
    subst (λ (x : code.Edit). LacksOf g.S.PageSpace.has g.S.PageSpace.leads m c.args.table.now c.args.rules.now c.args.space.now c.take.new.space (λ r. IsEditOf r.rows (edit_in x)) (λ r. settled name r (edit_in x)) e)
    (sym c.in-Takes.is) (λ want s r has t h there. full want s r has h there))
    c.take.ensures.full

pub returns-in-Turns-clause-full : goal.returns-in-Turns-clause-full
returns-in-Turns-clause-full g c =
    let m = g.B.Boxes.meanings c.args.boxes.now in
    let name = c.args.table.now.relation in
    IfErr-weaker {T = Outcome} {E = SpaceFault} c.turn.result
    (λ e. LacksOf g.S.PageSpace.has g.S.PageSpace.leads m c.args.table.now c.args.rules.now c.args.space.now c.turn.new.space (λ r. IsEditOf r.rows (Turns c.in-Turns.key c.in-Turns.old c.in-Turns.new)) (λ r. settled name r (Turns c.in-Turns.key c.in-Turns.old c.in-Turns.new)) e)
    (λ e. LacksOf g.S.PageSpace.has g.S.PageSpace.leads m c.args.table.now c.args.rules.now c.args.space.now c.turn.new.space (λ r. IsEditOf r.rows (edit_in c.args.edit)) (λ r. settled name r (edit_in c.args.edit)) e)
    (λ e full.
    subst (λ (x : code.Edit). LacksOf g.S.PageSpace.has g.S.PageSpace.leads m c.args.table.now c.args.rules.now c.args.space.now c.turn.new.space (λ r. IsEditOf r.rows (edit_in x)) (λ r. settled name r (edit_in x)) e)
    (sym c.in-Turns.is) full)
    c.turn.ensures.full

pub returns-in-Adds-clause-begins : goal.returns-in-Adds-clause-begins
returns-in-Adds-clause-begins g c =
    let m = g.B.Boxes.meanings c.args.boxes.now in
    let name = c.args.table.now.relation in
    IfErr-weaker {T = Outcome} {E = SpaceFault} c.add.result
    (λ e. BeginsOfAll g.S.PageSpace.has g.S.PageSpace.leads m c.args.table.now c.args.rules.now c.args.space.now c.add.new.space (λ r. settled name r (Adds c.in-Adds.new)))
    (λ e. BeginsOf g.S.PageSpace.has g.S.PageSpace.leads m c.args.table.now c.args.rules.now c.args.space.now c.add.new.space (λ r. IsEditOf r.rows (edit_in c.args.edit)) (λ r. settled name r (edit_in c.args.edit)))
    (λ e begins.
    subst (λ (x : code.Edit). BeginsOf g.S.PageSpace.has g.S.PageSpace.leads m c.args.table.now c.args.rules.now c.args.space.now c.add.new.space (λ r. IsEditOf r.rows (edit_in x)) (λ r. settled name r (edit_in x)))
    (sym c.in-Adds.is) (λ want s r has t h there. begins want s r has t h))
    c.add.ensures.begins

pub returns-in-Takes-clause-begins : goal.returns-in-Takes-clause-begins
returns-in-Takes-clause-begins g c =
    let m = g.B.Boxes.meanings c.args.boxes.now in
    let name = c.args.table.now.relation in
    let edit = Takes c.in-Takes.key c.in-Takes.old in
    IfErr-weaker {T = Outcome} {E = SpaceFault} c.take.result
    (λ e. (want : Wanted) (s : Slots) (r : Relation) → g.S.PageSpace.has want s c.args.space.now → (has : HasRows m s c.args.table.now r.rows) → IsEditOf r.rows edit → Begins g.S.PageSpace.leads m s c.args.table.now r has (settled name r edit) c.args.space.now c.take.new.space)
    (λ e. BeginsOf g.S.PageSpace.has g.S.PageSpace.leads m c.args.table.now c.args.rules.now c.args.space.now c.take.new.space (λ r. IsEditOf r.rows (edit_in c.args.edit)) (λ r. settled name r (edit_in c.args.edit)))
    (λ e begins.
    subst (λ (x : code.Edit). BeginsOf g.S.PageSpace.has g.S.PageSpace.leads m c.args.table.now c.args.rules.now c.args.space.now c.take.new.space (λ r. IsEditOf r.rows (edit_in x)) (λ r. settled name r (edit_in x)))
    (sym c.in-Takes.is) (λ want s r has t h there. begins want s r has h there))
    c.take.ensures.begins

pub returns-in-Turns-clause-begins : goal.returns-in-Turns-clause-begins
returns-in-Turns-clause-begins g c =
    let m = g.B.Boxes.meanings c.args.boxes.now in
    let name = c.args.table.now.relation in
    let edit = Turns c.in-Turns.key c.in-Turns.old c.in-Turns.new in
    IfErr-weaker {T = Outcome} {E = SpaceFault} c.turn.result
    (λ e. BeginsOf g.S.PageSpace.has g.S.PageSpace.leads m c.args.table.now c.args.rules.now c.args.space.now c.turn.new.space (λ r. IsEditOf r.rows edit) (λ r. settled name r edit))
    (λ e. BeginsOf g.S.PageSpace.has g.S.PageSpace.leads m c.args.table.now c.args.rules.now c.args.space.now c.turn.new.space (λ r. IsEditOf r.rows (edit_in c.args.edit)) (λ r. settled name r (edit_in c.args.edit)))
    (λ e begins.
    subst (λ (x : code.Edit). BeginsOf g.S.PageSpace.has g.S.PageSpace.leads m c.args.table.now c.args.rules.now c.args.space.now c.turn.new.space (λ r. IsEditOf r.rows (edit_in x)) (λ r. settled name r (edit_in x)))
    (sym c.in-Turns.is) begins)
    c.turn.ensures.begins
