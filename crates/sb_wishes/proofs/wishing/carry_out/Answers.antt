use Rattle.std.proofs.Common.{◌≡◌, inl, IfOk, Option, Result, subst}
use Rattle.std.proofs.lemmas.Result.{IfOk-weaker, IfErr-weaker}
use Rattle.sb_cascade.specs.Wishes.{wish_of}
use Rattle.sb_relation.specs.Db.{Row, Rows}
use Rattle.sb_fold.specs.Wishes.{edit_of, wished}
use Rattle.sb_drive.specs.declared.space.SpaceFault.{SpaceFault}
use Rattle.sb_drive.specs.Slots.{Slots}
use Rattle.sb_drive.specs.Spaces.{Wanted}
use Rattle.sb_registry.specs.Runs.{IsSound}
use Rattle.sb_standing.specs.Live.{HasRows}
use Rattle.sb_fold.specs.declared.refusal.Refusal.{Refusal}
use Rattle.sb_wishes.specs.declared.settling.Edit as code
use Rattle.sb_wishes.specs.declared.settling.Outcome.{Outcome}
use Rattle.sb_wishes.specs.Wished.{row_wished}
use Rattle.sb_wishes.specs.Edits.{GivesEdit, IsEditOf, edit_in, settled}
use Rattle.sb_drive.specs.declared.space.SpaceFault.TheVariants.{NoMemory}
use Rattle.sb_drive.proofs.SpacesLemmas.{IfErr-passed}
use Rattle.sb_standing.proofs.LackingLemmas.{read_short, where_short}
use Rattle.sb_wishes.proofs.BegunLemmas.{begins_wished}
use Rattle.sb_wishes.proofs.LackingLemmas.{lacks_wished}
use Rattle.sb_wishes.proofs.CarriedLemmas.{BeginsOf, BeginsOfAll, ComesOf, ComesOfAll, LacksOf, LacksOfAll}
use Rattle.sb_wishes.proofs.SettledLemmas.{Comes-later, Comes-unwished, Comes-wished}
use Rattle.sb_wishes.proofs.WorksLemmas.{Works-later, Works-looked, Works-no_memory}
use Rattle.sb_wishes.proofs.wishing.carry_out.Goals as goal

pub returns-in_err-old-clause-works : goal.returns-in_err-old-clause-works
returns-in_err-old-clause-works g c =
    Works-looked {T = Option Row} g.S.PageSpace.has g.S.PageSpace.leads g.S.PageSpace.fails g.S.PageSpace.durable g.S.PageSpace.total c.args.table.now.owner c.args.space.now c.find_old.new.space c.from_residual.result c.in_err-old.field-0.0 c.from_residual.ensures.1
    (g.met.S.PageSpace.stays c.args.space.now) c.in_err-old.ensures.looks

pub returns-in_err-edit-clause-works : goal.returns-in_err-edit-clause-works
returns-in_err-edit-clause-works g c =
    Works-no_memory g.S.PageSpace.has g.S.PageSpace.leads g.S.PageSpace.fails g.S.PageSpace.durable g.S.PageSpace.total c.args.table.now.owner c.args.space.now c.find_old.new.space c.from_residual-in_err-edit.result c.from_residual-in_err-edit.ensures.1
    (g.met.S.PageSpace.stays c.args.space.now) c.in_ok-old.ensures.looks.leads c.in_ok-old.ensures.looks.same

pub returns-in-Ok-clause-comes : goal.returns-in-Ok-clause-comes
returns-in-Ok-clause-comes g c =
    IfOk-weaker {X = Outcome} {Y = SpaceFault} c.settle.result
    (λ out. ComesOf g.S.PageSpace.has g.S.PageSpace.leads (g.B.Boxes.meanings c.args.boxes.now) c.args.table.now c.args.rules.now c.find_old.new.space c.settle.new.space (λ r. IsEditOf r.rows (edit_in c.in-Ok.edit)) (λ r. settled c.args.table.now.relation r (edit_in c.in-Ok.edit)) out)
    (λ out. ComesOfAll g.S.PageSpace.has g.S.PageSpace.leads (g.B.Boxes.meanings c.args.boxes.now) c.args.table.now c.args.rules.now c.args.space.now c.settle.new.space (λ r. wished c.args.table.now.relation r (wish_of c.args.wish.now)) out)
    (λ out comes want s r has t h.
    let there = c.in_ok-old.ensures.looks.same want s has in
    let old = c.in_ok-old.ensures.old want s r.rows has h in
    Comes-wished g.S.PageSpace.has g.S.PageSpace.leads (g.B.Boxes.meanings c.args.boxes.now) c.args.table.now want s c.args.space.now c.settle.new.space r h (wish_of c.args.wish.now) (edit_in c.in-Ok.edit) out (subst (λ (x : Result code.Edit Refusal). GivesEdit (edit_of c.args.table.now.relation r (wish_of c.args.wish.now)) x) c.in-Ok.is (c.in_ok-edit.ensures.gives r t.schema old))
    (Comes-later g.S.PageSpace.has g.S.PageSpace.leads (g.B.Boxes.meanings c.args.boxes.now) c.args.table.now want s c.find_old.new.space c.settle.new.space c.args.space.now r h (settled c.args.table.now.relation r (edit_in c.in-Ok.edit)) out g.met.S.PageSpace.goes_on c.in_ok-old.ensures.looks.leads
    (comes want s r there t h (subst (λ (x : Result code.Edit Refusal). IfOk x (λ edit. (rows : Rows) → c.in_ok-old.old ≡ row_wished rows (wish_of c.args.wish.now) → IsEditOf rows (edit_in edit))) c.in-Ok.is c.in_ok-edit.ensures.of r.rows old))))
    c.settle.ensures.comes

pub returns-in-Ok-clause-works : goal.returns-in-Ok-clause-works
returns-in-Ok-clause-works g c =
    Works-later g.S.PageSpace.has g.S.PageSpace.leads g.S.PageSpace.fails g.S.PageSpace.durable g.S.PageSpace.total c.args.table.now.owner c.args.space.now c.find_old.new.space c.settle.new.space c.settle.result g.met.S.PageSpace.goes_on g.met.S.PageSpace.fails_on c.in_ok-old.ensures.looks.leads c.in_ok-old.ensures.looks.same c.settle.ensures.works

pub returns-in-Ok-clause-undamaged : goal.returns-in-Ok-clause-undamaged
returns-in-Ok-clause-undamaged g c =
    IfErr-weaker {T = Outcome} {E = SpaceFault} c.settle.result
    (λ e. (want : Wanted) (s : Slots) (rows : Rows) → g.S.PageSpace.has want s c.find_old.new.space → HasRows (g.B.Boxes.meanings c.args.boxes.now) s c.args.table.now rows → IsSound e)
    (λ e. (want : Wanted) (s : Slots) (rows : Rows) → g.S.PageSpace.has want s c.args.space.now → HasRows (g.B.Boxes.meanings c.args.boxes.now) s c.args.table.now rows → IsSound e)
    (λ e is want s rows has h. is want s rows (c.in_ok-old.ensures.looks.same want s has) h)
    c.settle.ensures.undamaged

pub returns-in_err-old-clause-full : goal.returns-in_err-old-clause-full
returns-in_err-old-clause-full g c =
    IfErr-passed c.from_residual.result c.in_err-old.field-0.0 _ c.from_residual.ensures.1 (λ want s r has t h. read_short c.in_err-old.field-0.0 _ c.in_err-old.ensures.looks.fault)

pub returns-in_err-edit-clause-full : goal.returns-in_err-edit-clause-full
returns-in_err-edit-clause-full g c = IfErr-passed c.from_residual-in_err-edit.result NoMemory _ c.from_residual-in_err-edit.ensures.1 (λ want s r has t h. tt)

pub returns-in-Ok-clause-full : goal.returns-in-Ok-clause-full
returns-in-Ok-clause-full g c =
    let m = g.B.Boxes.meanings c.args.boxes.now in
    let table = c.args.table.now in
    let wish = wish_of c.args.wish.now in
    let edit = edit_in c.in-Ok.edit in
    IfErr-weaker {T = Outcome} {E = SpaceFault} c.settle.result
    (λ e. LacksOf g.S.PageSpace.has g.S.PageSpace.leads m table c.args.rules.now c.find_old.new.space c.settle.new.space (λ r. IsEditOf r.rows edit) (λ r. settled table.relation r edit) e)
    (λ e. LacksOfAll g.S.PageSpace.has g.S.PageSpace.leads m table c.args.rules.now c.args.space.now c.settle.new.space (λ r. wished table.relation r wish) e)
    (λ e full want s r has t h.
    let old = c.in_ok-old.ensures.old want s r.rows has h in
    where_short e _ _
    (λ total lacks. lacks_wished m s table r h total g.S.PageSpace.leads c.args.space.now c.find_old.new.space c.settle.new.space wish edit
    (subst (λ (x : Result code.Edit Refusal). GivesEdit (edit_of table.relation r wish) x) c.in-Ok.is (c.in_ok-edit.ensures.gives r t.schema old)) g.met.S.PageSpace.goes_on c.in_ok-old.ensures.looks.leads lacks)
    (full want s r (c.in_ok-old.ensures.looks.same want s has) t h
    (subst (λ (x : Result code.Edit Refusal). IfOk x (λ edit. (rows : Rows) → c.in_ok-old.old ≡ row_wished rows wish → IsEditOf rows (edit_in edit))) c.in-Ok.is c.in_ok-edit.ensures.of r.rows old)))
    c.settle.ensures.full

pub returns-in-Err-clause-comes : goal.returns-in-Err-clause-comes
returns-in-Err-clause-comes g c = λ want s r has t h.
    Comes-unwished g.S.PageSpace.has g.S.PageSpace.leads (g.B.Boxes.meanings c.args.boxes.now) c.args.table.now want s c.args.space.now c.find_old.new.space r h (wish_of c.args.wish.now) c.in-Err.refusal
    (subst (λ (x : Result code.Edit Refusal). GivesEdit (edit_of c.args.table.now.relation r (wish_of c.args.wish.now)) x) c.in-Err.is (c.in_ok-edit.ensures.gives r t.schema (c.in_ok-old.ensures.old want s r.rows has h))) (c.in_ok-old.ensures.looks.same want s has) c.in_ok-old.ensures.looks.leads

pub returns-in_err-old-clause-begins : goal.returns-in_err-old-clause-begins
returns-in_err-old-clause-begins g c =
    IfErr-passed c.from_residual.result c.in_err-old.field-0.0 _ c.from_residual.ensures.1 (λ want s r has t h. inl c.in_err-old.ensures.looks.leads)

pub returns-in_err-edit-clause-begins : goal.returns-in_err-edit-clause-begins
returns-in_err-edit-clause-begins g c = IfErr-passed c.from_residual-in_err-edit.result NoMemory _ c.from_residual-in_err-edit.ensures.1 (λ want s r has t h. inl c.in_ok-old.ensures.looks.leads)

pub returns-in-Ok-clause-begins : goal.returns-in-Ok-clause-begins
returns-in-Ok-clause-begins g c =
    let m = g.B.Boxes.meanings c.args.boxes.now in
    let table = c.args.table.now in
    let wish = wish_of c.args.wish.now in
    let edit = edit_in c.in-Ok.edit in
    IfErr-weaker {T = Outcome} {E = SpaceFault} c.settle.result
    (λ e. BeginsOf g.S.PageSpace.has g.S.PageSpace.leads m table c.args.rules.now c.find_old.new.space c.settle.new.space (λ r. IsEditOf r.rows edit) (λ r. settled table.relation r edit))
    (λ e. BeginsOfAll g.S.PageSpace.has g.S.PageSpace.leads m table c.args.rules.now c.args.space.now c.settle.new.space (λ r. wished table.relation r wish))
    (λ e begins want s r has t h.
    let old = c.in_ok-old.ensures.old want s r.rows has h in
    begins_wished g.S.PageSpace.leads m s table r h c.find_old.new.space c.settle.new.space c.args.space.now wish edit
    (subst (λ (x : Result code.Edit Refusal). GivesEdit (edit_of table.relation r wish) x) c.in-Ok.is (c.in_ok-edit.ensures.gives r t.schema old))
    g.met.S.PageSpace.goes_on c.in_ok-old.ensures.looks.leads
    (begins want s r (c.in_ok-old.ensures.looks.same want s has) t h
    (subst (λ (x : Result code.Edit Refusal). IfOk x (λ edit. (rows : Rows) → c.in_ok-old.old ≡ row_wished rows wish → IsEditOf rows (edit_in edit))) c.in-Ok.is c.in_ok-edit.ensures.of r.rows old)))
    c.settle.ensures.begins
