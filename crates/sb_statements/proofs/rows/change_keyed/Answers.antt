use Rattle.std.proofs.Common.{List, is_some, ap, sym, ◌∙◌, subst}
use Rattle.sb_relation.specs.Db.{Db}
use Rattle.sb_fold.specs.Fold.{first_change}
use Rattle.sb_cascade.specs.Wishes.{wish_of}
use Rattle.sb_building.specs.OpenRelation.{OpenRelation}
use Rattle.sb_building.specs.Working.{AreOpened, IsStoppedFor, StandsFor, extensions_in, open_at}
use Rattle.sb_plain.specs.Step.{row_answer}
use Rattle.sb_statements.specs.Statements.{answer_of}
use Rattle.sb_statements.proofs.AnswerLemmas.{keyed_made, keyed_stopped}
use Rattle.sb_statements.proofs.rows.change_keyed.Goals as goal

pub row_answer-requires : goal.row_answer-requires
row_answer-requires g c = record { «open» = ap (λ (l : List OpenRelation). is_some (open_at l c.args.name.now)) c.deref.ensures.value ∙ c.in-Ok.ensures.«open» }

pub returns-in-Ok-clause-made : goal.returns-in-Ok-clause-made
returns-in-Ok-clause-made g c = λ h stands fits.
    let has = g.S.PageSpace.has in
    let meanings = g.B.Boxes.meanings in
    let old = c.args.running.now in
    let new = c.change_fitting.new.running in
    let m = meanings new.boxes.now in
    let name = c.args.name.now in
    let work = first_change (extensions_in meanings old) name (wish_of c.args.wish.now) in
    keyed_made (StandsFor has g.S.PageSpace.spent meanings) (IsStoppedFor g.S.PageSpace.has g.S.PageSpace.spent g.S.PageSpace.leads g.S.PageSpace.fails g.S.PageSpace.table g.B.Boxes.meanings) name work h new c.in-Ok.key (answer_of c.row_answer.result)
    (λ k standing.
    c.row_answer.ensures m new.place.root standing.slots standing.kept standing.keeps.tables
    (subst (λ (l : List OpenRelation). AreOpened m standing.kept l) (sym c.deref.ensures.value) standing.opened)
    ∙ ap (λ (db : Db). row_answer db name c.in-Ok.key) (sym standing.db))
    (c.in-Ok.ensures.made h stands fits)

pub returns-in-Err-clause-refused : goal.returns-in-Err-clause-refused
returns-in-Err-clause-refused g c = λ h stands fits.
    let meanings = g.B.Boxes.meanings in
    let old = c.args.running.now in
    let new = c.change_fitting.new.running in
    let name = c.args.name.now in
    let work = first_change (extensions_in meanings old) name (wish_of c.args.wish.now) in
    keyed_stopped (StandsFor g.S.PageSpace.has g.S.PageSpace.spent meanings) (IsStoppedFor g.S.PageSpace.has g.S.PageSpace.spent g.S.PageSpace.leads g.S.PageSpace.fails g.S.PageSpace.table g.B.Boxes.meanings) name work h new c.in-Err.refusal (c.in-Err.ensures.refused h stands fits)
