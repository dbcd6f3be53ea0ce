use Rattle.std.proofs.Common.{◌≡◌, Option, Some, Bor, sym, ap, ◌∙◌}
use Rattle.std.specs.Option.{option_copied}
use Rattle.sb_relation.specs.Db.{Key}
use Rattle.sb_building.specs.Tables.{db_of}
use Rattle.sb_building.specs.OpenRelation.{OpenRelation}
use Rattle.sb_building.specs.Working.{open_at}
use Rattle.sb_building.proofs.OpenedLemmas.{has_open}
use Rattle.sb_plain.specs.Step.{row_answer}
use Rattle.sb_statements.proofs.AnswerLemmas.{answer_there}
use Rattle.sb_statements.proofs.answers.row_answer.Goals as goal

pub returns-in-Some-key : goal.returns-in-Some-key
returns-in-Some-key c = λ m root s kept tables are.
    let name = c.args.name.now in
    let one = c.in-Some.one.now in
    let at : open_at c.args.opened.now name ≡ Some one = sym c.open_at.ensures ∙ ap (λ (o : Option (Bor OpenRelation)). option_copied o) c.in-Some.is in
    let h = has_open m root s kept c.args.opened.now name one tables are at in
    c.keyed_by.ensures ∙ answer_there (db_of kept) name c.in-Some-key.key h.k.relation one.descriptor.method h.there h.is.method
    ∙ ap (λ (key : Option Key). row_answer (db_of kept) name key) (sym c.in-Some-key.is)
