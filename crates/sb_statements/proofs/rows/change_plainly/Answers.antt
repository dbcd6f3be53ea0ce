use Rattle.sb_fold.specs.Fold.{first_change}
use Rattle.sb_cascade.specs.Wishes.{wish_of}
use Rattle.sb_building.specs.Working.{IsStoppedFor, StandsFor, extensions_in}
use Rattle.sb_plain.specs.Step.{Plain}
use Rattle.sb_statements.proofs.AnswerLemmas.{answered_made, answered_stopped}
use Rattle.sb_statements.proofs.rows.change_plainly.Goals as goal

pub returns-in-Ok-clause-made : goal.returns-in-Ok-clause-made
returns-in-Ok-clause-made g c = λ h stands fits.
    let meanings = g.B.Boxes.meanings in
    let work = first_change (extensions_in meanings c.args.running.now) c.args.name.now (wish_of c.args.wish.now) in
    answered_made (StandsFor g.S.PageSpace.has g.S.PageSpace.spent meanings) (IsStoppedFor g.S.PageSpace.has g.S.PageSpace.spent g.S.PageSpace.leads g.S.PageSpace.fails g.S.PageSpace.table g.B.Boxes.meanings) work h c.change_fitting.new.running (λ _. Plain) _ (c.in-Ok.ensures.made h stands fits)

pub returns-in-Err-clause-refused : goal.returns-in-Err-clause-refused
returns-in-Err-clause-refused g c = λ h stands fits.
    let meanings = g.B.Boxes.meanings in
    let work = first_change (extensions_in meanings c.args.running.now) c.args.name.now (wish_of c.args.wish.now) in
    answered_stopped (StandsFor g.S.PageSpace.has g.S.PageSpace.spent meanings) (IsStoppedFor g.S.PageSpace.has g.S.PageSpace.spent g.S.PageSpace.leads g.S.PageSpace.fails g.S.PageSpace.table g.B.Boxes.meanings) work h c.change_fitting.new.running (λ _. Plain) c.in-Err.refusal (c.in-Err.ensures.refused h stands fits)
