use Rattle.std.proofs.Common.{Option, is_some, ap}
use Rattle.std.proofs.lemmas.Result.{IfErr-weaker, IfOk-weaker}
use Rattle.sb_fold.specs.Extensions.{Extensions}
use Rattle.sb_fold.specs.Fold.{change_within}
use Rattle.sb_cascade.specs.Wishes.{wish_of}
use Rattle.sb_cascade.proofs.Forward.{forward_within}
use Rattle.sb_cascade.proofs.Stopping.{stops_looking}
use Rattle.sb_building.specs.OpenRelation.{OpenRelation}
use Rattle.sb_building.specs.Goings.{goes_on, open_at-grows, same_extensions}
use Rattle.sb_building.specs.Working.{IsStoppedFor, StandsFor, extensions_in}
use Rattle.sb_statements.proofs.AnswerLemmas.{made_over, ok_always, stopped_over}
use Rattle.sb_statements.proofs.rows.change_fitting.Goals as goal

pub returns-in-Ok-clause-made : goal.returns-in-Ok-clause-made
returns-in-Ok-clause-made g c =
    let has = g.S.PageSpace.has in
    let meanings = g.B.Boxes.meanings in
    let old = c.args.running.now in
    let mid = c.open_wish.new.running in
    let new = c.change.new.layer in
    let name = c.args.name.now in
    let wish = wish_of c.args.wish.now in
    IfOk-weaker c.change.result _ _
    (λ key made h stands fits.
    made_over (StandsFor has g.S.PageSpace.spent meanings) (λ (ext : Extensions). change_within ext 16 name wish) (extensions_in meanings old) (extensions_in meanings mid) h key new
    (same_extensions meanings g.S.PageSpace.leads old mid c.open_wish.ensures.goes) (made h (c.in-Ok.ensures.stands h stands)))
    c.change.ensures.made

pub returns-in-Ok-clause-refused : goal.returns-in-Ok-clause-refused
returns-in-Ok-clause-refused g c =
    let meanings = g.B.Boxes.meanings in
    let old = c.args.running.now in
    let mid = c.open_wish.new.running in
    let new = c.change.new.layer in
    let name = c.args.name.now in
    let wish = wish_of c.args.wish.now in
    IfErr-weaker c.change.result _ _
    (λ r stops h stands fits.
    stopped_over (IsStoppedFor g.S.PageSpace.has g.S.PageSpace.spent g.S.PageSpace.leads g.S.PageSpace.fails g.S.PageSpace.table g.B.Boxes.meanings) (λ (ext : Extensions). change_within ext 16 name wish) (extensions_in meanings old) (extensions_in meanings mid) h r new
    (same_extensions meanings g.S.PageSpace.leads old mid c.open_wish.ensures.goes) (stops h (c.in-Ok.ensures.stands h stands)))
    c.change.ensures.refused

pub returns-in-Ok-clause-open : goal.returns-in-Ok-clause-open
returns-in-Ok-clause-open g c =
    let mid = c.open_wish.new.running in
    let new = c.change.new.layer in
    let may = c.in-Ok.ensures.may in
    ok_always c.change.result
    (ap (λ (o : Option OpenRelation). is_some o)
    (open_at-grows mid.work.now.opened.items new.work.now.opened.items c.args.name.now may.one c.change.ensures.leads.opened may.at))

pub returns-in-Ok-clause-goes : goal.returns-in-Ok-clause-goes
returns-in-Ok-clause-goes g c =
    goes_on g.S.PageSpace.leads g.met.S.PageSpace.goes_on c.args.running.now c.open_wish.new.running c.change.new.layer c.open_wish.ensures.goes c.change.ensures.leads

pub returns-in-Err-clause-refused : goal.returns-in-Err-clause-refused
returns-in-Err-clause-refused g c = λ h stands fits.
    let ext = extensions_in g.B.Boxes.meanings c.args.running.now in
    let name = c.args.name.now in
    let wish = wish_of c.args.wish.now in
    stops_looking (IsStoppedFor g.S.PageSpace.has g.S.PageSpace.spent g.S.PageSpace.leads g.S.PageSpace.fails g.S.PageSpace.table g.B.Boxes.meanings) (change_within ext 16 name wish) c.in-Err.refusal c.open_wish.new.running h (forward_within ext 16 name wish) (c.in-Err.ensures.refused h stands fits)
