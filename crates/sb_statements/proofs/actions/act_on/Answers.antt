use Rattle.std.proofs.Common.{ℕ}
use Rattle.sb_fold.specs.Extensions.{Extensions}
use Rattle.sb_fold.specs.Fold.{act, change_within}
use Rattle.sb_cascade.proofs.Forward.{forward_act, forward_within}
use Rattle.sb_cascade.proofs.Stopping.{stops_looking}
use Rattle.sb_building.specs.Goings.{goes_on, same_extensions}
use Rattle.sb_building.specs.Working.{IsStoppedFor, StandsFor, extensions_in}
use Rattle.sb_plain.specs.Step.{Counts}
use Rattle.sb_statements.proofs.AnswerLemmas.{answered_made, answered_stopped, made_over, stopped_over}
use Rattle.sb_statements.proofs.actions.act_on.Goals as goal

pub returns-in-Ok-act-clause-done : goal.returns-in-Ok-act-clause-done
returns-in-Ok-act-clause-done g c = λ h stands fits.
    let meanings = g.B.Boxes.meanings in
    let old = c.args.running.now in
    let mid = c.open_action.new.running in
    let new = c.act.new.layer in
    let action = c.args.action.now in
    let ext = extensions_in meanings old in
    answered_made (StandsFor g.S.PageSpace.has g.S.PageSpace.spent meanings) (IsStoppedFor g.S.PageSpace.has g.S.PageSpace.spent g.S.PageSpace.leads g.S.PageSpace.fails g.S.PageSpace.table g.B.Boxes.meanings) (act (change_within ext 16) action) h new (λ (n : ℕ). Counts n) c.in-Ok-act.count
    (made_over (StandsFor g.S.PageSpace.has g.S.PageSpace.spent meanings) (λ (ext : Extensions). act (change_within ext 16) action) ext (extensions_in meanings mid) h c.in-Ok-act.count new
    (same_extensions meanings g.S.PageSpace.leads old mid c.open_action.ensures.goes) (c.in-Ok-act.ensures.made h (c.in-Ok.ensures.stands h stands)))

pub returns-in-Err-act-clause-stopped : goal.returns-in-Err-act-clause-stopped
returns-in-Err-act-clause-stopped g c = λ h stands fits.
    let meanings = g.B.Boxes.meanings in
    let old = c.args.running.now in
    let mid = c.open_action.new.running in
    let new = c.act.new.layer in
    let action = c.args.action.now in
    let ext = extensions_in meanings old in
    answered_stopped (StandsFor g.S.PageSpace.has g.S.PageSpace.spent meanings) (IsStoppedFor g.S.PageSpace.has g.S.PageSpace.spent g.S.PageSpace.leads g.S.PageSpace.fails g.S.PageSpace.table g.B.Boxes.meanings) (act (change_within ext 16) action) h new (λ (n : ℕ). Counts n) c.in-Err-act.refusal
    (stopped_over (IsStoppedFor g.S.PageSpace.has g.S.PageSpace.spent g.S.PageSpace.leads g.S.PageSpace.fails g.S.PageSpace.table g.B.Boxes.meanings) (λ (ext : Extensions). act (change_within ext 16) action) ext (extensions_in meanings mid) h c.in-Err-act.refusal new
    (same_extensions meanings g.S.PageSpace.leads old mid c.open_action.ensures.goes) (c.in-Err-act.ensures.refused h (c.in-Ok.ensures.stands h stands)))

pub returns-in-Err-clause-stopped : goal.returns-in-Err-clause-stopped
returns-in-Err-clause-stopped g c = λ h stands fits.
    let meanings = g.B.Boxes.meanings in
    let new = c.open_action.new.running in
    let action = c.args.action.now in
    let ext = extensions_in meanings c.args.running.now in
    answered_stopped (StandsFor g.S.PageSpace.has g.S.PageSpace.spent meanings) (IsStoppedFor g.S.PageSpace.has g.S.PageSpace.spent g.S.PageSpace.leads g.S.PageSpace.fails g.S.PageSpace.table g.B.Boxes.meanings) (act (change_within ext 16) action) h new (λ (n : ℕ). Counts n) c.in-Err.refusal
    (stops_looking (IsStoppedFor g.S.PageSpace.has g.S.PageSpace.spent g.S.PageSpace.leads g.S.PageSpace.fails g.S.PageSpace.table g.B.Boxes.meanings) (act (change_within ext 16) action) c.in-Err.refusal new h (forward_act (change_within ext 16) (forward_within ext 16) action)
    (c.in-Err.ensures.refused h stands fits))

pub returns-in-Ok-act-clause-goes : goal.returns-in-Ok-act-clause-goes
returns-in-Ok-act-clause-goes g c =
    (goes_on g.S.PageSpace.leads g.met.S.PageSpace.goes_on c.args.running.now c.open_action.new.running c.act.new.layer c.open_action.ensures.goes c.act.ensures.leads).goes

pub returns-in-Err-act-clause-goes : goal.returns-in-Err-act-clause-goes
returns-in-Err-act-clause-goes g c =
    (goes_on g.S.PageSpace.leads g.met.S.PageSpace.goes_on c.args.running.now c.open_action.new.running c.act.new.layer c.open_action.ensures.goes c.act.ensures.leads).goes
