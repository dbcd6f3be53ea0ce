use Rattle.std.proofs.lemmas.Result.{err_from_is_err_and}
use Rattle.sb_fold.specs.declared.refusal.Refusal.TheVariants.{Veto}
use Rattle.sb_cascade.proofs.Draining.{all_hold, finish_not_drained, not_found, one_fails}
use Rattle.sb_cascade.proofs.finishing.finish.Goals as goal

pub returns-in_err-drain-clause-refused : goal.returns-in_err-drain-clause-refused
returns-in_err-drain-clause-refused g c =
    let layer = g.L.Layer in
    let old = c.args.layer.now in
    let p = err_from_is_err_and c.from_residual.result c.from_residual.ensures.1 in
    rw (p.1, p.2) (finish_not_drained layer.stands layer.stopped (layer.extensions old) 1000 old c.in_err-drain.field-0.0 c.drain.new.layer c.in_err-drain.ensures.refused)

pub returns-in-None-clause-made : goal.returns-in-None-clause-made
returns-in-None-clause-made g c =
    let layer = g.L.Layer in
    let laws = g.met.L.Layer in
    let old = c.args.layer.now in
    let ext = layer.extensions old in
    let mid = c.drain.new.layer in
    let new = c.first_failing.new.self in
    let same = laws.same old mid c.in_ok-drain.ensures.leads in
    all_hold layer.stands layer.stopped ext 1000 old mid c.in_ok-drain.ensures.made (layer.extensions mid) c.in_ok-first_failing.field-0 new same c.in_ok-first_failing.ensures.found c.in-None.is

pub returns-in-Some-clause-refused : goal.returns-in-Some-clause-refused
returns-in-Some-clause-refused g c =
    let layer = g.L.Layer in
    let laws = g.met.L.Layer in
    let old = c.args.layer.now in
    let ext = layer.extensions old in
    let mid = c.drain.new.layer in
    let new = c.first_failing.new.self in
    let same = laws.same old mid c.in_ok-drain.ensures.leads in
    one_fails layer.stands layer.stopped ext 1000 old mid c.in_ok-drain.ensures.made (layer.extensions mid) c.in_ok-first_failing.field-0 new same c.in_ok-first_failing.ensures.found
    c.in-Some.relation c.in-Some.name c.in-Some.is (λ h stands. laws.stops (Veto c.in-Some.relation c.in-Some.name) h new tt stands)

pub returns-in_err-first_failing-clause-refused : goal.returns-in_err-first_failing-clause-refused
returns-in_err-first_failing-clause-refused g c =
    let layer = g.L.Layer in
    let old = c.args.layer.now in
    let p = err_from_is_err_and c.from_residual-in_err-first_failing.result c.from_residual-in_err-first_failing.ensures.1 in
    rw (p.1, p.2)
    (not_found layer.stands layer.stopped (layer.extensions old) 1000 old c.drain.new.layer c.in_ok-drain.ensures.made c.in_err-first_failing.field-0.0 c.first_failing.new.self c.in_err-first_failing.ensures.refused)

pub returns-in_err-drain-clause-room : goal.returns-in_err-drain-clause-room
returns-in_err-drain-clause-room g c =
    let p = err_from_is_err_and c.from_residual.result c.from_residual.ensures.1 in
    rw (p.1, p.2) c.in_err-drain.ensures.room

pub returns-in_err-first_failing-clause-room : goal.returns-in_err-first_failing-clause-room
returns-in_err-first_failing-clause-room g c =
    let p = err_from_is_err_and c.from_residual-in_err-first_failing.result c.from_residual-in_err-first_failing.ensures.1 in
    rw (p.1, p.2) (λ h stands none. c.in_err-first_failing.ensures.room)
