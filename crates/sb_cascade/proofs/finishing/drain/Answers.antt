use Rattle.std.proofs.Common.{◌-◌, Option, subst, arith}
use Rattle.std.proofs.lemmas.Result.{err_from_is_err_and}
use Rattle.sb_rule.specs.declared.action.Action.{Action}
use Rattle.sb_fold.specs.declared.refusal.Refusal.TheVariants.{DeferLimit}
use Rattle.sb_fold.specs.Outcome.{Going}
use Rattle.sb_cascade.specs.Runs.{Unqueued}
use Rattle.sb_cascade.proofs.Draining.{drained, draining_more, draining_none, draining_stopped, none_taken, not_drained, over_limit}
use Rattle.sb_cascade.proofs.finishing.drain.Goals as goal

pub loop-action-init : goal.loop-action-init
loop-action-init g c =
    let layer = g.L.Layer in
    let old = c.args.layer.now in
    record { leads = g.met.L.Layer.stays old; ready = c.requires.ready; draining = draining_none layer.stands layer.stopped (layer.extensions old) c.args.most old; idle = λ h stands none. stands }

pub returns-in_err-action-clause-refused : goal.returns-in_err-action-clause-refused
returns-in_err-action-clause-refused g c =
    let layer = g.L.Layer in
    let laws = g.met.L.Layer in
    let old = c.args.layer.now in
    let ext = layer.extensions old in
    let loop = c.loop-action in
    let draining = loop.invariant.draining in
    let p = err_from_is_err_and c.from_residual.result c.from_residual.ensures.1 in
    rw (p.1, p.2) (not_drained layer.stands layer.stopped ext c.args.most old loop.left loop.layer draining c.in_err-action.field-0.0 c.next_waiting.new.self c.in_err-action.ensures.refused)

pub returns-then-left-eq0-clause-refused : goal.returns-then-left-eq0-clause-refused
returns-then-left-eq0-clause-refused g c =
    let layer = g.L.Layer in
    let laws = g.met.L.Layer in
    let old = c.args.layer.now in
    let ext = layer.extensions old in
    let loop = c.loop-action in
    let draining = loop.invariant.draining in
    let mid = c.next_waiting.new.self in
    let a = c.in-Some.action in
    let more = subst (λ (x : Option Action). (h : Going) → layer.stands h loop.layer → Unqueued layer.stands h x mid) c.in-Some.is c.in_ok-action.ensures.taken in
    over_limit layer.stands layer.stopped ext c.args.most old loop.left loop.layer draining a mid (omega arith) more (λ h stands. laws.stops DeferLimit h mid tt stands)

pub returns-in_err-act_waiting-clause-refused : goal.returns-in_err-act_waiting-clause-refused
returns-in_err-act_waiting-clause-refused g c =
    let layer = g.L.Layer in
    let laws = g.met.L.Layer in
    let old = c.args.layer.now in
    let ext = layer.extensions old in
    let loop = c.loop-action in
    let draining = loop.invariant.draining in
    let mid = c.next_waiting.new.self in
    let a = c.in-Some.action in
    let more = subst (λ (x : Option Action). (h : Going) → layer.stands h loop.layer → Unqueued layer.stands h x mid) c.in-Some.is c.in_ok-action.ensures.taken in
    let leads = laws.goes_on old loop.layer mid loop.invariant.leads c.in_ok-action.ensures.leads in
    let p = err_from_is_err_and c.from_residual-in_err-act_waiting.result c.from_residual-in_err-act_waiting.ensures.1 in
    rw (p.1, p.2)
    (draining_stopped layer.stands layer.stopped ext c.args.most old loop.left loop.layer draining (loop.left - 1) a mid (layer.extensions mid) (omega arith) (laws.same old mid leads) more
    c.in_err-act_waiting.field-0.0 c.act_waiting.new.layer c.in_err-act_waiting.ensures.refused)

pub returns-in_err-action-clause-room : goal.returns-in_err-action-clause-room
returns-in_err-action-clause-room g c =
    let p = err_from_is_err_and c.from_residual.result c.from_residual.ensures.1 in
    rw (p.1, p.2) (λ h stands none. c.in_err-action.ensures.room)

pub returns-in_err-act_waiting-clause-room : goal.returns-in_err-act_waiting-clause-room
returns-in_err-act_waiting-clause-room g c =
    let layer = g.L.Layer in
    let loop = c.loop-action in
    let mid = c.next_waiting.new.self in
    let a = c.in-Some.action in
    let more = subst (λ (x : Option Action). (h : Going) → layer.stands h loop.layer → Unqueued layer.stands h x mid) c.in-Some.is c.in_ok-action.ensures.taken in
    let p = err_from_is_err_and c.from_residual-in_err-act_waiting.result c.from_residual-in_err-act_waiting.ensures.1 in
    rw (p.1, p.2) (λ h stands none. absurd (none_taken layer.stands h a mid none (more h (loop.invariant.idle h stands none))))

pub loop-action-preserved : goal.loop-action-preserved
loop-action-preserved g c =
    let layer = g.L.Layer in
    let laws = g.met.L.Layer in
    let old = c.args.layer.now in
    let ext = layer.extensions old in
    let loop = c.loop-action in
    let draining = loop.invariant.draining in
    let mid = c.next_waiting.new.self in
    let a = c.in-Some.action in
    let more = subst (λ (x : Option Action). (h : Going) → layer.stands h loop.layer → Unqueued layer.stands h x mid) c.in-Some.is c.in_ok-action.ensures.taken in
    let leads = laws.goes_on old loop.layer mid loop.invariant.leads c.in_ok-action.ensures.leads in
    record {
      leads = laws.goes_on old mid c.act_waiting.new.layer leads c.in_ok-act_waiting.ensures.leads;
      ready = c.in_ok-act_waiting.ensures.ready;
      draining = draining_more layer.stands layer.stopped ext c.args.most old loop.left loop.layer draining (loop.left - 1) a mid (layer.extensions mid) (omega arith) (laws.same old mid leads) more
          c.in_ok-act_waiting.field-0 c.act_waiting.new.layer c.in_ok-act_waiting.ensures.made;
      idle = λ h stands none. absurd (none_taken layer.stands h a mid none (more h (loop.invariant.idle h stands none)));
    }

pub returns-clause-made : goal.returns-clause-made
returns-clause-made g c =
    let layer = g.L.Layer in
    let laws = g.met.L.Layer in
    let old = c.args.layer.now in
    let ext = layer.extensions old in
    let loop = c.loop-action in
    let draining = loop.invariant.draining in
    let none = subst (λ (x : Option Action). (h : Going) → layer.stands h loop.layer → Unqueued layer.stands h x c.next_waiting.new.self) c.in_default.is c.in_ok-action.ensures.taken in
    drained layer.stands layer.stopped ext c.args.most old loop.left loop.layer draining c.next_waiting.new.self none
