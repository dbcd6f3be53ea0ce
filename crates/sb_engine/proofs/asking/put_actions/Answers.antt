use Rattle.std.proofs.Common.{◌≡◌, sym, ◌∙◌, subst, arith}
use Rattle.sb_fold.specs.Outcome.{Queue}
use Rattle.sb_deferred.specs.Waiting.{IsFront}
use Rattle.sb_deferred.proofs.FrontLemmas.{IsFront-action}
use Rattle.sb_engine.specs.Goings.{front_none, front_then}
use Rattle.sb_engine.proofs.LateLemmas.{first-all, first-more, first-none}
use Rattle.sb_engine.proofs.asking.put_actions.Goals as goal

pub loop-action-init : goal.loop-action-init
loop-action-init c = record { put = first-none c.args.queue.now c.args.late.now; front = front_none c.args.queue.now }

pub loop-action-preserved : goal.loop-action-preserved
loop-action-preserved c =
    let before = c.loop-action.invariant in
    let new : c.push_action.new.self ≡ _ = c.in_ok-push_action.ensures.ok in
    record {
      put = first-more c.args.queue.now c.loop-action.queue c.push_action.new.self c.args.late.now c.loop-action.action-index c.action-item.result c.in_ok-copy.copy c.loop-action-test.true c.action-item.is c.in_ok-copy.ensures before.put new;
      front = front_then c.args.queue.now c.loop-action.queue c.push_action.new.self before.front
          (subst (λ (q : Queue). IsFront c.loop-action.queue q) (sym new) (IsFront-action c.loop-action.queue c.in_ok-copy.copy));
    }

pub returns-clause-put : goal.returns-clause-put
returns-clause-put c = c.loop-action.invariant.put ∙ first-all c.args.queue.now c.args.late.now c.loop-action.action-index (omega arith)

pub returns-in_err-push_action-clause-front : goal.returns-in_err-push_action-clause-front
returns-in_err-push_action-clause-front c = subst (λ (q : Queue). IsFront c.args.queue.now q) (sym c.in_err-push_action.ensures.err) c.loop-action.invariant.front
