use Rattle.std.proofs.Common.{◌≡◌, sym, ◌∙◌, subst, arith}
use Rattle.sb_fold.specs.Outcome.{Queue}
use Rattle.sb_deferred.specs.Waiting.{IsFront, check_of}
use Rattle.sb_deferred.proofs.FrontLemmas.{IsFront-check}
use Rattle.sb_engine.specs.Goings.{front_none, front_then}
use Rattle.sb_engine.proofs.LateLemmas.{checks-all, checks-more, checks-none}
use Rattle.sb_engine.proofs.asking.put_checks.Goals as goal

pub loop-entry-init : goal.loop-entry-init
loop-entry-init c = record { put = checks-none c.args.queue.now c.args.relation.now c.args.name.now c.args.checks.now; front = front_none c.args.queue.now }

pub loop-entry-preserved : goal.loop-entry-preserved
loop-entry-preserved c =
    let before = c.loop-entry.invariant in
    let new : c.push_check.new.self ≡ _ = c.in_ok-push_check.ensures.ok in
    record {
      put = checks-more c.args.queue.now c.loop-entry.queue c.push_check.new.self c.args.relation.now c.args.name.now c.args.checks.now c.loop-entry.entry-index c.entry-item.result c.in_ok-copy.copy c.in_ok-owner.owner c.in_ok-label.label
          c.loop-entry-test.true c.entry-item.is c.in_ok-copy.ensures c.in_ok-owner.ensures c.in_ok-label.ensures before.put new;
      front = front_then c.args.queue.now c.loop-entry.queue c.push_check.new.self before.front
          (subst (λ (q : Queue). IsFront c.loop-entry.queue q) (sym new) (IsFront-check c.loop-entry.queue (check_of c.in_ok-owner.owner c.in_ok-label.label c.in_ok-copy.copy)));
    }

pub returns-clause-put : goal.returns-clause-put
returns-clause-put c = c.loop-entry.invariant.put ∙ checks-all c.args.queue.now c.args.relation.now c.args.name.now c.args.checks.now c.loop-entry.entry-index (omega arith)

pub returns-in_err-push_check-clause-front : goal.returns-in_err-push_check-clause-front
returns-in_err-push_check-clause-front c = subst (λ (q : Queue). IsFront c.args.queue.now q) (sym c.in_err-push_check.ensures.err) c.loop-entry.invariant.front
