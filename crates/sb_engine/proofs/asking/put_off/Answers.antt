use Rattle.sb_engine.specs.Goings.{front_then}
use Rattle.sb_engine.proofs.asking.put_off.Goals as goal

pub returns-clause-front : goal.returns-clause-front
returns-clause-front c = front_then c.args.queue.now c.put_actions.new.queue c.put_checks.new.queue c.in_ok-put_actions.ensures.front c.put_checks.ensures.front
