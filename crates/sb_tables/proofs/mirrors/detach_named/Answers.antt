use Rattle.std.proofs.Common.{refl}
use Rattle.sb_engine.specs.Goings.{front_none}
use Rattle.sb_tables.proofs.mirrors.detach_named.Goals as goal

pub returns-in-Ok-clause-goes : goal.returns-in-Ok-clause-goes
returns-in-Ok-clause-goes g c = record {
  same_space = refl;
  same_work = refl;
  boxes = refl;
  place = refl;
  leads = c.detach_kept.ensures.leads;
  queue = front_none c.args.running.now.work.now.queue;
  gone = c.detach_kept.ensures.more;
}

pub returns-in-Err-clause-refused : goal.returns-in-Err-clause-refused
returns-in-Err-clause-refused g c = λ aside db keeps. rw c.refusal_of.ensures (c.in-Err.ensures.refused aside db keeps)

pub returns-in-Err-clause-licensed : goal.returns-in-Err-clause-licensed
returns-in-Err-clause-licensed g c = λ aside most db holds. rw c.refusal_of.ensures (c.in-Err.ensures.licensed aside most db holds)

pub returns-in-Err-clause-goes : goal.returns-in-Err-clause-goes
returns-in-Err-clause-goes g c = record {
  same_space = refl;
  same_work = refl;
  boxes = refl;
  place = refl;
  leads = c.detach_kept.ensures.leads;
  queue = front_none c.args.running.now.work.now.queue;
  gone = c.detach_kept.ensures.more;
}
