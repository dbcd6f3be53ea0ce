use Rattle.std.proofs.Common.{◌<◌, length, rules, arith}
use Rattle.sb_transactions.proofs.WorkLemmas.{left_short}
use Rattle.sb_transactions.proofs.finishing.is_idle.Goals as goal

pub returns-then-is_some : goal.returns-then-is_some
returns-then-is_some c = (
  λ no. absurd (cc),
  λ left.
      let short = (left_short c.args.work.now left.queue).0 in
      let more : c.args.work.now.done < length c.args.work.now.queue.actions = c.action.ensures.found.0 (search rules) in
      absurd (omega arith),
)
