use Rattle.std.proofs.Common.{arith}
use Rattle.sb_btree.proofs.Placing.{page_count}
use Rattle.sb_btree.proofs.insertion.first_bound.Goals as goal

pub entry-requires-clause-within : goal.entry-requires-clause-within
entry-requires-clause-within c = omega (arith, page_count c.args.right.now, c.requires.some)

pub child_at-requires-clause-within : goal.child_at-requires-clause-within
child_at-requires-clause-within c = omega (arith, page_count c.args.right.now, c.requires.some)

pub cut-requires-clause-within : goal.cut-requires-clause-within
cut-requires-clause-within c = omega (arith, page_count c.args.right.now, c.requires.some)
