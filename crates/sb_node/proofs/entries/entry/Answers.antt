use Rattle.std.proofs.Common.{arith}
use Rattle.sb_node.proofs.Runs.{entry_stands, head_count}
use Rattle.sb_node.proofs.entries.entry.Goals as goal

pub start_of-at-requires-clause-within : goal.start_of-at-requires-clause-within
start_of-at-requires-clause-within c = omega (arith, head_count c.args.page.now)

pub key_of-requires-clause-low : goal.key_of-requires-clause-low
key_of-requires-clause-low c = rw c.start_of-at.ensures.start (entry_stands c.args.page.now c.args.i c.requires.form (omega (arith, head_count c.args.page.now))).inside.low

pub key_of-requires-clause-within : goal.key_of-requires-clause-within
key_of-requires-clause-within c = rw c.start_of-at.ensures.start (entry_stands c.args.page.now c.args.i c.requires.form (omega (arith, head_count c.args.page.now))).inside.within

pub value_of-requires-clause-low : goal.value_of-requires-clause-low
value_of-requires-clause-low c = rw c.start_of-at.ensures.start (entry_stands c.args.page.now c.args.i c.requires.form (omega (arith, head_count c.args.page.now))).inside.low

pub value_of-requires-clause-within : goal.value_of-requires-clause-within
value_of-requires-clause-within c = rw c.start_of-at.ensures.start (entry_stands c.args.page.now c.args.i c.requires.form (omega (arith, head_count c.args.page.now))).inside.within

pub returns : goal.returns
returns c =
    rw (c.key_of.ensures, c.value_of.ensures, c.start_of-at.ensures.start)
    (entry_stands c.args.page.now c.args.i c.requires.form (omega (arith, head_count c.args.page.now))).is
