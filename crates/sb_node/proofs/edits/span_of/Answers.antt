use Rattle.std.proofs.Common.{arith}
use Rattle.sb_node.proofs.Runs.{form_size, form_room, entry_stands, after_above}
use Rattle.sb_node.proofs.edits.span_of.Goals as goal

pub after_of-after-requires-clause-within : goal.after_of-after-requires-clause-within
after_of-after-requires-clause-within c = rw c.start_of-at.ensures.start (entry_stands c.args.page.now c.args.i c.requires.form c.requires.within).inside.low

pub after_of-after-requires-clause-low : goal.after_of-after-requires-clause-low
after_of-after-requires-clause-low c = rw c.start_of-at.ensures.start (entry_stands c.args.page.now c.args.i c.requires.form c.requires.within).inside.short

pub returns-clause-size : goal.returns-clause-size
returns-clause-size c = form_size c.args.page.now c.requires.form

pub returns-clause-room : goal.returns-clause-room
returns-clause-room c = form_room c.args.page.now c.requires.form

pub returns-clause-inside : goal.returns-clause-inside
returns-clause-inside c = rw (c.after_of-after.ensures, c.start_of-at.ensures.start) (entry_stands c.args.page.now c.args.i c.requires.form c.requires.within).end

pub returns-clause-up : goal.returns-clause-up
returns-clause-up c = omega (arith, c.after_of-after.ensures, after_above c.args.page.now c.start_of-at.result)
