use Rattle.std.specs.Prelude.{Bool}
use Rattle.sb_forms.specs.Tree.{nodes, level_of}
use Rattle.sb_btree.specs.Removes.{is_on_removal_way}
use Rattle.sb_btree.proofs.Lowered.{no_root_removes, removal_way_first}
use Rattle.sb_btree.proofs.Roots.{no_root_needs}
use Rattle.sb_btree.proofs.Sparing.{removal_edits, some_digits}
use Rattle.sb_btree.proofs.removal.remove.Goals as goal

pub returns-in-Err-clause-removes : goal.returns-in-Err-clause-removes
returns-in-Err-clause-removes c = rw c.answer-in-Err.ensures (no_root_removes c.args.ctx.now c.args.root c.args.key.now c.in-Err.stop c.in-Err.ensures.stops)

pub returns-in-Err-clause-way : goal.returns-in-Err-clause-way
returns-in-Err-clause-way c =
    rw c.answer-in-Err.ensures (no_root_needs Bool c.args.ctx.now c.args.root (λ P. is_on_removal_way c.args.root P c.args.key.now) c.in-Err.stop c.in-Err.ensures.stops (λ P. removal_way_first (level_of (nodes P c.args.root)) (nodes P) c.args.key.now c.args.root))

pub returns-in-Ok-clause-edits : goal.returns-in-Ok-clause-edits
returns-in-Ok-clause-edits c = removal_edits c.args.ctx.now c.args.root c.in-Ok.level c.in-Ok.ensures.ok c.remove_at_root.new.ctx c.remove_at_root.ensures.edits

pub returns-in-Err-clause-edits : goal.returns-in-Err-clause-edits
returns-in-Err-clause-edits c = some_digits c.args.ctx.now c.args.root
