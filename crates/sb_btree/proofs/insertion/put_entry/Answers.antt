use Rattle.std.specs.Prelude.{Bool, Some}
use Rattle.sb_forms.specs.Tree.{nodes, level_of}
use Rattle.sb_btree.specs.Ways.{is_on_way}
use Rattle.sb_btree.proofs.Descending.{way_first}
use Rattle.sb_btree.proofs.Inserted.{no_root_inserts}
use Rattle.sb_btree.proofs.Roots.{no_root_needs}
use Rattle.sb_btree.proofs.Spending.{edits_over}
use Rattle.sb_btree.proofs.insertion.put_entry.Goals as goal

pub returns-in-Err-clause-puts : goal.returns-in-Err-clause-puts
returns-in-Err-clause-puts c =
    rw c.answer-in-Err.ensures (no_root_inserts c.args.stands c.args.ctx.now c.args.root c.args.key.now c.args.value.now c.in-Err.stop c.in-Err.ensures.stops)

pub returns-in-Err-clause-way : goal.returns-in-Err-clause-way
returns-in-Err-clause-way c =
    rw c.answer-in-Err.ensures (no_root_needs Bool c.args.ctx.now c.args.root (λ P. is_on_way c.args.root P (Some c.args.key.now)) c.in-Err.stop c.in-Err.ensures.stops (λ P. way_first (level_of (nodes P c.args.root)) (nodes P) (Some c.args.key.now) c.args.root))

pub returns-in-Ok-clause-edits : goal.returns-in-Ok-clause-edits
returns-in-Ok-clause-edits c =
    edits_over c.args.ctx.now c.put_at_root.new.ctx c.args.root c.in-Ok.level c.in-Ok.ensures.ok c.put_at_root.ensures.edits
