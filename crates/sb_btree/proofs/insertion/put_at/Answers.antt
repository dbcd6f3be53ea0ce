use Rattle.sb_btree.proofs.Edits.{tree_at}
use Rattle.sb_btree.proofs.insertion.put_at.Goals as goal

pub put_copy-requires-clause-room : goal.put_copy-requires-clause-room
put_copy-requires-clause-room c = (tree_at c.args.ctx.now c.args.level c.args.page c.in-Some.bytes.now c.in-Some.ensures c.requires.held).room
