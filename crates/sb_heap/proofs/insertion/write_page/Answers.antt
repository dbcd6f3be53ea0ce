use Rattle.sb_heap.proofs.Writes.{rewritten_at}
use Rattle.sb_heap.proofs.insertion.write_page.Goals as goal

pub returns : goal.returns
returns c =
    rewritten_at c.args.ctx.now c.write_turned.new.ctx c.args.root c.args.page c.room.result c.args.head c.in_ok-turn.turn c.args.bytes.now c.write_turned.result c.requires.head c.requires.form c.room.ensures.left c.in_ok-turn.ensures.turn c.write_turned.ensures
