use Rattle.std.proofs.Common.{arith}
use Rattle.sb_node.specs.Page.{node_of}
use Rattle.sb_heap.specs.Links.{put_node, turned}
use Rattle.sb_heap.proofs.Writes.{Made-then}
use Rattle.sb_heap.proofs.insertion.write_turned.Goals as goal

pub returns : goal.returns
returns c =
    Made-then (put_node c.args.page (node_of c.args.bytes.now)) (turned c.args.root c.args.page c.args.turn) 1 3 4 c.args.ctx.now c.put_page.new.ctx c.take_turn.new.ctx c.take_turn.result (omega arith) c.in_ok-put_page.ensures.made c.take_turn.ensures.made
