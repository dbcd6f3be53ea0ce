use Rattle.std.proofs.Common.{None, Ok, arith}
use Rattle.sb_heap.specs.Links.{put_node, turned}
use Rattle.sb_heap.proofs.Writes.{Made-then, Made-freed, ready_page}
use Rattle.sb_heap.proofs.removal.free_turned.Goals as goal

pub free-requires : goal.free-requires
free-requires c = λ none. omega (arith, none, (ready_page c.take_turn.new.ctx c.args.page (c.in_ok-take_turn.ensures.ready c.args.page c.requires.page)).room)

pub returns : goal.returns
returns c =
    Made-then (turned c.args.root c.args.page c.args.turn) (put_node c.args.page None) 3 1 4 c.args.ctx.now c.take_turn.new.ctx c.free.new.self (Ok tt) (omega arith) c.in_ok-take_turn.ensures.made
    (Made-freed c.take_turn.new.ctx c.free.new.self c.args.page (c.in_ok-take_turn.ensures.ready c.args.page c.requires.page) c.in_ok-free.ensures.ok)
