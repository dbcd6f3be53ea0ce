use Rattle.std.proofs.Common.{sym, subst}
use Rattle.sb_heap.specs.Links.{Made, turned}
use Rattle.sb_heap.specs.declared.list.Turn.{Turn}
use Rattle.sb_heap.proofs.list.take_turn.Goals as goal

pub returns-in-Joins-clause-made : goal.returns-in-Joins-clause-made
returns-in-Joins-clause-made c = subst (λ (t : Turn). Made (turned c.args.root c.args.page t) 3 c.args.ctx.now c.join.new.ctx c.join.result) (sym c.in-Joins.is) c.join.ensures.made

pub returns-in-Leaves-clause-made : goal.returns-in-Leaves-clause-made
returns-in-Leaves-clause-made c = subst (λ (t : Turn). Made (turned c.args.root c.args.page t) 3 c.args.ctx.now c.leave.new.ctx c.leave.result) (sym c.in-Leaves.is) c.leave.ensures.made
