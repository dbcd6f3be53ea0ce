use Rattle.sb_memory.proofs.WholeLemmas.{HasPages-now, ArePages-now, ArePages-past}
use Rattle.sb_memory.proofs.memory.Memory.are_pages.Goals as goal

pub returns : goal.returns
returns c = record {
  has = HasPages-now c.self.inside.pages.items c.self.inside.undo.items c.args.self.now c.self.view_is c.self.invariant;
  now = λ owner. ArePages-now c.self.inside.pages.items c.self.inside.undo.items c.args.self.now owner c.self.view_is c.self.invariant;
  past = λ owner. ArePages-past c.self.inside.pages.items c.self.inside.undo.items c.args.self.now owner c.self.view_is c.self.invariant;
}
