use Rattle.std.proofs.Common.{take}
use Rattle.sb_ctx.specs.View.{freed_pages}
use Rattle.sb_memory.specs.Contents.{slots}
use Rattle.sb_memory.specs.Stores.{Adds}
use Rattle.sb_memory.proofs.stores.add_freed.Given as goal

abbrev pub invariant-loop-i : goal.invariant-loop-i
invariant-loop-i l = Adds (slots l.memory.now) l.owner l.ctx (take l.i (freed_pages l.ctx)) l.fn.writes.items l.writes.items
