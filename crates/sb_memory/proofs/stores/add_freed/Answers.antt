use Rattle.std.proofs.Common.{sym, ◌∙◌}
use Rattle.sb_ctx.specs.View.{freed_pages}
use Rattle.sb_memory.specs.Contents.{slots}
use Rattle.sb_memory.proofs.StoresLemmas.{Adds-more}
use Rattle.sb_memory.proofs.stores.add_freed.Goals as goal

pub loop-i-preserved : goal.loop-i-preserved
loop-i-preserved c =
    Adds-more (slots c.args.memory.now.now) c.args.owner c.args.ctx.now (freed_pages c.args.ctx.now) c.loop-i.i c.in-Some.n c.in_ok-write_to.field-0
    c.args.writes.now.items c.loop-i.writes.items c.push.new.self.items
    (sym c.freed.ensures ∙ c.in-Some.is) c.in_ok-write_to.ensures.write c.in_ok-write_to.ensures.may c.in_ok-write_to.ensures.whole c.loop-i.invariant c.in_ok-push.ensures.items
