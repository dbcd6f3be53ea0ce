use Rattle.std.proofs.Common.{refl, sym, ◌∙◌}
use Rattle.sb_ctx.proofs.BoundLaws.{Looks-no_hits}
use Rattle.sb_foreign.specs.Counts.{count}
use Rattle.sb_foreign.proofs.CountLaws.{Looks-seek_broken}
use Rattle.sb_foreign.proofs.count.CountAttachment.seek.Goals as goal

pub returns-in-Some-count_in : goal.returns-in-Some-count_in
returns-in-Some-count_in c = Looks-no_hits count c.args.inst.now c.args._query.now c.args.ctx.now _ (λ content. refl) c.new.ensures

pub returns-in-None : goal.returns-in-None
returns-in-None c = Looks-seek_broken c.args.inst.now c.args._query.now c.args.ctx.now c.in-Some.page.now c.requires.clean.unchanged (sym c.in-Some.ensures) (sym c.count_in.ensures ∙ c.in-None.is)
