use Rattle.std.proofs.Common.{ℕ, subst, ◌∙◌}
use Rattle.sb_space.specs.Durable.{parts_in}
use Rattle.sb_space.specs.View.{lent}
use Rattle.sb_space.specs.Works.{Serves}
use Rattle.sb_space_tests.proofs.pages.fill.Goals as goal

pub returns-in-Err-clause-ready : goal.returns-in-Err-clause-ready
returns-in-Err-clause-ready g c =
    subst (λ (tx : ℕ). Serves tx (parts_in g.D.Disk.told g.D.Disk.len (lent c.take_one.new.space))) (c.take_one.ensures.same_tx ∙ c.loop-taken.invariant.tx) c.take_one.ensures.ready

pub returns-clause-ready : goal.returns-clause-ready
returns-clause-ready g c =
    subst (λ (tx : ℕ). Serves tx (parts_in g.D.Disk.told g.D.Disk.len (lent c.loop-taken.space))) c.loop-taken.invariant.tx c.loop-taken.invariant.ready
