use Rattle.std.proofs.Common.{refl, ◌∙◌}
use Rattle.sb_rules.proofs.Examples.{IsInstance-numbers}
use Rattle.sb_box_tests.proofs.rules.instance.Goals as goal

pub returns-clause-check : goal.returns-clause-check
returns-clause-check g c = IsInstance-numbers _ c.args.deferred refl (c.from_vec.ensures ∙ c.new.ensures.items) refl c.columns.ensures c.desc.ensures.spelled c.desc.ensures.storable
