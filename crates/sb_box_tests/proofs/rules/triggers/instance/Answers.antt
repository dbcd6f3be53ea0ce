use Rattle.std.proofs.Common.{refl, ◌∙◌}
use Rattle.sb_rules.proofs.Examples.{IsInstance-staff}
use Rattle.sb_box_tests.proofs.rules.triggers.instance.Goals as goal

pub returns-clause-trigger : goal.returns-clause-trigger
returns-clause-trigger g c = IsInstance-staff _ c.args.deferred c.text.ensures refl (c.from_vec.ensures ∙ c.new.ensures.items) refl c.columns.ensures c.desc.ensures.spelled c.desc.ensures.storable
