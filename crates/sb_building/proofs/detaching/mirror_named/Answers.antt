use Rattle.std.proofs.Common.{None, option_copied, sym, ap, ◌∙◌}
use Rattle.sb_building.proofs.DetachLemmas.{mirror_from}
use Rattle.sb_building.proofs.detaching.mirror_named.Goals as goal

pub returns-in_default : goal.returns-in_default
returns-in_default c =
    mirror_from c.args.relation.now c.args.attached.now.name c.args.attached.now.rule None (ap option_copied (sym c.in_default.is) ∙ c.mirrored.ensures c.args.relation.now)
