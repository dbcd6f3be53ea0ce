use Rattle.sb_fold.specs.Extensions.{box_of}
use Rattle.sb_plain.specs.State.{view}
use Rattle.sb_refusals.proofs.Beside.{beside_named}
use Rattle.sb_refusals.proofs.kinds.rule_fits.Goals as goal

pub returns : goal.returns
returns g c s sees own =
    c.rule_fits.ensures (box_of (g.C.Catalogue.extensions c.args.catalogue.now) c.args.rule.now) (view s) (beside_named (view s) c.args.rule.now c.args.other.now own)
    (c.foreign_fits-foreign_fits.ensures s sees)
