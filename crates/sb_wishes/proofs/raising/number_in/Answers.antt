use Rattle.sb_wishes.proofs.RaisedLemmas.{number_lacks}
use Rattle.sb_wishes.proofs.raising.number_in.Goals as goal

pub unreachable-requires : goal.unreachable-requires
unreachable-requires c = number_lacks c.args.schema.now c.args.row.now c.args.column.now c.requires.fits c.requires.number c.in-None.ensures
