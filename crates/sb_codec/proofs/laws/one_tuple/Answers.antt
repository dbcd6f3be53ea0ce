use Rattle.sb_codec.proofs.TupleLaws.{one_tuple}
use Rattle.sb_codec.proofs.laws.one_tuple.Goals as goal

pub returns : goal.returns
returns c = one_tuple
