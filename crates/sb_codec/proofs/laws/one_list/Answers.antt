use Rattle.sb_codec.proofs.Codes.{one_list}
use Rattle.sb_codec.proofs.laws.one_list.Goals as goal

pub returns : goal.returns
returns c = one_list
