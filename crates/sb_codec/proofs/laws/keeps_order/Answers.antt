use Rattle.sb_codec.proofs.Codes.{keeps_order}
use Rattle.sb_codec.proofs.laws.keeps_order.Goals as goal

pub returns : goal.returns
returns c = keeps_order
