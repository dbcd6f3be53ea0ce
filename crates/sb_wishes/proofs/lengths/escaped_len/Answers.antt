use Rattle.std.proofs.Common.{arith}
use Rattle.sb_codec.proofs.Texts.{length-escaped}
use Rattle.sb_wishes.proofs.lengths.escaped_len.Goals as goal

pub returns : goal.returns
returns c = omega (arith, length-escaped c.args.bytes.now)
