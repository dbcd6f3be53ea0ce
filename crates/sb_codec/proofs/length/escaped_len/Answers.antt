use Rattle.std.proofs.Common.{arith}
use Rattle.sb_codec.proofs.Texts.{length-escaped}
use Rattle.sb_codec.proofs.length.escaped_len.Goals as goal

pub overflow_add-result : goal.overflow_add-result
overflow_add-result c = omega (arith, length-escaped c.args.bytes.now)

pub overflow_cast-result : goal.overflow_cast-result
overflow_cast-result c = omega (arith, length-escaped c.args.bytes.now)

pub returns : goal.returns
returns c = omega (arith, length-escaped c.args.bytes.now)
