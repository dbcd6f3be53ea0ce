use Rattle.std.proofs.Common.{rules}
use Rattle.sb_printer.proofs.Hex.{none_encoded, hex_more}
use Rattle.sb_printer.proofs.pieces.append_hex.Goals as goal

pub loop-byte-init : goal.loop-byte-init
loop-byte-init c = none_encoded c.args.out.now

pub loop-byte-preserved : goal.loop-byte-preserved
loop-byte-preserved c = hex_more c.args.out.now c.loop-byte.out c.extend.new.self c.args.bytes.now c.encode_to_slice.new.output c.loop-byte.byte-index c.loop-byte-test.true c.loop-byte.invariant c.in_ok-extend.ensures.ok (search rules)
