use Rattle.std.proofs.Common.{arith}
use Rattle.sb_rule.proofs.Laws.{no_width}
use Rattle.sb_rule.proofs.reading.width_of.Goals as goal

pub returns-then-width-lt1 : goal.returns-then-width-lt1
returns-then-width-lt1 c x rest fits e =
    let found = c.in-Some.ensures in
    no_width c.args.bytes.now _ c.in-Some.width found.0 (λ least. grind (arith, least, c.if-width-lt1.true)) found.1 x rest fits e
