use Rattle.std.proofs.Common.{map, take}
use Rattle.sb_foreign.specs.Onces.{number_row, AreOnce}
use Rattle.sb_foreign.proofs.once.are_once.Given as goal

abbrev pub invariant-loop-number : goal.invariant-loop-number
invariant-loop-number l = AreOnce l.ctx l.relation (map number_row (take l.number-index l.numbers))
