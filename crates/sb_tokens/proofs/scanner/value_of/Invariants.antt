use Rattle.std.proofs.Common.{◌≡◌, ◌<◌, ◌^◌, drop}
use Rattle.sb_tokens.specs.Tokens.{value_behind}
use Rattle.sb_tokens.proofs.scanner.value_of.Given as goal

abbrev pub invariant-loop-digit : goal.invariant-loop-digit
invariant-loop-digit l = record { so_far : value_behind l.value (drop l.digit-index l.digits) ≡ value_behind 0 l.digits; small : l.value < 2 ^ 64 }
