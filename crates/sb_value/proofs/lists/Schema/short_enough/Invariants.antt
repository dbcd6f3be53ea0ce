use Rattle.sb_value.proofs.FitsLemmas.{ShortFrom}
use Rattle.sb_value.proofs.lists.Schema.short_enough.Given as goal

abbrev pub invariant-loop-place : goal.invariant-loop-place
invariant-loop-place l = ShortFrom l.self l.values l.place
