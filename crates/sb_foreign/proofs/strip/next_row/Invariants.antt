use Rattle.std.proofs.Common.{◌≡◌, drop, option_map}
use Rattle.sb_ctx.specs.MethodAnswers.{row_above}
use Rattle.sb_foreign.specs.Strips.{rows_from}
use Rattle.sb_foreign.proofs.strip.next_row.Given as goal

abbrev pub invariant-loop-place : goal.invariant-loop-place
invariant-loop-place l = row_above (option_map (λ key. key.now) l.low) (rows_from 0 l.bytes) ≡ row_above (option_map (λ key. key.now) l.low) (rows_from l.place (drop l.place l.bytes))
