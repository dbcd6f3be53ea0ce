use Rattle.sb_tokens.proofs.QuotedLemmas.{IsLastBefore}
use Rattle.sb_tokens.proofs.quoted.last_quote.Given as goal

abbrev pub invariant-loop-place : goal.invariant-loop-place
invariant-loop-place l = IsLastBefore l.place l.bytes l.last
