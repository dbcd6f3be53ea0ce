use Rattle.std.proofs.Common.{arith}
use Rattle.std.proofs.lemmas.List.{take_rest}
use Rattle.sb_tokens.proofs.TokensLemmas.{text_taken}
use Rattle.sb_tokens.proofs.scanner.front_token.Goals as goal

pub returns-then-first-eq39-clause-within : goal.returns-then-first-eq39-clause-within
returns-then-first-eq39-clause-within c = text_taken c.text_token.result c.args.bytes.now (omega arith) (simp take_rest at c.text_token.ensures)
