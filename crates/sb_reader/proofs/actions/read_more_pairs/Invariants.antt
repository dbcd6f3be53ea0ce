use Rattle.std.proofs.Common.{◌≡◌, ◌∷◌, ◌-◌, codes}
use Rattle.sb_tokens.specs.Rows.{tokens_of}
use Rattle.sb_language.specs.Reading.{mapped, more_at}
use Rattle.sb_phrases.specs.Phrases.{is_word}
use Rattle.sb_reader.specs.Commands.{pair_at}
use Rattle.sb_phrases.proofs.Loops.{with_front}
use Rattle.sb_reader.proofs.actions.read_more_pairs.Given as goal

abbrev pub invariant-loop : goal.invariant-loop
invariant-loop l =
    with_front l.pairs.items (more_at (l.count - l.counter) (is_word (codes "and")) (pair_at l.form) (tokens_of l.rest)) ≡ mapped (λ pairs. l.fn.first ∷ pairs) (more_at l.count (is_word (codes "and")) (pair_at l.form) (tokens_of l.fn.tokens))
