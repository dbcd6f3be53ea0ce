use Rattle.std.proofs.Common.{◌≡◌, ◌∷◌, ◌-◌}
use Rattle.sb_tokens.specs.declared.token.Sign.TheVariants.{Comma}
use Rattle.sb_tokens.specs.Rows.{tokens_of}
use Rattle.sb_language.specs.Reading.{mapped, more_at}
use Rattle.sb_phrases.specs.Phrases.{is_mark}
use Rattle.sb_phrases.proofs.Loops.{with_front}
use Rattle.sb_phrases.proofs.lists.read_more_items.Given as goal

abbrev pub invariant-loop : goal.invariant-loop
invariant-loop g l =
    with_front l.items.items (more_at (l.count - l.counter) (is_mark Comma) g.T.Item.item_at (tokens_of l.rest)) ≡ mapped (λ items. l.fn.first ∷ items) (more_at l.count (is_mark Comma) g.T.Item.item_at (tokens_of l.fn.tokens))
