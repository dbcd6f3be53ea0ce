use Rattle.std.proofs.Common.{◌∙◌, ap}
use Rattle.sb_foreign.specs.Strips.{free_place}
use Rattle.sb_foreign.proofs.StripLaws.{free_place-counted}
use Rattle.sb_foreign.proofs.strip.find_free.Goals as goal

pub returns-then-place-lt-MOST_ROWS-clause-place : goal.returns-then-place-lt-MOST_ROWS-clause-place
returns-then-place-lt-MOST_ROWS-clause-place c = c.count_taken-place.ensures ∙ free_place-counted c.in_ok-get.field-0.now ∙ ap free_place c.in_ok-get.ensures.lookup.0.2
