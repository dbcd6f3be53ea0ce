use Rattle.std.proofs.Common.{ℕ, replicate, ◌∙◌, ap}
use Rattle.sb_recover.specs.FirstPages.{free_page}
use Rattle.sb_recover.proofs.first_pages.fill_free.Goals as goal

pub returns : goal.returns
unfolding free_page
returns c = c.fill.ensures.after (λ y same. same) ∙ ap (λ (n : ℕ). replicate n 0) c.requires
