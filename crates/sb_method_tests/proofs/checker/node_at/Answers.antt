use Rattle.std.proofs.Common.{ℕ, List, option_map, ap, sym, ◌∙◌}
use Rattle.std.specs.Borrow.{Bor}
use Rattle.sb_method_tests.proofs.Holding.{node_unheld}
use Rattle.sb_method_tests.proofs.checker.node_at.Goals as goal

pub returns-in_default : goal.returns-in_default
returns-in_default c = node_unheld c.args.ctx.now c.args.page (sym c.page.ensures ∙ ap (option_map (λ (b : Bor (List ℕ)). b.now)) c.in_default.is)
