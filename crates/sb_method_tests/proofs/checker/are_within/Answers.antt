use Rattle.std.proofs.Common.{ℕ, ◌&&◌, not, List, Option, option_map, rules, tests, ◌∙◌}
use Rattle.std.specs.Borrow.{Bor}
use Rattle.std.proofs.lemmas.Iterator.{YieldsList-from_slice}
use Rattle.std.proofs.lemmas.Iterator.Search.{all_from_yields_List}
use Rattle.sb_node.specs.Entries.{Entry, is_below}
use Rattle.sb_node.specs.Walk.{entry_read}
use Rattle.sb_forms.specs.Read.{is_under}
use Rattle.sb_method_tests.proofs.Spelled.{all_read}
use Rattle.sb_method_tests.proofs.checker.are_within.Goals as goal

pub returns : goal.returns
returns c =
    let high : Option (List ℕ) = option_map (λ (key : Bor (List ℕ)). key.now) c.args.high in
    all_from_yields_List (λ (x : Bor (List ℕ) × Bor (List ℕ)). not (is_below (entry_read x).0 c.args.low.now) && is_under high (entry_read x).0) _ _ _ c.all.ensures.ran (YieldsList-from_slice c.args.entries.now (cc)) (λ x b q k. search (rules, tests))
    ∙ all_read (λ (e : Entry). not (is_below e.0 c.args.low.now) && is_under high e.0) c.args.entries.now
