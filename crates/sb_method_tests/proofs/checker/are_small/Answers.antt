use Rattle.std.proofs.Common.{ℕ, List, rules, tests, ◌∙◌}
use Rattle.std.specs.Borrow.{Bor}
use Rattle.std.proofs.lemmas.Iterator.{YieldsList-from_slice}
use Rattle.std.proofs.lemmas.Iterator.Search.{all_from_yields_List}
use Rattle.sb_node.specs.Walk.{entry_read}
use Rattle.sb_forms.specs.Read.{is_small}
use Rattle.sb_method_tests.proofs.Spelled.{all_read}
use Rattle.sb_method_tests.proofs.checker.are_small.Goals as goal

pub returns : goal.returns
returns c =
    all_from_yields_List (λ (x : Bor (List ℕ) × Bor (List ℕ)). is_small (entry_read x)) _ _ _ c.all.ensures.ran (YieldsList-from_slice c.args.entries.now (cc)) (λ x b q k. search (rules, tests))
    ∙ all_read is_small c.args.entries.now
