use Rattle.std.proofs.Common.{◌≡◌, Option, option_map}
use Rattle.std.specs.Prelude.{IsSome, ◌↔◌}
use Rattle.sb_forms.specs.Read.{read_tree}
use Rattle.sb_forms.specs.Tree.{IsRoot}
use Rattle.sb_method_tests.specs.Checker.{entries_in, found_in, held_nodes, held_pages}
use Rattle.sb_method_tests.specs.Found.{root_found}
use Rattle.sb_method_tests.specs.declared.checker.Tree.{Tree}
use Rattle.sb_method_tests.proofs.Roots.{entries_are, if_ok, is_exact}
use Rattle.sb_method_tests.proofs.checker.held_tree.Goals as goal

pub returns-clause-entries : goal.returns-clause-entries
returns-clause-entries c =
    let P = held_pages c.args.ctx.now in
    if_ok (λ (tree : Option Tree). option_map found_in tree ≡ root_found c.args.root P) (λ (tree : Option Tree). option_map entries_in tree ≡ read_tree c.args.root P) (entries_are c.args.root P) c.tree_at_root.result c.tree_at_root.ensures

pub returns-clause-exactly : goal.returns-clause-exactly
returns-clause-exactly c =
    let P = held_pages c.args.ctx.now in
    if_ok (λ (tree : Option Tree). option_map found_in tree ≡ root_found c.args.root P) (λ (tree : Option Tree). IsSome tree ↔ IsRoot (held_nodes c.args.ctx.now) c.args.root) (is_exact c.args.root P) c.tree_at_root.result c.tree_at_root.ensures
