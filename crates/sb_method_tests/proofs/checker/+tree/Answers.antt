use Rattle.std.proofs.Common.{◌≡◌, ◌-◌, ℕ, suc, ◌∷◌, List, Some, map, ap, arith, ◌∙◌}
use Rattle.sb_node.specs.Page.{node_in}
use Rattle.sb_method_tests.specs.Checker.{child_read, entries_in, found_in, held_nodes}
use Rattle.sb_method_tests.proofs.Checking.{inner_there}
use Rattle.sb_method_tests.proofs.checker.+tree.Goals as goal

pub tree_below-returns : goal.tree_below-returns
tree_below-returns t c =
    let down : c.args.level ≡ suc (c.args.level - 1) = omega arith in
    let kids = rw c.in-Some-2.is at c.in_ok-children.ensures in
    let below = rw c.in-Some-3.is at c.in_ok-tree.ensures in
    let pages : c.insert.new.self.items ≡ c.args.page ∷ c.in-Some-3.tree.pages.items = c.in_ok-insert.ensures.items in
    ap (λ (ps : List ℕ). Some (entries_in c.in-Some-3.tree, ps)) pages
    ∙ inner_there c.args.level (c.args.level - 1) (held_nodes c.args.ctx.now) c.args.page (node_in c.in-Some.bytes.now) (map child_read c.deref.result.now) (found_in c.in-Some-3.tree)
    down c.in-Some.ensures.node_is kids.inner kids.full (ap (map child_read) c.deref.ensures.value ∙ kids.are) below
