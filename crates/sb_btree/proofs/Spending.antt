-- How many pages a tree has, and how many a change of it edits.
use Rattle.std.proofs.Common.{ℕ, zero, suc, ◌+◌, ◌*◌, ◌≤◌, length, sym, subst, arith}
use Rattle.sb_ctx.specs.Bounds.{plain_bound}
use Rattle.sb_ctx.specs.Costs.{digits, tree_cost}
use Rattle.sb_ctx.specs.View.{View, page_of, stored, edits_of}
use Rattle.sb_forms.specs.Tree.{Nodes, nodes, items, met, IsTree, level_of}
use Rattle.sb_forms.specs.TreePages.{tree_met}
use Rattle.sb_btree.specs.Held.{IsRootPage}
use Rattle.sb_btree.specs.Inserts.{OverTrees}
use Rattle.sb_btree.specs.Spending.{TreesAreSmall}
use Rattle.sb_btree.proofs.Counting.{met_few, digits_many, digits_of_tree}
use Rattle.sb_btree.proofs.Reading.{read_root}
use Rattle.sb_btree.proofs.Roots.{at_root}

-- ---- pages
root_few : (N : Nodes) (l p : ℕ) → IsTree l N p → length (met l N p) ≤ plain_bound (length (items l N p))
root_few N zero p tree = omega arith
root_few N (suc l) p tree = omega (arith, met_few N (suc l) p (tree, tree.1))

pub trees_are_small : TreesAreSmall
trees_are_small P root es read =
    let r = read_root P root es read in
    subst (λ xs. length (tree_met root P) ≤ plain_bound (length xs)) (sym r.1) (root_few (nodes P) (level_of (nodes P root)) root r.0.tree)

-- ---- edits
-- also an empty leaf has a digit
pub root_digits : (N : Nodes) (l p : ℕ) → IsTree l N p → l + 1 ≤ digits (length (items l N p) + 1)
root_digits N zero p tree = digits_many zero (length (items zero N p) + 1) (length (items zero N p) + 1) (omega arith) (omega arith)
root_digits N (suc l) p tree = digits_of_tree N (suc l) p (tree, tree.1)

-- three for each level, and three more
pub edits_over : (old new : View) (root l : ℕ) → IsRootPage (page_of old root) l → edits_of new ≤ edits_of old + 3 * (l + 2) → OverTrees old root (λ P es. edits_of new ≤ edits_of old + tree_cost (length es))
edits_over old new root l page few P es read =
    let at = at_root old P root l es page read in
    let high = subst (λ xs. l + 1 ≤ digits (length xs + 1)) at.items_are (root_digits (nodes (stored old P)) l root at.tree) in
    omega (arith, few, high)
