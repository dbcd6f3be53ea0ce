use Rattle.std.proofs.Common.{◌+◌, ◌*◌, length}
use Rattle.sb_method_tests.proofs.checker.+tree.Given as goal

-- a page has at most 65,536 children
abbrev pub decreases-tree_below : goal.decreases-tree_below
decreases-tree_below l = 65540 * l.level

abbrev pub decreases-child_below : goal.decreases-child_below
decreases-child_below l = 65540 * l.level + 1

abbrev pub decreases-children_below : goal.decreases-children_below
decreases-children_below l = 65540 * l.level + 2 + length l.children.now
