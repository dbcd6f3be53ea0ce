-- The tree of a predicate in memory.
use Rattle.sb_pred.specs.Tree.{Tree, Always, Compare, Both, Either, Fails}
use Rattle.sb_pred.specs.declared.predicate.Node.{Node}
use Rattle.sb_pred.specs.declared.predicate.Node.TheVariants as node

-- what a node and the predicates below it say
abbrev pub tree_of : Node → Tree
tree_of node.Always = Always
tree_of (node.Cmp op a b) = Compare op a b
tree_of (node.And a b) = Both a.value b.value
tree_of (node.Or a b) = Either a.value b.value
tree_of (node.Not a) = Fails a.value
