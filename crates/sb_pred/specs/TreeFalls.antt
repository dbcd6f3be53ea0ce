-- Each predicate below a node has fewer nodes than the node's.
use Rattle.std.specs.Prelude.{◌≤◌, max}
use Rattle.std.proofs.Common.{arith}
use Rattle.sb_pred.specs.declared.predicate.Node.{Node}
use Rattle.sb_pred.specs.declared.predicate.Node.TheVariants as node
use Rattle.sb_pred.specs.declared.predicate.Pred.TheDeep.{deep-Node}
use Rattle.sb_pred.specs.Tree.{node_count}
use Rattle.sb_pred.specs.Pred.{tree_of}

-- no predicate below is deeper than the node has nodes
pub depth_le-node_count : (n : Node) → max (deep-Node n) 0 ≤ node_count (tree_of n)
depth_le-node_count node.Always = omega arith
depth_le-node_count (node.Cmp op a b) = omega arith
depth_le-node_count (node.And a b) = omega arith
depth_le-node_count (node.Or a b) = omega arith
depth_le-node_count (node.Not a) = omega arith
