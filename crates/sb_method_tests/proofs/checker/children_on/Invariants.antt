use Rattle.std.proofs.Common.{◌≡◌, ◌++◌, Some, map}
use Rattle.sb_node.specs.Page.{node_in}
use Rattle.sb_node.specs.Walk.{entries_left}
use Rattle.sb_forms.specs.Read.{all_by, is_bound}
use Rattle.sb_forms.specs.Tree.{child_of, children_of}
use Rattle.sb_method_tests.specs.Checker.{child_read}
use Rattle.sb_method_tests.proofs.checker.children_on.Given as goal

abbrev pub invariant-loop-key : goal.invariant-loop-key
invariant-loop-key l = record {
  can : (goal.iterator-loop-key).can_next l.key-iterator;
  finite : (goal.iterator-loop-key).is_finite l.key-iterator;
  bounds : all_by is_bound (entries_left l.key-iterator) ≡ all_by is_bound (node_in l.bytes).entries;
  so_far : map child_read l.children.items ++ map child_of (entries_left l.key-iterator) ≡ children_of (Some (node_in l.bytes));
}
