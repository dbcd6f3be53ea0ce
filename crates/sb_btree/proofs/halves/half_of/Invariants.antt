use Rattle.std.proofs.Common.{◌≡◌, ◌+◌, ◌≤◌, length}
use Rattle.sb_node.specs.Entries.{sizes}
use Rattle.sb_node.specs.Page.{node_in}
use Rattle.sb_node.specs.Walk.{entries_left}
use Rattle.sb_btree.specs.Halves.{halfway}
use Rattle.sb_btree.proofs.halves.half_of.Given as goal

abbrev pub invariant-loop-key : goal.invariant-loop-key
invariant-loop-key l = record {
  can : (goal.iterator-loop-key).can_next l.key-iterator;
  finite : (goal.iterator-loop-key).is_finite l.key-iterator;
  half : l.count + halfway l.left (entries_left l.key-iterator) ≡ halfway 2036 (node_in l.page).entries;
  within : l.count + length (entries_left l.key-iterator) ≤ (node_in l.page).head.count;
  short : sizes (entries_left l.key-iterator) ≤ 4072;
}
