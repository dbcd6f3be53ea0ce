use Rattle.std.proofs.Common.{◌≡◌, ◌+◌, ◌≤◌, length}
use Rattle.sb_node.specs.Page.{node_in}
use Rattle.sb_node.specs.Walk.{entries_left}
use Rattle.sb_heap.specs.Slots.{free_from}
use Rattle.sb_heap.proofs.page.free_slot.Given as goal

abbrev pub invariant-loop-key : goal.invariant-loop-key
invariant-loop-key l = record {
  can : (goal.iterator-loop-key).can_next l.key-iterator;
  finite : (goal.iterator-loop-key).is_finite l.key-iterator;
  free : free_from l.slot (entries_left l.key-iterator) ≡ free_from 0 (node_in l.page).entries;
  within : l.slot + length (entries_left l.key-iterator) ≤ (node_in l.page).head.count;
}
