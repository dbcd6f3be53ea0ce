use Rattle.std.proofs.Common.{◌≡◌, option_map}
use Rattle.sb_node.specs.Walk.{entries_left}
use Rattle.sb_heap.specs.Scans.{first_above}
use Rattle.sb_heap.proofs.lookup.first_on.Given as goal

abbrev pub invariant-loop-slot : goal.invariant-loop-slot
invariant-loop-slot l = record {
  can : (goal.iterator-loop-slot).can_next l.slot-iterator;
  finite : (goal.iterator-loop-slot).is_finite l.slot-iterator;
  rest : first_above l.page (option_map (λ key. key.now) l.low) (entries_left l.slot-iterator) ≡ first_above l.page (option_map (λ key. key.now) l.low) (entries_left l.initial.slot-iterator);
}
