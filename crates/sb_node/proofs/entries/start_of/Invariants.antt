use Rattle.std.proofs.Common.{◌≡◌, ◌≤◌, ◌-◌, ◌+◌}
use Rattle.sb_bytes.specs.Field.{number_at}
use Rattle.sb_node.specs.Writes.{start_at}
use Rattle.sb_node.proofs.Runs.{Runs}
use Rattle.sb_node.proofs.entries.start_of.Given as goal

abbrev pub invariant-loop-entry : goal.invariant-loop-entry
invariant-loop-entry l = record {
  rest : start_at l.page (l.i - l._entry) l.at ≡ start_at l.page l.i 24;
  runs : Runs l.page (24 + number_at 2 l.page 4) (number_at 2 l.page 2 - l._entry) l.at;
  low : 24 ≤ l.at;
}
