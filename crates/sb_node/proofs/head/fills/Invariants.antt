use Rattle.std.proofs.Common.{◌≡◌, ◌<◌, ◌-◌, None}
use Rattle.std.specs.Option.{option_map}
use Rattle.sb_node.specs.Page.{is_filled}
use Rattle.sb_node.proofs.head.fills.Given as goal

abbrev pub invariant-loop-entry : goal.invariant-loop-entry
invariant-loop-entry l = record {
  rest : is_filled l.page l.end (option_map (λ k. k.now) l.last) (l.count - l._entry) l.at ≡ is_filled l.page l.end None l.count 24;
  low : l.at < 65536;
}
