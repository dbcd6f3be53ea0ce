use Rattle.std.proofs.Common.{◌≡◌, ◌++◌, length, All}
use Rattle.std.specs.List.{flat_map}
use Rattle.sb_pred.specs.Spelling.{term_spelling, IsStorableTerm}
use Rattle.sb_rule.proofs.parts.take_terms.Given as goal

abbrev pub invariant-loop : goal.invariant-loop
invariant-loop l = record {
  counted : length l.terms.items ≡ l.counter;
  storable : All IsStorableTerm l.terms.items;
  spelled : l.bytes ≡ flat_map term_spelling l.terms.items ++ l.rest;
}
