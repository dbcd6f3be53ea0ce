use Rattle.std.proofs.Common.{◌≡◌, ◌∷◌, ◌++◌, length, take, All}
use Rattle.std.specs.List.{flat_map}
use Rattle.sb_pred.specs.Spelling.{term_spelling, IsStorableTerm}
use Rattle.sb_rule.proofs.writing.append_terms.Given as goal

abbrev pub invariant-loop-term : goal.invariant-loop-term
invariant-loop-term l = record {
  written : l.out ≡ l.fn.out ++ (length l.terms ∷ flat_map term_spelling (take l.term-index l.term-items));
  storable : All IsStorableTerm (take l.term-index l.term-items);
}
