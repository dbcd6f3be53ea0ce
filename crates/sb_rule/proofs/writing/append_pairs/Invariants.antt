use Rattle.std.proofs.Common.{◌≡◌, ◌∷◌, ◌++◌, length, take, All}
use Rattle.std.specs.List.{flat_map}
use Rattle.sb_rule.specs.Spelling.{pair_spelling, IsStorablePair}
use Rattle.sb_rule.proofs.writing.append_pairs.Given as goal

abbrev pub invariant-loop-pair : goal.invariant-loop-pair
invariant-loop-pair l = record {
  written : l.out ≡ l.fn.out ++ (length l.pairs ∷ flat_map pair_spelling (take l.pair-index l.pair-items));
  storable : All IsStorablePair (take l.pair-index l.pair-items);
}
