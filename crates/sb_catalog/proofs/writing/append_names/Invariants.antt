use Rattle.std.proofs.Common.{◌≡◌, ◌∷◌, ◌++◌, length, take, All}
use Rattle.std.specs.List.{flat_map}
use Rattle.sb_pred.specs.Spelling.{name_spelling, IsStorableName}
use Rattle.sb_catalog.proofs.writing.append_names.Given as goal

abbrev pub invariant-loop-name : goal.invariant-loop-name
invariant-loop-name l = record {
  written : l.out ≡ l.fn.out ++ (length l.names ∷ flat_map name_spelling (take l.name-index l.name-items));
  storable : All IsStorableName (take l.name-index l.name-items);
}
