use Rattle.std.proofs.Common.{◌≡◌, take}
use Rattle.std.specs.List.{flat_map}
use Rattle.sb_fold.specs.Wishes.{const_of}
use Rattle.sb_cascade.proofs.changes.row_of.Given as goal

abbrev pub invariant-loop-term : goal.invariant-loop-term
invariant-loop-term l = l.row.items ≡ flat_map const_of (take l.term-index l.terms)
