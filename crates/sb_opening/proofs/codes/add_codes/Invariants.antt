use Rattle.std.proofs.Common.{◌≡◌, ◌∷◌, ◌++◌, map, take}
use Rattle.sb_opening.specs.Naming.{named_attachment, named_method}
use Rattle.sb_opening.proofs.codes.add_codes.Given as goal

abbrev pub invariant-loop-attached : goal.invariant-loop-attached
invariant-loop-attached l = l.codes.items ≡ l.fn.codes.items ++ (named_method l.descriptor.method ∷ map named_attachment (take l.attached-index l.attached-items))
