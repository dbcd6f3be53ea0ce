use Rattle.std.proofs.Common.{◌≡◌, ◌∷◌, ◌++◌, map, take}
use Rattle.sb_opening.proofs.codes.add_owners.Given as goal

abbrev pub invariant-loop-attached : goal.invariant-loop-attached
invariant-loop-attached l = l.owners.items ≡ l.fn.owners.items ++ (l.descriptor.owner ∷ map (λ a. a.owner) (take l.attached-index l.attached-items))
