use Rattle.std.proofs.Common.{◌≡◌, ◌∷◌, map, take}
use Rattle.sb_tables.proofs.descriptors.owners_of.Given as goal

abbrev pub invariant-loop-attached : goal.invariant-loop-attached
invariant-loop-attached l = l.owners.items ≡ l.descriptor.owner ∷ map (λ a. a.owner) (take l.attached-index l.attached-items)
