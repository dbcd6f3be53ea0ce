use Rattle.std.proofs.Common.{◌≡◌, None, not, take}
use Rattle.std.specs.List.{find}
use Rattle.sb_opening.specs.Naming.{is_there}
use Rattle.sb_opening.proofs.moving.absent.Given as goal

-- of each of those so far there is a box
abbrev pub invariant-loop-one : goal.invariant-loop-one
invariant-loop-one g l = find (λ n. not (is_there (g.B.Boxes.meanings l.boxes) n)) (take l.one-index l.named) ≡ None
