use Rattle.std.proofs.Common.{take}
use Rattle.sb_opening.specs.Naming.{HasLive}
use Rattle.sb_opening.proofs.moving.make_live.Given as goal

-- those so far are live
abbrev pub invariant-loop-one : goal.invariant-loop-one
invariant-loop-one g l = HasLive (g.B.Boxes.meanings l.fn.boxes) (take l.one-index l.named) (g.B.Boxes.meanings l.boxes)
