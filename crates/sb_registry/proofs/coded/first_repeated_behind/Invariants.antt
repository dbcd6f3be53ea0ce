use Rattle.std.proofs.Common.{◌≡◌, ◌++◌, map, take, drop}
use Rattle.sb_registry.specs.Codes.{first_repeat}
use Rattle.sb_registry.proofs.coded.first_repeated_behind.Given as goal

abbrev pub invariant-loop-i : goal.invariant-loop-i
invariant-loop-i g l =
    first_repeat (map g.B.Coded.code_of l.front ++ map g.B.Coded.code_of (take l.i l.boxes)) (map g.B.Coded.code_of (drop l.i l.boxes))
    ≡ first_repeat (map g.B.Coded.code_of l.front) (map g.B.Coded.code_of l.boxes)
