use Rattle.std.proofs.Common.{◌≡◌, ◌++◌, map, take, drop}
use Rattle.std.specs.List.{All}
use Rattle.sb_pool.specs.Frames.{IsFrame, held_of}
use Rattle.sb_pool.specs.State.{cleaned}
use Rattle.sb_pool.proofs.flushing.mark_all_clean.Given as goal

abbrev pub invariant-loop-frame : goal.invariant-loop-frame
invariant-loop-frame l = record {
  clean : map held_of l.frames ≡ map cleaned (take l.frame-index (map held_of l.initial.frames)) ++ drop l.frame-index (map held_of l.initial.frames);
  long : All IsFrame l.frames;
}
