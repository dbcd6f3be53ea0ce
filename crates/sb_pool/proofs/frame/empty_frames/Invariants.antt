use Rattle.std.proofs.Common.{◌≡◌, None, length, map, replicate}
use Rattle.std.specs.List.{All}
use Rattle.sb_pool.specs.Frames.{IsFrame, held_of}
use Rattle.sb_pool.proofs.frame.empty_frames.Given as goal

abbrev pub invariant-loop : goal.invariant-loop
invariant-loop l = record {
  count : length l.frames.items ≡ l.counter;
  long : All IsFrame l.frames.items;
  nothing : map held_of l.frames.items ≡ replicate l.counter None;
}
