use Rattle.std.proofs.Common.{◌≡◌, ◌≤◌, length, take}
use Rattle.sb_memory.specs.Contents.{slots}
use Rattle.sb_memory.specs.Writes.{AreAmong}
use Rattle.sb_memory.proofs.slots.make_room.Given as goal

abbrev pub invariant-loop-write : goal.invariant-loop-write
invariant-loop-write l = record {
  same : slots l.pages.items ≡ slots l.fn.pages.items;
  least : length l.fn.pages.items ≤ length l.pages.items;
  most : length l.pages.items ≤ 16384;
  among : AreAmong (length l.pages.items) (take l.write-index l.writes);
}
