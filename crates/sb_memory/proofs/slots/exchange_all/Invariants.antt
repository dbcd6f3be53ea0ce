use Rattle.std.proofs.Common.{◌≡◌, length, take, drop}
use Rattle.sb_memory.specs.Contents.{slots}
use Rattle.sb_drive.specs.Slots.{AreWhole}
use Rattle.sb_memory.specs.Writes.{written, undone, AreAmong, ArePagesTo}
use Rattle.sb_memory.proofs.slots.exchange_all.Given as goal

abbrev pub invariant-loop-write : goal.invariant-loop-write
invariant-loop-write l = record {
  rest : written (drop l.write-index l.writes) (slots l.pages) ≡ written l.fn.writes (slots l.fn.pages);
  back : undone (take l.write-index l.writes) (slots l.pages) ≡ slots l.fn.pages;
  among : AreAmong (length l.pages) l.writes;
  len : length l.pages ≡ length l.fn.pages;
  whole : AreWhole (slots l.fn.pages) → ArePagesTo l.fn.writes → AreWhole (slots l.pages) × ArePagesTo l.writes;
  as_many : length l.writes ≡ length l.fn.writes;
}
