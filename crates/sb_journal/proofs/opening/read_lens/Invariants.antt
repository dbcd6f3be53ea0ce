use Rattle.std.proofs.Common.{◌≡◌, ◌≤◌, length}
use Rattle.std.specs.Prelude.{vec_capacity}
use Rattle.sb_journal.specs.Chunks.{bytes_of, places_from}
use Rattle.sb_journal.specs.Opening.{Begins}
use Rattle.sb_journal.specs.View.{range_of}
use Rattle.sb_journal.proofs.opening.read_lens.Given as goal

abbrev pub invariant-loop-count : goal.invariant-loop-count
invariant-loop-count g l = record {
  count : length l.lens.items ≡ l.count;
  read : Begins (g.D.Disk.told l.fn.disk) (range_of l.fn.gates) (range_of l.log) l.lens.items;
  used : l.used ≡ bytes_of l.lens.items;
  fits : l.used ≤ l.log.len;
  memory : vec_capacity l.fn.lens ≤ vec_capacity l.lens;
  places : l.places.items ≡ places_from 0 l.lens.items;
  place_memory : vec_capacity l.fn.places ≤ vec_capacity l.places;
  told : g.D.Disk.told l.disk ≡ g.D.Disk.told l.fn.disk;
  len : g.D.Disk.len l.disk ≡ g.D.Disk.len l.fn.disk;
  faults : g.D.Disk.faults l.fn.disk ≤ g.D.Disk.faults l.disk;
}
