use Rattle.std.proofs.Common.{◌≡◌, length}
use Rattle.sb_journal.specs.Opening.{OnlyReads}
use Rattle.sb_recover.specs.BadLog.{AreShort}
use Rattle.sb_recover.specs.Frames.{texts}
use Rattle.sb_recover.proofs.LogLemmas.{FirstChunks}
use Rattle.sb_recover.proofs.log.read_chunks.Given as goal

abbrev pub invariant-loop-i : goal.invariant-loop-i
invariant-loop-i g l = record {
  first : FirstChunks (g.D.Disk.told l.fn.disk) l.fn.journal l.i (texts l.chunks.items);
  short : AreShort (texts l.chunks.items);
  count : length l.chunks.items ≡ l.i;
  journal : l.journal ≡ l.fn.journal;
  reads : OnlyReads g.D.Disk.told g.D.Disk.len g.D.Disk.faults l.fn.disk l.disk;
}
