use Rattle.std.proofs.Common.{take}
use Rattle.std.specs.Ordering.{nat_cmp}
use Rattle.std.specs.BTreeSet.{contains_by}
use Rattle.sb_journal.specs.Opening.{OnlyReads}
use Rattle.sb_recover.specs.Changes.{changes_of}
use Rattle.sb_recover.specs.Frames.{texts, AreFrames, ChangedOn}
use Rattle.sb_recover.proofs.restored.write_changes.Given as goal

abbrev pub invariant-loop-change : goal.invariant-loop-change
invariant-loop-change g l = record {
  changed : ChangedOn (g.D.Disk.told l.fn.disk) l.g (λ tx. contains_by (nat_cmp tx) l.committed) (changes_of (take l.change-index l.changes)) (texts l.fn.frames.items) (texts l.frames.items);
  frames : AreFrames l.g.pages (texts l.frames.items);
  reads : OnlyReads g.D.Disk.told g.D.Disk.len g.D.Disk.faults l.fn.disk l.disk;
}
