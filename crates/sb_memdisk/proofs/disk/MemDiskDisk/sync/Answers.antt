use Rattle.std.proofs.Common.{rules, ◌≡◌}
use Rattle.sb_disk.specs.Disk.{after_idle, LostSync}
use Rattle.sb_disk.proofs.RangeLemmas.{AgreesBut-same}
use Rattle.sb_memdisk.proofs.disk.MemDiskDisk.sync.Goals as goal

pub returns-then-is_failing-clause-err : goal.returns-then-is_failing-clause-err
returns-then-is_failing-clause-err c =
    let idle : c.idle.new.self.story ≡ after_idle c.args.self.now.story = search rules in
    LostSync c.args.self.now.story.now.reads (AgreesBut-same c.args.self.now.story.now.written c.args.self.now.story.now.reads) idle
