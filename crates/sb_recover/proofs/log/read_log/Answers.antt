use Rattle.std.proofs.Common.{Option, subst, arith}
use Rattle.sb_disk.specs.Disk.{Story, Range}
use Rattle.sb_images.specs.Layout.{log_of}
use Rattle.sb_journal.specs.Opening.{Opened}
use Rattle.sb_journal.specs.View.{range_of}
use Rattle.sb_recover.specs.BadLog.{RowsErr}
use Rattle.sb_recover.proofs.BadLemmas.{LogErr-rows}
use Rattle.sb_recover.proofs.log.read_log.Goals as goal

pub returns-in-Err-read_rows-clause-refused : goal.returns-in-Err-read_rows-clause-refused
returns-in-Err-read_rows-clause-refused g c =
    let room = c.requires.room in
    let opened = subst (λ (r : Range). Opened (g.D.Disk.told c.args.disk.now) r (log_of c.args.g.now) c.in-Ok.journal) c.gate_region.ensures
    (subst (λ (r : Range). Opened (g.D.Disk.told c.args.disk.now) (range_of c.gate_region.result) r c.in-Ok.journal) c.log_region.ensures c.in-Ok.ensures.ok) in
    let err = subst (λ (t : Option Story). RowsErr t c.in-Ok.journal c.in-Err-read_rows.fault) c.open.ensures.reads.story c.in-Err-read_rows.ensures.refused in
    LogErr-rows (g.D.Disk.told c.args.disk.now) (g.D.Disk.len c.args.disk.now) (g.D.Disk.clock c.args.disk.now) (g.met.D.Disk.fits c.args.disk.now) c.args.g.now 65536 (omega arith) (omega (arith, room)) c.in-Ok.journal opened c.in-Ok.ensures.sound
    c.in-Err-read_rows.fault err
