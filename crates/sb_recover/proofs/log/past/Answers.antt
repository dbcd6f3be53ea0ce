use Rattle.std.proofs.Common.{◌≡◌, ℕ, Option, sym, ap, subst, arith}
use Rattle.sb_disk.specs.Disk.{Story, Range}
use Rattle.sb_images.specs.Layout.{log_of}
use Rattle.sb_images.specs.Store.{AreChunks}
use Rattle.sb_journal.specs.Calls.{OpenErr}
use Rattle.sb_journal.specs.Opening.{Opened}
use Rattle.sb_recover.specs.declared.fault.OpenFault.{OpenFault}
use Rattle.sb_recover.specs.BadLog.{LogErr, RowsErr}
use Rattle.sb_recover.specs.Frames.{texts}
use Rattle.sb_recover.proofs.BadLemmas.{LogErr-rows, LogErr-past, LogErr-open}
use Rattle.sb_recover.proofs.log.past.Goals as goal

pub returns-in-Err-clause-refused : goal.returns-in-Err-clause-refused
returns-in-Err-clause-refused g c =
    let room = c.requires.room in
    let start : c.gate_region.result.start ≡ 4096 = ap (λ (r : Range). r.start) c.gate_region.ensures in
    let err = subst (λ (n : ℕ). OpenErr (g.D.Disk.told c.args.disk.now) (record { start = n; len = c.args.chunk }) (log_of c.args.g.now) c.in-Err.fault) start
    (subst (λ (r : Range). OpenErr (g.D.Disk.told c.args.disk.now) (record { start = c.gate_region.result.start; len = c.args.chunk }) r c.in-Err.fault) c.log_region.ensures c.in-Err.ensures.refused) in
    subst (λ (e : OpenFault). LogErr (g.D.Disk.told c.args.disk.now) c.args.g.now e) (sym c.into.ensures)
    (LogErr-open (g.D.Disk.len c.args.disk.now) (g.D.Disk.clock c.args.disk.now) c.args.g.now c.args.chunk c.requires.gate c.requires.sizes (omega (arith, room)) (g.D.Disk.told c.args.disk.now) c.in-Err.fault c.requires.past err)

pub returns-in-Ok-read_rows-clause-refused : goal.returns-in-Ok-read_rows-clause-refused
returns-in-Ok-read_rows-clause-refused g c =
    let room = c.requires.room in
    let start : c.gate_region.result.start ≡ 4096 = ap (λ (r : Range). r.start) c.gate_region.ensures in
    let opened = subst (λ (n : ℕ). Opened (g.D.Disk.told c.args.disk.now) (record { start = n; len = c.args.chunk }) (log_of c.args.g.now) c.in-Ok.journal) start
    (subst (λ (r : Range). Opened (g.D.Disk.told c.args.disk.now) (record { start = c.gate_region.result.start; len = c.args.chunk }) r c.in-Ok.journal) c.log_region.ensures c.in-Ok.ensures.ok) in
    let are = subst (λ (t : Option Story). AreChunks t c.in-Ok.journal (texts c.in-Ok-read_rows.field-0.items)) c.open.ensures.reads.story c.in-Ok-read_rows.ensures.chunks in
    LogErr-past (g.D.Disk.len c.args.disk.now) (g.D.Disk.clock c.args.disk.now) c.args.g.now c.args.chunk c.requires.gate c.requires.sizes (omega (arith, room)) (g.D.Disk.told c.args.disk.now) c.in-Ok.journal (texts c.in-Ok-read_rows.field-0.items)
    (g.met.D.Disk.fits c.args.disk.now) c.requires.past opened are c.in-Ok-read_rows.ensures.rows

pub returns-clause-refused : goal.returns-clause-refused
returns-clause-refused g c =
    let room = c.requires.room in let gate = c.requires.gate in
    let start : c.gate_region.result.start ≡ 4096 = ap (λ (r : Range). r.start) c.gate_region.ensures in
    let opened = subst (λ (n : ℕ). Opened (g.D.Disk.told c.args.disk.now) (record { start = n; len = c.args.chunk }) (log_of c.args.g.now) c.in-Ok.journal) start
    (subst (λ (r : Range). Opened (g.D.Disk.told c.args.disk.now) (record { start = c.gate_region.result.start; len = c.args.chunk }) r c.in-Ok.journal) c.log_region.ensures c.in-Ok.ensures.ok) in
    let err = subst (λ (t : Option Story). RowsErr t c.in-Ok.journal c.in-Err-read_rows.fault) c.open.ensures.reads.story c.in-Err-read_rows.ensures.refused in
    LogErr-rows (g.D.Disk.told c.args.disk.now) (g.D.Disk.len c.args.disk.now) (g.D.Disk.clock c.args.disk.now) (g.met.D.Disk.fits c.args.disk.now) c.args.g.now c.args.chunk (omega (arith, gate)) (omega (arith, room)) c.in-Ok.journal opened c.in-Ok.ensures.sound
    c.in-Err-read_rows.fault err
