use Rattle.std.proofs.Common.{ap}
use Rattle.sb_disk.specs.Disk.{Range}
use Rattle.sb_txn.proofs.KeepsLemmas.{StaysReady-up}
use Rattle.sb_txn.specs.Parts.{parts}
use Rattle.sb_space.proofs.Changed.{regions_of}
use Rattle.sb_space.proofs.Transacting.{HasSpent-begun, Kept-ok, sizes-same, Serves-begun, standing-begun, HasPages-stays}
use Rattle.sb_space.proofs.transactions.Space.begin.Goals as goal

pub returns-in-Ok-clause-begun : goal.returns-in-Ok-clause-begun
returns-in-Ok-clause-begun g c =
    let told = g.D.Disk.told in
    let len = g.D.Disk.len in
    let faults = g.D.Disk.faults in
    let d = c.args.disk.now in
    let e = c.begin.new.disk in
    let s = c.args.self.now.store in
    let t = c.begin.new.self in
    let keeps = c.in-Ok.ensures.keeps in
    let tx = c.in-Ok.store.number in
    let begins = c.in-Ok.ensures.begins in (
      Serves-begun told len faults d e s t c.in-Ok.store tx keeps begins c.requires.none c.requires.few,
      standing-begun told len faults d e s t c.in-Ok.store tx keeps begins c.requires.none,
    )

pub returns-in-Ok-clause-pages : goal.returns-in-Ok-clause-pages
returns-in-Ok-clause-pages g c =
    let told = g.D.Disk.told in
    let len = g.D.Disk.len in
    let faults = g.D.Disk.faults in
    let d = c.args.disk.now in
    let e = c.begin.new.disk in
    let s = c.args.self.now.store in
    let t = c.begin.new.self in
    let keeps = c.in-Ok.ensures.keeps in
    HasPages-stays (parts told len d s) (parts told len e t) (sizes-same told len faults d e s t _ keeps) c.in-Ok.ensures.any_moment c.in-Ok.ensures.begins.pages

pub returns-in-Ok-clause-keeps : goal.returns-in-Ok-clause-keeps
returns-in-Ok-clause-keeps g c =
    let told = g.D.Disk.told in
    let len = g.D.Disk.len in
    let faults = g.D.Disk.faults in
    let d = c.args.disk.now in
    let e = c.begin.new.disk in
    let s = c.args.self.now.store in
    let t = c.begin.new.self in
    let keeps = c.in-Ok.ensures.keeps in
    Kept-ok told len faults d e s t c.in-Ok.store _ keeps

pub returns-in-Ok-clause-spent : goal.returns-in-Ok-clause-spent
returns-in-Ok-clause-spent g c =
    let told = g.D.Disk.told in
    let len = g.D.Disk.len in
    let d = c.args.disk.now in
    let s = c.args.self.now.store in
    let keeps = c.in-Ok.ensures.keeps in
    let regions = regions_of (parts told len d s) c.requires.ready (StaysReady-up told len g.D.Disk.faults c.in-Ok.store d c.begin.new.disk s c.begin.new.self keeps) in
    HasSpent-begun told len g.D.Disk.faults d c.begin.new.disk s c.begin.new.self c.in-Ok.store c.in-Ok.store.number keeps c.in-Ok.ensures.begins c.requires.none (ap (λ (r : Range). r.len) regions.0)
