use Rattle.sb_txn.specs.Parts.{parts}
use Rattle.sb_txn.proofs.KeepsLemmas.{StaysReady-up}
use Rattle.sb_txn.proofs.RoomLemmas.{Grows-rest}
use Rattle.sb_space.proofs.GoingBack.{HasPages-back, standing-back, WasAt-back}
use Rattle.sb_space.proofs.Transacting.{Kept-ok, sizes-same, the_one, Serves-back}
use Rattle.sb_space.proofs.transactions.Space.back_to.Goals as goal

pub returns-in-Ok-clause-back : goal.returns-in-Ok-clause-back
returns-in-Ok-clause-back g c =
    let told = g.D.Disk.told in
    let len = g.D.Disk.len in
    let faults = g.D.Disk.faults in
    let d = c.args.disk.now in
    let e = c.back_to.new.disk in
    let s = c.args.self.now.store in
    let t = c.back_to.new.self in
    let keeps = c.in-Ok.ensures.keeps in
    let tx = c.args.tx.now.store.number in
    let m = c.args.mark.store.changes in
    let found = the_one told len faults tx d e s t keeps c.requires.ready.alone in
    let goes = c.in-Ok.ensures.back found.0 found.1 in
    HasPages-back tx m (parts told len d s) (parts told len e t) found.0 found.1 (sizes-same told len faults d e s t _ keeps) c.in-Ok.ensures.any_moment goes.pages

pub returns-in-Ok-clause-earlier : goal.returns-in-Ok-clause-earlier
returns-in-Ok-clause-earlier g c =
    let told = g.D.Disk.told in
    let len = g.D.Disk.len in
    let faults = g.D.Disk.faults in
    let d = c.args.disk.now in
    let e = c.back_to.new.disk in
    let s = c.args.self.now.store in
    let t = c.back_to.new.self in
    let keeps = c.in-Ok.ensures.keeps in
    let tx = c.args.tx.now.store.number in
    let m = c.args.mark.store.changes in
    let found = the_one told len faults tx d e s t keeps c.requires.ready.alone in
    let goes = c.in-Ok.ensures.back found.0 found.1 in
    WasAt-back tx m (parts told len d s) (parts told len e t) found.0 found.1 (sizes-same told len faults d e s t _ keeps) c.in-Ok.ensures.any_moment goes
    (c.requires.mark (StaysReady-up told len faults tt d e s t keeps))

pub returns-in-Ok-clause-standing : goal.returns-in-Ok-clause-standing
returns-in-Ok-clause-standing g c =
    let told = g.D.Disk.told in
    let len = g.D.Disk.len in
    let faults = g.D.Disk.faults in
    let d = c.args.disk.now in
    let e = c.back_to.new.disk in
    let s = c.args.self.now.store in
    let t = c.back_to.new.self in
    let keeps = c.in-Ok.ensures.keeps in
    let tx = c.args.tx.now.store.number in
    let m = c.args.mark.store.changes in
    let found = the_one told len faults tx d e s t keeps c.requires.ready.alone in
    let goes = c.in-Ok.ensures.back found.0 found.1 in
    standing-back tx m (parts told len d s) (parts told len e t) found.0 found.1 (sizes-same told len faults d e s t _ keeps) c.in-Ok.ensures.any_moment goes
    (c.requires.mark (StaysReady-up told len faults tt d e s t keeps))

pub returns-in-Ok-clause-serves : goal.returns-in-Ok-clause-serves
returns-in-Ok-clause-serves g c =
    let told = g.D.Disk.told in
    let len = g.D.Disk.len in
    let faults = g.D.Disk.faults in
    let d = c.args.disk.now in
    let e = c.back_to.new.disk in
    let s = c.args.self.now.store in
    let t = c.back_to.new.self in
    let keeps = c.in-Ok.ensures.keeps in
    let tx = c.args.tx.now.store.number in
    let m = c.args.mark.store.changes in
    let found = the_one told len faults tx d e s t keeps c.requires.ready.alone in
    let goes = c.in-Ok.ensures.back found.0 found.1 in
    Serves-back told len faults tx d e s t _ m keeps c.in-Ok.ensures.back tt c.requires.ready

pub returns-in-Ok-clause-grows : goal.returns-in-Ok-clause-grows
returns-in-Ok-clause-grows g c =
    let told = g.D.Disk.told in
    let len = g.D.Disk.len in
    let faults = g.D.Disk.faults in
    let d = c.args.disk.now in
    let e = c.back_to.new.disk in
    let s = c.args.self.now.store in
    let t = c.back_to.new.self in
    let keeps = c.in-Ok.ensures.keeps in
    let tx = c.args.tx.now.store.number in
    let m = c.args.mark.store.changes in
    let found = the_one told len faults tx d e s t keeps c.requires.ready.alone in
    let goes = c.in-Ok.ensures.back found.0 found.1 in
    Grows-rest s t goes.journal

pub returns-in-Ok-clause-keeps : goal.returns-in-Ok-clause-keeps
returns-in-Ok-clause-keeps g c =
    Kept-ok g.D.Disk.told g.D.Disk.len g.D.Disk.faults c.args.disk.now c.back_to.new.disk c.args.self.now.store c.back_to.new.self tt tt c.in-Ok.ensures.keeps

pub returns-in-Ok-clause-wanted : goal.returns-in-Ok-clause-wanted
returns-in-Ok-clause-wanted g c =
    let keeps = c.in-Ok.ensures.keeps in
    let found = the_one g.D.Disk.told g.D.Disk.len g.D.Disk.faults c.args.tx.now.store.number c.args.disk.now c.back_to.new.disk c.args.self.now.store c.back_to.new.self keeps c.requires.ready.alone in
    let goes = c.in-Ok.ensures.back found.0 found.1 in
    λ want now store. (_, goes.pages want now store)
