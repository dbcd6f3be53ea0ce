use Rattle.sb_txn.proofs.RoomLemmas.{Grows-rest}
use Rattle.sb_space.proofs.Transacting.{Kept-ok, the_one, none_else, none-ended, HasPages-aborted, HasPages-wanted}
use Rattle.sb_space.proofs.transactions.Space.abort.Goals as goal

pub returns-in-Ok-clause-pages : goal.returns-in-Ok-clause-pages
returns-in-Ok-clause-pages g c =
    let told = g.D.Disk.told in
    let len = g.D.Disk.len in
    let faults = g.D.Disk.faults in
    let d = c.args.disk.now in
    let e = c.abort.new.disk in
    let s = c.args.self.now.store in
    let t = c.abort.new.self in
    let keeps = c.in-Ok.ensures.keeps in
    let only = c.requires.ready.alone in
    let tx = c.args.tx.store.number in
    let found = the_one told len faults tx d e s t keeps only in
    let aborts = c.in-Ok.ensures.aborts found.0 found.1 in
    HasPages-aborted told len faults tx d e s t keeps only c.in-Ok.ensures.any_moment aborts

pub returns-in-Ok-clause-alone : goal.returns-in-Ok-clause-alone
returns-in-Ok-clause-alone g c =
    let told = g.D.Disk.told in
    let len = g.D.Disk.len in
    let faults = g.D.Disk.faults in
    let d = c.args.disk.now in
    let e = c.abort.new.disk in
    let s = c.args.self.now.store in
    let t = c.abort.new.self in
    let keeps = c.in-Ok.ensures.keeps in
    let only = c.requires.ready.alone in
    let tx = c.args.tx.store.number in
    let found = the_one told len faults tx d e s t keeps only in
    let aborts = c.in-Ok.ensures.aborts found.0 found.1 in
    HasPages-wanted told len faults tx d e s t keeps only c.in-Ok.ensures.any_moment aborts

pub returns-in-Ok-clause-none : goal.returns-in-Ok-clause-none
returns-in-Ok-clause-none g c =
    let told = g.D.Disk.told in
    let len = g.D.Disk.len in
    let faults = g.D.Disk.faults in
    let d = c.args.disk.now in
    let e = c.abort.new.disk in
    let s = c.args.self.now.store in
    let t = c.abort.new.self in
    let keeps = c.in-Ok.ensures.keeps in
    let only = c.requires.ready.alone in
    let tx = c.args.tx.store.number in
    let found = the_one told len faults tx d e s t keeps only in
    let aborts = c.in-Ok.ensures.aborts found.0 found.1 in
    none-ended told len faults tx d e s t keeps only _ (none_else told len faults tx d e s t keeps only) aborts.book

pub returns-in-Ok-clause-grows : goal.returns-in-Ok-clause-grows
returns-in-Ok-clause-grows g c =
    let told = g.D.Disk.told in
    let len = g.D.Disk.len in
    let faults = g.D.Disk.faults in
    let d = c.args.disk.now in
    let e = c.abort.new.disk in
    let s = c.args.self.now.store in
    let t = c.abort.new.self in
    let keeps = c.in-Ok.ensures.keeps in
    let only = c.requires.ready.alone in
    let tx = c.args.tx.store.number in
    let found = the_one told len faults tx d e s t keeps only in
    let aborts = c.in-Ok.ensures.aborts found.0 found.1 in
    Grows-rest s t aborts.journal

pub returns-in-Ok-clause-keeps : goal.returns-in-Ok-clause-keeps
returns-in-Ok-clause-keeps g c =
    Kept-ok g.D.Disk.told g.D.Disk.len g.D.Disk.faults c.args.disk.now c.abort.new.disk c.args.self.now.store c.abort.new.self tt tt c.in-Ok.ensures.keeps

pub returns-in-Ok-clause-wanted : goal.returns-in-Ok-clause-wanted
returns-in-Ok-clause-wanted g c =
    let keeps = c.in-Ok.ensures.keeps in
    let found = the_one g.D.Disk.told g.D.Disk.len g.D.Disk.faults c.args.tx.store.number c.args.disk.now c.abort.new.disk c.args.self.now.store c.abort.new.self keeps c.requires.ready.alone in
    let aborts = c.in-Ok.ensures.aborts found.0 found.1 in
    λ want now store. (_, aborts.pages want now store)
