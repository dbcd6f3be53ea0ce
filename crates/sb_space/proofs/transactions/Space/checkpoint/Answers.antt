use Rattle.std.proofs.Common.{[]}
use Rattle.sb_txn.specs.Parts.{parts}
use Rattle.sb_space.proofs.Transacting.{Kept-ok, sizes-same, HasPages-stays}
use Rattle.sb_space.proofs.transactions.Space.checkpoint.Goals as goal

pub returns-in-Ok-clause-pages : goal.returns-in-Ok-clause-pages
returns-in-Ok-clause-pages g c =
    let told = g.D.Disk.told in
    let len = g.D.Disk.len in
    let faults = g.D.Disk.faults in
    let d = c.args.disk.now in
    let e = c.checkpoint.new.disk in
    let s = c.args.self.now.store in
    let t = c.checkpoint.new.self in
    let keeps = c.in-Ok.ensures.keeps in
    HasPages-stays (parts told len d s) (parts told len e t) (sizes-same told len faults d e s t _ keeps) c.in-Ok.ensures.any_moment
    (λ want now store. ([], [], c.in-Ok.ensures.checkpoints.pages want now store))

pub returns-in-Ok-clause-keeps : goal.returns-in-Ok-clause-keeps
returns-in-Ok-clause-keeps g c =
    let told = g.D.Disk.told in
    let len = g.D.Disk.len in
    let faults = g.D.Disk.faults in
    let d = c.args.disk.now in
    let e = c.checkpoint.new.disk in
    let s = c.args.self.now.store in
    let t = c.checkpoint.new.self in
    let keeps = c.in-Ok.ensures.keeps in
    Kept-ok told len faults d e s t tt tt keeps

pub returns-in-Ok-clause-wanted : goal.returns-in-Ok-clause-wanted
returns-in-Ok-clause-wanted g c = λ want now store. (now, ([], [], c.in-Ok.ensures.checkpoints.pages want now store))
