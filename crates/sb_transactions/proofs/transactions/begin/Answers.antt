use Rattle.std.proofs.Common.{refl}
use Rattle.sb_tables.specs.Refusals.{refusal_of}
use Rattle.sb_txn.specs.Parts.{parts}
use Rattle.sb_transactions.proofs.CallLemmas.{IsOnlyFault-of, KeepsWanted-fault}
use Rattle.sb_transactions.proofs.StayLemmas.{MayStayOpen-as}
use Rattle.sb_transactions.proofs.PointLemmas.{IsAt-first, Rests-stays, WasBegun-first}
use Rattle.sb_transactions.proofs.WorkLemmas.{IsUsable-first}
use Rattle.sb_transactions.proofs.transactions.begin.Goals as goal

pub returns-in-Ok-clause-usable : goal.returns-in-Ok-clause-usable
returns-in-Ok-clause-usable g c = λ m place owner all.
    let told = g.D.Disk.told in
    let len = g.D.Disk.len in
    IsUsable-first m place c.in-Ok.tx.store.number (parts told len c.begin.new.disk c.begin.new.self.store) c.new_work.result c.args.opened.items c.in-Ok.ensures.begun.0 owner all c.new_work.ensures.opened
    c.new_work.ensures.done

pub returns-in-Ok-clause-begun : goal.returns-in-Ok-clause-begun
returns-in-Ok-clause-begun g c = λ m root want db rests.
    let told = g.D.Disk.told in
    let len = g.D.Disk.len in
    WasBegun-first m root want db c.in-Ok.tx.store.number (parts told len c.args.disk.now c.args.space.now.store) (parts told len c.begin.new.disk c.begin.new.self.store)
    c.in-Ok.ensures.keeps.geometry c.in-Ok.ensures.pages rests c.in-Ok.ensures.begun.1

pub returns-in-Ok-clause-at : goal.returns-in-Ok-clause-at
returns-in-Ok-clause-at g c = λ m place want h owner first rests stay.
    let told = g.D.Disk.told in
    let len = g.D.Disk.len in
    let q = parts told len c.begin.new.disk c.begin.new.self.store in
    let p = parts told len c.args.disk.now c.args.space.now.store in
    IsAt-first m place want c.in-Ok.tx.store.number h q c.new_work.result c.args.opened.items c.in-Ok.ensures.begun.0 owner first
    (Rests-stays m place.root want h.db c.in-Ok.tx.store.number p q c.in-Ok.ensures.keeps.geometry c.in-Ok.ensures.pages rests)
    (MayStayOpen-as m place.root want p.store.pool.geometry q.store.pool.geometry c.args.opened.items c.args.opened.items c.in-Ok.ensures.keeps.geometry refl stay)
    c.new_work.ensures.queue c.new_work.ensures.done c.new_work.ensures.gone c.new_work.ensures.opened c.new_work.ensures.picks

pub returns-in-Ok-clause-pages : goal.returns-in-Ok-clause-pages
returns-in-Ok-clause-pages g c = c.in-Ok.ensures.begins.pages

pub returns-in-Ok-clause-any_moment : goal.returns-in-Ok-clause-any_moment
returns-in-Ok-clause-any_moment g c = record { leaves = c.in-Ok.ensures.any_moment; stays = λ up want now store. (now, c.in-Ok.ensures.begins.pages want now store) }

pub returns-in-Err-clause-any_moment : goal.returns-in-Err-clause-any_moment
returns-in-Err-clause-any_moment g c =
    KeepsWanted-fault (refusal_of c.in-Err.fault) (parts g.D.Disk.told g.D.Disk.len c.args.disk.now c.args.space.now.store) (parts g.D.Disk.told g.D.Disk.len c.begin.new.disk c.begin.new.self.store) (IsOnlyFault-of g.D.Disk.told g.D.Disk.len g.D.Disk.faults c.args.disk.now c.begin.new.disk c.args.space.now.store c.begin.new.self.store c.in-Err.fault c.in-Err.ensures.err c.in-Err.ensures.keeps) c.in-Err.ensures.any_moment
