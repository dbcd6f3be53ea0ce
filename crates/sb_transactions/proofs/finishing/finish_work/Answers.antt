use Rattle.std.proofs.Common.{ap, sym, ◌∙◌}
use Rattle.sb_txn.specs.declared.store.Tx.{Tx}
use Rattle.sb_transactions.proofs.LentLemmas.{IsStoreLent, begun-lent, faulted-lent, finished-lent, points-lent, refused-lent, roomless-lent, was-lent}
use Rattle.sb_transactions.proofs.finishing.finish_work.Goals as goal

pub returns-clause-finished : goal.returns-clause-finished
returns-clause-finished g c =
    let told = g.D.Disk.told in
    let len = g.D.Disk.len in
    let faults = g.D.Disk.faults in
    let m = g.B.Boxes.meanings c.args.boxes.now in
    let tx = c.args.transaction.now.tx.store.number in
    let is : IsStoreLent c.args.disk.now c.args.space.now.store tx c.new-pages.result =
    record { store_is = c.new-pages.ensures.store; disk_is = c.new-pages.ensures.disk; tx_is = ap (λ (t : Tx). t.number) c.new-pages.ensures.tx } in
    let same = c.disk-1.given.1 (sym (c.finish_over.ensures.leads.1.disk ∙ c.new-pages.ensures.same_disk)) in
    finished-lent told len faults m c.args.place c.args.disk.now c.args.space.now.store tx c.new-pages.result c.finish_over.new.space c.args.transaction.now.work c.finish_over.new.work is c.finish_over.ensures.leads c.finish_over.ensures.ready _ same c.finish_over.result c.finish_over.ensures.made

pub returns-clause-refused : goal.returns-clause-refused
returns-clause-refused g c =
    let told = g.D.Disk.told in
    let len = g.D.Disk.len in
    let faults = g.D.Disk.faults in
    let m = g.B.Boxes.meanings c.args.boxes.now in
    let tx = c.args.transaction.now.tx.store.number in
    let is : IsStoreLent c.args.disk.now c.args.space.now.store tx c.new-pages.result =
    record { store_is = c.new-pages.ensures.store; disk_is = c.new-pages.ensures.disk; tx_is = ap (λ (t : Tx). t.number) c.new-pages.ensures.tx } in
    let same = c.disk-1.given.1 (sym (c.finish_over.ensures.leads.1.disk ∙ c.new-pages.ensures.same_disk)) in
    refused-lent told len faults m c.args.place c.args.disk.now c.args.space.now.store tx c.new-pages.result c.finish_over.new.space c.args.transaction.now.work c.finish_over.new.work is c.finish_over.ensures.leads c.finish_over.ensures.ready _ same c.finish_over.result c.finish_over.ensures.refused

pub returns-clause-fault : goal.returns-clause-fault
returns-clause-fault g c =
    let told = g.D.Disk.told in
    let len = g.D.Disk.len in
    let faults = g.D.Disk.faults in
    let m = g.B.Boxes.meanings c.args.boxes.now in
    let tx = c.args.transaction.now.tx.store.number in
    let is : IsStoreLent c.args.disk.now c.args.space.now.store tx c.new-pages.result =
    record { store_is = c.new-pages.ensures.store; disk_is = c.new-pages.ensures.disk; tx_is = ap (λ (t : Tx). t.number) c.new-pages.ensures.tx } in
    let same = c.disk-1.given.1 (sym (c.finish_over.ensures.leads.1.disk ∙ c.new-pages.ensures.same_disk)) in
    faulted-lent told len faults m c.args.place c.args.disk.now c.args.space.now.store tx c.new-pages.result c.finish_over.new.space c.args.transaction.now.work c.finish_over.new.work is c.finish_over.ensures.leads c.finish_over.ensures.ready _ same c.finish_over.result c.finish_over.ensures.fault

pub returns-clause-room : goal.returns-clause-room
returns-clause-room g c =
    let told = g.D.Disk.told in
    let len = g.D.Disk.len in
    let faults = g.D.Disk.faults in
    let m = g.B.Boxes.meanings c.args.boxes.now in
    let tx = c.args.transaction.now.tx.store.number in
    let is : IsStoreLent c.args.disk.now c.args.space.now.store tx c.new-pages.result =
    record { store_is = c.new-pages.ensures.store; disk_is = c.new-pages.ensures.disk; tx_is = ap (λ (t : Tx). t.number) c.new-pages.ensures.tx } in
    let same = c.disk-1.given.1 (sym (c.finish_over.ensures.leads.1.disk ∙ c.new-pages.ensures.same_disk)) in
    roomless-lent told len faults m c.args.place c.args.disk.now c.args.space.now.store tx c.new-pages.result c.finish_over.new.space c.args.transaction.now.work c.finish_over.new.work is c.finish_over.ensures.leads c.finish_over.ensures.ready _ same c.finish_over.result c.finish_over.ensures.room

pub returns-clause-begun : goal.returns-clause-begun
returns-clause-begun g c =
    let told = g.D.Disk.told in
    let len = g.D.Disk.len in
    let faults = g.D.Disk.faults in
    let m = g.B.Boxes.meanings c.args.boxes.now in
    let tx = c.args.transaction.now.tx.store.number in
    let is : IsStoreLent c.args.disk.now c.args.space.now.store tx c.new-pages.result =
    record { store_is = c.new-pages.ensures.store; disk_is = c.new-pages.ensures.disk; tx_is = ap (λ (t : Tx). t.number) c.new-pages.ensures.tx } in
    let same = c.disk-1.given.1 (sym (c.finish_over.ensures.leads.1.disk ∙ c.new-pages.ensures.same_disk)) in
    λ up. begun-lent told len faults m c.args.place c.args.disk.now c.args.space.now.store tx c.new-pages.result c.finish_over.new.space c.args.transaction.now.work c.finish_over.new.work is c.finish_over.ensures.leads c.finish_over.ensures.ready _ same up

pub returns-clause-points : goal.returns-clause-points
returns-clause-points g c =
    let told = g.D.Disk.told in
    let len = g.D.Disk.len in
    let faults = g.D.Disk.faults in
    let m = g.B.Boxes.meanings c.args.boxes.now in
    let tx = c.args.transaction.now.tx.store.number in
    let is : IsStoreLent c.args.disk.now c.args.space.now.store tx c.new-pages.result =
    record { store_is = c.new-pages.ensures.store; disk_is = c.new-pages.ensures.disk; tx_is = ap (λ (t : Tx). t.number) c.new-pages.ensures.tx } in
    let same = c.disk-1.given.1 (sym (c.finish_over.ensures.leads.1.disk ∙ c.new-pages.ensures.same_disk)) in
    points-lent told len faults m c.args.place c.args.disk.now c.args.space.now.store tx c.new-pages.result c.finish_over.new.space c.args.transaction.now.work c.finish_over.new.work is c.finish_over.ensures.leads c.finish_over.ensures.ready _ same c.finish_over.result c.finish_over.ensures.works

pub returns-clause-was : goal.returns-clause-was
returns-clause-was g c =
    let told = g.D.Disk.told in
    let len = g.D.Disk.len in
    let faults = g.D.Disk.faults in
    let m = g.B.Boxes.meanings c.args.boxes.now in
    let tx = c.args.transaction.now.tx.store.number in
    let is : IsStoreLent c.args.disk.now c.args.space.now.store tx c.new-pages.result =
    record { store_is = c.new-pages.ensures.store; disk_is = c.new-pages.ensures.disk; tx_is = ap (λ (t : Tx). t.number) c.new-pages.ensures.tx } in
    let same = c.disk-1.given.1 (sym (c.finish_over.ensures.leads.1.disk ∙ c.new-pages.ensures.same_disk)) in
    was-lent told len faults m c.args.place c.args.disk.now c.args.space.now.store tx c.new-pages.result c.finish_over.new.space c.args.transaction.now.work c.finish_over.new.work is c.finish_over.ensures.leads c.finish_over.ensures.ready _ same c.finish_over.result c.finish_over.ensures.works
