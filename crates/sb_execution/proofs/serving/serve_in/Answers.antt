use Rattle.std.proofs.Common.{ap, sym, refl, ◌∙◌}
use Rattle.sb_txn.specs.declared.store.Tx.{Tx}
use Rattle.sb_session.proofs.LentLemmas.{IsStoreLent, faulted-lent}
use Rattle.sb_execution.proofs.LentLemmas.{begun-lent, leaves-lent, led-lent, opened-lent, points-lent, served-lent, serves-lent, stand-lent, unserved-lent, usable-lent}
use Rattle.sb_execution.proofs.serving.serve_in.Goals as goal

pub returns : goal.returns
returns g c =
    let told = g.D.Disk.told in
    let len = g.D.Disk.len in
    let faults = g.D.Disk.faults in
    let m = g.B.Boxes.meanings c.args.boxes.now in
    let place = c.args.place in
    let disk = c.args.disk.now in
    let store = c.args.space.now.store in
    let tx = c.args.transaction.now.tx.store.number in
    let a = c.new-pages.result in
    let b = c.serve.new.space in
    let v = c.args.transaction.now.work in
    let w = c.serve.new.work in
    let is : IsStoreLent disk store tx a =
    record { store_is = c.new-pages.ensures.store; disk_is = c.new-pages.ensures.disk; tx_is = ap (λ (t : Tx). t.number) c.new-pages.ensures.tx } in
    let works = c.serve.ensures.works in
    let ready = c.serve.ensures.ready in
    let same = c.disk-1.given.1 (sym (works.leads.1.disk ∙ c.new-pages.ensures.same_disk)) in
    record {
      served = served-lent told len faults m place disk store tx a b v w is works ready _ same c.args.inside c.args.points.now c.args.command.now c.serve.result c.serve.ensures.served;
      refused = unserved-lent told len faults m place disk store tx a b v w is works ready _ same c.args.inside c.args.points.now c.args.command.now c.serve.result c.serve.ensures.refused;
      fault = faulted-lent told len faults m place disk store tx a b v w is works.leads ready _ same c.serve.result c.serve.ensures.fault;
      reads = c.serve.ensures.reads;
      answer = c.serve.ensures.answer;
      opened = opened-lent told len faults m place disk store tx a b v w is works ready _ same c.serve.result c.serve.ensures.opened;
      points = points-lent told len faults m place disk store tx a b v w is works ready _ same;
      stand = stand-lent told len faults m place disk store tx a b v w is works ready _ same;
      begun = begun-lent told len faults m place disk store tx a b v w is works ready _ same;
      any_moment = leaves-lent told len faults m place disk store tx a b v w is works ready _ same;
      led = led-lent told len faults m place disk store tx a b v w is works ready _ same;
      usable = usable-lent told len faults m place disk store tx a b v w is works ready _ same;
      tx = refl;
    }

-- ---- it can be called
pub serve-requires : goal.serve-requires
serve-requires g c =
    let tx = c.args.transaction.now.tx.store.number in
    let is : IsStoreLent c.args.disk.now c.args.space.now.store tx c.new-pages.result =
    record { store_is = c.new-pages.ensures.store; disk_is = c.new-pages.ensures.disk; tx_is = ap (λ (t : Tx). t.number) c.new-pages.ensures.tx } in
    record {
      ready = serves-lent g.D.Disk.told g.D.Disk.len (g.B.Boxes.meanings c.args.boxes.now) c.args.place c.args.disk.now c.args.space.now.store tx c.new-pages.result c.args.transaction.now.work is
          c.requires.usable;
    }

-- the store that was lent is given back
pub shape_of-space : goal.shape_of-space
shape_of-space g c = sym (c.serve.ensures.works.leads.1.store ∙ c.new-pages.ensures.same_store)
