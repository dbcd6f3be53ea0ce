use Rattle.std.proofs.Common.{ap, sym, ◌∙◌}
use Rattle.sb_txn.specs.declared.store.Tx.{Tx}
use Rattle.sb_session.proofs.LentLemmas.{IsStoreLent, faulted-lent}
use Rattle.sb_engine.specs.Working.{Serves}
use Rattle.sb_session.specs.Driven.{IsServed, LeadsLent}
use Rattle.sb_execution.proofs.LentLemmas.{begun-lent, leaves-lent, led-lent, points-lent, serves-lent, stand-lent, stays-lent, tested-lent, untested-lent, usable-lent}
use Rattle.sb_execution.proofs.WorkLemmas.{looks_works}
use Rattle.sb_execution.proofs.serving.test_in.Goals as goal

pub returns : goal.returns
returns g c =
    let told = g.D.Disk.told in
    let len = g.D.Disk.len in
    let faults = g.D.Disk.faults in
    let m = g.B.Boxes.meanings c.args.boxes.now in
    let place = c.args.place in
    let disk = c.args.disk.now in
    let store = c.args.space.now.store in
    let tx = c.args.transaction.now.tx.store.number in
    let a = c.new-pages.result in
    let b = c.refusal_over.new.space in
    let v = c.args.transaction.now.work in
    let is : IsStoreLent disk store tx a =
    record { store_is = c.new-pages.ensures.store; disk_is = c.new-pages.ensures.disk; tx_is = ap (λ (t : Tx). t.number) c.new-pages.ensures.tx } in
    let did = c.refusal_over.ensures in
    let works = looks_works (LeadsLent told len faults) a b v did.leads in
    let usable = c.requires.usable in
    let ready : Serves (IsServed told len) m place b v = record { ready = did.ready; owner = usable.owner; opened = usable.opened; within = usable.within } in
    let same = c.disk-1.given.1 (sym (did.leads.disk ∙ c.new-pages.ensures.same_disk)) in
    record {
      refused = tested-lent told len faults m place disk store tx a b v v is works ready _ same c.args.inside c.args.points.now c.args.command.now c.refusal_over.result did.refused;
      at = stays-lent told len faults m place disk store tx a b v v is works ready _ same c.args.inside c.args.points.now c.args.command.now c.refusal_over.result did.stands;
      free = did.free;
      room = did.room;
      cause = untested-lent told len faults m place disk store tx a b v v is works ready _ same c.args.inside c.args.points.now c.args.command.now c.refusal_over.result did.cause;
      tested = did.tested;
      fault = faulted-lent told len faults m place disk store tx a b v v is works.leads ready _ same c.refusal_over.result did.fault;
      points = points-lent told len faults m place disk store tx a b v v is works ready _ same;
      stand = stand-lent told len faults m place disk store tx a b v v is works ready _ same;
      begun = begun-lent told len faults m place disk store tx a b v v is works ready _ same;
      any_moment = leaves-lent told len faults m place disk store tx a b v v is works ready _ same;
      led = led-lent told len faults m place disk store tx a b v v is works ready _ same;
      usable = usable-lent told len faults m place disk store tx a b v v is works ready _ same;
    }

-- ---- it can be called
pub refusal_over-requires : goal.refusal_over-requires
refusal_over-requires g c =
    let tx = c.args.transaction.now.tx.store.number in
    let is : IsStoreLent c.args.disk.now c.args.space.now.store tx c.new-pages.result =
    record { store_is = c.new-pages.ensures.store; disk_is = c.new-pages.ensures.disk; tx_is = ap (λ (t : Tx). t.number) c.new-pages.ensures.tx } in
    record {
      ready = serves-lent g.D.Disk.told g.D.Disk.len (g.B.Boxes.meanings c.args.boxes.now) c.args.place c.args.disk.now c.args.space.now.store tx c.new-pages.result c.args.transaction.now.work is
          c.requires.usable;
    }

-- the store that was lent is given back
pub shape_of-space : goal.shape_of-space
shape_of-space g c = sym (c.refusal_over.ensures.leads.store ∙ c.new-pages.ensures.same_store)
