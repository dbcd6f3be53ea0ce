use Rattle.std.proofs.Common.{[], refl, sym, append-nil}
use Rattle.sb_fold.specs.Costs.{create_cost}
use Rattle.sb_engine.specs.Goings.{front_none}
use Rattle.sb_engine.specs.Working.{extensions_of}
use Rattle.sb_engine.proofs.RefusedLemmas.{free_refusal}
use Rattle.sb_tables.proofs.StandsLemmas.{create_made, create_stops, keeps_of, paid_charged}
use Rattle.sb_tables.proofs.creation.create.Goals as goal

pub returns-in-Ok-clause-made : goal.returns-in-Ok-clause-made
returns-in-Ok-clause-made g c = λ h stands may.
    let a = c.args.running.now in
    let m = g.B.Boxes.meanings a.boxes.now in
    let has = g.S.PageSpace.has in
    let w = a.work.now in
    let keeps = keeps_of has g.S.PageSpace.spent m a.place.root h a.space.now w stands in
    create_made has g.S.PageSpace.spent m a.place.root h a.space.now c.create_kept.new.space w (record w { opened = c.clear.new.self }) stands c.clear.ensures.items refl refl _ _ c.args.name.now c.args.method c.args.schema.now
    c.args.key.now may refl (c.in-Ok.ensures.made w.gone.items h.gone.durable h.db keeps may)
    (paid_charged has g.S.PageSpace.spent m a.place.root g.S.PageSpace.leads g.met.S.PageSpace.spends h a.space.now c.create_kept.new.space w (create_cost (extensions_of m) h.db c.args.method) stands
    (c.create_kept.ensures.costs w.gone.items h.gone.durable h.db keeps may)) (λ k s. s)

pub returns-in-Ok-clause-goes : goal.returns-in-Ok-clause-goes
returns-in-Ok-clause-goes g c = record {
  same_space = refl;
  same_work = refl;
  boxes = refl;
  place = refl;
  leads = c.create_kept.ensures.leads;
  queue = front_none c.args.running.now.work.now.queue;
  gone = ([], sym (append-nil c.args.running.now.work.now.gone.items));
}

pub returns-in-Err-clause-refused : goal.returns-in-Err-clause-refused
returns-in-Err-clause-refused g c = λ h stands may.
    let a = c.args.running.now in
    let m = g.B.Boxes.meanings a.boxes.now in
    let w = a.work.now in
    let ext = extensions_of m in
    let keeps = keeps_of g.S.PageSpace.has g.S.PageSpace.spent m a.place.root h a.space.now w stands in
    rw c.refusal_of.ensures
    (create_stops _ _ ext c.args.name.now c.args.method c.args.schema.now c.args.key.now _ h (free_refusal c.in-Err.fault)
    (record {
      cause = c.in-Err.ensures.refused w.gone.items h.gone.durable h.db keeps may;
      licensed = c.in-Err.ensures.licensed w.gone.items h (create_cost ext h.db c.args.method) keeps may;
      paid = paid_charged g.S.PageSpace.has g.S.PageSpace.spent m a.place.root g.S.PageSpace.leads g.met.S.PageSpace.spends h a.space.now c.create_kept.new.space w (create_cost ext h.db c.args.method) stands
          (c.create_kept.ensures.costs w.gone.items h.gone.durable h.db keeps may);
    }))

pub returns-in-Err-clause-goes : goal.returns-in-Err-clause-goes
returns-in-Err-clause-goes g c = record {
  same_space = refl;
  same_work = refl;
  boxes = refl;
  place = refl;
  leads = c.create_kept.ensures.leads;
  queue = front_none c.args.running.now.work.now.queue;
  gone = ([], sym (append-nil c.args.running.now.work.now.gone.items));
}
