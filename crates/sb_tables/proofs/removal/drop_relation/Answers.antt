use Rattle.std.proofs.Common.{ℕ, refl}
use Rattle.sb_drive.proofs.SpacesLemmas.{ArePages-few}
use Rattle.sb_engine.specs.Goings.{front_none}
use Rattle.sb_engine.specs.Refusals.{refusal_of}
use Rattle.sb_engine.specs.Working.{extensions_of}
use Rattle.sb_engine.proofs.RefusedLemmas.{free_refusal}
use Rattle.sb_tables.proofs.FullLemmas.{licence-full, within-need}
use Rattle.sb_tables.proofs.StandsLemmas.{drop_cost, drop_made, drop_stops, keeps_of, paid_dropped}
use Rattle.sb_tables.proofs.removal.drop_relation.Goals as goal

pub returns-in-Ok-clause-made : goal.returns-in-Ok-clause-made
returns-in-Ok-clause-made g c = λ h stands may.
    let a = c.args.running.now in
    let m = g.B.Boxes.meanings a.boxes.now in
    let has = g.S.PageSpace.has in
    let w = a.work.now in
    let keeps = keeps_of has g.S.PageSpace.spent m a.place.root h a.space.now w stands in
    drop_made has g.S.PageSpace.spent m a.place.root h a.space.now c.drop_kept.new.space w (record w { opened = c.clear.new.self; gone = c.drop_kept.new.gone }) stands c.clear.ensures.items refl refl _ _ c.args.name.now may
    (c.in-Ok.ensures.dropped h.gone.durable h.db h.queue keeps may stands.mirrored stands.paired stands.apart)
    (paid_dropped has g.S.PageSpace.spent m a.place.root h a.space.now c.drop_kept.new.space w stands g.S.PageSpace.leads g.met.S.PageSpace.spends c.args.name.now
    (c.drop_kept.ensures.costs h.gone.durable h.db keeps)) (λ k s. s)

pub returns-in-Ok-clause-goes : goal.returns-in-Ok-clause-goes
returns-in-Ok-clause-goes g c = record {
  same_space = refl;
  same_work = refl;
  boxes = refl;
  place = refl;
  leads = c.drop_kept.ensures.leads;
  queue = front_none c.args.running.now.work.now.queue;
  gone = c.drop_kept.ensures.more;
}

pub returns-in-Err-clause-refused : goal.returns-in-Err-clause-refused
returns-in-Err-clause-refused g c = λ h stands may.
    let a = c.args.running.now in
    let m = g.B.Boxes.meanings a.boxes.now in
    let has = g.S.PageSpace.has in
    let w = a.work.now in
    let cost = drop_cost (extensions_of m) c.args.name.now h in
    let pages = λ (o : ℕ). ArePages-few stands.slots o (g.met.S.PageSpace.whole stands.want stands.slots a.space.now stands.has) (g.met.S.PageSpace.few stands.want stands.slots a.space.now stands.has) in
    let keeps = keeps_of has g.S.PageSpace.spent m a.place.root h a.space.now w stands in
    rw c.refusal_of.ensures
    (drop_stops _ _ (extensions_of m) c.args.name.now _ h (free_refusal c.in-Err.fault) (record {
      cause = c.in-Err.ensures.refused h.gone.durable h.db keeps;
      licensed = licence-full has g.S.PageSpace.leads g.S.PageSpace.table m h cost (refusal_of c.in-Err.fault) c.drop_kept.new.space
          (c.in-Err.ensures.licensed h.gone.durable _ h.db (within-need has g.S.PageSpace.spent m a.place.root h a.space.now a.space.now w cost stands pages stands.has));
      paid = paid_dropped has g.S.PageSpace.spent m a.place.root h a.space.now c.drop_kept.new.space w stands g.S.PageSpace.leads g.met.S.PageSpace.spends c.args.name.now
          (c.drop_kept.ensures.costs h.gone.durable h.db keeps);
    }))

pub returns-in-Err-clause-goes : goal.returns-in-Err-clause-goes
returns-in-Err-clause-goes g c = record {
  same_space = refl;
  same_work = refl;
  boxes = refl;
  place = refl;
  leads = c.drop_kept.ensures.leads;
  queue = front_none c.args.running.now.work.now.queue;
  gone = c.drop_kept.ensures.more;
}
