use Rattle.std.proofs.Common.{List, [], All, append-nil, refl, sym, ap, ◌∙◌, subst}
use Rattle.sb_relation.specs.Db.{Db}
use Rattle.sb_asking.specs.OpenRelation.{OpenRelation}
use Rattle.sb_asking.specs.Opened.{IsOpen}
use Rattle.sb_fold.specs.Fold.{matching}
use Rattle.sb_engine.specs.Goings.{front_none, grows_none}
use Rattle.sb_engine.specs.Opening.{IsKeeping}
use Rattle.sb_engine.specs.Working.{MayDo}
use Rattle.sb_engine.proofs.PaidLemmas.{paid_looking}
use Rattle.sb_engine.proofs.RefusedLemmas.{free_refusal, read_stop, refused_cause}
use Rattle.sb_engine.proofs.StandingLemmas.{keeping_of, stands_later}
use Rattle.sb_engine.proofs.layer.RunningLayer.matching.Goals as goal

pub keys_matching-requires-clause-are_open : goal.keys_matching-requires-clause-are_open
keys_matching-requires-clause-are_open g c =
    subst (λ (l : List OpenRelation). All (IsOpen (g.B.Boxes.meanings c.args.self.now.boxes.now)) l) (sym c.deref.ensures.value) c.requires.ready.opened

pub keys_matching-requires-clause-may : goal.keys_matching-requires-clause-may
keys_matching-requires-clause-may g c = subst (λ (l : List OpenRelation). MayDo l c.args.action.now) (sym c.deref.ensures.value) c.requires.may

pub returns-in-Ok-clause-keys : goal.returns-in-Ok-clause-keys
returns-in-Ok-clause-keys g c = λ h stands.
    let a = c.args.self.now in
    let m = g.B.Boxes.meanings a.boxes.now in
    let keeping = subst (λ (l : List OpenRelation). IsKeeping g.S.PageSpace.has m a.place.root stands.want stands.slots stands.kept a.space.now l) (sym c.deref.ensures.value)
    (keeping_of g.S.PageSpace.has g.S.PageSpace.spent m a.place.root h a.space.now a.space.now a.work.now stands) in (
      c.in-Ok.ensures.keys stands.want stands.slots stands.kept keeping ∙ ap (λ (db : Db). matching db c.args.action.now) (sym stands.db),
      stands_later g.S.PageSpace.has g.S.PageSpace.spent m a.place.root h a.space.now c.keys_matching.new.space a.work.now stands c.in-Ok.ensures.looks.same
          (paid_looking g.S.PageSpace.spent g.S.PageSpace.leads g.met.S.PageSpace.spends a.space.now c.keys_matching.new.space c.in-Ok.ensures.looks.leads stands.paid),
    )

pub returns-in-Err-clause-refused : goal.returns-in-Err-clause-refused
returns-in-Err-clause-refused g c = λ h stands.
    let a = c.args.self.now in
    let m = g.B.Boxes.meanings a.boxes.now in
    let keeping = subst (λ (l : List OpenRelation). IsKeeping g.S.PageSpace.has m a.place.root stands.want stands.slots stands.kept a.space.now l) (sym c.deref.ensures.value)
    (keeping_of g.S.PageSpace.has g.S.PageSpace.spent m a.place.root h a.space.now a.space.now a.work.now stands) in
    rw c.refusal_of.ensures (record {
      free = free_refusal c.in-Err.fault;
      stopped = read_stop g.S.PageSpace.has g.S.PageSpace.spent g.S.PageSpace.leads g.S.PageSpace.fails g.S.PageSpace.table _ c.in-Err.fault h.trail _ c.in-Err.ensures.looks.fault
          (refused_cause g.S.PageSpace.fails _ a.space.now c.keys_matching.new.space c.in-Err.fault c.in-Err.ensures.looks.refused (c.in-Err.ensures.undamaged stands.want stands.slots stands.kept keeping))
          (paid_looking g.S.PageSpace.spent g.S.PageSpace.leads g.met.S.PageSpace.spends a.space.now c.keys_matching.new.space c.in-Err.ensures.looks.leads stands.paid);
    })

pub returns-in-Ok-clause-leads : goal.returns-in-Ok-clause-leads
returns-in-Ok-clause-leads g c = record {
  goes = record {
    same_space = refl;
    same_work = refl;
    boxes = refl;
    place = refl;
    leads = (0, c.in-Ok.ensures.looks.leads);
    queue = front_none c.args.self.now.work.now.queue;
    gone = ([], sym (append-nil c.args.self.now.work.now.gone.items));
  };
  opened = grows_none c.args.self.now.work.now.opened.items;
}

pub returns-in-Ok-clause-ready : goal.returns-in-Ok-clause-ready
returns-in-Ok-clause-ready g c = record {
  ready = c.in-Ok.ensures.ready;
  owner = c.requires.ready.owner;
  opened = c.requires.ready.opened;
  within = c.requires.ready.within;
}

pub returns-in-Err-clause-leads : goal.returns-in-Err-clause-leads
returns-in-Err-clause-leads g c = record {
  goes = record {
    same_space = refl;
    same_work = refl;
    boxes = refl;
    place = refl;
    leads = (0, c.in-Err.ensures.looks.leads);
    queue = front_none c.args.self.now.work.now.queue;
    gone = ([], sym (append-nil c.args.self.now.work.now.gone.items));
  };
  opened = grows_none c.args.self.now.work.now.opened.items;
}

pub returns-in-Err-clause-ready : goal.returns-in-Err-clause-ready
returns-in-Err-clause-ready g c = record {
  ready = c.in-Err.ensures.ready;
  owner = c.requires.ready.owner;
  opened = c.requires.ready.opened;
  within = c.requires.ready.within;
}
