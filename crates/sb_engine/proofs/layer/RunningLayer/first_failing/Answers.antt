use Rattle.std.proofs.Common.{[], append-nil, refl, sym, ap, ◌∙◌, subst}
use Rattle.sb_relation.specs.Db.{Db}
use Rattle.sb_fold.specs.Finish.{first_failing}
use Rattle.sb_fold.specs.Outcome.{Queue}
use Rattle.sb_deferred.specs.Complete.{AreMirrored, IsComplete}
use Rattle.sb_standing.specs.Tables.{db_of}
use Rattle.sb_engine.specs.Goings.{front_none, grows_none}
use Rattle.sb_engine.specs.Working.{extensions_of, left_of}
use Rattle.sb_engine.proofs.PaidLemmas.{paid_looking}
use Rattle.sb_engine.proofs.RefusedLemmas.{free_refusal, read_stop, refused_cause, roomless_refusal}
use Rattle.sb_engine.proofs.StandingLemmas.{stands_later}
use Rattle.sb_engine.proofs.layer.RunningLayer.first_failing.Goals as goal

pub returns-in-Ok-clause-found : goal.returns-in-Ok-clause-found
returns-in-Ok-clause-found g c = λ h stands empty.
    let a = c.args.self.now in
    let m = g.B.Boxes.meanings a.boxes.now in
    let w = a.work.now in
    let mirrored = subst AreMirrored stands.db stands.mirrored in
    let complete : IsComplete (db_of stands.kept) w.queue = subst (λ (db : Db). IsComplete db (left_of w)) stands.db (subst (λ (q : Queue). IsComplete h.db q) (sym stands.waits) stands.complete) in (
      c.in-Ok.ensures.found stands.want stands.slots w.gone.items stands.kept stands.has stands.keeps mirrored complete ∙ ap (λ (db : Db). first_failing (extensions_of m) db db) (sym stands.db),
      stands_later g.S.PageSpace.has g.S.PageSpace.spent m a.place.root h a.space.now c.first_failing.new.space w stands c.in-Ok.ensures.looks.same
          (paid_looking g.S.PageSpace.spent g.S.PageSpace.leads g.met.S.PageSpace.spends a.space.now c.first_failing.new.space c.in-Ok.ensures.looks.leads stands.paid),
    )

pub returns-in-Err-clause-refused : goal.returns-in-Err-clause-refused
returns-in-Err-clause-refused g c = λ h stands.
    let a = c.args.self.now in
    let m = g.B.Boxes.meanings a.boxes.now in
    let w = a.work.now in
    let complete : IsComplete (db_of stands.kept) w.queue = subst (λ (db : Db). IsComplete db (left_of w)) stands.db (subst (λ (q : Queue). IsComplete h.db q) (sym stands.waits) stands.complete) in
    rw c.refusal_of.ensures (record {
      free = free_refusal c.in-Err.fault;
      stopped = read_stop g.S.PageSpace.has g.S.PageSpace.spent g.S.PageSpace.leads g.S.PageSpace.fails g.S.PageSpace.table _ c.in-Err.fault h.trail _ c.in-Err.ensures.looks.fault
          (refused_cause g.S.PageSpace.fails _ a.space.now c.first_failing.new.space c.in-Err.fault c.in-Err.ensures.looks.refused
          (c.in-Err.ensures.undamaged stands.want stands.slots w.gone.items stands.kept stands.has stands.keeps complete))
          (paid_looking g.S.PageSpace.spent g.S.PageSpace.leads g.met.S.PageSpace.spends a.space.now c.first_failing.new.space c.in-Err.ensures.looks.leads stands.paid);
    })

pub returns-in-Err-clause-room : goal.returns-in-Err-clause-room
returns-in-Err-clause-room g c = rw c.refusal_of.ensures (roomless_refusal c.in-Err.fault c.in-Err.ensures.looks.fault)

pub returns-in-Ok-clause-leads : goal.returns-in-Ok-clause-leads
returns-in-Ok-clause-leads g c = record {
  goes = record {
    same_space = refl;
    same_work = refl;
    boxes = refl;
    place = refl;
    leads = (0, c.in-Ok.ensures.looks.leads);
    queue = front_none c.args.self.now.work.now.queue;
    gone = ([], sym (append-nil c.args.self.now.work.now.gone.items));
  };
  opened = grows_none c.args.self.now.work.now.opened.items;
}

pub returns-in-Ok-clause-ready : goal.returns-in-Ok-clause-ready
returns-in-Ok-clause-ready g c = record {
  ready = c.in-Ok.ensures.ready;
  owner = c.requires.ready.owner;
  opened = c.requires.ready.opened;
  within = c.requires.ready.within;
}

pub returns-in-Err-clause-leads : goal.returns-in-Err-clause-leads
returns-in-Err-clause-leads g c = record {
  goes = record {
    same_space = refl;
    same_work = refl;
    boxes = refl;
    place = refl;
    leads = (0, c.in-Err.ensures.looks.leads);
    queue = front_none c.args.self.now.work.now.queue;
    gone = ([], sym (append-nil c.args.self.now.work.now.gone.items));
  };
  opened = grows_none c.args.self.now.work.now.opened.items;
}

pub returns-in-Err-clause-ready : goal.returns-in-Err-clause-ready
returns-in-Err-clause-ready g c = record {
  ready = c.in-Err.ensures.ready;
  owner = c.requires.ready.owner;
  opened = c.requires.ready.opened;
  within = c.requires.ready.within;
}
