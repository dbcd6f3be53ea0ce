use Rattle.std.proofs.Common.{[], append-nil, refl, sym}
use Rattle.sb_cascade.specs.Wishes.{wish_of}
use Rattle.sb_building.specs.Goings.{front_none}
use Rattle.sb_building.proofs.PaidLemmas.{paid_looking}
use Rattle.sb_building.proofs.RefusedLemmas.{free_refusal, read_stop, refused_cause}
use Rattle.sb_building.proofs.StandingLemmas.{keeping_of, rules_of}
use Rattle.sb_statements.proofs.OpenLemmas.{wish_kept, stands_opened}
use Rattle.sb_statements.proofs.opening.open_wish.Goals as goal

pub returns-in-Ok-clause-stands : goal.returns-in-Ok-clause-stands
returns-in-Ok-clause-stands g c = λ h stands.
    let a = c.args.running.now in
    let m = g.B.Boxes.meanings a.boxes.now in
    let has = g.S.PageSpace.has in
    let new = c.open_fitting.new.space in
    stands_opened has g.S.PageSpace.spent m a.place.root h a.space.now new a.work.now stands c.open_fitting.new.opened c.in-Ok.ensures.looks.same
    (paid_looking g.S.PageSpace.spent g.S.PageSpace.leads g.met.S.PageSpace.spends a.space.now new c.in-Ok.ensures.looks.leads stands.paid)
    (c.open_fitting.ensures.opened stands.want stands.slots stands.kept (keeping_of has g.S.PageSpace.spent m a.place.root h a.space.now new a.work.now stands))

pub returns-in-Err-clause-refused : goal.returns-in-Err-clause-refused
returns-in-Err-clause-refused g c = λ h stands fits.
    let a = c.args.running.now in
    let m = g.B.Boxes.meanings a.boxes.now in
    let has = g.S.PageSpace.has in
    let w = a.work.now in
    let new = c.open_fitting.new.space in
    let keeping = keeping_of has g.S.PageSpace.spent m a.place.root h a.space.now new w stands in
    let rules = rules_of has g.S.PageSpace.spent m a.place.root h a.space.now new w stands in
    let may = wish_kept has g.S.PageSpace.spent m a.place.root h a.space.now new w stands c.args.name.now (wish_of c.args.wish.now) fits in
    rw c.refusal_of.ensures (record {
      free = free_refusal c.in-Err.fault;
      stopped = read_stop has g.S.PageSpace.spent g.S.PageSpace.leads g.S.PageSpace.fails g.S.PageSpace.table _ c.in-Err.fault h.trail _ c.in-Err.ensures.looks.fault
          (refused_cause g.S.PageSpace.fails _ a.space.now new c.in-Err.fault c.in-Err.ensures.looks.refused (c.in-Err.ensures.undamaged stands.want stands.slots stands.kept keeping rules may))
          (paid_looking g.S.PageSpace.spent g.S.PageSpace.leads g.met.S.PageSpace.spends a.space.now new c.in-Err.ensures.looks.leads stands.paid);
    })

pub returns-in-Ok-clause-goes : goal.returns-in-Ok-clause-goes
returns-in-Ok-clause-goes g c = record {
  goes = record {
    same_space = refl;
    same_work = refl;
    boxes = refl;
    place = refl;
    leads = (0, c.in-Ok.ensures.looks.leads);
    queue = front_none c.args.running.now.work.now.queue;
    gone = ([], sym (append-nil c.args.running.now.work.now.gone.items));
  };
  opened = c.in-Ok.ensures.grows;
}

pub returns-in-Err-clause-goes : goal.returns-in-Err-clause-goes
returns-in-Err-clause-goes g c = record {
  goes = record {
    same_space = refl;
    same_work = refl;
    boxes = refl;
    place = refl;
    leads = (0, c.in-Err.ensures.looks.leads);
    queue = front_none c.args.running.now.work.now.queue;
    gone = ([], sym (append-nil c.args.running.now.work.now.gone.items));
  };
  opened = c.in-Err.ensures.grows;
}
