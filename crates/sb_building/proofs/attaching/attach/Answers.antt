use Rattle.std.proofs.Common.{[], append-nil, refl, sym, subst}
use Rattle.sb_fold.specs.declared.refusal.Refusal.TheVariants.{TooLong as LongRow, Veto}
use Rattle.sb_tables.specs.Work.{Work}
use Rattle.sb_tables.specs.Goings.{front_none}
use Rattle.sb_tables.specs.Working.{extensions_of}
use Rattle.sb_tables.proofs.RefusedLemmas.{free_refusal}
use Rattle.sb_building.specs.declared.attaching.Attaching.{Attaching}
use Rattle.sb_building.specs.Attaching.{HasEnded}
use Rattle.sb_building.proofs.AttachLemmas.{attach_large, attach_licensed, attach_long, attach_made, attach_vetoed, may_add, paid_built, site_of, stores_of}
use Rattle.sb_building.proofs.WorkLemmas.{build_stops, stops_either}
use Rattle.sb_building.proofs.attaching.attach.Goals as goal

pub returns-in-Ok-Attached-clause-made : goal.returns-in-Ok-Attached-clause-made
returns-in-Ok-Attached-clause-made g c = λ h stands may.
    let a = c.args.running.now in
    let m = g.B.Boxes.meanings a.boxes.now in
    let has = g.S.PageSpace.has in
    let root = a.place.root in
    let relation = c.args.relation.now in
    let name = c.args.name.now in
    let rule = c.args.rule.now in
    let v : Work = record a.work.now { opened = c.clear.new.self } in
    let site = site_of has g.S.PageSpace.spent m root h a.space.now a.work.now stands relation name rule may in
    let adds = may_add has g.S.PageSpace.spent m root h a.space.now a.work.now stands relation name rule may in
    let stores = stores_of has g.S.PageSpace.spent m root h a.space.now a.work.now stands relation name rule may in
    let ended = subst (λ (e : Attaching). HasEnded has m root site relation name rule adds.box.rules c.attach_copy.new.space e) c.in-Ok-Attached.field-0-is (c.in-Ok-Attached.ensures.ended site stands.has stores adds may.main may.storable) in
    let paid = paid_built has g.S.PageSpace.spent m root h a.space.now a.work.now stands relation name rule may g.S.PageSpace.leads g.met.S.PageSpace.spends c.attach_copy.new.space (c.attach_copy.ensures.costs site stands.has stores adds) in
    let made = attach_made has g.S.PageSpace.spent m root h a.space.now a.work.now stands relation name rule may c.attach_copy.new.space v (record { opened = c.clear.ensures.items; queue = refl; done = refl; picks = refl }) refl ended paid in
    record { picks = []; after = made.after; leads = made.leads; stands = made.stands }

pub returns-in-Ok-TooLarge-clause-refused : goal.returns-in-Ok-TooLarge-clause-refused
returns-in-Ok-TooLarge-clause-refused g c = λ h stands may.
    let a = c.args.running.now in
    let m = g.B.Boxes.meanings a.boxes.now in
    let has = g.S.PageSpace.has in
    let root = a.place.root in
    let relation = c.args.relation.now in
    let name = c.args.name.now in
    let rule = c.args.rule.now in
    let site = site_of has g.S.PageSpace.spent m root h a.space.now a.work.now stands relation name rule may in
    let adds = may_add has g.S.PageSpace.spent m root h a.space.now a.work.now stands relation name rule may in
    let stores = stores_of has g.S.PageSpace.spent m root h a.space.now a.work.now stands relation name rule may in
    let ended = subst (λ (e : Attaching). HasEnded has m root site relation name rule adds.box.rules c.attach_copy.new.space e) c.in-Ok-TooLarge.field-0-is (c.in-Ok-TooLarge.ensures.ended site stands.has stores adds may.main may.storable) in
    absurd (attach_large has g.S.PageSpace.spent m root h a.space.now a.work.now stands relation name rule may c.attach_copy.new.space ended)

pub returns-in-Ok-TooLong-clause-refused : goal.returns-in-Ok-TooLong-clause-refused
returns-in-Ok-TooLong-clause-refused g c = λ h stands may.
    let a = c.args.running.now in
    let m = g.B.Boxes.meanings a.boxes.now in
    let has = g.S.PageSpace.has in
    let root = a.place.root in
    let relation = c.args.relation.now in
    let name = c.args.name.now in
    let rule = c.args.rule.now in
    let site = site_of has g.S.PageSpace.spent m root h a.space.now a.work.now stands relation name rule may in
    let adds = may_add has g.S.PageSpace.spent m root h a.space.now a.work.now stands relation name rule may in
    let stores = stores_of has g.S.PageSpace.spent m root h a.space.now a.work.now stands relation name rule may in
    let ended = subst (λ (e : Attaching). HasEnded has m root site relation name rule adds.box.rules c.attach_copy.new.space e) c.in-Ok-TooLong.field-0-is (c.in-Ok-TooLong.ensures.ended site stands.has stores adds may.main may.storable) in
    let paid = paid_built has g.S.PageSpace.spent m root h a.space.now a.work.now stands relation name rule may g.S.PageSpace.leads g.met.S.PageSpace.spends c.attach_copy.new.space (c.attach_copy.ensures.costs site stands.has stores adds) in
    stops_either _ _ (extensions_of m) relation name rule (LongRow relation) c.too_long.result h c.too_long.ensures refl
    (attach_long has g.S.PageSpace.spent m root h a.space.now a.work.now stands relation name rule may c.attach_copy.new.space ended)
    (record { cause = tt; licensed = tt; paid = paid }) (record { cause = tt; licensed = tt; paid = paid })

pub returns-in-Ok-Vetoed-clause-refused : goal.returns-in-Ok-Vetoed-clause-refused
returns-in-Ok-Vetoed-clause-refused g c = λ h stands may.
    let a = c.args.running.now in
    let m = g.B.Boxes.meanings a.boxes.now in
    let has = g.S.PageSpace.has in
    let root = a.place.root in
    let relation = c.args.relation.now in
    let name = c.args.name.now in
    let rule = c.args.rule.now in
    let site = site_of has g.S.PageSpace.spent m root h a.space.now a.work.now stands relation name rule may in
    let adds = may_add has g.S.PageSpace.spent m root h a.space.now a.work.now stands relation name rule may in
    let stores = stores_of has g.S.PageSpace.spent m root h a.space.now a.work.now stands relation name rule may in
    let ended = subst (λ (e : Attaching). HasEnded has m root site relation name rule adds.box.rules c.attach_copy.new.space e) c.in-Ok-Vetoed.field-0-is (c.in-Ok-Vetoed.ensures.ended site stands.has stores adds may.main may.storable) in
    let paid = paid_built has g.S.PageSpace.spent m root h a.space.now a.work.now stands relation name rule may g.S.PageSpace.leads g.met.S.PageSpace.spends c.attach_copy.new.space (c.attach_copy.ensures.costs site stands.has stores adds) in
    stops_either _ _ (extensions_of m) relation name rule (Veto relation name) c.veto.result h c.veto.ensures refl
    (attach_vetoed has g.S.PageSpace.spent m root h a.space.now a.work.now stands relation name rule may c.attach_copy.new.space ended)
    (record { cause = tt; licensed = tt; paid = paid }) (record { cause = tt; licensed = tt; paid = paid })

pub returns-in-Err-clause-refused : goal.returns-in-Err-clause-refused
returns-in-Err-clause-refused g c = λ h stands may.
    let a = c.args.running.now in
    let m = g.B.Boxes.meanings a.boxes.now in
    let has = g.S.PageSpace.has in
    let root = a.place.root in
    let relation = c.args.relation.now in
    let name = c.args.name.now in
    let rule = c.args.rule.now in
    let site = site_of has g.S.PageSpace.spent m root h a.space.now a.work.now stands relation name rule may in
    let adds = may_add has g.S.PageSpace.spent m root h a.space.now a.work.now stands relation name rule may in
    let stores = stores_of has g.S.PageSpace.spent m root h a.space.now a.work.now stands relation name rule may in
    rw c.refusal_of.ensures
    (build_stops _ _ (extensions_of m) relation name rule _ h (free_refusal c.in-Err.fault) (record {
      cause = c.in-Err.ensures.refused site stands.has stores adds;
      licensed =
          attach_licensed has g.S.PageSpace.spent m root h a.space.now a.work.now stands relation name rule may g.S.PageSpace.leads g.S.PageSpace.table g.met.S.PageSpace.whole g.met.S.PageSpace.few g.met.S.PageSpace.tabled
          c.in-Err.fault c.attach_copy.new.space (c.in-Err.ensures.full site stands.has stores adds);
      paid = paid_built has g.S.PageSpace.spent m root h a.space.now a.work.now stands relation name rule may g.S.PageSpace.leads g.met.S.PageSpace.spends c.attach_copy.new.space (c.attach_copy.ensures.costs site stands.has stores adds);
    }))

pub returns-in-Ok-Attached-clause-goes : goal.returns-in-Ok-Attached-clause-goes
returns-in-Ok-Attached-clause-goes g c = record {
  same_space = refl;
  same_work = refl;
  boxes = refl;
  place = refl;
  leads = c.attach_copy.ensures.leads;
  queue = front_none c.args.running.now.work.now.queue;
  gone = ([], sym (append-nil c.args.running.now.work.now.gone.items));
}

pub returns-in-Ok-TooLarge-clause-goes : goal.returns-in-Ok-TooLarge-clause-goes
returns-in-Ok-TooLarge-clause-goes g c = record {
  same_space = refl;
  same_work = refl;
  boxes = refl;
  place = refl;
  leads = c.attach_copy.ensures.leads;
  queue = front_none c.args.running.now.work.now.queue;
  gone = ([], sym (append-nil c.args.running.now.work.now.gone.items));
}

pub returns-in-Ok-TooLong-clause-goes : goal.returns-in-Ok-TooLong-clause-goes
returns-in-Ok-TooLong-clause-goes g c = record {
  same_space = refl;
  same_work = refl;
  boxes = refl;
  place = refl;
  leads = c.attach_copy.ensures.leads;
  queue = front_none c.args.running.now.work.now.queue;
  gone = ([], sym (append-nil c.args.running.now.work.now.gone.items));
}

pub returns-in-Ok-Vetoed-clause-goes : goal.returns-in-Ok-Vetoed-clause-goes
returns-in-Ok-Vetoed-clause-goes g c = record {
  same_space = refl;
  same_work = refl;
  boxes = refl;
  place = refl;
  leads = c.attach_copy.ensures.leads;
  queue = front_none c.args.running.now.work.now.queue;
  gone = ([], sym (append-nil c.args.running.now.work.now.gone.items));
}

pub returns-in-Err-clause-goes : goal.returns-in-Err-clause-goes
returns-in-Err-clause-goes g c = record {
  same_space = refl;
  same_work = refl;
  boxes = refl;
  place = refl;
  leads = c.attach_copy.ensures.leads;
  queue = front_none c.args.running.now.work.now.queue;
  gone = ([], sym (append-nil c.args.running.now.work.now.gone.items));
}
