use Rattle.std.proofs.Common.{◌≡◌, [], append-nil, Option, Some, Bor, refl, sym, ap, ◌∙◌}
use Rattle.std.specs.List.{slice_get}
use Rattle.std.specs.Option.{option_copied}
use Rattle.sb_rule.specs.declared.action.Action.{Action}
use Rattle.sb_engine.specs.Goings.{front_none, stays}
use Rattle.sb_engine.proofs.PaidLemmas.{paid_looking}
use Rattle.sb_engine.proofs.RefusedLemmas.{free_refusal, read_stop, refused_cause, roomless_refusal}
use Rattle.sb_engine.proofs.StandingLemmas.{first_fits, keeping_of, rules_of, stands_taken}
use Rattle.sb_engine.proofs.layer.RunningLayer.next_waiting.Goals as goal

pub returns-in-Ok-prepare-clause-taken : goal.returns-in-Ok-prepare-clause-taken
returns-in-Ok-prepare-clause-taken g c = λ h stands.
    let a = c.args.self.now in
    let m = g.B.Boxes.meanings a.boxes.now in
    let has = g.S.PageSpace.has in
    let w = a.work.now in
    let new = c.prepare.new.space in
    let at : slice_get w.queue.actions w.done ≡ Some c.in-Ok.action =
    sym c.action.ensures.action ∙ ap (λ (o : Option (Bor Action)). option_copied o) c.in-Some.is ∙ ap (λ (x : Action). Some x) (sym c.in-Ok.ensures) in
    let keeping = keeping_of has g.S.PageSpace.spent m a.place.root h a.space.now new w stands in
    stands_taken has g.S.PageSpace.spent m a.place.root h a.space.now new w stands c.in-Ok.action c.prepare.new.opened at c.in-Ok-prepare.ensures.looks.same (paid_looking g.S.PageSpace.spent g.S.PageSpace.leads g.met.S.PageSpace.spends a.space.now c.prepare.new.space c.in-Ok-prepare.ensures.looks.leads stands.paid)
    (c.prepare.ensures.opened stands.want stands.slots stands.kept keeping)

pub returns-in-Err-clause-refused : goal.returns-in-Err-clause-refused
returns-in-Err-clause-refused g c = λ h stands.
    let a = c.args.self.now in
    let m = g.B.Boxes.meanings a.boxes.now in
    let has = g.S.PageSpace.has in
    let w = a.work.now in
    let new = c.prepare.new.space in
    let at : slice_get w.queue.actions w.done ≡ Some c.in-Ok.action =
    sym c.action.ensures.action ∙ ap (λ (o : Option (Bor Action)). option_copied o) c.in-Some.is ∙ ap (λ (x : Action). Some x) (sym c.in-Ok.ensures) in
    let keeping = keeping_of has g.S.PageSpace.spent m a.place.root h a.space.now new w stands in
    let rules = rules_of has g.S.PageSpace.spent m a.place.root h a.space.now new w stands in
    let fits = first_fits has g.S.PageSpace.spent m a.place.root h a.space.now new w stands c.in-Ok.action at in
    rw c.refusal_of.ensures (record {
      free = free_refusal c.in-Err.fault;
      stopped = read_stop g.S.PageSpace.has g.S.PageSpace.spent g.S.PageSpace.leads g.S.PageSpace.fails g.S.PageSpace.table _ c.in-Err.fault h.trail _ c.in-Err.ensures.looks.fault
          (refused_cause g.S.PageSpace.fails _ a.space.now new c.in-Err.fault c.in-Err.ensures.looks.refused (c.in-Err.ensures.undamaged stands.want stands.slots stands.kept keeping rules fits))
          (paid_looking g.S.PageSpace.spent g.S.PageSpace.leads g.met.S.PageSpace.spends a.space.now c.prepare.new.space c.in-Err.ensures.looks.leads stands.paid);
    })

pub returns-in-Err-clause-room : goal.returns-in-Err-clause-room
returns-in-Err-clause-room g c = rw c.refusal_of.ensures (roomless_refusal c.in-Err.fault c.in-Err.ensures.looks.fault)

pub returns-in_default-clause-leads : goal.returns-in_default-clause-leads
returns-in_default-clause-leads g c = stays g.S.PageSpace.leads g.met.S.PageSpace.stays c.args.self.now

pub returns-in_default-copy-clause-leads : goal.returns-in_default-copy-clause-leads
returns-in_default-copy-clause-leads g c = stays g.S.PageSpace.leads g.met.S.PageSpace.stays c.args.self.now

pub returns-in-Ok-prepare-clause-leads : goal.returns-in-Ok-prepare-clause-leads
returns-in-Ok-prepare-clause-leads g c = record {
  goes = record {
    same_space = refl;
    same_work = refl;
    boxes = refl;
    place = refl;
    leads = (0, c.in-Ok-prepare.ensures.looks.leads);
    queue = front_none c.args.self.now.work.now.queue;
    gone = ([], sym (append-nil c.args.self.now.work.now.gone.items));
  };
  opened = c.in-Ok-prepare.ensures.grows;
}

pub returns-in-Err-clause-leads : goal.returns-in-Err-clause-leads
returns-in-Err-clause-leads g c = record {
  goes = record {
    same_space = refl;
    same_work = refl;
    boxes = refl;
    place = refl;
    leads = (0, c.in-Err.ensures.looks.leads);
    queue = front_none c.args.self.now.work.now.queue;
    gone = ([], sym (append-nil c.args.self.now.work.now.gone.items));
  };
  opened = c.in-Err.ensures.grows;
}
