use Rattle.std.proofs.Common.{◌∙◌, refl, sym}
use Rattle.std.specs.Option.{option_copied}
use Rattle.sb_engine.proofs.PaidLemmas.{paid_looking}
use Rattle.sb_plain.specs.State.{view}
use Rattle.sb_execution.proofs.SeenLemmas.{is_first, free_refusal, stands-same, undamaged_refusal}
use Rattle.sb_execution.proofs.seen.SeenCatalogue.next.Goals as goal

pub returns-in-Ok-clause-found : goal.returns-in-Ok-clause-found
returns-in-Ok-clause-found g c = λ s sees.
    let a = c.args.self.now in
    let m = g.B.Boxes.meanings a.boxes.now in (
      is_first m a.place.root sees.stands.slots sees.stands.kept (option_copied c.args.after) (view s) c.in-Ok.found (sees.seen.db ∙ sees.stands.db) sees.stands.keeps.tables
          (c.in-Ok.ensures.found m sees.stands.want sees.stands.slots sees.stands.kept sees.stands.has sees.stands.keeps.tables),
      record {
        going = sees.going;
        stands = stands-same g.S.PageSpace.has g.S.PageSpace.spent m a.place.root sees.going a.space.now _ a.work.now sees.stands (c.in-Ok.ensures.looks.same sees.stands.want sees.stands.slots sees.stands.has)
            (paid_looking g.S.PageSpace.spent g.S.PageSpace.leads g.met.S.PageSpace.spends a.space.now _ c.in-Ok.ensures.looks.leads sees.stands.paid);
        seen = sees.seen;
      },
    )

pub returns-in-Err-clause-free : goal.returns-in-Err-clause-free
returns-in-Err-clause-free g c = rw c.refusal_of.ensures (free_refusal c.in-Err.fault)

pub returns-in-Err-clause-undamaged : goal.returns-in-Err-clause-undamaged
returns-in-Err-clause-undamaged g c = λ s sees.
    rw c.refusal_of.ensures (undamaged_refusal c.in-Err.fault (c.in-Err.ensures.undamaged (g.B.Boxes.meanings c.args.self.now.boxes.now) sees.stands.want sees.stands.slots sees.stands.kept sees.stands.has sees.stands.keeps.tables))

pub returns-in-Err-clause-fails : goal.returns-in-Err-clause-fails
returns-in-Err-clause-fails g c = record { fault = c.in-Err.fault; is = sym c.refusal_of.ensures; reads = c.in-Err.ensures.looks.fault; refused = c.in-Err.ensures.looks.refused }

pub returns-in-Ok-clause-leads : goal.returns-in-Ok-clause-leads
returns-in-Ok-clause-leads g c = record {
  same_space = refl;
  boxes = refl;
  work = refl;
  place = refl;
  inside = refl;
  points = refl;
  leads = c.in-Ok.ensures.looks.leads;
}

pub returns-in-Ok-clause-ready : goal.returns-in-Ok-clause-ready
returns-in-Ok-clause-ready g c = record { ready = c.in-Ok.ensures.ready; owner = c.requires.ready.owner }

pub returns-in-Err-clause-leads : goal.returns-in-Err-clause-leads
returns-in-Err-clause-leads g c = record {
  same_space = refl;
  boxes = refl;
  work = refl;
  place = refl;
  inside = refl;
  points = refl;
  leads = c.in-Err.ensures.looks.leads;
}

pub returns-in-Err-clause-ready : goal.returns-in-Err-clause-ready
returns-in-Err-clause-ready g c = record { ready = c.in-Err.ensures.ready; owner = c.requires.ready.owner }
