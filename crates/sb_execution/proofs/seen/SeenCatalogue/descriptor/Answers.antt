use Rattle.std.proofs.Common.{◌≡◌, ◌∙◌, Bor, List, Option, Some, option_copied, refl, sym, ap, subst}
use Rattle.std.proofs.lemmas.Result.{IfErr-weaker, IfOk-weaker}
use Rattle.sb_fold.specs.declared.refusal.Refusal.{Refusal}
use Rattle.sb_refusals.specs.Catalogue.{is_damage, is_free}
use Rattle.sb_engine.specs.OpenRelation.{OpenRelation}
use Rattle.sb_engine.specs.Working.{open_at}
use Rattle.sb_engine.proofs.PaidLemmas.{paid_looking}
use Rattle.sb_execution.specs.Seen.{HasFailed}
use Rattle.sb_execution.specs.SeenLaws.{stays, wants}
use Rattle.sb_plain.specs.State.{view}
use Rattle.sb_execution.proofs.SeenLemmas.{described, describes, free_refusal, stands-same, undamaged_refusal}
use Rattle.sb_execution.proofs.seen.SeenCatalogue.descriptor.Goals as goal

pub returns-in-Ok-clause-found : goal.returns-in-Ok-clause-found
returns-in-Ok-clause-found g c = λ s sees.
    let a = c.args.self.now in
    let m = g.B.Boxes.meanings a.boxes.now in (
      describes m a.place.root sees.stands.slots sees.stands.kept c.args.name.now (view s) c.in-Ok.descriptor (sees.seen.db ∙ sees.stands.db) sees.stands.keeps.tables
          (c.in-Ok.ensures.found m sees.stands.want sees.stands.slots sees.stands.kept sees.stands.has sees.stands.keeps.tables),
      record {
        going = sees.going;
        stands = stands-same g.S.PageSpace.has g.S.PageSpace.spent m a.place.root sees.going a.space.now _ a.work.now sees.stands (c.in-Ok.ensures.looks.same sees.stands.want sees.stands.slots sees.stands.has)
            (paid_looking g.S.PageSpace.spent g.S.PageSpace.leads g.met.S.PageSpace.spends a.space.now _ c.in-Ok.ensures.looks.leads sees.stands.paid);
        seen = sees.seen;
      },
    )

pub returns-in-Err-clause-free : goal.returns-in-Err-clause-free
returns-in-Err-clause-free g c = rw c.refusal_of.ensures (free_refusal c.in-Err.fault)

pub returns-in-Err-clause-undamaged : goal.returns-in-Err-clause-undamaged
returns-in-Err-clause-undamaged g c = λ s sees.
    rw c.refusal_of.ensures (undamaged_refusal c.in-Err.fault (c.in-Err.ensures.undamaged (g.B.Boxes.meanings c.args.self.now.boxes.now) sees.stands.want sees.stands.slots sees.stands.kept sees.stands.has sees.stands.keeps.tables))

pub returns-in-Err-clause-fails : goal.returns-in-Err-clause-fails
returns-in-Err-clause-fails g c = record { fault = c.in-Err.fault; is = sym c.refusal_of.ensures; reads = c.in-Err.ensures.looks.fault; refused = c.in-Err.ensures.looks.refused }

pub returns-in-Ok-clause-leads : goal.returns-in-Ok-clause-leads
returns-in-Ok-clause-leads g c = record {
  same_space = refl;
  boxes = refl;
  work = refl;
  place = refl;
  inside = refl;
  points = refl;
  leads = c.in-Ok.ensures.looks.leads;
}

pub returns-in-Ok-clause-ready : goal.returns-in-Ok-clause-ready
returns-in-Ok-clause-ready g c = record { ready = c.in-Ok.ensures.ready; owner = c.requires.ready.owner }

pub returns-in-Err-clause-leads : goal.returns-in-Err-clause-leads
returns-in-Err-clause-leads g c = record {
  same_space = refl;
  boxes = refl;
  work = refl;
  place = refl;
  inside = refl;
  points = refl;
  leads = c.in-Err.ensures.looks.leads;
}

pub returns-in-Err-clause-ready : goal.returns-in-Err-clause-ready
returns-in-Err-clause-ready g c = record { ready = c.in-Err.ensures.ready; owner = c.requires.ready.owner }

-- ---- of an open relation
pub returns-in-Some-clause-found : goal.returns-in-Some-clause-found
returns-in-Some-clause-found g c =
    let a = c.args.self.now in
    let m = g.B.Boxes.meanings a.boxes.now in
    IfOk-weaker c.copied.result _ _ (λ d is s sees.
    let at : open_at a.work.now.opened.items c.args.name.now ≡ Some c.in-Some.one.now =
    ap (λ (l : List OpenRelation). open_at l c.args.name.now) (sym c.deref.ensures.value) ∙ sym c.open_at.ensures ∙ ap (λ (o : Option (Bor OpenRelation)). option_copied o) c.in-Some.is in (
      describes m a.place.root sees.stands.slots sees.stands.kept c.args.name.now (view s) d (sees.seen.db ∙ sees.stands.db) sees.stands.keeps.tables
          (is ∙ described m sees.stands.kept a.work.now.opened.items c.args.name.now c.in-Some.one.now sees.stands.opened at),
      sees,
    )) c.copied.ensures.found

pub returns-in-Some-clause-free : goal.returns-in-Some-clause-free
returns-in-Some-clause-free g c = IfErr-weaker c.copied.result _ _ (λ r is. ap (λ (x : Refusal). is_free x) is) c.copied.ensures.wants

pub returns-in-Some-clause-undamaged : goal.returns-in-Some-clause-undamaged
returns-in-Some-clause-undamaged g c = IfErr-weaker c.copied.result _ _ (λ r is s sees. ap (λ (x : Refusal). is_damage x) is) c.copied.ensures.wants

pub returns-in-Some-clause-fails : goal.returns-in-Some-clause-fails
returns-in-Some-clause-fails g c =
    let a = c.args.self.now in
    IfErr-weaker c.copied.result _ _ (λ r is.
    subst (λ (x : Refusal). HasFailed g.S.PageSpace.leads g.S.PageSpace.fails x a a) (sym is) (wants g.S.PageSpace.leads g.S.PageSpace.fails a a (stays g.S.PageSpace.leads g.met.S.PageSpace.stays a))) c.copied.ensures.wants

pub returns-in-Some-clause-leads : goal.returns-in-Some-clause-leads
returns-in-Some-clause-leads g c = stays g.S.PageSpace.leads g.met.S.PageSpace.stays c.args.self.now

pub returns-in-Some-clause-ready : goal.returns-in-Some-clause-ready
returns-in-Some-clause-ready g c = c.requires.ready
