use Rattle.std.proofs.Common.{ℕ, Option, [], ◌++◌, ◌+◌, append-nil, refl, sym, subst}
use Rattle.sb_relation.specs.Db.{Name}
use Rattle.sb_fold.specs.Building.{at_point}
use Rattle.sb_drive.proofs.SpacesLemmas.{ArePages-few, LeadsWithin-none, LeadsWithin-on}
use Rattle.sb_drive.specs.Spaces.{LeadsWithin}
use Rattle.sb_tables.specs.Goings.{front_none}
use Rattle.sb_tables.specs.Refusals.{refusal_of}
use Rattle.sb_tables.specs.Working.{IsLicensed, IsStoppedFor, extensions_of}
use Rattle.sb_tables.proofs.RefusedLemmas.{free_refusal}
use Rattle.sb_tables.specs.Keeping.{KeepsIn}
use Rattle.sb_tables.proofs.DetachedLemmas.{keeps-later}
use Rattle.sb_tables.proofs.FullLemmas.{licence-full, read-full, within-need}
use Rattle.sb_tables.proofs.KeepingLemmas.{if_err_all, on_ok}
use Rattle.sb_tables.proofs.StandsLemmas.{keeps_of}
use Rattle.sb_building.specs.Detaching.{both_bounds, both_cost, without_both}
use Rattle.sb_building.proofs.DetachLemmas.{detach_cost, detach_stops, detached_in, paid_detached}
use Rattle.sb_building.proofs.detaching.detach.Goals as goal

pub returns-in-Ok-clause-made : goal.returns-in-Ok-clause-made
returns-in-Ok-clause-made g c =
    let has = g.S.PageSpace.has in
    let meanings = g.B.Boxes.meanings in
    let a = c.args.running.now in
    let m = meanings a.boxes.now in
    let gone = a.work.now.gone.items in
    let relation = c.args.relation.now in
    let name = c.args.name.now in
    let new = c.detach_both.new.running in
    let closes = c.detach_both.ensures.closes in
    on_ok c.detach_both.result
    (λ detached h stands may.
    let keeps = keeps_of has g.S.PageSpace.spent m a.place.root h a.space.now a.work.now stands in
    let later = keeps-later has m a.place.root gone h.gone.durable h.db a.space.now c.mirror_at.new.space c.mirror_at.new.space keeps c.in-Ok.ensures.looks.same in
    detached_in has g.S.PageSpace.spent meanings h a new relation name stands may c.detach_both.ensures.goes.boxes c.detach_both.ensures.goes.place
    (record { opened = closes.opened; queue = closes.queue; done = closes.done; picks = closes.picks })
    (subst (λ (o : Option (Name × Name)). KeepsIn has meanings (h.gone.durable ++ both_bounds (extensions_of m) h.db relation name o) (without_both h.db relation name o) new)
    (c.in-Ok.ensures.mirror gone h.gone.durable h.db may.one keeps may.there) (detached h.gone.durable h.db later))
    (paid_detached has g.S.PageSpace.spent m a.place.root g.S.PageSpace.leads g.met.S.PageSpace.spends h a.space.now new.space.now a.work.now stands relation name may.one
    (LeadsWithin-on g.S.PageSpace.leads _ a.space.now c.mirror_at.new.space new.space.now g.met.S.PageSpace.goes_on c.in-Ok.ensures.looks.leads
    (subst (λ (o : Option (Name × Name)). LeadsWithin g.S.PageSpace.leads (both_cost (extensions_of m) h.db o) c.mirror_at.new.space new.space.now)
    (c.in-Ok.ensures.mirror gone h.gone.durable h.db may.one keeps may.there) (c.detach_both.ensures.costs h.gone.durable h.db later)))))
    c.detach_both.ensures.detached

pub returns-in-Ok-clause-refused : goal.returns-in-Ok-clause-refused
returns-in-Ok-clause-refused g c =
    let has = g.S.PageSpace.has in
    let table = g.S.PageSpace.table in
    let a = c.args.running.now in
    let m = g.B.Boxes.meanings a.boxes.now in
    let relation = c.args.relation.now in
    let name = c.args.name.now in
    let new = c.detach_both.new.running in
    if_err_all _ _ _ _ c.detach_both.result
    (λ r free cause full h stands may.
    let keeps = keeps_of has g.S.PageSpace.spent m a.place.root h a.space.now a.work.now stands in
    let mid = c.in-Ok.ensures.looks.same in
    let later = keeps-later has m a.place.root a.work.now.gone.items h.gone.durable h.db a.space.now c.mirror_at.new.space c.mirror_at.new.space keeps mid in
    let cost = detach_cost (extensions_of m) relation may.one h.db in
    let pages = λ (o : ℕ). ArePages-few stands.slots o (g.met.S.PageSpace.whole stands.want stands.slots a.space.now stands.has) (g.met.S.PageSpace.few stands.want stands.slots a.space.now stands.has) in
    let within = within-need has g.S.PageSpace.spent m a.place.root h a.space.now c.mirror_at.new.space a.work.now cost stands pages (mid stands.want stands.slots stands.has) in
    detach_stops (IsStoppedFor has g.S.PageSpace.spent g.S.PageSpace.leads g.S.PageSpace.fails table g.B.Boxes.meanings) new (extensions_of m) relation name may.one r h may.there free (record {
      cause = cause h.gone.durable h.db later;
      licensed = subst (λ b. IsLicensed has g.S.PageSpace.leads table (g.B.Boxes.meanings b) r (at_point h.db h.gone cost h.trail) new.space.now) (sym c.detach_both.ensures.goes.boxes)
          (licence-full has g.S.PageSpace.leads table m h cost r new.space.now (full h.gone.durable _ h.db within));
      paid = paid_detached has g.S.PageSpace.spent m a.place.root g.S.PageSpace.leads g.met.S.PageSpace.spends h a.space.now new.space.now a.work.now stands relation name may.one
          (LeadsWithin-on g.S.PageSpace.leads _ a.space.now c.mirror_at.new.space new.space.now g.met.S.PageSpace.goes_on c.in-Ok.ensures.looks.leads
          (subst (λ (o : Option (Name × Name)). LeadsWithin g.S.PageSpace.leads (both_cost (extensions_of m) h.db o) c.mirror_at.new.space new.space.now)
          (c.in-Ok.ensures.mirror a.work.now.gone.items h.gone.durable h.db may.one keeps may.there) (c.detach_both.ensures.costs h.gone.durable h.db later)));
    }))
    c.detach_both.ensures.free c.detach_both.ensures.refused c.detach_both.ensures.licensed

pub returns-in-Ok-clause-closes : goal.returns-in-Ok-clause-closes
returns-in-Ok-clause-closes g c =
    let closes = c.detach_both.ensures.closes in
    record { opened = closes.opened; queue = closes.queue; done = closes.done; picks = closes.picks }

pub returns-in-Ok-clause-goes : goal.returns-in-Ok-clause-goes
returns-in-Ok-clause-goes g c =
    let goes = c.detach_both.ensures.goes in
    record {
      same_space = goes.same_space;
      same_work = goes.same_work;
      boxes = goes.boxes;
      place = goes.place;
      leads = (
        0 + goes.leads.0,
        g.met.S.PageSpace.goes_on 0 goes.leads.0 c.args.running.now.space.now c.mirror_at.new.space c.detach_both.new.running.space.now c.in-Ok.ensures.looks.leads goes.leads.1,
      );
      queue = goes.queue;
      gone = goes.gone;
    }

pub returns-in-Err-clause-refused : goal.returns-in-Err-clause-refused
returns-in-Err-clause-refused g c = λ h stands may.
    let a = c.args.running.now in
    let m = g.B.Boxes.meanings a.boxes.now in
    let relation = c.args.relation.now in
    let name = c.args.name.now in
    let cost = detach_cost (extensions_of m) relation may.one h.db in
    rw c.refusal_of.ensures
    (detach_stops _ _ (extensions_of m) relation name may.one _ h may.there (free_refusal c.in-Err.fault) (record {
      cause = c.in-Err.ensures.refused a.work.now.gone.items h.gone.durable h.db (keeps_of g.S.PageSpace.has g.S.PageSpace.spent m a.place.root h a.space.now a.work.now stands);
      licensed = licence-full g.S.PageSpace.has g.S.PageSpace.leads g.S.PageSpace.table m h cost (refusal_of c.in-Err.fault) c.mirror_at.new.space
          (read-full g.S.PageSpace.has g.S.PageSpace.leads g.S.PageSpace.table _ c.in-Err.fault c.mirror_at.new.space c.in-Err.ensures.looks.fault);
      paid = paid_detached g.S.PageSpace.has g.S.PageSpace.spent m a.place.root g.S.PageSpace.leads g.met.S.PageSpace.spends h a.space.now c.mirror_at.new.space a.work.now stands relation name may.one
          (LeadsWithin-none g.S.PageSpace.leads _ a.space.now c.mirror_at.new.space c.in-Err.ensures.looks.leads);
    }))

pub returns-in-Err-clause-goes : goal.returns-in-Err-clause-goes
returns-in-Err-clause-goes g c = record {
  same_space = refl;
  same_work = refl;
  boxes = refl;
  place = refl;
  leads = (0, c.in-Err.ensures.looks.leads);
  queue = front_none c.args.running.now.work.now.queue;
  gone = ([], sym (append-nil c.args.running.now.work.now.gone.items));
}
