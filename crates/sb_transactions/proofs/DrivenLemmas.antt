-- What stands goes on standing while an engine drives calls in a transaction.
use Rattle.std.proofs.Common.{ℕ, Option, List, sym, subst, ◌∙◌, arith}
use Rattle.sb_disk.specs.Disk.{Story}
use Rattle.sb_relation.specs.Db.{Db}
use Rattle.sb_fold.specs.Extensions.{box_of}
use Rattle.sb_fold.specs.Outcome.{Going}
use Rattle.sb_deferred.specs.Complete.{AreMirrored, IsComplete}
use Rattle.sb_cascade.specs.Fitting.{AllFit, AllMayStand}
use Rattle.sb_registry.specs.Boxes.{Meanings}
use Rattle.sb_drive.specs.Slots.{Slots}
use Rattle.sb_drive.specs.Spaces.{Wanted}
use Rattle.sb_map.specs.declared.place.Place.{Place}
use Rattle.sb_tables.specs.Standing.{Keeps}
use Rattle.sb_tables.specs.Opened.{IsDurable}
use Rattle.sb_space.specs.declared.durable.Durable.{Durable}
use Rattle.sb_space.specs.Durable.{parts_in}
use Rattle.sb_space.specs.View.{lent}
use Rattle.sb_space.specs.Works as space
use Rattle.sb_space.proofs.GoingBack.{KeepsChanges-driven, Stands-driven, WasAt-driven}
use Rattle.sb_tables.specs.Measures.{AreHeld}
use Rattle.sb_tables.specs.Work.{Work}
use Rattle.sb_tables.specs.Working.{AreNamedApart, ArePaired, extensions_of}
use Rattle.sb_tables.specs.Working as engine
use Rattle.sb_transactions.specs.Driven.{DrivenKeepsBegun, DrivenKeepsEachPoint, DrivenKeepsPoints, DrivenLeavesWanted, DrivenStands, GoesAreWorks, HasLent, IsServed, RunningStands, SpentLent}
use Rattle.sb_transactions.specs.Transactions.{IsAt, IsPaidAt, IsSettled}
use Rattle.sb_transactions.proofs.PageLemmas.{one-has}
use Rattle.sb_transactions.proofs.PointLemmas.{WasBegun-through}
use Rattle.sb_transactions.proofs.WorkLemmas.{front_long, front_waited, front_within, take_front}

-- what the engine stands for, in the words of this crate
IsSettled-stands : {S : Type 0} (Has : Wanted → Slots → S → Type 0) (Spent : ℕ → S → Type 0) (m : Meanings) (root : ℕ) (g : Going) (s : S) (w : Work) (stands : engine.Stands Has Spent m root g s w) → IsSettled m stands.kept g.queue
IsSettled-stands Has Spent m root g s w stands = record {
  lasting = stands.lasting;
  mirrored = subst (λ (db : Db). AreMirrored db) stands.db stands.mirrored;
  paired = subst (λ (db : Db). ArePaired db) stands.db stands.paired;
  apart = subst (λ (db : Db). AreNamedApart db) stands.db stands.apart;
  complete = subst (λ (db : Db). IsComplete db g.queue) stands.db stands.complete;
  rules = subst (λ (db : Db). AllMayStand (box_of (extensions_of m)) db) stands.db stands.rules;
  fit = subst (λ (db : Db). AllFit db g.queue.actions) stands.db stands.fit;
}

module _ {D : Type 0} (told : D → Option Story) (len faults : D → ℕ) where
  -- and the other way round
  pub Stands-at : (m : Meanings) (place : Place) (want : Wanted) (g : Going) (a : Durable D) (v : Work) → IsAt m place want (lent a).tx g (parts_in told len (lent a)) v → IsPaidAt g (parts_in told len (lent a))
      → engine.Stands (HasLent told len) SpentLent m place.root g a v
  Stands-at m place want g a v at paid = record {
    want = want;
    slots = at.slots;
    kept = at.kept;
    has = at.has;
    db = at.db;
    keeps = at.keeps;
    lasting = at.settled.lasting;
    mirrored = subst (λ (db : Db). AreMirrored db) (sym at.db) at.settled.mirrored;
    paired = subst (λ (db : Db). ArePaired db) (sym at.db) at.settled.paired;
    complete = subst (λ (db : Db). IsComplete db g.queue) (sym at.db) at.settled.complete;
    opened = at.opened;
    waits = at.waits;
    picked = at.picked;
    gone = at.gone;
    aside = at.aside;
    paid = record { changes = paid.changes; within = paid.within; spent = paid.spent };
    apart = subst (λ (db : Db). AreNamedApart db) (sym at.db) at.settled.apart;
    rules = subst (λ (db : Db). AllMayStand (box_of (extensions_of m)) db) (sym at.db) at.settled.rules;
    fit = subst (λ (db : Db). AllFit db g.queue.actions) (sym at.db) at.settled.fit;
  }

  pub driven-stands : DrivenStands told len faults
  driven-stands m place want g h a b v w at leads serves stands up =
      let then = Stands-driven told len faults leads.0 (lent a) (lent b) leads.1 up want at.has.now at.has.stands in
      record {
        usable = record {
          ready = subst (λ (tx : ℕ). space.Serves tx (parts_in told len (lent b))) leads.1.tx serves.ready;
          owner = serves.owner;
          opened = serves.opened;
          within = serves.within;
        };
        slots = stands.slots;
        kept = stands.kept;
        has = one-has want then.0 stands.want stands.slots (parts_in told len (lent b)) then.1 stands.has;
        db = stands.db;
        keeps = stands.keeps;
        settled = IsSettled-stands (HasLent told len) SpentLent m place.root h b w stands;
        opened = stands.opened;
        waits = stands.waits;
        picked = stands.picked;
        gone = stands.gone;
        aside = stands.aside;
      }

  pub driven-each : DrivenKeepsEachPoint told len faults
  driven-each point a b v w is works = record {
    changes = λ up.
        let kept = KeepsChanges-driven told len faults works.leads.0 (lent a) (lent b) works.leads.1 up in
        let less = is.changes kept.0 in
        let more = kept.1 in
        omega arith;
    queue = front_within point v.queue w.queue works.queue is.queue;
    done = is.done;
    gone = let more = front_long v.gone.items works.gone.0 w.gone.items works.gone.1 in let less = is.gone in omega arith;
  }

  pub driven-points : DrivenKeepsPoints told len faults
  driven-points m place want g point a b v w was works up = record {
    of = driven-each point a b v w was.of works;
    slots = was.slots;
    kept = was.kept;
    was = WasAt-driven told len faults works.leads.0 (lent a) (lent b) works.leads.1 up want was.slots point.space.store.changes was.was;
    db = was.db;
    keeps = subst (λ (xs : List ℕ). Keeps m IsDurable place.root was.slots xs was.kept) (sym (take_front point.gone v.gone.items works.gone.0 w.gone.items works.gone.1 was.of.gone)) was.keeps;
    settled = was.settled;
    waited = front_waited point v.queue w.queue works.queue was.of.queue ∙ was.waited;
    gone = λ none. take_front point.gone v.gone.items works.gone.0 w.gone.items works.gone.1 was.of.gone ∙ was.gone none;
    aside = subst (λ (xs : List ℕ). AreHeld was.slots xs g.gone.durable)
        (sym (take_front point.gone v.gone.items works.gone.0 w.gone.items works.gone.1 was.of.gone)) was.aside;
  }

  pub driven-begun : DrivenKeepsBegun told len faults
  driven-begun m root want db a b begun leads up =
      WasBegun-through m root want db (lent a).tx (parts_in told len (lent a)) (parts_in told len (lent b)) leads.1.works.geometry
      (λ want s was. WasAt-driven told len faults leads.0 (lent a) (lent b) leads.1 up want s 0 was) begun

  pub driven-leaves : DrivenLeavesWanted told len faults
  driven-leaves a b leads = leads.1.works.leaves

  module _ {B : Type 0} (meanings : B → Meanings) where
    pub goes-works : GoesAreWorks told len faults meanings
    goes-works a b goes = record { leads = goes.leads; queue = goes.queue; gone = goes.gone }

    pub running-stands : RunningStands told len faults meanings
    running-stands want g h a b at goes serving stands up =
        driven-stands (meanings a.boxes.now) a.place want g h a.space.now b.space.now a.work.now b.work.now at goes.leads
        (subst (λ (place : Place). engine.Serves (IsServed told len) (meanings a.boxes.now) place b.space.now b.work.now) goes.place
        (subst (λ (boxes : B). engine.Serves (IsServed told len) (meanings boxes) b.place b.space.now b.work.now) goes.boxes serving))
        (subst (λ (place : Place). engine.Stands (HasLent told len) SpentLent (meanings a.boxes.now) place.root h b.space.now b.work.now) goes.place
        (subst (λ (boxes : B). engine.Stands (HasLent told len) SpentLent (meanings boxes) b.place.root h b.space.now b.work.now) goes.boxes stands))
        up
