-- What an engine stands for as it only looks.
use Rattle.std.proofs.Common.{◌≡◌, ℕ, suc, arith, ◌+◌, List, ◌∷◌, drop, Some, sym, ap, ◌∙◌, subst}
use Rattle.std.specs.List.{slice_get}
use Rattle.std.specs.declared.vec.Vec.{Vec}
use Rattle.std.specs.declared.alloc.Global.{Global}
use Rattle.std.proofs.lemmas.List.Elements.{All-head, All-tail}
use Rattle.sb_rule.specs.declared.action.Action.{Action}
use Rattle.sb_relation.specs.Db.{Db}
use Rattle.sb_fold.specs.Finish.{with_actions}
use Rattle.sb_fold.specs.Outcome.{Going, Queue}
use Rattle.sb_cascade.specs.Fitting.{AllFit, IsFitting}
use Rattle.sb_registry.specs.Boxes.{Meanings}
use Rattle.sb_drive.specs.Slots.{Slots}
use Rattle.sb_drive.specs.Spaces.{Wanted}
use Rattle.sb_standing.specs.Standing.{StandRules}
use Rattle.sb_standing.specs.Tables.{db_of}
use Rattle.sb_asking.specs.OpenRelation.{OpenRelation}
use Rattle.sb_asking.specs.Opened.{IsDurable}
use Rattle.sb_engine.specs.declared.running.Work.{Work}
use Rattle.sb_engine.specs.Opening.{IsKeeping}
use Rattle.sb_engine.specs.Working.{AreOpened, IsPaid, Stands}
use Rattle.sb_engine.proofs.LateLemmas.{drop_first}
use Rattle.sb_standing.proofs.StandLemmas.{StandRules-keeps}

module _ {S : Type 0} (Has : Wanted → Slots → S → Type 0) (Spent : ℕ → S → Type 0) (m : Meanings) (root : ℕ) (g : Going) (old new : S) (w : Work)
    (stands : Stands Has Spent m root g old w) where
  -- its pages keep what is open
  pub keeping_of : IsKeeping Has m root stands.want stands.slots stands.kept old w.opened.items
  keeping_of = record { has = stands.has; tables = stands.keeps.tables; opened = stands.opened }

  pub rules_of : StandRules m IsDurable (db_of stands.kept) stands.kept
  rules_of = StandRules-keeps m IsDurable root stands.slots w.gone.items stands.kept stands.keeps

  -- a call that looks leaves it
  pub stands_later : ((want : Wanted) (s : Slots) → Has want s old → Has want s new) → IsPaid Spent 0 g.trail.spent new → Stands Has Spent m root g new w
  stands_later later paid = record {
    want = stands.want;
    slots = stands.slots;
    kept = stands.kept;
    has = later stands.want stands.slots stands.has;
    db = stands.db;
    keeps = stands.keeps;
    lasting = stands.lasting;
    mirrored = stands.mirrored;
    paired = stands.paired;
    complete = stands.complete;
    opened = stands.opened;
    waits = stands.waits;
    picked = stands.picked;
    gone = stands.gone;
    aside = stands.aside;
    paid = paid;
    apart = stands.apart;
    rules = stands.rules;
    fit = stands.fit;
  }

  -- the action that waits first
  waiting_first : (a : Action) → slice_get w.queue.actions w.done ≡ Some a → g.queue.actions ≡ a ∷ drop (w.done + 1) w.queue.actions
  waiting_first a at = sym (ap (λ (q : Queue). q.actions) stands.waits) ∙ drop_first w.done w.queue.actions a at ∙ ap (λ (n : ℕ). a ∷ drop n w.queue.actions) next
    where
      next : suc w.done ≡ w.done + 1
      next = omega arith

  -- it fits
  pub first_fits : (a : Action) → slice_get w.queue.actions w.done ≡ Some a → IsFitting (db_of stands.kept) a
  first_fits a at =
      let fit : AllFit g.db (a ∷ drop (w.done + 1) w.queue.actions) = subst (λ (l : List Action). AllFit g.db l) (waiting_first a at) stands.fit in
      subst (λ (db : Db). IsFitting db a) stands.db (All-head (IsFitting g.db) a (drop (w.done + 1) w.queue.actions) fit)

  -- it was taken out
  pub stands_taken : (a : Action) (o : Vec OpenRelation Global) → slice_get w.queue.actions w.done ≡ Some a → ((want : Wanted) (s : Slots) → Has want s old → Has want s new) → IsPaid Spent 0 g.trail.spent new
      → AreOpened m stands.kept o.items
      → (rest : List Action) × (g.queue.actions ≡ a ∷ rest) × Stands Has Spent m root (with_actions rest g) new (record w { opened = o; done = w.done + 1 })
  stands_taken a o at later paid opened =
      let rest = drop (w.done + 1) w.queue.actions in
      let waits = waiting_first a at in (
        rest,
        waits,
        record {
          want = stands.want;
          slots = stands.slots;
          kept = stands.kept;
          has = later stands.want stands.slots stands.has;
          db = stands.db;
          keeps = stands.keeps;
          lasting = stands.lasting;
          mirrored = stands.mirrored;
          paired = stands.paired;
          complete = stands.complete;
          opened = opened;
          waits = λ i. record { actions = rest; entries = ap (λ (q : Queue). q.entries) stands.waits i };
          picked = stands.picked;
          gone = stands.gone;
          aside = stands.aside;
          paid = paid;
          apart = stands.apart;
          rules = stands.rules;
          fit = All-tail (IsFitting g.db) a rest (subst (λ (l : List Action). AllFit g.db l) waits stands.fit);
        },
      )
