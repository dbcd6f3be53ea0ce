-- What waits is done over databases whose rules hold, and then all do.
use Rattle.std.proofs.Common.{◌≡◌, ℕ, zero, suc, List, [], ◌∷◌, Option, Some, None, refl}
use Rattle.std.specs.Prelude.{All}
use Rattle.std.proofs.lemmas.List.Elements.{All-head, All-tail}
use Rattle.sb_rule.specs.declared.action.Action.{Action}
use Rattle.sb_relation.specs.Db.{Name}
use Rattle.sb_fold.specs.Extensions.{Extensions}
use Rattle.sb_fold.specs.Finish.{with_actions, drain_next, unless_waiting, drain, first_failing, unless_failing}
use Rattle.sb_fold.specs.Fold.{act, first_change}
use Rattle.sb_fold.specs.Laws.{OfMade}
use Rattle.sb_fold.specs.Outcome.{Going, Outcome, Gives, Stopped, NoStep, Work, continue}
use Rattle.sb_plain.proofs.SoundLemmas.{commit_sound}
use Rattle.sb_lawful_rows.specs.Work.{MayAct}
use Rattle.sb_sound_rows.specs.Laws.{FinishEndsSound}
use Rattle.sb_sound_rows.specs.Work.{IsSoundWork, IsReady}
use Rattle.sb_sound_rows.proofs.Folding.{actions-end}

pub made_next : {A B : Type 0} (P Q : Going → Type 0) (o : Outcome A) (next : A → Work B) → OfMade P o → ((x : A) (g : Going) → P g → OfMade Q (next x g)) → OfMade Q (continue next o)
made_next P Q (Gives x g) next given then = then x g given
made_next P Q (Stopped r trail) next given then = tt
made_next P Q (NoStep trail) next given then = tt

abbrev Drains : Extensions → Work (Unit {0}) → Type 0
Drains ext work = (g : Going) → IsSoundWork ext g → OfMade (IsSoundWork ext) (work g)

next_drains : (ext : Extensions) (rest : Work (Unit {0})) → Drains ext rest → (actions : List Action) (g : Going) → IsSoundWork ext g → All (MayAct g.db) actions
    → OfMade (IsSoundWork ext) (drain_next (first_change ext) rest actions g)
next_drains ext rest goes [] g work waits = work
next_drains ext rest goes (a ∷ actions) g work waits =
    made_next (IsSoundWork ext) (IsSoundWork ext) (act (first_change ext) a (with_actions actions g)) (λ _. rest)
    (actions-end ext 16 a (with_actions actions g) (record {
      work = record {
        stands = record { lawful = work.work.stands.lawful; triggers = work.work.stands.triggers; waiting = All-tail (MayAct g.db) a actions waits };
        trail = work.work.trail;
      };
      sound = work.sound;
    }) (All-head (MayAct g.db) a actions waits)) (λ n new left. goes new left)

drains : (ext : Extensions) (most : ℕ) → Drains ext (drain ext most)
drains ext zero g work = by g.queue.actions
  where
    by : (actions : List Action) → OfMade (IsSoundWork ext) (unless_waiting actions g)
    by [] = work
    by (a ∷ actions) = tt
drains ext (suc most) g work = next_drains ext (drain ext most) (drains ext most) g.queue.actions g work work.work.stands.waiting

pub finish-ends : FinishEndsSound
finish-ends ext g work =
    made_next (IsSoundWork ext) (IsReady ext) (drain ext 1000 g) (λ _ going. unless_failing (first_failing ext going.db going.db) going) (drains ext 1000 g work)
    (λ _ new left. by new left (first_failing ext new.db new.db) refl)
  where
    by : (new : Going) → IsSoundWork ext new → (failing : Option (Name × Name)) → first_failing ext new.db new.db ≡ failing → OfMade (IsReady ext) (unless_failing failing new)
    by new left None none = record { work = left.work; sound = commit_sound ext new.db left.work.stands.lawful left.sound none }
    by new left (Some (relation, name)) fails = tt
