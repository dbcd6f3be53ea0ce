-- What comes of a look at an engine.
use Rattle.std.proofs.Common.{◌≡◌, ℕ, true, false, true≢false, Option, Some, None, Result, Ok, Err, IfErr, IfOk, IfSome, sym, subst}
use Rattle.sb_fold.specs.declared.refusal.Refusal.{Refusal}
use Rattle.sb_fold.specs.Outcome.{Going}
use Rattle.sb_plain.specs.declared.command.Command.{Command}
use Rattle.sb_plain.specs.Refusing.{refused}
use Rattle.sb_plain.specs.State.{State}
use Rattle.sb_cascade.specs.Runs.{OnFault, is_free, is_room}
use Rattle.sb_refusals.specs.Catalogue.{is_damage}
use Rattle.sb_refusals.specs.Catalogue as test
use Rattle.sb_registry.specs.Boxes.{Meanings}
use Rattle.sb_drive.specs.declared.space.SpaceFault.{SpaceFault}
use Rattle.sb_drive.specs.Slots.{Slots}
use Rattle.sb_drive.specs.Spaces.{Wanted}
use Rattle.sb_map.specs.declared.place.Place.{Place}
use Rattle.sb_engine.specs.Refusals.{HasFaultCause, HasRefusalCause}
use Rattle.sb_engine.specs.Working.{IsPaid, Stands, extensions_of}
use Rattle.sb_engine.proofs.PaidLemmas.{Spends, paid_looking}
use Rattle.sb_engine.proofs.RefusedLemmas.{on_fault, refused_fault}
use Rattle.sb_execution.specs.declared.seen.Seen.{Seen}
use Rattle.sb_execution.specs.Seen.{HasFailed, LooksOn, Sees}
use Rattle.sb_execution.specs.SeenLaws.{look_cause, look_free}
use Rattle.sb_execution.specs.Serving.{IsSeenIn}
use Rattle.sb_execution.proofs.SeenLemmas.{look_refusal, stands-seen}

module _ {B S : Type 0} (Has : Wanted → Slots → S → Type 0) (Spent : ℕ → S → Type 0) (Leads : ℕ → S → S → Type 0) (Fails : SpaceFault → S → S → Type 0) (meanings : B → Meanings)
    (a b : Seen B S) (looks : LooksOn Leads a b) (x y : S) (first : a.space.now ≡ x) (last : b.space.now ≡ y) (c : Command) where
  abbrev StandsAt : Going → S → Type 0
  StandsAt g z = Stands Has Spent (meanings a.boxes.now) a.place.root g z a.work.now

  abbrev IsOf : State → Going → Type 0
  IsOf s g = IsSeenIn (meanings a.boxes.now) a.inside a.points.now s g

  sees_at : (s : State) (g : Going) → StandsAt g x → IsOf s g → Sees Has Spent meanings s a
  sees_at s g stands seen = record { going = g; stands = subst (λ (z : S). StandsAt g z) (sym first) stands; seen = seen }

  -- what is refused is what the tests refuse
  pub seen_refused : (r : Result (Option Refusal) Refusal)
      → IfOk r (λ o. (s : State) → Sees Has Spent meanings s a → (o ≡ refused (extensions_of (meanings a.boxes.now)) s c) × Sees Has Spent meanings s b)
      → IfOk r (λ o. (s : State) (g : Going) → StandsAt g x → IsOf s g → o ≡ refused (extensions_of (meanings a.boxes.now)) s c)
  seen_refused (Ok o) found = λ s g stands seen. (found s (sees_at s g stands seen)).0
  seen_refused (Err r) found = tt

  after : Spends Spent Leads → (s : State) (g : Going) → StandsAt g x → IsOf s g → Sees Has Spent meanings s b → StandsAt g b.space.now
  after spends s g stands seen then =
      let there = subst (λ (p : Place). Stands Has Spent (meanings b.boxes.now) p.root then.going b.space.now b.work.now) looks.place then.stands in
      stands-seen Has Spent (meanings a.boxes.now) a.place.root a.inside b.inside a.points.now b.points.now s g then.going x b.space.now a.work.now b.work.now looks.work seen stands
      (subst (λ (d : B). IsSeenIn (meanings d) b.inside b.points.now s then.going) looks.boxes then.seen)
      (paid_looking Spent Leads spends a.space.now b.space.now looks.leads (subst (λ (z : S). IsPaid Spent 0 g.trail.spent z) (sym first) stands.paid))
      (subst (λ (d : B). Stands Has Spent (meanings d) a.place.root then.going b.space.now b.work.now) looks.boxes there)

  -- the work stands behind it
  pub seen_stands : Spends Spent Leads → (r : Result (Option Refusal) Refusal)
      → IfOk r (λ o. (s : State) → Sees Has Spent meanings s a → (o ≡ refused (extensions_of (meanings a.boxes.now)) s c) × Sees Has Spent meanings s b)
      → IfOk r (λ o. (s : State) (g : Going) → StandsAt g x → IsOf s g → StandsAt g y)
  seen_stands spends (Ok o) found = λ s g stands seen. subst (λ (z : S). StandsAt g z) last (after spends s g stands seen (found s (sees_at s g stands seen)).1)
  seen_stands spends (Err r) found = tt

  pub seen_free : (r : Result (Option Refusal) Refusal) → IfErr r (λ e. HasFailed Leads Fails e a b) → IfErr r (λ e. is_free e ≡ true)
  seen_free (Ok o) failed = tt
  seen_free (Err r) failed = look_free Leads Fails r a b failed

  pub seen_room : (r : Result (Option Refusal) Refusal) → IfErr r (λ e. HasFailed Leads Fails e a b) → IfErr r (λ e. is_room e ≡ false)
  seen_room (Ok o) failed = tt
  seen_room (Err r) failed = subst (λ (x : Refusal). is_room x ≡ false) failed.is (look_refusal failed.fault failed.reads)

  pub seen_cause : (r : Result (Option Refusal) Refusal) → IfErr r (λ e. HasFailed Leads Fails e a b) → IfErr r (λ e. (s : State) → Sees Has Spent meanings s a → is_damage e ≡ false)
      → IfErr r (λ e. (s : State) (g : Going) → StandsAt g x → IsOf s g → HasRefusalCause Fails e y)
  seen_cause (Ok o) failed undamaged = tt
  seen_cause (Err r) failed undamaged = λ s g stands seen. subst (λ (z : S). HasRefusalCause Fails r z) last (look_cause Leads Fails r a b failed (undamaged s (sees_at s g stands seen)))

  pub seen_fault : (r : Result (Option Refusal) Refusal) → IfErr r (λ e. HasFailed Leads Fails e a b) → IfErr r (λ e. HasFaultCause Fails e y)
  seen_fault (Ok o) failed = tt
  seen_fault (Err r) failed =
      subst (λ (z : S). HasFaultCause Fails r z) last
      (subst (λ (x : Refusal). HasFaultCause Fails x b.space.now) failed.is
      (refused_fault Fails (Leads 0 a.space.now b.space.now) a.space.now b.space.now failed.fault failed.refused))

  -- what a test refuses is no fault
  pub seen_tested : (r : Result (Option Refusal) Refusal) → IfOk r (λ o. IfSome o (λ e. test.is_free e ≡ false)) → IfOk r (λ o. IfSome o (λ e. OnFault e ⊥))
  seen_tested (Ok None) tested = tt
  seen_tested (Ok (Some e)) tested = on_fault e ⊥ (λ is. true≢false (subst (λ (x : Refusal). test.is_free x ≡ false) is tested))
  seen_tested (Err r) tested = tt
