-- The actions that wait, one by one.
use Rattle.std.proofs.Common.{◌≡◌, ℕ, zero, suc, List, [], ◌∷◌, Option, Some, None, refl, sym, ap, ◌∙◌, subst}
use Rattle.sb_rule.specs.declared.action.Action.{Action}
use Rattle.sb_relation.specs.Db.{Name, Key}
use Rattle.sb_fold.specs.declared.refusal.Refusal.{Refusal}
use Rattle.sb_fold.specs.declared.refusal.Refusal.TheVariants.{DeferLimit, Veto}
use Rattle.sb_fold.specs.Extensions.{Extensions}
use Rattle.sb_fold.specs.Finish.{drain, drain_next, first_failing, unless_failing, unless_waiting, with_actions}
use Rattle.sb_fold.specs.Fold.{act, first_change}
use Rattle.sb_fold.specs.Laws.{OfMade}
use Rattle.sb_fold.specs.Outcome.{Trail, Going, Outcome, Gives, Stopped, NoStep, Work, made, continue, ◌>>=◌, with_picks}
use Rattle.sb_fold.proofs.LeadsLemmas.{leads_whole}
use Rattle.sb_cascade.specs.Runs.{LooksFrom, MadeFrom, StopsFrom, Unqueued}
use Rattle.sb_cascade.proofs.Forward.{forward_drain, forward_late}
use Rattle.sb_cascade.proofs.Leading.{GoesFrom, goes_here, goes_made, goes_next, goes_then}
use Rattle.sb_cascade.proofs.Stopping.{stops_here, stops_looking, stops_next, stops_then}

-- some of so many were done, and so many may be left
abbrev pub Draining : {S : Type 0} → (Going → S → Type 0) → Extensions → ℕ → S → ℕ → S → Type 0
Draining Stands ext most old left new = (g : Going) → Stands g old → GoesFrom Stands (drain ext most) g (drain ext left) new

-- none waits
none_is : (ext : Extensions) (most : ℕ) (g : Going) → g.queue.actions ≡ [] → (left : List Key) → drain ext most (with_picks g left) ≡ made tt (with_picks g left)
none_is ext zero g none left = ap (λ (actions : List Action). unless_waiting actions (with_picks g left)) none
none_is ext (suc most) g none left = ap (λ (actions : List Action). drain_next (first_change ext) (drain ext most) actions (with_picks g left)) none

-- and none is taken out
pub none_taken : {S : Type 0} (Stands : Going → S → Type 0) (g : Going) (a : Action) (new : S) → g.queue.actions ≡ [] → Unqueued Stands g (Some a) new → ⊥
none_taken Stands g a new none more = let is : a ∷ more.0 ≡ [] = sym more.1 ∙ none in cc

module _ {S : Type 0} (Stands : Going → S → Type 0) (Stopped : Refusal → Trail → S → Type 0) (ext : Extensions) (most : ℕ) (old : S) where
  pub draining_none : Draining Stands ext most old most old
  draining_none g stands = goes_here Stands (drain ext most) g old stands

  module _ (left : ℕ) (mid : S) (draining : Draining Stands ext most old left mid) where
    -- the layer stopped
    pub not_drained : (r : Refusal) (new : S) → ((g : Going) → Stands g mid → LooksFrom Stopped g r new) → (g : Going) → Stands g old → StopsFrom Stopped (drain ext most) g r new
    not_drained r new looks g stands =
        stops_then Stopped (drain ext left) r new (drain ext most) (draining g stands) (λ h stands. stops_looking Stopped (drain ext left) r new h (forward_drain ext left) (looks h stands))

    -- none waits any more
    pub drained : (new : S) → ((g : Going) → Stands g mid → Unqueued Stands g None new) → (g : Going) → Stands g old → MadeFrom Stands (drain ext most) g tt new
    drained new none g stands =
        goes_made (goes_then (draining g stands) (λ h stands.
        let u = none h stands in
        record { picks = []; after = h; leads = record { leads = none_is ext left h u.0 }; stands = u.1 }))

    -- one more waits than may be done
    pub over_limit : (a : Action) (new : S) → left ≡ 0 → ((g : Going) → Stands g mid → Unqueued Stands g (Some a) new) → ((g : Going) → Stands g new → Stopped DeferLimit g.trail new)
        → (g : Going) → Stands g old → StopsFrom Stopped (drain ext most) g DeferLimit new
    over_limit a new is more stopped g stands =
        stops_then Stopped (drain ext 0) DeferLimit new (drain ext most) (subst (λ left. GoesFrom Stands (drain ext most) g (drain ext left) mid) is (draining g stands)) (λ h stands.
        let u = more h stands in
        stops_here Stopped (drain ext 0) DeferLimit new h refl (λ picks. ap (λ (actions : List Action). unless_waiting actions (with_picks h picks)) u.1) (stopped (with_actions u.0 h) u.2))

    module _ (n : ℕ) (a : Action) (mid1 : S) (ext1 : Extensions) (is : left ≡ suc n) (same : ext1 ≡ ext) (more : (g : Going) → Stands g mid → Unqueued Stands g (Some a) mid1) where
      abbrev one : Work (Unit {0})
      one = act (first_change ext) a >>= λ _. drain ext n

      -- the first that waits was taken out
      taken : (g : Going) → Stands g old → GoesFrom Stands (drain ext most) g one mid1
      taken g stands =
          goes_then (subst (λ left. GoesFrom Stands (drain ext most) g (drain ext left) mid) is (draining g stands)) (λ h stands.
          let u = more h stands in
          record {
            picks = [];
            after = with_actions u.0 h;
            leads = record { leads = λ picks. ap (λ (actions : List Action). drain_next (first_change ext) (drain ext n) actions (with_picks h picks)) u.1 };
            stands = u.2;
          })

      pub draining_more : (k : ℕ) (new : S) → ((g : Going) → Stands g mid1 → MadeFrom Stands (act (first_change ext1) a) g k new) → Draining Stands ext most old n new
      draining_more k new acted g stands =
          let acted0 : (h : Going) → Stands h mid1 → MadeFrom Stands (act (first_change ext) a) h k new =
          subst (λ (ext : Extensions). (h : Going) → Stands h mid1 → MadeFrom Stands (act (first_change ext) a) h k new) same acted in
          goes_then (taken g stands) (λ h stands. goes_next (λ _. drain ext n) (acted0 h stands))

      pub draining_stopped : (r : Refusal) (new : S) → ((g : Going) → Stands g mid1 → StopsFrom Stopped (act (first_change ext1) a) g r new)
          → (g : Going) → Stands g old → StopsFrom Stopped (drain ext most) g r new
      draining_stopped r new stops g stands =
          let stops0 : (h : Going) → Stands h mid1 → StopsFrom Stopped (act (first_change ext) a) h r new =
          subst (λ (ext : Extensions). (h : Going) → Stands h mid1 → StopsFrom Stopped (act (first_change ext) a) h r new) same stops in
          stops_then Stopped one r new (drain ext most) (taken g stands)
          (λ h stands. stops_next Stopped (act (first_change ext) a) r new h (λ _. drain ext n) (λ _. forward_drain ext n) (stops0 h stands))

-- ---- where all were done, none waits
abbrev Emptied : Outcome (Unit {0}) → Type 0
Emptied = OfMade (λ left. left.queue.actions ≡ [])

emptied_next : {A : Type 0} (o : Outcome A) (rest : Work (Unit {0})) → ((g : Going) → Emptied (rest g)) → Emptied (continue (λ _. rest) o)
emptied_next (Gives x g) rest all = all g
emptied_next (Stopped r trail) rest all = tt
emptied_next (NoStep trail) rest all = tt

emptied_waiting : (g : Going) (actions : List Action) → g.queue.actions ≡ actions → Emptied (unless_waiting actions g)
emptied_waiting g [] is = is
emptied_waiting g (a ∷ actions) is = tt

emptied_drain : (ext : Extensions) (rest : Work (Unit {0})) → ((g : Going) → Emptied (rest g)) → (g : Going) (actions : List Action) → g.queue.actions ≡ actions
    → Emptied (drain_next (first_change ext) rest actions g)
emptied_drain ext rest all g [] is = is
emptied_drain ext rest all g (a ∷ actions) is = emptied_next (act (first_change ext) a (with_actions actions g)) rest all

emptied : (ext : Extensions) (most : ℕ) (g : Going) → Emptied (drain ext most g)
emptied ext zero g = emptied_waiting g g.queue.actions refl
emptied ext (suc most) g = emptied_drain ext (drain ext most) (emptied ext most) g g.queue.actions refl

-- ---- the rules that wait
abbrev late : Extensions → Work (Unit {0})
late ext going = unless_failing (first_failing ext going.db going.db) going

-- the first that fails, where none waits
abbrev pub Found : {S : Type 0} → (Going → S → Type 0) → Extensions → S → Option (Name × Name) → S → Type 0
Found Stands ext mid failing new = (g : Going) → Stands g mid → g.queue.actions ≡ [] → (failing ≡ first_failing ext g.db g.db) × Stands g new

module _ {S : Type 0} (Stands : Going → S → Type 0) (Stopped : Refusal → Trail → S → Type 0) (ext : Extensions) (most : ℕ) (old : S) where
  pub finish_not_drained : (r : Refusal) (new : S) → ((g : Going) → Stands g old → StopsFrom Stopped (drain ext most) g r new)
      → (g : Going) → Stands g old → StopsFrom Stopped (drain ext most >>= λ _. late ext) g r new
  finish_not_drained r new stops g stands = stops_next Stopped (drain ext most) r new g (λ _. late ext) (λ _. forward_late ext) (stops g stands)

  module _ (mid : S) (done : (g : Going) → Stands g old → MadeFrom Stands (drain ext most) g tt mid) where
    abbrev StandsEmptied : Going → S → Type 0
    StandsEmptied g a = Stands g a × (g.queue.actions ≡ [])

    all_done : (g : Going) → Stands g old → GoesFrom StandsEmptied (drain ext most >>= λ _. late ext) g (late ext) mid
    all_done g stands =
        let run = done g stands in
        let run0 : MadeFrom StandsEmptied (drain ext most) g tt mid =
        record { picks = run.picks; after = run.after; leads = run.leads; stands = (run.stands, subst Emptied (leads_whole run.leads) (emptied ext most (with_picks g run.picks))) } in
        goes_next (λ _. late ext) run0

    pub not_found : (r : Refusal) (new : S) → ((g : Going) → Stands g mid → LooksFrom Stopped g r new) → (g : Going) → Stands g old → StopsFrom Stopped (drain ext most >>= λ _. late ext) g r new
    not_found r new looks g stands =
        stops_then Stopped (late ext) r new (drain ext most >>= λ _. late ext) (all_done g stands) (λ h stands. stops_looking Stopped (late ext) r new h (forward_late ext) (looks h stands.0))

    module _ (ext1 : Extensions) (failing : Option (Name × Name)) (new : S) (same : ext1 ≡ ext) (found : Found Stands ext1 mid failing new) where
      found_is : (h : Going) → StandsEmptied h mid → (left : List Key) → late ext (with_picks h left) ≡ unless_failing failing (with_picks h left)
      found_is h stands left =
          ap (λ (failing : Option (Name × Name)). unless_failing failing (with_picks h left))
          (sym ((found h stands.0 stands.1).0 ∙ ap (λ (ext : Extensions). first_failing ext h.db h.db) same))

      -- each holds
      pub all_hold : failing ≡ None → (g : Going) → Stands g old → MadeFrom Stands (drain ext most >>= λ _. late ext) g tt new
      all_hold none g stands =
          goes_made (goes_then (all_done g stands) (λ h stands.
          record {
            picks = [];
            after = h;
            leads = record { leads = λ left. found_is h stands left ∙ ap (λ (failing : Option (Name × Name)). unless_failing failing (with_picks h left)) none };
            stands = (found h stands.0 stands.1).1;
          }))

      -- one fails
      pub one_fails : (relation name : Name) → failing ≡ Some (relation, name) → ((g : Going) → Stands g new → Stopped (Veto relation name) g.trail new)
          → (g : Going) → Stands g old → StopsFrom Stopped (drain ext most >>= λ _. late ext) g (Veto relation name) new
      one_fails relation name some stopped g stands =
          stops_then Stopped (late ext) (Veto relation name) new (drain ext most >>= λ _. late ext) (all_done g stands) (λ h stands.
          stops_here Stopped (late ext) (Veto relation name) new h refl
          (λ left. found_is h stands left ∙ ap (λ (failing : Option (Name × Name)). unless_failing failing (with_picks h left)) some) (stopped h (found h stands.0 stands.1).1))
