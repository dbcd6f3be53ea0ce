-- What finishing a transaction gives, and how it is refused.
use Rattle.std.proofs.Common.{◌≡◌, ℕ, zero, suc, ◌≤◌, Bool, true, false, Option, Some, None, List, [], ◌++◌, refl, sym, ap, subst, ◌∙◌, append-nil, arith}
use Rattle.sb_rule.specs.declared.action.Action.{Action}
use Rattle.sb_relation.specs.Db.{Key, Name}
use Rattle.sb_fold.specs.declared.refusal.Refusal.{Refusal}
use Rattle.sb_fold.specs.declared.refusal.Refusal.TheVariants.{Room, Damaged, Fault}
use Rattle.sb_fold.specs.Extensions.{Extensions}
use Rattle.sb_fold.specs.Finish.{drain, drain_next, finish, first_failing, freed, unless_failing, unless_waiting}
use Rattle.sb_fold.specs.Fold.{first_change}
use Rattle.sb_fold.specs.Outcome.{Trail, Going, Outcome, Gives, Stopped, NoStep, Work, made, change_to, continue, trail_of, with_picks, Leads}
use Rattle.sb_fold.proofs.LeadsLemmas.{leads_refused}
use Rattle.sb_drive.specs.declared.space.SpaceFault.{SpaceFault}
use Rattle.sb_drive.specs.declared.space.SpaceFault.TheVariants as fault
use Rattle.sb_cascade.specs.Runs.{is_free, EndsBy, GoesOn, MadeFrom, StopsFrom}
use Rattle.sb_cascade.proofs.Forward.{IsForward, forward_change, forward_finish, forward_next, goes_here, goes_next}
use Rattle.sb_tables.specs.Refusals.{HasRefusalCause, IsRefusedBy, refusal_of}
use Rattle.sb_transactions.specs.Commits.{finish_and_free}

-- ---- nothing waits
drain-none : (ext : Extensions) (most : ℕ) (g : Going) → g.queue.actions ≡ [] → drain ext most g ≡ made tt g
drain-none ext zero g none = ap (λ (actions : List Action). unless_waiting actions g) none
drain-none ext (suc most) g none = ap (λ (actions : List Action). drain_next (first_change ext) (drain ext most) actions g) none

-- the rules that are tested behind the actions
abbrev tested : Extensions → Unit {0} → Work (Unit {0})
tested ext _ going = unless_failing (first_failing ext going.db going.db) going

finish-none : (ext : Extensions) (g : Going) → g.queue.actions ≡ [] → first_failing ext g.db g.db ≡ None → finish ext g ≡ made tt g
finish-none ext g none holds =
    ap (λ (o : Outcome (Unit {0})). continue (tested ext) o) (drain-none ext 1000 g none) ∙ ap (λ (f : Option (Name × Name)). unless_failing f g) holds

-- ---- the pages that go behind it
-- to give them back
abbrev freeing : Unit {0} → Work (Unit {0})
freeing _ = change_to freed

goes_freed : (g : Going) → GoesOn g.trail (freed g).trail
goes_freed g = record { points = []; more = sym (append-nil g.trail.points); spent = omega arith }

forward_freeing : IsForward (change_to freed)
forward_freeing = forward_change freed goes_freed

leads_freed : (ext : Extensions) (g after : Going) (picks : List Key) → Leads (finish ext) g picks (made tt) after → Leads (finish_and_free ext) g picks (made tt) (freed after)
leads_freed ext g after picks run = record { leads = λ more. ap (continue freeing) (run.leads more) }

-- what they give back is told by the trail alone
pub made-freed : {S T : Type 0} (P : Going → S → Type 0) (Q : Going → T → Type 0) (ext : Extensions) (g : Going) (a : S) (b : T) → ((h : Going) → P h a → Q (freed h) b)
    → MadeFrom P (finish ext) g tt a → MadeFrom Q (finish_and_free ext) g tt b
made-freed P Q ext g a b gives from = record {
  picks = from.picks;
  after = freed from.after;
  leads = leads_freed ext g from.after from.picks from.leads;
  stands = gives from.after from.stands;
}

-- what is finished and freed only lengthens the trail
pub made-further : {S : Type 0} (P : Going → S → Type 0) (ext : Extensions) (g : Going) (a : S) → MadeFrom P (finish_and_free ext) g tt a
    → MadeFrom (λ h x. g.trail.spent ≤ h.trail.spent) (finish_and_free ext) g tt a
made-further P ext g a from = record { picks = from.picks; after = from.after; leads = from.leads; stands = goes.spent }
  where
    goes : GoesOn g.trail from.after.trail
    goes =
        subst (λ (o : Outcome (Unit {0})). GoesOn g.trail (trail_of o)) (from.leads.leads [])
        ((forward_next (finish ext) freeing (forward_finish ext) (λ _. forward_freeing)).goes (with_picks g (from.picks ++ [])))

-- ---- what was finished has no rule that fails
last-step : (f : Option (Name × Name)) (h after : Going) → unless_failing f h ≡ Gives tt after → (f ≡ None) × (h ≡ after)
last-step None h after is = (refl, cc)
last-step (Some (relation, name)) h after is = absurd (cc)

last-test : (ext : Extensions) (o : Outcome (Unit {0})) (after : Going) → continue (tested ext) o ≡ Gives tt after → first_failing ext after.db after.db ≡ None
last-test ext (Gives x h) after is =
    let last = last-step (first_failing ext h.db h.db) h after is in
    subst (λ (g : Going). first_failing ext g.db g.db ≡ None) last.1 last.0
last-test ext (Stopped r trail) after is = absurd (cc)
last-test ext (NoStep trail) after is = absurd (cc)

-- and what was freed then was finished before
freed-step : (o : Outcome (Unit {0})) (after : Going) → continue freeing o ≡ Gives tt after → (mid : Going) × (o ≡ Gives tt mid) × (freed mid ≡ after)
freed-step (Gives x mid) after is = (mid, refl, cc)
freed-step (Stopped r trail) after is = absurd (cc)
freed-step (NoStep trail) after is = absurd (cc)

finish-holds : (ext : Extensions) (g after : Going) → finish_and_free ext g ≡ made tt after → first_failing ext after.db after.db ≡ None
finish-holds ext g after is =
    let before = freed-step (finish ext g) after is in
    subst (λ (h : Going). first_failing ext h.db h.db ≡ None) before.2 (last-test ext (drain ext 1000 g) before.0 before.1)

-- where no action waits, it leaves what is gone
pub finish-gone : (ext : Extensions) (g after : Going) (picks : List Key) → g.queue.actions ≡ [] → Leads (finish ext) g picks (made tt) after → g.gone ≡ after.gone
finish-gone ext g after picks none leads =
    let start = with_picks g (picks ++ []) in
    let end = with_picks after [] in
    let tests : unless_failing (first_failing ext g.db g.db) start ≡ Gives tt end = sym (ap (λ (o : Outcome (Unit {0})). continue (tested ext) o) (drain-none ext 1000 start none)) ∙ leads.leads [] in
    ap (λ (h : Going). h.gone) (last-step (first_failing ext g.db g.db) start end tests).1

pub finish-map : {S T : Type 0} (P : Going → S → Type 0) (Q : Going → T → Type 0) (ext : Extensions) (g : Going) (a : S) (b : T) → ((h : Going) → first_failing ext h.db h.db ≡ None → P h a → Q h b)
    → MadeFrom P (finish_and_free ext) g tt a → MadeFrom Q (finish_and_free ext) g tt b
finish-map P Q ext g a b gives from = record {
  picks = from.picks;
  after = from.after;
  leads = from.leads;
  stands = gives from.after (finish-holds ext (with_picks g (from.picks ++ [])) (with_picks from.after []) (from.leads.leads [])) from.stands;
}

pub finish-at_once : {S : Type 0} (P : Going → S → Type 0) (ext : Extensions) (g : Going) (a : S) → g.queue.actions ≡ [] → first_failing ext g.db g.db ≡ None → P (freed g) a
    → MadeFrom P (finish_and_free ext) g tt a
finish-at_once P ext g a none holds is =
    made-freed (λ h x. P (freed h) x) P ext g a a (λ h so. so)
    (record { picks = []; after = g; leads = record { leads = λ more. finish-none ext (with_picks g more) none holds }; stands = is })

-- ---- stops
pub StopsFrom-map : {S T A : Type 0} (P : Refusal → Trail → S → Type 0) (Q : Refusal → Trail → T → Type 0) (work : Work A) (g : Going) (r : Refusal) (a : S) (b : T) → ((trail : Trail) → P r trail a → Q r trail b)
    → StopsFrom P work g r a → StopsFrom Q work g r b
StopsFrom-map P Q work g r a b gives stops = by (is_free r) stops
  where
    by : (free : Bool) → EndsBy P free work g r a → EndsBy Q free work g r b
    by true broken = record { picks = broken.picks; trail = broken.trail; comes = broken.comes; stopped = gives broken.trail broken.stopped }
    by false refused = record { picks = refused.picks; after = refused.after; leads = refused.leads; stopped = gives refused.after.trail refused.stopped }

-- a refusal of what comes behind the work
pub StopsFrom-behind : {S T A : Type 0} (P : Going → S → Type 0) (Q : Refusal → Trail → T → Type 0) (work : Work A) (g : Going) (x : A) (a : S) (r : Refusal) (b : T) → is_free r ≡ true
    → ((h : Going) → P h a → Q r h.trail b) → MadeFrom P work g x a → StopsFrom Q work g r b
StopsFrom-behind {A = A} P Q work g x a r b free is from = subst (λ (t : Bool). EndsBy Q t work g r b) (sym free) (record {
  picks = from.picks;
  trail = from.after.trail;
  comes = λ more. subst (λ (o : Outcome A). GoesOn from.after.trail (trail_of o)) (sym (from.leads.leads more)) (goes_here from.after.trail);
  stopped = is from.after from.stands;
})

-- a refusal of the work that finishes is one of what frees then
pub StopsFrom-freed : {S : Type 0} (P : Refusal → Trail → S → Type 0) (ext : Extensions) (g : Going) (r : Refusal) (a : S) → StopsFrom P (finish ext) g r a → StopsFrom P (finish_and_free ext) g r a
StopsFrom-freed P ext g r a stops = by (is_free r) stops
  where
    by : (free : Bool) → EndsBy P free (finish ext) g r a → EndsBy P free (finish_and_free ext) g r a
    by true broken = record {
      picks = broken.picks;
      trail = broken.trail;
      comes = λ more. goes_next broken.trail (finish ext (with_picks g (broken.picks ++ more))) freeing (λ _. forward_freeing) (broken.comes more);
      stopped = broken.stopped;
    }
    by false refused = record { picks = refused.picks; after = refused.after; leads = leads_refused freeing refused.leads; stopped = refused.stopped }

-- another refusal where the work was refused
pub StopsFrom-else : {S T A : Type 0} (P : Refusal → Trail → S → Type 0) (Q : Refusal → Trail → T → Type 0) (work : Work A) (g : Going) (r q : Refusal) (a : S) (b : T) → is_free q ≡ true
    → ((trail : Trail) → P r trail a → Q q trail b) → StopsFrom P work g r a → StopsFrom Q work g q b
StopsFrom-else {A = A} P Q work g r q a b free is stops = subst (λ (t : Bool). EndsBy Q t work g q b) (sym free) (by (is_free r) stops)
  where
    by : (t : Bool) → EndsBy P t work g r a → EndsBy Q true work g q b
    by true broken = record { picks = broken.picks; trail = broken.trail; comes = broken.comes; stopped = is broken.trail broken.stopped }
    by false refused = record {
      picks = refused.picks;
      trail = refused.after.trail;
      comes = λ more. subst (λ (o : Outcome A). GoesOn refused.after.trail (trail_of o)) (sym (refused.leads.leads more)) (goes_here refused.after.trail);
      stopped = is refused.after.trail refused.stopped;
    }

-- ---- causes
refused-map : {S T : Type 0} (P : SpaceFault → S → S → Type 0) (Q : SpaceFault → T → T → Type 0) (f : S → T) → ((e : SpaceFault) (a b : S) → P e a b → Q e (f a) (f b)) → (r : Refusal) (a : S) → IsRefusedBy P r a → IsRefusedBy Q r (f a)
refused-map P Q f gives r a by = record { fault = by.fault; is = by.is; before = f by.before; fails = gives by.fault by.before a by.fails }

pub HasCause-map : {S T : Type 0} (P : SpaceFault → S → S → Type 0) (Q : SpaceFault → T → T → Type 0) (f : S → T) → ((e : SpaceFault) (a b : S) → P e a b → Q e (f a) (f b)) → (r : Refusal) (a : S) → HasRefusalCause P r a → HasRefusalCause Q r (f a)
HasCause-map P Q f gives (Room room) a cause = refused-map P Q f gives (Room room) a cause
HasCause-map P Q f gives Fault a cause = refused-map P Q f gives Fault a cause
HasCause-map P Q f gives (Damaged page) a cause = absurd cause
HasCause-map P Q f gives r a cause = tt

-- the refusals of a space are free
pub refusal-free : (e : SpaceFault) → is_free (refusal_of e) ≡ true
refusal-free fault.Fault = refl
refusal-free (fault.DataFull used total) = refl
refusal-free (fault.TempFull used total) = refl
refusal-free (fault.LogFull used need total) = refl
refusal-free (fault.GatesFull used total) = refl
refusal-free (fault.Damaged page) = refl
refusal-free fault.Down = refl
refusal-free fault.NoMemory = refl
