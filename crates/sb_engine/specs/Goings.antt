-- What no call changes, and what stays so with it.
use Rattle.std.specs.Prelude.{◌≡◌, ℕ, ◌+◌, Bool, true, false, cond, List, [], ◌∷◌, ◌++◌, Option, Some, is_some, bytes_eq}
use Rattle.std.proofs.Common.{true≢false, refl, sym, ap, ◌∙◌, append_assoc, append-nil}
use Rattle.std.specs.List.{flat_map}
use Rattle.sb_pred.specs.declared.predicate.Term.{Term}
use Rattle.sb_rule.specs.declared.action.Action.{Action}
use Rattle.sb_rule.specs.declared.action.Action.TheVariants as action
use Rattle.sb_rule.specs.declared.change.Change.{Change}
use Rattle.sb_relation.specs.Db.{Name}
use Rattle.sb_relation.specs.Fits.{relation_of}
use Rattle.sb_fold.specs.Outcome.{Entry, Queue}
use Rattle.sb_fold.specs.Wishes.{Put, const_of}
use Rattle.sb_cascade.proofs.FittingColumns.{values_fit}
use Rattle.sb_registry.specs.Boxes.{Meanings}
use Rattle.sb_asking.specs.OpenRelation.{OpenRelation}
use Rattle.sb_engine.specs.declared.running.Running.{Running}
use Rattle.sb_deferred.specs.Waiting.{IsFront}
use Rattle.sb_engine.specs.Working.{extensions_of, open_at, MayDo, MayWish, MayAsk, Grows, Goes, GoesOpen}

-- ---- relations that are open stay so
pub grows_none : (opened : List OpenRelation) → Grows opened opened
grows_none opened = record { more = []; is = sym (append-nil opened) }

pub grows_then : (a b c : List OpenRelation) → Grows a b → Grows b c → Grows a c
grows_then a b c first second = record {
  more = first.more ++ second.more;
  is = second.is ∙ ap (λ (l : List OpenRelation). l ++ second.more) first.is ∙ append_assoc a first.more second.more;
}

open_at-front : (opened more : List OpenRelation) (name : Name) (one : OpenRelation) → open_at opened name ≡ Some one → open_at (opened ++ more) name ≡ Some one
open_at-front [] more name one at = absurd (true≢false (sym (ap (λ (o : Option OpenRelation). is_some o) at)))
open_at-front (o ∷ opened) more name one at = of_test (bytes_eq o.name name) at (open_at-front opened more name one)
  where
    of_test : (b : Bool) → cond b (Some o) (open_at opened name) ≡ Some one → (open_at opened name ≡ Some one → open_at (opened ++ more) name ≡ Some one)
        → cond b (Some o) (open_at (opened ++ more) name) ≡ Some one
    of_test true is rest = is
    of_test false is rest = rest is

pub open_at-grows : (old new : List OpenRelation) (name : Name) (one : OpenRelation) → Grows old new → open_at old name ≡ Some one → open_at new name ≡ Some one
open_at-grows old new name one grows at = ap (λ (l : List OpenRelation). open_at l name) grows.is ∙ open_at-front old grows.more name one at

pub still_done : (a : Action) (old new : List OpenRelation) → Grows old new → MayDo old a → MayDo new a
still_done a old new grows may = record { one = may.one; at = open_at-grows old new (relation_of a) may.one grows may.at; named = may.named; fits = may.fits }

pub still_asked : (name : Name) (c : Change) (old new : List OpenRelation) → Grows old new → MayAsk old name c → MayAsk new name c
still_asked name c old new grows may = record { one = may.one; at = open_at-grows old new name may.one grows may.at; made = may.made }

-- an insert that may be done puts a row that fits
pub puts_fit : (relation : Name) (terms : List Term) (opened : List OpenRelation) → MayDo opened (action.Insert relation terms)
    → MayWish opened relation (Put (flat_map const_of terms))
puts_fit relation terms opened may = record { one = may.one; at = may.at; fits = values_fit may.one.descriptor.schema terms may.fits }

-- ---- what waits stays in front
pub front_none : (q : Queue) → IsFront q q
front_none q = record { later_actions = []; later_entries = []; actions = sym (append-nil q.actions); entries = sym (append-nil q.entries) }

pub front_then : (a b c : Queue) → IsFront a b → IsFront b c → IsFront a c
front_then a b c first second = record {
  later_actions = first.later_actions ++ second.later_actions;
  later_entries = first.later_entries ++ second.later_entries;
  actions = second.actions ∙ ap (λ (l : List Action). l ++ second.later_actions) first.actions ∙ append_assoc a.actions first.later_actions second.later_actions;
  entries = second.entries ∙ ap (λ (l : List Entry). l ++ second.later_entries) first.entries ∙ append_assoc a.entries first.later_entries second.later_entries;
}

-- ---- what is lent
pub goes_none : {B S : Type 0} (Leads : ℕ → S → S → Type 0) → ((a : S) → Leads 0 a a) → (a : Running B S) → Goes Leads a a
goes_none Leads stay a = record {
  same_space = refl;
  same_work = refl;
  boxes = refl;
  place = refl;
  leads = (0, stay a.space.now);
  queue = front_none a.work.now.queue;
  gone = ([], sym (append-nil a.work.now.gone.items));
}

pub goes_then : {B S : Type 0} (Leads : ℕ → S → S → Type 0) → ((k l : ℕ) (a b c : S) → Leads k a b → Leads l b c → Leads (k + l) a c)
    → (a b c : Running B S) → Goes Leads a b → Goes Leads b c → Goes Leads a c
goes_then Leads on a b c first second = record {
  same_space = second.same_space ∙ first.same_space;
  same_work = second.same_work ∙ first.same_work;
  boxes = second.boxes ∙ first.boxes;
  place = second.place ∙ first.place;
  leads = (first.leads.0 + second.leads.0, on first.leads.0 second.leads.0 a.space.now b.space.now c.space.now first.leads.1 second.leads.1);
  queue = front_then a.work.now.queue b.work.now.queue c.work.now.queue first.queue second.queue;
  gone = (first.gone.0 ++ second.gone.0, second.gone.1 ∙ ap (λ (l : List ℕ). l ++ second.gone.0) first.gone.1 ∙ append_assoc a.work.now.gone.items first.gone.0 second.gone.0);
}

pub stays : {B S : Type 0} (Leads : ℕ → S → S → Type 0) → ((a : S) → Leads 0 a a) → (a : Running B S) → GoesOpen Leads a a
stays Leads stay a = record { goes = goes_none Leads stay a; opened = grows_none a.work.now.opened.items }

pub goes_on : {B S : Type 0} (Leads : ℕ → S → S → Type 0) → ((k l : ℕ) (a b c : S) → Leads k a b → Leads l b c → Leads (k + l) a c)
    → (a b c : Running B S) → GoesOpen Leads a b → GoesOpen Leads b c → GoesOpen Leads a c
goes_on Leads on a b c first second = record {
  goes = goes_then Leads on a b c first.goes second.goes;
  opened = grows_then a.work.now.opened.items b.work.now.opened.items c.work.now.opened.items first.opened second.opened;
}

pub same_extensions : {B S : Type 0} (meanings : B → Meanings) (Leads : ℕ → S → S → Type 0) (a b : Running B S) → GoesOpen Leads a b
    → extensions_of (meanings b.boxes.now) ≡ extensions_of (meanings a.boxes.now)
same_extensions {B} meanings Leads a b goes = ap (λ (boxes : B). extensions_of (meanings boxes)) goes.goes.boxes
