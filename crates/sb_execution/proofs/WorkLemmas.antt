-- A command's work on an engine that is lent a space and what is kept beside it.
use Rattle.std.proofs.Common.{◌≡◌, ℕ, ◌+◌, [], append-nil, Option, Some, None, Result, Ok, Err, IfErr, IfOk, sym, subst}
use Rattle.std.specs.Prelude.{IfSome}
use Rattle.std.specs.declared.vec.Vec.{Vec}
use Rattle.std.specs.declared.alloc.Global.{Global}
use Rattle.sb_fold.specs.declared.refusal.Refusal.{Refusal}
use Rattle.sb_fold.specs.Outcome.{Going, Trail}
use Rattle.sb_plain.specs.declared.command.Command.{Command}
use Rattle.sb_plain.specs.State.{State}
use Rattle.sb_plain.specs.Step.{Answer, work_of}
use Rattle.sb_cascade.specs.Runs.{MadeFrom, StopsFrom}
use Rattle.sb_registry.specs.Boxes.{Meanings}
use Rattle.sb_drive.specs.declared.space.SpaceFault.{SpaceFault}
use Rattle.sb_drive.specs.Slots.{Slots}
use Rattle.sb_drive.specs.Spaces.{Wanted}
use Rattle.sb_map.specs.declared.place.Place.{Place}
use Rattle.sb_engine.specs.OpenRelation.{OpenRelation}
use Rattle.sb_engine.specs.declared.running.Running.{Running}
use Rattle.sb_engine.specs.declared.running.Work.{Work}
use Rattle.sb_engine.specs.Goings.{front_none}
use Rattle.sb_engine.specs.Refusals.{HasFaultCause}
use Rattle.sb_engine.specs.Working.{IsStoppedFor, IsStoppedIn, Stands, StandsFor, extensions_of}
use Rattle.sb_session.specs.Driven.{WorksOn}
use Rattle.sb_session.proofs.FinishLemmas.{StopsFrom-map}
use Rattle.sb_session.proofs.RunLemmas.{IsLent, parts-from, parts-to}
use Rattle.sb_statements.specs.declared.answers.Answer.{Answer as Answered}
use Rattle.sb_statements.specs.Statements.{IsDone, IsStopped, MayWork, answer_of}
use Rattle.sb_execution.specs.declared.serving.Served.{Served}
use Rattle.sb_execution.specs.declared.serving.Served.TheVariants as served
use Rattle.sb_execution.specs.Serving.{IsRefusedIn, IsServed, IsUnserved, Looked, Makes, Tested, Worked}

if_some : {A : Type 0} (o : Option A) (P Q : A → Type 0) → ((x : A) → P x → Q x) → IfSome o P → IfSome o Q
if_some None P Q gives so = tt
if_some (Some x) P Q gives so = gives x so

-- what is made is so of another state
pub Makes-map : {S T : Type 0} (P : Going → S → Type 0) (Q : Going → T → Type 0) (m : Meanings) (c : Command) (g : Going) (answer : Answer) (a : S) (b : T)
    → ((h : Going) → P h a → Q h b) → Makes P m c g answer a → Makes Q m c g answer b
Makes-map P Q m c g answer a b gives makes =
    if_some (work_of (extensions_of m) c) (λ work. MadeFrom P work g answer a) (λ work. MadeFrom Q work g answer b)
    (λ work from. record { picks = from.picks; after = from.after; leads = from.leads; stands = gives from.after from.stands }) makes

pub IsRefusedIn-map : {S T : Type 0} (P : Refusal → Trail → S → Type 0) (Q : Refusal → Trail → T → Type 0) (m : Meanings) (c : Command) (g : Going) (r : Refusal) (a : S) (b : T)
    → ((trail : Trail) → P r trail a → Q r trail b) → IsRefusedIn P m c g r a → IsRefusedIn Q m c g r b
IsRefusedIn-map P Q m c g r a b gives refused =
    if_some (work_of (extensions_of m) c) (λ work. StopsFrom P work g r a) (λ work. StopsFrom Q work g r b) (λ work stops. StopsFrom-map P Q work g r a b gives stops) refused

module _ {B S : Type 0} (Has : Wanted → Slots → S → Type 0) (Spent : ℕ → S → Type 0) (Leads : ℕ → S → S → Type 0) (Fails : SpaceFault → S → S → Type 0) (table : S → ℕ) (meanings : B → Meanings) (boxes : B) (place : Place) (x y : S) (w v : Work) (a b : Running B S)
    (lent : IsLent boxes place x w a) (end : IsLent boxes place y v b) (c : Command) where
  abbrev IsSo : Going → Meanings → Place → S → Work → Type 0
  IsSo g m q z u = Stands Has Spent m q.root g z u

  stands_in : (g : Going) → Stands Has Spent (meanings boxes) place.root g x w → StandsFor Has Spent meanings g a
  stands_in g stands = parts-to meanings boxes place x w a lent (IsSo g) stands

  may_in : (g : Going) → MayWork (meanings boxes) g c → MayWork (meanings a.boxes.now) g c
  may_in g may = subst (λ (d : B). MayWork (meanings d) g c) (sym lent.boxes_are) may

  work-made : (answer : Answer) → IsDone Has Spent meanings c a answer b → (g : Going) → Stands Has Spent (meanings boxes) place.root g x w → MayWork (meanings boxes) g c
      → Makes (λ h z. Stands Has Spent (meanings boxes) place.root h z v) (meanings boxes) c g answer y
  work-made answer done g stands may =
      Makes-map (λ h d. StandsFor Has Spent meanings h d) (λ h z. Stands Has Spent (meanings boxes) place.root h z v) (meanings boxes) c g answer b y
      (λ h so. parts-from meanings boxes place y v b end (IsSo h) so)
      (subst (λ (d : B). Makes (λ h e. StandsFor Has Spent meanings h e) (meanings d) c g answer b) lent.boxes_are (done g (stands_in g stands) (may_in g may)))

  abbrev By : Refusal → Trail → Running B S → Type 0
  By = IsStoppedFor Has Spent Leads Fails table meanings

  abbrev In : Refusal → Trail → S → Type 0
  In = IsStoppedIn Has Spent Leads Fails table (meanings boxes)

  stops_in : (r : Refusal) (trail : Trail) → By r trail b → In r trail y
  stops_in r trail is =
      subst (λ (d : B). IsStoppedIn Has Spent Leads Fails table (meanings d) r trail y) end.boxes_are
      (subst (λ (z : S). IsStoppedIn Has Spent Leads Fails table (meanings b.boxes.now) r trail z) end.space_is is)

  work-stopped : (r : Refusal) → IsStopped Has Spent Leads Fails table meanings c a r b → (g : Going) → Stands Has Spent (meanings boxes) place.root g x w → MayWork (meanings boxes) g c
      → IsRefusedIn In (meanings boxes) c g r y
  work-stopped r stopped g stands may =
      if_some (work_of (extensions_of (meanings boxes)) c) (λ work. StopsFrom By work g r b) (λ work. StopsFrom In work g r y)
      (λ work stops. StopsFrom-map By In work g r b y (stops_in r) stops)
      (subst (λ (d : B). IfSome (work_of (extensions_of (meanings d)) c) (λ work. StopsFrom By work g r b)) lent.boxes_are (stopped g (stands_in g stands) (may_in g may)))

  pub works-made : (r : Result Answered Refusal) → IfOk r (λ answer. IsDone Has Spent meanings c a (answer_of answer) b)
      → IfOk r (λ answer. (g : Going) → Stands Has Spent (meanings boxes) place.root g x w → MayWork (meanings boxes) g c
      → Makes (λ h z. Stands Has Spent (meanings boxes) place.root h z v) (meanings boxes) c g (answer_of answer) y)
  works-made (Ok answer) done = work-made (answer_of answer) done
  works-made (Err r) done = tt

  pub works-stopped : (r : Result Answered Refusal) → IfErr r (λ e. IsStopped Has Spent Leads Fails table meanings c a e b)
      → IfErr r (λ e. (g : Going) → Stands Has Spent (meanings boxes) place.root g x w → MayWork (meanings boxes) g c → IsRefusedIn In (meanings boxes) c g e y)
  works-stopped (Ok answer) stopped = tt
  works-stopped (Err r) stopped = work-stopped r stopped

-- ---- a space that was only looked at
-- a fault, of a space by another name
pub fault-over : {S T : Type 0} (Fails : SpaceFault → S → S → Type 0) (a b : S) → a ≡ b → (r : Result T Refusal) → IfErr r (λ e. HasFaultCause Fails e a) → IfErr r (λ e. HasFaultCause Fails e b)
fault-over Fails a b same (Ok x) cause = tt
fault-over {S} Fails a b same (Err e) cause = subst (λ (z : S). HasFaultCause Fails e z) same cause

pub looks_works : {S : Type 0} (Leads : ℕ → S → S → Type 0) (a b : S) (w : Work) → Leads 0 a b → WorksOn Leads a b w w
looks_works Leads a b w leads = record { leads = (0, leads); queue = front_none w.queue; gone = ([], sym (append-nil w.gone.items)) }

pub works_behind : {S : Type 0} (Leads : ℕ → S → S → Type 0) → ((k l : ℕ) (a b c : S) → Leads k a b → Leads l b c → Leads (k + l) a c)
    → (a b c : S) (v w : Work) → Leads 0 a b → WorksOn Leads b c v w → WorksOn Leads a c v w
works_behind Leads on a b c v w first works = record {
  leads = (0 + works.leads.0, on 0 works.leads.0 a b c first works.leads.1);
  queue = works.queue;
  gone = works.gone;
}

-- once more relations are open
pub opens_works : {S : Type 0} (Leads : ℕ → S → S → Type 0) (a b : S) (w : Work) (o : Vec OpenRelation Global) → Leads 0 a b → WorksOn Leads a b w (record w { opened = o })
opens_works Leads a b w o leads = record { leads = (0, leads); queue = front_none w.queue; gone = ([], sym (append-nil w.gone.items)) }

pub works_opened : {S : Type 0} (Leads : ℕ → S → S → Type 0) (b c : S) (v w : Work) (o : Vec OpenRelation Global) → WorksOn Leads b c (record v { opened = o }) w → WorksOn Leads b c v w
works_opened Leads b c v w o works = record { leads = works.leads; queue = works.queue; gone = works.gone }

-- ---- the same of what is served
pub IsServed-map : {S T : Type 0} (P : Going → S → Type 0) (Q : Going → T → Type 0) (m : Meanings) (s : State) (c : Command) (g : Going) (x : Served) (a : S) (b : T)
    → ((h : Going) → P h a → Q h b) → IsServed P m s c g x a → IsServed Q m s c g x b
IsServed-map P Q m s c g (served.Read reply) a b gives is = (is.0, is.1, gives g is.2)
IsServed-map P Q m s c g (served.Worked answer) a b gives is = (is.0, is.1, Makes-map P Q m c g (answer_of answer) a b gives is.2)

pub IsUnserved-map : {S T : Type 0} (Before : Refusal → Trail → S → Type 0) (Behind : Refusal → Trail → T → Type 0) (m : Meanings) (s : State) (c : Command) (g : Going) (r : Refusal) (a : S) (b : T)
    → ((trail : Trail) → Before r trail a → Behind r trail b) → IsUnserved Before m s c g r a → IsUnserved Behind m s c g r b
IsUnserved-map Before Behind m s c g r a b stops (Tested is stopped) = Tested is (stops g.trail stopped)
IsUnserved-map Before Behind m s c g r a b stops (Worked none unread refused) = Worked none unread (IsRefusedIn-map Before Behind m c g r a b stops refused)
IsUnserved-map Before Behind m s c g r a b stops (Looked free none stopped) = Looked free none (stops g.trail stopped)
