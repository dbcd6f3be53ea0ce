-- A command that is tested, and then carried out.
use Rattle.std.proofs.Common.{◌≡◌, ℕ, Bool, true, false, List, Option, None, Result, Ok, Err, IfErr, IfOk, refl, sym, ap, ◌∙◌, subst}
use Rattle.sb_relation.specs.Db.{Db}
use Rattle.sb_fold.specs.declared.refusal.Refusal.{Refusal}
use Rattle.sb_fold.specs.Extensions.{Extensions}
use Rattle.sb_fold.specs.Outcome.{Going}
use Rattle.sb_plain.specs.declared.command.Command.{Command}
use Rattle.sb_plain.specs.declared.reply.Reply.{Reply}
use Rattle.sb_plain.specs.Reading.{read}
use Rattle.sb_plain.specs.Refusing.{refused}
use Rattle.sb_plain.specs.State.{State, view}
use Rattle.sb_registry.specs.Boxes.{Meanings, boxes_of}
use Rattle.sb_registry.specs.Runs.{IsSound}
use Rattle.sb_drive.specs.declared.space.SpaceFault.{SpaceFault}
use Rattle.sb_drive.specs.Slots.{Slots}
use Rattle.sb_drive.specs.Spaces.{IsReadFault, IsRefused, LeadsOn, Wanted}
use Rattle.sb_standing.specs.Standing.{Keeps}
use Rattle.sb_standing.specs.Tables.{Kept, db_of}
use Rattle.sb_engine.specs.Opened.{IsDurable}
use Rattle.sb_engine.specs.declared.running.Work.{Work}
use Rattle.sb_cascade.specs.Runs.{is_free, is_room}
use Rattle.sb_engine.specs.Licensed.{definite_roomless, roomless_licence}
use Rattle.sb_engine.specs.Refusals.{HasRefusalCause, refusal_of}
use Rattle.sb_engine.specs.Working.{AreOpened, IsPaid, IsStoppedIn, Stands, extensions_of}
use Rattle.sb_engine.proofs.PaidLemmas.{Spends, paid_looking}
use Rattle.sb_engine.proofs.RefusedLemmas.{definite_cause, free_refusal, read_stop, refused_cause}
use Rattle.sb_session.specs.declared.session.Savepoint.{Savepoint}
use Rattle.sb_reads.specs.Reads.{MayRead}
use Rattle.sb_execution.specs.Serving.{IsPosedIn, IsSeenIn, IsServed, IsUnservedIn, KeepsLooked, KeepsOpened, Looked, MayServe, is_read}
use Rattle.sb_statements.specs.Statements.{MayWork}
use Rattle.sb_statements.proofs.PosedLemmas.{tested-may-work}
use Rattle.sb_execution.specs.declared.serving.Served.{Served}
use Rattle.sb_execution.proofs.ReadLemmas.{may-read}
use Rattle.sb_execution.proofs.SeenLemmas.{look_refusal, none_waits}

-- ---- behind the tests
module _ {S : Type 0} (Has : Wanted → Slots → S → Type 0) (Spent : ℕ → S → Type 0) (Leads : ℕ → S → S → Type 0) (Fails : SpaceFault → S → S → Type 0) (table : S → ℕ) (m : Meanings) (root : ℕ) (inside : Bool) (points : List Savepoint) (c : Command)
    (x y z : S) (v w : Work) (none : (s : State) (g : Going) → Stands Has Spent m root g x v → IsSeenIn m inside points s g → None ≡ refused (extensions_of m) s c)
    (stood : (s : State) (g : Going) → Stands Has Spent m root g x v → IsSeenIn m inside points s g → Stands Has Spent m root g y v) where
  may : (s : State) (g : Going) → Stands Has Spent m root g x v → IsSeenIn m inside points s g → IsPosedIn m s c → MayServe m s c g
  may s g stands seen posed = record {
    posed = posed (sym (none s g stands seen));
    passed = sym (none s g stands seen);
    is = record {
      db = seen.db;
      codes = record { live = seen.live; spare = seen.spare };
      waits = none_waits s g seen.queue;
      paired = stands.paired;
    };
  }

  pub tested_served : (r : Result Served Refusal)
      → IfOk r (λ x'. (s : State) (g : Going) → Stands Has Spent m root g y v → MayServe m s c g → IsServed (λ h d. Stands Has Spent m root h d w) m s c g x' z)
      → IfOk r (λ x'. (s : State) (g : Going) → Stands Has Spent m root g x v → IsSeenIn m inside points s g → IsPosedIn m s c → IsServed (λ h d. Stands Has Spent m root h d w) m s c g x' z)
  tested_served (Ok done) served = λ s g stands seen posed. served s g (stood s g stands seen) (may s g stands seen posed)
  tested_served (Err r) served = tt

  pub tested_unserved : (r : Result Served Refusal)
      → IfErr r (λ e. (s : State) (g : Going) → Stands Has Spent m root g y v → MayServe m s c g → IsUnservedIn Has Spent Leads Fails table m s c g e z)
      → IfErr r (λ e. (s : State) (g : Going) → Stands Has Spent m root g x v → IsSeenIn m inside points s g → IsPosedIn m s c → IsUnservedIn Has Spent Leads Fails table m s c g e z)
  tested_unserved (Ok done) unserved = tt
  tested_unserved (Err r) unserved = λ s g stands seen posed. unserved s g (stood s g stands seen) (may s g stands seen posed)

-- what is open behind the tests is so of the space before them
pub tested_opened : {S : Type 0} (Has : Wanted → Slots → S → Type 0) (Leads : ℕ → S → S → Type 0) (m : Meanings) (root : ℕ) (x y z : S) (v w : Work) → Leads 0 x y → LeadsOn Leads y z → (r : Result Served Refusal)
    → IfOk r (λ o. is_read o ≡ true → KeepsOpened Has m root y z v w) → IfOk r (λ o. is_read o ≡ true → KeepsLooked Has Leads x z → KeepsOpened Has m root x z v w)
tested_opened Has Leads m root x y z v w looks leads (Ok o) opened = λ read keeps want s kept keeping.
    opened read want s kept (record { has = keeps y looks leads want s keeping.has; tables = keeping.tables; opened = keeping.opened })
tested_opened Has Leads m root x y z v w looks leads (Err r) opened = tt

-- ---- where the tests stop it
module _ {S : Type 0} (Has : Wanted → Slots → S → Type 0) (Spent : ℕ → S → Type 0) (Leads : ℕ → S → S → Type 0) (Fails : SpaceFault → S → S → Type 0) (table : S → ℕ) (m : Meanings)
    (g : Going) (r : Refusal) (x : S) where
  -- a refusal that says nothing of room
  pub roomless_stop : is_room r ≡ false → HasRefusalCause Fails r x → IsPaid Spent 0 g.trail.spent x → IsStoppedIn Has Spent Leads Fails table m r g.trail x
  roomless_stop none cause paid = record { cause = cause; licensed = roomless_licence Has Leads table m r g.trail x none; paid = paid }

  -- one that a test gives
  pub given_stop : is_free r ≡ false → IsPaid Spent 0 g.trail.spent x → IsStoppedIn Has Spent Leads Fails table m r g.trail x
  given_stop given paid = roomless_stop (definite_roomless r given) (definite_cause Fails r x given) paid

-- ---- what is read
module _ {S : Type 0} (Has : Wanted → Slots → S → Type 0) (Spent : ℕ → S → Type 0) (m : Meanings) (root : ℕ) (x : S) (w : Work) (c : Command) (s : State) (g : Going) (stands : Stands Has Spent m root g x w) (may : MayServe m s c g) where
  same_db : view s ≡ db_of stands.kept
  same_db = may.is.db ∙ stands.db

  reads : MayRead (db_of stands.kept) c
  reads = subst (λ (db : Db). MayRead db c) same_db (may-read m s c may.passed)

  pub works_may : MayWork m g c
  works_may = tested-may-work m s g c may.is may.posed may.passed

  pub was_read : (o : Option Reply)
      → ((want : Wanted) (s : Slots) (gone : List ℕ) (kept : List Kept) (ext : Extensions) → Has want s x → Keeps m IsDurable root s gone kept → AreOpened m kept w.opened.items
      → ext.boxes ≡ boxes_of m → MayRead (db_of kept) c → o ≡ read ext (db_of kept) c)
      → read (extensions_of m) (view s) c ≡ o
  was_read o is =
      ap (λ (db : Db). read (extensions_of m) db c) same_db ∙ sym (is stands.want stands.slots w.gone.items stands.kept (extensions_of m) stands.has stands.keeps stands.opened refl reads)

  -- a refused look
  pub look_refused : (Leads : ℕ → S → S → Type 0) → Spends Spent Leads → (Fails : SpaceFault → S → S → Type 0) (table : S → ℕ) (y : S) (e : SpaceFault) (r : Refusal) → r ≡ refusal_of e → IsReadFault e
      → IsRefused (Leads 0 x y) (Fails e x y) e → Leads 0 x y
      → ((want : Wanted) (s : Slots) (gone : List ℕ) (kept : List Kept) → Has want s x → Keeps m IsDurable root s gone kept → AreOpened m kept w.opened.items → MayRead (db_of kept) c → IsSound e)
      → IsUnservedIn Has Spent Leads Fails table m s c g r y
  look_refused Leads spends Fails table y e r is looked refused leads sound =
      subst (λ (q : Refusal). IsUnservedIn Has Spent Leads Fails table m s c g q y) (sym is)
      (Looked (free_refusal e) (look_refusal e looked)
      (read_stop Has Spent Leads Fails table m e g.trail y looked
      (refused_cause Fails (Leads 0 x y) x y e refused (sound stands.want stands.slots w.gone.items stands.kept stands.has stands.keeps stands.opened reads))
      (paid_looking Spent Leads spends x y leads stands.paid)))
