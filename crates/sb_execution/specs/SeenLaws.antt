-- What no look at an engine changes.
use Rattle.std.specs.Prelude.{◌≡◌, ◌+◌, ◌<◌, ◌^◌, ℕ, true, false, T, List, length}
use Rattle.std.proofs.Common.{refl, sym, ap, ◌∙◌, subst, inl, inr, true≢false}
use Rattle.std.specs.FinMap.Entries.{is_sorted}
use Rattle.std.proofs.lemmas.List.{length-map}
use Rattle.sb_value.specs.Order.{bytes_cmp}
use Rattle.sb_relation.specs.Db.{Db}
use Rattle.sb_fold.specs.declared.refusal.Refusal.{Refusal}
use Rattle.sb_fold.specs.declared.refusal.Refusal.TheVariants as refusal
use Rattle.sb_plain.specs.State.{State, view}
use Rattle.sb_cascade.specs.Runs.{is_free}
use Rattle.sb_refusals.specs.Catalogue.{is_damage}
use Rattle.sb_registry.specs.Boxes.{Meanings}
use Rattle.sb_registry.specs.Runs.{IsSound}
use Rattle.sb_drive.specs.declared.space.SpaceFault.{SpaceFault}
use Rattle.sb_drive.specs.declared.space.SpaceFault.TheVariants as fault
use Rattle.sb_drive.specs.Slots.{Slots}
use Rattle.sb_drive.specs.Spaces.{IsRefused, Wanted}
use Rattle.sb_standing.specs.Tables.{Kept, db_of}
use Rattle.sb_engine.specs.Opened.{IsDurable}
use Rattle.sb_engine.specs.Refusals.{HasRefusalCause, refusal_of}
use Rattle.sb_engine.specs.Working.{extensions_of}
use Rattle.sb_engine.proofs.RefusedLemmas.{free_refusal, refused_cause}
use Rattle.sb_execution.specs.declared.seen.Seen.{Seen}
use Rattle.sb_execution.specs.FewLaws.{few_kept}
use Rattle.sb_execution.specs.Seen.{HasFailed, LooksOn, Sees}

-- ---- one look after another
pub stays : {B S : Type 0} (Leads : ℕ → S → S → Type 0) → ((a : S) → Leads 0 a a) → (a : Seen B S) → LooksOn Leads a a
stays Leads stay a = record {
  same_space = refl;
  boxes = refl;
  work = refl;
  place = refl;
  inside = refl;
  points = refl;
  leads = stay a.space.now;
}

pub goes_on : {B S : Type 0} (Leads : ℕ → S → S → Type 0) → ((k l : ℕ) (a b c : S) → Leads k a b → Leads l b c → Leads (k + l) a c)
    → (a b c : Seen B S) → LooksOn Leads a b → LooksOn Leads b c → LooksOn Leads a c
goes_on Leads on a b c first second = record {
  same_space = second.same_space ∙ first.same_space;
  boxes = second.boxes ∙ first.boxes;
  work = second.work ∙ first.work;
  place = second.place ∙ first.place;
  inside = second.inside ∙ first.inside;
  points = second.points ∙ first.points;
  leads = on 0 0 a.space.now b.space.now c.space.now first.leads second.leads;
}

pub same : {B S : Type 0} (meanings : B → Meanings) (Leads : ℕ → S → S → Type 0) (a b : Seen B S) → LooksOn Leads a b
    → extensions_of (meanings b.boxes.now) ≡ extensions_of (meanings a.boxes.now)
same {B} meanings Leads a b looks = ap (λ (boxes : B). extensions_of (meanings boxes)) looks.boxes

-- ---- refusals
refused_on : {S : Type 0} (Leads : ℕ → S → S → Type 0) (Fails : SpaceFault → S → S → Type 0)
    → ((k l : ℕ) (a b c : S) → Leads k a b → Leads l b c → Leads (k + l) a c)
    → ((e : SpaceFault) (a b c : S) → Leads 0 a b → Fails e b c → Fails e a c)
    → (e : SpaceFault) (a b c : S) → Leads 0 a b → IsRefused (Leads 0 b c) (Fails e b c) e → IsRefused (Leads 0 a c) (Fails e a c) e
refused_on Leads Fails on failing fault.Fault a b c leads is = failing fault.Fault a b c leads is
refused_on Leads Fails on failing (fault.DataFull used total) a b c leads is = failing (fault.DataFull used total) a b c leads is
refused_on Leads Fails on failing (fault.TempFull used total) a b c leads is = failing (fault.TempFull used total) a b c leads is
refused_on Leads Fails on failing (fault.LogFull used need total) a b c leads is = failing (fault.LogFull used need total) a b c leads is
refused_on Leads Fails on failing (fault.GatesFull used total) a b c leads is = failing (fault.GatesFull used total) a b c leads is
refused_on Leads Fails on failing (fault.Damaged page) a b c leads is = on 0 0 a b c leads is
refused_on Leads Fails on failing fault.Down a b c leads is = failing fault.Down a b c leads is
refused_on Leads Fails on failing fault.NoMemory a b c leads (inl is) = inl (on 0 0 a b c leads is)
refused_on Leads Fails on failing fault.NoMemory a b c leads (inr is) = inr (failing fault.NoMemory a b c leads is)

pub fails_on : {B S : Type 0} (Leads : ℕ → S → S → Type 0) (Fails : SpaceFault → S → S → Type 0)
    → ((k l : ℕ) (a b c : S) → Leads k a b → Leads l b c → Leads (k + l) a c)
    → ((e : SpaceFault) (a b c : S) → Leads 0 a b → Fails e b c → Fails e a c)
    → (r : Refusal) (a b c : Seen B S) → LooksOn Leads a b → HasFailed Leads Fails r b c → HasFailed Leads Fails r a c
fails_on Leads Fails on failing r a b c looks failed = record {
  fault = failed.fault;
  is = failed.is;
  reads = failed.reads;
  refused = refused_on Leads Fails on failing failed.fault a.space.now b.space.now c.space.now looks.leads failed.refused;
}

pub wants : {B S : Type 0} (Leads : ℕ → S → S → Type 0) (Fails : SpaceFault → S → S → Type 0) (a b : Seen B S) → LooksOn Leads a b
    → HasFailed Leads Fails refusal.NoMemory a b
wants Leads Fails a b looks = record { fault = fault.NoMemory; is = refl; reads = tt; refused = inl looks.leads }

-- a refused look at pages that aren't damaged has its cause in the space
sound_fault : (e : SpaceFault) → is_damage (refusal_of e) ≡ false → IsSound e
sound_fault fault.Fault sound = tt
sound_fault (fault.DataFull used total) sound = tt
sound_fault (fault.TempFull used total) sound = tt
sound_fault (fault.LogFull used need total) sound = tt
sound_fault (fault.GatesFull used total) sound = tt
sound_fault (fault.Damaged page) sound = absurd (true≢false sound)
sound_fault fault.Down sound = tt
sound_fault fault.NoMemory sound = tt

module _ {B S : Type 0} (Leads : ℕ → S → S → Type 0) (Fails : SpaceFault → S → S → Type 0) (r : Refusal)
    (old new : Seen B S) (failed : HasFailed Leads Fails r old new) where
  pub look_free : is_free r ≡ true
  look_free = subst (λ (x : Refusal). is_free x ≡ true) failed.is (free_refusal failed.fault)

  pub look_cause : is_damage r ≡ false → HasRefusalCause Fails r new.space.now
  look_cause sound =
      let same : is_damage (refusal_of failed.fault) ≡ is_damage r = ap (λ (x : Refusal). is_damage x) failed.is in
      subst (λ (x : Refusal). HasRefusalCause Fails x new.space.now) failed.is
      (refused_cause Fails (Leads 0 old.space.now new.space.now) old.space.now new.space.now failed.fault failed.refused
      (sound_fault failed.fault (same ∙ sound)))

-- ---- what is seen
module _ {B S : Type 0} (Has : Wanted → Slots → S → Type 0) (Spent : ℕ → S → Type 0) (meanings : B → Meanings) (s : State) (a : Seen B S)
    (sees : Sees Has Spent meanings s a) where
  abbrev kept : List Kept
  kept = sees.stands.kept

  same_db : view s ≡ db_of kept
  same_db = sees.seen.db ∙ sees.stands.db

  pub rising : T (is_sorted bytes_cmp (view s))
  rising = subst (λ (db : Db). T (is_sorted bytes_cmp db)) (sym same_db) sees.stands.keeps.tables.rising

  pub few : length (view s) < 2 ^ 64
  few =
      let same : length (view s) ≡ length kept = ap (λ (db : Db). length db) same_db ∙ length-map kept (λ (k : Kept). (k.name, k.relation)) in
      subst (λ (n : ℕ). n < 2 ^ 64) (sym same)
      (few_kept (meanings a.boxes.now) IsDurable a.place.root sees.stands.slots a.work.now.gone.items kept sees.stands.keeps)
