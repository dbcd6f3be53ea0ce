-- What the pages keep once those of an owner have gone.
use Rattle.std.proofs.Common.{◌≡◌, ℕ, ◌≤◌, inl, inr, Result, Ok, Err, OnOk, List, [], ◌∷◌, refl, sym, subst, arith}
use Rattle.std.proofs.lemmas.List.Elements.{All-head}
use Rattle.sb_drive.specs.declared.space.SpaceFault.{SpaceFault}
use Rattle.sb_drive.specs.declared.space.SpaceFault.TheVariants as fault
use Rattle.sb_drive.specs.declared.space.SpaceFault.TheVariants.{Damaged}
use Rattle.sb_drive.specs.Slots.{Slots, owned}
use Rattle.sb_drive.specs.Spaces.{IsStoreFault, Leaves, UnlessDown, Wanted}
use Rattle.sb_registry.specs.Boxes.{Meanings}
use Rattle.sb_registry.specs.Runs.{IsSound}
use Rattle.sb_owners.specs.Instances.{HasNone}
use Rattle.sb_standing.specs.Standing.{IsOwner, Keeps, owners_in}
use Rattle.sb_standing.specs.Tables.{Kept}
use Rattle.sb_standing.proofs.FrameLemmas.{All-right}
use Rattle.sb_standing.proofs.RelationLemmas.{Keeps-freed}
use Rattle.sb_engine.specs.Opened.{IsDurable}
use Rattle.sb_engine.specs.Refusals.{HasPagesLeft, HasRefusalCause, IsRefusedBy, refusal_of}
use Rattle.sb_tables.specs.Freeing.{LeavesGone}

module _ {S : Type 0} (Has : Wanted → Slots → S → Type 0) (m : Meanings) (root : ℕ) (kept : List Kept) (want : Wanted) (s : Slots) (owner : ℕ) (gone : List ℕ) (old new : S)
    (keeps : Keeps m IsDurable root s (owner ∷ gone) kept) where
  pub freed : Leaves Has owner want s new HasNone → LeavesGone Has m root kept want gone new
  freed left = record {
    slots = left.slots;
    has = left.has;
    keeps = Keeps-freed m IsDurable root s left.slots owner gone kept keeps (record { none = left.own; others = left.others });
  }

  -- nobody has no pages
  pub passed : owner ≤ 2 → Has want s old → LeavesGone Has m root kept want gone old
  passed low has =
      record { slots = s; has = has; keeps = Keeps-freed m IsDurable root s s owner gone kept keeps (record { none = none; others = λ o apart. refl }) }
    where
      nobody : IsOwner owner → owner ≡ 0
      nobody (inl is) = is
      nobody (inr high) = absurd (omega (arith, high, low))

      none : (n : ℕ) → owned s owner n ≡ []
      none n = subst (λ (o : ℕ). owned s o n ≡ []) (sym (nobody (All-head IsOwner owner gone (All-right IsOwner (owners_in kept) (owner ∷ gone) keeps.own.each)))) refl

-- whatever they keep
pub freed_on : {S : Type 0} (Has : Wanted → Slots → S → Type 0) (owner : ℕ) (old new : S) (r : Result (Unit {0}) SpaceFault)
    → UnlessDown r ((want : Wanted) (s : Slots) → Has want s old → Leaves Has owner want s new (λ after. OnOk r (HasNone after)))
    → OnOk r ((m : Meanings) (root : ℕ) (kept : List Kept) (want : Wanted) (s : Slots) (gone : List ℕ) → Has want s old → Keeps m IsDurable root s (owner ∷ gone) kept
    → LeavesGone Has m root kept want gone new)
freed_on Has owner old new (Ok done) pages = λ m root kept want s gone has keeps. freed Has m root kept want s owner gone old new keeps (pages want s has)
freed_on Has owner old new (Err e) pages = tt

-- ---- refusals of a store
pub sound_store : (e : SpaceFault) → IsStoreFault e → IsSound e
sound_store (Damaged page) is = is
sound_store e is = tt

pub refused_by : {S : Type 0} (Fails : SpaceFault → S → S → Type 0) (e : SpaceFault) (old new : S) → Fails e old new → IsRefusedBy Fails (refusal_of e) new
refused_by Fails e old new fails = record { fault = e; is = refl; before = old; fails = fails }

pub refused_soundly : {S : Type 0} (Fails : SpaceFault → S → S → Type 0) (e : SpaceFault) (now : S) → IsRefusedBy Fails (refusal_of e) now → IsSound e → HasRefusalCause Fails (refusal_of e) now
refused_soundly Fails fault.Fault now refused sound = refused
refused_soundly Fails (fault.DataFull used total) now refused sound = refused
refused_soundly Fails (fault.TempFull used total) now refused sound = refused
refused_soundly Fails (fault.LogFull used need total) now refused sound = refused
refused_soundly Fails (fault.GatesFull used total) now refused sound = refused
refused_soundly Fails (fault.Damaged page) now refused sound = absurd sound
refused_soundly Fails fault.Down now refused sound = refused
refused_soundly Fails fault.NoMemory now refused sound = tt

-- what is stored doesn't want a page
pub stored_left : (e : SpaceFault) → IsStoreFault e → HasPagesLeft (refusal_of e)
stored_left (fault.DataFull used total) stored = absurd stored
stored_left e stored = tt
