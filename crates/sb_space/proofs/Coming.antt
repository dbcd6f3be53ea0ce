-- Instances that come and go in a store.
use Rattle.std.proofs.Common.{◌≡◌, ℕ, Result, Ok, Err, OnOk, sym, subst, arith}
use Rattle.sb_forms.specs.Pages.{zeros}
use Rattle.sb_drive.specs.declared.space.SpaceFault.{SpaceFault}
use Rattle.sb_drive.specs.declared.space.SpaceFault.TheVariants.{Fault, DataFull, TempFull, LogFull, GatesFull, Damaged, Down, NoMemory}
use Rattle.sb_drive.specs.Slots.{Slots, owned, with_slot}
use Rattle.sb_drive.specs.Spaces.{Leaves, Wanted}
use Rattle.sb_drive.proofs.OwnedLemmas.{owned-beside}
use Rattle.sb_owners.specs.Instances.{HasCome, HasNone, IsUnbroken, without_owner}
use Rattle.sb_owners.proofs.Owned.{HasNone-unused, HasNone-without}
use Rattle.sb_txn.specs.Parts.{Parts}
use Rattle.sb_space.specs.Instances.{IsNewFault, IsNewInstance}
use Rattle.sb_space.specs.Stored.{Ends}
use Rattle.sb_space.specs.Works.{HasPages}

-- no page is called damaged where none can be made
pub IsUnbroken-new : (e : SpaceFault) → IsNewFault e → IsUnbroken e
IsUnbroken-new Fault is = tt
IsUnbroken-new (DataFull used total) is = tt
IsUnbroken-new (TempFull used total) is = tt
IsUnbroken-new (LogFull used need total) is = tt
IsUnbroken-new (GatesFull used total) is = tt
IsUnbroken-new (Damaged page) is = is
IsUnbroken-new Down is = tt
IsUnbroken-new NoMemory is = tt

-- ---- a space of which these are the parts
module _ {S : Type 0} (of : S → Parts) (want : Wanted) (s : Slots) (owner : ℕ) (new : S) where
  pub HasCome-new : (total root : ℕ) → IsNewInstance want s total owner root (of new) → HasCome (λ (w : Wanted) (t : Slots) (d : S). HasPages w t (of d)) want s owner root new
  HasCome-new total root made = record {
    slots = with_slot root (owner, zeros) s;
    has = made.has;
    from = let three = made.least.from in omega (arith, three);
    none = HasNone-unused s owner made.least.unused;
    pages = made.pages;
    others = λ o other. owned-beside s owner root o zeros made.free.free other;
  }

  pub Leaves-ended : (r : Result (Unit {0}) SpaceFault) → Ends owner want s (of new) (λ t. OnOk r (t ≡ without_owner owner s)) → Leaves (λ (w : Wanted) (t : Slots) (d : S). HasPages w t (of d)) owner want s new (λ after. OnOk r (HasNone after))
  Leaves-ended r ends = record { slots = ends.slots; has = ends.has; others = ends.others; own = by r ends.is }
    where
      by : (q : Result (Unit {0}) SpaceFault) → OnOk q (ends.slots ≡ without_owner owner s) → OnOk q (HasNone (owned ends.slots owner))
      by (Ok done) is = subst (λ (f : Slots). HasNone (owned f owner)) (sym is) (HasNone-without owner s)
      by (Err e) is = tt
