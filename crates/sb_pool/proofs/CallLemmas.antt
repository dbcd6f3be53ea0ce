-- What a call that changes nothing on the disk keeps.
use Rattle.std.proofs.Common.{◌≡◌, inr, ℕ, Option, Some, None, Result, Ok, Err, OnOk, OnErr, List, ◌++◌, refl, sym, subst}
use Rattle.sb_disk.specs.Disk.{Story, WhereTold}
use Rattle.sb_journal.specs.State as journal
use Rattle.sb_log.specs.declared.geometry.Geometry.{Geometry}
use Rattle.sb_log.specs.Records.{Record}
use Rattle.sb_images.specs.Store.{IsReadyOn, KeepsRest}
use Rattle.sb_images.proofs.CallLemmas.{LeavesOnly-idle}
use Rattle.sb_pool.specs.declared.fault.PoolFault.{PoolFault}
use Rattle.sb_pool.specs.Calls.{Serves, AreTied, IsReadyWith, KeepsImages}
use Rattle.sb_pool.specs.State.{State}

pub on_ok : {T E : Type 0} (result : Result T E) (P : Type 0) → P → OnOk result P
on_ok (Ok x) P has = has
on_ok (Err e) P has = tt

pub on_err : {T E : Type 0} (result : Result T E) (P : Type 0) → P → OnErr result P
on_err (Ok x) P has = tt
on_err (Err e) P has = has

-- a fact of a disk that tells the same
pub as_told : (P : Option Story → Type 0) (told new : Option Story) → new ≡ told → P told → P new
as_told P told new same has = subst P (sym same) has

pub Serves-as : (told new : Option Story) (size len : ℕ) (j : journal.State) (g h : Geometry) → new ≡ told → len ≡ size → h ≡ g → Serves told size j g → Serves new len j h
Serves-as told new size len j g h same long is serves =
    subst (λ (x : Geometry). Serves new len j x) (sym is) (subst (λ (n : ℕ). Serves new n j g) (sym long) (as_told (λ n. Serves n size j g) told new same serves))

pub rest-none : (g : Geometry) (recs : List Record) (told : Option Story) → WhereTold told told (KeepsRest g recs)
rest-none g recs None = refl
rest-none g recs (Some s) = λ p lt. inr refl

pub KeepsImages-none : {T : Type 0} (want : ℕ → List ℕ) (g : Geometry) (opened pending : List Record) (j : journal.State) (after : State) (told new : Option Story) (result : Result T PoolFault) → new ≡ told
    → IsReadyOn want told j g opened pending → AreTied after j opened pending → KeepsImages want g (opened ++ pending) j after told new result
KeepsImages-none want g opened pending j after told new result same ready tied =
    as_told (λ n. KeepsImages want g (opened ++ pending) j after told n result) told new same (record {
      leaves = LeavesOnly-idle want j g opened pending told ready;
      ready = on_ok result (IsReadyWith want g (opened ++ pending) j after told told) (opened, pending, refl, record { ready = ready; rest = rest-none g opened told }, tied);
    })
