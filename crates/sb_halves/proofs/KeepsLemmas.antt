-- What a call keeps is no matter of what it answers with Ok.
use Rattle.std.proofs.Common.{◌≡◌, inl, inr, ⊎_elim, ℕ, true, Option, Ok, Err, IsErrOf, refl, subst}
use Rattle.sb_disk.specs.Disk.{Story}
use Rattle.sb_drive.specs.declared.space.SpaceFault.{SpaceFault}
use Rattle.sb_drive.specs.declared.space.SpaceFault.TheVariants.{Fault, Down}
use Rattle.sb_txn.specs.State.{State}
use Rattle.sb_space.specs.Transactions.{KeepsSpace}

no_error : {T : Type 0} (x : T) (e : SpaceFault) → IsErrOf {T = T} (Ok x) e → ⊥
no_error x e is = cc

again : {A B : Type 0} (e f : SpaceFault) → IsErrOf {T = A} (Err e) f → IsErrOf {T = B} (Err e) f
again {A} {B} e f is = let same : e ≡ f = cc in subst (λ (x : SpaceFault). IsErrOf {T = B} (Err e) x) same refl

module _ {D A B : Type 0} (told : D → Option Story) (len faults : D → ℕ) (old new : D) (s t : State) where
  pub KeepsSpace-ok : (a : A) (b : B) → KeepsSpace told len faults old new s t (Ok a) → KeepsSpace told len faults old new s t (Ok b)
  KeepsSpace-ok a b kept = record {
    size = kept.size;
    later = kept.later;
    geometry = kept.geometry;
    ready = kept.ready;
    down = λ on. absurd (no_error a Down (kept.down on).answer);
    only = λ is. absurd (no_error b Down is);
    up = λ on. ⊎_elim (λ (was : s.book.down ≡ true). inl was) (λ (f : IsErrOf (Ok a) Fault). absurd (no_error a Fault f)) (kept.up on);
    fell = kept.fell;
    fails = kept.fails;
  }

  pub KeepsSpace-err : (e : SpaceFault) → KeepsSpace {T = A} told len faults old new s t (Err e) → KeepsSpace {T = B} told len faults old new s t (Err e)
  KeepsSpace-err e kept = record {
    size = kept.size;
    later = kept.later;
    geometry = kept.geometry;
    ready = kept.ready;
    down = λ on. let was = kept.down on in record { answer = again {A = A} {B = B} e Down was.answer; disk = was.disk; store = was.store };
    only = λ is. kept.only (again {A = B} {B = A} e Down is);
    up = λ on. ⊎_elim (λ (was : s.book.down ≡ true). inl was) (λ (f : IsErrOf {T = A} (Err e) Fault). inr (again {A = A} {B = B} e Fault f)) (kept.up on);
    fell = kept.fell;
    fails = kept.fails;
  }
