-- What the calls of a store keep.
use Rattle.std.proofs.Common.{◌≡◌, inl, inr, ⊎_elim, ℕ, ◌≤◌, Bool, true, false, Option, Result, Ok, Err, IsErrOf, List, refl, sym, ◌∙◌, subst, arith}
use Rattle.std.proofs.lemmas.Bool.{false≢true}
use Rattle.sb_disk.specs.Causes.{Rose}
use Rattle.sb_disk.specs.Disk.{Story}
use Rattle.sb_disk.specs.Moments.{LeavesOnly}
use Rattle.sb_disk.proofs.CauseLemmas.{Rose-later}
use Rattle.sb_disk.proofs.MomentLemmas.{and_then}
use Rattle.sb_log.specs.declared.geometry.Geometry.{Geometry}
use Rattle.sb_images.specs.Images.{Restores}
use Rattle.sb_images.proofs.CallLemmas.{LeavesOnly-idle}
use Rattle.sb_images.proofs.StoreLemmas.{IsStoreOn-ready}
use Rattle.sb_txn.specs.Book.{views}
use Rattle.sb_txn.specs.Clauses.{IsReady, Leads, LeavesWanted, StaysReady}
use Rattle.sb_txn.specs.Parts.{Parts, parts}
use Rattle.sb_txn.specs.State.{State}
use Rattle.sb_txn.specs.declared.fault.StoreFault.{StoreFault}
use Rattle.sb_txn.specs.declared.fault.StoreFault.TheVariants.{Fault, Down}

pub not_both : {A : Type 0} (b : Bool) → b ≡ false → b ≡ true → A
not_both b off on = absurd (false≢true (sym off ∙ on))

ok_err : {T E A : Type 0} (x : T) (e : E) → Ok x ≡ Err e → A
ok_err x e is = absurd (cc)

-- ---- one call
module _ {D : Type 0} (told : D → Option Story) (len faults : D → ℕ) where
  -- a call of the pool or the journal failed
  pub StaysReady-fault : {T : Type 0} (old new : D) (s t : State) → s.book.down ≡ false → t.book.down ≡ true → len new ≡ len old → t.pool.geometry ≡ s.pool.geometry → faults old ≤ faults new → Rose (faults old) (faults new)
      → StaysReady {T = T} told len faults old new s t (Err Fault)
  StaysReady-fault old new s t up down size geometry later rose = record {
    size = size;
    geometry = geometry;
    later = later;
    ready = λ off. not_both t.book.down off down;
    down = λ on. not_both s.book.down up on;
    only = λ e. absurd (cc);
    fault = λ _. (rose, down);
    up = λ _. inr refl;
  }

  -- a call that is refused for another reason, or not at all
  pub StaysReady-else : {T : Type 0} (result : Result T StoreFault) (old new : D) (s t : State) → s.book.down ≡ false → t.book.down ≡ false → len new ≡ len old → t.pool.geometry ≡ s.pool.geometry → faults old ≤ faults new → IsReady (parts told len new t)
      → (IsErrOf result Down → ⊥) → (IsErrOf result Fault → ⊥) → StaysReady told len faults old new s t result
  StaysReady-else result old new s t up still size geometry later ready not_down not_fault = record {
    size = size;
    geometry = geometry;
    later = later;
    ready = ready;
    down = λ on. not_both s.book.down up on;
    only = λ e. absurd (not_down e);
    fault = λ e. absurd (not_fault e);
    up = λ on. not_both t.book.down still on;
  }

  -- none failed
  pub StaysReady-ok : {T : Type 0} (x : T) (old new : D) (s t : State) → s.book.down ≡ false → t.book.down ≡ false → len new ≡ len old → t.pool.geometry ≡ s.pool.geometry → faults old ≤ faults new → IsReady (parts told len new t)
      → StaysReady told len faults old new s t (Ok x)
  StaysReady-ok x old new s t up still size geometry later ready = StaysReady-else (Ok x) old new s t up still size geometry later ready (λ e. ok_err x Down e) (λ e. ok_err x Fault e)

  -- ---- one call after another
  pub StaysReady-then : {T U : Type 0} (x : U) (result : Result T StoreFault) (old mid new : D) (s m t : State) → StaysReady told len faults old mid s m (Ok x) → StaysReady told len faults mid new m t result → StaysReady told len faults old new s t result
  StaysReady-then x result old mid new s m t one two = record {
    size = two.size ∙ one.size;
    geometry = two.geometry ∙ one.geometry;
    later = let a = one.later in let b = two.later in omega arith;
    ready = two.ready;
    down = λ on. ok_err x Down (one.down on).answer;
    only = λ e. was_down (two.only e);
    fault = λ e. (Rose-later (faults old) (faults mid) (faults new) one.later (two.fault e).0, (two.fault e).1);
    up = λ on. ⊎_elim (λ (is : m.book.down ≡ true). inl (was_down is)) (λ (e : IsErrOf result Fault). inr e) (two.up on);
  }
    where
      was_down : m.book.down ≡ true → s.book.down ≡ true
      was_down is = ⊎_elim (λ (on : s.book.down ≡ true). on) (λ (e : IsErrOf (Ok x) Fault). ok_err x Fault e) (one.up is)

  -- a call goes on from a store that is up but not ready
  pub StaysReady-after : {T : Type 0} (result : Result T StoreFault) (old mid new : D) (s m t : State) → s.book.down ≡ false → m.book.down ≡ false → m.pool.geometry ≡ s.pool.geometry → len mid ≡ len old → faults old ≤ faults mid
      → StaysReady told len faults mid new m t result → StaysReady told len faults old new s t result
  StaysReady-after result old mid new s m t up up_m same sized before kept = record {
    size = kept.size ∙ sized;
    geometry = kept.geometry ∙ same;
    later = let a = kept.later in omega arith;
    ready = kept.ready;
    down = λ on. not_both s.book.down up on;
    only = λ e. not_both m.book.down up_m (kept.only e);
    fault = λ e. (Rose-later (faults old) (faults mid) (faults new) before (kept.fault e).0, (kept.fault e).1);
    up = λ on. ⊎_elim (λ (was : m.book.down ≡ true). not_both m.book.down up_m was) (λ (e : IsErrOf result Fault). inr e) (kept.up on);
  }

  -- where a call was made, the store was not down
  pub StaysReady-up : {T : Type 0} (x : T) (old new : D) (s t : State) → StaysReady told len faults old new s t (Ok x) → s.book.down ≡ false
  StaysReady-up x old new s t kept = by_case s.book.down (λ on. ok_err x Down (kept.down on).answer)
    where
      by_case : (b : Bool) → (b ≡ true → ⊥) → b ≡ false
      by_case true off = absurd (off refl)
      by_case false off = refl

  -- and it isn't down then
  pub StaysReady-still : {T : Type 0} (x : T) (old new : D) (s t : State) → s.book.down ≡ false → StaysReady told len faults old new s t (Ok x) → t.book.down ≡ false
  StaysReady-still x old new s t up kept = by_case t.book.down (λ on. ⊎_elim (λ (is : s.book.down ≡ true). not_both s.book.down up is) (λ (e : IsErrOf (Ok x) Fault). ok_err x Fault e) (kept.up on))
    where
      by_case : (b : Bool) → (b ≡ true → ⊥) → b ≡ false
      by_case true off = absurd (off refl)
      by_case false off = refl

  -- with another value
  pub StaysReady-as : {T U : Type 0} (x : T) (y : U) (old new : D) (s t : State) → StaysReady told len faults old new s t (Ok x) → StaysReady told len faults old new s t (Ok y)
  StaysReady-as x y old new s t kept = record {
    size = kept.size;
    geometry = kept.geometry;
    later = kept.later;
    ready = kept.ready;
    down = λ on. ok_err x Down (kept.down on).answer;
    only = λ e. ok_err y Down e;
    fault = λ e. ok_err y Fault e;
    up = λ on. ⊎_elim (λ (is : s.book.down ≡ true). inl is) (λ (e : IsErrOf (Ok x) Fault). ok_err x Fault e) (kept.up on);
  }

-- ---- what a crash leaves
pub LeavesWanted-none : (p : Parts) → LeavesWanted p p
LeavesWanted-none p = record {
  each = λ want now store.
      LeavesOnly-idle want p.store.journal p.store.pool.geometry store.0 store.1 p.told (IsStoreOn-ready want now p.told p.store.journal p.store.pool.geometry store.0 store.1 (views p.store.book.actives) store.2.store);
}

pub LeavesWanted-then : (a b c : Parts) (change : (ℕ → List ℕ) → ℕ → List ℕ) → b.store.pool.geometry ≡ a.store.pool.geometry → Leads a b change → LeavesWanted a b → LeavesWanted b c → LeavesWanted a c
LeavesWanted-then a b c change same leads one two = record {
  each = λ want now store.
      and_then a.told b.told c.told (Restores a.store.pool.geometry want) (one.each want now store)
      (subst (λ (g : Geometry). LeavesOnly b.told c.told (Restores g want)) same (two.each want (change now) (leads want now store)));
}
