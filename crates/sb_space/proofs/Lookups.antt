-- A look at the table, within a transaction and outside of one.
use Rattle.std.proofs.Common.{◌≡◌, ⊎_elim, ℕ, ◌<◌, ◌≤◌, true, Option, Some, List, Result, Ok, Err, IfOk, IfErr, IsErrOf, inl, inr, refl, sym, ap, subst, ◌∙◌, arith}
use Rattle.std.proofs.lemmas.Bool.{false≢true}
use Rattle.sb_disk.specs.Disk.{Story}
use Rattle.sb_log.specs.declared.geometry.Geometry.{Geometry}
use Rattle.sb_pool.specs.State.{Held, held}
use Rattle.sb_drive.specs.declared.space.SpaceFault.{SpaceFault}
use Rattle.sb_drive.specs.declared.space.SpaceFault.TheVariants.{Fault, DataFull, TempFull, LogFull, GatesFull, Damaged, Down, NoMemory}
use Rattle.sb_drive.specs.Slots.{Slots}
use Rattle.sb_drive.specs.Spaces.{UnlessDown, Wanted}
use Rattle.sb_txn.specs.declared.fault.StoreFault.{StoreFault}
use Rattle.sb_txn.specs.declared.fault.StoreFault.TheVariants as store
use Rattle.sb_txn.specs.Clauses.{IsFaultOrDown, StaysReady, LeavesWanted, Loads}
use Rattle.sb_txn.specs.Parts.{Parts, parts}
use Rattle.sb_txn.specs.State.{State}
use Rattle.sb_space.specs.Faults.{fault_of}
use Rattle.sb_space.specs.Opening.{Looks}
use Rattle.sb_space.specs.Table.{owner_at}
use Rattle.sb_space.specs.Works.{Fails, HasPages, MeansDown, Serves, Stands, Works}
use Rattle.sb_space.proofs.Loading.{IsAlone-down, IsAlone-same, Makes-loads, no_error}
use Rattle.sb_space.proofs.Looking.{owner-now}
use Rattle.sb_space.proofs.OpeningLemmas.{held-page}

module _ {D : Type 0} (told : D → Option Story) (len faults : D → ℕ) (d e : D) (s t : State) (leaves : LeavesWanted (parts told len d s) (parts told len e t)) where
  -- ---- as the store loads
  pub Looks-ok : {T U : Type 0} (x : T) (y : U) → StaysReady told len faults d e s t (Ok x) → Loads (parts told len d s) (parts told len e t) → Looks told len faults d e s t (Ok y)
  Looks-ok x y keeps loads = record {
    loads = loads;
    leaves = leaves;
    size = keeps.size;
    geometry = keeps.geometry;
    later = keeps.later;
    ready = keeps.ready;
    down = λ on. absurd (no_error x store.Down (keeps.down on).answer);
    only = λ is. absurd (no_error y Down is);
    fault = λ is. absurd (no_error y Fault is);
    up = λ on. ⊎_elim (λ (was : s.book.down ≡ true). inl was) (λ (is : IsErrOf (Ok x) store.Fault). absurd (no_error x store.Fault is)) (keeps.up on);
  }

  pub Looks-err : (T U : Type 0) (f : StoreFault) → IsFaultOrDown f → StaysReady {T = T} told len faults d e s t (Err f) → Looks {T = U} told len faults d e s t (Err (fault_of f))
  Looks-err T U store.Fault is keeps = record {
    loads = tt;
    leaves = leaves;
    size = keeps.size;
    geometry = keeps.geometry;
    later = keeps.later;
    ready = keeps.ready;
    down = λ on. let no = (keeps.down on).answer in absurd (cc);
    only = λ no. absurd (cc);
    fault = λ _. keeps.fault refl;
    up = λ on. ⊎_elim (λ (was : s.book.down ≡ true). inl was) (λ (is : IsErrOf {T = T} (Err store.Fault) store.Fault). inr refl) (keeps.up on);
  }
  Looks-err T U store.Down is keeps = record {
    loads = tt;
    leaves = leaves;
    size = keeps.size;
    geometry = keeps.geometry;
    later = keeps.later;
    ready = keeps.ready;
    down = λ on. record { answer = refl; disk = (keeps.down on).disk; store = (keeps.down on).store };
    only = λ _. keeps.only refl;
    fault = λ no. absurd (cc);
    up = λ on. ⊎_elim (λ (was : s.book.down ≡ true). inl was) (λ (no : IsErrOf {T = T} (Err store.Down) store.Fault). absurd (cc)) (keeps.up on);
  }
  Looks-err T U (store.LogFull used need total) is keeps = absurd is
  Looks-err T U (store.GatesFull used total) is keeps = absurd is
  Looks-err T U store.NoMemory is keeps = absurd is

-- ---- the page of the table that was looked at
pub table-now : (want now : ℕ → List ℕ) (p q : Parts) (n : ℕ) (h : Held) → Stands want now p → Loads p q → LeavesWanted p q → q.store.pool.geometry ≡ p.store.pool.geometry → n < p.store.pool.geometry.pages → held q.store.pool n ≡ Some h → h.bytes ≡ now n
table-now want now p q n h stands loads leaves sizes less is =
    let tells = sym (leaves.each want now stands.store).tells ∙ stands.tells in
    let size = ap (λ (g : Geometry). g.pages) sizes in
    held-page q n h (omega (arith, size, less)) is want now (loads.pages want now stands.store) tells

pub owner-looked : (p : Parts) (n : ℕ) (r : Result ℕ SpaceFault) → n < p.store.pool.geometry.pages → IfOk r (λ owner. (want now : ℕ → List ℕ) → Stands want now p → owner ≡ owner_at now n)
    → IfOk r (λ owner. (want : Wanted) (s : Slots) → HasPages want s p → owner ≡ (s n).0)
owner-looked p n (Ok owner) less is = λ want s has. is want has.now has.stands ∙ sym (owner-now want s p has n less)
owner-looked p n (Err f) less is = tt

-- ---- as a call of a borrowed store
module _ {D T : Type 0} (told : D → Option Story) (len faults : D → ℕ) (tx : ℕ) (d e : D) (s t : State) where
  up_still : (x : T) → Looks told len faults d e s t (Ok x) → t.book.down ≡ true → s.book.down ≡ true
  up_still x looks on = ⊎_elim (λ (was : s.book.down ≡ true). was) (λ (is : IsErrOf (Ok x) Fault). absurd (no_error x Fault is)) (looks.up on)

  -- after a refusal it is down
  went_down : (f : SpaceFault) → MeansDown f → Looks {T = T} told len faults d e s t (Err f) → t.book.down ≡ true
  went_down Fault means looks = (looks.fault refl).1
  went_down Down means looks = let on = looks.only refl in ap (λ (x : State). x.book.down) (looks.down on).store ∙ on
  went_down (DataFull used of) means looks = absurd means
  went_down (TempFull used of) means looks = absurd means
  went_down (LogFull used need of) means looks = absurd means
  went_down (GatesFull used of) means looks = absurd means
  went_down (Damaged page) means looks = absurd means
  went_down NoMemory means looks = absurd means

  pub Works-looked : (r : Result T SpaceFault) → IfErr r MeansDown → Looks told len faults d e s t r → Works told len faults tx 0 d e s t
  Works-looked (Ok x) means looks = record {
    size = looks.size;
    later = looks.later;
    geometry = looks.geometry;
    leaves = looks.leaves;
    down = λ on. absurd (no_error x Down (looks.down on).answer);
    fell = λ on. inl (up_still x looks on);
    makes = λ up. Makes-loads tx (parts told len d s) (parts told len e t) looks.loads;
  }
  Works-looked (Err f) means looks = record {
    size = looks.size;
    later = looks.later;
    geometry = looks.geometry;
    leaves = looks.leaves;
    down = λ on. ((looks.down on).disk, (looks.down on).store);
    fell = λ on. ⊎_elim (λ (was : s.book.down ≡ true). inl was) (λ (is : IsErrOf {T = T} (Err f) Fault). inr (looks.fault is).0) (looks.up on);
    makes = λ up. absurd (false≢true (sym up ∙ went_down f means looks));
  }

  pub Serves-looked : (r : Result T SpaceFault) → IfErr r MeansDown → Looks told len faults d e s t r → Serves tx (parts told len d s) → Serves tx (parts told len e t)
  Serves-looked (Ok x) means looks serves = record {
    ready = looks.ready;
    alone = IsAlone-same tx s.book t.book looks.loads.book serves.alone;
    few = subst (λ (g : Geometry). g.pages ≤ 65536) (sym looks.geometry) serves.few;
  }
  Serves-looked (Err f) means looks serves = record {
    ready = looks.ready;
    alone = IsAlone-down tx t.book (went_down f means looks);
    few = subst (λ (g : Geometry). g.pages ≤ 65536) (sym looks.geometry) serves.few;
  }

  pub up-looked : (r : Result T SpaceFault) → IfErr r MeansDown → Looks told len faults d e s t r → UnlessDown r (t.book.down ≡ true → s.book.down ≡ true)
  up-looked (Ok x) means looks = up_still x looks
  up-looked (Err Fault) means looks = tt
  up-looked (Err Down) means looks = tt
  up-looked (Err (DataFull used of)) means looks = absurd means
  up-looked (Err (TempFull used of)) means looks = absurd means
  up-looked (Err (LogFull used need of)) means looks = absurd means
  up-looked (Err (GatesFull used of)) means looks = absurd means
  up-looked (Err (Damaged page)) means looks = absurd means
  up-looked (Err NoMemory) means looks = absurd means

  pub Fails-looked : (r : Result T SpaceFault) → IfErr r MeansDown → Looks told len faults d e s t r → IfErr r (λ f. Fails faults f d e s t)
  Fails-looked (Ok x) means looks = tt
  Fails-looked (Err Fault) means looks = looks.fault refl
  Fails-looked (Err Down) means looks = (looks.later, inl (looks.only refl), went_down Down means looks)
  Fails-looked (Err (DataFull used of)) means looks = absurd means
  Fails-looked (Err (TempFull used of)) means looks = absurd means
  Fails-looked (Err (LogFull used need of)) means looks = absurd means
  Fails-looked (Err (GatesFull used of)) means looks = absurd means
  Fails-looked (Err (Damaged page)) means looks = absurd means
  Fails-looked (Err NoMemory) means looks = absurd means
