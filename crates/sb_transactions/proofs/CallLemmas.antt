-- What the calls of a space keep, as those of a transaction.
use Rattle.std.proofs.Common.{◌≡◌, ⊎_elim, ℕ, Bool, true, false, Option, Result, Ok, Err, IsErrOf, refl, sym, ap, ◌∙◌, arith}
use Rattle.std.proofs.lemmas.Bool.{false≢true}
use Rattle.sb_disk.specs.Disk.{Story}
use Rattle.sb_fold.specs.declared.refusal.Refusal.{Refusal}
use Rattle.sb_fold.specs.declared.refusal.Refusal.TheVariants as refusal
use Rattle.sb_drive.specs.declared.space.SpaceFault.{SpaceFault}
use Rattle.sb_drive.specs.declared.space.SpaceFault.TheVariants.{Fault, DataFull, TempFull, LogFull, GatesFull, Damaged, Down, NoMemory}
use Rattle.sb_log.specs.declared.geometry.Geometry.{Geometry}
use Rattle.sb_txn.specs.Clauses.{Grows, LeavesWanted}
use Rattle.sb_txn.specs.Parts.{Parts}
use Rattle.sb_txn.specs.State.{State}
use Rattle.sb_space.specs.Spent.{HasSpent}
use Rattle.sb_space.specs.Transactions.{KeepsSpace}
use Rattle.sb_space.specs.Works.{Fails, MeansDown}
use Rattle.sb_tables.specs.Refusals.{HasRefusalCause, refusal_of}
use Rattle.sb_transactions.specs.Calls.{IsOnlyFault, KeepsWanted, Remains}
use Rattle.sb_transactions.specs.Commits.{FailsOn, Mounted}
use Rattle.sb_value.proofs.Truths.{ok_err}

is_fault : (fault : SpaceFault) → MeansDown fault → refusal_of fault ≡ refusal.Fault
is_fault Fault means = refl
is_fault Down means = refl
is_fault (DataFull used total) means = absurd means
is_fault (TempFull used total) means = absurd means
is_fault (LogFull used need total) means = absurd means
is_fault (GatesFull used total) means = absurd means
is_fault (Damaged page) means = absurd means
is_fault NoMemory means = absurd means

module _ {D : Type 0} (told : D → Option Story) (len faults : D → ℕ) (d e : D) (s t : State) where
  -- a call that was answered found the store up, and left it so
  pub up_before : {T : Type 0} (x : T) → KeepsSpace told len faults d e s t (Ok x) → s.book.down ≡ false
  up_before x kept = by s.book.down refl
    where
      by : (b : Bool) → s.book.down ≡ b → s.book.down ≡ false
      by false off = off
      by true on = ok_err x Down (kept.down on).answer

  pub up_behind : {T : Type 0} (x : T) → KeepsSpace told len faults d e s t (Ok x) → t.book.down ≡ true → ⊥
  up_behind x kept on =
      ⊎_elim
      (λ (was : s.book.down ≡ true). absurd (false≢true (sym (up_before x kept) ∙ was)))
      (λ (is : IsErrOf (Ok x) Fault). ok_err x Fault is)
      (kept.up on)

  pub Remains-ok : {T U : Type 0} (x : T) (y : U) → KeepsSpace told len faults d e s t (Ok x) → Remains told len faults d e s t (Ok y)
  Remains-ok x y kept = record {
    size = kept.size;
    later = kept.later;
    geometry = kept.geometry;
    ready = kept.ready;
    down = λ on. ok_err x Down (kept.down on).answer;
    up = λ on. absurd (up_behind x kept on);
    fell = kept.fell;
  }

  -- a fault means that the store is down
  pub IsOnlyFault-of : {T : Type 0} (fault : SpaceFault) → MeansDown fault → KeepsSpace {T = T} told len faults d e s t (Err fault) → IsOnlyFault (refusal_of fault) t
  IsOnlyFault-of {T} fault means kept = record { is = is_fault fault means; down = falls fault means kept }
    where
      falls : (f : SpaceFault) → MeansDown f → KeepsSpace {T = T} told len faults d e s t (Err f) → t.book.down ≡ true
      falls Fault means kept = kept.fails.1
      falls Down means kept = let was = kept.only refl in ap (λ (x : State). x.book.down) (kept.down was).store ∙ was
      falls (DataFull used total) means kept = absurd means
      falls (TempFull used total) means kept = absurd means
      falls (LogFull used need total) means kept = absurd means
      falls (GatesFull used total) means kept = absurd means
      falls (Damaged page) means kept = absurd means
      falls NoMemory means kept = absurd means

  pub Remains-err : {T U : Type 0} (fault : SpaceFault) → MeansDown fault → KeepsSpace {T = T} told len faults d e s t (Err fault) → Remains {T = U} told len faults d e s t (Err (refusal_of fault))
  Remains-err {T} {U} fault means kept = record {
    size = kept.size;
    later = kept.later;
    geometry = kept.geometry;
    ready = kept.ready;
    down = λ on. record { answer = answer; disk = (kept.down on).disk; store = (kept.down on).store };
    up = λ on. answer;
    fell = kept.fell;
  }
    where
      answer : IsErrOf {T = U} (Err (refusal_of fault)) refusal.Fault
      answer = ap (λ (r : Refusal). Err r) (is_fault fault means)

  -- and that the disk failed a call
  pub HasCause-of : (fault : SpaceFault) → MeansDown fault → Fails faults fault d e s t → HasRefusalCause (FailsOn faults) (refusal_of fault) (record { disk = e; store = t })
  HasCause-of Fault means fails = record { fault = Fault; is = refl; before = record { disk = d; store = s }; fails = fails }
  HasCause-of Down means fails = record { fault = Down; is = refl; before = record { disk = d; store = s }; fails = fails }
  HasCause-of (DataFull used total) means fails = absurd means
  HasCause-of (TempFull used total) means fails = absurd means
  HasCause-of (LogFull used need total) means fails = absurd means
  HasCause-of (GatesFull used total) means fails = absurd means
  HasCause-of (Damaged page) means fails = absurd means
  HasCause-of NoMemory means fails = absurd means

-- a store that is up was up before a call
pub up-earlier : {D T : Type 0} (told : D → Option Story) (len faults : D → ℕ) (d e : D) (s t : State) (r : Result T Refusal) → Remains told len faults d e s t r → t.book.down ≡ false → s.book.down ≡ false
up-earlier told len faults d e s t r remains up = by s.book.down refl
  where
    by : (b : Bool) → s.book.down ≡ b → s.book.down ≡ false
    by false off = off
    by true on = absurd (false≢true (sym up ∙ ap (λ (x : State). x.book.down) (remains.down on).store ∙ on))

-- and a call that was answered leaves it up
pub up-later : {D T : Type 0} (told : D → Option Story) (len faults : D → ℕ) (d e : D) (s t : State) (x : T) → Remains told len faults d e s t (Ok x) → t.book.down ≡ false
up-later told len faults d e s t x remains = by t.book.down refl
  where
    by : (b : Bool) → t.book.down ≡ b → t.book.down ≡ false
    by false off = off
    by true on = ok_err x refusal.Fault (remains.up on)

-- what an answered call keeps is kept too where something else is answered
pub Remains-answered : {D T U : Type 0} (told : D → Option Story) (len faults : D → ℕ) (d e : D) (s t : State) (x : T) (q : Result U Refusal) → Remains told len faults d e s t (Ok x) → Remains told len faults d e s t q
Remains-answered told len faults d e s t x q remains = record {
  size = remains.size;
  later = remains.later;
  geometry = remains.geometry;
  ready = remains.ready;
  down = λ on. ok_err x refusal.Fault (remains.down on).answer;
  up = λ on. ok_err x refusal.Fault (remains.up on);
  fell = remains.fell;
}

-- where no more of the log is taken, no more is spent
pub HasSpent-still : (s t : State) → t.pool.geometry ≡ s.pool.geometry → s.book.down ≡ false → Grows s t 0 0 → (n : ℕ) → HasSpent n s → HasSpent n t
HasSpent-still s t sizes up grows n spent = λ _.
    let before = spent up in
    record {
      bytes = omega (arith, before.bytes, grows.bytes, ap (λ (g : Geometry). g.log) sizes);
      gates = omega (arith, before.gates, grows.gates);
    }

-- ---- a fault that has a cause means that the store is down
down_by : {D : Type 0} (faults : D → ℕ) (fault : SpaceFault) (old new : Mounted D) → refusal_of fault ≡ refusal.Fault → FailsOn faults fault old new → new.store.book.down ≡ true
down_by faults Fault old new is fails = fails.1
down_by faults Down old new is fails = fails.2
down_by faults (DataFull used total) old new is fails = absurd (cc)
down_by faults (TempFull used total) old new is fails = absurd (cc)
down_by faults (LogFull used need total) old new is fails = absurd (cc)
down_by faults (GatesFull used total) old new is fails = absurd (cc)
down_by faults (Damaged page) old new is fails = absurd (cc)
down_by faults NoMemory old new is fails = absurd (cc)

pub Fault-down : {D : Type 0} (faults : D → ℕ) (x : Mounted D) → HasRefusalCause (FailsOn faults) refusal.Fault x → x.store.book.down ≡ true
Fault-down faults x cause = down_by faults cause.fault cause.before x cause.is cause.fails

-- a call that fails only by a fault keeps what was wanted
pub KeepsWanted-fault : (r : Refusal) (p q : Parts) → IsOnlyFault r q.store → LeavesWanted p q → KeepsWanted p q
KeepsWanted-fault r p q only leaves = record { leaves = leaves; stays = λ up. absurd (false≢true (sym up ∙ only.down)) }
