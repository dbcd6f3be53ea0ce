-- Calls of a borrowed store one after another.
use Rattle.std.proofs.Common.{◌≡◌, ℕ, ◌+◌, ◌≤◌, true, Option, Result, Ok, Err, IfErr, refl, sym, ap, subst, arith}
use Rattle.std.specs.Result.{IsErrAnd}
use Rattle.sb_disk.specs.Disk.{Story}
use Rattle.sb_drive.specs.declared.space.SpaceFault.{SpaceFault}
use Rattle.sb_drive.specs.declared.space.SpaceFault.TheVariants.{Fault, DataFull, TempFull, LogFull, GatesFull, Damaged, Down, NoMemory}
use Rattle.sb_drive.specs.Spaces.{UnlessDown}
use Rattle.sb_txn.specs.State.{State}
use Rattle.sb_space.specs.Durable.{Lent, Leads, Calls, parts_in}
use Rattle.sb_space.specs.Works.{Serves, Works, Fails}
use Rattle.sb_space.specs.SpaceLaws.{Leads-none, Leads-then, Fails-on}

UnlessDown-both : {T : Type 0} (r : Result T SpaceFault) (A B C : Type 0) → (A → B → C) → A → UnlessDown r B → UnlessDown r C
UnlessDown-both (Ok x) A B C f a b = f a b
UnlessDown-both (Err Fault) A B C f a b = tt
UnlessDown-both (Err Down) A B C f a b = tt
UnlessDown-both (Err (DataFull used total)) A B C f a b = f a b
UnlessDown-both (Err (TempFull used total)) A B C f a b = f a b
UnlessDown-both (Err (LogFull used need total)) A B C f a b = f a b
UnlessDown-both (Err (GatesFull used total)) A B C f a b = f a b
UnlessDown-both (Err (Damaged page)) A B C f a b = f a b
UnlessDown-both (Err NoMemory) A B C f a b = f a b

pub UnlessDown-map : {T : Type 0} (r : Result T SpaceFault) (A B : Type 0) → (A → B) → UnlessDown r A → UnlessDown r B
UnlessDown-map r A B f a = UnlessDown-both r (Unit {0}) A B (λ u. f) tt a

pub UnlessDown-as : (T U : Type 0) (e : SpaceFault) (A : Type 0) → UnlessDown {T = T} (Err e) A → UnlessDown {T = U} (Err e) A
UnlessDown-as T U Fault A a = tt
UnlessDown-as T U Down A a = tt
UnlessDown-as T U (DataFull used total) A a = a
UnlessDown-as T U (TempFull used total) A a = a
UnlessDown-as T U (LogFull used need total) A a = a
UnlessDown-as T U (GatesFull used total) A a = a
UnlessDown-as T U (Damaged page) A a = a
UnlessDown-as T U NoMemory A a = a

module _ {D : Type 0} (told : D → Option Story) (len faults : D → ℕ) where
  pub Calls-none : {T : Type 0} (x : T) (a : Lent D) → Serves a.tx (parts_in told len a) → Calls told len faults 0 a a (Ok x)
  Calls-none x a serves = record { leads = Leads-none told len faults a; ready = serves; up = λ on. on; fails = tt }

  -- ---- a call behind one that went well
  pub Calls-then : {T U : Type 0} (k l : ℕ) (a b c : Lent D) (x : T) (r : Result U SpaceFault) → Calls told len faults k a b (Ok x) → Calls told len faults l b c r → Calls told len faults (k + l) a c r
  Calls-then {U = U} k l a b c x r one two = record {
    leads = Leads-then told len faults k l a b c one.leads two.leads;
    ready = two.ready;
    up = UnlessDown-map r (c.store.now.book.down ≡ true → b.store.now.book.down ≡ true) (c.store.now.book.down ≡ true → a.store.now.book.down ≡ true) (λ up on. one.up (up on)) two.up;
    fails = by_result r two.fails;
  }
    where
      by_result : (q : Result U SpaceFault) → IfErr q (λ e. Fails faults e b.disk.now c.disk.now b.store.now c.store.now) → IfErr q (λ e. Fails faults e a.disk.now c.disk.now a.store.now c.store.now)
      by_result (Ok y) fails = tt
      by_result (Err e) fails = Fails-on told len faults a.tx k a.disk.now c.disk.now a.store.now c.store.now e b.disk.now b.store.now one.leads.works fails

  -- the same with another value
  pub Calls-ok : {T U : Type 0} (k : ℕ) (a b : Lent D) (x : T) (y : U) → Calls told len faults k a b (Ok x) → Calls told len faults k a b (Ok y)
  Calls-ok k a b x y calls = record { leads = calls.leads; ready = calls.ready; up = calls.up; fails = tt }

  pub Calls-err : {T U : Type 0} (k : ℕ) (a b : Lent D) (e : SpaceFault) → Calls {T = T} told len faults k a b (Err e) → Calls {T = U} told len faults k a b (Err e)
  Calls-err {T = T} {U = U} k a b e calls = record {
    leads = calls.leads;
    ready = calls.ready;
    up = UnlessDown-as T U e (b.store.now.book.down ≡ true → a.store.now.book.down ≡ true) calls.up;
    fails = calls.fails;
  }

  -- and then memory is wanting, or no page is left
  pub Calls-memory : {T U : Type 0} (k : ℕ) (a b : Lent D) (x : T) → Calls told len faults k a b (Ok x) → Calls {T = U} told len faults k a b (Err NoMemory)
  Calls-memory k a b x calls = record { leads = calls.leads; ready = calls.ready; up = calls.up; fails = tt }

  pub Calls-full : {T U : Type 0} (k : ℕ) (a b : Lent D) (x : T) (total : ℕ) → total ≡ b.store.now.pool.geometry.pages → Calls told len faults k a b (Ok x) → Calls {T = U} told len faults k a b (Err (DataFull total total))
  Calls-full k a b x total are calls = record { leads = calls.leads; ready = calls.ready; up = calls.up; fails = (refl, are) }

  -- a refusal that is handed on
  pub Calls-from : {T U : Type 0} (k : ℕ) (a b : Lent D) (e : SpaceFault) (r : Result U SpaceFault) → IsErrAnd r (λ f. f ≡ e) → Calls {T = T} told len faults k a b (Err e) → Calls told len faults k a b r
  Calls-from k a b e (Ok x) is calls = absurd is
  Calls-from {T = T} {U = U} k a b e (Err f) is calls = subst (λ (x : SpaceFault). Calls {T = U} told len faults k a b (Err x)) (sym is) (Calls-err {T = T} {U = U} k a b e calls)

  -- and then something that may want memory
  pub Calls-unless : {T U : Type 0} (k : ℕ) (a b : Lent D) (x : T) (r : Result U SpaceFault) → IfErr r (λ e. e ≡ NoMemory) → Calls told len faults k a b (Ok x) → Calls told len faults k a b r
  Calls-unless k a b x (Ok y) is calls = Calls-ok k a b x y calls
  Calls-unless {T = T} {U = U} k a b x (Err e) is calls = subst (λ (f : SpaceFault). Calls {T = U} told len faults k a b (Err f)) (sym is) (Calls-memory {T = T} {U = U} k a b x calls)

  -- more changes are at most so many too
  Works-most : (tx : ℕ) (k l : ℕ) (d e : D) (s t : State) → k ≤ l → Works told len faults tx k d e s t → Works told len faults tx l d e s t
  Works-most tx k l d e s t most works = record {
    size = works.size;
    later = works.later;
    geometry = works.geometry;
    leaves = works.leaves;
    down = works.down;
    fell = works.fell;
    makes = λ up. let m = works.makes up in record {
      undos = m.undos;
      few = omega (arith, most, m.few);
      own = m.own;
      others = m.others;
      pages = m.pages;
      grows = record { bytes = let b = m.grows.bytes in omega (arith, most, b); least = m.grows.least; gates = let b = m.grows.gates in omega (arith, most, b) };
    };
  }

  pub Leads-most : (k l : ℕ) (a b : Lent D) → k ≤ l → Leads told len faults k a b → Leads told len faults l a b
  Leads-most k l a b most leads = record {
    store = leads.store;
    disk = leads.disk;
    tx = leads.tx;
    works = Works-most a.tx k l a.disk.now b.disk.now a.store.now b.store.now most leads.works;
  }

  pub Calls-most : {T : Type 0} (k l : ℕ) (a b : Lent D) (r : Result T SpaceFault) → k ≤ l → Calls told len faults k a b r → Calls told len faults l a b r
  Calls-most k l a b r most calls = record { leads = Leads-most k l a b most calls.leads; ready = calls.ready; up = calls.up; fails = calls.fails }

-- a refusal that is handed on is that one
pub handed-is : {T : Type 0} (r : Result T SpaceFault) (e : SpaceFault) → IsErrAnd r (λ f. f ≡ e) → r ≡ Err e
handed-is (Ok x) e is = absurd is
handed-is {T = T} (Err f) e is = let same : SpaceFault → Result T SpaceFault = λ x. Err x in ap same is
