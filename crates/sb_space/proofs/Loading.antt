-- A page that is brought into memory, or isn't.
use Rattle.std.proofs.Common.{◌≡◌, ⊎_elim, ℕ, ◌≤◌, Bool, true, false, Option, [], Result, Ok, Err, IsErrOf, inl, inr, refl, sym, ap, subst, ◌∙◌, arith}
use Rattle.std.proofs.lemmas.Bool.{false≢true}
use Rattle.sb_disk.specs.Disk.{Story}
use Rattle.sb_log.specs.declared.geometry.Geometry.{Geometry}
use Rattle.sb_txn.specs.declared.fault.StoreFault.{StoreFault}
use Rattle.sb_txn.specs.declared.fault.StoreFault.TheVariants.{Fault, LogFull, GatesFull, Down, NoMemory}
use Rattle.sb_txn.specs.Book.{Book, others}
use Rattle.sb_txn.specs.Clauses.{StaysReady, LeavesWanted, Loads, IsFaultOrDown}
use Rattle.sb_txn.specs.Parts.{Parts, parts}
use Rattle.sb_txn.specs.State.{State}
use Rattle.sb_txn.proofs.RoomLemmas.{Grows-rest}
use Rattle.sb_drive.specs.Spaces.{UnlessDown}
use Rattle.sb_space.specs.Faults.{fault_of}
use Rattle.sb_space.specs.Exact.{AreExact}
use Rattle.sb_space.specs.Table.{AreWhole}
use Rattle.sb_space.specs.Works.{Serves, LeadsBack, Makes, Works, Fails, IsAlone, undos_of}
use Rattle.sb_space.specs.Composing.{LeadsBack-none, nothing_more}
use Rattle.sb_space.specs.Telling.{told_so}

pub IsAlone-same : (tx : ℕ) (a b : Book) → b ≡ a → IsAlone tx a → IsAlone tx b
IsAlone-same tx a b same alone = subst (IsAlone tx) (sym same) alone

pub IsAlone-down : (tx : ℕ) (book : Book) → book.down ≡ true → IsAlone tx book
IsAlone-down tx book on = λ off. absurd (false≢true (sym off ∙ on))

pub no_error : {T E : Type 0} (x : T) (f : E) → IsErrOf (Ok x) f → ⊥
no_error x f is = cc

pub UnlessDown-failed : (T : Type 0) (f : StoreFault) (A : Type 0) → IsFaultOrDown f → UnlessDown {T = T} (Err (fault_of f)) A
UnlessDown-failed T Fault A is = tt
UnlessDown-failed T Down A is = tt
UnlessDown-failed T (LogFull used need total) A is = absurd is
UnlessDown-failed T (GatesFull used total) A is = absurd is
UnlessDown-failed T NoMemory A is = absurd is

-- pages and book stay
pub Makes-loads : (tx : ℕ) (a b : Parts) → Loads a b → Makes tx 0 a b
Makes-loads tx a b loads = record {
  undos = [];
  few = omega arith;
  own = ap (λ (x : Book). undos_of tx x.actives) loads.book ∙ nothing_more (undos_of tx a.store.book.actives);
  others = ap (λ (x : Book). others tx x.actives) loads.book;
  pages = λ want now store. record {
    pages = now;
    store = loads.pages want now store;
    back = told_so a.told (AreWhole a.store.pool.geometry.pages now → LeadsBack a.store.pool.geometry.pages [] now now) (LeadsBack-none a.store.pool.geometry.pages now);
    exact = told_so a.told (AreWhole a.store.pool.geometry.pages now → AreExact a.store.pool.geometry.pages [] now) (λ whole. tt);
  };
  grows = Grows-rest a.store b.store loads.journal;
}

module _ {D T : Type 0} (told : D → Option Story) (len faults : D → ℕ) (tx : ℕ) (d e : D) (s t : State) where
  -- ---- it is there
  module _ (x : T) (keeps : StaysReady told len faults d e s t (Ok x)) (leaves : LeavesWanted (parts told len d s) (parts told len e t)) (loads : Loads (parts told len d s) (parts told len e t)) where
    pub Works-loaded : Works told len faults tx 0 d e s t
    Works-loaded = record {
      size = keeps.size;
      later = keeps.later;
      geometry = keeps.geometry;
      leaves = leaves;
      down = λ on. absurd (no_error x Down (keeps.down on).answer);
      fell = λ on. ⊎_elim (λ (was : s.book.down ≡ true). inl was) (λ (e : IsErrOf (Ok x) Fault). absurd (no_error x Fault e)) (keeps.up on);
      makes = λ up. Makes-loads tx (parts told len d s) (parts told len e t) loads;
    }

  -- ---- a call that the disk failed, or that a store answered which is down
  module _ (f : StoreFault) (keeps : StaysReady {T = T} told len faults d e s t (Err f)) (leaves : LeavesWanted (parts told len d s) (parts told len e t)) where
    pub Works-failed : (changes : ℕ) → IsFaultOrDown f → Works told len faults tx changes d e s t
    Works-failed changes is = record {
      size = keeps.size;
      later = keeps.later;
      geometry = keeps.geometry;
      leaves = leaves;
      down = λ on. ((keeps.down on).disk, (keeps.down on).store);
      fell = λ on. ⊎_elim (λ (was : s.book.down ≡ true). inl was) (λ (e : IsErrOf {T = T} (Err f) Fault). inr (keeps.fault e).0) (keeps.up on);
      makes = λ up. absurd (false≢true (sym up ∙ went_down f is refl));
    }
      where
        went_down : (g : StoreFault) → IsFaultOrDown g → g ≡ f → t.book.down ≡ true
        went_down Fault is same = (keeps.fault (ap Err (sym same))).1
        went_down Down is same = let on = keeps.only (ap Err (sym same)) in ap (λ (x : State). x.book.down) (keeps.down on).store ∙ on
        went_down (LogFull used need total) is same = absurd is
        went_down (GatesFull used total) is same = absurd is
        went_down NoMemory is same = absurd is

module _ {D T : Type 0} (told : D → Option Story) (len faults : D → ℕ) (tx : ℕ) (d e : D) (s t : State) where
  -- a call that went well leaves the store up
  pub up_after : (x : T) → StaysReady told len faults d e s t (Ok x) → t.book.down ≡ false
  up_after x keeps = by_case t.book.down (λ on. ⊎_elim (λ (was : s.book.down ≡ true). no_error x Down (keeps.down was).answer) (λ (f : IsErrOf (Ok x) Fault). no_error x Fault f) (keeps.up on))
    where
      by_case : (b : Bool) → (b ≡ true → ⊥) → b ≡ false
      by_case true off = absurd (off refl)
      by_case false off = refl

  few_after : (f : Result T StoreFault) → StaysReady told len faults d e s t f → s.pool.geometry.pages ≤ 65536 → t.pool.geometry.pages ≤ 65536
  few_after f keeps few = subst (λ (g : Geometry). g.pages ≤ 65536) (sym keeps.geometry) few

  pub Serves-loaded : (x : T) → StaysReady told len faults d e s t (Ok x) → t.book ≡ s.book → Serves tx (parts told len d s) → Serves tx (parts told len e t)
  Serves-loaded x keeps same serves = record { ready = keeps.ready; alone = IsAlone-same tx s.book t.book same serves.alone; few = few_after (Ok x) keeps serves.few }

  -- of a refusal that means that it is down
  pub Serves-failed : (f : StoreFault) → StaysReady {T = T} told len faults d e s t (Err f) → IsFaultOrDown f → Serves tx (parts told len d s) → Serves tx (parts told len e t)
  Serves-failed f keeps is serves = record {
    ready = keeps.ready;
    alone = IsAlone-down tx t.book (went_down f is refl);
    few = few_after (Err f) keeps serves.few;
  }
    where
      went_down : (g : StoreFault) → IsFaultOrDown g → g ≡ f → t.book.down ≡ true
      went_down Fault is same = (keeps.fault (ap Err (sym same))).1
      went_down Down is same = let on = keeps.only (ap Err (sym same)) in ap (λ (x : State). x.book.down) (keeps.down on).store ∙ on
      went_down (LogFull used need total) is same = absurd is
      went_down (GatesFull used total) is same = absurd is
      went_down NoMemory is same = absurd is

  pub Fails-failed : (f : StoreFault) → StaysReady {T = T} told len faults d e s t (Err f) → IsFaultOrDown f → Fails faults (fault_of f) d e s t
  Fails-failed f keeps is = by_kind f is refl
    where
      by_kind : (g : StoreFault) → IsFaultOrDown g → g ≡ f → Fails faults (fault_of g) d e s t
      by_kind Fault is same = keeps.fault (ap Err (sym same))
      by_kind Down is same = let on = keeps.only (ap Err (sym same)) in (keeps.later, inl on, ap (λ (x : State). x.book.down) (keeps.down on).store ∙ on)
      by_kind (LogFull used need total) is same = absurd is
      by_kind (GatesFull used total) is same = absurd is
      by_kind NoMemory is same = absurd is
