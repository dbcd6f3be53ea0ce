-- What the calls of a space with its transactions make of it.
use Rattle.std.proofs.Common.{◌≡◌, ⊎_elim, ℕ, zero, suc, ◌+◌, ◌*◌, ◌^◌, ◌≤◌, nat_lt, length, length-append, arith, Bool, true, false, Option, Some, List, [], ◌∷◌, ◌++◌, Result, Ok, Err, OnOk, IfErr, IsErrOf, inl, inr, refl, sym, ap, subst, ◌∙◌}
use Rattle.std.proofs.lemmas.Bool.{ltb-true, ltb-false}
use Rattle.sb_disk.specs.Disk.{Story}
use Rattle.sb_disk.specs.Moments.{LeavesOnly}
use Rattle.sb_disk.proofs.MomentLemmas.{weaker}
use Rattle.sb_images.specs.Images.{Restores, IsOldOrNew}
use Rattle.sb_journal.specs.Chunks.{bytes_of}
use Rattle.sb_journal.specs.State as journal
use Rattle.sb_journal.specs.State.{room_of, sealed, used_of}
use Rattle.sb_log.specs.declared.geometry.Geometry.{Geometry}
use Rattle.sb_drive.specs.declared.space.SpaceFault.{SpaceFault}
use Rattle.sb_drive.specs.declared.space.SpaceFault.TheVariants as space
use Rattle.sb_drive.specs.Slots.{Slots}
use Rattle.sb_drive.specs.Spaces.{Wanted}
use Rattle.sb_txn.specs.Book.{ActiveTransaction, Book, new_transaction, transaction_with, others, standing_of, IsOnly, with_actives}
use Rattle.sb_txn.specs.Clauses.{StaysReady, IsFaultOrDown, HoldsPages, LeavesWanted, Begins, GoesBack, Aborts, Commits, LeavesOne}
use Rattle.sb_txn.specs.Parts.{Parts, parts}
use Rattle.sb_txn.specs.State.{State}
use Rattle.sb_txn.specs.Steps.{HasHalf}
use Rattle.sb_txn.specs.Tied.{gates_used}
use Rattle.sb_txn.specs.declared.fault.StoreFault.{StoreFault}
use Rattle.sb_txn.specs.declared.fault.StoreFault.TheVariants.{Fault, LogFull, GatesFull, Down, NoMemory}
use Rattle.sb_txn.proofs.CalledLemmas.{transaction_with-among}
use Rattle.sb_txn.proofs.KeepsLemmas.{StaysReady-up, LeavesWanted-none}
use Rattle.sb_txn.proofs.OnlyLemmas.{IsOnly-back}
use Rattle.sb_txn.proofs.PlaceLemmas.{IsOnly-one, standing_of-first}
use Rattle.sb_space.specs.Faults.{fault_of}
use Rattle.sb_space.specs.Spent.{HasSpent, TakesNoMore}
use Rattle.sb_space.specs.Table.{AreWhole, IsTable, slots_in}
use Rattle.sb_space.specs.Transactions.{KeepsSpace, WasAt, AreFormed}
use Rattle.sb_space.specs.Works.{Serves, HasPages, IsAlone}
use Rattle.sb_space.proofs.Changed.{alone_active}
use Rattle.sb_space.proofs.GoingBack.{HasPages-through, HasPages-back}
use Rattle.sb_space.proofs.Loading.{no_error}

-- ---- what is pending, as a chunk
sealed_few : (pending : ℕ) (lens : List ℕ) → length (sealed pending lens) ≤ length lens + 1
sealed_few zero lens = omega arith
sealed_few (suc n) lens = omega (arith, length-append lens (suc n ∷ []))

sealed_none : (pending : ℕ) (lens : List ℕ) → bytes_of lens + room_of pending ≡ 0 → lens ≡ [] → length (sealed pending lens) ≤ 0
sealed_none zero lens used none = omega (arith, ap (λ (l : List ℕ). length l) none)
sealed_none (suc n) lens used none = omega (arith, used)

-- ---- what each call keeps
module _ {D : Type 0} (told : D → Option Story) (len faults : D → ℕ) (d e : D) (s t : State) where
  pub Kept-ok : {T U : Type 0} (x : T) (y : U) → StaysReady told len faults d e s t (Ok x) → KeepsSpace told len faults d e s t (Ok y)
  Kept-ok x y keeps = record {
    size = keeps.size;
    later = keeps.later;
    geometry = keeps.geometry;
    ready = keeps.ready;
    down = λ on. absurd (no_error x Down (keeps.down on).answer);
    only = λ is. absurd (no_error y space.Down is);
    up = λ on. ⊎_elim (λ (was : s.book.down ≡ true). inl was) (λ (f : IsErrOf (Ok x) Fault). absurd (no_error x Fault f)) (keeps.up on);
    fell = λ on. ⊎_elim (λ (was : s.book.down ≡ true). inl was) (λ (f : IsErrOf (Ok x) Fault). absurd (no_error x Fault f)) (keeps.up on);
    fails = tt;
  }

  Kept-failed : {T U : Type 0} (f : StoreFault) → IsFaultOrDown f → StaysReady {T = T} told len faults d e s t (Err f) → KeepsSpace {T = U} told len faults d e s t (Err (fault_of f))
  Kept-failed Fault is keeps = record {
    size = keeps.size;
    later = keeps.later;
    geometry = keeps.geometry;
    ready = keeps.ready;
    down = λ on. absurd (let answer = (keeps.down on).answer in cc);
    only = λ is. absurd (cc);
    up = λ on. inr refl;
    fell = λ on. inr (keeps.fault refl).0;
    fails = keeps.fault refl;
  }
  Kept-failed Down is keeps = record {
    size = keeps.size;
    later = keeps.later;
    geometry = keeps.geometry;
    ready = keeps.ready;
    down = λ on. record { answer = refl; disk = (keeps.down on).disk; store = (keeps.down on).store };
    only = λ is. keeps.only refl;
    up = λ on. inl (keeps.only refl);
    fell = λ on. inl (keeps.only refl);
    fails = let on = keeps.only refl in (keeps.later, inl on, ap (λ (x : State). x.book.down) (keeps.down on).store ∙ on);
  }
  Kept-failed (LogFull used need total) is keeps = absurd is
  Kept-failed (GatesFull used total) is keeps = absurd is
  Kept-failed NoMemory is keeps = absurd is

  pub Kept-err : {T U : Type 0} (f : StoreFault) (x : SpaceFault) → x ≡ fault_of f → IsFaultOrDown f → StaysReady {T = T} told len faults d e s t (Err f) → KeepsSpace {T = U} told len faults d e s t (Err x)
  Kept-err {T = T} {U = U} f x same is keeps = subst (λ (y : SpaceFault). KeepsSpace {T = U} told len faults d e s t (Err y)) (sym same) (Kept-failed {T = T} {U = U} f is keeps)

  pub sizes-same : {T : Type 0} (r : Result T StoreFault) → StaysReady told len faults d e s t r → t.pool.geometry.pages ≡ s.pool.geometry.pages
  sizes-same r keeps = ap (λ (g : Geometry). g.pages) keeps.geometry

  -- ---- a begin
  module _ {T : Type 0} (x : T) (tx : ℕ) (keeps : StaysReady told len faults d e s t (Ok x)) (begins : Begins (parts told len d s) (parts told len e t) tx) (none : s.book.down ≡ false → s.book.actives ≡ []) where
    actives-begun : t.book.actives ≡ new_transaction tx ∷ []
    actives-begun = begins.actives ∙ ap (λ (os : List ActiveTransaction). os ++ new_transaction tx ∷ []) (none (StaysReady-up told len faults x d e s t keeps))

    pub Serves-begun : s.pool.geometry.pages ≤ 65536 → Serves tx (parts told len e t)
    Serves-begun few = record {
      ready = keeps.ready;
      alone = λ up. subst (λ (os : List ActiveTransaction). IsOnly tx os) (sym actives-begun) (IsOnly-one tx (new_transaction tx) refl);
      few = subst (λ (g : Geometry). g.pages ≤ 65536) (sym keeps.geometry) few;
    }

    -- half of the log is left, and half of its gates
    was_up_begun : s.book.down ≡ false
    was_up_begun = StaysReady-up told len faults x d e s t keeps

    left_at_once : HasHalf s.journal s.book → s.journal.log.len ≡ s.pool.geometry.log → TakesNoMore 0 t
    left_at_once half region =
        let same : t.journal ≡ s.journal = ap (λ (u : State). u.journal) (begins.at_once (λ takes. takes.over half)) in
        let sizes = ap (λ (g : Geometry). g.log) keeps.geometry in
        record {
          bytes = omega (arith, half.bytes, ap (λ (j : journal.State). used_of j) same, region, sizes);
          gates = omega (arith, half.chunks, ap (λ (j : journal.State). gates_used j) same, sealed_few s.journal.pending s.journal.lens);
        }

    left_anew : (HasHalf s.journal s.book → ⊥) → TakesNoMore 0 t
    left_anew over =
        let anew = begins.anew (record { none = none was_up_begun; over = over }) in
        record { bytes = omega (arith, anew.log); gates = omega (arith, sealed_none t.journal.pending t.journal.lens anew.log anew.chunks) }

    pub HasSpent-begun : s.journal.log.len ≡ s.pool.geometry.log → HasSpent 0 t
    HasSpent-begun region up =
        elim (nat_lt s.journal.log.len (2 * used_of s.journal)) as (λ b. nat_lt s.journal.log.len (2 * used_of s.journal) ≡ b → TakesNoMore 0 t) [
          | true ↦ λ is. let more = ltb-true s.journal.log.len (2 * used_of s.journal) is in left_anew (λ half. omega (arith, more, half.bytes))
          | false ↦ λ bytes.
              elim (nat_lt 65536 (2 * length s.journal.lens)) as (λ b. nat_lt 65536 (2 * length s.journal.lens) ≡ b → TakesNoMore 0 t) [
                | true ↦ λ is. let more = ltb-true 65536 (2 * length s.journal.lens) is in left_anew (λ half. omega (arith, more, half.chunks))
                | false ↦ λ chunks.
                    elim (nat_lt s.book.next (2 ^ 31)) as (λ b. nat_lt s.book.next (2 ^ 31) ≡ b → TakesNoMore 0 t) [
                      | true ↦ λ next. left_at_once (record {
                        bytes = ltb-false s.journal.log.len (2 * used_of s.journal) bytes;
                        chunks = ltb-false 65536 (2 * length s.journal.lens) chunks;
                        next = ltb-true s.book.next (2 ^ 31) next;
                      }) region
                      | false ↦ λ is. let more = ltb-false s.book.next (2 ^ 31) is in left_anew (λ half. omega (arith, more, half.next))
                    ] refl
              ] refl
        ] refl

    pub standing-begun : standing_of tx t.book.actives ≡ 0
    standing-begun = ap (λ (os : List ActiveTransaction). standing_of tx os) actives-begun ∙ standing_of-first tx (new_transaction tx) [] refl

-- ---- a way back
pub Serves-back : {D : Type 0} (told : D → Option Story) (len faults : D → ℕ) (tx : ℕ) (d e : D) (s t : State) (r : Result (Unit {0}) StoreFault) (n : ℕ) → StaysReady told len faults d e s t r
    → OnOk r ((o : ActiveTransaction) → transaction_with tx s.book.actives ≡ Some o → GoesBack (parts told len d s) (parts told len e t) o n) → IfErr r IsFaultOrDown
    → Serves tx (parts told len d s) → Serves tx (parts told len e t)
Serves-back told len faults tx d e s t r n keeps back err serves = record {
  ready = keeps.ready;
  alone = λ up. IsOnly-back told len faults d e s t tx serves.alone up r n keeps back err;
  few = subst (λ (g : Geometry). g.pages ≤ 65536) (sym keeps.geometry) serves.few;
}

-- ---- the pages stay
pub HasPages-stays : (p q : Parts) (sizes : q.store.pool.geometry.pages ≡ p.store.pool.geometry.pages) → LeavesWanted p q → ((want now : ℕ → List ℕ) → HoldsPages want now p → HoldsPages want now q)
    → (want : Wanted) (s : Slots) → HasPages want s p → HasPages want s q
HasPages-stays p q sizes leaves stays want s has =
    HasPages-through p q sizes leaves want has.now has.now s has.stands (stays want has.now has.stands.store) has.stands.whole has.table has.slots

-- ---- the end of the active one
module _ {D : Type 0} (told : D → Option Story) (len faults : D → ℕ) (tx : ℕ) (d e : D) (s t : State) (keeps : StaysReady {T = Unit {0}} told len faults d e s t (Ok tt)) (only : IsAlone tx s.book) where
  abbrev p : Parts
  p = parts told len d s

  abbrev q : Parts
  q = parts told len e t

  up : s.book.down ≡ false
  up = StaysReady-up told len faults tt d e s t keeps

  -- that one
  pub the_one : (o : ActiveTransaction) × (transaction_with tx s.book.actives ≡ Some o)
  the_one = transaction_with-among tx s.book.actives (only up).0

  pub none_else : others tx s.book.actives ≡ []
  none_else = (only up).1

  sizes : t.pool.geometry.pages ≡ s.pool.geometry.pages
  sizes = ap (λ (g : Geometry). g.pages) keeps.geometry

  pub none-ended : (rest : List ActiveTransaction) → rest ≡ [] → t.book ≡ with_actives s.book rest → t.book.actives ≡ []
  none-ended rest none is = ap (λ (b : Book). b.actives) is ∙ none

  -- it is aborted
  module _ (leaves : LeavesWanted (parts told len d s) (parts told len e t)) (aborts : Aborts (parts told len d s) (parts told len e t) the_one.0 (others tx s.book.actives)) where
    pub HasPages-aborted : (want : Wanted) (u : Slots) → WasAt tx want u 0 (parts told len d s) → HasPages want u (parts told len e t)
    HasPages-aborted want u was = HasPages-back tx 0 p q the_one.0 the_one.1 sizes leaves aborts.pages want u was

    pub HasPages-wanted : (want : Wanted) (u : Slots) → HasPages want u (parts told len d s) → AreFormed s.pool.geometry.pages want → HasPages want (slots_in s.pool.geometry.pages want) (parts told len e t)
    HasPages-wanted want u has formed =
        HasPages-through p q sizes leaves want has.now want (slots_in s.pool.geometry.pages want) has.stands (aborts.alone none_else want has.now has.stands.store) formed.whole formed.table refl

  -- it is committed
  pub HasPages-committed : ((o : ActiveTransaction) → s.book.actives ≡ o ∷ [] → LeavesOne (parts told len d s) (parts told len e t)) → Commits (parts told len d s) (parts told len e t) the_one.0 (others tx s.book.actives)
      → (want : Wanted) (u : Slots) (has : HasPages want u (parts told len d s)) → HasPages has.now u (parts told len e t)
  HasPages-committed leaves commits want u has =
      let one = leaves the_one.0 (alone_active tx s.book.actives the_one.0 the_one.1 none_else) want has.now has.stands.store in
      record {
        now = has.now;
        stands = record {
          tells = sym one.tells ∙ has.stands.tells;
          store = commits.alone none_else want has.now has.stands.store;
          whole = subst (λ (n : ℕ). AreWhole n has.now) (sym sizes) has.stands.whole;
        };
        table = subst (λ (n : ℕ). IsTable n has.now) (sym sizes) has.table;
        slots = has.slots ∙ ap (λ (n : ℕ). slots_in n has.now) (sym sizes);
      }

-- at each moment of a commit
module _ {D T : Type 0} (told : D → Option Story) (len faults : D → ℕ) (tx : ℕ) (d e : D) (s t : State) (r : Result T StoreFault) (keeps : StaysReady told len faults d e s t r) (only : IsAlone tx s.book) where
  pub LeavesOnly-commit : ((o : ActiveTransaction) → s.book.actives ≡ o ∷ [] → LeavesOne (parts told len d s) (parts told len e t)) → (want : Wanted) (u : Slots) (has : HasPages want u (parts told len d s))
      → LeavesOnly (told d) (told e) (IsOldOrNew s.pool.geometry want has.now)
  LeavesOnly-commit leaves want u has = by_case s.book.down refl
    where
      by_case : (b : Bool) → s.book.down ≡ b → LeavesOnly (told d) (told e) (IsOldOrNew s.pool.geometry want has.now)
      by_case false off =
          let found = transaction_with-among tx s.book.actives (only off).0 in
          leaves found.0 (alone_active tx s.book.actives found.0 found.1 (only off).1) want has.now has.stands.store
      by_case true on =
          subst (λ (x : D). LeavesOnly (told d) (told x) (IsOldOrNew s.pool.geometry want has.now)) (sym (keeps.down on).disk)
          (weaker (told d) (told d) (Restores s.pool.geometry want) (IsOldOrNew s.pool.geometry want has.now) (λ image is. inl is) ((LeavesWanted-none (parts told len d s)).each want has.now has.stands.store))
