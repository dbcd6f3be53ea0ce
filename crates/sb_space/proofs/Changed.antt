-- A change of a range, or its refusal.
use Rattle.std.proofs.Common.{◌≡◌, ◌⊎◌, ⊎_elim, ℕ, ◌+◌, ◌<◌, ◌≤◌, ◌==◌, Bool, true, false, cond, Option, Some, None, is_some, Result, Ok, Err, OnOk, IfErr, IsErrOf, List, [], ◌∷◌, ◌++◌, length, take, drop, All, inl, inr, refl, sym, ap, subst, ◌∙◌, arith}
use Rattle.std.proofs.lemmas.Bool.{false≢true, eq-eqb}
use Rattle.std.proofs.lemmas.List.{length-take, length-drop}
use Rattle.std.proofs.lemmas.List.Elements.{All-append, All-take, All-drop}
use Rattle.sb_bytes.specs.Bytes.{splice}
use Rattle.sb_bytes.proofs.BytesLaws.{length-splice}
use Rattle.sb_disk.specs.Disk.{Story, Range}
use Rattle.sb_forms.specs.Pages.{IsWhole}
use Rattle.sb_log.specs.declared.geometry.Geometry.{Geometry}
use Rattle.sb_images.specs.Layout.{gates_of, log_of}
use Rattle.sb_pool.specs.Pages.{with_bytes}
use Rattle.sb_txn.specs.declared.fault.StoreFault.{StoreFault}
use Rattle.sb_txn.specs.declared.fault.StoreFault.TheVariants.{Fault, LogFull, GatesFull, Down, NoMemory}
use Rattle.sb_txn.specs.Book.{Undo, ActiveTransaction, Book, transaction_with, others, put_in, changed_transaction, wants_of}
use Rattle.sb_txn.specs.Clauses.{HoldsPages, IsReady, StaysReady, LeavesWanted, Changes, ChangeErr, Refused, undo_in, unwound}
use Rattle.sb_txn.specs.Parts.{Parts, parts}
use Rattle.sb_txn.specs.State.{State}
use Rattle.sb_txn.proofs.CalledLemmas.{transaction_with-among, transaction_with-split, transaction_with-put, others-put}
use Rattle.sb_txn.proofs.LawLemmas.{last_is_undone}
use Rattle.sb_txn.proofs.LoggedLemmas.{change_len-most}
use Rattle.sb_txn.proofs.OnlyLemmas.{IsOnly-change}
use Rattle.sb_txn.proofs.RoomLemmas.{SameRoom-forced, Grows-rest}
use Rattle.sb_drive.specs.Spaces.{UnlessDown}
use Rattle.sb_space.specs.Faults.{fault_of}
use Rattle.sb_space.specs.Exact.{AreExact, IsExact}
use Rattle.sb_space.specs.Table.{AreWhole}
use Rattle.sb_space.specs.Works.{Serves, Stands, LeadsBack, Makes, Works, Fails, IsAlone, undos_of}
use Rattle.sb_space.specs.Composing.{LeadsBack-none, LeadsBack-one, nothing_more}
use Rattle.sb_space.proofs.Loading.{no_error, Works-failed}
use Rattle.sb_space.specs.Telling.{told_so, told_both, told_map, told_tells}

-- ---- a page with a range changed is whole
IsWhole-splice : (offset : ℕ) (bytes page : List ℕ) → offset + length bytes ≤ 4096 → All (λ b. b < 256) bytes → IsWhole page → IsWhole (splice offset bytes page)
IsWhole-splice offset bytes page within small whole = record {
  long = let long = whole.long in length-splice offset bytes page (omega (arith, within, long)) ∙ whole.long;
  small = All-append (λ b. b < 256) (take offset page ++ bytes) (drop (offset + length bytes) page)
      (All-append (λ b. b < 256) (take offset page) bytes (All-take (λ b. b < 256) offset page whole.small) small) (All-drop (λ b. b < 256) (offset + length bytes) page whole.small);
}

pub AreWhole-changed : (pages : ℕ) (now : ℕ → List ℕ) (n offset : ℕ) (bytes : List ℕ) → offset + length bytes ≤ 4096 → All (λ b. b < 256) bytes → AreWhole pages now → AreWhole pages (with_bytes n offset bytes now)
AreWhole-changed pages now n offset bytes within small whole p less =
    elim (n == p) as (λ b. IsWhole (cond b (splice offset bytes (now p)) (now p))) [
      | true ↦ IsWhole-splice offset bytes (now p) within small (whole p less)
      | false ↦ whole p less
    ]

-- the transaction is the only active one
pub alone_active : (tx : ℕ) (os : List ActiveTransaction) (o : ActiveTransaction) → transaction_with tx os ≡ Some o → others tx os ≡ [] → os ≡ o ∷ []
alone_active tx os o found none =
    let at = transaction_with-split tx os o found in
    at.is ∙ by at.before at.behind (sym at.rest_is ∙ none)
  where
    by : (xs ys : List ActiveTransaction) → xs ++ ys ≡ [] → xs ++ o ∷ ys ≡ o ∷ []
    by [] ys none = ap (λ (l : List ActiveTransaction). o ∷ l) none
    by (x ∷ xs) ys none = absurd cc

-- ---- the transaction of the call
module _ {D : Type 0} (told : D → Option Story) (len faults : D → ℕ) (tx : ℕ) (d e : D) (s t : State) where
  -- it was up, where it answers otherwise than that it is down
  pub was_up : {T : Type 0} (r : Result T StoreFault) → StaysReady told len faults d e s t r → (IsErrOf r Down → ⊥) → s.book.down ≡ false
  was_up r keeps other = by_case s.book.down (λ on. other (keeps.down on).answer)
    where
      by_case : (b : Bool) → (b ≡ true → ⊥) → b ≡ false
      by_case true off = absurd (off refl)
      by_case false off = refl

  module _ (keeps : StaysReady {T = Unit {0}} told len faults d e s t (Ok tt)) (leaves : LeavesWanted (parts told len d s) (parts told len e t)) (only : IsAlone tx s.book)
      (owner page offset : ℕ) (bytes : List ℕ) (within : offset + length bytes ≤ 4096) (less : page < s.pool.geometry.pages) (small : All (λ b. b < 256) bytes)
      (changes : (o : ActiveTransaction) → transaction_with tx s.book.actives ≡ Some o → Changes (parts told len d s) (parts told len e t) o owner page offset bytes) where
    abbrev up : s.book.down ≡ false
    up = was_up {T = Unit {0}} (Ok tt) keeps (no_error tt Down)

    abbrev found : (o : ActiveTransaction) × (transaction_with tx s.book.actives ≡ Some o)
    found = transaction_with-among tx s.book.actives (only up).0

    abbrev made : Changes (parts told len d s) (parts told len e t) found.0 owner page offset bytes
    made = changes found.0 found.1

    abbrev undo : Undo
    undo = undo_in page offset made.image bytes

    actives : t.book.actives ≡ put_in (changed_transaction found.0 undo) s.book.actives
    actives = ap (λ (b : Book). b.actives) made.book

    abbrev undos_in : Option ActiveTransaction → List Undo
    undos_in o = elim o [ None ↦ [] | Some x ↦ x.undos ]

    own : undos_of tx t.book.actives ≡ undos_of tx s.book.actives ++ undo ∷ []
    own = ap (λ (os : List ActiveTransaction). undos_in (transaction_with tx os)) actives ∙ ap undos_in (transaction_with-put tx s.book.actives found.0 found.1 (changed_transaction found.0 undo) refl)
        ∙ ap (λ (o : Option ActiveTransaction). undos_in o ++ undo ∷ []) (sym found.1)

    sized : (now : ℕ → List ℕ) → AreWhole s.pool.geometry.pages now → made.image ≡ now page → length undo.before ≡ length bytes
    sized now whole image =
        let long = (whole page less).long in
        let cut = length-take (length bytes) (drop offset made.image) in
        let rest = length-drop offset made.image in
        let same = ap (λ (x : List ℕ). length x) image in
        omega (arith, cut, rest, same, long, within)

    stands_still : (want now : ℕ → List ℕ) → HoldsPages want now (parts told len d s) → AreWhole s.pool.geometry.pages now → made.image ≡ now page → (p : ℕ) → unwound (undo ∷ []) (with_bytes page offset bytes now) p ≡ now p
    stands_still want now store whole image p =
        let long = (whole page less).long in
        last_is_undone [] undo bytes now (record {
          within = omega (arith, within, long);
          size = sized now whole image;
          was = ap (λ (x : List ℕ). take (length bytes) (drop offset x)) image;
        }) p

    module _ (exact : (want now : ℕ → List ℕ) → Stands want now (parts told len d s) → IsExact s.pool.geometry.pages page offset (length bytes) (now page) (splice offset bytes (now page))) where
      was_exact : (want now : ℕ → List ℕ) → is_some (told d) ≡ true → HoldsPages want now (parts told len d s) → AreWhole s.pool.geometry.pages now → made.image ≡ now page → AreExact s.pool.geometry.pages (undo ∷ []) (with_bytes page offset bytes now)
      was_exact want now tells store whole image =
          let here : with_bytes page offset bytes now page ≡ splice offset bytes (now page) = ap (λ (b : Bool). cond b (splice offset bytes (now page)) (now page)) (eq-eqb page page refl) in (
            subst (λ (size : ℕ). IsExact s.pool.geometry.pages page offset size (unwound (undo ∷ []) (with_bytes page offset bytes now) page) (with_bytes page offset bytes now page)) (sym (sized now whole image))
                (subst (λ (before : List ℕ). IsExact s.pool.geometry.pages page offset (length bytes) before (with_bytes page offset bytes now page)) (sym (stands_still want now store whole image page))
                (subst (λ (after : List ℕ). IsExact s.pool.geometry.pages page offset (length bytes) (now page) after) (sym here) (exact want now (record { tells = tells; store = store; whole = whole })))),
            tt,
          )

      pub Makes-changed : Makes tx 1 (parts told len d s) (parts told len e t)
      Makes-changed = record {
        undos = undo ∷ [];
        few = omega arith;
        own = own;
        others = ap (λ (os : List ActiveTransaction). others tx os) actives ∙ others-put tx s.book.actives found.0 found.1 (changed_transaction found.0 undo) refl;
        pages = λ want now store. record {
          pages = with_bytes page offset bytes now;
          store = made.pages want now store;
          back = told_map (told d) (made.image ≡ now page) (AreWhole s.pool.geometry.pages now → LeadsBack s.pool.geometry.pages (undo ∷ []) now (with_bytes page offset bytes now))
              (λ image whole. LeadsBack-one s.pool.geometry.pages undo now (with_bytes page offset bytes now) whole (AreWhole-changed s.pool.geometry.pages now page offset bytes within small whole) (stands_still want now store whole image))
              (made.was want now store);
          exact = told_both (told d) (made.image ≡ now page) (is_some (told d) ≡ true) (AreWhole s.pool.geometry.pages now → AreExact s.pool.geometry.pages (undo ∷ []) (with_bytes page offset bytes now))
              (λ image tells whole. was_exact want now tells store whole image) (made.was want now store) (told_tells (told d));
        };
        grows = made.grows;
      }

      pub Works-changed : Works told len faults tx 1 d e s t
      Works-changed = record {
        size = keeps.size;
        later = keeps.later;
        geometry = keeps.geometry;
        leaves = leaves;
        down = λ on. absurd (no_error tt Down (keeps.down on).answer);
        fell = λ on. ⊎_elim (λ (was : s.book.down ≡ true). inl was) (λ (x : IsErrOf {T = Unit {0}} (Ok tt) Fault). absurd (no_error tt Fault x)) (keeps.up on);
        makes = λ still. Makes-changed;
      }

    pub Stands-changed : (want now : ℕ → List ℕ) → Stands want now (parts told len d s) → Stands want (with_bytes page offset bytes now) (parts told len e t)
    Stands-changed want now stands = record {
      tells = sym (leaves.each want now stands.store).tells ∙ stands.tells;
      store = made.pages want now stands.store;
      whole = subst (λ (n : ℕ). AreWhole n (with_bytes page offset bytes now)) (ap (λ (g : Geometry). g.pages) (sym keeps.geometry)) (AreWhole-changed s.pool.geometry.pages now page offset bytes within small stands.whole);
    }

  -- ---- it is refused, and nothing has changed
  module _ (f : StoreFault) (keeps : StaysReady {T = Unit {0}} told len faults d e s t (Err f)) (leaves : LeavesWanted (parts told len d s) (parts told len e t)) (only : IsAlone tx s.book) (other : IsErrOf {T = Unit {0}} (Err f) Down → ⊥)
      (refused : (o : ActiveTransaction) → transaction_with tx s.book.actives ≡ Some o → Refused (parts told len d s) (parts told len e t)) where
    abbrev up-2 : s.book.down ≡ false
    up-2 = was_up {T = Unit {0}} (Err f) keeps other

    abbrev found-2 : (o : ActiveTransaction) × (transaction_with tx s.book.actives ≡ Some o)
    found-2 = transaction_with-among tx s.book.actives (only up-2).0

    abbrev still : Refused (parts told len d s) (parts told len e t)
    still = refused found-2.0 found-2.1

    Makes-refused : Makes tx 1 (parts told len d s) (parts told len e t)
    Makes-refused = record {
      undos = [];
      few = omega arith;
      own = ap (λ (b : Book). undos_of tx b.actives) still.book ∙ nothing_more (undos_of tx s.book.actives);
      others = ap (λ (b : Book). others tx b.actives) still.book;
      pages = λ want now store. record {
        pages = now;
        store = still.pages want now store;
        back = told_so (told d) (AreWhole s.pool.geometry.pages now → LeadsBack s.pool.geometry.pages [] now now) (LeadsBack-none s.pool.geometry.pages now);
        exact = told_so (told d) (AreWhole s.pool.geometry.pages now → AreExact s.pool.geometry.pages [] now) (λ whole. tt);
      };
      grows = let g = Grows-rest s t still.journal in record { bytes = let b = g.bytes in omega (arith, b); least = g.least; gates = let b = g.gates in omega (arith, b) };
    }

    pub Works-refused : Works told len faults tx 1 d e s t
    Works-refused = record {
      size = keeps.size;
      later = keeps.later;
      geometry = keeps.geometry;
      leaves = leaves;
      down = λ on. absurd (false≢true (sym up-2 ∙ on));
      fell = λ on. ⊎_elim (λ (was : s.book.down ≡ true). inl was) (λ (x : IsErrOf {T = Unit {0}} (Err f) Fault). inr (keeps.fault x).0) (keeps.up on);
      makes = λ up. Makes-refused;
    }

    pub Stands-refused : (want now : ℕ → List ℕ) → Stands want now (parts told len d s) → Stands want now (parts told len e t)
    Stands-refused want now stands = record {
      tells = sym (leaves.each want now stands.store).tells ∙ stands.tells;
      store = still.pages want now stands.store;
      whole = subst (λ (n : ℕ). AreWhole n now) (ap (λ (g : Geometry). g.pages) (sym keeps.geometry)) stands.whole;
    }

-- ---- the regions of a store that is up
pub regions_of : (p : Parts) → IsReady p → p.store.book.down ≡ false
    → (p.store.journal.log ≡ log_of p.store.pool.geometry) × (p.store.journal.gates ≡ gates_of p.store.pool.geometry)
regions_of p ready up = let found = ready up in by found.0 found.1 found.2
  where
    by : (want now : ℕ → List ℕ) → HoldsPages want now p
        → (p.store.journal.log ≡ log_of p.store.pool.geometry) × (p.store.journal.gates ≡ gates_of p.store.pool.geometry)
    by want now holds = (holds.2.serves.log, holds.2.serves.gates)

-- ---- a refusal, whatever it is
module _ {D : Type 0} (told : D → Option Story) (len faults : D → ℕ) (tx : ℕ) (d e : D) (s t : State) (leaves : LeavesWanted (parts told len d s) (parts told len e t)) (only : IsAlone tx s.book) (page count : ℕ) (few : count ≤ 4096) where
  pub Works-err : (f : StoreFault) → StaysReady {T = Unit {0}} told len faults d e s t (Err f) → ((o : ActiveTransaction) → transaction_with tx s.book.actives ≡ Some o → ChangeErr (parts told len d s) (parts told len e t) o page count f) → Works told len faults tx 1 d e s t
  Works-err Fault keeps err = Works-failed {T = Unit {0}} told len faults tx d e s t Fault keeps leaves 1 tt
  Works-err Down keeps err = Works-failed {T = Unit {0}} told len faults tx d e s t Down keeps leaves 1 tt
  Works-err (LogFull used need total) keeps err = Works-refused told len faults tx d e s t (LogFull used need total) keeps leaves only (λ x. cc) (λ o is. (err o is).4)
  Works-err (GatesFull used total) keeps err = Works-refused told len faults tx d e s t (GatesFull used total) keeps leaves only (λ x. cc) (λ o is. (err o is).4)
  Works-err NoMemory keeps err = Works-refused told len faults tx d e s t NoMemory keeps leaves only (λ x. cc) (λ o is. err o is)

  pub Stands-err : (f : StoreFault) → StaysReady {T = Unit {0}} told len faults d e s t (Err f) → ((o : ActiveTransaction) → transaction_with tx s.book.actives ≡ Some o → ChangeErr (parts told len d s) (parts told len e t) o page count f)
      → UnlessDown {T = Unit {0}} (Err (fault_of f)) ((want now : ℕ → List ℕ) → Stands want now (parts told len d s) → Stands want now (parts told len e t))
  Stands-err Fault keeps err = tt
  Stands-err Down keeps err = tt
  Stands-err (LogFull used need total) keeps err = Stands-refused told len faults tx d e s t (LogFull used need total) keeps leaves only (λ x. cc) (λ o is. (err o is).4)
  Stands-err (GatesFull used total) keeps err = Stands-refused told len faults tx d e s t (GatesFull used total) keeps leaves only (λ x. cc) (λ o is. (err o is).4)
  Stands-err NoMemory keeps err = Stands-refused told len faults tx d e s t NoMemory keeps leaves only (λ x. cc) (λ o is. err o is)

  pub up-err : (f : StoreFault) → StaysReady {T = Unit {0}} told len faults d e s t (Err f) → UnlessDown {T = Unit {0}} (Err (fault_of f)) (t.book.down ≡ true → s.book.down ≡ true)
  up-err Fault keeps = tt
  up-err Down keeps = tt
  up-err (LogFull used need total) keeps = λ on. ⊎_elim (λ (was : s.book.down ≡ true). was) (λ (x : IsErrOf {T = Unit {0}} (Err (LogFull used need total)) Fault). absurd cc) (keeps.up on)
  up-err (GatesFull used total) keeps = λ on. ⊎_elim (λ (was : s.book.down ≡ true). was) (λ (x : IsErrOf {T = Unit {0}} (Err (GatesFull used total)) Fault). absurd cc) (keeps.up on)
  up-err NoMemory keeps = λ on. ⊎_elim (λ (was : s.book.down ≡ true). was) (λ (x : IsErrOf {T = Unit {0}} (Err NoMemory) Fault). absurd cc) (keeps.up on)

  -- a refusal that is no fault leaves it up
  still_up : {f : StoreFault} → s.book.down ≡ false → (t.book.down ≡ true → (s.book.down ≡ true) ⊎ IsErrOf {T = Unit {0}} (Err f) Fault)
      → (IsErrOf {T = Unit {0}} (Err f) Fault → ⊥) → t.book.down ≡ false
  still_up was_up fell other =
      elim t.book.down as (λ b. t.book.down ≡ b → t.book.down ≡ false) [
        | true ↦ λ on. absurd (⊎_elim (λ (was : s.book.down ≡ true). false≢true (sym was_up ∙ was)) other (fell on))
        | false ↦ λ off. off
      ] refl

  pub Fails-err : (f : StoreFault) → StaysReady {T = Unit {0}} told len faults d e s t (Err f) → ((o : ActiveTransaction) → transaction_with tx s.book.actives ≡ Some o → ChangeErr (parts told len d s) (parts told len e t) o page count f) → Fails faults (fault_of f) d e s t
  Fails-err Fault keeps err = keeps.fault refl
  Fails-err Down keeps err = let on = keeps.only refl in (keeps.later, inl on, ap (λ (x : State). x.book.down) (keeps.down on).store ∙ on)
  Fails-err NoMemory keeps err = tt
  Fails-err (LogFull used need total) keeps err =
      let up = was_up told len faults tx d e s t {T = Unit {0}} (Err (LogFull used need total)) keeps (λ x. cc) in
      let found = transaction_with-among tx s.book.actives (only up).0 in
      let is = err found.0 found.1 in
      let same = SameRoom-forced s.journal t.journal is.4.journal in
      let one = ap (λ (os : List ActiveTransaction). length os) (alone_active tx s.book.actives found.0 found.1 (only up).1) in
      let most = change_len-most (wants_of s.book found.0 page) count few in
      let sizes = ap (λ (r : Range). r.len) same.log_is in
      let regions = regions_of (parts told len e t) keeps.ready (still_up up keeps.up (λ x. cc)) in
      (is.0 ∙ sym same.used, omega (arith, is.1, one, most), is.2 ∙ sym sizes ∙ ap (λ (r : Range). r.len) regions.0, is.3)
  Fails-err (GatesFull used total) keeps err =
      let up = was_up told len faults tx d e s t {T = Unit {0}} (Err (GatesFull used total)) keeps (λ x. cc) in
      let found = transaction_with-among tx s.book.actives (only up).0 in
      let is = err found.0 found.1 in
      let same = SameRoom-forced s.journal t.journal is.4.journal in
      let one = ap (λ (os : List ActiveTransaction). length os) (alone_active tx s.book.actives found.0 found.1 (only up).1) in
      let sizes = ap (λ (r : Range). r.len) same.gates_is in
      let regions = regions_of (parts told len e t) keeps.ready (still_up up keeps.up (λ x. cc)) in
      (is.1, is.2 ∙ sym sizes ∙ ap (λ (r : Range). r.len) regions.1, omega (arith, is.3, one))

-- ---- and the store serves on
pub Serves-changed : {D : Type 0} (told : D → Option Story) (len faults : D → ℕ) (tx : ℕ) (d e : D) (s t : State) (r : Result (Unit {0}) StoreFault) (owner page offset : ℕ) (bytes : List ℕ) → StaysReady told len faults d e s t r
    → OnOk r ((o : ActiveTransaction) → transaction_with tx s.book.actives ≡ Some o → Changes (parts told len d s) (parts told len e t) o owner page offset bytes)
    → IfErr r (λ f. (o : ActiveTransaction) → transaction_with tx s.book.actives ≡ Some o → ChangeErr (parts told len d s) (parts told len e t) o page (length bytes) f)
    → Serves tx (parts told len d s) → Serves tx (parts told len e t)
Serves-changed told len faults tx d e s t r owner page offset bytes keeps changes refused serves = record {
  ready = keeps.ready;
  alone = λ up. IsOnly-change told len faults d e s t tx serves.alone up r owner page offset bytes keeps changes refused;
  few = subst (λ (g : Geometry). g.pages ≤ 65536) (sym keeps.geometry) serves.few;
}
