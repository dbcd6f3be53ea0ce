-- Pages that are asked for their owners, one after the other.
use Rattle.std.proofs.Common.{◌≡◌, ◌⊎◌, ⊎_elim, inl, inr, ℕ, ◌+◌, ◌<◌, ◌≤◌, nat_lt, ◌||◌, Bool, true, false, cond, Option, Result, Ok, Err, IfErr, OnOk, List, [], ◌∷◌, ◌++◌, length, take, set, get_or, append-nil, refl, sym, ap, subst, ◌∙◌, arith, get_or-set_same, get_or-set_other}
use Rattle.std.specs.Result.{IsErrAnd}
use Rattle.std.proofs.lemmas.Bool.{cases_eq, cases_lt, false≢true, le-ltb, lt-ltb, ltb-true}
use Rattle.std.proofs.lemmas.List.{take_more}
use Rattle.sb_disk.specs.Disk.{Story}
use Rattle.sb_log.specs.declared.geometry.Geometry.{Geometry}
use Rattle.sb_drive.specs.declared.space.SpaceFault.{SpaceFault}
use Rattle.sb_drive.specs.declared.space.SpaceFault.TheVariants.{Fault, DataFull, TempFull, LogFull, GatesFull, Damaged, Down, NoMemory}
use Rattle.sb_drive.specs.Slots.{Slots, bytes_for, nobodys, owned}
use Rattle.sb_drive.specs.Spaces.{IsReadFault, Wanted}
use Rattle.sb_registry.specs.Runs.{IsSound}
use Rattle.sb_standing.specs.Standing.{AreKnown, IsAmong}
use Rattle.sb_standing.proofs.OwnersLemmas.{among_back, among_front}
use Rattle.sb_txn.specs.Clauses.{IsReady}
use Rattle.sb_txn.specs.Parts.{Parts, parts}
use Rattle.sb_txn.specs.State.{State}
use Rattle.sb_space.specs.Composing.{Works-none, Works-then}
use Rattle.sb_space.specs.Instances.{unmarked}
use Rattle.sb_space.specs.Opening.{Looks}
use Rattle.sb_space.specs.SpaceLaws.{Fails-on}
use Rattle.sb_space.specs.Table.{AreWhole, IsTable, owner_at, shown, slots_in}
use Rattle.sb_space.specs.Works.{Fails, HasPages, MeansDown, Works}
use Rattle.sb_space.proofs.Looking.{bytes_for-other, bytes_for-own, not_eq, owner-now, shown-high, slot-owner}
use Rattle.sb_space.proofs.Lookups.{Fails-looked, Serves-looked, Works-looked}
use Rattle.sb_space.proofs.Marking.{get_or-unmarked, owner-beyond}
use Rattle.sb_opening.specs.Looking.{fault_of}
use Rattle.sb_opening.specs.Owners.{AreMarks, HasNoStray, IsFirstStray, IsKnown, IsStrayAt, KeepsPages, LooksWithin, OnlyLooks, OverMarked, TellsStray, is_known}

-- ---- owners that are marked
among_either : (x : ℕ) (xs ys : List ℕ) → IsAmong x (xs ++ ys) → IsAmong x xs ⊎ IsAmong x ys
among_either x [] ys is = inr is
among_either x (y ∷ xs) ys (inl same) = inl (inl same)
among_either x (y ∷ xs) ys (inr later) = ⊎_elim (λ (front : IsAmong x xs). inl (inr front)) (λ (back : IsAmong x ys). inr back) (among_either x xs ys later)

pub AreMarks-none : (marks : List Bool) (n : ℕ) → marks ≡ unmarked n → AreMarks [] marks
AreMarks-none marks n none = record {
  set = λ o is. absurd (false≢true (sym (ap (λ (ms : List Bool). get_or ms o false) none ∙ get_or-unmarked n o) ∙ is));
  all = λ o is. absurd is;
}

marked_too : (marks : List Bool) (x o : ℕ) → x < length marks → get_or marks o false ≡ true → get_or (set marks x true) o false ≡ true
marked_too marks x o less is = ⊎_elim
    (λ (same : o ≡ x). ap (λ (k : ℕ). get_or (set marks x true) k false) same ∙ get_or-set_same marks x true false less)
    (λ (other : o ≡ x → ⊥). get_or-set_other marks x o true false other ∙ is)
    (cases_eq o x)

with_mark : (xs : List ℕ) (x : ℕ) (marks : List Bool) → x < length marks → AreMarks xs marks → AreMarks (xs ++ x ∷ []) (set marks x true)
with_mark xs x marks less are = record {
  set = λ o is. ⊎_elim
      (λ (same : o ≡ x). among_back o xs (x ∷ []) (inl same))
      (λ (other : o ≡ x → ⊥). among_front o xs (x ∷ []) (are.set o (sym (get_or-set_other marks x o true false other) ∙ is)))
      (cases_eq o x);
  all = λ o is. ⊎_elim
      (λ (front : IsAmong o xs). marked_too marks x o less (are.all o front))
      (λ (last : IsAmong o (x ∷ [])). ⊎_elim
      (λ (same : o ≡ x). ap (λ (k : ℕ). get_or (set marks x true) k false) same ∙ get_or-set_same marks x true false less)
      (λ (none : ⊥). absurd none)
      last)
      (among_either o xs (x ∷ []) is);
}

pub AreMarks-more : (owners : List ℕ) (i : ℕ) (marks : List Bool) → i < length owners → get_or owners i 0 < length marks → AreMarks (take i owners) marks
    → AreMarks (take (i + 1) owners) (set marks (get_or owners i 0) true)
AreMarks-more owners i marks within less are =
    subst (λ (xs : List ℕ). AreMarks xs (set marks (get_or owners i 0) true)) (sym (take_more owners i 0 within)) (with_mark (take i owners) (get_or owners i 0) marks less are)

-- ---- an owner is known by its mark
or_cases : (a b : Bool) → (a || b) ≡ true → (a ≡ true) ⊎ (b ≡ true)
or_cases true b is = inl refl
or_cases false b is = inr is

or_second : (a b : Bool) → b ≡ true → (a || b) ≡ true
or_second true b is = refl
or_second false b is = is

IsKnown-marked : (owners : List ℕ) (marks : List Bool) (o : ℕ) → AreMarks owners marks → is_known marks o ≡ true → IsKnown owners o
IsKnown-marked owners marks o are is = ⊎_elim
    (λ (low : nat_lt o 3 ≡ true). inl (ltb-true o 3 low))
    (λ (marked : get_or marks o false ≡ true). inr (are.set o marked))
    (or_cases (nat_lt o 3) (get_or marks o false) is)

not-known : (owners : List ℕ) (marks : List Bool) (o : ℕ) → AreMarks owners marks → is_known marks o ≡ false → IsKnown owners o → ⊥
not-known owners marks o are is (inl low) = false≢true (sym is ∙ ap (λ (b : Bool). b || get_or marks o false) (lt-ltb o 3 low))
not-known owners marks o are is (inr among) = false≢true (sym is ∙ or_second (nat_lt o 3) (get_or marks o false) (are.all o among))

-- the owner that a page was found to have
module _ (owners : List ℕ) (marks : List Bool) (s : Slots) (p : Parts) (n o : ℕ) (are : AreMarks owners marks) where
  found : (want : Wanted) (has : HasPages want s p) → n < p.store.pool.geometry.pages → o ≡ owner_at has.now n → o ≡ (s n).0
  found want has less is = is ∙ sym (owner-now want s p has n less)

  pub IsKnown-found : (want : Wanted) (has : HasPages want s p) → n < p.store.pool.geometry.pages → o ≡ owner_at has.now n → is_known marks o ≡ true → IsKnown owners (s n).0
  IsKnown-found want has less is known = subst (IsKnown owners) (found want has less is) (IsKnown-marked owners marks o are known)

  pub stray-found : (want : Wanted) (has : HasPages want s p) → n < p.store.pool.geometry.pages → o ≡ owner_at has.now n → is_known marks o ≡ false → IsKnown owners (s n).0 → ⊥
  stray-found want has less is other known = not-known owners marks o are other (subst (IsKnown owners) (sym (found want has less is)) known)

-- ---- pages with such owners
pub HasNoStray-all : (want : Wanted) (s : Slots) (p : Parts) → HasPages want s p → (owners : List ℕ) → ((m : ℕ) → m < p.store.pool.geometry.pages → IsKnown owners (s m).0) → HasNoStray s owners
HasNoStray-all want s p has owners below n = ⊎_elim
    (λ (within : n < p.store.pool.geometry.pages). below n within)
    (λ (beyond : p.store.pool.geometry.pages ≤ n). let none = owner-beyond want s p has n beyond in inl (omega (arith, none)))
    (cases_lt n p.store.pool.geometry.pages)

-- no other owner has a page then
pub AreKnown-all : (s : Slots) (owners : List ℕ) → HasNoStray s owners → AreKnown s owners
AreKnown-all s owners known o high out n = ⊎_elim
    (λ (same : (s n).0 ≡ o). ⊎_elim
    (λ (low : (s n).0 < 3). absurd (omega (arith, low, same, high)))
    (λ (among : IsAmong (s n).0 owners). absurd (out (subst (λ (x : ℕ). IsAmong x owners) same among)))
    (known n))
    (λ (other : (s n).0 ≡ o → ⊥). bytes_for-other o (s n) (not_eq (s n).0 o other))
    (cases_eq (s n).0 o)

-- a page that the store has is its owner's, with all of its bytes
owned-in : (pages : ℕ) (now : ℕ → List ℕ) (n o : ℕ) → n < pages → 1 < o → owner_at now n ≡ o → owned (slots_in pages now) o n ≡ now n
owned-in pages now n o less high is =
    ap (λ (b : Bool). bytes_for o (cond b (shown (owner_at now n) (now n)) nobodys)) (lt-ltb n pages less)
    ∙ ap (λ (x : ℕ). bytes_for o (shown x (now n))) is
    ∙ ap (bytes_for o) (shown-high o (now n) high)
    ∙ bytes_for-own o (now n) high

-- so of owners that are known no entry is stray
module _ (pages : ℕ) (now : ℕ → List ℕ) (owners : List ℕ) (page : ℕ) (whole : AreWhole pages now) (known : AreKnown (slots_in pages now) (owners ++ [])) (first : IsFirstStray (slots_in pages now) owners page) where
  abbrev owner : ℕ
  owner = (slots_in pages now first.n).0

  beyond_none : pages ≤ first.n → ⊥
  beyond_none beyond =
      let none : owner ≡ 0 = ap (λ (b : Bool). (cond b (shown (owner_at now first.n) (now first.n)) nobodys).0) (le-ltb first.n pages beyond) in
      first.stray (inl (omega (arith, none)))

  within_none : first.n < pages → 3 ≤ owner → ⊥
  within_none within high =
      let none : owned (slots_in pages now) owner first.n ≡ [] =
      known owner (omega (arith, high)) (λ among. first.stray (inr (subst (λ (os : List ℕ). IsAmong owner os) (append-nil owners) among))) first.n in
      let bytes : owned (slots_in pages now) owner first.n ≡ now first.n = owned-in pages now first.n owner within (omega (arith, high)) (sym (slot-owner pages now first.n within)) in
      let long = (whole first.n within).long in
      let short : length (now first.n) ≡ 0 = ap (λ (xs : List ℕ). length xs) (sym bytes ∙ none) in
      omega (arith, long, short)

  pub none-stray : ⊥
  none-stray = ⊎_elim
      (λ (within : first.n < pages). ⊎_elim (λ (low : owner < 3). first.stray (inl low)) (λ (high : 3 ≤ owner). within_none within high) (cases_lt owner 3))
      (λ (beyond : pages ≤ first.n). beyond_none beyond)
      (cases_lt first.n pages)

-- ---- what a refusal tells
pub TellsStray-sound : (s : Slots) (owners : List ℕ) (e : SpaceFault) → IsSound e → TellsStray s owners (fault_of e)
TellsStray-sound s owners Fault sound = tt
TellsStray-sound s owners Down sound = tt
TellsStray-sound s owners (DataFull used total) sound = tt
TellsStray-sound s owners (TempFull used total) sound = tt
TellsStray-sound s owners (LogFull used need total) sound = tt
TellsStray-sound s owners (GatesFull used total) sound = tt
TellsStray-sound s owners (Damaged page) sound = absurd sound
TellsStray-sound s owners NoMemory sound = tt

-- a call that fails names no page
IsSound-down : (e : SpaceFault) → MeansDown e → IsSound e
IsSound-down Fault means = tt
IsSound-down Down means = tt
IsSound-down (DataFull used total) means = tt
IsSound-down (TempFull used total) means = tt
IsSound-down (LogFull used need total) means = tt
IsSound-down (GatesFull used total) means = tt
IsSound-down (Damaged page) means = absurd means
IsSound-down NoMemory means = tt

pub TellsStray-down : (s : Slots) (owners : List ℕ) (e : SpaceFault) → MeansDown e → TellsStray s owners (fault_of e)
TellsStray-down s owners e means = TellsStray-sound s owners e (IsSound-down e means)

IsStrayAt-sound : (owners : List ℕ) (s : Slots) (n : ℕ) (e : SpaceFault) → IsSound e → IsStrayAt owners s n e
IsStrayAt-sound owners s n Fault sound = tt
IsStrayAt-sound owners s n Down sound = tt
IsStrayAt-sound owners s n (DataFull used total) sound = tt
IsStrayAt-sound owners s n (TempFull used total) sound = tt
IsStrayAt-sound owners s n (LogFull used need total) sound = tt
IsStrayAt-sound owners s n (GatesFull used total) sound = tt
IsStrayAt-sound owners s n (Damaged page) sound = absurd sound
IsStrayAt-sound owners s n NoMemory sound = tt

pub IsStrayAt-down : (owners : List ℕ) (s : Slots) (n : ℕ) (e : SpaceFault) → MeansDown e → IsStrayAt owners s n e
IsStrayAt-down owners s n e means = IsStrayAt-sound owners s n e (IsSound-down e means)

-- the first page that isn't so, behind others that are
pub TellsStray-first : (s : Slots) (owners : List ℕ) (n : ℕ) (e : SpaceFault) → ((m : ℕ) → m < n → IsKnown owners (s m).0) → IsStrayAt owners s n e → TellsStray s owners (fault_of e)
TellsStray-first s owners n Fault before at = tt
TellsStray-first s owners n Down before at = tt
TellsStray-first s owners n (DataFull used total) before at = tt
TellsStray-first s owners n (TempFull used total) before at = tt
TellsStray-first s owners n (LogFull used need total) before at = tt
TellsStray-first s owners n (GatesFull used total) before at = tt
TellsStray-first s owners n (Damaged page) before at = record { n = n; entry = at.0; stray = at.1; before = before }
TellsStray-first s owners n NoMemory before at = tt

-- ---- of the owners that were marked
module _ (marks : List Bool) (owners : List ℕ) (p : Parts) (are : AreMarks owners marks) where
  pub known-marked : {T : Type 0} (r : Result T SpaceFault) → OnOk r (OverMarked marks p (λ os s. HasNoStray s os)) → OnOk r ((want : Wanted) (s : Slots) → HasPages want s p → HasNoStray s owners)
  known-marked (Ok x) known = λ want s has. known owners want s are has
  known-marked (Err e) known = tt

  pub stray-marked : {T : Type 0} (r : Result T SpaceFault) → IfErr r (λ e. OverMarked marks p (λ os s. TellsStray s os (fault_of e)))
      → IfErr r (λ e. (want : Wanted) (s : Slots) → HasPages want s p → TellsStray s owners (fault_of e))
  stray-marked (Ok x) stray = tt
  stray-marked (Err e) stray = λ want s has. stray owners want s are has

-- ---- what a look leaves
pub means_reads : (e : SpaceFault) → MeansDown e → IsReadFault e
means_reads Fault means = tt
means_reads Down means = tt
means_reads (DataFull used total) means = absurd means
means_reads (TempFull used total) means = absurd means
means_reads (LogFull used need total) means = absurd means
means_reads (GatesFull used total) means = absurd means
means_reads (Damaged page) means = absurd means
means_reads NoMemory means = absurd means

pages_then : {T : Type 0} (r : Result T SpaceFault) (p q o : Parts) → KeepsPages p q → OnOk r (KeepsPages q o) → OnOk r (KeepsPages p o)
pages_then (Ok x) p q o one two = λ want s has. two want s (one want s has)
pages_then (Err e) p q o one two = tt

module _ {D : Type 0} (told : D → Option Story) (len faults : D → ℕ) where
  fails_then : {T : Type 0} (r : Result T SpaceFault) (tx : ℕ) (d e f : D) (s t u : State) → Works told len faults tx 0 d e s t → IfErr r (λ x. MeansDown x → Fails faults x e f t u)
      → IfErr r (λ x. MeansDown x → Fails faults x d f s u)
  fails_then (Ok x) tx d e f s t u works fails = tt
  fails_then (Err x) tx d e f s t u works fails = λ means. Fails-on told len faults tx 0 d f s u x e t works (fails means)

  -- ---- nothing was asked yet
  pub OnlyLooks-none : {T : Type 0} (x : T) (d : D) (s : State) → IsReady (parts told len d s) → OnlyLooks told len faults d d s s (Ok x)
  OnlyLooks-none x d s ready = record {
    ready = ready;
    serves = λ tx serves. serves;
    works = λ tx. Works-none told len faults tx d s;
    same = λ want slots has. has;
    reads = tt;
    fails = tt;
  }

  pub OnlyLooks-wanting : {T : Type 0} (d : D) (s : State) (r : Result T SpaceFault) → IsErrAnd r (λ x. x ≡ NoMemory) → IsReady (parts told len d s) → OnlyLooks told len faults d d s s r
  OnlyLooks-wanting d s (Ok x) is ready = absurd is
  OnlyLooks-wanting {T = T} d s (Err x) is ready =
      subst (λ (y : SpaceFault). OnlyLooks {T = T} told len faults d d s s (Err y)) (sym is)
      (record {
        ready = ready;
        serves = λ tx serves. serves;
        works = λ tx. Works-none told len faults tx d s;
        same = tt;
        reads = tt;
        fails = λ means. absurd means;
      })

  -- ---- a look behind one that was answered
  pub OnlyLooks-then : {T U : Type 0} (d e f : D) (s t u : State) (x : T) (r : Result U SpaceFault) → OnlyLooks told len faults d e s t (Ok x) → OnlyLooks told len faults e f t u r → OnlyLooks told len faults d f s u r
  OnlyLooks-then d e f s t u x r one two = record {
    ready = two.ready;
    serves = λ tx serves. two.serves tx (one.serves tx serves);
    works = λ tx. Works-then told len faults tx 0 0 d e f s t u (one.works tx) (two.works tx);
    same = pages_then r (parts told len d s) (parts told len e t) (parts told len f u) one.same two.same;
    reads = two.reads;
    fails = fails_then r 0 d e f s t u (one.works 0) two.fails;
  }

  pub LooksWithin-then : {T U : Type 0} (tx : ℕ) (d e f : D) (s t u : State) (x : T) (r : Result U SpaceFault) → LooksWithin told len faults tx d e s t (Ok x) → OnlyLooks told len faults e f t u r → LooksWithin told len faults tx d f s u r
  LooksWithin-then tx d e f s t u x r one two = record {
    ready = two.serves tx one.ready;
    works = Works-then told len faults tx 0 0 d e f s t u one.works (two.works tx);
    same = pages_then r (parts told len d s) (parts told len e t) (parts told len f u) one.same two.same;
    reads = two.reads;
    fails = fails_then r tx d e f s t u one.works two.fails;
  }

  -- ---- the same with another answer
  pub LooksWithin-ok : {T U : Type 0} (tx : ℕ) (d e : D) (s t : State) (x : T) (y : U) → LooksWithin told len faults tx d e s t (Ok x) → LooksWithin told len faults tx d e s t (Ok y)
  LooksWithin-ok tx d e s t x y looks = record { ready = looks.ready; works = looks.works; same = looks.same; reads = tt; fails = tt }

  pub LooksWithin-passed : {T U : Type 0} (tx : ℕ) (d e : D) (s t : State) (x : SpaceFault) (r : Result U SpaceFault) → IsErrAnd r (λ y. y ≡ x) → LooksWithin {T = T} told len faults tx d e s t (Err x) → LooksWithin told len faults tx d e s t r
  LooksWithin-passed tx d e s t x (Ok y) is looks = absurd is
  LooksWithin-passed {U = U} tx d e s t x (Err y) is looks =
      subst (λ (z : SpaceFault). LooksWithin {T = U} told len faults tx d e s t (Err z)) (sym is)
      (record { ready = looks.ready; works = looks.works; same = tt; reads = looks.reads; fails = looks.fails })

  pub OnlyLooks-passed : {T U : Type 0} (d e : D) (s t : State) (x : SpaceFault) (r : Result U SpaceFault) → IsErrAnd r (λ y. y ≡ x) → OnlyLooks {T = T} told len faults d e s t (Err x) → OnlyLooks told len faults d e s t r
  OnlyLooks-passed d e s t x (Ok y) is looks = absurd is
  OnlyLooks-passed {U = U} d e s t x (Err y) is looks =
      subst (λ (z : SpaceFault). OnlyLooks {T = U} told len faults d e s t (Err z)) (sym is)
      (record { ready = looks.ready; serves = looks.serves; works = looks.works; same = tt; reads = looks.reads; fails = looks.fails })

  -- ---- a page was asked for its owner
  module _ (d e : D) (s t : State) where
    pages_asked : (x : ℕ) → Looks told len faults d e s t (Ok x) → KeepsPages (parts told len d s) (parts told len e t)
    pages_asked x looks want slots has =
        let sizes : t.pool.geometry.pages ≡ s.pool.geometry.pages = ap (λ (g : Geometry). g.pages) looks.geometry in
        record {
          now = has.now;
          stands = record {
            tells = sym (looks.leaves.each want has.now has.stands.store).tells ∙ has.stands.tells;
            store = looks.loads.pages want has.now has.stands.store;
            whole = subst (λ (n : ℕ). AreWhole n has.now) (sym sizes) has.stands.whole;
          };
          table = subst (λ (n : ℕ). IsTable n has.now) (sym sizes) has.table;
          slots = has.slots ∙ ap (λ (n : ℕ). slots_in n has.now) (sym sizes);
        }

    pub OnlyLooks-asked : {U : Type 0} (x : ℕ) (y : U) → Looks told len faults d e s t (Ok x) → OnlyLooks told len faults d e s t (Ok y)
    OnlyLooks-asked x y looks = record {
      ready = looks.ready;
      serves = λ tx serves. Serves-looked told len faults tx d e s t (Ok x) tt looks serves;
      works = λ tx. Works-looked told len faults tx d e s t (Ok x) tt looks;
      same = pages_asked x looks;
      reads = tt;
      fails = tt;
    }

    pub OnlyLooks-stray : {U : Type 0} (x page : ℕ) → Looks told len faults d e s t (Ok x) → OnlyLooks {T = U} told len faults d e s t (Err (Damaged page))
    OnlyLooks-stray x page looks = record {
      ready = looks.ready;
      serves = λ tx serves. Serves-looked told len faults tx d e s t (Ok x) tt looks serves;
      works = λ tx. Works-looked told len faults tx d e s t (Ok x) tt looks;
      same = tt;
      reads = tt;
      fails = λ means. absurd means;
    }

    pub OnlyLooks-failed : {U : Type 0} (x : SpaceFault) (r : Result U SpaceFault) → IsErrAnd r (λ y. y ≡ x) → MeansDown x → Looks {T = ℕ} told len faults d e s t (Err x) → OnlyLooks told len faults d e s t r
    OnlyLooks-failed {U} x r is means looks =
        OnlyLooks-passed {T = ℕ} {U = U} d e s t x r is
        (record {
          ready = looks.ready;
          serves = λ tx serves. Serves-looked {T = ℕ} told len faults tx d e s t (Err x) means looks serves;
          works = λ tx. Works-looked {T = ℕ} told len faults tx d e s t (Err x) means looks;
          same = tt;
          reads = means_reads x means;
          fails = λ still. Fails-looked {T = ℕ} told len faults 0 d e s t (Err x) means looks;
        })
