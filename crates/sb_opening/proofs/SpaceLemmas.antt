-- A look in a transaction that is begun and aborted.
use Rattle.std.proofs.Common.{◌≡◌, ⊎_elim, ℕ, ◌≤◌, Bool, true, false, Option, Result, Ok, Err, IfErr, IfOk, OnOk, IsErrOf, List, [], refl, sym, subst, ◌∙◌, arith}
use Rattle.std.proofs.lemmas.Bool.{false≢true}
use Rattle.sb_disk.specs.Causes.{Rose}
use Rattle.sb_disk.specs.Disk.{Story}
use Rattle.sb_disk.specs.Moments.{LeavesOnly}
use Rattle.sb_disk.proofs.CauseLemmas.{Rose-before, Rose-later}
use Rattle.sb_disk.proofs.MomentLemmas.{and_then}
use Rattle.sb_images.specs.Images.{Restores}
use Rattle.sb_log.specs.declared.geometry.Geometry.{Geometry}
use Rattle.sb_drive.specs.Slots.{Slots}
use Rattle.sb_drive.specs.Spaces.{IsReadFault, Wanted}
use Rattle.sb_drive.specs.declared.space.SpaceFault.{SpaceFault}
use Rattle.sb_drive.specs.declared.space.SpaceFault.TheVariants.{Fault, DataFull, TempFull, LogFull, GatesFull, Damaged, Down, NoMemory}
use Rattle.sb_standing.specs.Standing.{owners_in}
use Rattle.sb_standing.specs.Tables
use Rattle.sb_txn.specs.Clauses.{Begins, LeavesWanted}
use Rattle.sb_txn.specs.Parts.{Parts, parts}
use Rattle.sb_txn.specs.State.{State}
use Rattle.sb_txn.proofs.KeepsLemmas.{LeavesWanted-then}
use Rattle.sb_space.specs.Table.{slots_in}
use Rattle.sb_space.specs.Transactions.{AreFormed, KeepsSpace}
use Rattle.sb_space.specs.Works.{Fails, HasPages, MeansDown, StaysWanted, Works}
use Rattle.sb_opening.specs.Looking.{IsLook, IsLookErr, OverCatalogue, RestsStill, fault_of, found_at_end}
use Rattle.sb_opening.specs.Owners.{TellsStray}
use Rattle.sb_opening.proofs.OwnerLemmas.{TellsStray-down, means_reads}
use Rattle.sb_value.proofs.Truths.{ok_err}

-- ---- refusals
is_look_err : (before now : ℕ) (e : SpaceFault) → IsReadFault e → (MeansDown e → Rose before now) → IsLookErr before now (fault_of e)
is_look_err before now Fault reads rose = rose tt
is_look_err before now Down reads rose = rose tt
is_look_err before now (DataFull used total) reads rose = absurd reads
is_look_err before now (TempFull used total) reads rose = absurd reads
is_look_err before now (LogFull used need total) reads rose = absurd reads
is_look_err before now (GatesFull used total) reads rose = absurd reads
is_look_err before now (Damaged page) reads rose = tt
is_look_err before now NoMemory reads rose = tt

not_both : {A : Type 0} (b : Bool) → b ≡ false → b ≡ true → A
not_both b off on = absurd (false≢true (sym off ∙ on))

-- the disk failed a call of a store that was up
fell : {D : Type 0} (faults : D → ℕ) (d e : D) (s t : State) (x : SpaceFault) → MeansDown x → s.book.down ≡ false → Fails faults x d e s t → Rose (faults d) (faults e)
fell faults d e s t Fault means up fails = fails.0
fell faults d e s t Down means up fails = ⊎_elim (λ (was : s.book.down ≡ true). not_both s.book.down up was) (λ (rose : Rose (faults d) (faults e)). rose) fails.1
fell faults d e s t (DataFull used total) means up fails = absurd means
fell faults d e s t (TempFull used total) means up fails = absurd means
fell faults d e s t (LogFull used need total) means up fails = absurd means
fell faults d e s t (GatesFull used total) means up fails = absurd means
fell faults d e s t (Damaged page) means up fails = absurd means
fell faults d e s t NoMemory means up fails = absurd means

module _ {D : Type 0} (told : D → Option Story) (len faults : D → ℕ) where
  -- a call that was answered leaves a store up that was up
  up_still : {T : Type 0} (d e : D) (s t : State) (x : T) → KeepsSpace told len faults d e s t (Ok x) → s.book.down ≡ false → t.book.down ≡ false
  up_still d e s t x kept up = by t.book.down refl
    where
      by : (b : Bool) → t.book.down ≡ b → t.book.down ≡ false
      by false off = off
      by true on = ⊎_elim (λ (was : s.book.down ≡ true). not_both s.book.down up was) (λ (is : IsErrOf (Ok x) Fault). ok_err x Fault is) (kept.up on)

  -- ---- the begin is refused
  module _ (d e : D) (s t : State) (x : SpaceFault) (means : MeansDown x) {T : Type 0} (kept : KeepsSpace {T = T} told len faults d e s t (Err x)) where
    pub IsLook-begin : LeavesWanted (parts told len d s) (parts told len e t) → IsLook told len faults d e s t
    IsLook-begin leaves = record { size = kept.size; later = kept.later; geometry = kept.geometry; leaves = leaves }

    pub IsLookErr-begin : s.book.down ≡ false → IsLookErr (faults d) (faults e) (fault_of x)
    IsLookErr-begin up = is_look_err (faults d) (faults e) x (means_reads x means) (λ is. fell faults d e s t x means up kept.fails)

  -- ---- it is begun, and ended
  module _ (d e f h : D) (s t u v : State) (tx : ℕ) (begins : Begins (parts told len d s) (parts told len e t) tx) (begun : LeavesWanted (parts told len d s) (parts told len e t))
      {X : Type 0} (x : X) (first : KeepsSpace told len faults d e s t (Ok x)) (works : Works told len faults tx 0 e f t u) (r : Result (Unit {0}) SpaceFault) (last : KeepsSpace told len faults f h u v r)
      (ended : LeavesWanted (parts told len f u) (parts told len h v)) where
    -- behind the begin
    behind : LeavesWanted (parts told len e t) (parts told len h v)
    behind = by u.book.down refl
      where
        by : (b : Bool) → u.book.down ≡ b → LeavesWanted (parts told len e t) (parts told len h v)
        by true on = record {
          each = λ want now store. subst (λ (g : D). LeavesOnly (told e) (told g) (Restores t.pool.geometry want)) (sym (last.down on).disk) (works.leaves.each want now store);
        }
        by false off = record {
          each = λ want now store.
              let turns = (works.makes off).pages want now store in
              and_then (told e) (told f) (told h) (Restores t.pool.geometry want) (works.leaves.each want now store)
              (subst (λ (g : Geometry). LeavesOnly (told f) (told h) (Restores g want)) works.geometry (ended.each want turns.pages turns.store));
        }

    pub IsLook-ended : IsLook told len faults d h s v
    IsLook-ended = record {
      size = last.size ∙ works.size ∙ first.size;
      later = omega (arith, first.later, works.later, last.later);
      geometry = last.geometry ∙ works.geometry ∙ first.geometry;
      leaves = LeavesWanted-then (parts told len d s) (parts told len e t) (parts told len h v) (λ now. now) first.geometry begins.pages begun behind;
    }

    -- ---- it was refused
    module _ (up : s.book.down ≡ false) where
      up_mid : t.book.down ≡ false
      up_mid = up_still d e s t x first up

      wider : (a b : ℕ) → Rose a b → faults d ≤ a → b ≤ faults h → Rose (faults d) (faults h)
      wider a b rose before after = Rose-later (faults d) a (faults h) before (Rose-before a b (faults h) rose after)

      -- the look was
      looked_err : (q : SpaceFault) → IsReadFault q → (MeansDown q → Fails faults q e f t u) → IsLookErr (faults d) (faults h) (fault_of q)
      looked_err q reads fails =
          is_look_err (faults d) (faults h) q reads (λ means. wider (faults e) (faults f) (fell faults e f t u q means up_mid (fails means)) first.later last.later)

      -- or the end
      failed_mid : u.book.down ≡ true → Rose (faults d) (faults h)
      failed_mid on =
          ⊎_elim (λ (was : t.book.down ≡ true). not_both t.book.down up_mid was) (λ (rose : Rose (faults e) (faults f)). wider (faults e) (faults f) rose first.later last.later) (works.fell on)

      failed_end : (q : SpaceFault) → MeansDown q → Fails faults q f h u v → Rose (faults d) (faults h)
      failed_end q means fails = by u.book.down refl
        where
          by : (b : Bool) → u.book.down ≡ b → Rose (faults d) (faults h)
          by true on = failed_mid on
          by false off = wider (faults f) (faults h) (fell faults f h u v q means off fails) (omega (arith, first.later, works.later)) (omega arith)

      pub IsLookErr-ended : {T : Type 0} (q : Result T SpaceFault) → IfErr q IsReadFault → IfErr q (λ y. MeansDown y → Fails faults y e f t u)
          → (z : Result (Unit {0}) SpaceFault) → IfErr z MeansDown → IfErr z (λ y. Fails faults y f h u v) → IfErr (found_at_end q z) (IsLookErr (faults d) (faults h))
      IsLookErr-ended (Ok y) reads fails (Ok done) means failed = tt
      IsLookErr-ended (Err y) reads fails (Ok done) means failed = looked_err y reads fails
      IsLookErr-ended (Ok y) reads fails (Err w) means failed = is_look_err (faults d) (faults h) w (means_reads w means) (λ m. failed_end w means failed)
      IsLookErr-ended (Err y) reads fails (Err w) means failed = is_look_err (faults d) (faults h) w (means_reads w means) (λ m. failed_end w means failed)

    -- ---- it was answered
    up_ended : (z : Result (Unit {0}) SpaceFault) → r ≡ z → OnOk z (v.book.down ≡ false)
    up_ended (Err y) is = tt
    up_ended (Ok done) is = by (subst (λ (z : Result (Unit {0}) SpaceFault). KeepsSpace told len faults f h u v z) is last) v.book.down refl
      where
        by : KeepsSpace told len faults f h u v (Ok done) → (b : Bool) → v.book.down ≡ b → v.book.down ≡ false
        by kept false off = off
        by kept true on = ⊎_elim (λ (was : u.book.down ≡ true). ok_err done Down (kept.down was).answer) (λ (err : IsErrOf (Ok done) Fault). ok_err done Fault err) (kept.up on)

    up_before : (z : Result (Unit {0}) SpaceFault) → r ≡ z → OnOk z (u.book.down ≡ false)
    up_before (Err y) is = tt
    up_before (Ok done) is = by (subst (λ (z : Result (Unit {0}) SpaceFault). KeepsSpace told len faults f h u v z) is last) u.book.down refl
      where
        by : KeepsSpace told len faults f h u v (Ok done) → (b : Bool) → u.book.down ≡ b → u.book.down ≡ false
        by kept false off = off
        by kept true on = ok_err done Down (kept.down on).answer

    abbrev StaysInBegin : Type 0
    StaysInBegin = (want : Wanted) (slots : Slots) → HasPages want slots (parts told len d s) → HasPages want slots (parts told len e t)

    abbrev StaysInLook : Type 0
    StaysInLook = (want : Wanted) (slots : Slots) → HasPages want slots (parts told len e t) → HasPages want slots (parts told len f u)

    abbrev StaysInAbort : Type 0
    StaysInAbort = (want : Wanted) (slots : Slots) → HasPages want slots (parts told len f u) → AreFormed u.pool.geometry.pages want → HasPages want (slots_in u.pool.geometry.pages want) (parts told len h v)

    rests : v.book.down ≡ false → u.book.down ≡ false → v.book.actives ≡ [] → StaysInBegin → StaysInLook → StaysInAbort → StaysWanted (parts told len f u) (parts told len h v) → RestsStill (parts told len d s) (parts told len h v)
    rests up before none one two three kept = record {
      ready = last.ready;
      up = up;
      none = none;
      has = λ want slots formed has.
          let same : u.pool.geometry ≡ s.pool.geometry = works.geometry ∙ first.geometry in
          subst (λ (g : Geometry). HasPages want (slots_in g.pages want) (parts told len h v)) (sym last.geometry)
          (three want slots (two want slots (one want slots has)) (subst (λ (g : Geometry). AreFormed g.pages want) (sym same) formed));
      wanted = λ want now store. let turns = (works.makes before).pages want now (begins.pages want now store) in kept want turns.pages turns.store;
    }

    pub RestsStill-ended : {T : Type 0} (q : Result T SpaceFault) (z : Result (Unit {0}) SpaceFault) → r ≡ z → OnOk z (v.book.actives ≡ []) → StaysInBegin → OnOk q StaysInLook → OnOk z StaysInAbort
        → OnOk z (StaysWanted (parts told len f u) (parts told len h v))
        → OnOk (found_at_end q z) (RestsStill (parts told len d s) (parts told len h v))
    RestsStill-ended (Ok y) (Ok done) is none one two three kept = rests (up_ended (Ok done) is) (up_before (Ok done) is) none one two three kept
    RestsStill-ended (Err y) (Ok done) is none one two three kept = tt
    RestsStill-ended (Ok y) (Err w) is none one two three kept = tt
    RestsStill-ended (Err y) (Err w) is none one two three kept = tt

-- ---- what was found
module _ {T : Type 0} (root : ℕ) (p q : Parts) (stays : (want : Wanted) (slots : Slots) → HasPages want slots p → HasPages want slots q) where
  pub found-ended : (IsSo : T → Slots → List Tables.Kept → Type 0) (r : Result T SpaceFault) (z : Result (Unit {0}) SpaceFault) → IfOk r (λ x. OverCatalogue root q (IsSo x)) → IfOk (found_at_end r z) (λ x. OverCatalogue root p (IsSo x))
  found-ended IsSo (Ok x) (Ok done) over = λ m want slots kept has tables. over m want slots kept (stays want slots has) tables
  found-ended IsSo (Err e) (Ok done) over = tt
  found-ended IsSo (Ok x) (Err e) over = tt
  found-ended IsSo (Err x) (Err e) over = tt

  pub stray-ended : (r : Result T SpaceFault) (z : Result (Unit {0}) SpaceFault) → IfErr r (λ e. OverCatalogue root q (λ s kept. TellsStray s (owners_in kept) (fault_of e))) → IfErr z MeansDown
      → IfErr (found_at_end r z) (λ e. OverCatalogue root p (λ s kept. TellsStray s (owners_in kept) e))
  stray-ended (Ok x) (Ok done) stray means = tt
  stray-ended (Err e) (Ok done) stray means = λ m want slots kept has tables. stray m want slots kept (stays want slots has) tables
  stray-ended (Ok x) (Err e) stray means = λ m want slots kept has tables. TellsStray-down slots (owners_in kept) e means
  stray-ended (Err x) (Err e) stray means = λ m want slots kept has tables. TellsStray-down slots (owners_in kept) e means
