-- What calls of a transaction keep, one behind another.
use Rattle.std.proofs.Common.{◌≡◌, ⊎_elim, inr, ℕ, List, Bool, true, false, Option, Result, Err, IsErrOf, refl, sym, ap, ◌∙◌, subst, arith}
use Rattle.std.proofs.lemmas.Bool.{false≢true}
use Rattle.sb_disk.specs.Causes.{Rose}
use Rattle.sb_disk.specs.Disk.{Story}
use Rattle.sb_disk.specs.Moments.{LeavesOnly}
use Rattle.sb_disk.proofs.CauseLemmas.{Rose-later}
use Rattle.sb_disk.proofs.MomentLemmas.{and_then}
use Rattle.sb_images.specs.Images.{Restores}
use Rattle.sb_log.specs.declared.geometry.Geometry.{Geometry}
use Rattle.sb_fold.specs.declared.refusal.Refusal.{Refusal}
use Rattle.sb_fold.specs.declared.refusal.Refusal.TheVariants as refusal
use Rattle.sb_txn.specs.Clauses.{HoldsPages, IsReady, Leads}
use Rattle.sb_txn.specs.Parts.{Parts, parts}
use Rattle.sb_txn.specs.State.{State}
use Rattle.sb_txn.proofs.KeepsLemmas.{LeavesWanted-then}
use Rattle.sb_space.specs.Works.{Works}
use Rattle.sb_session.specs.Calls.{KeepsWanted, Remains}
use Rattle.sb_session.specs.Commits.{IsLed}
use Rattle.sb_session.proofs.CallLemmas.{up-earlier}
pub use Rattle.sb_value.proofs.Truths.{ok_err}

pub err_fault : {T : Type 0} (r : Refusal) → IsErrOf {T = T} (Err r) refusal.Fault → r ≡ refusal.Fault
err_fault r is = cc

pub not_both : {A : Type 0} (b : Bool) → b ≡ false → b ≡ true → A
not_both b off on = absurd (false≢true (sym off ∙ on))

module _ {D : Type 0} (told : D → Option Story) (len faults : D → ℕ) where
  -- what else the same refusal answers
  pub Remains-err : {T U : Type 0} (d e : D) (s t : State) (r : Refusal) → Remains {T = T} told len faults d e s t (Err r) → Remains {T = U} told len faults d e s t (Err r)
  Remains-err {T} {U} d e s t r remains = record {
    size = remains.size;
    later = remains.later;
    geometry = remains.geometry;
    ready = remains.ready;
    down = λ on. let was = remains.down on in record { answer = ap (λ (r : Refusal). Err r) (err_fault {T = T} r was.answer); disk = was.disk; store = was.store };
    up = λ on. ap (λ (r : Refusal). Err r) (err_fault {T = T} r (remains.up on));
    fell = remains.fell;
  }

  -- a store that isn't down behind a call that answered this
  pub still_up : {T : Type 0} (d e : D) (s t : State) (r : Result T Refusal) → Remains told len faults d e s t r → (IsErrOf r refusal.Fault → t.book.down ≡ false) → t.book.down ≡ false
  still_up d e s t r remains not = by t.book.down refl
    where
      by : (b : Bool) → t.book.down ≡ b → t.book.down ≡ false
      by false off = off
      by true on = not (remains.up on)

  -- the disk failed, where a store is down that was up
  pub has_failed : {T : Type 0} (d e : D) (s t : State) (r : Result T Refusal) → Remains told len faults d e s t r → s.book.down ≡ false → t.book.down ≡ true → Rose (faults d) (faults e)
  has_failed d e s t r remains up on =
      ⊎_elim (λ (was : s.book.down ≡ true). not_both s.book.down up was) (λ (rose : Rose (faults d) (faults e)). rose) (remains.fell on)

  -- one call after another that left the store up
  pub Remains-then : {T U V : Type 0} (d e f : D) (s t u : State) (a : Result T Refusal) (b : Result U Refusal) (c : Result V Refusal) → t.book.down ≡ false → (IsErrOf b refusal.Fault → IsErrOf c refusal.Fault)
      → Remains told len faults d e s t a → Remains told len faults e f t u b → Remains told len faults d f s u c
  Remains-then d e f s t u a b c up same one two = record {
    size = two.size ∙ one.size;
    later = let first = one.later in let second = two.later in omega arith;
    geometry = two.geometry ∙ one.geometry;
    ready = two.ready;
    down = λ on. not_both t.book.down up (ap (λ (x : State). x.book.down) (one.down on).store ∙ on);
    up = λ on. same (two.up on);
    fell = λ on. ⊎_elim
        (λ (was : t.book.down ≡ true). not_both t.book.down up was)
        (λ (rose : Rose (faults e) (faults f)). inr (Rose-later (faults d) (faults e) (faults f) one.later rose))
        (two.fell on);
  }

  -- ---- calls in a transaction
  module _ (tx : ℕ) (d e : D) (s t : State) (led : IsLed told len faults tx (record { disk = d; store = s }) (record { disk = e; store = t })) where
    abbrev works : Works told len faults tx led.0 d e s t
    works = led.1

    -- they found the store up
    pub Remains-led : {T : Type 0} (r : Result T Refusal) → s.book.down ≡ false → IsReady (parts told len e t) → (t.book.down ≡ true → IsErrOf r refusal.Fault) → Remains told len faults d e s t r
    Remains-led r up ready answer = record {
      size = works.size;
      later = works.later;
      geometry = works.geometry;
      ready = ready;
      down = λ on. not_both s.book.down up on;
      up = answer;
      fell = works.fell;
    }

    -- a store that is up behind them was up before
    pub up_first : t.book.down ≡ false → s.book.down ≡ false
    up_first up = by s.book.down refl
      where
        by : (b : Bool) → s.book.down ≡ b → s.book.down ≡ false
        by false off = off
        by true on = not_both t.book.down up (ap (λ (x : State). x.book.down) (works.down on).1 ∙ on)

    -- a call behind them
    pub leaves_behind : {T : Type 0} (f : D) (u : State) (r : Result T Refusal) → Remains told len faults e f t u r → KeepsWanted (parts told len e t) (parts told len f u)
        → KeepsWanted (parts told len d s) (parts told len f u)
    leaves_behind f u r remains keeps = record {
      leaves = record { each = λ want now store. by want now store t.book.down refl };
      stays = λ up want now store.
          let turns = (works.makes (up-earlier told len faults e f t u r remains up)).pages want now store in
          keeps.stays up want turns.pages turns.store;
    }
      where
        by : (want now : ℕ → List ℕ) (store : HoldsPages want now (parts told len d s)) (b : Bool) → t.book.down ≡ b → LeavesOnly (told d) (told f) (Restores s.pool.geometry want)
        by want now store true on =
            subst (λ (x : D). LeavesOnly (told d) (told x) (Restores s.pool.geometry want)) (sym (remains.down on).disk) (works.leaves.each want now store)
        by want now store false off =
            let turns = (works.makes off).pages want now store in
            and_then (told d) (told e) (told f) (Restores s.pool.geometry want) (works.leaves.each want now store)
            (subst (λ (x : Geometry). LeavesOnly (told e) (told f) (Restores x want)) works.geometry (keeps.leaves.each want turns.pages turns.store))

-- ---- what keeps what is wanted
pub KeepsWanted-works : {D : Type 0} (told : D → Option Story) (len faults : D → ℕ) (tx k : ℕ) (d e : D) (s t : State) → Works told len faults tx k d e s t
    → KeepsWanted (parts told len d s) (parts told len e t)
KeepsWanted-works told len faults tx k d e s t works = record {
  leaves = works.leaves;
  stays = λ up want now store. let turns = (works.makes up).pages want now store in (turns.pages, turns.store);
}

pub KeepsWanted-then : (p q r : Parts) → q.store.pool.geometry ≡ p.store.pool.geometry → Leads p q (λ now. now) → KeepsWanted p q → KeepsWanted q r → KeepsWanted p r
KeepsWanted-then p q r size pages one two = record {
  leaves = LeavesWanted-then p q r (λ now. now) size pages one.leaves two.leaves;
  stays = λ up want now store. two.stays up want now (pages want now store);
}
