-- The laws of a space of pages, of a store that is borrowed.
use Rattle.std.proofs.Common.{◌≡◌, ◌≢◌, ⊎_elim, inl, inr, ℕ, zero, suc, ◌+◌, ◌<◌, ◌≤◌, nat_lt, Bool, true, false, cond, Option, List, [], length, refl, sym, ap, subst, ◌∙◌, arith}
use Rattle.std.proofs.lemmas.Bool.{ltb-true, ltb-false, le-ltb}
use Rattle.sb_disk.specs.Disk.{Story}
use Rattle.sb_forms.specs.Pages.{IsWhole}
use Rattle.sb_drive.specs.declared.space.SpaceFault.{SpaceFault}
use Rattle.sb_drive.specs.Slots.{Slot, Slots, nobodys, AreWhole, IsPage}
use Rattle.sb_drive.specs.Spaces.{Wanted}
use Rattle.sb_txn.specs.Parts.{Parts}
use Rattle.sb_log.specs.declared.geometry.Geometry.{Geometry}
use Rattle.sb_space.specs.Durable.{Lent, Leads}
use Rattle.sb_space.specs.Spent.{HasSpent}
use Rattle.sb_space.specs.Table.{owner_at, shown, table_len}
use Rattle.sb_space.specs.Works.{HasPages, Works, Fails}
use Rattle.sb_disk.specs.Causes.{Rose}
use Rattle.sb_disk.proofs.CauseLemmas.{Rose-before, Rose-later}
use Rattle.sb_drive.specs.declared.space.SpaceFault.TheVariants.{Fault, DataFull, TempFull, LogFull, GatesFull, Damaged, Down, NoMemory}
use Rattle.sb_txn.specs.State.{State}
use Rattle.sb_space.specs.Composing.{Works-none, Works-then}

module _ {D : Type 0} (told : D → Option Story) (len faults : D → ℕ) where
  -- a refusal of a later call is one of both
  pub Fails-on : (tx : ℕ) (k : ℕ) (d f : D) (s u : State) (x : SpaceFault) (b : D) (t : State) → Works told len faults tx k d b s t → Fails faults x b f t u → Fails faults x d f s u
  Fails-on tx k d f s u Fault b t works fails = (Rose-later (faults d) (faults b) (faults f) works.later fails.0, fails.1)
  Fails-on tx k d f s u Down b t works fails =
      let later : faults d ≤ faults f = omega (arith, works.later, fails.0) in (
        later,
        ⊎_elim
            (λ (was : t.book.down ≡ true). ⊎_elim (λ (first : s.book.down ≡ true). inl first) (λ (rose : Rose (faults d) (faults b)). inr (Rose-before (faults d) (faults b) (faults f) rose fails.0)) (works.fell was))
            (λ (rose : Rose (faults b) (faults f)). inr (Rose-later (faults d) (faults b) (faults f) works.later rose))
            fails.1,
        fails.2,
      )
  Fails-on tx k d f s u (DataFull used total) b t works fails = fails
  Fails-on tx k d f s u (TempFull used total) b t works fails = fails
  Fails-on tx k d f s u (LogFull used need total) b t works fails = fails
  Fails-on tx k d f s u (GatesFull used total) b t works fails = fails
  Fails-on tx k d f s u (Damaged page) b t works fails = fails
  Fails-on tx k d f s u NoMemory b t works fails = tt

  pub Leads-none : (a : Lent D) → Leads told len faults 0 a a
  Leads-none a = record { store = refl; disk = refl; tx = refl; works = Works-none told len faults a.tx a.disk.now a.store.now }

  pub Leads-then : (k l : ℕ) (a b c : Lent D) → Leads told len faults k a b → Leads told len faults l b c → Leads told len faults (k + l) a c
  Leads-then k l a b c one two = record {
    store = two.store ∙ one.store;
    disk = two.disk ∙ one.disk;
    tx = two.tx ∙ one.tx;
    works = Works-then told len faults a.tx k l a.disk.now b.disk.now c.disk.now a.store.now b.store.now c.store.now one.works
        (subst (λ (tx : ℕ). Works told len faults tx l b.disk.now c.disk.now b.store.now c.store.now) one.tx two.works);
  }

  pub stays : (a : Lent D) → Leads told len faults 0 a a
  stays a = Leads-none a

  pub goes_on : (k l : ℕ) (a b c : Lent D) → Leads told len faults k a b → Leads told len faults l b c → Leads told len faults (k + l) a c
  goes_on k l a b c one two = Leads-then k l a b c one two

  -- a store that is up at the end of a call was up before it
  up_before : (tx k : ℕ) (d e : D) (s t : State) (b : Bool) → s.book.down ≡ b → Works told len faults tx k d e s t → t.book.down ≡ false → s.book.down ≡ false
  up_before tx k d e s t false is works up = is
  up_before tx k d e s t true is works up = sym (ap (λ (x : State). x.book.down) (works.down is).1) ∙ up

  pub spends : (n k : ℕ) (a b : Lent D) → Leads told len faults k a b → HasSpent n a.store.now → HasSpent (n + k) b.store.now
  spends n k a b leads spent = λ up.
      let works = leads.works in
      let before = spent (up_before a.tx k a.disk.now b.disk.now a.store.now b.store.now a.store.now.book.down refl works up) in
      let grows = (works.makes up).grows in
      record {
        bytes = omega (arith, before.bytes, grows.bytes, ap (λ (g : Geometry). g.log) works.geometry);
        gates = omega (arith, before.gates, grows.gates);
      }

  pub still_fails : (x : SpaceFault) (a b c : Lent D) → Leads told len faults 0 a b → Fails faults x b.disk.now c.disk.now b.store.now c.store.now → Fails faults x a.disk.now c.disk.now a.store.now c.store.now
  still_fails x a b c leads fails = Fails-on a.tx 0 a.disk.now c.disk.now a.store.now c.store.now x b.disk.now b.store.now leads.works fails

IsPage-shown : (o : ℕ) (bytes : List ℕ) → IsWhole bytes → IsPage (shown o bytes)
IsPage-shown zero bytes whole some = absurd (some refl)
IsPage-shown (suc zero) bytes whole some = absurd (some refl)
IsPage-shown (suc (suc o)) bytes whole some = whole

pub whole_pages : (want : Wanted) (s : Slots) (p : Parts) → HasPages want s p → AreWhole s
whole_pages want s p has n = subst (λ (x : Slots). IsPage (x n)) (sym has.slots) (by (nat_lt n p.store.pool.geometry.pages) refl)
  where
    by : (b : Bool) → nat_lt n p.store.pool.geometry.pages ≡ b → IsPage (cond b (shown (owner_at has.now n) (has.now n)) nobodys)
    by true is = IsPage-shown (owner_at has.now n) (has.now n) (has.stands.whole n (ltb-true n p.store.pool.geometry.pages is))
    by false is = λ some. absurd (some refl)

pub few_pages : (want : Wanted) (s : Slots) (p : Parts) → HasPages want s p → (n : ℕ) → 65536 ≤ n → (s n).0 ≡ 0
few_pages want s p has n beyond =
    let few = has.stands.store.2.serves.sizes.pages.1 in
    ap (λ (x : Slots). (x n).0) has.slots ∙ ap (λ (b : Bool). (cond b (shown (owner_at has.now n) (has.now n)) nobodys).0) (le-ltb n p.store.pool.geometry.pages (omega (arith, few, beyond)))

-- a page that is taken and shows no bytes is one of the table
pub table_pages : (want : Wanted) (s : Slots) (p : Parts) → HasPages want s p → (n : ℕ) → (s n).0 ≢ 0 → (s n).1 ≡ [] → n < table_len p.store.pool.geometry.pages
table_pages want s p has n some none = by (nat_lt n pages) refl
  where
    pages : ℕ
    pages = p.store.pool.geometry.pages

    slot : (b : Bool) → nat_lt n pages ≡ b → s n ≡ cond b (shown (owner_at has.now n) (has.now n)) nobodys
    slot b is = ap (λ (x : Slots). x n) has.slots ∙ ap (λ (b : Bool). cond b (shown (owner_at has.now n) (has.now n)) nobodys) is

    of_owner : (o : ℕ) → owner_at has.now n ≡ o → s n ≡ shown o (has.now n) → n < pages → n < table_len pages
    of_owner zero is same near = absurd (some (ap (λ (x : Slot). x.0) same))
    of_owner (suc zero) is same near = in_table (nat_lt n (table_len pages)) refl
      where
        in_table : (b : Bool) → nat_lt n (table_len pages) ≡ b → n < table_len pages
        in_table true low = ltb-true n (table_len pages) low
        in_table false high = absurd (has.table.others n (ltb-false n (table_len pages) high) near is)
    of_owner (suc (suc o)) is same near =
        absurd (omega (arith, sym (has.stands.whole n near).long ∙ ap length (sym (ap (λ (x : Slot). x.1) same) ∙ none)))

    by : (b : Bool) → nat_lt n pages ≡ b → n < table_len pages
    by true is = of_owner (owner_at has.now n) refl (slot true is) (ltb-true n pages is)
    by false is = absurd (some (ap (λ (x : Slot). x.0) (slot false is)))
