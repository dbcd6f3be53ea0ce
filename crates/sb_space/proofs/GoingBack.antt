-- Going back to a savepoint.
use Rattle.std.proofs.Common.{◌≡◌, ℕ, ◌≤◌, ◌==◌, Bool, true, false, cond, Option, Some, None, List, [], ◌∷◌, ◌++◌, length, take, drop, refl, sym, ap, subst, ◌∙◌, arith}
use Rattle.std.proofs.lemmas.Bool.{false≢true}
use Rattle.std.proofs.lemmas.List.{length-append, length-take-le, take-append-drop, drop-append-le}
use Rattle.std.proofs.Math.Seq.{drop-length}
use Rattle.sb_disk.specs.Disk.{Story}
use Rattle.sb_log.specs.declared.geometry.Geometry.{Geometry}
use Rattle.sb_drive.specs.Slots.{Slots}
use Rattle.sb_drive.specs.Spaces.{Wanted}
use Rattle.sb_txn.specs.Book.{Undo, ActiveTransaction, Book, transaction_with, standing_of}
use Rattle.sb_txn.specs.Clauses.{HoldsPages, LeavesWanted, GoesBack, cut_back, unwound}
use Rattle.sb_txn.specs.Parts.{Parts}
use Rattle.sb_txn.specs.State.{State}
use Rattle.sb_txn.proofs.CalledLemmas.{transaction_with-put, standing_of-put}
use Rattle.sb_space.specs.Composing.{LeadsBack-none, LeadsBack-then, LeadsBack-before, LeadsBack-now, LeadsBack-was}
use Rattle.sb_space.specs.Durable.{Lent, Leads, parts_in}
use Rattle.sb_space.specs.Table.{AreWhole, IsTable, slots_in}
use Rattle.sb_space.specs.Telling.{told_from}
use Rattle.sb_space.specs.Transactions.{WasAt, MarkHasPages, DrivenKeepsWas, DrivenKeepsWanted, DrivenKeepsChanges, DrivenKeepsSpace}
use Rattle.sb_space.specs.Works.{LeadsBack, Turns, Makes, Stands, HasPages, undos_of}

-- ---- the changes of a transaction that stand
abbrev undos_in : Option ActiveTransaction → List Undo
undos_in o = elim o [ None ↦ [] | Some x ↦ x.undos ]

pub standing-undos : (tx : ℕ) (os : List ActiveTransaction) → standing_of tx os ≡ length (undos_of tx os)
standing-undos tx [] = refl
standing-undos tx (o ∷ os) = by_test (o.tx == tx) (standing-undos tx os)
  where
    by_test : (t : Bool) → standing_of tx os ≡ length (undos_of tx os) → cond t (length o.undos) (standing_of tx os) ≡ length (undos_in (cond t (Some o) (transaction_with tx os)))
    by_test true below = refl
    by_test false below = below

pub undos-found : (tx : ℕ) (os : List ActiveTransaction) (o : ActiveTransaction) → transaction_with tx os ≡ Some o → undos_of tx os ≡ o.undos
undos-found tx os o is = ap undos_in is

-- ---- pages of a store whose sizes stay
module _ (p q : Parts) (sizes : q.store.pool.geometry.pages ≡ p.store.pool.geometry.pages) (leaves : LeavesWanted p q) where
  -- other pages stand
  pub Stands-through : (want now then : ℕ → List ℕ) → Stands want now p → HoldsPages want then q → AreWhole p.store.pool.geometry.pages then → Stands want then q
  Stands-through want now then stands store whole = record {
    tells = sym (leaves.each want now stands.store).tells ∙ stands.tells;
    store = store;
    whole = subst (λ (n : ℕ). AreWhole n then) (sym sizes) whole;
  }

  pub HasPages-through : (want now then : ℕ → List ℕ) (s : Slots) → Stands want now p → HoldsPages want then q → AreWhole p.store.pool.geometry.pages then → IsTable p.store.pool.geometry.pages then → s ≡ slots_in p.store.pool.geometry.pages then
      → HasPages want s q
  HasPages-through want now then s stands store whole table slots = record {
    now = then;
    stands = Stands-through want now then stands store whole;
    table = subst (λ (n : ℕ). IsTable n then) (sym sizes) table;
    slots = slots ∙ ap (λ (n : ℕ). slots_in n then) (sym sizes);
  }

-- ---- at the savepoint
pub WasAt-mark : MarkHasPages
WasAt-mark tx want s p has = record {
  within = omega arith;
  now = has.now;
  stands = has.stands;
  was = has.now;
  back = subst (λ (us : List Undo). LeadsBack p.store.pool.geometry.pages us has.now has.now) (sym none) (LeadsBack-none p.store.pool.geometry.pages has.now has.stands.whole);
  table = has.table;
  slots = has.slots;
}
  where
    none : drop (standing_of tx p.store.book.actives) (undos_of tx p.store.book.actives) ≡ []
    none = ap (λ (n : ℕ). drop n (undos_of tx p.store.book.actives)) (standing-undos tx p.store.book.actives) ∙ drop-length (undos_of tx p.store.book.actives)

-- ---- behind driven calls
module _ {D : Type 0} (told : D → Option Story) (len faults : D → ℕ) where
  module _ (k : ℕ) (a b : Lent D) (leads : Leads told len faults k a b) (up : b.store.now.book.down ≡ false) where
    abbrev pages : ℕ
    pages = a.store.now.pool.geometry.pages

    abbrev undos : List Undo
    undos = undos_of a.tx a.store.now.book.actives

    abbrev makes : Makes a.tx k (parts_in told len a) (parts_in told len b)
    makes = leads.works.makes up

    sizes : b.store.now.pool.geometry.pages ≡ pages
    sizes = ap (λ (g : Geometry). g.pages) leads.works.geometry

    module _ (want now : ℕ → List ℕ) (stands : Stands want now (parts_in told len a)) where
      abbrev turns : Turns want now makes.undos (parts_in told len a) (parts_in told len b)
      turns = makes.pages want now stands.store

      led : LeadsBack pages makes.undos now turns.pages
      led = told_from (told a.disk.now) (AreWhole pages now → LeadsBack pages makes.undos now turns.pages) stands.tells turns.back stands.whole

      Stands-turned : Stands want turns.pages (parts_in told len b)
      Stands-turned = Stands-through (parts_in told len a) (parts_in told len b) sizes leads.works.leaves want now turns.pages stands turns.store (LeadsBack-now pages makes.undos now turns.pages led)

    WasAt-turned : (want : Wanted) (s : Slots) (n : ℕ) → WasAt a.tx want s n (parts_in told len a) → WasAt a.tx want s n (parts_in told len b)
    WasAt-turned want s n was =
        let then = (turns want was.now was.stands).pages in
        let all = standing-undos a.tx a.store.now.book.actives in
        let within = was.within in
        let enough : n ≤ length undos = omega (arith, all, within) in
        record {
          within =
              let now = standing-undos a.tx b.store.now.book.actives in
              let more = ap (λ (us : List Undo). length us) makes.own in
              let sum = length-append undos makes.undos in
              omega (arith, now, more, sum, enough);
          now = then;
          stands = Stands-turned want was.now was.stands;
          was = was.was;
          back = subst (λ (m : ℕ). LeadsBack m (drop n (undos_of a.tx b.store.now.book.actives)) was.was then) (sym sizes)
              (subst (λ (us : List Undo). LeadsBack pages us was.was then) (sym (ap (drop n) makes.own ∙ drop-append-le n undos makes.undos enough))
              (LeadsBack-then pages makes.undos was.now then (led want was.now was.stands) (drop n undos) was.was was.back));
          table = subst (λ (m : ℕ). IsTable m was.was) (sym sizes) was.table;
          slots = was.slots ∙ ap (λ (m : ℕ). slots_in m was.was) (sym sizes);
        }

  pub WasAt-driven : DrivenKeepsWas told len faults
  WasAt-driven k a b leads up want s n was = WasAt-turned k a b leads up want s n was

  pub Stands-driven : DrivenKeepsWanted told len faults
  Stands-driven k a b leads up want now stands = ((turns k a b leads up want now stands).pages, Stands-turned k a b leads up want now stands)

  pub KeepsChanges-driven : DrivenKeepsChanges told len faults
  KeepsChanges-driven k a b leads up = (was_up a.store.now.book.down refl, fewer)
    where
      was_up : (down : Bool) → a.store.now.book.down ≡ down → a.store.now.book.down ≡ false
      was_up false off = off
      was_up true on = absurd (false≢true (sym up ∙ ap (λ (x : State). x.book.down) (leads.works.down on).1 ∙ on))

      fewer : standing_of a.tx a.store.now.book.actives ≤ standing_of a.tx b.store.now.book.actives
      fewer =
          let makes = leads.works.makes up in
          let was = standing-undos a.tx a.store.now.book.actives in
          let now = standing-undos a.tx b.store.now.book.actives in
          let more = ap (λ (us : List Undo). length us) makes.own in
          let sum = length-append (undos_of a.tx a.store.now.book.actives) makes.undos in
          omega (arith, was, now, more, sum)

  pub IsSameSpace-driven : DrivenKeepsSpace told len faults
  IsSameSpace-driven k a b leads = record { store = leads.store; disk = leads.disk; tx = leads.tx; geometry = leads.works.geometry }

-- ---- on the way back
module _ (tx m : ℕ) (p q : Parts) (o : ActiveTransaction) (is : transaction_with tx p.store.book.actives ≡ Some o) (sizes : q.store.pool.geometry.pages ≡ p.store.pool.geometry.pages) (leaves : LeavesWanted p q) where
  -- at the savepoint: the pages are those that were there
  pub HasPages-back : ((want now : ℕ → List ℕ) → HoldsPages want now p → HoldsPages want (unwound (drop m o.undos) now) q) → (want : Wanted) (s : Slots) → WasAt tx want s m p → HasPages want s q
  HasPages-back back want s was =
      HasPages-through p q sizes leaves want was.now was.was s was.stands (subst (λ (now : ℕ → List ℕ). HoldsPages want now q) same (back want was.now was.stands.store))
      (LeadsBack-was p.store.pool.geometry.pages (drop m (undos_of tx p.store.book.actives)) was.was was.now was.back) was.table was.slots
    where
      same : unwound (drop m o.undos) was.now ≡ was.was
      same = λ i x. (ap (λ (us : List Undo). unwound (drop m us) was.now x) (sym (undos-found tx p.store.book.actives o is)) ∙ was.back.back x) i

  module _ (goes : GoesBack p q o m) (within : m ≤ standing_of tx p.store.book.actives) where
    enough : m ≤ length o.undos
    enough = let all = standing-undos tx p.store.book.actives in let same = ap (λ (us : List Undo). length us) (undos-found tx p.store.book.actives o is) in omega (arith, all, same, within)

    pub standing-back : standing_of tx q.store.book.actives ≡ m
    standing-back = ap (λ (b : Book). standing_of tx b.actives) goes.book ∙ standing_of-put tx p.store.book.actives o is (cut_back o m) refl ∙ length-take-le m o.undos enough

    own : undos_of tx q.store.book.actives ≡ take m o.undos
    own = ap (λ (b : Book). undos_of tx b.actives) goes.book ∙ ap undos_in (transaction_with-put tx p.store.book.actives o is (cut_back o m) refl)

    -- before it: they can be given back still
    pub WasAt-back : (want : Wanted) (s : Slots) (n : ℕ) → n ≤ m → WasAt tx want s n p → WasAt tx want s n q
    WasAt-back want s n less was = record {
      within = let all = standing-back in omega (arith, all, less);
      now = unwound (drop m o.undos) was.now;
      stands = Stands-through p q sizes leaves want was.now (unwound (drop m o.undos) was.now) was.stands (goes.pages want was.now was.stands.store)
          (LeadsBack-now p.store.pool.geometry.pages (drop n (take m o.undos)) was.was (unwound (drop m o.undos) was.now) front);
      was = was.was;
      back = subst (λ (k : ℕ). LeadsBack k (drop n (undos_of tx q.store.book.actives)) was.was (unwound (drop m o.undos) was.now)) (sym sizes)
          (subst (λ (us : List Undo). LeadsBack p.store.pool.geometry.pages (drop n us) was.was (unwound (drop m o.undos) was.now)) (sym own) front);
      table = subst (λ (k : ℕ). IsTable k was.was) (sym sizes) was.table;
      slots = was.slots ∙ ap (λ (k : ℕ). slots_in k was.was) (sym sizes);
    }
      where
        parted : drop n (undos_of tx p.store.book.actives) ≡ drop n (take m o.undos) ++ drop m o.undos
        parted = ap (drop n) (undos-found tx p.store.book.actives o is ∙ sym (take-append-drop m o.undos))
            ∙ drop-append-le n (take m o.undos) (drop m o.undos) (let all = length-take-le m o.undos enough in omega (arith, all, less))

        front : LeadsBack p.store.pool.geometry.pages (drop n (take m o.undos)) was.was (unwound (drop m o.undos) was.now)
        front = LeadsBack-before p.store.pool.geometry.pages (drop m o.undos) was.now (drop n (take m o.undos)) was.was (subst (λ (us : List Undo). LeadsBack p.store.pool.geometry.pages us was.was was.now) parted was.back)
