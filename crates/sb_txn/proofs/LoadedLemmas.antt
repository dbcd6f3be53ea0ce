-- A change of a page that was brought into memory first.
use Rattle.std.proofs.Common.{◌≡◌, ⊎_elim, ℕ, ◌+◌, ◌≤◌, Option, Some, None, is_some, List, ◌++◌, length, sym, ◌∙◌, ap, subst, arith}
use Rattle.std.proofs.lemmas.Bool.{false≢true}
use Rattle.sb_disk.specs.Disk.{Story, Range}
use Rattle.sb_journal.specs.State.{after_force}
use Rattle.sb_journal.specs.State as journal
use Rattle.sb_log.specs.Records.{Record}
use Rattle.sb_images.specs.Store.{IfTold}
use Rattle.sb_pool.specs.Calls.{IsSameOrForced}
use Rattle.sb_txn.specs.declared.changing.Wants.{Wants}
use Rattle.sb_txn.specs.declared.fault.StoreFault.{StoreFault}
use Rattle.sb_txn.specs.declared.fault.StoreFault.TheVariants.{Fault, LogFull, GatesFull, Down, NoMemory}
use Rattle.sb_txn.specs.Book.{ActiveTransaction, Book, wants_of, change_len, with_change}
use Rattle.sb_txn.specs.Changes.{NoRoom, AddErr}
use Rattle.sb_txn.specs.Clauses.{LeavesWanted, Loads, Refused, IsLogged, records_of, change_in, undo_in, Changes, ChangeErr, HasRoom, need_of}
use Rattle.sb_txn.specs.Parts.{Parts}
use Rattle.sb_txn.proofs.LoggedLemmas.{change_len-some, change_len-most}
use Rattle.sb_txn.proofs.RoomLemmas.{SameRoom, SameRoom-forced, lens-gates, IsLogged-behind, Grows-logged, least-logged}
use Rattle.sb_txn.proofs.TiedLemmas.{Refused-loads}

-- ---- the load before it
lens-loaded : (j k : journal.State) → IsSameOrForced j k → length j.lens ≤ length k.lens
lens-loaded j k same = ⊎_elim
    (λ (e : k ≡ j). let l = ap (λ (x : journal.State). length x.lens) e in omega arith)
    (λ (e : k ≡ after_force j). let l = ap (λ (x : journal.State). length x.lens) e in let g = lens-gates j in omega arith)
    same

as_told : (a b : Option Story) (P : Type 0) → is_some a ≡ is_some b → IfTold b P → IfTold a P
as_told None b P tells has = tt
as_told (Some s) None P tells has = absurd (false≢true (sym tells))
as_told (Some s) (Some t) P tells has = has

module _ (old mid : Parts) (loads : Loads old mid) where
  room_same : SameRoom old.store.journal mid.store.journal
  room_same = SameRoom-forced old.store.journal mid.store.journal loads.journal

  need_same : (o : ActiveTransaction) (page count : ℕ) → need_of mid.store.book o page count ≡ need_of old.store.book o page count
  need_same o page count = ap (λ (b : Book). need_of b o page count) loads.book

  pub HasRoom-loaded : (o : ActiveTransaction) (page count : ℕ) → HasRoom mid.store o page count → HasRoom old.store o page count
  HasRoom-loaded o page count room = record {
    bytes =
        let a = room.bytes in
        let b = room_same.used in
        let c = need_same o page count in
        let l = ap (λ (r : Range). r.len) room_same.log_is in
        omega arith;
    gates =
        let a = room.gates in
        let b = lens-loaded old.store.journal mid.store.journal loads.journal in
        let c = ap (λ (x : Book). length x.actives) loads.book in
        omega arith;
  }

  pub ChangeErr-room : (o : ActiveTransaction) (page count : ℕ) (e : StoreFault) → NoRoom mid.store.journal mid.store.book o page count e → ChangeErr old mid o page count e
  ChangeErr-room o page count (LogFull used need total) none =
      let l = ap (λ (r : Range). r.len) room_same.log_is in
      (none.0 ∙ room_same.used, none.1 ∙ need_same o page count, none.2 ∙ l, none.3, Refused-loads old mid loads)
  ChangeErr-room o page count (GatesFull used total) none =
      let l = ap (λ (r : Range). r.len) room_same.log_is in
      let g = ap (λ (r : Range). r.len) room_same.gates_is in
      let b = ap (λ (x : Book). length x.actives) loads.book in
      let bytes = none.0 in
      let u = room_same.used in
      let n = need_same o page count in
      let over = none.3 in
      (omega arith, none.1, none.2 ∙ g, omega arith, Refused-loads old mid loads)
  ChangeErr-room o page count Fault none = absurd none
  ChangeErr-room o page count Down none = absurd none
  ChangeErr-room o page count NoMemory none = absurd none

  pub ChangeErr-add : (new : Parts) (o : ActiveTransaction) (page count : ℕ) (e : StoreFault) → AddErr mid new e → ChangeErr old new o page count e
  ChangeErr-add new o page count NoMemory err = subst (λ (p : Parts). Refused old p) (sym err) (Refused-loads old mid loads)
  ChangeErr-add new o page count Fault err = tt
  ChangeErr-add new o page count (LogFull used need total) err = absurd err
  ChangeErr-add new o page count (GatesFull used total) err = absurd err
  ChangeErr-add new o page count Down err = absurd err

  -- what the change wants is the same
  wants_same : (o : ActiveTransaction) (page : ℕ) → wants_of mid.store.book o page ≡ wants_of old.store.book o page
  wants_same o page = ap (λ (b : Book). wants_of b o page) loads.book

  pub Changes-loaded : (new : Parts) (o : ActiveTransaction) (owner page offset : ℕ) (bytes : List ℕ) → offset + length bytes ≤ 4096 → LeavesWanted old mid → Changes mid new o owner page offset bytes → Changes old new o owner page offset bytes
  Changes-loaded new o owner page offset bytes range leaves changes =
      let w = wants_same o page in
      let logged = subst (λ (v : Wants). IsLogged old.store.journal new.store.journal (change_len v (length bytes))) w (IsLogged-behind old.store.journal mid.store.journal new.store.journal (change_len (wants_of mid.store.book o page) (length bytes)) loads.journal changes.journal) in
      record {
        image = changes.image;
        was = λ want now store. as_told old.told mid.told (changes.image ≡ now page) (leaves.each want now store).tells (changes.was want now (loads.pages want now store));
        book = changes.book ∙ ap (λ (b : Book). with_change b o (undo_in page offset changes.image bytes)) loads.book;
        pages = λ want now store. changes.pages want now (loads.pages want now store);
        logged = λ want now opened pending holds.
            let at = loads.logged want now opened pending holds in
            let done = changes.logged want now at.0 at.1 at.2 in
            let c = change_in o owner page offset changes.image bytes in (
              done.0,
              done.1,
              done.2,
              done.3 ∙ ap (λ (l : List Record). l ++ records_of (wants_of mid.store.book o page) o changes.image c) at.3
                  ∙ ap (λ (v : Wants). (opened ++ pending) ++ records_of v o changes.image c) w,
            );
        journal = logged;
        grows = Grows-logged old.store new.store (change_len (wants_of old.store.book o page) (length bytes)) (change_len-some (wants_of old.store.book o page) (length bytes)) (change_len-most (wants_of old.store.book o page) (length bytes) (omega arith)) logged;
        least = least-logged old.store.journal new.store.journal (change_len (wants_of old.store.book o page) (length bytes)) logged;
      }
