-- A change, from the store before it to that behind it.
use Rattle.std.proofs.Common.{◌≡◌, inl, ℕ, suc, ◌+◌, ◌-◌, ◌<◌, ◌≤◌, false, Option, Some, None, is_some, Result, Ok, Err, IfErr, IsErrOf, List, [], ◌∷◌, ◌++◌, length, take, drop, refl, sym, ◌∙◌, ap, subst, append_assoc, arith}
use Rattle.sb_disk.specs.Disk.{Story, WhereTold, AgreesBut}
use Rattle.sb_disk.specs.Moments.{LeavesOnly}
use Rattle.sb_disk.proofs.MomentLemmas.{and_then}
use Rattle.sb_journal.specs.State.{StandsOn, after_append}
use Rattle.sb_journal.specs.State as journal
use Rattle.sb_log.specs.declared.geometry.Geometry.{Geometry}
use Rattle.sb_log.specs.Records.{Change, Record, Begin, Image, Changed, Back, spelling}
use Rattle.sb_log.specs.Views.{Active, active_with}
use Rattle.sb_log.specs.Whole.{with_range}
use Rattle.sb_images.specs.Images.{Restores}
use Rattle.sb_images.specs.Store.{IfTold, IsStoreOn}
use Rattle.sb_pool.specs.Calls.{IsSameOrForced}
use Rattle.sb_pool.specs.Pages.{bytes_or, ArePagesOn, with_bytes}
use Rattle.sb_pool.specs.State.{held, IsHeld}
use Rattle.sb_txn.specs.declared.changing.Wants.{Wants}
use Rattle.sb_txn.specs.declared.fault.StoreFault.{StoreFault}
use Rattle.sb_txn.specs.declared.fault.StoreFault.TheVariants.{Fault, LogFull, GatesFull, Down, NoMemory}
use Rattle.sb_txn.specs.Ahead.{Leans, IsAhead, CatchesUp, LeavesAhead}
use Rattle.sb_txn.specs.Book.{Undo, ActiveTransaction, Book, AreClear, transaction_with, others, standing_of, with_actives, changed_transaction, with_change, wants_of, change_len, views}
use Rattle.sb_txn.specs.Changes.{AddsUndo, AddErr}
use Rattle.sb_txn.specs.Changing.{Before, before, IsNext, behind}
use Rattle.sb_txn.specs.Clauses.{HoldsPages, IsFaultOrDown, LeavesWanted, IsLogged, Changes, HasRoom}
use Rattle.sb_txn.specs.Parts.{Parts, stored}
use Rattle.sb_txn.specs.Logging.{HasSpace, records_len}
use Rattle.sb_txn.specs.State.{together}
use Rattle.sb_txn.specs.Steps.{some}
use Rattle.sb_txn.specs.Tied.{Holds}
use Rattle.sb_txn.proofs.CalledLemmas.{transaction_with-tx, standing_of-found}
use Rattle.sb_txn.proofs.LoggedLemmas.{is_now, change_len-some, change_len-most, size_of, edit_space, edit_leaves, Leans-logged, covered-logged}
use Rattle.sb_txn.proofs.OrderLemmas.{Holds-first, HasRoom-first, Leans-put}
use Rattle.sb_txn.proofs.RoomLemmas.{IsLogged-of, Grows-logged, least-logged}

-- What the records of a change make of a store, whatever pages it has.
pub record StoresChange (told new : Option Story) (j k : journal.State) (g : Geometry) (b : Before) (c : Change) : Type 0 where
  pub each : (want now : ℕ → List ℕ) (opened pending : List Record) (rest : List Active) → IsNext b now opened pending rest c → IsStoreOn want now told j g opened pending (active_with b.tx b.count ∷ rest)
      → IsStoreOn want (with_range c c.after now) new k g opened (behind pending b ++ Changed c ∷ []) (active_with b.tx (suc b.count) ∷ rest)

-- what a crash leaves meanwhile
pub record LeavesChange (told new : Option Story) (j : journal.State) (g : Geometry) (b : Before) (c : Change) : Type 0 where
  pub each : (want now : ℕ → List ℕ) (opened pending : List Record) (rest : List Active) → IsNext b now opened pending rest c → IsStoreOn want now told j g opened pending (active_with b.tx b.count ∷ rest)
      → LeavesOnly told new (Restores g want)

-- the records of a change stand behind all others
same_records : (opened pending : List Record) (w : Wants) (tx n page : ℕ) (image : List ℕ) (c : Change)
    → opened ++ (behind pending (before w tx n page image) ++ Changed c ∷ []) ≡ (opened ++ pending) ++ (some w.begin (Begin tx) ++ (some w.back (Back tx n) ++ (some w.image (Image page image) ++ Changed c ∷ [])))
same_records opened pending w tx n page image c = simp append_assoc

-- ---- one change
-- A change by the transaction of this number: the range of a page that has this image, and the bytes for it.
pub record Edit : Type 0 where
  pub tx : ℕ
  pub o : ActiveTransaction
  pub owner : ℕ
  pub page : ℕ
  pub offset : ℕ
  pub image : List ℕ
  pub bytes : List ℕ

-- The transaction is active, the page is held, the log has room, and no change of another transaction meets the range.
pub record MayEdit (s : Parts) (e : Edit) : Type 0 where
  pub is : transaction_with e.tx s.store.book.actives ≡ Some e.o
  pub lt : e.page < s.store.pool.geometry.pages
  pub range : e.offset + length e.bytes ≤ 4096
  pub long : length e.image ≡ 4096
  pub has : IsHeld s.store.pool e.page
  pub held : bytes_or [] (held s.store.pool e.page) ≡ e.image
  pub room : HasRoom s.store e.o e.page (length e.bytes)
  pub clear : AreClear e.page e.offset (length e.bytes) (others e.tx s.store.book.actives)

abbrev pub the_wants : Parts → Edit → Wants
the_wants s e = wants_of s.store.book e.o e.page

abbrev pub the_before : Parts → Edit → Before
the_before s e = before (the_wants s e) e.o.tx (length e.o.undos) e.page e.image

abbrev pub the_change : Edit → Change
the_change e = record { tx = e.o.tx; owner = e.owner; page = e.page; offset = e.offset; before = take (length e.bytes) (drop e.offset e.image); after = e.bytes }

abbrev pub the_undo : Edit → Undo
the_undo e = record { page = e.page; offset = e.offset; before = take (length e.bytes) (drop e.offset e.image) }

-- the bytes of its records
abbrev pub the_len : Parts → Edit → ℕ
the_len s e = records_len (the_wants s e) (length (spelling (Changed (the_change e))))

-- What is known of disk, journal and book behind its records.
pub record HasLogged (s : Parts) (e : Edit) (new : Option Story) (len : ℕ) (k : journal.State) (b : Book) : Type 0 where
  pub leaves : LeavesChange s.told new s.store.journal s.store.pool.geometry (the_before s e) (the_change e)
  pub stores : StoresChange s.told new s.store.journal k s.store.pool.geometry (the_before s e) (the_change e)
  pub done : k ≡ after_append (the_len s e) s.store.journal
  pub added : b ≡ with_change s.store.book e.o (the_undo e)
  pub tells : is_some s.told ≡ is_some new
  pub same : WhereTold s.told new (λ t u. AgreesBut (s.store.journal.log ∷ []) t.now.reads u.now.reads)
  pub stands : StandsOn new k
  pub sized : len ≡ s.size

module _ (s : Parts) (e : Edit) (may : MayEdit s e) where
  -- the store with the transaction first
  abbrev rest : List ActiveTransaction
  rest = others e.tx s.store.book.actives

  abbrev front : Book
  front = with_actives s.store.book (e.o ∷ rest)

  pub holds_first : (want now : ℕ → List ℕ) (store : HoldsPages want now s) → Holds want now store.0 store.1 (stored s.told s.size s.store.journal s.store.pool front)
  holds_first want now store = Holds-first want now s.told s.size s.store.journal s.store.pool s.store.book store.0 store.1 e.tx e.o may.is store.2

  pub room_first : HasRoom (together s.store.journal s.store.pool front) e.o e.page (length e.bytes)
  room_first = HasRoom-first s.store e.tx e.o e.page (length e.bytes) may.is may.room

  pub added-edit : (b : Book) → AddsUndo e.tx (held s.store.pool e.page) s.store.book b e.page e.offset (length e.bytes) → b ≡ with_change s.store.book e.o (the_undo e)
  added-edit b adds = adds e.o may.is ∙ ap (λ (l : List ℕ). with_change s.store.book e.o (record { page = e.page; offset = e.offset; before = take (length e.bytes) (drop e.offset l) })) may.held

  pub HasSpace-edit : (want now : ℕ → List ℕ) → HoldsPages want now s → HasSpace (the_len s e) s.store.journal
  HasSpace-edit want now store = edit_space want now s.told s.size s.store.journal s.store.pool front store.0 store.1 e.o rest e.owner e.page e.offset e.image e.bytes (holds_first want now store) refl may.lt may.range may.long may.has may.held room_first may.clear

  module _ (new : Option Story) (tells : is_some s.told ≡ is_some new) (leaves : LeavesChange s.told new s.store.journal s.store.pool.geometry (the_before s e) (the_change e)) where
    leaves_edit : (want now : ℕ → List ℕ) → HoldsPages want now s → LeavesOnly s.told new (Restores s.store.pool.geometry want)
    leaves_edit want now store = edit_leaves want now s.told s.size s.store.journal s.store.pool front store.0 store.1 e.o rest e.owner e.page e.offset e.image e.bytes (holds_first want now store) refl may.lt may.range may.long may.has may.held room_first may.clear new tells
        (λ next at. leaves.each want now store.0 store.1 (views rest) next at)

    pub LeavesWanted-edit : (len : ℕ) (k : journal.State) (b : Book) → LeavesWanted s (stored new len k s.store.pool b)
    LeavesWanted-edit len k b = record { each = leaves_edit }

  module _ (new : Option Story) (len : ℕ) (k : journal.State) (b : Book) (logged : HasLogged s e new len k b) where
    abbrev mid : Parts
    mid = stored new len k s.store.pool b

    abbrev pub IsAhead-edit : (want now : ℕ → List ℕ) → HoldsPages want now s → IsAhead want now e.page e.offset e.bytes mid
    IsAhead-edit want now store = record {
      opened = store.0;
      pending = behind store.1 (the_before s e) ++ Changed (the_change e) ∷ [];
      leans = subst (λ (x : Book). Leans want now (with_bytes e.page e.offset e.bytes now) store.0 (behind store.1 (the_before s e) ++ Changed (the_change e) ∷ []) (stored new len k s.store.pool x)) (sym logged.added)
          (Leans-put want now (with_bytes e.page e.offset e.bytes now) new len k s.store.pool (with_change s.store.book e.o (the_undo e)) store.0 (behind store.1 (the_before s e) ++ Changed (the_change e) ∷ []) e.tx s.store.book.actives e.o may.is (changed_transaction e.o (the_undo e)) refl
          (Leans-logged want now s.told s.size s.store.journal s.store.pool front store.0 store.1 e.o rest e.owner e.page e.offset e.image e.bytes (holds_first want now store) refl may.lt may.range may.long may.has may.held room_first may.clear new logged.tells len k logged.done logged.same logged.stands logged.sized
          (λ next at. logged.stores.each want now store.0 store.1 (views rest) next at)));
      covered = covered-logged want now s.told s.size s.store.journal s.store.pool front store.0 store.1 e.o rest e.owner e.page e.offset e.image e.bytes (holds_first want now store) refl may.lt may.range may.long may.has may.held room_first may.clear new logged.tells len k logged.done logged.same logged.stands logged.sized;
    }

    was_at : (a : Option Story) (now : ℕ → List ℕ) → s.store.journal.failed ≡ false → ArePagesOn now a s.store.journal s.store.pool → IfTold a (e.image ≡ now e.page)
    was_at None now up pages = tt
    was_at (Some t) now up pages = is_now now t s.store.journal s.store.pool e.page e.image up may.has may.held may.lt pages

    -- behind the write
    module _ (end : Parts) where
      pub LeavesWanted-edited : LeavesAhead mid end e.page e.offset e.bytes → LeavesWanted s end
      LeavesWanted-edited ahead = record { each = λ want now store. and_then s.told new end.told (Restores s.store.pool.geometry want) (leaves_edit new logged.tells logged.leaves want now store) (ahead.each want now (IsAhead-edit want now store)) }

      pub Changes-edited : (want now : ℕ → List ℕ) → HoldsPages want now s → CatchesUp mid end e.page e.offset e.bytes → Changes s end e.o e.owner e.page e.offset e.bytes
      Changes-edited want now store caught =
          let size = size_of want now s.told s.size s.store.journal s.store.pool front store.0 store.1 e.o rest e.owner e.page e.offset e.image e.bytes (holds_first want now store) refl may.lt may.range may.long may.has may.held room_first may.clear in
          let within = may.range in
          let grown : IsLogged s.store.journal end.store.journal (change_len (the_wants s e) (length e.bytes)) = IsLogged-of s.store.journal s.store.journal end.store.journal (change_len (the_wants s e) (length e.bytes)) (change_len-some (the_wants s e) (length e.bytes)) (inl refl)
          (subst (λ (n : ℕ). IsSameOrForced (after_append n s.store.journal) end.store.journal) size (subst (λ (x : journal.State). IsSameOrForced x end.store.journal) logged.done caught.journal)) in
          record {
            image = e.image;
            was = λ wanted then at. was_at s.told then at.2.up at.2.pages;
            book = caught.book ∙ logged.added;
            pages = λ wanted then at. caught.pages wanted then (IsAhead-edit wanted then at);
            logged = λ wanted then opened pending holds.
                let h = caught.logged wanted then (IsAhead-edit wanted then (opened, pending, holds)) in
                (h.0, h.1, h.2, h.3 ∙ same_records opened pending (the_wants s e) e.o.tx (length e.o.undos) e.page e.image (the_change e));
            journal = grown;
            grows = Grows-logged s.store end.store (change_len (the_wants s e) (length e.bytes)) (change_len-some (the_wants s e) (length e.bytes)) (change_len-most (the_wants s e) (length e.bytes) (omega arith)) grown;
            least = least-logged s.store.journal end.store.journal (change_len (the_wants s e) (length e.bytes)) grown;
          }

-- ---- the same with the numbers that the call has
-- the change as the code has it, whose bytes before lie between two places
abbrev pub code_change : ℕ → ℕ → ℕ → ℕ → List ℕ → List ℕ → Change
code_change tx owner page offset image bytes = record { tx = tx; owner = owner; page = page; offset = offset; before = take ((offset + length bytes) - offset) (drop offset image); after = bytes }

pub code_change-is : (tx owner page offset : ℕ) (image bytes : List ℕ) → code_change tx owner page offset image bytes ≡ record { tx = tx; owner = owner; page = page; offset = offset; before = take (length bytes) (drop offset image); after = bytes }
code_change-is tx owner page offset image bytes = ap (λ (n : ℕ). record { tx = tx; owner = owner; page = page; offset = offset; before = take n (drop offset image); after = bytes }) (let e : (offset + length bytes) - offset ≡ length bytes = omega arith in e)

module _ (s : Parts) (e : Edit) (w : Wants) (n : ℕ) (is : transaction_with e.tx s.store.book.actives ≡ Some e.o) (wants : w ≡ the_wants s e) (stand : n ≡ standing_of e.tx s.store.book.actives) where
  own : e.tx ≡ e.o.tx
  own = sym (transaction_with-tx e.tx s.store.book.actives e.o is)

  b_is : before w e.tx n e.page e.image ≡ the_before s e
  b_is = ap (λ (v : Wants). before v e.tx n e.page e.image) wants ∙ ap (λ (t : ℕ). before (the_wants s e) t n e.page e.image) own
      ∙ ap (λ (k : ℕ). before (the_wants s e) e.o.tx k e.page e.image) (stand ∙ standing_of-found e.tx s.store.book.actives e.o is)

  c_is : code_change e.tx e.owner e.page e.offset e.image e.bytes ≡ the_change e
  c_is = code_change-is e.tx e.owner e.page e.offset e.image e.bytes ∙ ap (λ (t : ℕ). record { tx = t; owner = e.owner; page = e.page; offset = e.offset; before = take (length e.bytes) (drop e.offset e.image); after = e.bytes }) own

  -- what is said of them is so of the edit
  pub as_edit : (P : Before → Change → Type 0) → P (before w e.tx n e.page e.image) (code_change e.tx e.owner e.page e.offset e.image e.bytes) → P (the_before s e) (the_change e)
  as_edit P has = subst (λ (c : Change). P (the_before s e) c) c_is (subst (λ (b : Before). P b (code_change e.tx e.owner e.page e.offset e.image e.bytes)) b_is has)

  pub HasLogged-as : (new : Option Story) (len : ℕ) (k : journal.State) (b : Book) → LeavesChange s.told new s.store.journal s.store.pool.geometry (before w e.tx n e.page e.image) (code_change e.tx e.owner e.page e.offset e.image e.bytes)
      → StoresChange s.told new s.store.journal k s.store.pool.geometry (before w e.tx n e.page e.image) (code_change e.tx e.owner e.page e.offset e.image e.bytes) → k ≡ after_append (records_len w (length (spelling (Changed (code_change e.tx e.owner e.page e.offset e.image e.bytes))))) s.store.journal
      → b ≡ with_change s.store.book e.o (the_undo e) → is_some s.told ≡ is_some new → WhereTold s.told new (λ t u. AgreesBut (s.store.journal.log ∷ []) t.now.reads u.now.reads) → StandsOn new k → len ≡ s.size → HasLogged s e new len k b
  HasLogged-as new len k b leaves stores done added tells same stands sized = record {
    leaves = as_edit (LeavesChange s.told new s.store.journal s.store.pool.geometry) leaves;
    stores = as_edit (StoresChange s.told new s.store.journal k s.store.pool.geometry) stores;
    done = as_edit (λ p c. k ≡ after_append (records_len p.wants (length (spelling (Changed c)))) s.store.journal) done;
    added = added;
    tells = tells;
    same = same;
    stands = stands;
    sized = sized;
  }

-- the write fails only with a fault
pub AddErr-write : {T : Type 0} (result : Result T StoreFault) (a b : Parts) → IfErr result IsFaultOrDown → (IsErrOf result Down → ⊥) → IfErr result (AddErr a b)
AddErr-write (Ok x) _ _ err not_down = tt
AddErr-write (Err Fault) _ _ err not_down = tt
AddErr-write (Err Down) _ _ err not_down = absurd (not_down refl)
AddErr-write (Err (LogFull used need total)) _ _ err not_down = absurd err
AddErr-write (Err (GatesFull used total)) _ _ err not_down = absurd err
AddErr-write (Err NoMemory) _ _ err not_down = absurd err
