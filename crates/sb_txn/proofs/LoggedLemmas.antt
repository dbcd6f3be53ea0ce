-- A store with the records of a change in its log.
use Rattle.std.proofs.Common.{◌≡◌, ⊎_elim, ℕ, zero, suc, ◌+◌, ◌<◌, ◌≤◌, Bool, true, false, cond, not, Option, Some, None, is_some, IsSome, List, [], ◌∷◌, ◌++◌, length, take, drop, slice_index_or, slice_set, refl, sym, ◌∙◌, ap, subst, arith}
use Rattle.std.specs.List.{All}
use Rattle.std.proofs.lemmas.Bool.{false≢true, cases_eq}
use Rattle.std.proofs.lemmas.List.{length_push, length-set, length-take, length-drop, get_or-set_same, get_or-set_other}
use Rattle.std.proofs.lemmas.List.Elements.{All-head, All-tail, All-cons}
use Rattle.sb_disk.specs.Disk.{Story, Range, WhereTold, AgreesBut}
use Rattle.sb_disk.specs.Moments.{LeavesOnly}
use Rattle.sb_journal.specs.Chunks.{bytes_of}
use Rattle.sb_journal.specs.State.{StandsOn, used_of, room_of, sealed, after_append}
use Rattle.sb_journal.specs.State as journal
use Rattle.sb_journal.proofs.RegionLemmas.{none_sure}
use Rattle.sb_log.specs.declared.geometry.Geometry.{Geometry}
use Rattle.sb_log.specs.Records.{Change, Record, Changed, spelling}
use Rattle.sb_log.specs.Restored.{imaged}
use Rattle.sb_log.specs.Views.{Active, active_with, IsInactive}
use Rattle.sb_log.specs.Whole.{with_range}
use Rattle.sb_log.proofs.RecordLemmas.{length-change}
use Rattle.sb_images.specs.Images.{Restores}
use Rattle.sb_images.specs.Layout.{page_at, gates_of, log_of, place_of}
use Rattle.sb_images.specs.Store.{IsStoreOn}
use Rattle.sb_images.proofs.LayoutLemmas.{page_off_log, page_at-AgreesBut}
use Rattle.sb_pool.specs.Calls.{Serves}
use Rattle.sb_pool.specs.Pages.{bytes_or, ArePagesOn, with_bytes}
use Rattle.sb_pool.specs.State.{Held, held, IsHeld}
use Rattle.sb_pool.specs.State as pool
use Rattle.sb_pool.proofs.StoreLemmas.{SamePages, AgreesOn-same, ArePagesOn-same}
use Rattle.sb_txn.specs.declared.changing.Wants.{Wants}
use Rattle.sb_txn.specs.Ahead.{Leans}
use Rattle.sb_txn.specs.Book.{Undo, ActiveTransaction, Book, AreClear, views, begun_in, changed_transaction, with_actives, with_change, wants_of, change_len}
use Rattle.sb_txn.specs.Changing.{before, IsNext}
use Rattle.sb_txn.specs.Clauses.{HasRoom}
use Rattle.sb_txn.specs.Parts.{stored}
use Rattle.sb_txn.specs.Logging.{HasSpace, records_len}
use Rattle.sb_txn.specs.State.{together}
use Rattle.sb_txn.specs.Tied.{UndoFits, AreTransactionsOf, AreOnce, IsBookOf, HasReserve, Holds}
use Rattle.sb_txn.proofs.ChangesLemmas.{changed, imaged-changed, imaged-other, imaged-page, AreBelow-changed, IsTransactionOf-changed}
use Rattle.sb_txn.proofs.EndLemmas.{few_more}
use Rattle.sb_txn.proofs.OthersLemmas.{own-changed, AreTransactionsOf-still, IsFree-others}
use Rattle.sb_txn.proofs.RoomLemmas.{gates-lens}

-- ---- room
cond-most : (b : Bool) (n : ℕ) → cond b n 0 ≤ n
cond-most true n = omega arith
cond-most false n = omega arith

begun_most : (os : List ActiveTransaction) → begun_in os ≤ length os
begun_most [] = omega arith
begun_most (o ∷ os) = let h = begun_most os in let c = cond-most o.begun 1 in omega arith

room_of-most : (m : ℕ) → room_of m ≤ 4 + m
room_of-most zero = omega arith
room_of-most (suc m) = omega arith

room_of-least : (m : ℕ) → m ≤ room_of m
room_of-least zero = omega arith
room_of-least (suc m) = omega arith

room_of-some : (m : ℕ) → 0 < m → room_of m ≡ 4 + m
room_of-some zero some = absurd (omega arith)
room_of-some (suc m) some = refl

-- the bytes of a change's records
pub change_len-some : (w : Wants) (count : ℕ) → 0 < change_len w count
change_len-some w count = omega arith

pub change_len-most : (w : Wants) (count : ℕ) → count ≤ 4096 → change_len w count ≤ 12396
change_len-most w count le =
    let x = cond-most w.begin 5 in
    let y = cond-most w.back 9 in
    let z = cond-most w.image 4101 in
    omega arith

used-append : (j k : journal.State) (m : ℕ) → 0 < m → k ≡ after_append m j → used_of k ≡ bytes_of j.lens + 4 + j.pending + m
used-append j k m some done = ap (λ (x : journal.State). used_of x) done ∙ (let e = room_of-some (j.pending + m) (omega arith) in omega arith)

-- ---- a page that is held
bytes_or-held : (h : Option Held) → IsSome h → (a b : List ℕ) → bytes_or a h ≡ bytes_or b h
bytes_or-held None some a b = absurd (false≢true some)
bytes_or-held (Some h) some a b = refl

pub is_now : (now : ℕ → List ℕ) (s : Story) (j : journal.State) (p : pool.State) (page : ℕ) (image : List ℕ) → j.failed ≡ false → IsHeld p page → bytes_or [] (held p page) ≡ image → page < p.geometry.pages → ArePagesOn now (Some s) j p → image ≡ now page
is_now now s j p page image up has is lt pages = sym is ∙ bytes_or-held (held p page) has [] (page_at p.geometry page s.now.reads) ∙ pages up page lt

-- ---- pages that are elsewhere than the log
module _ (g : Geometry) (j : journal.State) (gates : j.gates ≡ gates_of g) (log : j.log ≡ log_of g) where
  pub SamePages-log : (told new : Option Story) → WhereTold told new (λ s t. AgreesBut (j.log ∷ []) s.now.reads t.now.reads) → WhereTold told new (SamePages g)
  SamePages-log None new same = same
  SamePages-log (Some s) None same = same
  SamePages-log (Some s) (Some t) same = record { pages = λ p. page_at-AgreesBut g p (j.log ∷ []) s.now.reads t.now.reads same (page_off_log g j gates log p [] (none_sure (place_of g p) 4096)) }

-- ---- the change may come next
-- the first transaction changes a range of a page
module _ (now : ℕ → List ℕ) (p : pool.State) (book : Book) (opened pending : List Record) (o : ActiveTransaction) (rest : List ActiveTransaction) (owner page offset : ℕ) (image bytes : List ℕ)
    (knows : IsBookOf p.geometry.pages (opened ++ pending) book) (is : book.actives ≡ o ∷ rest) (lt : page < p.geometry.pages) (range : offset + length bytes ≤ 4096) (long : length image ≡ 4096) where
  abbrev recs : List Record
  recs = opened ++ pending

  abbrev pub edit_undo : Undo
  edit_undo = record { page = page; offset = offset; before = take (length bytes) (drop offset image) }

  abbrev pub edit_change : Change
  edit_change = record { tx = o.tx; owner = owner; page = page; offset = offset; before = take (length bytes) (drop offset image); after = bytes }

  abbrev pub edit_records : List Record
  edit_records = changed opened pending (wants_of book o page) o.tx (length o.undos) page image edit_change

  abbrev pub edit_book : Book
  edit_book = with_actives (with_change book o edit_undo) (changed_transaction o edit_undo ∷ rest)

  transactions : AreTransactionsOf p.geometry.pages recs book.next (o ∷ rest)
  transactions = subst (λ (l : List ActiveTransaction). AreTransactionsOf p.geometry.pages recs book.next l) is knows.actives

  once : IsInactive o.tx (views rest) × AreOnce rest
  once = subst (λ (l : List ActiveTransaction). AreOnce l) is knows.once

  size_before : length (take (length bytes) (drop offset image)) ≡ length bytes
  size_before = let a = length-take (length bytes) (drop offset image) in let b = length-drop offset image in omega arith

  not_not : (b : Bool) → not (not b) ≡ b
  not_not true = refl
  not_not false = refl

  covered : imaged recs page ≡ not (not (slice_index_or book.imaged page false))
  covered = sym (knows.images page lt) ∙ sym (not_not (slice_index_or book.imaged page false))

  pub edit_next : AreClear page offset (length bytes) rest → image ≡ now page → IsNext (before (wants_of book o page) o.tx (length o.undos) page image) now opened pending (views rest) edit_change
  edit_next clear here = record {
    of_tx = refl;
    of_page = refl;
    is = here;
    fits = range;
    beneath = record { size = size_before; is = ap (λ (l : List ℕ). take (length bytes) (drop offset l)) here };
    logged = transactions.0.logged;
    covered = covered;
    free = IsFree-others p.geometry.pages book.next opened pending edit_change (length o.undos) rest (wants_of book o page) page image transactions.1 once.0 once.1 clear;
  }

  is_imaged : imaged (opened ++ edit_records) page ≡ true
  is_imaged = imaged-page opened pending (wants_of book o page) o.tx (length o.undos) page image edit_change covered

  edit_fits : UndoFits p.geometry.pages (opened ++ edit_records) edit_undo
  edit_fits = record { page = lt; within = let e = size_before in omega arith; covered = is_imaged }

  below_count : page < length book.imaged
  below_count = let e = knows.count in omega arith

  images_now : (q : ℕ) → q < p.geometry.pages → slice_index_or edit_book.imaged q false ≡ imaged (opened ++ edit_records) q
  images_now q below = ⊎_elim
      (λ (here : page ≡ q). subst (λ (n : ℕ). slice_index_or (slice_set book.imaged page true) n false ≡ imaged (opened ++ edit_records) n) here (get_or-set_same book.imaged page true false below_count ∙ sym is_imaged))
      (λ (other : page ≡ q → ⊥). get_or-set_other book.imaged page q true false (λ e. other (sym e)) ∙ knows.images q below ∙ sym (imaged-other opened pending (wants_of book o page) o.tx (length o.undos) page image edit_change q other))
      (cases_eq page q)

  pub edit_knows : IsBookOf p.geometry.pages (opened ++ edit_records) edit_book
  edit_knows = record {
    images = images_now;
    count = length-set book.imaged page true ∙ knows.count;
    actives = (
      IsTransactionOf-changed p.geometry.pages opened pending book.next page image o (wants_of book o page) edit_undo edit_change refl refl (record { page = refl; offset = refl; before = refl; size = size_before }) transactions.0 edit_fits,
      AreTransactionsOf-still p.geometry.pages recs (opened ++ edit_records) book.next o.tx rest once.0
          (λ t other. own-changed opened pending t o.tx other (wants_of book o page) (length o.undos) page image edit_change refl)
          (λ q has. imaged-changed opened pending (wants_of book o page) o.tx (length o.undos) page image edit_change q has) transactions.1,
    );
    fresh = AreBelow-changed opened pending (wants_of book o page) o.tx (length o.undos) page image edit_change book.next transactions.0.number refl knows.fresh;
    once = once;
    most = let e = ap (λ (l : List ActiveTransaction). length l) is in let a = knows.most in omega arith;
  }

-- ---- with room
module _ (want now : ℕ → List ℕ) (told : Option Story) (size : ℕ) (j : journal.State) (p : pool.State) (book : Book) (opened pending : List Record) (o : ActiveTransaction) (rest : List ActiveTransaction) (owner page offset : ℕ) (image bytes : List ℕ)
    (holds : Holds want now opened pending (stored told size j p book)) (is : book.actives ≡ o ∷ rest) (lt : page < p.geometry.pages) (range : offset + length bytes ≤ 4096) (long : length image ≡ 4096)
    (has : IsHeld p page) (bytes_held : bytes_or [] (held p page) ≡ image) (room : HasRoom (together j p book) o page (length bytes)) (clear : AreClear page offset (length bytes) rest) where
  abbrev w : Wants
  w = wants_of book o page

  abbrev c : Change
  c = record { tx = o.tx; owner = owner; page = page; offset = offset; before = take (length bytes) (drop offset image); after = bytes }

  abbrev u : Undo
  u = record { page = page; offset = offset; before = take (length bytes) (drop offset image) }

  abbrev act : List Active
  act = active_with o.tx (length o.undos) ∷ views rest

  abbrev more : List Record
  more = changed opened pending w o.tx (length o.undos) page image c

  abbrev m : ℕ
  m = records_len w (length (spelling (Changed c)))

  -- what the log takes
  pub size_of : m ≡ change_len w (length bytes)
  size_of =
      let a = length-change c in
      let b = length-take (length bytes) (drop offset image) in
      let d = length-drop offset image in
      omega arith

  len_some : 15 ≤ change_len w (length bytes)
  len_some = omega arith

  one_active : length book.actives ≡ suc (length rest)
  one_active = ap (λ (l : List ActiveTransaction). length l) is

  pub edit_space : HasSpace m j
  edit_space = record { up = holds.up; bytes = let a = room.bytes in let b = room_of-least j.pending in let e = size_of in omega arith }

  store_at : IsStoreOn want now told j p.geometry opened pending act
  store_at = subst (λ (l : List ActiveTransaction). IsStoreOn want now told j p.geometry opened pending (views l)) is holds.store

  next : (s : Story) → ArePagesOn now (Some s) j p → IsNext (before w o.tx (length o.undos) page image) now opened pending (views rest) c
  next s pages = edit_next now p book opened pending o rest owner page offset image bytes holds.knows is lt range long clear (is_now now s j p page image holds.up has bytes_held lt pages)

  -- a disk that tells nothing has any store
  by_told : (a b : Option Story) (P : Type 0) → is_some a ≡ is_some b → ArePagesOn now a j p → (a ≡ None → b ≡ None → P) → (IsNext (before w o.tx (length o.undos) page image) now opened pending (views rest) c → P) → P
  by_told None None P tells pages none some = none refl refl
  by_told None (Some t) P tells pages none some = absurd (false≢true tells)
  by_told (Some s) b P tells pages none some = some (next s pages)

  module _ (new : Option Story) (tells : is_some told ≡ is_some new) where
    pub edit_leaves : (IsNext (before w o.tx (length o.undos) page image) now opened pending (views rest) c → IsStoreOn want now told j p.geometry opened pending act → LeavesOnly told new (Restores p.geometry want)) → LeavesOnly told new (Restores p.geometry want)
    edit_leaves leaves = by_told told new (LeavesOnly told new (Restores p.geometry want)) tells holds.pages
        (λ a b. subst (λ (x : Option Story). LeavesOnly x new (Restores p.geometry want)) (sym a) (subst (λ (x : Option Story). LeavesOnly None x (Restores p.geometry want)) (sym b) none_leaves))
        (λ is_next. leaves is_next store_at)
      where
        none_leaves : LeavesOnly None None (Restores p.geometry want)
        none_leaves = record { tells = refl; later = omega arith; before = λ t image lt left. absurd left; since = λ t image le left. absurd left }

    module _ (len : ℕ) (k : journal.State) (done : k ≡ after_append m j) (same : WhereTold told new (λ s t. AgreesBut (j.log ∷ []) s.now.reads t.now.reads)) (stands : StandsOn new k) (sized : len ≡ size) where
      edit_store : (IsNext (before w o.tx (length o.undos) page image) now opened pending (views rest) c → IsStoreOn want now told j p.geometry opened pending act
          → IsStoreOn want (with_range c bytes now) new k p.geometry opened more (active_with o.tx (suc (length o.undos)) ∷ views rest))
          → IsStoreOn want (with_bytes page offset bytes now) new k p.geometry opened more (views (changed_transaction o u ∷ rest))
      edit_store stored =
          subst (λ (n : ℕ). IsStoreOn want (with_bytes page offset bytes now) new k p.geometry opened more (active_with o.tx n ∷ views rest)) (let e = length_push o.undos u in omega arith)
          (by_told told new (IsStoreOn want (with_range c bytes now) new k p.geometry opened more (active_with o.tx (suc (length o.undos)) ∷ views rest)) tells holds.pages
          (λ a b. subst (λ (x : Option Story). IsStoreOn want (with_range c bytes now) x k p.geometry opened more (active_with o.tx (suc (length o.undos)) ∷ views rest)) (sym b) tt)
          (λ is_next. stored is_next store_at))

      up_now : k.failed ≡ false
      up_now = ap (λ (x : journal.State). x.failed) done ∙ holds.up

      same_pages : WhereTold told new (SamePages p.geometry)
      same_pages = SamePages-log p.geometry j holds.serves.gates holds.serves.log told new same

      used_now : used_of k ≡ bytes_of j.lens + 4 + j.pending + m
      used_now = used-append j k m (let e = size_of in let s = len_some in omega arith) done

      -- the log only grows
      reaches : p.position ≤ used_of k
      reaches = let a = holds.agrees.position in let b = used_now in let d = room_of-most j.pending in omega arith

      edit_serves : Serves new len k p.geometry
      edit_serves = record {
        sizes = holds.serves.sizes;
        room = let h = holds.serves.room in omega arith;
        gates = ap (λ (x : journal.State). x.gates) done ∙ holds.serves.gates;
        log = ap (λ (x : journal.State). x.log) done ∙ holds.serves.log;
        stands = stands;
        clean = ap (λ (x : journal.State). x.clean) done ∙ holds.serves.clean;
        free = λ pending_some.
            let l = ap (λ (x : journal.State). length x.lens) done in
            let g = ap (λ (x : journal.State). x.gates.len) done in
            let e = ap (λ (x : Range). x.len) holds.serves.gates in
            let h = room.gates in
            let q = one_active in
            omega arith;
      }

      edit_spare : HasReserve k (with_actives (with_change book o u) (changed_transaction o u ∷ rest))
      edit_spare =
          let q = one_active in
          let us = used_now in
          let e = size_of in
          let s = len_some in
          let r = room_of-most j.pending in
          let rl = room_of-least j.pending in
          record {
            few = All-cons (λ (x : ActiveTransaction). length x.undos ≤ used_of k) (changed_transaction o u) rest
                (let a = All-head (λ (x : ActiveTransaction). length x.undos ≤ used_of j) o rest (subst (λ (l : List ActiveTransaction). All (λ (x : ActiveTransaction). length x.undos ≤ used_of j) l) is holds.spare.few) in let b = length_push o.undos u in omega arith)
                (few_more (used_of j) (used_of k) rest (let a = room.bytes in let b = room_of-most j.pending in omega arith)
                (All-tail (λ (x : ActiveTransaction). length x.undos ≤ used_of j) o rest (subst (λ (l : List ActiveTransaction). All (λ (x : ActiveTransaction). length x.undos ≤ used_of j) l) is holds.spare.few)));
            room = let a = room.bytes in let b = begun_most rest in let l = ap (λ (x : journal.State). x.log.len) done in omega arith;
            gates =
                let m = begun_most rest in
                let a = room.gates in
                let l = ap (λ (x : journal.State). length x.lens) done in
                let g = ap (λ (x : journal.State). x.gates.len) done in
                let b = ap (λ (x : Range). x.len) holds.serves.gates in
                let d = gates-lens k in
                omega arith;
          }

      pub Leans-logged : (IsNext (before w o.tx (length o.undos) page image) now opened pending (views rest) c → IsStoreOn want now told j p.geometry opened pending act
          → IsStoreOn want (with_range c bytes now) new k p.geometry opened more (active_with o.tx (suc (length o.undos)) ∷ views rest))
          → Leans want now (with_bytes page offset bytes now) opened more (stored new len k p (with_actives (with_change book o u) (changed_transaction o u ∷ rest)))
      Leans-logged stored = record {
        up = up_now;
        store = edit_store stored;
        serves = edit_serves;
        agrees = AgreesOn-same j k (λ up. holds.up) p told new same_pages reaches holds.agrees;
        pages = ArePagesOn-same j k (λ up. holds.up) now p told new same_pages holds.pages;
        tied = record {
          imaged = λ q dirty. imaged-changed opened pending w o.tx (length o.undos) page image c q (holds.tied.imaged q dirty);
          forced = λ within. holds.tied.forced (subst (λ (x : journal.State). p.position ≤ bytes_of x.lens) done within);
        };
        knows = edit_knows now p book opened pending o rest owner page offset image bytes holds.knows is lt range long;
        spare = edit_spare;
      }

      pub covered-logged : imaged (opened ++ more) page ≡ true
      covered-logged = is_imaged now p book opened pending o rest owner page offset image bytes holds.knows is lt range long
