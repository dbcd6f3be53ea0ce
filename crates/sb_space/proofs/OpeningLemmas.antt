-- A store that was just opened, while its table is looked through.
use Rattle.std.proofs.Common.{◌≡◌, ℕ, ◌<◌, ◌≤◌, true, false, Option, Some, None, is_some, Result, Ok, Err, IsErrOf, List, [], ◌∷◌, ◌++◌, length, get_or, refl, sym, ap, subst, ◌∙◌, arith}
use Rattle.std.proofs.lemmas.Bool.{false≢true}
use Rattle.std.specs.Result.{IsErrAnd}
use Rattle.std.proofs.lemmas.List.{get_or-replicate}
use Rattle.sb_disk.specs.Causes.{Rose}
use Rattle.sb_disk.proofs.CauseLemmas.{Rose-later}
use Rattle.sb_disk.specs.Disk.{Story, WhereTold}
use Rattle.sb_images.specs.Layout.{page_at}
use Rattle.sb_images.specs.Store.{IfTold, IsMounted, IsStoreOn}
use Rattle.sb_log.specs.declared.geometry.Geometry.{Geometry}
use Rattle.sb_log.proofs.PageLemmas.{IsPage-long}
use Rattle.sb_log.specs.Records.{Record}
use Rattle.sb_pool.specs.State.{Held, held, AreClean}
use Rattle.sb_pool.specs.Pages.{bytes_or, ArePagesOn}
use Rattle.sb_recover.specs.declared.fault.OpenFault.{OpenFault}
use Rattle.sb_recover.specs.declared.fault.OpenFault.TheVariants.{Fault, TooSmall, NotStore, BadLog, MissingExtension, Damaged, BadExtensions, AlreadyStore, NoMemory}
use Rattle.sb_recover.specs.Restarted.{IsRestarted}
use Rattle.sb_txn.specs.Book.{Book, views, empty_book}
use Rattle.sb_txn.specs.Clauses.{IsReady, HoldsPages, StaysReady, Loads}
use Rattle.sb_txn.specs.Parts.{Parts, parts}
use Rattle.sb_txn.specs.Tied.{Holds}
use Rattle.sb_txn.specs.Opened.{IsOpened, OpenErr}
use Rattle.sb_txn.specs.State.{State}
use Rattle.sb_space.specs.Table.{IsTable, table_len}
use Rattle.sb_space.specs.Opening.{AreEntries, AreTablePages, IsFirstDamaged, IsFresh, IsSpace, IsTablePage, NamesDamage, OnlyLoads, PageErr, SpaceErr, TableErr, WhereNow}
use Rattle.sb_space.proofs.TablePages.{tables_by_pages}

-- ---- the pages now
-- a page that is held is the page now, where the disk tells its bytes
pub held-page : (p : Parts) (n : ℕ) (h : Held) → n < p.store.pool.geometry.pages → held p.store.pool n ≡ Some h → WhereNow p (λ now. h.bytes ≡ now n)
held-page p n h less is want now store tells = by_told p.told tells store.2.pages
  where
    by_told : (told : Option Story) → is_some told ≡ true → ArePagesOn now told p.store.journal p.store.pool → h.bytes ≡ now n
    by_told None tells pages = absurd (false≢true tells)
    by_told (Some t) tells pages = sym (ap (bytes_or (page_at p.store.pool.geometry n t.now.reads)) is) ∙ pages store.2.up n less

-- there is only one page now of each number
one_now : (p : Parts) (n : ℕ) (want other a b : ℕ → List ℕ) → n < p.store.pool.geometry.pages → HoldsPages want a p → HoldsPages other b p → is_some p.told ≡ true → a n ≡ b n
one_now p n want other a b less one two tells = by_told p.told tells one.2.pages two.2.pages
  where
    by_told : (told : Option Story) → is_some told ≡ true → ArePagesOn a told p.store.journal p.store.pool → ArePagesOn b told p.store.journal p.store.pool → a n ≡ b n
    by_told None tells first second = absurd (false≢true tells)
    by_told (Some t) tells first second = sym (first one.2.up n less) ∙ second two.2.up n less

-- each page now has 4,096 bytes
now-long : (p : Parts) (n : ℕ) → n < p.store.pool.geometry.pages → WhereNow p (λ now. length (now n) ≡ 4096)
now-long p n less want now store tells = by_told p.told tells store.2.store
  where
    by_told : (told : Option Story) → is_some told ≡ true → IsStoreOn want now told p.store.journal p.store.pool.geometry store.0 store.1 (views p.store.book.actives) → length (now n) ≡ 4096
    by_told None tells on = absurd (false≢true tells)
    by_told (Some t) tells on = IsPage-long (store.0 ++ store.1) (views p.store.book.actives) _ (now n) n (on.whole.pages n less)

-- ---- a fresh store
module _ (p : Parts) (fresh : IsFresh p) where
  pub fresh-up : p.store.book.down ≡ false
  fresh-up = ap (λ (b : Book). b.down) fresh.book

  pub fresh-few : p.store.pool.geometry.pages ≤ 65536
  fresh-few = let some = fresh.ready fresh-up in some.2.2.serves.sizes.pages.1

  pub fresh-none : p.store.book.actives ≡ []
  fresh-none = ap (λ (b : Book). b.actives) fresh.book

  -- no page of it has an image, so that none is dirty
  pub fresh-clean : AreClean p.store.pool
  fresh-clean q less dirty =
      let ties = (fresh.ready fresh-up).2.2 in
      let none : get_or p.store.book.imaged q false ≡ false = ap (λ (b : Book). get_or b.imaged q false) fresh.book ∙ get_or-replicate p.store.pool.geometry.pages q false false less in
      false≢true (sym none ∙ ties.knows.images q less ∙ ties.tied.imaged q dirty)

-- ---- pages that are brought into memory
pub OnlyLoads-none : (p : Parts) → IsReady p → OnlyLoads p p
OnlyLoads-none p ready = record {
  told = refl;
  size = refl;
  geometry = refl;
  book = refl;
  journal = refl;
  ready = ready;
  logged = λ want now opened pending holds. (opened, pending, holds, refl);
}

pub OnlyLoads-then : (a b c : Parts) → OnlyLoads a b → OnlyLoads b c → OnlyLoads a c
OnlyLoads-then a b c one two = record {
  told = two.told ∙ one.told;
  size = two.size ∙ one.size;
  geometry = two.geometry ∙ one.geometry;
  book = two.book ∙ one.book;
  journal = two.journal ∙ one.journal;
  ready = two.ready;
  logged = λ want now opened pending holds.
      let first = one.logged want now opened pending holds in
      let second = two.logged want now first.0 first.1 first.2 in
      (second.0, second.1, second.2, second.3 ∙ first.3);
}

module _ {D : Type 0} (told : D → Option Story) (len faults : D → ℕ) (d e : D) (s t : State) where
  pub OnlyLoads-loaded : {R : Type 0} (x : R) → (AreClean s.pool → (told e ≡ told d) × (t.journal ≡ s.journal)) → StaysReady told len faults d e s t (Ok x) → Loads (parts told len d s) (parts told len e t) → IsFresh (parts told len d s) → OnlyLoads (parts told len d s) (parts told len e t)
  OnlyLoads-loaded x reads keeps loads fresh =
      let only = reads (fresh-clean (parts told len d s) fresh) in
      record {
        told = only.0;
        size = keeps.size;
        geometry = keeps.geometry;
        book = loads.book;
        journal = only.1;
        ready = keeps.ready;
        logged = loads.logged;
      }

module _ (a b : Parts) (loads : OnlyLoads a b) where
  pub IsFresh-loads : IsFresh a → IsFresh b
  IsFresh-loads fresh = record {
    ready = loads.ready;
    book = loads.book ∙ fresh.book ∙ ap (λ (g : Geometry). empty_book g.pages) (sym loads.geometry);
  }

  pub store-loads : (want now : ℕ → List ℕ) → HoldsPages want now a → HoldsPages want now b
  store-loads want now store = let h = loads.logged want now store.0 store.1 store.2 in (h.0, h.1, h.2)

  tells-loads : is_some a.told ≡ true → is_some b.told ≡ true
  tells-loads tells = ap (λ (x : Option Story). is_some x) loads.told ∙ tells

  -- what is so of the pages now later on is so of those now
  pub WhereNow-before : (IsSo : (ℕ → List ℕ) → Type 0) → WhereNow b IsSo → WhereNow a IsSo
  WhereNow-before IsSo so want now store tells = so want now (store-loads want now store) (tells-loads tells)

  -- and what was so of each page now is so still
  pub WhereNow-later : IsFresh a → (pages : ℕ) (IsSo : ℕ → List ℕ → Type 0) (count : ℕ) → count ≤ a.store.pool.geometry.pages → WhereNow a (λ now. (n : ℕ) → n < count → IsSo n (now n)) → WhereNow b (λ now. (n : ℕ) → n < count → IsSo n (now n))
  WhereNow-later fresh pages IsSo count few so want now store tells n less =
      let some = fresh.ready (fresh-up a fresh) in
      let still = store-loads some.0 some.1 some.2 in
      let size = ap (λ (g : Geometry). g.pages) loads.geometry in
      let same = one_now b n some.0 want some.1 now (omega (arith, size, less, few)) still store tells in
      subst (IsSo n) same (so some.0 some.1 some.2 (sym (ap (λ (x : Option Story). is_some x) loads.told) ∙ tells) n less)

-- ---- a page of the table
module _ (a b : Parts) (loads : OnlyLoads a b) (p pages : ℕ) (bytes : List ℕ) (same : pages ≡ a.store.pool.geometry.pages) (here : WhereNow b (λ now. bytes ≡ now p)) where
  pub IsTablePage-looked : AreEntries pages p bytes → WhereNow a (λ now. IsTablePage a.store.pool.geometry.pages now p)
  IsTablePage-looked entries want now store tells =
      subst (λ (n : ℕ). AreEntries n p (now p)) same (subst (AreEntries pages p) (WhereNow-before a b loads (λ now. bytes ≡ now p) here want now store tells) entries)

  pub IsTablePage-never : (AreEntries pages p bytes → ⊥) → WhereNow a (λ now. IsTablePage a.store.pool.geometry.pages now p → ⊥)
  IsTablePage-never never want now store tells formed =
      never (subst (AreEntries pages p) (sym (WhereNow-before a b loads (λ now. bytes ≡ now p) here want now store tells)) (subst (λ (n : ℕ). AreEntries n p (now p)) (sym same) formed))

-- ---- what was opened
nil_front : {A : Type 0} (xs ys : List A) → xs ++ ys ≡ [] → xs ≡ []
nil_front [] ys is = refl
nil_front (x ∷ xs) ys is = absurd (cc)

nil_behind : {A : Type 0} (xs ys : List A) → xs ++ ys ≡ [] → ys ≡ []
nil_behind [] ys is = is
nil_behind (x ∷ xs) ys is = absurd (cc)

module _ (was old a b : Parts) (same : old.told ≡ was.told) (opened : IsOpened was a) where
  pub IsFresh-opened : IsFresh a
  IsFresh-opened = record { ready = opened.ready; book = opened.book }

  pub IsOpened-loads : OnlyLoads a b → IsOpened old b
  IsOpened-loads loads = record {
    book = (IsFresh-loads a b loads IsFresh-opened).book;
    lens = ap (λ j. j.lens) loads.journal ∙ opened.lens;
    restart = subst (λ (x : Option Story). WhereTold x b.told (IsRestarted b.store.pool.geometry)) (sym same)
        (subst (λ (g : Geometry). WhereTold was.told b.told (IsRestarted g)) (sym loads.geometry) (subst (λ (x : Option Story). WhereTold was.told x (IsRestarted a.store.pool.geometry)) (sym loads.told) opened.restart));
    ready = loads.ready;
    sizes = λ want g mounted. subst (λ (x : Option Story). IfTold x (g ≡ b.store.pool.geometry)) (sym same)
        (subst (λ (h : Geometry). IfTold was.told (g ≡ h)) (sym loads.geometry) (opened.sizes want g (subst (λ (x : Option Story). IsMounted want x g) same mounted)));
    pages = λ want g mounted.
        let h = loads.logged want want [] [] (opened.pages want g (subst (λ (x : Option Story). IsMounted want x g) same mounted)) in
        subst (λ (recs : List Record). Holds want want [] recs b) (nil_behind h.0 h.1 h.3)
        (subst (λ (recs : List Record). Holds want want recs h.1 b) (nil_front h.0 h.1 h.3) h.2);
  }

-- ---- the space
few_tables : (pages : ℕ) → table_len pages ≤ pages
few_tables pages = omega arith

module _ (a b : Parts) (loads : OnlyLoads a b) (fresh : IsFresh a) (formed : WhereNow a (λ now. AreTablePages a.store.pool.geometry.pages now (table_len a.store.pool.geometry.pages))) where
  pub IsSpace-looked : IsSpace b
  IsSpace-looked =
      let pages = a.store.pool.geometry.pages in
      let size : b.store.pool.geometry.pages ≡ pages = ap (λ (g : Geometry). g.pages) loads.geometry in
      let later = WhereNow-later a b loads fresh pages (AreEntries pages) (table_len pages) (few_tables pages) formed in
      let table : WhereNow b (IsTable b.store.pool.geometry.pages) = λ want now store tells. subst (λ (n : ℕ). IsTable n now) (sym size) ((tables_by_pages pages now).1 (later want now store tells)) in
      let after = IsFresh-loads a b loads fresh in
      record {
        table = table;
        has = λ want now store tells bytes. record {
          now = now;
          stands = record { tells = tells; store = store; whole = λ n less. record { long = now-long b n less want now store tells; small = bytes n less } };
          table = table want now store tells;
          slots = refl;
        };
        few = fresh-few b after;
        none = fresh-none b after;
      }

-- ---- refusals
module _ (was : Option Story) (a : Parts) (told : Option Story) (same : told ≡ a.told) (before after : ℕ) where
  module _ (old : Parts) (is : old.told ≡ was) (opened : IsOpened old a) where
    damage : (page : ℕ) → WhereNow a (λ now. IsFirstDamaged a.store.pool.geometry.pages now page) → (x : Option Story) → x ≡ old.told → (want : ℕ → List ℕ) (g : Geometry) → IsMounted want x g → IfTold x (IsFirstDamaged g.pages want page)
    damage page found None at want g mounted = tt
    damage page found (Some s) at want g mounted =
        let here = subst (λ (x : Option Story). IsMounted want x g) at mounted in
        let size = told_as (Some s) old.told (g ≡ a.store.pool.geometry) at (opened.sizes want g here) in
        subst (λ (h : Geometry). IsFirstDamaged h.pages want page) (sym size) (found want want ([], [], opened.pages want g here) (tells (Some s) a.told refl (subst (λ (x : Option Story). WhereTold x a.told (IsRestarted a.store.pool.geometry)) (sym at) opened.restart)))
      where
        told_as : (x y : Option Story) (A : Type 0) → x ≡ y → IfTold y A → IfTold x A
        told_as x y A same has = subst (λ (z : Option Story). IfTold z A) (sym same) has

        tells : (x y : Option Story) → is_some x ≡ true → WhereTold x y (IsRestarted a.store.pool.geometry) → is_some y ≡ true
        tells None y some restart = absurd (false≢true some)
        tells (Some s) None some restart = absurd restart
        tells (Some s) (Some t) some restart = refl

    pub NamesDamage-looked : (e : OpenFault) → TableErr a before after e → NamesDamage e was
    NamesDamage-looked (Damaged page) err = λ want g mounted. damage page err was (sym is) want g mounted
    NamesDamage-looked Fault err = tt
    NamesDamage-looked (TooSmall have need) err = tt
    NamesDamage-looked NotStore err = tt
    NamesDamage-looked (BadLog chunk offset) err = tt
    NamesDamage-looked (MissingExtension code) err = tt
    NamesDamage-looked (BadExtensions code) err = tt
    NamesDamage-looked AlreadyStore err = tt
    NamesDamage-looked NoMemory err = tt

    pub SpaceErr-looked : (e : OpenFault) → TableErr a before after e → SpaceErr e was told
    SpaceErr-looked (Damaged page) err = (a.store.pool.geometry, subst (λ (x : Option Story). WhereTold was x (IsRestarted a.store.pool.geometry)) (sym same) (subst (λ (x : Option Story). WhereTold x a.told (IsRestarted a.store.pool.geometry)) is opened.restart))
    SpaceErr-looked Fault err = tt
    SpaceErr-looked (TooSmall have need) err = absurd err
    SpaceErr-looked NotStore err = absurd err
    SpaceErr-looked (BadLog chunk offset) err = absurd err
    SpaceErr-looked (MissingExtension code) err = absurd err
    SpaceErr-looked (BadExtensions code) err = absurd err
    SpaceErr-looked AlreadyStore err = absurd err
    SpaceErr-looked NoMemory err = absurd err

-- what the opening of a store refuses names no page
module _ (was told : Option Story) where
  pub NamesDamage-opened : (e : OpenFault) → OpenErr e was told → NamesDamage e was
  NamesDamage-opened (Damaged page) err = absurd err
  NamesDamage-opened Fault err = tt
  NamesDamage-opened (TooSmall have need) err = tt
  NamesDamage-opened NotStore err = tt
  NamesDamage-opened (BadLog chunk offset) err = tt
  NamesDamage-opened (MissingExtension code) err = tt
  NamesDamage-opened (BadExtensions code) err = tt
  NamesDamage-opened AlreadyStore err = tt
  NamesDamage-opened NoMemory err = tt

  pub SpaceErr-opened : (e : OpenFault) → OpenErr e was told → SpaceErr e was told
  SpaceErr-opened (Damaged page) err = absurd err
  SpaceErr-opened Fault err = err
  SpaceErr-opened (TooSmall have need) err = err
  SpaceErr-opened NotStore err = err
  SpaceErr-opened (BadLog chunk offset) err = err
  SpaceErr-opened (MissingExtension code) err = err
  SpaceErr-opened (BadExtensions code) err = err
  SpaceErr-opened AlreadyStore err = err
  SpaceErr-opened NoMemory err = err

-- a page that is refused behind others that have the form
module _ (a b : Parts) (loads : OnlyLoads a b) (page : ℕ) (within : page < table_len a.store.pool.geometry.pages)
    (formed : WhereNow a (λ now. AreTablePages a.store.pool.geometry.pages now page)) (before middle after : ℕ) (later : before ≤ middle) where
  pub TableErr-page : (e : OpenFault) → PageErr page b middle after e → TableErr a before after e
  TableErr-page (Damaged n) err =
      let size : b.store.pool.geometry.pages ≡ a.store.pool.geometry.pages = ap (λ (g : Geometry). g.pages) loads.geometry in
      subst (λ (x : ℕ). WhereNow a (λ now. IsFirstDamaged a.store.pool.geometry.pages now x)) (sym err.0) (λ want now store tells. record {
        within = within;
        damaged = λ is. WhereNow-before a b loads (λ now. IsTablePage b.store.pool.geometry.pages now page → ⊥) err.1 want now store tells (subst (λ (x : ℕ). IsTablePage x now page) (sym size) is);
        before = formed want now store tells;
      })
  TableErr-page Fault err = Rose-later before middle after later err
  TableErr-page (TooSmall have need) err = absurd err
  TableErr-page NotStore err = absurd err
  TableErr-page (BadLog chunk offset) err = absurd err
  TableErr-page (MissingExtension code) err = absurd err
  TableErr-page (BadExtensions code) err = absurd err
  TableErr-page AlreadyStore err = absurd err
  TableErr-page NoMemory err = absurd err

pub TableErr-fault : (a : Parts) (before middle after : ℕ) (e : OpenFault) → before ≤ middle → TableErr a middle after e → e ≡ Fault → Rose before after
TableErr-fault a before middle after e later err is = Rose-later before middle after later (subst (TableErr a middle after) is err)

-- the error that a `?` hands on, where it is a fault
pub handed-fault : {T : Type 0} (r : Result T OpenFault) (e : OpenFault) → IsErrAnd r (λ f. f ≡ e) → IsErrOf r Fault → e ≡ Fault
handed-fault (Ok x) e same is = absurd same
handed-fault (Err f) e same is = sym same ∙ (let here : f ≡ Fault = cc in here)
