-- A store that is opened.
use Rattle.std.proofs.Common.{◌≡◌, ℕ, zero, suc, ◌<◌, ◌≤◌, true, false, Option, Some, None, List, [], ◌∷◌, length, replicate, get_or, refl, sym, ◌∙◌, ap, subst, arith}
use Rattle.std.proofs.lemmas.Bool.{false≢true}
use Rattle.std.proofs.lemmas.List.{get_or-replicate, length-replicate}
use Rattle.std.proofs.lemmas.List.Elements.{All-nil}
use Rattle.sb_disk.specs.Disk.{Story, WhereTold}
use Rattle.sb_disk.specs.Moments.{contents}
use Rattle.sb_journal.specs.Opening.{Opened, ReadAll, opened}
use Rattle.sb_journal.specs.State.{StandsOn, Sound, used_of}
use Rattle.sb_journal.specs.State as journal
use Rattle.sb_log.specs.declared.geometry.Geometry.{Geometry}
use Rattle.sb_images.specs.Layout.{need, IsGeometry, gates_of, log_of, page_at}
use Rattle.sb_images.specs.Store.{IfTold, IsMounted, IsReadyOn, AreShut}
use Rattle.sb_images.proofs.LayoutLemmas.{one_geometry}
use Rattle.sb_images.proofs.StoreLemmas.{IsStoreOn-empty}
use Rattle.sb_pool.specs.Pages.{bytes_or, AgreesOn, ArePagesOn}
use Rattle.sb_pool.specs.State.{Held, held, empty_pool}
use Rattle.sb_pool.specs.State as pool
use Rattle.sb_pool.proofs.TieLemmas.{AreTied-empty}
use Rattle.sb_recover.specs.Restarted.{IsRestarted}
use Rattle.sb_recover.proofs.MountLemmas.{IsMounted-pages, IsMounted-restarted, IsReadyOn-restarted}
use Rattle.sb_txn.specs.Book.{ActiveTransaction, Book, empty_book}
use Rattle.sb_txn.specs.Opened.{IsOpened}
use Rattle.sb_txn.specs.State.{together}
use Rattle.sb_txn.specs.Tied.{IsBookOf, HasReserve, Holds}
use Rattle.sb_txn.specs.Parts.{stored}

-- ---- the journal
module _ (g : Geometry) (j : journal.State) where
  some_open : (lens : List ℕ) (s : Story) → 0 < length lens → ReadAll (Some s) (gates_of g) (log_of g) lens → AreShut (Some s) g → ⊥
  some_open [] s some read shut = absurd (omega arith)
  some_open (n ∷ lens) s some read shut = shut 4096 (omega arith) (omega arith) read.1

  pub none_told : (told : Option Story) → AreShut told g → Opened told (gates_of g) (log_of g) j → 0 < length j.lens → told ≡ None
  none_told None shut is_opened some = refl
  none_told (Some s) shut is_opened some = absurd (some_open j.lens s some is_opened.read shut)

  pub none_told-unclean : (told : Option Story) → AreShut told g → Opened told (gates_of g) (log_of g) j → j.clean ≡ false → told ≡ None
  none_told-unclean None shut is_opened unclean = refl
  none_told-unclean (Some s) shut is_opened unclean = absurd (false≢true (sym unclean ∙ is_opened.clean.1 (λ i from to. shut i (omega arith) (omega arith))))

-- ---- behind a restart
module _ (g : Geometry) where
  -- the sizes are those that were mounted
  one_size : (want : ℕ → List ℕ) (h : Geometry) (old new : Option Story) → WhereTold old new (IsRestarted g) → IsMounted want old h → IfTold old (h ≡ g)
  one_size want h None new restart mounted = tt
  one_size want h (Some s) None restart mounted = absurd restart
  one_size want h (Some s) (Some t) restart mounted = one_geometry h g s.now.reads mounted.1.store restart.store

  mounted_here : (want : ℕ → List ℕ) (h : Geometry) (old new : Option Story) → WhereTold old new (IsRestarted g) → IsMounted want old h → IsMounted want old g
  mounted_here want h None new restart mounted = tt
  mounted_here want h (Some s) None restart mounted = absurd restart
  mounted_here want h (Some s) (Some t) restart mounted = subst (λ (x : Geometry). IsMounted want (Some s) x) (one_size want h (Some s) (Some t) restart mounted) mounted

  -- some pages are mounted
  some_pages : (old new : Option Story) → WhereTold old new (IsRestarted g) → IsMounted (λ p. page_at g p (contents new)) new g
  some_pages None new restart = subst (λ (m : Option Story). IsMounted (λ p. page_at g p (contents m)) m g) (sym restart) tt
  some_pages (Some s) None restart = absurd restart
  some_pages (Some s) (Some t) restart = IsMounted-pages g s t restart

-- ---- the pool and the book
none_held : (n p : ℕ) → get_or {A = Option Held} (replicate n None) p None ≡ None
none_held zero p = refl
none_held (suc n) zero = refl
none_held (suc n) (suc p) = none_held n p

pages_empty : (want : ℕ → List ℕ) (told : Option Story) (j : journal.State) (g : Geometry) → IsReadyOn want told j g [] [] → ArePagesOn want told j (empty_pool g)
pages_empty want None j g ready = tt
pages_empty want (Some s) j g ready = λ up q lt. ap (λ (h : Option Held). bytes_or (page_at g q s.now.reads) h) (none_held g.pages q) ∙ ready.same q lt

IsBookOf-empty : (count : ℕ) → IsBookOf count [] (empty_book count)
IsBookOf-empty count = record {
  images = λ q lt. get_or-replicate count q false false lt;
  count = length-replicate count false;
  actives = tt;
  fresh = tt;
  once = tt;
  most = omega arith;
}

HasReserve-empty : (g : Geometry) → HasReserve (opened (gates_of g) (log_of g) [] true) (empty_book g.pages)
HasReserve-empty g = record { few = All-nil (λ (o : ActiveTransaction). length o.undos ≤ 0); room = omega arith; gates = omega arith }

-- ---- the store
module _ (g : Geometry) (sizes : IsGeometry g) (size : ℕ) (room : need g.pages g.log ≤ size) (told : Option Story) (stands : StandsOn told (opened (gates_of g) (log_of g) [] true)) (agrees : AgreesOn told (opened (gates_of g) (log_of g) [] true) (empty_pool g)) where
  abbrev journal_of : journal.State
  journal_of = opened (gates_of g) (log_of g) [] true

  ties_open : (want : ℕ → List ℕ) → IsReadyOn want told journal_of g [] [] → Holds want want [] [] (stored told size journal_of (empty_pool g) (empty_book g.pages))
  ties_open want ready = record {
    up = refl;
    store = IsStoreOn-empty want told journal_of g ready;
    serves = record { sizes = sizes; room = room; gates = refl; log = refl; stands = stands; clean = refl; free = λ some. absurd (omega arith) };
    agrees = agrees;
    pages = pages_empty want told journal_of g ready;
    tied = AreTied-empty g (empty_pool g) refl journal_of [] [];
    knows = IsBookOf-empty g.pages;
    spare = HasReserve-empty g;
  }

-- What is opened behind a restart.
pub record Makes (old new : Option Story) (size : ℕ) (g : Geometry) (j : journal.State) (p : pool.State) (book : Book) : Type 0 where
  pub restart : WhereTold old new (IsRestarted g)
  pub sizes : IsGeometry g
  pub room : need g.pages g.log ≤ size
  pub empty : j ≡ opened (gates_of g) (log_of g) [] true
  pub read : Opened new (gates_of g) (log_of g) j
  pub sound : Sound j
  pub stands : StandsOn new j
  pub agrees : AgreesOn new j p
  pub no_page : p ≡ empty_pool g
  pub no_record : book ≡ empty_book g.pages

module _ (old new : Option Story) (before size : ℕ) (g : Geometry) (j : journal.State) (p : pool.State) (book : Book) (makes : Makes old new size g j p book) where
  ties_made : (want : ℕ → List ℕ) → IsMounted want new g → Holds want want [] [] (stored new size j p book)
  ties_made want mounted =
      let ready = IsReadyOn-restarted g want old new j makes.restart mounted makes.read makes.sound makes.stands in
      let stands = subst (λ (k : journal.State). StandsOn new k) makes.empty makes.stands in
      let agrees = subst (λ (x : pool.State). AgreesOn new (opened (gates_of g) (log_of g) [] true) x) makes.no_page (subst (λ (k : journal.State). AgreesOn new k p) makes.empty makes.agrees) in
      subst (λ (k : journal.State). Holds want want [] [] (stored new size k p book)) (sym makes.empty)
      (subst (λ (x : pool.State). Holds want want [] [] (stored new size (opened (gates_of g) (log_of g) [] true) x book)) (sym makes.no_page)
      (subst (λ (b : Book). Holds want want [] [] (stored new size (opened (gates_of g) (log_of g) [] true) (empty_pool g) b)) (sym makes.no_record)
      (ties_open g makes.sizes size makes.room new stands agrees want (subst (λ (k : journal.State). IsReadyOn want new k g [] []) makes.empty ready))))

  geometry_is : p.geometry ≡ g
  geometry_is = ap (λ (x : pool.State). x.geometry) makes.no_page

  pub IsOpened-made : IsOpened (record { told = old; size = before; store = together j p book }) (record { told = new; size = size; store = together j p book })
  IsOpened-made = record {
    book = makes.no_record ∙ ap (λ (h : Geometry). empty_book h.pages) (sym geometry_is);
    lens = ap (λ (k : journal.State). k.lens) makes.empty;
    restart = subst (λ (h : Geometry). WhereTold old new (IsRestarted h)) (sym geometry_is) makes.restart;
    ready = λ _. ((λ q. page_at g q (contents new)), (λ q. page_at g q (contents new)), ([], [], ties_made (λ q. page_at g q (contents new)) (some_pages g old new makes.restart)));
    sizes = λ want h mounted. subst (λ (x : Geometry). IfTold old (h ≡ x)) (sym geometry_is) (one_size g want h old new makes.restart mounted);
    pages = λ want h mounted. ties_made want (IsMounted-restarted g want old new makes.restart (mounted_here g want h old new makes.restart mounted));
  }
