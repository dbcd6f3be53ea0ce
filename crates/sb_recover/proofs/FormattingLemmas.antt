-- What a crash leaves while a store is made, and what is made.
use Rattle.std.proofs.Common.{◌≡◌, inl, inr, ⊎_elim, ℕ, ◌<◌, ◌≤◌, true, false, Option, Some, None, is_some, Result, Ok, Err, OnOk, OnErr, List, [], ◌∷◌, length, get_or, take, drop, refl, sym, ◌∙◌, ap, subst, arith}
use Rattle.std.proofs.lemmas.Bool.{cases_eq, cases_lt}
use Rattle.std.proofs.lemmas.List.{get_or-take, ext_get_or}
use Rattle.sb_bytes.specs.Bytes.{splice}
use Rattle.sb_disk.specs.Disk.{Range, Story, Fits, WhereTold, AgreesBut, Reads, wrote, synced}
use Rattle.sb_disk.specs.Moments.{LeavesOnly, LeavesTorn, IsSettled, Sized, Sure, Step, Write, Sync, RanOk, RanErr, AllAlong, AllWithin}
use Rattle.sb_disk.proofs.RangeLemmas.{AgreesBut-slice, AgreesBut-byte, splice-AgreesBut}
use Rattle.sb_disk.proofs.MomentLemmas.{started, weaker, ran_ok, ran_err, IsSettled-LeavesNow, IsSettled-none}
use Rattle.sb_journal.specs.Chunks.{IsOpen}
use Rattle.sb_journal.proofs.RegionLemmas.{none_sure, sure_more}
use Rattle.sb_log.specs.declared.geometry.Geometry.{Geometry}
use Rattle.sb_images.specs.Layout.{need, IsGeometry, place_of, page_at, super_of, IsSuper, IsStoreOf}
use Rattle.sb_images.specs.Images.{Restores}
use Rattle.sb_images.proofs.LayoutLemmas.{IsStoreOf-gate, page_at-AgreesBut}
use Rattle.sb_images.proofs.ImageLemmas.{Restores-empty}
use Rattle.sb_recover.specs.FirstPages.{super_page, first_page}
use Rattle.sb_recover.specs.SuperPage.{IsNoStore}
use Rattle.sb_recover.proofs.SuperLemmas.{FindsOn}
use Rattle.sb_recover.specs.Laying.{IsGate, ShutsGate, IsLaid}
use Rattle.sb_recover.specs.Formatting.{IsFormatting, HoldsStore, KeepsStore, IsNew}
use Rattle.sb_recover.specs.Geometries.{HoldsNone}
use Rattle.sb_recover.proofs.FirstPageLemmas.{IsSuper-super_page, super_page-open}
use Rattle.sb_recover.proofs.LaidLemmas.{IsWithin-byte}

-- ---- a run of calls, of either end
pub ran_call : {T E : Type 0} (result : Result T E) (steps : List Step) (size clock : ℕ) (a new : Option Story) (P : List ℕ → Type 0) → Fits size clock a → AllWithin size steps → LeavesOnly a a P → AllAlong steps a P
    → OnOk result (RanOk steps a new) → OnErr result (RanErr steps a new) → LeavesOnly a new P
ran_call result steps size clock a new P fits within start along ok err = either result ok err
  where
    sized : (o : Option Story) → Fits size clock o → Sized size o
    sized None fits = tt
    sized (Some s) fits = fits.bytes

    either : {T E : Type 0} (result : Result T E) → OnOk result (RanOk steps a new) → OnErr result (RanErr steps a new) → LeavesOnly a new P
    either (Ok x) ok err = ran_ok steps size a a new P (sized a fits) within start along ok
    either (Err e) ok err = ran_err steps size a a new P (sized a fits) within start along err

-- ---- the gate
abbrev gate : Range
gate = record { start = 0; len = 1 }

off_gate : (at count : ℕ) → 1 ≤ at → Sure at count (gate ∷ [])
off_gate at count from = sure_more at count gate [] (none_sure at count) (inr (omega arith))

-- an image whose gate is shut is one of no store
pub shut_none : (image : List ℕ) → ¬ IsOpen image 0 → IsNoStore image
shut_none image shut g store = shut (IsStoreOf-gate g image store)

-- two images that differ in the gate alone
pub same_but_gate : (old new : List ℕ) → AgreesBut (gate ∷ []) old new → get_or old 0 0 ≡ get_or new 0 0 → old ≡ new
same_but_gate old new agrees same = ext_get_or 0 old new agrees.size
    (λ i below. ⊎_elim
    (λ (first : i < 1). let is : 0 ≡ i = omega arith in subst (λ (j : ℕ). get_or old j 0 ≡ get_or new j 0) is same)
    (λ (behind : 1 ≤ i). AgreesBut-byte (gate ∷ []) old new 1 i i agrees (off_gate 1 i (omega arith)) behind (omega arith))
    (cases_lt i 1))

-- where no byte is pending, a write may change its own bytes alone
settled_torn : (at count : ℕ) (s : Story) (image : List ℕ) → IsSettled (Some s) → LeavesTorn at count (Some s) image → AgreesBut (record { start = at; len = count } ∷ []) s.now.reads image
settled_torn at count s image settled torn = record { size = torn.size; bytes = λ i out. torn.bytes i (λ covered. ⊎_elim (λ here. out (inl here)) (λ there. settled i there) covered) }

-- where no byte is pending and the contents are no store, a crash leaves none
pub LeavesOnly-none : (o : Option Story) → IsSettled o → HoldsNone o → LeavesOnly o o IsNoStore
LeavesOnly-none None settled none = started None IsNoStore (λ image left. absurd left)
LeavesOnly-none (Some s) settled none = started (Some s) IsNoStore (λ image left. subst IsNoStore (sym (IsSettled-LeavesNow (Some s) settled image left)) none)

-- and so does one while the gate is shut
closing_torn : (o : Option Story) → IsSettled o → HoldsNone o → IsGate o 165 → (image : List ℕ) → LeavesTorn 0 1 o image → IsNoStore image
closing_torn None settled none is image torn = absurd torn
closing_torn (Some s) settled none is image torn = ⊎_elim
    (λ (is_open : get_or image 0 0 ≡ 165). subst IsNoStore (same_but_gate s.now.reads image (settled_torn 0 1 s image settled torn) (is ∙ sym is_open)) none)
    (λ (shut : ¬ (get_or image 0 0 ≡ 165)). shut_none image shut)
    (cases_eq (get_or image 0 0) 165)

pub LeavesOnly-shut : {T E : Type 0} (result : Result T E) (size clock : ℕ) (o p : Option Story) → Fits size clock o → 1 ≤ size → IsGate o 165
    → OnOk result (RanOk (Write 0 (0 ∷ []) ∷ Sync ∷ []) o p) → OnErr result (RanErr (Write 0 (0 ∷ []) ∷ Sync ∷ []) o p) → IsSettled o → HoldsNone o → LeavesOnly o p IsNoStore
LeavesOnly-shut result size clock o p fits room is ok err settled none =
    ran_call result (Write 0 (0 ∷ []) ∷ Sync ∷ []) size clock o p IsNoStore fits (room, tt) (LeavesOnly-none o settled none) (closing_torn o settled none is, tt) ok err

-- ---- while all but the gate is written
laying_torn : (count : ℕ) (s t : Story) → IsSettled (Some s) → ShutsGate s t → (image : List ℕ) → LeavesTorn 1 count (Some t) image → IsNoStore image
laying_torn count s t settled shut image torn =
    let agrees = settled_torn 1 count t image (shut.settled settled) torn in
    let same : get_or t.now.reads 0 0 ≡ get_or image 0 0 = AgreesBut-byte (record { start = 1; len = count } ∷ []) t.now.reads image 0 1 0 agrees
    (sure_more 0 1 (record { start = 1; len = count }) [] (none_sure 0 1) (inl (omega arith))) (omega arith) (omega arith) in
    shut_none image (λ is_open. shut.gate (same ∙ is_open))

pub LeavesOnly-lay : (count : ℕ) (o p q : Option Story) → WhereTold o p ShutsGate → IsSettled o → LeavesOnly p q (LeavesTorn 1 count p) → LeavesOnly p q IsNoStore
LeavesOnly-lay count o p q shut settled run = weaker p q (LeavesTorn 1 count p) IsNoStore (torn_none o p shut settled) run
  where
    torn_none : (o p : Option Story) → WhereTold o p ShutsGate → IsSettled o → (image : List ℕ) → LeavesTorn 1 count p image → IsNoStore image
    torn_none None p shut settled image torn = absurd (subst (λ (r : Option Story). LeavesTorn 1 count r image) shut torn)
    torn_none (Some s) None shut settled image torn = absurd torn
    torn_none (Some s) (Some t) shut settled image torn = laying_torn count s t settled shut image torn

-- ---- what is made
-- the first page, from its first byte on
first_bytes : (xs : List ℕ) → 0 < length xs → take 4096 xs ≡ get_or xs 0 0 ∷ take 4095 (drop 1 xs)
first_bytes [] some = absurd (omega arith)
first_bytes (x ∷ xs) some = refl

module _ (g : Geometry) (sizes : IsGeometry g) (s t : Story) (laid : IsLaid g s t) (room : need g.pages g.log ≤ length t.now.reads) (image : List ℕ) (agrees : AgreesBut (gate ∷ []) t.now.reads image) (is_open : get_or image 0 0 ≡ 165) where
  made_super : super_of image ≡ super_page g
  made_super =
      let long = agrees.size in
      let behind : take 4095 (drop 1 image) ≡ drop 1 (super_page g) = sym (AgreesBut-slice (gate ∷ []) t.now.reads image 1 4095 agrees (off_gate 1 4095 (omega arith))) ∙ laid.super in
      first_bytes image (omega arith)
      ∙ ap (λ (x : ℕ). x ∷ take 4095 (drop 1 image)) is_open
      ∙ ap (λ (xs : List ℕ). 165 ∷ xs) behind
      ∙ super_page-open g

  made_store : IsStoreOf g image
  made_store = record {
    sizes = sizes;
    super = subst (λ (p : List ℕ). IsSuper g p) (sym made_super) (IsSuper-super_page g sizes);
    room = (let long = agrees.size in omega arith);
  }

  made_byte : (i : ℕ) → 1 ≤ i → get_or image i 0 ≡ get_or t.now.reads i 0
  made_byte i from = sym (AgreesBut-byte (gate ∷ []) t.now.reads image i 1 i agrees (off_gate i 1 from) (omega arith) (omega arith))

  made_shut : (i : ℕ) → 4096 ≤ i → i < 69632 → ¬ IsOpen image i
  made_shut i from to is = let zero = sym (made_byte i (omega arith) ∙ laid.gates i from to) ∙ is in absurd (omega arith)

  made_page : (p : ℕ) → p < g.pages → page_at g p image ≡ first_page g.pages p
  made_page p lt = page_at-AgreesBut g p (gate ∷ []) t.now.reads image agrees (off_gate (place_of g p) 4096 (omega arith)) ∙ laid.pages p lt

  made_restores : Restores g (first_page g.pages) image
  made_restores = Restores-empty g (first_page g.pages) image made_store (λ below. made_shut 4096 (omega arith) (omega arith)) made_page

-- a crash while the gate is opened
opening_torn : (g : Geometry) (sizes : IsGeometry g) (s t : Story) → IsLaid g s t → need g.pages g.log ≤ length t.now.reads → (image : List ℕ) → LeavesTorn 0 1 (Some t) image → IsFormatting g image
opening_torn g sizes s t laid room image torn = ⊎_elim
    (λ (is_open : get_or image 0 0 ≡ 165). inr (made_restores g sizes s t laid room image (settled_torn 0 1 t image (IsSettled-none t laid.settled) torn) is_open))
    (λ (shut : ¬ (get_or image 0 0 ≡ 165)). inl (shut_none image shut))
    (cases_eq (get_or image 0 0) 165)

pub formatting : (g : Geometry) (o p : Option Story) → LeavesOnly o p IsNoStore → LeavesOnly o p (IsFormatting g)
formatting g o p run = weaker o p IsNoStore (IsFormatting g) (λ image none. inl none) run

module _ (g : Geometry) (sizes : IsGeometry g) (size clock : ℕ) (room : need g.pages g.log ≤ size) where
  torn_on : (p q : Option Story) → Fits size clock q → WhereTold p q (IsLaid g) → (image : List ℕ) → LeavesTorn 0 1 q image → IsFormatting g image
  torn_on None q fits laid image torn = absurd (subst (λ (r : Option Story). LeavesTorn 0 1 r image) laid torn)
  torn_on (Some s) None fits laid image torn = absurd torn
  torn_on (Some s) (Some t) fits laid image torn = let e : length t.now.reads ≡ size = fits.bytes in opening_torn g sizes s t laid (omega arith) image torn

  idle_on : (p q : Option Story) → Fits size clock q → WhereTold p q (IsLaid g) → LeavesOnly q q (IsFormatting g)
  idle_on None q fits laid = subst (λ (r : Option Story). LeavesOnly r r (IsFormatting g)) (sym laid) (started None (IsFormatting g) (λ image left. absurd left))
  idle_on (Some s) None fits laid = started None (IsFormatting g) (λ image left. absurd left)
  idle_on (Some s) (Some t) fits laid = started (Some t) (IsFormatting g)
      (λ image left. torn_on (Some s) (Some t) fits laid image (record { size = left.size; bytes = λ i out. left.bytes i (λ covered. out (inr covered)) }))

  pub LeavesOnly-open : {T E : Type 0} (result : Result T E) (p q r : Option Story) → Fits size clock q → WhereTold p q (IsLaid g)
      → OnOk result (RanOk (Write 0 (165 ∷ []) ∷ Sync ∷ []) q r) → OnErr result (RanErr (Write 0 (165 ∷ []) ∷ Sync ∷ []) q r) → LeavesOnly q r (IsFormatting g)
  LeavesOnly-open result p q r fits laid ok err =
      ran_call result (Write 0 (165 ∷ []) ∷ Sync ∷ []) size clock q r (IsFormatting g) fits (omega arith, tt) (idle_on p q fits laid) (torn_on p q fits laid, tt) ok err

  -- the gate is open, and on the disk
  new_some : (s t u : Story) → length u.now.reads ≡ size → IsNoStore s.now.reads → ShutsGate s t → IsLaid g t u → IsNew g (Some s) (synced (wrote 0 (165 ∷ []) (Some u)))
  new_some s t u long none shut laid =
      let image = splice 0 (165 ∷ []) u.now.reads in
      let agrees = splice-AgreesBut 0 (165 ∷ []) u.now.reads (omega arith) in
      let here : need g.pages g.log ≤ length u.now.reads = omega arith in
      record {
        before = none;
        mounted = ((λ i none. none), made_restores g sizes t u laid here image agrees refl);
        pages = λ p lt. (none_sure (place_of g p) 4096, made_page g sizes t u laid here image agrees refl p lt);
        super = made_super g sizes t u laid here image agrees refl;
        shut = made_shut g sizes t u laid here image agrees refl;
        zeros = λ i from to. made_byte g sizes t u laid here image agrees refl i (omega arith) ∙ laid.gates i from to;
        log = λ i from to. made_byte g sizes t u laid here image agrees refl i (omega arith) ∙ laid.log i from to ∙ IsWithin-byte 0 1 i s t (inr (omega arith)) shut.within;
      }

  new_none : (r : Option Story) → r ≡ None → IsNew g None r
  new_none r is = subst (λ (n : Option Story). IsNew g None n) (sym is) (record { before = tt; mounted = tt; pages = tt; super = tt; shut = tt; zeros = tt; log = refl })

  pub IsNew-on : (o p q r : Option Story) → Fits size clock q → HoldsNone o → WhereTold o p ShutsGate → WhereTold p q (IsLaid g) → RanOk (Write 0 (165 ∷ []) ∷ Sync ∷ []) q r → IsNew g o r
  IsNew-on None p q r fits none shut laid ran =
      new_none r (ran ∙ ap (λ (n : Option Story). synced (wrote 0 (165 ∷ []) n)) (subst (λ (n : Option Story). WhereTold n q (IsLaid g)) shut laid))
  IsNew-on (Some s) None q r fits none shut laid ran = absurd shut
  IsNew-on (Some s) (Some t) None r fits none shut laid ran = absurd laid
  IsNew-on (Some s) (Some t) (Some u) r fits none shut laid ran = subst (λ (n : Option Story). IsNew g (Some s) n) (sym ran) (new_some s t u fits.bytes none shut laid)

-- ---- what is found first
pub HoldsStore-found : (o : Option Story) (found : Option Geometry) → FindsOn o found → is_some found ≡ true → HoldsStore o
HoldsStore-found None found finds is = tt
HoldsStore-found (Some s) None finds is = absurd (cc is)
HoldsStore-found (Some s) (Some g) finds is = (g, finds)

pub HoldsNone-found : (o : Option Story) (found : Option Geometry) → FindsOn o found → is_some found ≡ false → HoldsNone o
HoldsNone-found None found finds is = tt
HoldsNone-found (Some s) None finds is = finds
HoldsNone-found (Some s) (Some g) finds is = absurd (cc is)

-- the first byte of a page that was read in front
pub IsGate-read : (o : Option Story) (page : List ℕ) → length page ≡ 4096 → Reads o 0 page → IsGate o (get_or page 0 0)
IsGate-read None page long reads = tt
IsGate-read (Some s) page long reads = sym (ap (λ (l : List ℕ). get_or l 0 0) reads ∙ get_or-take (length page) s.now.reads 0 0 (omega arith))

-- ---- a store that was there
pub KeepsStore-same : (o p : Option Story) → p ≡ o → KeepsStore o p
KeepsStore-same None p same = tt
KeepsStore-same (Some s) p same = λ g store. same

pub KeepsStore-none : (o p : Option Story) → HoldsNone o → KeepsStore o p
KeepsStore-none None p none = tt
KeepsStore-none (Some s) p none = λ g store. absurd (none g store)
