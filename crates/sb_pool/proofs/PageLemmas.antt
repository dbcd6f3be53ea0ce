-- What becomes of the pages of a pool when one of them is put into memory, or is written there.
use Rattle.std.proofs.Common.{◌≡◌, ◌⊎◌, inl, inr, ⊎_elim, ℕ, zero, suc, ◌<◌, false, Option, Some, None, IsSome, List, length, take, drop, map, get_or, set, replicate, refl, sym, ◌∙◌, ap, subst, arith}
use Rattle.std.proofs.lemmas.Bool.{cases_eq, false≢true}
use Rattle.std.proofs.lemmas.List.{map-set, length-map, get_or-map, get_or-set_same, get_or-set_other}
use Rattle.sb_disk.specs.Disk.{Story, Reads}
use Rattle.sb_journal.specs.State as journal
use Rattle.sb_log.specs.declared.geometry.Geometry.{Geometry}
use Rattle.sb_images.specs.Layout.{place_of, page_at}
use Rattle.sb_pool.specs.declared.frame.Frame.{Frame}
use Rattle.sb_pool.specs.declared.pool.Pool.TheInside.{Inside}
use Rattle.sb_pool.specs.State.{Held, State, held, IsHeld, IsWritten, IsDirty, NoneMoreDirty, empty_pool}
use Rattle.sb_pool.specs.Pages.{bytes_or, pool_page, IsClean, PagesAgreeOn, AgreesOn, KeepsPages}
use Rattle.sb_pool.specs.Frames.{held_of, IsLoaded}
use Rattle.sb_pool.specs.View.{state_of}

-- ---- one page is put in the place of another
pub record Puts (pool after : State) (page : ℕ) (h : Option Held) : Type 0 where
  pub geometry : after.geometry ≡ pool.geometry
  pub here : held after page ≡ h
  pub others : (q : ℕ) → ¬ (q ≡ page) → held after q ≡ held pool q

-- the frame of a page holds it
pub held-frame : (a : Inside) (pool : State) (page : ℕ) (f : Frame) → state_of a ≡ pool → page < length a.frames.items → f ≡ get_or a.frames.items page f → held pool page ≡ held_of f
held-frame a pool page f is below at =
    ap (λ (s : State). held s page) (sym is) ∙ get_or-map held_of a.frames.items page f None below ∙ ap held_of (sym at)

-- a frame is changed
Puts-inside : (a : Inside) (page : ℕ) (f : Frame) (position : ℕ) → page < length a.frames.items
    → Puts (state_of a) (record { geometry = a.geometry; pages = map held_of (set a.frames.items page f); position = position }) page (held_of f)
Puts-inside a page f position below =
    let moved = map-set held_of a.frames.items page f in
    let room : page < length (map held_of a.frames.items) = subst (λ (n : ℕ). page < n) (sym (length-map a.frames.items held_of)) below in
    record {
      geometry = refl;
      here = ap (λ (l : List (Option Held)). get_or l page None) moved ∙ get_or-set_same (map held_of a.frames.items) page (held_of f) None room;
      others = λ q other. ap (λ (l : List (Option Held)). get_or l q None) moved ∙ get_or-set_other (map held_of a.frames.items) page q (held_of f) None other;
    }

pub Puts-frame : (a : Inside) (pool : State) (page : ℕ) (f : Frame) (position : ℕ) → state_of a ≡ pool → page < length a.frames.items
    → Puts pool (record { geometry = a.geometry; pages = map held_of (set a.frames.items page f); position = position }) page (held_of f)
Puts-frame a pool page f position is below =
    subst (λ (s : State). Puts s (record { geometry = a.geometry; pages = map held_of (set a.frames.items page f); position = position }) page (held_of f)) is (Puts-inside a page f position below)

-- so many bytes of a page
abbrev page_take : ℕ → Geometry → ℕ → List ℕ → List ℕ
page_take n g q reads = take n (drop (place_of g q) reads)

-- ---- pages are held now as the disk has them
-- a page that wasn't held is held, and is as the disk has it
pub record IsFresh (told : Option Story) (g : Geometry) (q : ℕ) (old new : Option Held) : Type 0 where
  pub none : old ≡ None
  pub bytes : List ℕ
  pub some : new ≡ Some (record { bytes = bytes; dirty = false })
  pub reads : Reads told (place_of g q) bytes
  pub long : length bytes ≡ 4096

-- each page is held as it was, or as the disk has it
pub record Loads (told : Option Story) (pool after : State) : Type 0 where
  pub geometry : after.geometry ≡ pool.geometry
  pub each : (q : ℕ) → (held after q ≡ held pool q) ⊎ IsFresh told pool.geometry q (held pool q) (held after q)

loaded_here : (told : Option Story) (g : Geometry) (page at : ℕ) (old new : Option Held) (bytes : List ℕ) → at ≡ place_of g page → length bytes ≡ 4096 → IsLoaded told at old new bytes → (new ≡ old) ⊎ IsFresh told g page old new
loaded_here told g page at None new bytes is long loaded = inr (record { none = refl; bytes = bytes; some = loaded.0; reads = subst (λ (n : ℕ). Reads told n bytes) is loaded.1; long = long })
loaded_here told g page at (Some h) new bytes is long loaded = inl loaded

pub Loads-puts : (told : Option Story) (pool after : State) (page at : ℕ) (h : Option Held) (bytes : List ℕ) → Puts pool after page h → at ≡ place_of pool.geometry page → length bytes ≡ 4096
    → IsLoaded told at (held pool page) h bytes → Loads told pool after
Loads-puts told pool after page at h bytes puts is long loaded = record {
  geometry = puts.geometry;
  each = λ q. ⊎_elim
      (λ (e : q ≡ page). subst (λ (x : ℕ). (held after x ≡ held pool x) ⊎ IsFresh told pool.geometry x (held pool x) (held after x)) (sym e)
      (subst (λ (n : Option Held). (n ≡ held pool page) ⊎ IsFresh told pool.geometry page (held pool page) n) (sym puts.here) (loaded_here told pool.geometry page at (held pool page) h bytes is long loaded)))
      (λ (other : ¬ (q ≡ page)). inl (puts.others q other))
      (cases_eq q page);
}

-- where a page was put in its own place
pub Loads-same : (told : Option Story) (pool after : State) (page : ℕ) (h : Option Held) → Puts pool after page h → h ≡ held pool page → Loads told pool after
Loads-same told pool after page h puts same = record {
  geometry = puts.geometry;
  each = λ q. ⊎_elim
      (λ (e : q ≡ page). inl (ap (λ (x : ℕ). held after x) e ∙ puts.here ∙ same ∙ ap (λ (x : ℕ). held pool x) (sym e)))
      (λ (other : ¬ (q ≡ page)). inl (puts.others q other))
      (cases_eq q page);
}

-- its frame has something now
loaded_some : (told : Option Story) (at : ℕ) (old new : Option Held) (bytes : List ℕ) → IsLoaded told at old new bytes → IsSome new
loaded_some told at None new bytes loaded = subst (λ (h : Option Held). IsSome h) (sym loaded.0) refl
loaded_some told at (Some h) new bytes loaded = subst (λ (h : Option Held). IsSome h) (sym loaded) refl

pub IsHeld-puts : (told : Option Story) (pool after : State) (page at : ℕ) (h : Option Held) (bytes : List ℕ) → Puts pool after page h → IsLoaded told at (held pool page) h bytes → IsHeld after page
IsHeld-puts told pool after page at h bytes puts loaded = subst (λ (x : Option Held). IsSome x) (sym puts.here) (loaded_some told at (held pool page) h bytes loaded)

module _ (pool after : State) where
  page_same : (s : Story) (q : ℕ) → after.geometry ≡ pool.geometry → (held after q ≡ held pool q) ⊎ IsFresh (Some s) pool.geometry q (held pool q) (held after q) → pool_page (Some s) after q ≡ pool_page (Some s) pool q
  page_same s q geometry each = ap (λ (g : Geometry). bytes_or (page_at g q s.now.reads) (held after q)) geometry ∙ ⊎_elim
      (λ (same : held after q ≡ held pool q). ap (λ (h : Option Held). bytes_or (page_at pool.geometry q s.now.reads) h) same)
      (λ (fresh : IsFresh (Some s) pool.geometry q (held pool q) (held after q)).
      ap (λ (h : Option Held). bytes_or (page_at pool.geometry q s.now.reads) h) fresh.some
      ∙ fresh.reads ∙ ap (λ (n : ℕ). page_take n pool.geometry q s.now.reads) fresh.long
      ∙ ap (λ (h : Option Held). bytes_or (page_at pool.geometry q s.now.reads) h) (sym fresh.none))
      each

  pages_loaded : (told : Option Story) (j : journal.State) → Loads told pool after → KeepsPages j pool after told told
  pages_loaded None j loads = refl
  pages_loaded (Some s) j loads = λ up p lt. page_same s p loads.geometry (loads.each p)

  pub Loads-pages : (told new : Option Story) (j : journal.State) → new ≡ told → Loads told pool after → KeepsPages j pool after told new
  Loads-pages told new j same loads = subst (λ (n : Option Story). KeepsPages j pool after told n) (sym same) (pages_loaded told j loads)

  clean_here : (s : Story) (q : ℕ) → (held after q ≡ held pool q) ⊎ IsFresh (Some s) pool.geometry q (held pool q) (held after q) → IsClean (held pool q) (page_at pool.geometry q s.now.reads) → IsClean (held after q) (page_at pool.geometry q s.now.reads)
  clean_here s q each clean = ⊎_elim
      (λ (same : held after q ≡ held pool q). subst (λ (h : Option Held). IsClean h (page_at pool.geometry q s.now.reads)) (sym same) clean)
      (λ (fresh : IsFresh (Some s) pool.geometry q (held pool q) (held after q)).
      subst (λ (h : Option Held). IsClean h (page_at pool.geometry q s.now.reads)) (sym fresh.some)
      (λ is. fresh.reads ∙ ap (λ (n : ℕ). page_take n pool.geometry q s.now.reads) fresh.long))
      each

  agrees_loaded : (told : Option Story) (j : journal.State) → Loads told pool after → PagesAgreeOn told j pool → PagesAgreeOn told j after
  agrees_loaded None j loads agrees = tt
  agrees_loaded (Some s) j loads agrees = λ up p lt.
      let below : p < pool.geometry.pages = subst (λ (g : Geometry). p < g.pages) loads.geometry lt in
      subst (λ (g : Geometry). IsClean (held after p) (page_at g p s.now.reads)) (sym loads.geometry) (clean_here s p (loads.each p) (agrees up p below))

  pub Loads-agrees : (told new : Option Story) (j : journal.State) → new ≡ told → Loads told pool after → PagesAgreeOn told j pool → PagesAgreeOn new j after
  Loads-agrees told new j same loads agrees = subst (λ (n : Option Story). PagesAgreeOn n j after) (sym same) (agrees_loaded told j loads agrees)

  pub Loads-dirty : (told : Option Story) → Loads told pool after → NoneMoreDirty pool after
  Loads-dirty told loads = λ p dirty. ⊎_elim
      (λ (same : held after p ≡ held pool p). subst IsWritten same dirty)
      (λ (fresh : IsFresh told pool.geometry p (held pool p) (held after p)). absurd (false≢true (subst IsWritten fresh.some dirty)))
      (loads.each p)

-- ---- a pool that holds nothing
none_held : (n p : ℕ) → get_or {A = Option Held} (replicate n None) p None ≡ None
none_held zero p = refl
none_held (suc n) zero = refl
none_held (suc n) (suc p) = none_held n p

-- no page of it is dirty
pub empty-clean : (g : Geometry) (pool : State) → pool ≡ empty_pool g → (p : ℕ) → IsDirty pool p → ⊥
empty-clean g pool is p dirty = subst IsWritten (ap (λ (x : State). held x p) is ∙ none_held g.pages p) dirty

-- it agrees with every disk
PagesAgreeOn-empty : (g : Geometry) (pool : State) → pool ≡ empty_pool g → (told : Option Story) (j : journal.State) → PagesAgreeOn told j pool
PagesAgreeOn-empty g pool is None j = tt
PagesAgreeOn-empty g pool is (Some s) j = λ up p lt. subst (λ (h : Option Held). IsClean h (page_at pool.geometry p s.now.reads)) (sym (ap (λ (x : State). held x p) is ∙ none_held g.pages p)) tt

pub AgreesOn-empty : (g : Geometry) (pool : State) → pool ≡ empty_pool g → (told : Option Story) (j : journal.State) → AgreesOn told j pool
AgreesOn-empty g pool is told j = record { pages = PagesAgreeOn-empty g pool is told j; position = let e = ap (λ (x : State). x.position) is in omega arith }
