-- What becomes of the pages of a pool when one of them is written.
use Rattle.std.proofs.Common.{◌≡◌, ◌⊎◌, inl, inr, ⊎_elim, ℕ, ◌<◌, Bool, true, cond, Option, Some, None, IsSome, List, refl, sym, ◌∙◌, ap, subst}
use Rattle.std.proofs.lemmas.Bool.{cases_eq, eq-eqb, ne_eqb, false≢true}
use Rattle.sb_bytes.specs.Bytes.{splice}
use Rattle.sb_disk.specs.Disk.{Story}
use Rattle.sb_journal.specs.State as journal
use Rattle.sb_log.specs.declared.geometry.Geometry.{Geometry}
use Rattle.sb_images.specs.Layout.{page_at}
use Rattle.sb_pool.specs.declared.frame.Content.{Content}
use Rattle.sb_pool.specs.declared.frame.Content.TheVariants.{Nothing, Clean, Dirty}
use Rattle.sb_pool.specs.declared.frame.Frame.{Frame}
use Rattle.sb_pool.specs.State.{Held, State, held, IsWritten, IsDirty, NoneMoreDirty}
use Rattle.sb_pool.specs.Pages.{bytes_or, pool_page, with_bytes, IsClean, PagesAgreeOn, Becomes, KeepsPages}
use Rattle.sb_pool.specs.Frames.{held_as, held_of}
use Rattle.sb_pool.proofs.PageLemmas.{Puts}

-- ---- frames
some_as : (content : Content) (bytes disk : List ℕ) → IsSome (held_as content bytes) → bytes_or disk (held_as content bytes) ≡ bytes
some_as Nothing bytes disk some = absurd (false≢true some)
some_as Clean bytes disk some = refl
some_as Dirty bytes disk some = refl

-- a frame that holds its page has its bytes
pub some_bytes : (f : Frame) (h : Option Held) (disk : List ℕ) → h ≡ held_of f → IsSome h → bytes_or disk h ≡ f.bytes.items
some_bytes f h disk is some = ap (λ (x : Option Held). bytes_or disk x) is ∙ some_as f.content f.bytes.items disk (subst (λ (x : Option Held). IsSome x) is some)

-- a page as it is held when it was written
abbrev pub written : List ℕ → Option Held
written bytes = Some (record { bytes = bytes; dirty = true })

pub dirty_frame : (f : Frame) (bytes : List ℕ) → f.content ≡ Dirty → f.bytes.items ≡ bytes → held_of f ≡ written bytes
dirty_frame f bytes dirty is = ap (λ (c : Content). held_as c f.bytes.items) dirty ∙ ap (λ (l : List ℕ). written l) is

-- ---- pools
module _ (mid after : State) (page : ℕ) (bytes : List ℕ) (puts : Puts mid after page (written bytes)) where
  pub IsDirty-written : IsDirty after page
  IsDirty-written = subst IsWritten (sym puts.here) refl

  pub dirty-written : (pool : State) → NoneMoreDirty pool mid → (p : ℕ) → IsDirty after p → IsDirty pool p ⊎ (p ≡ page)
  dirty-written pool fewer p dirty = ⊎_elim
      (λ (e : p ≡ page). inr e)
      (λ (other : ¬ (p ≡ page)). inl (fewer p (subst IsWritten (puts.others p other) dirty)))
      (cases_eq p page)

  clean_written : (disk : List ℕ) → IsClean (written bytes) disk
  clean_written disk = λ is. absurd (false≢true (sym is))

  pub PagesAgreeOn-written : (told : Option Story) (k : journal.State) → PagesAgreeOn told k mid → PagesAgreeOn told k after
  PagesAgreeOn-written None k agrees = tt
  PagesAgreeOn-written (Some s) k agrees = λ up p lt. subst (λ (g : Geometry). IsClean (held after p) (page_at g p s.now.reads)) (sym puts.geometry) (⊎_elim
      (λ (e : p ≡ page). subst (λ (h : Option Held). IsClean h (page_at mid.geometry p s.now.reads)) (sym (ap (λ (q : ℕ). held after q) e ∙ puts.here)) (clean_written (page_at mid.geometry p s.now.reads)))
      (λ (other : ¬ (p ≡ page)). subst (λ (h : Option Held). IsClean h (page_at mid.geometry p s.now.reads)) (sym (puts.others p other)) (agrees up p (subst (λ (g : Geometry). p < g.pages) puts.geometry lt)))
      (cases_eq p page))

  page_written : (t : Story) → pool_page (Some t) after page ≡ bytes
  page_written t = ap (λ (h : Option Held). bytes_or (page_at after.geometry page t.now.reads) h) puts.here

  page_other : (t : Story) (p : ℕ) → ¬ (p ≡ page) → pool_page (Some t) after p ≡ pool_page (Some t) mid p
  page_other t p other = ap (λ (g : Geometry). bytes_or (page_at g p t.now.reads) (held after p)) puts.geometry ∙ ap (λ (h : Option Held). bytes_or (page_at mid.geometry p t.now.reads) h) (puts.others p other)

  -- the bytes are the old ones, with the new ones at a place of them
  module _ (pool : State) (offset : ℕ) (piece old : List ℕ) (was : (disk : List ℕ) → bytes_or disk (held mid page) ≡ old) (is : bytes ≡ splice offset piece old) where
    by_page : (s t : Story) (p : ℕ) → pool_page (Some t) mid p ≡ pool_page (Some s) pool p → pool_page (Some t) after p ≡ with_bytes page offset piece (pool_page (Some s) pool) p
    by_page s t p same = ⊎_elim
        (λ (e : page ≡ p). subst (λ (b : Bool). pool_page (Some t) after p ≡ cond b (splice offset piece (pool_page (Some s) pool p)) (pool_page (Some s) pool p)) (sym (eq-eqb page p e))
        (ap (λ (q : ℕ). pool_page (Some t) after q) (sym e) ∙ page_written t ∙ is
        ∙ ap (λ (l : List ℕ). splice offset piece l) (sym (was (page_at mid.geometry page t.now.reads)) ∙ ap (λ (q : ℕ). pool_page (Some t) mid q) e ∙ same)))
        (λ (other : ¬ (page ≡ p)). subst (λ (b : Bool). pool_page (Some t) after p ≡ cond b (splice offset piece (pool_page (Some s) pool p)) (pool_page (Some s) pool p)) (sym (ne_eqb page p other))
        (page_other t p (λ e. other (sym e)) ∙ same))
        (cases_eq page p)

    pub Becomes-written : (told new : Option Story) (k : journal.State) → KeepsPages k pool mid told new → Becomes (with_bytes page offset piece (pool_page told pool)) k after told new
    Becomes-written None new k kept = kept
    Becomes-written (Some s) None k kept = kept
    Becomes-written (Some s) (Some t) k kept = λ up p lt. by_page s t p (kept up p (subst (λ (g : Geometry). p < g.pages) puts.geometry lt))
