-- What runs that write pages make of the disk: the journal stands, the pages written are there, and the others are as they were.
use Rattle.std.proofs.Common.{◌≡◌, ◌⊎◌, inl, inr, ⊎_elim, ℕ, ◌+◌, ◌<◌, ◌≤◌, Option, Some, None, List, [], ◌∷◌, length, take, drop, refl, sym, ◌∙◌, ap, subst, arith}
use Rattle.std.proofs.lemmas.Bool.{cases_eq, cases_order}
use Rattle.sb_bytes.specs.Bytes.{splice}
use Rattle.sb_bytes.proofs.BytesLaws.{slice-splice}
use Rattle.sb_disk.specs.Disk.{Story, AgreesBut, WhereTold, after_write, after_sync, wrote}
use Rattle.sb_disk.specs.Moments.{Sized, RanOk, RanErr, moment}
use Rattle.sb_disk.proofs.MomentLemmas.{Sized-wrote}
use Rattle.sb_disk.proofs.RangeLemmas.{splice-AgreesBut}
use Rattle.sb_journal.specs.State.{State, Lies, Sound, StandsOn}
use Rattle.sb_journal.proofs.RegionLemmas.{none_sure, Ready}
use Rattle.sb_journal.proofs.ForeignLemmas.{StandsOn-wrote, StandsOn-FailedWrite, StandsOn-synced, StandsOn-FailedSync}
use Rattle.sb_log.specs.declared.geometry.Geometry.{Geometry}
use Rattle.sb_images.specs.Layout.{need, place_of, page_at, gates_of, log_of}
use Rattle.sb_images.proofs.LayoutLemmas.{page_within, IsOff-page, page_off_page, page_at-AgreesBut}
use Rattle.sb_pool.specs.Frames.{Put, puts}
use Rattle.sb_pool.proofs.PutLemmas.{All, IsPut}

-- the page exists, and these are its bytes
pub record IsPage (g : Geometry) (p : ℕ) (bytes : List ℕ) : Type 0 where
  pub below : p < g.pages
  pub long : length bytes ≡ 4096

-- ---- the journal stands
module _ (size : ℕ) (j : State) (g : Geometry) (room : need g.pages g.log ≤ size) (gates : j.gates ≡ gates_of g) (log : j.log ≡ log_of g) (lies : Lies size j.gates j.log) (sound : Sound j) where
  ready_at : (told : Option Story) → Sized size told → StandsOn told j → Ready told size (moment told) j
  ready_at None sized stands = record { fits = tt; stands = stands; lies = lies; sound = sound }
  ready_at (Some s) sized stands = record { fits = record { bytes = sized; moments = refl }; stands = stands; lies = lies; sound = sound }

  place_fits : (p : ℕ) (bytes : List ℕ) → IsPage g p bytes → place_of g p + length bytes ≤ size
  place_fits p bytes page = let within = page_within g size p room page.below in let long = page.long in omega arith

  stands_wrote : (p : ℕ) (bytes : List ℕ) (told : Option Story) → IsPage g p bytes → Sized size told → StandsOn told j → StandsOn (wrote (place_of g p) bytes told) j
  stands_wrote p bytes told page sized stands = StandsOn-wrote told (wrote (place_of g p) bytes told) size (moment told) j (place_of g p) bytes (ready_at told sized stands) (place_fits p bytes page) (IsOff-page g j gates log p (place_of g p) (length bytes) (omega arith)) refl

  pub StandsOn-puts : (ds : List Put) (told new : Option Story) → All (IsPage g) ds → Sized size told → StandsOn told j → RanOk (puts g ds) told new → StandsOn new j
  StandsOn-puts [] told new pages sized stands ran = StandsOn-synced told new j stands ran
  StandsOn-puts (d ∷ ds) told new pages sized stands ran =
      StandsOn-puts ds (wrote (place_of g d.page) d.bytes told) new pages.1 (Sized-wrote size (place_of g d.page) d.bytes told sized (place_fits d.page d.bytes pages.0)) (stands_wrote d.page d.bytes told pages.0 sized stands) ran

  pub StandsOn-puts_err : (ds : List Put) (told new : Option Story) → All (IsPage g) ds → Sized size told → StandsOn told j → RanErr (puts g ds) told new → StandsOn new j
  StandsOn-puts_err [] told new pages sized stands (inl failed) = StandsOn-FailedSync told new size (moment told) j (ready_at told sized stands) failed
  StandsOn-puts_err [] told new pages sized stands (inr ran) = absurd ran
  StandsOn-puts_err (d ∷ ds) told new pages sized stands (inl failed) =
      StandsOn-FailedWrite told new size (moment told) j (place_of g d.page) (length d.bytes) (ready_at told sized stands) (IsOff-page g j gates log d.page (place_of g d.page) (length d.bytes) (omega arith)) failed
  StandsOn-puts_err (d ∷ ds) told new pages sized stands (inr ran) =
      StandsOn-puts_err ds (wrote (place_of g d.page) d.bytes told) new pages.1 (Sized-wrote size (place_of g d.page) d.bytes told sized (place_fits d.page d.bytes pages.0)) (stands_wrote d.page d.bytes told pages.0 sized stands) ran

-- ---- the pages
module _ (g : Geometry) where
  -- a page in whose range nothing has changed
  other_page : (p q n : ℕ) (old new : List ℕ) → n ≤ 4096 → ¬ (p ≡ q) → AgreesBut (record { start = place_of g p; len = n } ∷ []) old new → page_at g q new ≡ page_at g q old
  other_page p q n old new short other agrees = page_at-AgreesBut g q (record { start = place_of g p; len = n } ∷ []) old new agrees (⊎_elim
      (λ (e : p ≡ q). absurd (other e))
      (λ (apart : (p < q) ⊎ (q < p)). page_off_page g p q (place_of g p) n [] (omega arith) (omega arith) apart (none_sure (place_of g q) 4096))
      (cases_order p q))

  -- each page that isn't one of these is as it was
  pub record KeepsBut (ds : List Put) (s t : Story) : Type 0 where
    pub pages : (q : ℕ) → ¬ IsPut ds q → page_at g q t.now.reads ≡ page_at g q s.now.reads

  room_place : (d : Put) (s : Story) → need g.pages g.log ≤ length s.now.reads → IsPage g d.page d.bytes → place_of g d.page + length d.bytes ≤ length s.now.reads
  room_place d s room page = let within = page_within g (length s.now.reads) d.page room page.below in let long = page.long in omega arith

  write_agrees : (d : Put) (s : Story) → need g.pages g.log ≤ length s.now.reads → IsPage g d.page d.bytes
      → AgreesBut (record { start = place_of g d.page; len = length d.bytes } ∷ []) s.now.reads (splice (place_of g d.page) d.bytes s.now.reads)
  write_agrees d s room page = splice-AgreesBut (place_of g d.page) d.bytes s.now.reads (room_place d s room page)

  write_room : (d : Put) (s : Story) → need g.pages g.log ≤ length s.now.reads → IsPage g d.page d.bytes → need g.pages g.log ≤ length (splice (place_of g d.page) d.bytes s.now.reads)
  write_room d s room page = let size = (write_agrees d s room page).size in omega arith

  page_wrote : (d : Put) (s : Story) → need g.pages g.log ≤ length s.now.reads → IsPage g d.page d.bytes → page_at g d.page (splice (place_of g d.page) d.bytes s.now.reads) ≡ d.bytes
  page_wrote d s room page =
      ap (λ (m : ℕ). take m (drop (place_of g d.page) (splice (place_of g d.page) d.bytes s.now.reads))) (sym page.long)
      ∙ slice-splice (place_of g d.page) d.bytes s.now.reads (let fits = room_place d s room page in omega arith)

  page_kept : (d : Put) (s : Story) (q : ℕ) → need g.pages g.log ≤ length s.now.reads → IsPage g d.page d.bytes → ¬ (d.page ≡ q) → page_at g q (splice (place_of g d.page) d.bytes s.now.reads) ≡ page_at g q s.now.reads
  page_kept d s q room page other = other_page d.page q (length d.bytes) s.now.reads (splice (place_of g d.page) d.bytes s.now.reads) (let long = page.long in omega arith) other (write_agrees d s room page)

  -- ---- none failed
  -- a page is one of these or not
  pub is_put : (ds : List Put) (q : ℕ) → IsPut ds q ⊎ ¬ IsPut ds q
  is_put [] q = inr (λ none. none)
  is_put (d ∷ ds) q = ⊎_elim
      (λ (e : d.page ≡ q). inl (inl e))
      (λ (other : ¬ (d.page ≡ q)). ⊎_elim (λ (there : IsPut ds q). inl (inr there)) (λ (out : ¬ IsPut ds q). inr (λ one. ⊎_elim other out one)) (is_put ds q))
      (cases_eq d.page q)

  -- no byte is pending, these pages are as they are to be, and the others as they were
  pub record ArePut (pages : ℕ → List ℕ) (ds : List Put) (s t : Story) : Type 0 where
    pub settled : t.now.written ≡ []
    pub kept : KeepsBut ds s t
    pub written : (q : ℕ) → IsPut ds q → page_at g q t.now.reads ≡ pages q

  module _ (pages : ℕ → List ℕ) where
    more_put : (d : Put) (ds : List Put) (s : Story) (new : Option Story) → need g.pages g.log ≤ length s.now.reads → IsPage g d.page d.bytes → d.bytes ≡ pages d.page
        → WhereTold (Some (after_write (place_of g d.page) (length d.bytes) (splice (place_of g d.page) d.bytes s.now.reads) s)) new (ArePut pages ds) → WhereTold (Some s) new (ArePut pages (d ∷ ds))
    more_put d ds s None room page so put = put
    more_put d ds s (Some t) room page so put = record {
      settled = put.settled;
      kept = record { pages = λ q out. put.kept.pages q (λ there. out (inr there)) ∙ page_kept d s q room page (λ e. out (inl e)) };
      written = λ q one. ⊎_elim
          (λ (there : IsPut ds q). put.written q there)
          (λ (out : ¬ IsPut ds q). ⊎_elim
          (λ (e : d.page ≡ q). put.kept.pages q out ∙ ap (λ (x : ℕ). page_at g x (splice (place_of g d.page) d.bytes s.now.reads)) (sym e) ∙ page_wrote d s room page ∙ so ∙ ap pages e)
          (λ (there : IsPut ds q). absurd (out there))
          one)
          (is_put ds q);
    }

    all_put : (s : Story) → ArePut pages [] s (after_sync s)
    all_put s = record { settled = refl; kept = record { pages = λ q out. refl }; written = λ q none. absurd none }

    pub puts_ok : (ds : List Put) (s : Story) (new : Option Story) → need g.pages g.log ≤ length s.now.reads → All (IsPage g) ds → All (λ p bytes. bytes ≡ pages p) ds → RanOk (puts g ds) (Some s) new
        → WhereTold (Some s) new (ArePut pages ds)
    puts_ok [] s new room are so ran = subst (λ (n : Option Story). WhereTold (Some s) n (ArePut pages [])) (sym ran) (all_put s)
    puts_ok (d ∷ ds) s new room are so ran = more_put d ds s new room are.0 so.0
        (puts_ok ds (after_write (place_of g d.page) (length d.bytes) (splice (place_of g d.page) d.bytes s.now.reads) s) new (write_room d s room are.0) are.1 so.1 ran)

-- ---- of a disk that tells nothing
pub none_told : (g : Geometry) (ds : List Put) (new : Option Story) → RanOk (puts g ds) None new → new ≡ None
none_told g [] new ran = ran
none_told g (d ∷ ds) new ran = none_told g ds new ran
