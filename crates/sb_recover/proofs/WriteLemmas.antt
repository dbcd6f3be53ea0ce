-- Pages are written one after another.
use Rattle.std.proofs.Common.{◌≡◌, ◌⊎◌, inl, ⊎_elim, ℕ, ◌+◌, ◌<◌, ◌≤◌, true, Option, Some, None, Result, OnOk, OnErr, List, [], ◌∷◌, length, take, drop, get_or, refl, sym, ◌∙◌, ap, subst, arith, Vec, Global}
use Rattle.std.proofs.lemmas.Bool.{cases_eq, cases_lt}
use Rattle.sb_bytes.specs.Bytes.{splice}
use Rattle.sb_bytes.proofs.BytesLaws.{slice-splice}
use Rattle.sb_disk.specs.Disk.{Range, Story, Covered, AgreesBut, WhereTold, Fits, wrote, synced, after_write, FailedWrite, FailedSync}
use Rattle.sb_disk.specs.Moments.{IsSettled, LeavesOnly, LeavesTorn, Within}
use Rattle.sb_disk.proofs.MomentLemmas.{started, on_write, on_failed_write, on_sync_call, IsSettled-LeavesNow}
use Rattle.sb_disk.proofs.RangeLemmas.{same_slice, splice-AgreesBut}
use Rattle.sb_log.specs.declared.geometry.Geometry.{Geometry}
use Rattle.sb_images.specs.Layout.{need, place_of, page_at}
use Rattle.sb_images.proofs.LayoutLemmas.{page_within}
use Rattle.sb_recover.specs.Frames.{texts, or_else, is_some, frame_at, has, held, AreWhole}
use Rattle.sb_recover.proofs.FrameLemmas.{frame_at-texts, AreWhole-at}
use Rattle.sb_recover.specs.Writing.{IsHeld, AgreesOff, LeavesPages, with_page, AllWritten, FirstWritten, Wrote}

module _ (g : Geometry) (frames : List (List ℕ)) where
  AgreesOff-same : (bytes : List ℕ) → AgreesOff g frames bytes bytes
  AgreesOff-same bytes = record { size = refl; bytes = λ i off. refl }

  -- ---- before the first write
  pub Wrote-none : (told : Option Story) → IsSettled told → Wrote g frames 0 told told
  Wrote-none None settled = record { leaves = started None (LeavesPages g frames None) (λ image left. absurd left); so_far = refl }
  Wrote-none (Some s) settled = record {
    leaves = started (Some s) (LeavesPages g frames (Some s)) (λ image left.
        subst (λ (l : List ℕ). AgreesOff g frames s.now.reads l) (sym (IsSettled-LeavesNow (Some s) settled image left)) (AgreesOff-same s.now.reads));
    so_far = record {
      first = λ p lt below. absurd (omega (arith, lt));
      rest = λ p from below. refl;
      elsewhere = AgreesOff-same s.now.reads;
      pending = λ i covered. absurd (settled i covered);
    };
  }

  -- ---- a page that isn't held
  rest_next : (n : ℕ) (s t : Story) → frame_at frames n ≡ [] → FirstWritten g frames n s t → FirstWritten g frames (n + 1) s t
  rest_next n s t none so_far = record {
    first = λ p lt below. ⊎_elim
        (λ (e : p ≡ n). so_far.rest p (omega (arith, e)) below ∙ sym (ap (λ (f : List ℕ). or_else f (page_at g p s.now.reads)) (ap (λ (q : ℕ). frame_at frames q) e ∙ none)))
        (λ (o : p ≡ n → ⊥). so_far.first p (earlier p n lt o) below)
        (cases_eq p n);
    rest = λ p from below. so_far.rest p (omega (arith, from)) below;
    elsewhere = so_far.elsewhere;
    pending = so_far.pending;
  }
    where
      earlier : (p n : ℕ) → p < n + 1 → (p ≡ n → ⊥) → p < n
      earlier p n lt o = ⊎_elim (λ (l : p < n). l) (λ (ge : n ≤ p). absurd (o (omega (arith, lt, ge)))) (cases_lt p n)

  -- ---- a write of bytes of pages that are held
  torn_off : (n at count : ℕ) → ((i : ℕ) → at ≤ i → i < at + count → IsHeld g frames i) → (s t : Story) → FirstWritten g frames n s t → (image : List ℕ)
      → AgreesBut (record { start = at; len = count } ∷ t.now.written) t.now.reads image → AgreesOff g frames s.now.reads image
  torn_off n at count here s t so_far image torn = record {
    size = so_far.elsewhere.size ∙ torn.size;
    bytes = λ i off. so_far.elsewhere.bytes i off ∙ torn.bytes i (λ covered. ⊎_elim
        (λ (in_range : (at ≤ i) × (i < at + count)). off (here i in_range.0 in_range.1))
        (λ (pending : Covered i t.now.written). off (so_far.pending i pending)) covered);
  }

  torn_told : (n at count : ℕ) → ((i : ℕ) → at ≤ i → i < at + count → IsHeld g frames i) → (old mid : Option Story) → WhereTold old mid (FirstWritten g frames n) → (image : List ℕ) → LeavesTorn at count mid image → LeavesPages g frames old image
  torn_told n at count here None mid so_far image torn = absurd (subst (λ (m : Option Story). LeavesTorn at count m image) so_far torn)
  torn_told n at count here (Some s) None so_far image torn = absurd so_far
  torn_told n at count here (Some s) (Some t) so_far image torn = torn_off n at count here s t so_far image torn

  -- ---- a page that is held
  module _ (n : ℕ) (below : n < g.pages) (long : length (frame_at frames n) ≡ 4096) where
    is_held : has frames n ≡ true
    is_held = some_is (frame_at frames n) long
      where
        some_is : (f : List ℕ) → length f ≡ 4096 → is_some f ≡ true
        some_is [] long = absurd (omega (arith, long))
        some_is (x ∷ f) long = refl

    here : (i : ℕ) → place_of g n ≤ i → i < place_of g n + length (frame_at frames n) → IsHeld g frames i
    here i from to = record { p = n; below = below; held_is = is_held; from = from; to = let l = long in omega (arith, to, l) }

    held_next : (s t : Story) → place_of g n + 4096 ≤ length t.now.reads → FirstWritten g frames n s t
        → FirstWritten g frames (n + 1) s (after_write (place_of g n) (length (frame_at frames n)) (splice (place_of g n) (frame_at frames n) t.now.reads) t)
    held_next s t within so_far =
        let bytes : List ℕ = frame_at frames n in
        let reads : List ℕ = splice (place_of g n) bytes t.now.reads in
        let agrees : AgreesBut (record { start = place_of g n; len = length bytes } ∷ []) t.now.reads reads = splice-AgreesBut (place_of g n) bytes t.now.reads (omega (arith, within, long)) in
        let other_page : (p : ℕ) → (p ≡ n → ⊥) → page_at g p reads ≡ page_at g p t.now.reads =
        λ p apart. sym (same_slice (place_of g p) 4096 t.now.reads reads agrees.size (λ i from to. agrees.bytes i (λ covered. ⊎_elim
        (λ (inside : (place_of g n ≤ i) × (i < place_of g n + length bytes)). apart (one_page p n i from to inside.0 (let l = long in let u = inside.1 in omega (arith, l, u))))
        (λ none. none) covered))) in
        record {
          first = λ p lt ok. ⊎_elim
              (λ (e : p ≡ n). subst (λ (q : ℕ). page_at g q reads ≡ held frames q (page_at g q s.now.reads)) (sym e)
              (ap (λ (m : ℕ). take m (drop (place_of g n) reads)) (sym long) ∙ slice-splice (place_of g n) bytes t.now.reads (omega (arith, within)) ∙ sym (long_held bytes (page_at g n s.now.reads) long)))
              (λ (o : p ≡ n → ⊥). other_page p o ∙ so_far.first p (earlier p n lt o) ok)
              (cases_eq p n);
          rest = λ p from ok. other_page p (λ e. absurd (omega (arith, e, from))) ∙ so_far.rest p (omega (arith, from)) ok;
          elsewhere = torn_off n (place_of g n) (length bytes) here s t so_far reads (more_pending agrees);
          pending = λ i covered. ⊎_elim
              (λ (inside : (place_of g n ≤ i) × (i < place_of g n + length bytes)). here i inside.0 inside.1)
              (λ (pending : Covered i t.now.written). so_far.pending i pending) covered;
        }
      where
        earlier : (p n : ℕ) → p < n + 1 → (p ≡ n → ⊥) → p < n
        earlier p n lt o = ⊎_elim (λ (l : p < n). l) (λ (ge : n ≤ p). absurd (o (omega (arith, lt, ge)))) (cases_lt p n)

        long_held : (f d : List ℕ) → length f ≡ 4096 → or_else f d ≡ f
        long_held [] d long = absurd (omega (arith, long))
        long_held (x ∷ f) d long = refl

        one_page : (p q i : ℕ) → place_of g p ≤ i → i < place_of g p + 4096 → place_of g q ≤ i → i < place_of g q + 4096 → p ≡ q
        one_page p q i a b c d = omega (arith, a, b, c, d)

        more_pending : {range : Range} {written : List Range} {old new : List ℕ} → AgreesBut (range ∷ []) old new → AgreesBut (range ∷ written) old new
        more_pending agrees = record { size = agrees.size; bytes = λ i off. agrees.bytes i (λ covered. ⊎_elim (λ a. off (inl a)) (λ none. none) covered) }

  -- ---- the same of what is told
  within_told : (size clock n : ℕ) (told : Option Story) → Fits size clock told → need g.pages g.log ≤ size → n < g.pages → length (frame_at frames n) ≡ 4096 → Within (place_of g n) (length (frame_at frames n)) told
  within_told size clock n None fits room below long = tt
  within_told size clock n (Some t) fits room below long = let w = page_within g size n room below in let is = fits.bytes in omega (arith, w, is, long)

  wrote_told : (size clock n : ℕ) (old mid new : Option Story) → Fits size clock mid → need g.pages g.log ≤ size → n < g.pages → length (frame_at frames n) ≡ 4096 → WhereTold old mid (FirstWritten g frames n)
      → new ≡ wrote (place_of g n) (frame_at frames n) mid → WhereTold old new (FirstWritten g frames (n + 1))
  wrote_told size clock n None mid new fits room below long so_far is = is ∙ ap (wrote (place_of g n) (frame_at frames n)) so_far
  wrote_told size clock n (Some s) None new fits room below long so_far is = absurd so_far
  wrote_told size clock n (Some s) (Some t) new fits room below long so_far is =
      subst (λ (m : Option Story). WhereTold (Some s) m (FirstWritten g frames (n + 1))) (sym is)
      (held_next n below long s t (let w = page_within g size n room below in let e = fits.bytes in omega (arith, w, e)) so_far)

  rest_told : (n : ℕ) (old mid : Option Story) → frame_at frames n ≡ [] → WhereTold old mid (FirstWritten g frames n) → WhereTold old mid (FirstWritten g frames (n + 1))
  rest_told n None mid none so_far = so_far
  rest_told n (Some s) None none so_far = so_far
  rest_told n (Some s) (Some t) none so_far = rest_next n s t none so_far

  -- the write of a page where it has bytes
  page_some : (told : Option Story) (n : ℕ) (bytes : List ℕ) → length bytes ≡ 4096 → with_page g n bytes told ≡ wrote (place_of g n) bytes told
  page_some told n [] long = absurd (omega (arith, long))
  page_some told n (b ∷ bytes) long = refl

  pub Wrote-more : (size clock n : ℕ) (bytes : List ℕ) (old mid new : Option Story) → Fits size clock mid → need g.pages g.log ≤ size → n < g.pages → frame_at frames n ≡ bytes → (bytes ≡ []) ⊎ (length bytes ≡ 4096)
      → Wrote g frames n old mid → new ≡ with_page g n bytes mid → Wrote g frames (n + 1) old new
  Wrote-more size clock n bytes old mid new fits room below frame whole so_far is = ⊎_elim
      (λ (none : bytes ≡ []).
      let same : new ≡ mid = is ∙ ap (λ (b : List ℕ). with_page g n b mid) none in
      subst (λ (m : Option Story). Wrote g frames (n + 1) old m) (sym same)
      (record { leaves = so_far.leaves; so_far = rest_told n old mid (frame ∙ none) so_far.so_far }))
      (λ (long : length bytes ≡ 4096).
      let long_frame : length (frame_at frames n) ≡ 4096 = ap (λ (b : List ℕ). length b) frame ∙ long in
      let is_wrote : new ≡ wrote (place_of g n) (frame_at frames n) mid = is ∙ page_some mid n bytes long ∙ ap (λ (b : List ℕ). wrote (place_of g n) b mid) (sym frame) in
      record {
        leaves = on_write old mid new (LeavesPages g frames old) (place_of g n) (frame_at frames n) (within_told size clock n mid fits room below long_frame) so_far.leaves is_wrote (torn_told n (place_of g n) (length (frame_at frames n)) (here n below long_frame) old mid so_far.so_far);
        so_far = wrote_told size clock n old mid new fits room below long_frame so_far.so_far is_wrote;
      })
      whole

  -- a write that fails
  pub Wrote-failed : (n : ℕ) (bytes : List ℕ) (old mid new : Option Story) → n < g.pages → frame_at frames n ≡ bytes → (bytes ≡ []) ⊎ (length bytes ≡ 4096)
      → Wrote g frames n old mid → FailedWrite (place_of g n) (length bytes) mid new → LeavesOnly old new (LeavesPages g frames old)
  Wrote-failed n bytes old mid new below frame whole so_far failed =
      on_failed_write old mid new (LeavesPages g frames old) (place_of g n) (length bytes) so_far.leaves failed
      (torn_told n (place_of g n) (length bytes) inside old mid so_far.so_far)
    where
      inside : (i : ℕ) → place_of g n ≤ i → i < place_of g n + length bytes → IsHeld g frames i
      inside i from to = ⊎_elim
          (λ (none : bytes ≡ []). absurd (let l = ap (λ (b : List ℕ). length b) none in omega (arith, from, to, l)))
          (λ (long : length bytes ≡ 4096). here n below (ap (λ (b : List ℕ). length b) frame ∙ long) i from (let l = ap (λ (b : List ℕ). length b) frame in omega (arith, to, l)))
          whole

  -- the sync behind them
  pub Wrote-sync : {T E : Type 0} (result : Result T E) (n : ℕ) (old mid new : Option Story) → Wrote g frames n old mid → OnOk result (new ≡ synced mid) → OnErr result (FailedSync mid new) → LeavesOnly old new (LeavesPages g frames old)
  Wrote-sync result n old mid new so_far ok err = on_sync_call result old mid new (LeavesPages g frames old) so_far.leaves ok err

  pub AllWritten-synced : (n : ℕ) (old mid new : Option Story) → g.pages ≤ n → Wrote g frames n old mid → new ≡ synced mid → WhereTold old new (AllWritten g frames)
  AllWritten-synced n old mid new all so_far is = synced_told old mid so_far.so_far is
    where
      synced_told : (old mid : Option Story) → WhereTold old mid (FirstWritten g frames n) → new ≡ synced mid → WhereTold old new (AllWritten g frames)
      synced_told None mid written is = is ∙ ap synced written
      synced_told (Some s) None written is = absurd written
      synced_told (Some s) (Some t) written is = subst (λ (m : Option Story). WhereTold (Some s) m (AllWritten g frames)) (sym is)
          (record { pages = λ p below. written.first p (omega (arith, below, all)) below; elsewhere = written.elsewhere; settled = refl })

-- the frame that is read is a page, or none
pub page_whole : (vs : List (Vec ℕ Global)) (p : ℕ) (v : Vec ℕ Global) (bytes : List ℕ) → p < length vs → v ≡ get_or vs p v → bytes ≡ v.items → AreWhole (texts vs)
    → (frame_at (texts vs) p ≡ bytes) × ((bytes ≡ []) ⊎ (length bytes ≡ 4096))
page_whole vs p v bytes lt is are whole =
    let frame : frame_at (texts vs) p ≡ bytes = frame_at-texts vs p v lt ∙ ap (λ (w : Vec ℕ Global). w.items) (sym is) ∙ sym are in
    (frame, subst (λ (b : List ℕ). (b ≡ []) ⊎ (length b ≡ 4096)) frame (AreWhole-at (texts vs) p whole))
