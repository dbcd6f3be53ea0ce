-- What changes make of the frames of their pages.
use Rattle.std.proofs.Common.{◌≡◌, ◌⊎◌, inl, inr, ⊎_elim, ℕ, zero, suc, ◌+◌, ◌<◌, ◌≤◌, Bool, true, false, ◌&&◌, ◌||◌, nat_lt, Option, Some, None, List, [], ◌∷◌, ◌++◌, length, take, drop, set, get_or, reverse, refl, sym, ◌∙◌, ap, subst, arith}
use Rattle.std.proofs.lemmas.List.{length-set, take_more, reverse-append}
use Rattle.std.specs.Ordering.{nat_cmp}
use Rattle.std.specs.BTreeSet.{contains_by}
use Rattle.std.proofs.lemmas.Bool.{both_ways, eq-eqb, ne_eqb, cases_eq, cases_Bool}
use Rattle.sb_bytes.specs.Bytes.{splice}
use Rattle.sb_bytes.proofs.BytesLaws.{length-splice}
use Rattle.sb_disk.specs.Disk.{Story, Reads}
use Rattle.sb_log.specs.declared.geometry.Geometry.{Geometry}
use Rattle.sb_log.specs.Records.{Change, Record, AreRecords, Spells}
use Rattle.sb_log.specs.Standing.{standing, committed}
use Rattle.sb_log.specs.Restored.{over, counting, imaged, IsCovered}
use Rattle.sb_log.proofs.RestoredLemmas.{over-append, counting-append, counting-agree}
use Rattle.sb_log.proofs.StandingLemmas.{or_false}
use Rattle.sb_log.proofs.ImageLemmas.{changes-not_imaged}
use Rattle.sb_images.specs.Layout.{place_of, page_at}
use Rattle.sb_recover.specs.Frames.{texts, or_else, is_some, frame_at, has, held, AreFrames, AreChanged, ChangedOn, HoldsFirst, IsPageOf, WasRead, HeldOn}
use Rattle.sb_recover.specs.declared.found.Found.{Found}
use Rattle.sb_recover.specs.declared.change.Change.{Change as Lent}
use Rattle.sb_recover.specs.Changes.{change_of, changes_of, newest_first, limits_of, with_limit, taken, AllFit}
use Rattle.sb_recover.proofs.FoundLemmas.{changes_of-append}
use Rattle.sb_recover.specs.Found.{IsFound, FoundIn}
use Rattle.sb_recover.specs.Restoring.{AreRestored, RestoredOn}
use Rattle.sb_recover.proofs.FrameLemmas.{length-texts, frame_at-set_same, frame_at-set_other, AreWhole-set, AreWhole-at}

-- ---- one change
module _ (pages : ℕ) (disk : ℕ → List ℕ) (counts : ℕ → Bool) where
  -- none counts
  pub AreChanged-none : (cs : List Change) (fs : List (List ℕ)) → ((p : ℕ) → p < pages → counting counts p cs ≡ []) → AreChanged pages disk counts cs fs fs
  AreChanged-none cs fs none = record {
    bytes = λ p lt. ap (λ (l : List Change). over l (held fs p (disk p))) (sym (none p lt));
    others = λ p lt is. inl is;
  }

  both_none : (a b : List Change) → a ++ b ≡ [] → (a ≡ []) × (b ≡ [])
  both_none [] b e = (refl, e)
  both_none (c ∷ a) b e = absurd (let n = ap (λ (l : List Change). length l) e in omega (arith, n))

  pub AreChanged-both : (a b : List Change) (old mid new : List (List ℕ)) → AreChanged pages disk counts a old mid → AreChanged pages disk counts b mid new → AreChanged pages disk counts (a ++ b) old new
  AreChanged-both a b old mid new first next = record {
    bytes = λ p lt. next.bytes p lt ∙ ap (λ (l : List ℕ). over (counting counts p b) l) (first.bytes p lt)
        ∙ sym (over-append (counting counts p a) (counting counts p b) (held old p (disk p))) ∙ ap (λ (l : List Change). over l (held old p (disk p))) (sym (counting-append counts p a b));
    others = λ p lt is. ⊎_elim
        (λ (was : has mid p ≡ true). ⊎_elim
        (λ (earlier : has old p ≡ true). inl earlier)
        (λ (some : ¬ (counting counts p a ≡ [])). inr (λ e. some (both_none (counting counts p a) (counting counts p b) (sym (counting-append counts p a b) ∙ e)).0))
        (first.others p lt was))
        (λ (some : ¬ (counting counts p b ≡ [])). inr (λ e. some (both_none (counting counts p a) (counting counts p b) (sym (counting-append counts p a b) ∙ e)).1))
        (next.others p lt is);
  }

  -- the change doesn't count, or is of no page of the store
  pub AreChanged-skip : (c : Change) (fs : List (List ℕ)) → (c.page < pages → counts c.tx ≡ false) → AreChanged pages disk counts (c ∷ []) fs fs
  AreChanged-skip c fs off = AreChanged-none (c ∷ []) fs (λ p lt. ⊎_elim
      (λ (e : c.page ≡ p). rw (off (subst (λ (q : ℕ). q < pages) (sym e) lt)) refl)
      (λ (o : c.page ≡ p → ⊥). rw (ne_eqb c.page p o, and_false (counts c.tx)) refl)
      (cases_eq c.page p))
    where
      and_false : (b : Bool) → (b && false) ≡ false
      and_false true = refl
      and_false false = refl

  long_held : (f d : List ℕ) → length f ≡ 4096 → or_else f d ≡ f
  long_held [] d long = absurd (omega (arith, long))
  long_held (x ∷ f) d long = refl

  long_is : (f : List ℕ) → length f ≡ 4096 → is_some f ≡ true
  long_is [] long = absurd (omega (arith, long))
  long_is (x ∷ f) long = refl

  -- it is written over its page, which is held
  pub AreChanged-wrote : (c : Change) (fs : List (List ℕ)) → counts c.tx ≡ true → c.page < length fs → length (frame_at fs c.page) ≡ 4096 → c.offset + length c.after ≤ 4096
      → AreChanged pages disk counts (c ∷ []) fs (set fs c.page (splice c.offset c.after (frame_at fs c.page)))
  AreChanged-wrote c fs is lt long fits =
      let wrote : List ℕ = splice c.offset c.after (frame_at fs c.page) in
      let wrote_long : length wrote ≡ 4096 = length-splice c.offset c.after (frame_at fs c.page) (omega (arith, long, fits)) ∙ long in
      record {
        bytes = λ p below. ⊎_elim
            (λ (e : c.page ≡ p). subst (λ (q : ℕ). held (set fs c.page wrote) q (disk q) ≡ over (counting counts q (c ∷ [])) (held fs q (disk q))) e
            (rw (is, eq-eqb c.page c.page refl)
            (ap (λ (l : List ℕ). or_else l (disk c.page)) (frame_at-set_same fs c.page wrote lt) ∙ long_held wrote (disk c.page) wrote_long
            ∙ ap (λ (l : List ℕ). splice c.offset c.after l) (sym (long_held (frame_at fs c.page) (disk c.page) long)))))
            (λ (o : c.page ≡ p → ⊥). rw (is, ne_eqb c.page p o) (ap (λ (l : List ℕ). or_else l (disk p)) (frame_at-set_other fs c.page p wrote (λ (e : p ≡ c.page). o (sym e)))))
            (cases_eq c.page p);
        others = λ p below now. ⊎_elim
            (λ (e : c.page ≡ p). inl (subst (λ (q : ℕ). has fs q ≡ true) e (long_is (frame_at fs c.page) long)))
            (λ (o : c.page ≡ p → ⊥). inl (sym (ap is_some (frame_at-set_other fs c.page p wrote (λ (e : p ≡ c.page). o (sym e)))) ∙ now))
            (cases_eq c.page p);
      }

  or_same : (d : List ℕ) → or_else d d ≡ d
  or_same [] = refl
  or_same (x ∷ d) = refl

  some_counting : (c : Change) (p : ℕ) → counts c.tx ≡ true → c.page ≡ p → counting counts p (c ∷ []) ≡ [] → ⊥
  some_counting c p is e empty =
      let one : c ∷ [] ≡ counting counts p (c ∷ []) = rw (is, eq-eqb c.page p e) refl in
      let n = ap (λ (l : List Change). length l) (one ∙ empty) in absurd (omega (arith, n))

  read_same : (c : Change) (old new : List (List ℕ)) → HoldsFirst c.page (disk c.page) old new → frame_at old c.page ≡ [] → (p : ℕ) → p < length old → held new p (disk p) ≡ held old p (disk p)
  read_same c old new holds none p lt = ap (λ (l : List ℕ). or_else l (disk p)) (holds.each p lt) ∙ ⊎_elim
      (λ (e : c.page ≡ p). rw (eq-eqb c.page p e) (subst (λ (q : ℕ). or_else (or_else (frame_at old q) (disk c.page)) (disk q) ≡ or_else (frame_at old q) (disk q)) e (rw none (or_same (disk c.page)))))
      (λ (o : c.page ≡ p → ⊥). rw (ne_eqb c.page p o) refl)
      (cases_eq c.page p)

  -- the page is held, with a change of it to come
  pub AreChanged-read : (c : Change) (old new last : List (List ℕ)) → length old ≡ pages → counts c.tx ≡ true → HoldsFirst c.page (disk c.page) old new
      → frame_at old c.page ≡ [] → AreChanged pages disk counts (c ∷ []) new last → AreChanged pages disk counts (c ∷ []) old last
  AreChanged-read c old new last count is holds none next = record {
    bytes = λ p lt. next.bytes p lt ∙ ap (λ (l : List ℕ). over (counting counts p (c ∷ [])) l) (read_same c old new holds none p (subst (λ (n : ℕ). p < n) (sym count) lt));
    others = λ p lt now. ⊎_elim
        (λ (e : c.page ≡ p). inr (λ empty. some_counting c p is e empty))
        (λ (o : c.page ≡ p → ⊥). ⊎_elim
        (λ (mid : has new p ≡ true). inl (sym (ap is_some (holds.each p (subst (λ (n : ℕ). p < n) (sym count) lt) ∙ rw (ne_eqb c.page p o) refl)) ∙ mid))
        (λ (some : ¬ (counting counts p (c ∷ []) ≡ [])). inr some)
        (next.others p lt now))
        (cases_eq c.page p);
  }

-- ---- with the pages of the disk that are told
held_some : (f : List ℕ) → is_some f ≡ true → (f ≡ []) ⊎ (length f ≡ 4096) → length f ≡ 4096
held_some [] is whole = absurd (both_ways false refl is)
held_some (x ∷ f) is whole = ⊎_elim (λ (none : x ∷ f ≡ []). absurd (let n = ap (λ (l : List ℕ). length l) none in omega (arith, n))) (λ (long : length (x ∷ f) ≡ 4096). long) whole

module _ (g : Geometry) (page : ℕ) (old new : List (List ℕ)) (below : page < g.pages) (frames : AreFrames g.pages old) where
  pub HeldOn-frames : (told : Option Story) → HeldOn told g page old new → AreFrames g.pages new × (length (frame_at new page) ≡ 4096)
  HeldOn-frames told is = ⊎_elim
      (λ (had : (has old page ≡ true) × (new ≡ old)). (
        subst (λ (fs : List (List ℕ)). AreFrames g.pages fs) (sym had.1) frames,
        ap (λ (fs : List (List ℕ)). length (frame_at fs page)) had.1 ∙ held_some (frame_at old page) had.0 (AreWhole-at old page frames.whole),
      ))
      (λ (was : WasRead told g page old new). (
        record { count_is = was.holds.count ∙ frames.count_is; whole = was.holds.whole was.long frames.whole },
        ap (λ (l : List ℕ). length l) (was.holds.each page (let e = frames.count_is in omega (arith, e, below)) ∙ rw (eq-eqb page page refl, was.none) refl) ∙ was.long,
      ))
      is

  pub ChangedOn-wrote : (told : Option Story) (counts : ℕ → Bool) (c : Change) → c.page ≡ page → HeldOn told g page old new → counts c.tx ≡ true → c.offset + length c.after ≤ 4096
      → ChangedOn told g counts (c ∷ []) old (set new page (splice c.offset c.after (frame_at new page)))
  ChangedOn-wrote None counts c is is_held counted fits = tt
  ChangedOn-wrote (Some s) counts c is is_held counted fits =
      let now = HeldOn-frames (Some s) is_held in
      let count = now.0.count_is in
      let disk : ℕ → List ℕ = λ p. page_at g p s.now.reads in
      subst (λ (q : ℕ). AreChanged g.pages disk counts (c ∷ []) old (set new q (splice c.offset c.after (frame_at new q)))) is (
      let wrote = AreChanged-wrote g.pages disk counts c new counted (omega (arith, count, below, is)) (ap (λ (q : ℕ). length (frame_at new q)) is ∙ now.1) fits in
      ⊎_elim
      (λ (had : (has old page ≡ true) × (new ≡ old)).
      subst (λ (fs : List (List ℕ)). AreChanged g.pages disk counts (c ∷ []) fs (set new c.page (splice c.offset c.after (frame_at new c.page)))) had.1 wrote)
      (λ (was : WasRead (Some s) g page old new).
      AreChanged-read g.pages disk counts c old new (set new c.page (splice c.offset c.after (frame_at new c.page))) frames.count_is counted
      (subst (λ (q : ℕ). HoldsFirst q (disk q) old new) (sym is) (subst (λ (b : List ℕ). HoldsFirst page b old new) was.is_page was.holds))
      (ap (λ (q : ℕ). frame_at old q) is ∙ was.none) wrote)
      is_held)

pub ChangedOn-skip : (told : Option Story) (g : Geometry) (counts : ℕ → Bool) (c : Change) (fs : List (List ℕ)) → (c.page < g.pages → counts c.tx ≡ false) → ChangedOn told g counts (c ∷ []) fs fs
ChangedOn-skip None g counts c fs off = tt
ChangedOn-skip (Some s) g counts c fs off = AreChanged-skip g.pages (λ p. page_at g p s.now.reads) counts c fs off

pub ChangedOn-none : (told : Option Story) (g : Geometry) (counts : ℕ → Bool) (fs : List (List ℕ)) → ChangedOn told g counts [] fs fs
ChangedOn-none None g counts fs = tt
ChangedOn-none (Some s) g counts fs = AreChanged-none g.pages (λ p. page_at g p s.now.reads) counts [] fs (λ p lt. refl)

pub ChangedOn-both : (told : Option Story) (g : Geometry) (counts : ℕ → Bool) (a b : List Change) (old mid new : List (List ℕ)) → ChangedOn told g counts a old mid → ChangedOn told g counts b mid new → ChangedOn told g counts (a ++ b) old new
ChangedOn-both None g counts a b old mid new first next = tt
ChangedOn-both (Some s) g counts a b old mid new first next = AreChanged-both g.pages (λ p. page_at g p s.now.reads) counts a b old mid new first next

pub AreFrames-set : (pages : ℕ) (fs : List (List ℕ)) (p : ℕ) (f : List ℕ) → length f ≡ 4096 → AreFrames pages fs → AreFrames pages (set fs p f)
AreFrames-set pages fs p f long frames = record { count_is = length-set fs p f ∙ frames.count_is; whole = AreWhole-set fs p f long frames.whole }

-- ---- all that stand
module _ (g : Geometry) (chunks : List (List ℕ)) (f : Found) (found : FoundIn g.pages chunks f) (cs : List Change) (stand : cs ≡ taken (limits_of f.counts) (newest_first f.changes.items)) (new : List (List ℕ)) where
  module _ (disk : ℕ → List ℕ) (changed : AreChanged g.pages disk (λ tx. contains_by (nat_cmp tx) f.committed) cs (texts f.frames.items) new) (recs : List Record) (are : AreRecords recs) (spells : Spells chunks recs) where
    is_found : IsFound f recs
    is_found = found.found recs are spells

    within : (p : ℕ) → p < g.pages → p < length f.frames.items
    within p lt = let n = found.sound.frames.count_is in let l = length-texts f.frames.items in omega (arith, n, l, lt)

    counted : (p : ℕ) → counting (λ tx. contains_by (nat_cmp tx) f.committed) p cs ≡ counting (committed recs) p (standing recs)
    counted p = ap (λ (l : List Change). counting (λ tx. contains_by (nat_cmp tx) f.committed) p l) (stand ∙ is_found.stand)
        ∙ counting-agree (λ tx. contains_by (nat_cmp tx) f.committed) (committed recs) p (standing recs) is_found.done

    none_counted : (p : ℕ) → IsCovered recs → imaged recs p ≡ false → counting (committed recs) p (standing recs) ≡ []
    none_counted p covered is =
        counting-agree (committed recs) (λ tx. committed recs tx || false) p (standing recs) (λ tx. sym (or_false (committed recs tx))) ∙ changes-not_imaged recs [] p covered is

    AreRestored-changed : AreRestored g.pages disk recs new
    AreRestored-changed = record {
      each = λ p lt. changed.bytes p lt ∙ ap (λ (l : List Change). over l (held (texts f.frames.items) p (disk p))) (counted p)
          ∙ ap (λ (l : List ℕ). over (counting (committed recs) p (standing recs)) l) (is_found.bases p (disk p) (within p lt));
      logged = λ covered p lt now. ⊎_elim
          (λ (is : imaged recs p ≡ true). is)
          (λ (isnt : imaged recs p ≡ false). ⊎_elim
          (λ (was : has (texts f.frames.items) p ≡ true). sym (is_found.logged p (within p lt)) ∙ was)
          (λ (some : ¬ (counting (λ tx. contains_by (nat_cmp tx) f.committed) p cs ≡ [])). absurd (some (counted p ∙ none_counted p covered isnt)))
          (changed.others p lt now))
          (cases_Bool (imaged recs p));
    }

  pub RestoredOn-changed : (told : Option Story) → ChangedOn told g (λ tx. contains_by (nat_cmp tx) f.committed) cs (texts f.frames.items) new → RestoredOn told g chunks new
  RestoredOn-changed None changed = tt
  RestoredOn-changed (Some s) changed = λ recs are spells. AreRestored-changed (λ p. page_at g p s.now.reads) changed recs are spells

-- ---- the disk's page
pub IsPageOf-reads : (told : Option Story) (g : Geometry) (p at : ℕ) (bytes : List ℕ) → length bytes ≡ 4096 → at ≡ place_of g p → Reads told at bytes → IsPageOf told g p bytes
IsPageOf-reads None g p at bytes long is reads = tt
IsPageOf-reads (Some s) g p at bytes long is reads = reads ∙ ap (λ (n : ℕ). take n (drop at s.now.reads)) long ∙ ap (λ (n : ℕ). take 4096 (drop n s.now.reads)) is

pub some_has : (f : List ℕ) → (f ≡ [] → ⊥) → is_some f ≡ true
some_has [] some = absurd (some refl)
some_has (x ∷ f) some = refl

-- ---- changes that lie within their pages
AllFit-both : (a b : List Change) → AllFit a → AllFit b → AllFit (a ++ b)
AllFit-both [] b first next = next
AllFit-both (c ∷ a) b first next = (first.0, AllFit-both a b first.1 next)

AllFit-parts : (a b : List Change) → AllFit (a ++ b) → AllFit a × AllFit b
AllFit-parts [] b fit = (tt, fit)
AllFit-parts (c ∷ a) b fit = let rest = AllFit-parts a b fit.1 in ((fit.0, rest.0), rest.1)

AllFit-reverse : (cs : List Lent) → AllFit (changes_of cs) → AllFit (changes_of (newest_first cs))
AllFit-reverse [] fit = tt
AllFit-reverse (c ∷ cs) fit =
    subst (λ (l : List Lent). AllFit (changes_of l)) (sym (reverse-cons c cs)) (subst AllFit (sym (changes_of-append (newest_first cs) (c ∷ []))) (AllFit-both (changes_of (newest_first cs)) (change_of c ∷ []) (AllFit-reverse cs fit.1) (fit.0, tt)))
  where
    reverse-cons : (c : Lent) (cs : List Lent) → reverse (c ∷ cs) ≡ reverse cs ++ c ∷ []
    reverse-cons c cs = reverse-append (c ∷ []) cs

AllFit-newest : (f : ℕ → ℕ) (cs : List Lent) → AllFit (changes_of cs) → AllFit (taken f cs)
AllFit-newest f [] fit = tt
AllFit-newest f (c ∷ cs) fit = ⊎_elim
    (λ (e : nat_lt c.index (f c.tx) ≡ true). rw e (AllFit-both (taken (with_limit f c.tx c.index) cs) (change_of c ∷ []) (AllFit-newest (with_limit f c.tx c.index) cs fit.1) (fit.0, tt)))
    (λ (e : nat_lt c.index (f c.tx) ≡ false). rw e (AllFit-newest f cs fit.1))
    (cases_Bool (nat_lt c.index (f c.tx)))

pub AllFit-taken : (f : ℕ → ℕ) (cs : List Lent) → AllFit (changes_of cs) → AllFit (taken f (newest_first cs))
AllFit-taken f cs fit = AllFit-newest f (newest_first cs) (AllFit-reverse cs fit)

pub AllFit-at : (cs : List Lent) (i : ℕ) (d : Lent) → i < length cs → AllFit (changes_of cs) → (get_or cs i d).offset + length (get_or cs i d).after.now ≤ 4096
AllFit-at [] i d lt fit = absurd (omega (arith, lt))
AllFit-at (c ∷ cs) zero d lt fit = fit.0
AllFit-at (c ∷ cs) (suc i) d lt fit = AllFit-at cs i d (omega (arith, lt)) fit.1

pub changes_of-next : (cs : List Lent) (i : ℕ) (d : Lent) → i < length cs → changes_of (take (i + 1) cs) ≡ changes_of (take i cs) ++ change_of (get_or cs i d) ∷ []
changes_of-next cs i d lt = ap changes_of (take_more cs i d lt) ∙ changes_of-append (take i cs) (get_or cs i d ∷ [])
