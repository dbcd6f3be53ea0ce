-- What each step makes of the log and the pages.
use Rattle.std.proofs.Common.{◌≡◌, ⊎_elim, ℕ, suc, ◌+◌, ◌<◌, ◌≤◌, Bool, true, false, cond, ◌==◌, List, [], ◌∷◌, ◌++◌, length, refl, sym, ◌∙◌, ap, subst, append_assoc}
use Rattle.std.proofs.lemmas.Bool.{eqb-true, eq-eqb, ne_eqb, cases_eq}
use Rattle.std.proofs.Math.Bool.{or-true}
use Rattle.std.proofs.lemmas.List.{append-nil}
use Rattle.sb_bytes.specs.Bytes.{splice}
use Rattle.sb_log.specs.Records.{Change, Record, Begin, Image, Changed, Back}
use Rattle.sb_log.specs.Standing.{standing, committed, count_of}
use Rattle.sb_log.specs.Restored.{base, over, restored, imaged, IsCoveredBy, IsCovered, IsHarmless}
use Rattle.sb_log.specs.Undoing.{IsBeneath, AreUndoable, IsFree}
use Rattle.sb_log.specs.Views.{Active, active_with, ending, is_active, cut, counts, changes, IsInactive, AreActive, IsPage}
use Rattle.sb_log.specs.Whole.{IsWhole, with_range}
use Rattle.sb_log.proofs.StandingLemmas.{stood_all-append, count_of-keep}
use Rattle.sb_log.proofs.RestoredLemmas.{imaged-append, base-append, restored-all_harmless, IsCoveredBehind-append, AreHarmless-append}
use Rattle.sb_log.proofs.ImageLemmas.{IsHarmless-image}
use Rattle.sb_log.proofs.UndoLemmas.{AreUndoable-also}
use Rattle.sb_log.proofs.ViewLemmas.{HasLast, restored-ending, changes-drop, changes-same, NoneOf-counting_off, is_active-idle, AreActive-more, AreActive-commit, AreActive-front, AreActive-place, is_active-front, changes-front}
use Rattle.sb_log.proofs.PageLemmas.{IsPage-long, IsPage-as, IsPage-change, IsPage-change_elsewhere, IsPage-undo, IsPage-undo_elsewhere, IsPage-back, IsPage-commit, IsPage-drop}

-- with an empty log the pages are those of the disk
pub IsWhole-empty : (count : ℕ) (disk : ℕ → List ℕ) → ((p : ℕ) → p < count → length (disk p) ≡ 4096) → IsWhole count disk disk [] [] []
IsWhole-empty count disk long = record {
  plain = λ p lt. tt;
  covered = tt;
  active = tt;
  pages = λ p lt. record { long = long p lt; is = refl; undo = tt };
}

module _ (count : ℕ) (disk now : ℕ → List ℕ) (opened pending : List Record) where
  abbrev recs : List Record
  recs = opened ++ pending

  abbrev base_of : ℕ → List ℕ
  base_of p = base p recs (disk p)

  -- the page with the range of a change written, and every other page
  by_page : (c : Change) (bytes : List ℕ) (p : ℕ) (P : List ℕ → Type 0) → (c.page ≡ p → P (splice c.offset bytes (now p))) → ((c.page ≡ p → ⊥) → P (now p)) → P (with_range c bytes now p)
  by_page c bytes p P here there = ⊎_elim
      (λ (is : c.page ≡ p). subst P (rw (eq-eqb c.page p is) refl) (here is))
      (λ (not : c.page ≡ p → ⊥). subst P (rw (ne_eqb c.page p not) refl) (there not))
      (cases_eq c.page p)

  -- ---- one record more is pending
  IsWhole-more : (r : Record) (active then_active : List Active) (after : ℕ → List ℕ) → IsWhole count disk now opened pending active
      → ((p : ℕ) → p < count → IsHarmless recs p (disk p) r) → IsCoveredBy recs r → AreActive (recs ++ r ∷ []) then_active
      → ((p : ℕ) → p < count → base p recs (base p (r ∷ []) (disk p)) ≡ base_of p)
      → ((p : ℕ) → p < count → IsPage (recs ++ r ∷ []) then_active (base_of p) (after p) p)
      → IsWhole count disk after opened (pending ++ r ∷ []) then_active
  IsWhole-more r active then_active after whole harmless covered are same pages = record {
    plain = λ p lt. AreHarmless-append opened pending p (disk p) r (whole.plain p lt) (harmless p lt);
    covered = subst (λ (l : List Record). IsCovered l) together (IsCoveredBehind-append [] recs (r ∷ []) whole.covered (covered, tt));
    active = subst (λ (l : List Record). AreActive l then_active) together are;
    pages = λ p lt. subst (λ (l : List Record). IsPage l then_active (base p l (disk p)) (after p) p) together
        (subst (λ (b : List ℕ). IsPage (recs ++ r ∷ []) then_active b (after p) p) (sym (base-append p recs (r ∷ []) (disk p) ∙ same p lt)) (pages p lt));
  }
    where
      together : recs ++ r ∷ [] ≡ opened ++ (pending ++ r ∷ [])
      together = append_assoc opened pending (r ∷ [])

  pub IsWhole-begin : (tx : ℕ) (active : List Active) → IsWhole count disk now opened pending active → IsWhole count disk now opened (pending ++ Begin tx ∷ []) active
  IsWhole-begin tx active whole = IsWhole-more (Begin tx) active active now whole (λ p lt. tt) tt (AreActive-more recs (Begin tx) active (λ t. refl) whole.active) (λ p lt. refl)
      (λ p lt. IsPage-as recs (recs ++ Begin tx ∷ []) active active (base_of p) (now p) p (changes-same recs (Begin tx) active p (λ t. refl) (λ cs. refl)) (λ t is. is) (whole.pages p lt))

  -- the page as it is now, where there is no Image of it yet
  pub IsWhole-image : (q : ℕ) (active : List Active) → imaged recs q ≡ false → IsWhole count disk now opened pending active
      → IsWhole count disk now opened (pending ++ Image q (now q) ∷ []) active
  IsWhole-image q active is whole = IsWhole-more (Image q (now q)) active active now whole harmless tt (AreActive-more recs (Image q (now q)) active (λ t. refl) whole.active)
      (λ p lt. by_test p (q == p) refl (harmless p lt))
      (λ p lt. IsPage-as recs (recs ++ Image q (now q) ∷ []) active active (base_of p) (now p) p (changes-same recs (Image q (now q)) active p (λ t. refl) (λ cs. refl)) (λ t is. is) (whole.pages p lt))
    where
      harmless : (p : ℕ) → p < count → IsHarmless recs p (disk p) (Image q (now q))
      harmless p lt = IsHarmless-image recs active q p (disk p) (now q) whole.covered is (λ e. subst (λ (k : ℕ). IsPage recs active (base_of p) (now k) p) (sym e) (whole.pages p lt))

      by_test : (p : ℕ) (t : Bool) → (q == p) ≡ t → IsHarmless recs p (disk p) (Image q (now q)) → base p recs (cond t (now q) (disk p)) ≡ base_of p
      by_test p true is more = more (eqb-true q p is)
      by_test p false is more = refl

  pub IsWhole-back : (a : Active) (rest : List Active) → IsWhole count disk now opened pending (a ∷ rest) → IsWhole count disk now opened (pending ++ Back a.tx a.n ∷ []) (a ∷ rest)
  IsWhole-back a rest whole = IsWhole-more (Back a.tx a.n) (a ∷ rest) (a ∷ rest) now whole (λ p lt. whole.active.0) tt
      (AreActive-more recs (Back a.tx a.n) (a ∷ rest) (λ t. refl) whole.active) (λ p lt. refl)
      (λ p lt. IsPage-back recs a rest (base_of p) (now p) p (whole.pages p lt))

  -- Of the transaction no more changes are in the log than stand; its page has an Image.
  pub IsWhole-change : (c : Change) (n : ℕ) (rest : List Active) → imaged recs c.page ≡ true → count_of c.tx (standing recs) ≤ n
      → c.offset + length c.after ≤ 4096 → IsBeneath (now c.page) c → IsFree (is_active (active_with c.tx n ∷ rest)) c (changes recs (active_with c.tx n ∷ rest) c.page)
      → IsWhole count disk now opened pending (active_with c.tx n ∷ rest)
      → IsWhole count disk (with_range c c.after now) opened (pending ++ Changed c ∷ []) (active_with c.tx (suc n) ∷ rest)
  IsWhole-change c n rest has few fits beneath free whole =
      IsWhole-more (Changed c) (active_with c.tx n ∷ rest) (active_with c.tx (suc n) ∷ rest) (with_range c c.after now) whole (λ p lt. whole.active.0) has
      (AreActive-more recs (Changed c) (active_with c.tx (suc n) ∷ rest) (λ t. refl) whole.active) (λ p lt. refl)
      (λ p lt. by_page c c.after p (λ (b : List ℕ). IsPage (recs ++ Changed c ∷ []) (active_with c.tx (suc n) ∷ rest) (base_of p) b p)
      (λ is. subst (λ (q : ℕ). IsPage (recs ++ Changed c ∷ []) (active_with c.tx (suc n) ∷ rest) (base_of q) (splice c.offset c.after (now q)) q) is
      (IsPage-change recs c n rest (base_of c.page) (now c.page) few whole.active.1 fits beneath free (whole.pages c.page (subst (λ (q : ℕ). q < count) (sym is) lt))))
      (λ not. IsPage-change_elsewhere recs c n rest (base_of p) (now p) p few whole.active.1 not (whole.pages p lt)))

  -- ---- nothing is logged
  -- the last standing change is undone: the bytes before it are written
  pub IsWhole-undo : (tx n : ℕ) (rest : List Active) (last : HasLast tx n (standing recs)) → IsWhole count disk now opened pending (active_with tx (suc n) ∷ rest)
      → IsWhole count disk (with_range last.c last.c.before now) opened pending (active_with tx n ∷ rest)
  IsWhole-undo tx n rest last whole = record {
    plain = whole.plain;
    covered = whole.covered;
    active = (whole.active.0, whole.active.1, whole.active.2);
    pages = λ p lt. by_page last.c last.c.before p (λ (b : List ℕ). IsPage recs (active_with tx n ∷ rest) (base_of p) b p)
        (λ is. subst (λ (q : ℕ). IsPage recs (active_with tx n ∷ rest) (base_of q) (splice last.c.offset last.c.before (now q)) q) is
        (IsPage-undo recs tx n rest (base_of last.c.page) (now last.c.page) last whole.active.1 (whole.pages last.c.page (subst (λ (q : ℕ). q < count) (sym is) lt))))
        (λ not. IsPage-undo_elsewhere recs tx n rest (base_of p) (now p) p last whole.active.1 not (whole.pages p lt));
  }

  -- a transaction begins
  pub IsWhole-active : (tx : ℕ) (active : List Active) → committed recs tx ≡ false → IsInactive tx active → IsWhole count disk now opened pending active
      → IsWhole count disk now opened pending (active_with tx 0 ∷ active)
  IsWhole-active tx active off idle whole = record {
    plain = whole.plain;
    covered = whole.covered;
    active = (off, idle, whole.active);
    pages = λ p lt.
        let same = changes-drop recs tx active p off idle in
        record {
          long = (whole.pages p lt).long;
          is = ap (λ (cs : List Change). over cs (base_of p)) same ∙ (whole.pages p lt).is;
          undo = subst (λ (cs : List Change). AreUndoable (is_active (active_with tx 0 ∷ active)) 4096 (base_of p) cs) (sym same)
              (AreUndoable-also (is_active active) (is_active (active_with tx 0 ∷ active)) tx (changes recs active p) 4096 (base_of p)
              (λ t other is. rw (ne_eqb tx t (λ e. other (sym e))) at is)
              (NoneOf-counting_off (counts recs active) p tx (cut active (standing recs)) (rw (off, is_active-idle tx active idle) refl)) (whole.pages p lt).undo);
        };
  }

  -- an abort ends, when none of its changes stands
  pub IsWhole-drop : (tx : ℕ) (rest : List Active) → IsWhole count disk now opened pending (active_with tx 0 ∷ rest) → IsWhole count disk now opened pending rest
  IsWhole-drop tx rest whole = record {
    plain = whole.plain;
    covered = whole.covered;
    active = whole.active.2;
    pages = λ p lt. IsPage-drop recs tx rest (base_of p) (now p) p whole.active.0 whole.active.1 (whole.pages p lt);
  }

  -- any of those that are active comes to the front, and goes back to its place
  pub IsWhole-front : (before : List Active) (a : Active) (rest : List Active) → IsWhole count disk now opened pending (before ++ a ∷ rest)
      → IsWhole count disk now opened pending (a ∷ (before ++ rest))
  IsWhole-front before a rest whole = record {
    plain = whole.plain;
    covered = whole.covered;
    active = AreActive-front recs before a rest whole.active;
    pages = λ p lt. IsPage-as recs recs (before ++ a ∷ rest) (a ∷ (before ++ rest)) (base_of p) (now p) p
        (sym (changes-front recs before a rest p (AreActive-front recs before a rest whole.active).1))
        (λ tx is. is_active-front before a rest tx ∙ is) (whole.pages p lt);
  }

  pub IsWhole-place : (before : List Active) (a : Active) (rest : List Active) → IsWhole count disk now opened pending (a ∷ (before ++ rest))
      → IsWhole count disk now opened pending (before ++ a ∷ rest)
  IsWhole-place before a rest whole = record {
    plain = whole.plain;
    covered = whole.covered;
    active = AreActive-place recs before a rest whole.active;
    pages = λ p lt. IsPage-as recs recs (a ∷ (before ++ rest)) (before ++ a ∷ rest) (base_of p) (now p) p
        (changes-front recs before a rest p whole.active.1) (λ tx is. sym (is_active-front before a rest tx) ∙ is) (whole.pages p lt);
  }

  -- ---- the log is forced
  pub IsWhole-forced : (active : List Active) → IsWhole count disk now opened pending active → IsWhole count disk now recs [] active
  IsWhole-forced active whole = record {
    plain = λ p lt. tt;
    covered = subst (λ (l : List Record). IsCovered l) all whole.covered;
    active = subst (λ (l : List Record). AreActive l active) all whole.active;
    pages = λ p lt. subst (λ (l : List Record). IsPage l active (base p l (disk p)) (now p) p) all (whole.pages p lt);
  }
    where
      all : recs ≡ recs ++ []
      all = sym (append-nil recs)

  -- after a checkpoint, with no transaction active, the log is empty
  pub IsWhole-checkpoint : IsWhole count disk now opened pending [] → IsWhole count now now [] [] []
  IsWhole-checkpoint whole = IsWhole-empty count now (λ p lt. IsPage-long recs [] (base_of p) (now p) p (whole.pages p lt))

  -- ---- a commit
  -- its records are in the log, and the others are active still
  pub IsWhole-commit : (a : Active) (rest : List Active) → IsWhole count disk now opened pending (a ∷ rest) → IsWhole count disk now (recs ++ ending (a ∷ [])) [] rest
  IsWhole-commit a rest whole = record {
    plain = λ p lt. tt;
    covered = subst (λ (l : List Record). IsCovered l) all (IsCoveredBehind-append [] recs (ending (a ∷ [])) whole.covered (tt, (tt, tt)));
    active = subst (λ (l : List Record). AreActive l rest) all (AreActive-commit recs a rest whole.active.1 whole.active.2);
    pages = λ p lt. subst (λ (l : List Record). IsPage l rest (base p l (disk p)) (now p) p) all
        (subst (λ (b : List ℕ). IsPage (recs ++ ending (a ∷ [])) rest b (now p) p) (sym (base-append p recs (ending (a ∷ [])) (disk p)))
        (IsPage-commit recs a rest (base_of p) (now p) p (whole.pages p lt)));
  }
    where
      all : recs ++ ending (a ∷ []) ≡ (recs ++ ending (a ∷ [])) ++ []
      all = sym (append-nil (recs ++ ending (a ∷ [])))

  -- if all that are active committed, the pages now would be restored
  pub IsWhole-restored : (active : List Active) → IsWhole count disk now opened pending active → (p : ℕ) → p < count → restored (recs ++ ending active) p (disk p) ≡ now p
  IsWhole-restored active whole p lt = restored-ending recs active p (disk p) ∙ (whole.pages p lt).is

  -- where none is active they are restored already
  pub IsWhole-idle : IsWhole count disk now opened pending [] → (p : ℕ) → p < count → restored opened p (disk p) ≡ now p
  IsWhole-idle whole p lt =
      sym (restored-all_harmless opened pending p (disk p) (whole.plain p lt))
      ∙ ap (λ (l : List Record). restored l p (disk p)) (sym (append-nil recs)) ∙ IsWhole-restored [] whole p lt

-- ---- a change with the records before it
-- after a Back no more changes are in the log than stand
pub count_of-back : (opened pending : List Record) (tx n : ℕ) → count_of tx (standing (opened ++ (pending ++ Back tx n ∷ []))) ≤ n
count_of-back opened pending tx n =
    subst (λ (l : List Record). count_of tx (standing l) ≤ n) (append_assoc opened pending (Back tx n ∷ []))
    (subst (λ (cs : List Change). count_of tx cs ≤ n) (sym (stood_all-append [] (opened ++ pending) (Back tx n ∷ []))) (count_of-keep tx n (standing (opened ++ pending))))

pub imaged-image : (opened pending : List Record) (r : Record) (q : ℕ) → imaged (r ∷ []) q ≡ true → imaged (opened ++ (pending ++ r ∷ [])) q ≡ true
imaged-image opened pending r q is =
    subst (λ (l : List Record). imaged l q ≡ true) (append_assoc opened pending (r ∷ []))
    (imaged-append (opened ++ pending) (r ∷ []) q ∙ rw is (or-true (imaged (opened ++ pending) q)))
