-- The pages of a store while the disk's pages change, and at a commit.
use Rattle.std.proofs.Common.{◌≡◌, ◌⊎◌, ⊎_elim, ℕ, ◌<◌, ◌≤◌, Bool, true, false, cond, ◌&&◌, ◌||◌, ◌==◌, List, [], ◌∷◌, ◌++◌, take, refl, sym, ◌∙◌, ap, subst}
use Rattle.std.proofs.lemmas.Bool.{eqb-true, eq-eqb, ne_eqb, eqb-false, both_ways}
use Rattle.std.proofs.lemmas.List.{append-nil}
use Rattle.sb_log.specs.Records.{Change, Record, Commit}
use Rattle.sb_log.specs.Standing.{keep, standing, committed, own_changes, own_standing, count_of}
use Rattle.sb_log.specs.Restored.{base, over, counting, restored, imaged, IsCovered, AreHarmless}
use Rattle.sb_log.specs.Views.{Active, ending, is_active, cut, counts, changes, AreActive, IsPage}
use Rattle.sb_log.specs.Whole.{IsWhole}
use Rattle.sb_log.proofs.StandingLemmas.{stood_all-append, committed-append, keep-enough, own_changes-keep, own_changes-standing}
use Rattle.sb_log.proofs.RestoredLemmas.{imaged-append, base-append, base-imaged, counting-agree, restored-append, IsCoveredBehind-append}
use Rattle.sb_log.proofs.PageLemmas.{IsPage-as}
use Rattle.sb_log.proofs.CommitLemmas.{is_of, restored-commit_over}
use Rattle.sb_log.proofs.WholeLemmas.{IsWhole-commit}
use Rattle.sb_images.specs.Store.{own_of, with_changes}
use Rattle.sb_images.proofs.StepLemmas.{AreHarmless-imaged}

-- ---- pages of the disk
-- a page that has an Image in an open chunk may be any bytes there, and every other is as it was
pub IsWhole-pages : (count : ℕ) (disk other now : ℕ → List ℕ) (opened pending : List Record) (active : List Active)
    → ((p : ℕ) → p < count → (imaged opened p ≡ true) ⊎ (other p ≡ disk p)) → IsWhole count disk now opened pending active → IsWhole count other now opened pending active
IsWhole-pages count disk other now opened pending active same whole = record {
  plain = λ p lt. ⊎_elim
      (λ (is : imaged opened p ≡ true). AreHarmless-imaged opened pending p (disk p) (other p) is (whole.plain p lt))
      (λ (e : other p ≡ disk p). subst (λ (d : List ℕ). AreHarmless opened p d pending) (sym e) (whole.plain p lt))
      (same p lt);
  covered = whole.covered;
  active = whole.active;
  pages = λ p lt. subst (λ (b : List ℕ). IsPage (opened ++ pending) active b (now p) p) (base_same p lt) (whole.pages p lt);
}
  where
    base_same : (p : ℕ) → p < count → base p (opened ++ pending) (disk p) ≡ base p (opened ++ pending) (other p)
    base_same p lt = ⊎_elim
        (λ (is : imaged opened p ≡ true). base-imaged p (opened ++ pending) (disk p) (other p) (rw (imaged-append opened pending p, is) refl))
        (λ (e : other p ≡ disk p). ap (λ (b : List ℕ). base p (opened ++ pending) b) (sym e))
        (same p lt)

-- ---- a commit that needs no Back
-- it says the same as one with a Back
pub restored-commit_same : (recs : List Record) (a : Active) (p : ℕ) (disk : List ℕ) → count_of a.tx (standing recs) ≤ a.n → restored (recs ++ Commit a.tx ∷ []) p disk ≡ restored (recs ++ ending (a ∷ [])) p disk
restored-commit_same recs a p disk few =
    restored-append recs (Commit a.tx ∷ []) p disk
    ∙ ap (λ (cs : List Change). over (counting (λ tx. committed recs tx || ((a.tx == tx) || false)) p cs) (base p recs disk)) (sym (keep-enough a.tx a.n (standing recs) few))
    ∙ sym (restored-append recs (ending (a ∷ [])) p disk)

committed_same : (recs : List Record) (a : Active) (tx : ℕ) → committed (recs ++ ending (a ∷ [])) tx ≡ committed (recs ++ Commit a.tx ∷ []) tx
committed_same recs a tx = committed-append recs (ending (a ∷ [])) tx ∙ sym (committed-append recs (Commit a.tx ∷ []) tx)

standing_same : (recs : List Record) (a : Active) → count_of a.tx (standing recs) ≤ a.n → standing (recs ++ Commit a.tx ∷ []) ≡ standing (recs ++ ending (a ∷ []))
standing_same recs a few = stood_all-append [] recs (Commit a.tx ∷ []) ∙ sym (keep-enough a.tx a.n (standing recs) few) ∙ sym (stood_all-append [] recs (ending (a ∷ [])))

AreActive-same : (recs more : List Record) (active : List Active) → ((tx : ℕ) → committed recs tx ≡ committed more tx) → AreActive recs active → AreActive more active
AreActive-same recs more [] same are = tt
AreActive-same recs more (a ∷ active) same are = (sym (same a.tx) ∙ are.0, are.1, AreActive-same recs more active same are.2)

changes_same : (recs : List Record) (a : Active) (rest : List Active) (p : ℕ) → count_of a.tx (standing recs) ≤ a.n → changes (recs ++ Commit a.tx ∷ []) rest p ≡ changes (recs ++ ending (a ∷ [])) rest p
changes_same recs a rest p few =
    counting-agree (counts (recs ++ Commit a.tx ∷ []) rest) (counts (recs ++ ending (a ∷ [])) rest) p (cut rest (standing (recs ++ Commit a.tx ∷ [])))
    (λ tx. ap (λ (b : Bool). b || is_active rest tx) (sym (committed_same recs a tx)))
    ∙ ap (λ (cs : List Change). counting (counts (recs ++ ending (a ∷ [])) rest) p (cut rest cs)) (standing_same recs a few)

-- the others are active still
pub IsWhole-commit_only : (count : ℕ) (disk now : ℕ → List ℕ) (opened pending : List Record) (a : Active) (rest : List Active) → count_of a.tx (standing (opened ++ pending)) ≤ a.n
    → IsWhole count disk now opened pending (a ∷ rest) → IsWhole count disk now ((opened ++ pending) ++ Commit a.tx ∷ []) [] rest
IsWhole-commit_only count disk now opened pending a rest few whole =
    let recs : List Record = opened ++ pending in
    let done = IsWhole-commit count disk now opened pending a rest whole in
    let with_none : (opened ++ pending) ++ ending (a ∷ []) ≡ ((opened ++ pending) ++ ending (a ∷ [])) ++ [] = sym (append-nil ((opened ++ pending) ++ ending (a ∷ []))) in
    let none : (opened ++ pending) ++ Commit a.tx ∷ [] ≡ ((opened ++ pending) ++ Commit a.tx ∷ []) ++ [] = sym (append-nil ((opened ++ pending) ++ Commit a.tx ∷ [])) in
    record {
      plain = λ p lt. tt;
      covered = subst (λ (l : List Record). IsCovered l) none (IsCoveredBehind-append [] (opened ++ pending) (Commit a.tx ∷ []) whole.covered (tt, tt));
      active = subst (λ (l : List Record). AreActive l rest) none
          (AreActive-same ((opened ++ pending) ++ ending (a ∷ [])) ((opened ++ pending) ++ Commit a.tx ∷ []) rest (committed_same (opened ++ pending) a)
          (subst (λ (l : List Record). AreActive l rest) (sym with_none) done.active));
      pages = λ p lt. subst (λ (l : List Record). IsPage l rest (base p l (disk p)) (now p) p) none
          (subst (λ (b : List ℕ). IsPage ((opened ++ pending) ++ Commit a.tx ∷ []) rest b (now p) p)
          (base-append p (opened ++ pending) (ending (a ∷ [])) (disk p) ∙ sym (base-append p (opened ++ pending) (Commit a.tx ∷ []) (disk p)))
          (IsPage-as ((opened ++ pending) ++ ending (a ∷ [])) ((opened ++ pending) ++ Commit a.tx ∷ []) rest rest (base p ((opened ++ pending) ++ ending (a ∷ [])) (disk p)) (now p) p
          (changes_same (opened ++ pending) a rest p few) (λ tx is. is)
          (subst (λ (l : List Record). IsPage l rest (base p l (disk p)) (now p) p) (sym with_none) (done.pages p lt))));
    }

-- ---- what a commit restores
is_of_own : (a : Active) (p : ℕ) (cs : List Change) → counting (is_of a) p cs ≡ counting (λ tx. true) p (own_changes a.tx cs)
is_of_own a p [] = refl
is_of_own a p (c ∷ cs) = by_test (a.tx == c.tx) (c.tx == a.tx) (c.page == p) refl (flip a.tx c.tx) refl (is_of_own a p cs)
  where
    flip : (m n : ℕ) → (n == m) ≡ (m == n)
    flip m n = by_flip (m == n) refl
      where
        by_flip : (b : Bool) → (m == n) ≡ b → (n == m) ≡ b
        by_flip true is = eq-eqb n m (sym (eqb-true m n is))
        by_flip false is = ne_eqb n m (λ e. eqb-false m n is (sym e))

    by_test : (x y d : Bool) → (a.tx == c.tx) ≡ x → y ≡ x → (c.page == p) ≡ d → counting (is_of a) p cs ≡ counting (λ tx. true) p (own_changes a.tx cs)
        → cond (x && d) (c ∷ counting (is_of a) p cs) (counting (is_of a) p cs) ≡ counting (λ tx. true) p (cond y (c ∷ own_changes a.tx cs) (own_changes a.tx cs))
    by_test true true true is same on more = rw on (ap (λ (l : List Change). c ∷ l) more)
    by_test true true false is same on more = rw on more
    by_test false false true is same on more = more
    by_test false false false is same on more = more
    by_test true false d is same on more = absurd (both_ways false refl same)
    by_test false true d is same on more = absurd (both_ways true same refl)

-- they are those that its own records say
pub own_of-standing : (recs : List Record) (a : Active) → own_of recs a ≡ take a.n (own_standing a.tx [] recs)
own_of-standing recs a = own_changes-keep a.tx a.n (standing recs) ∙ ap (λ (cs : List Change). take a.n cs) (own_changes-standing a.tx recs)

-- the pages that were restored, with the standing changes of this transaction written over them
pub restored-commit_own : (recs : List Record) (a : Active) (rest : List Active) (p : ℕ) (disk now : List ℕ) (want : ℕ → List ℕ) → AreActive recs (a ∷ rest) → IsPage recs (a ∷ rest) (base p recs disk) now p → restored recs p disk ≡ want p
    → restored (recs ++ ending (a ∷ [])) p disk ≡ with_changes (own_of recs a) want p
restored-commit_own recs a rest p disk now want are page is =
    restored-commit_over recs a rest p disk now are page
    ∙ ap (λ (b : List ℕ). over (counting (is_of a) p (keep a.tx a.n (standing recs))) b) is
    ∙ ap (λ (cs : List Change). over cs (want p)) (is_of_own a p (keep a.tx a.n (standing recs)))

pub restored-commit_only : (recs : List Record) (a : Active) (rest : List Active) (p : ℕ) (disk now : List ℕ) (want : ℕ → List ℕ) → AreActive recs (a ∷ rest) → IsPage recs (a ∷ rest) (base p recs disk) now p → restored recs p disk ≡ want p
    → count_of a.tx (standing recs) ≤ a.n → restored (recs ++ Commit a.tx ∷ []) p disk ≡ with_changes (own_of recs a) want p
restored-commit_only recs a rest p disk now want are page is few = restored-commit_same recs a p disk few ∙ restored-commit_own recs a rest p disk now want are page is
