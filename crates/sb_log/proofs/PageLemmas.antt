-- What each step makes of one page.
use Rattle.std.proofs.Common.{◌≡◌, ℕ, suc, ◌+◌, ◌≤◌, Bool, true, false, cond, ◌&&◌, ◌||◌, ◌==◌, List, [], ◌∷◌, ◌++◌, length, refl, sym, ◌∙◌, ap, subst}
use Rattle.std.proofs.lemmas.Bool.{eq-eqb, ne_eqb}
use Rattle.std.proofs.Math.Bool.{or-true}
use Rattle.std.proofs.lemmas.List.{append-nil}
use Rattle.sb_bytes.specs.Bytes.{splice}
use Rattle.sb_log.specs.Records.{Change, Record, Changed, Back}
use Rattle.sb_log.specs.Standing.{keep, standing, committed, count_of}
use Rattle.sb_log.specs.Restored.{over}
use Rattle.sb_log.specs.Undoing.{IsBeneath, AreUndoable, IsFree}
use Rattle.sb_log.specs.Views.{Active, active_with, ending, is_active, cut, counts, changes, IsInactive, IsPage}
use Rattle.sb_log.proofs.RestoredLemmas.{over-append}
use Rattle.sb_log.proofs.UndoLemmas.{over-undo, AreUndoable-less, AreUndoable-more, AreUndoable-fewer, length-over}
use Rattle.sb_log.proofs.ViewLemmas.{IsLastOf, HasLast, cut-last, counting-last, counting-elsewhere, changes-back, changes-changed, changes-commit, changes-drop}

-- its length stays
pub IsPage-long : (recs : List Record) (active : List Active) (bytes now : List ℕ) (p : ℕ) → IsPage recs active bytes now p → length now ≡ 4096
IsPage-long recs active bytes now p page =
    ap (λ (b : List ℕ). length b) (sym page.is) ∙ length-over (is_active active) (changes recs active p) 4096 bytes bytes page.long page.undo

-- where the same changes count
pub IsPage-as : (recs more : List Record) (active then_active : List Active) (bytes now : List ℕ) (p : ℕ) → changes more then_active p ≡ changes recs active p → ((tx : ℕ) → is_active then_active tx ≡ true → is_active active tx ≡ true) → IsPage recs active bytes now p → IsPage more then_active bytes now p
IsPage-as recs more active then_active bytes now p same fewer page = record {
  long = page.long;
  is = ap (λ (cs : List Change). over cs bytes) same ∙ page.is;
  undo = subst (λ (cs : List Change). AreUndoable (is_active then_active) 4096 bytes cs) (sym same) (AreUndoable-fewer (is_active active) (is_active then_active) (changes recs active p) 4096 bytes fewer page.undo);
}

-- ---- a change, on its page and on every other page
pub IsPage-change : (recs : List Record) (c : Change) (n : ℕ) (rest : List Active) (bytes now : List ℕ) → count_of c.tx (standing recs) ≤ n → IsInactive c.tx rest → c.offset + length c.after ≤ 4096 → IsBeneath now c
    → IsFree (is_active (active_with c.tx n ∷ rest)) c (changes recs (active_with c.tx n ∷ rest) c.page)
    → IsPage recs (active_with c.tx n ∷ rest) bytes now c.page
    → IsPage (recs ++ Changed c ∷ []) (active_with c.tx (suc n) ∷ rest) bytes (splice c.offset c.after now) c.page
IsPage-change recs c n rest bytes now few not fits beneath free page = record {
  long = page.long;
  is = ap (λ (cs : List Change). over cs bytes) more ∙ over-append (changes recs (active_with c.tx n ∷ rest) c.page) (c ∷ []) bytes ∙ ap (λ (b : List ℕ). splice c.offset c.after b) page.is;
  undo = subst (λ (cs : List Change). AreUndoable (is_active (active_with c.tx n ∷ rest)) 4096 bytes cs) (sym more)
      (AreUndoable-more (is_active (active_with c.tx n ∷ rest)) (changes recs (active_with c.tx n ∷ rest) c.page) c 4096 bytes fits (subst (λ (b : List ℕ). IsBeneath b c) (sym page.is) beneath) free page.undo);
}
  where
    counted : (committed recs c.tx || ((c.tx == c.tx) || is_active rest c.tx)) ≡ true
    counted = by_test (committed recs c.tx)
      where
        by_test : (t : Bool) → (t || ((c.tx == c.tx) || is_active rest c.tx)) ≡ true
        by_test true = refl
        by_test false = rw (eq-eqb c.tx c.tx refl) refl

    more : changes (recs ++ Changed c ∷ []) (active_with c.tx (suc n) ∷ rest) c.page ≡ changes recs (active_with c.tx n ∷ rest) c.page ++ c ∷ []
    more = changes-changed recs c n rest c.page few not
        ∙ ap (λ (cs : List Change). changes recs (active_with c.tx n ∷ rest) c.page ++ cs) (rw (counted, eq-eqb c.page c.page refl) refl)

pub IsPage-change_elsewhere : (recs : List Record) (c : Change) (n : ℕ) (rest : List Active) (bytes now : List ℕ) (p : ℕ) → count_of c.tx (standing recs) ≤ n → IsInactive c.tx rest → (c.page ≡ p → ⊥)
    → IsPage recs (active_with c.tx n ∷ rest) bytes now p → IsPage (recs ++ Changed c ∷ []) (active_with c.tx (suc n) ∷ rest) bytes now p
IsPage-change_elsewhere recs c n rest bytes now p few not there page =
    IsPage-as recs (recs ++ Changed c ∷ []) (active_with c.tx n ∷ rest) (active_with c.tx (suc n) ∷ rest) bytes now p
    (changes-changed recs c n rest p few not
    ∙ ap (λ (cs : List Change). changes recs (active_with c.tx n ∷ rest) p ++ cs) (by_test (committed recs c.tx || ((c.tx == c.tx) || is_active rest c.tx)))
    ∙ append-nil (changes recs (active_with c.tx n ∷ rest) p))
    (λ tx is. is) page
  where
    by_test : (t : Bool) → cond (t && (c.page == p)) (c ∷ []) [] ≡ []
    by_test true = rw (ne_eqb c.page p there) refl
    by_test false = refl

-- ---- the last standing change of a transaction undone, on its page and on every other page
pub IsPage-undo : (recs : List Record) (tx n : ℕ) (rest : List Active) (bytes now : List ℕ) (last : HasLast tx n (standing recs)) → IsInactive tx rest
    → IsPage recs (active_with tx (suc n) ∷ rest) bytes now last.c.page
    → IsPage recs (active_with tx n ∷ rest) bytes (splice last.c.offset last.c.before now) last.c.page
IsPage-undo recs tx n rest bytes now last not page = go page.is page.undo
  where
    active : List Active
    active = active_with tx (suc n) ∷ rest

    counted : (committed recs last.c.tx || ((tx == last.c.tx) || is_active rest last.c.tx)) ≡ true
    counted = by_test (committed recs last.c.tx)
      where
        by_test : (t : Bool) → (t || ((tx == last.c.tx) || is_active rest last.c.tx)) ≡ true
        by_test true = refl
        by_test false = rw (eq-eqb tx last.c.tx (sym last.own)) refl

    out_now : ((tx == last.c.tx) || is_active rest last.c.tx) ≡ true
    out_now = rw (eq-eqb tx last.c.tx (sym last.own)) refl

    s : IsLastOf last.c (changes recs (active_with tx (suc n) ∷ rest) last.c.page) (changes recs (active_with tx n ∷ rest) last.c.page)
    s = counting-last (counts recs (active_with tx n ∷ rest)) last.c.page last.c (cut rest (keep tx (suc n) (standing recs))) (cut rest (keep tx n (standing recs))) counted refl
        (cut-last rest last.c (keep tx (suc n) (standing recs)) (keep tx n (standing recs)) (subst (λ (t : ℕ). IsInactive t rest) (sym last.own) not) last.split)

    go : over (changes recs (active_with tx (suc n) ∷ rest) last.c.page) bytes ≡ now → AreUndoable (is_active (active_with tx (suc n) ∷ rest)) 4096 bytes (changes recs (active_with tx (suc n) ∷ rest) last.c.page)
        → IsPage recs (active_with tx n ∷ rest) bytes (splice last.c.offset last.c.before now) last.c.page
    go is undo =
        let fine : AreUndoable (is_active (active_with tx (suc n) ∷ rest)) 4096 bytes (s.a ++ last.c ∷ s.b) = subst (λ (cs : List Change). AreUndoable (is_active (active_with tx (suc n) ∷ rest)) 4096 bytes cs) s.xs_is undo in
        record {
          long = page.long;
          is = ap (λ (cs : List Change). over cs bytes) s.ys_is
              ∙ sym (over-undo (is_active (active_with tx (suc n) ∷ rest)) s.a last.c s.b 4096 bytes page.long out_now s.none fine)
              ∙ ap (λ (b : List ℕ). splice last.c.offset last.c.before b) (ap (λ (cs : List Change). over cs bytes) (sym s.xs_is) ∙ is);
          undo = subst (λ (cs : List Change). AreUndoable (is_active (active_with tx (suc n) ∷ rest)) 4096 bytes cs) (sym s.ys_is)
              (AreUndoable-less (is_active (active_with tx (suc n) ∷ rest)) s.a last.c s.b 4096 bytes page.long out_now s.none fine);
        }

pub IsPage-undo_elsewhere : (recs : List Record) (tx n : ℕ) (rest : List Active) (bytes now : List ℕ) (p : ℕ) (last : HasLast tx n (standing recs)) → IsInactive tx rest → (last.c.page ≡ p → ⊥)
    → IsPage recs (active_with tx (suc n) ∷ rest) bytes now p → IsPage recs (active_with tx n ∷ rest) bytes now p
IsPage-undo_elsewhere recs tx n rest bytes now p last not there page =
    IsPage-as recs recs (active_with tx (suc n) ∷ rest) (active_with tx n ∷ rest) bytes now p
    (sym (counting-elsewhere (counts recs (active_with tx n ∷ rest)) p last.c (cut rest (keep tx (suc n) (standing recs))) (cut rest (keep tx n (standing recs))) there
    (cut-last rest last.c (keep tx (suc n) (standing recs)) (keep tx n (standing recs)) (subst (λ (t : ℕ). IsInactive t rest) (sym last.own) not) last.split)))
    (λ t is. is) page

-- ---- a Back, a commit, and the end of an abort
pub IsPage-back : (recs : List Record) (o : Active) (rest : List Active) (bytes now : List ℕ) (p : ℕ) → IsPage recs (o ∷ rest) bytes now p → IsPage (recs ++ Back o.tx o.n ∷ []) (o ∷ rest) bytes now p
IsPage-back recs o rest bytes now p page = IsPage-as recs (recs ++ Back o.tx o.n ∷ []) (o ∷ rest) (o ∷ rest) bytes now p (changes-back recs o rest p) (λ tx is. is) page

pub IsPage-commit : (recs : List Record) (o : Active) (rest : List Active) (bytes now : List ℕ) (p : ℕ) → IsPage recs (o ∷ rest) bytes now p → IsPage (recs ++ ending (o ∷ [])) rest bytes now p
IsPage-commit recs o rest bytes now p page = IsPage-as recs (recs ++ ending (o ∷ [])) (o ∷ rest) rest bytes now p (changes-commit recs o rest p) (λ tx is. rw is (or-true (o.tx == tx))) page

pub IsPage-drop : (recs : List Record) (tx : ℕ) (rest : List Active) (bytes now : List ℕ) (p : ℕ) → committed recs tx ≡ false → IsInactive tx rest → IsPage recs (active_with tx 0 ∷ rest) bytes now p → IsPage recs rest bytes now p
IsPage-drop recs tx rest bytes now p off not page = IsPage-as recs recs (active_with tx 0 ∷ rest) rest bytes now p (sym (changes-drop recs tx rest p off not)) (λ t is. rw is (or-true (tx == t))) page
