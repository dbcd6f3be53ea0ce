-- A commit while other transactions are active.
use Rattle.std.proofs.Common.{◌≡◌, ⊎_elim, ℕ, ◌+◌, ◌≤◌, Bool, true, false, cond, ◌&&◌, ◌||◌, ◌==◌, List, [], ◌∷◌, ◌++◌, length, refl, sym, ◌∙◌, ap, subst, arith}
use Rattle.std.proofs.lemmas.Bool.{eqb-true, ne_eqb, both_ways, and_parts}
use Rattle.std.proofs.Math.Bool.{or-false}
use Rattle.sb_bytes.specs.Bytes.{splice}
use Rattle.sb_bytes.proofs.BytesLaws.{length-splice}
use Rattle.sb_log.specs.Records.{Change, Record}
use Rattle.sb_log.specs.Standing.{keep, standing, committed}
use Rattle.sb_log.specs.Restored.{base, over, counting, restored}
use Rattle.sb_log.specs.Undoing.{AreApart, IsClearOf, AreUndoable}
use Rattle.sb_log.specs.Views.{Active, ending, is_active, cut, counts, changes, IsInactive, AreActive, IsPage}
use Rattle.sb_log.proofs.RestoredLemmas.{counting-keep, counting-agree}
use Rattle.sb_log.proofs.ViewLemmas.{restored-ending}
use Rattle.sb_log.proofs.SpliceLemmas.{splice-swap}

-- those of the changes that count are elsewhere
abbrev pub IsClearOfCounting : (ℕ → Bool) → ℕ → Change → List Change → Type 0
IsClearOfCounting f p c [] = Unit {0}
IsClearOfCounting f p c (d ∷ ds) = ((f d.tx && (d.page == p)) ≡ true → AreApart c d) × IsClearOfCounting f p c ds

-- All are within the page, and each change of h is clear of those behind it of f.
abbrev pub AreApartFrom : (ℕ → Bool) → (ℕ → Bool) → ℕ → ℕ → List Change → Type 0
AreApartFrom f h size p [] = Unit {0}
AreApartFrom f h size p (c ∷ cs) = (c.offset + length c.after ≤ size) × (h c.tx ≡ true → IsClearOfCounting f p c cs) × AreApartFrom f h size p cs

over-counting_splice : (f h : ℕ → Bool) (size p : ℕ) (c : Change) (cs : List Change) (x : List ℕ) → length x ≡ size → c.offset + length c.after ≤ size → AreApartFrom f h size p cs → IsClearOfCounting f p c cs
    → splice c.offset c.after (over (counting f p cs) x) ≡ over (counting f p cs) (splice c.offset c.after x)
over-counting_splice f h size p c [] x is fits apart clear = refl
over-counting_splice f h size p c (d ∷ cs) x is fits apart clear = by_test (f d.tx && (d.page == p)) clear.0 (over-counting_splice f h size p c cs (splice d.offset d.after x) (let k = apart.0 in length-splice d.offset d.after x (omega arith) ∙ is) fits apart.2 clear.1) (over-counting_splice f h size p c cs x is fits apart.2 clear.1)
  where
    by_test : (t : Bool) → (t ≡ true → AreApart c d)
        → splice c.offset c.after (over (counting f p cs) (splice d.offset d.after x)) ≡ over (counting f p cs) (splice c.offset c.after (splice d.offset d.after x))
        → splice c.offset c.after (over (counting f p cs) x) ≡ over (counting f p cs) (splice c.offset c.after x)
        → splice c.offset c.after (over (cond t (d ∷ counting f p cs) (counting f p cs)) x) ≡ over (cond t (d ∷ counting f p cs) (counting f p cs)) (splice c.offset c.after x)
    by_test true disjoint more less = more ∙ ap (λ (b : List ℕ). over (counting f p cs) b) (let k = apart.0 in splice-swap c.offset c.after d.offset d.after x (omega arith) (omega arith) (disjoint refl))
    by_test false disjoint more less = less

-- those of f or h, in log order, are those of f and then those of h
pub over-either : (f h : ℕ → Bool) (size p : ℕ) (cs : List Change) (x : List ℕ) → ((tx : ℕ) → f tx ≡ true → h tx ≡ true → ⊥) → length x ≡ size → AreApartFrom f h size p cs
    → over (counting (λ tx. f tx || h tx) p cs) x ≡ over (counting h p cs) (over (counting f p cs) x)
over-either f h size p [] x not is apart = refl
over-either f h size p (c ∷ cs) x not is apart =
    by_test (f c.tx) (h c.tx) (c.page == p) (not c.tx) apart.1 (over-either f h size p cs (splice c.offset c.after x) not (let k = apart.0 in length-splice c.offset c.after x (omega arith) ∙ is) apart.2) (over-either f h size p cs x not is apart.2)
  where
    by_test : (a b d : Bool) → (a ≡ true → b ≡ true → ⊥) → (b ≡ true → IsClearOfCounting f p c cs)
        → over (counting (λ tx. f tx || h tx) p cs) (splice c.offset c.after x) ≡ over (counting h p cs) (over (counting f p cs) (splice c.offset c.after x))
        → over (counting (λ tx. f tx || h tx) p cs) x ≡ over (counting h p cs) (over (counting f p cs) x)
        → over (cond ((a || b) && d) (c ∷ counting (λ tx. f tx || h tx) p cs) (counting (λ tx. f tx || h tx) p cs)) x
        ≡ over (cond (b && d) (c ∷ counting h p cs) (counting h p cs)) (over (cond (a && d) (c ∷ counting f p cs) (counting f p cs)) x)
    by_test true true d never clear more less = absurd (never refl refl)
    by_test true false true never clear more less = more
    by_test true false false never clear more less = less
    by_test false true true never clear more less = more ∙ ap (λ (b : List ℕ). over (counting h p cs) b) (sym (over-counting_splice f h size p c cs x is apart.0 apart.2 (clear refl)))
    by_test false true false never clear more less = less
    by_test false false true never clear more less = less
    by_test false false false never clear more less = less

-- changes that can be undone are clear of those of others
pub AreApartFrom-undoable : (active f h : ℕ → Bool) (size p : ℕ) (x : List ℕ) (cs : List Change) → ((tx : ℕ) → h tx ≡ true → active tx ≡ true) → ((t u : ℕ) → f t ≡ true → h u ≡ true → t ≡ u → ⊥) → AreUndoable active size x cs → AreApartFrom f h size p cs
AreApartFrom-undoable active f h size p x [] within never fine = tt
AreApartFrom-undoable active f h size p x (c ∷ cs) within never fine = (fine.0, (λ own. clear cs own (fine.1 (within c.tx own)).1), AreApartFrom-undoable active f h size p (splice c.offset c.after x) cs within never fine.2)
  where
    clear : (ds : List Change) → h c.tx ≡ true → IsClearOf c ds → IsClearOfCounting f p c ds
    clear [] own off = tt
    clear (d ∷ ds) own off = ((λ is. ⊎_elim (λ (e : d.tx ≡ c.tx). absurd (never d.tx c.tx (and_parts (f d.tx) (d.page == p) is).0 own e)) (λ (apart : AreApart c d). apart) off.0), clear ds own off.1)

pub counting-counting : (f l : ℕ → Bool) (p : ℕ) (cs : List Change) → ((tx : ℕ) → f tx ≡ true → l tx ≡ true) → counting f p (counting l p cs) ≡ counting f p cs
counting-counting f l p [] sub = refl
counting-counting f l p (c ∷ cs) sub = by_test (f c.tx) (l c.tx) (c.page == p) refl refl refl (sub c.tx) (counting-counting f l p cs sub)
  where
    by_test : (a b d : Bool) → f c.tx ≡ a → l c.tx ≡ b → (c.page == p) ≡ d → (f c.tx ≡ true → l c.tx ≡ true) → counting f p (counting l p cs) ≡ counting f p cs
        → counting f p (cond (b && d) (c ∷ counting l p cs) (counting l p cs)) ≡ cond (a && d) (c ∷ counting f p cs) (counting f p cs)
    by_test true true true fa lb pd sub same = rw (fa, pd) (ap (λ (l : List Change). c ∷ l) same)
    by_test true false true fa lb pd sub same = absurd (both_ways (l c.tx) lb (sub fa))
    by_test false true true fa lb pd sub same = rw fa same
    by_test false false true fa lb pd sub same = same
    by_test true true false fa lb pd sub same = same
    by_test true false false fa lb pd sub same = same
    by_test false true false fa lb pd sub same = same
    by_test false false false fa lb pd sub same = same

-- none of the transactions counts
abbrev pub AreOff : (ℕ → Bool) → List Active → Type 0
AreOff f [] = Unit {0}
AreOff f (o ∷ active) = (f o.tx ≡ false) × AreOff f active

pub counting-cut : (f : ℕ → Bool) (p : ℕ) (active : List Active) (cs : List Change) → AreOff f active → counting f p (cut active cs) ≡ counting f p cs
counting-cut f p [] cs off = refl
counting-cut f p (o ∷ active) cs off = counting-cut f p active (keep o.tx o.n cs) off.1 ∙ counting-keep f p o.tx o.n cs off.0

-- of one transaction, and of those that are committed too
abbrev pub is_of : Active → ℕ → Bool
is_of o tx = o.tx == tx

abbrev pub ours : List Record → Active → ℕ → Bool
ours recs o tx = committed recs tx || (o.tx == tx)

AreOff-rest : (recs : List Record) (o : Active) (rest : List Active) → IsInactive o.tx rest → AreActive recs rest → AreOff (ours recs o) rest
AreOff-rest recs o [] not out = tt
AreOff-rest recs o (q ∷ rest) not out = (rw (out.0, ne_eqb o.tx q.tx (λ e. not.0 (sym e))) refl, AreOff-rest recs o rest not.1 out.2)

AreOff-committed : (recs : List Record) (active : List Active) → AreActive recs active → AreOff (committed recs) active
AreOff-committed recs [] out = tt
AreOff-committed recs (q ∷ rest) out = (out.0, AreOff-committed recs rest out.2)

-- A commit while others are active: what was restored, with the standing changes of this transaction written over it.
pub restored-commit_over : (recs : List Record) (o : Active) (rest : List Active) (p : ℕ) (disk now : List ℕ) → AreActive recs (o ∷ rest) → IsPage recs (o ∷ rest) (base p recs disk) now p
    → restored (recs ++ ending (o ∷ [])) p disk ≡ over (counting (is_of o) p (keep o.tx o.n (standing recs))) (restored recs p disk)
restored-commit_over recs o rest p disk now out page =
    restored-ending recs (o ∷ []) p disk
    ∙ ap (λ (cs : List Change). over cs (base p recs disk)) (counting-agree (counts recs (o ∷ [])) (ours recs o) p (keep o.tx o.n (standing recs)) (λ tx. ap (λ (x : Bool). committed recs tx || x) (or-false (o.tx == tx)))
    ∙ sym (in_all (ours recs o) (λ tx is. sub tx (committed recs tx) (o.tx == tx) (is_active rest tx) is) (AreOff-rest recs o rest out.1 out.2)))
    ∙ over-either (committed recs) (is_of o) 4096 p (changes recs (o ∷ rest) p) (base p recs disk) (λ tx is own. never tx tx is own refl) page.long
    (AreApartFrom-undoable (is_active (o ∷ rest)) (committed recs) (is_of o) 4096 p (base p recs disk) (changes recs (o ∷ rest) p) (λ tx is. rw is refl) never page.undo)
    ∙ ap (λ (cs : List Change). over (counting (is_of o) p (changes recs (o ∷ rest) p)) (over cs (base p recs disk)))
    (in_all (committed recs) (λ tx is. rw is refl) (AreOff-committed recs rest out.2) ∙ counting-keep (committed recs) p o.tx o.n (standing recs) out.0)
    ∙ ap (λ (cs : List Change). over cs (restored recs p disk)) (in_all (is_of o) (λ tx is. sub_own tx (committed recs tx) (o.tx == tx) (is_active rest tx) is) (off_own rest out.1))
  where
    in_all : (f : ℕ → Bool) → ((tx : ℕ) → f tx ≡ true → counts recs (o ∷ rest) tx ≡ true) → AreOff f rest → counting f p (changes recs (o ∷ rest) p) ≡ counting f p (keep o.tx o.n (standing recs))
    in_all f sub off = counting-counting f (counts recs (o ∷ rest)) p (cut rest (keep o.tx o.n (standing recs))) sub ∙ counting-cut f p rest (keep o.tx o.n (standing recs)) off

    never : (t u : ℕ) → committed recs t ≡ true → (o.tx == u) ≡ true → t ≡ u → ⊥
    never t u is own same = both_ways (committed recs o.tx) out.0 (subst (λ (k : ℕ). committed recs k ≡ true) (same ∙ sym (eqb-true o.tx u own)) is)

    sub : (tx : ℕ) (a b d : Bool) → (a || b) ≡ true → (a || (b || d)) ≡ true
    sub tx true b d is = refl
    sub tx false true d is = refl
    sub tx false false d is = absurd (both_ways false refl is)

    sub_own : (tx : ℕ) (a b d : Bool) → b ≡ true → (a || (b || d)) ≡ true
    sub_own tx true b d is = refl
    sub_own tx false true d is = refl
    sub_own tx false false d is = absurd (both_ways false refl is)

    off_own : (active : List Active) → IsInactive o.tx active → AreOff (is_of o) active
    off_own [] not = tt
    off_own (q ∷ active) not = (ne_eqb o.tx q.tx (λ e. not.0 (sym e)), off_own active not.1)
