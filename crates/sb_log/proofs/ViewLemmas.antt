-- What each record makes of the changes that count now.
use Rattle.std.proofs.Common.{◌≡◌, ℕ, suc, zero, ◌<◌, ◌≤◌, Bool, true, false, cond, ◌&&◌, ◌||◌, ◌==◌, List, [], ◌∷◌, ◌++◌, refl, sym, ◌∙◌, ap, subst, arith, inl}
use Rattle.std.proofs.lemmas.Bool.{eqb-true, eqb-false, eq-eqb, ne_eqb, both_ways, and_parts}
use Rattle.std.proofs.Math.Bool.{and-false, or-false}
use Rattle.std.proofs.lemmas.List.Elements.{filter-append}
use Rattle.std.proofs.lemmas.List.{append-nil}
use Rattle.sb_log.specs.Records.{Change, Record, Changed, Back}
use Rattle.sb_log.specs.Standing.{keep, stood, stood_all, standing, committed, count_of, NoneOf, own_changes}
use Rattle.sb_log.specs.Restored.{base, over, counting, restored}
use Rattle.sb_log.specs.Undoing.{IsFree}
use Rattle.sb_log.specs.Views.{Active, active_with, ending, is_active, cut, counts, changes, IsInactive, AreActive}
use Rattle.sb_log.proofs.StandingLemmas.{stood_all-append, committed-append, keep-enough, keep-again, keep-own, keep-own_none, keep-other, NoneOf-keep, NoneOf-keep_none, keep-append_other, count_of-append, keep-swap}
use Rattle.sb_log.proofs.RestoredLemmas.{counting-append, counting-keep, counting-agree, restored-append}

-- ---- the last standing change of a transaction
-- The first list is the second one with c in it, behind which there is none of its transaction.
pub record IsLastOf (c : Change) (xs ys : List Change) : Type 0 where
  pub a : List Change
  pub b : List Change
  pub xs_is : xs ≡ a ++ c ∷ b
  pub ys_is : ys ≡ a ++ b
  pub none : NoneOf c.tx b

pub IsLastOf-cons : (k c : Change) (xs ys : List Change) → IsLastOf c xs ys → IsLastOf c (k ∷ xs) (k ∷ ys)
IsLastOf-cons k c xs ys s = record { a = k ∷ s.a; b = s.b; xs_is = ap (λ (l : List Change). k ∷ l) s.xs_is; ys_is = ap (λ (l : List Change). k ∷ l) s.ys_is; none = s.none }

IsLastOf-as : (c : Change) (xs ys us vs : List Change) → us ≡ xs → vs ≡ ys → IsLastOf c xs ys → IsLastOf c us vs
IsLastOf-as c xs ys us vs is_x is_y s = record { a = s.a; b = s.b; xs_is = is_x ∙ s.xs_is; ys_is = is_y ∙ s.ys_is; none = s.none }

-- it is so still when another transaction is cut back
pub keep-last : (tx n : ℕ) (c : Change) (a b : List Change) → (c.tx ≡ tx → ⊥) → NoneOf c.tx b → IsLastOf c (keep tx n (a ++ c ∷ b)) (keep tx n (a ++ b))
keep-last tx n c [] b not none = record { a = []; b = keep tx n b; xs_is = keep-other tx n c b not; ys_is = refl; none = NoneOf-keep c.tx tx n b none }
keep-last tx zero c (k ∷ a) b not none = by_test (k.tx == tx) (keep-last tx zero c a b not none)
  where
    by_test : (t : Bool) → IsLastOf c (keep tx zero (a ++ c ∷ b)) (keep tx zero (a ++ b)) → IsLastOf c (cond t (keep tx zero (a ++ c ∷ b)) (k ∷ keep tx zero (a ++ c ∷ b))) (cond t (keep tx zero (a ++ b)) (k ∷ keep tx zero (a ++ b)))
    by_test true more = more
    by_test false more = IsLastOf-cons k c (keep tx zero (a ++ c ∷ b)) (keep tx zero (a ++ b)) more
keep-last tx (suc n) c (k ∷ a) b not none = by_test (k.tx == tx) (keep-last tx n c a b not none) (keep-last tx (suc n) c a b not none)
  where
    by_test : (t : Bool) → IsLastOf c (keep tx n (a ++ c ∷ b)) (keep tx n (a ++ b)) → IsLastOf c (keep tx (suc n) (a ++ c ∷ b)) (keep tx (suc n) (a ++ b))
        → IsLastOf c (cond t (k ∷ keep tx n (a ++ c ∷ b)) (k ∷ keep tx (suc n) (a ++ c ∷ b))) (cond t (k ∷ keep tx n (a ++ b)) (k ∷ keep tx (suc n) (a ++ b)))
    by_test true more less = IsLastOf-cons k c (keep tx n (a ++ c ∷ b)) (keep tx n (a ++ b)) more
    by_test false more less = IsLastOf-cons k c (keep tx (suc n) (a ++ c ∷ b)) (keep tx (suc n) (a ++ b)) less

-- of the changes that are kept, one more is c
pub record HasLast (tx n : ℕ) (cs : List Change) : Type 0 where
  pub c : Change
  pub own : c.tx ≡ tx
  pub split : IsLastOf c (keep tx (suc n) cs) (keep tx n cs)

HasLast-cons : (tx n m : ℕ) (k : Change) (cs : List Change) → keep tx (suc m) (k ∷ cs) ≡ k ∷ keep tx (suc n) cs → keep tx m (k ∷ cs) ≡ k ∷ keep tx n cs → HasLast tx n cs → HasLast tx m (k ∷ cs)
HasLast-cons tx n m k cs is_x is_y last = record { c = last.c; own = last.own; split = IsLastOf-as last.c (k ∷ keep tx (suc n) cs) (k ∷ keep tx n cs) (keep tx (suc m) (k ∷ cs)) (keep tx m (k ∷ cs)) is_x is_y (IsLastOf-cons k last.c (keep tx (suc n) cs) (keep tx n cs) last.split) }

-- where so many more changes are the transaction's
pub HasLast-some : (tx n : ℕ) (cs : List Change) → n < count_of tx cs → HasLast tx n cs
HasLast-some tx n [] lt = absurd (omega arith)
HasLast-some tx zero (c ∷ cs) lt = by_test (c.tx == tx) refl lt (HasLast-some tx zero cs)
  where
    by_test : (t : Bool) → (c.tx == tx) ≡ t → 0 < cond t (suc (count_of tx cs)) (count_of tx cs) → (0 < count_of tx cs → HasLast tx zero cs) → HasLast tx zero (c ∷ cs)
    by_test true is lt more =
        let e = eqb-true c.tx tx is in
        record { c = c; own = e; split = record { a = []; b = keep tx zero cs; xs_is = keep-own tx zero c cs e; ys_is = keep-own_none tx c cs e; none = subst (λ (t : ℕ). NoneOf t (keep tx zero cs)) (sym e) (NoneOf-keep_none tx cs) } }
    by_test false is lt more = HasLast-cons tx zero zero c cs (keep-other tx (suc zero) c cs (eqb-false c.tx tx is)) (keep-other tx zero c cs (eqb-false c.tx tx is)) (more lt)
HasLast-some tx (suc n) (c ∷ cs) lt = by_test (c.tx == tx) refl lt (HasLast-some tx n cs) (HasLast-some tx (suc n) cs)
  where
    by_test : (t : Bool) → (c.tx == tx) ≡ t → suc n < cond t (suc (count_of tx cs)) (count_of tx cs) → (n < count_of tx cs → HasLast tx n cs) → (suc n < count_of tx cs → HasLast tx (suc n) cs) → HasLast tx (suc n) (c ∷ cs)
    by_test true is lt more less = HasLast-cons tx n (suc n) c cs (keep-own tx (suc n) c cs (eqb-true c.tx tx is)) (keep-own tx n c cs (eqb-true c.tx tx is)) (more (omega arith))
    by_test false is lt more less = HasLast-cons tx (suc n) (suc n) c cs (keep-other tx (suc (suc n)) c cs (eqb-false c.tx tx is)) (keep-other tx (suc n) c cs (eqb-false c.tx tx is)) (less lt)

own_changes-none : (tx : ℕ) (cs : List Change) → NoneOf tx cs → own_changes tx cs ≡ []
own_changes-none tx [] none = refl
own_changes-none tx (c ∷ cs) none = rw (ne_eqb c.tx tx none.0) (own_changes-none tx cs none.1)

-- it is the last of the transaction's own changes
pub HasLast-own : (tx n : ℕ) (cs : List Change) (last : HasLast tx n cs) → own_changes tx (keep tx (suc n) cs) ≡ own_changes tx (keep tx n cs) ++ last.c ∷ []
HasLast-own tx n cs last =
    let a = last.split.a in
    let b = last.split.b in
    let none = own_changes-none tx b (subst (λ (t : ℕ). NoneOf t b) last.own last.split.none) in
    let front : own_changes tx (a ++ last.c ∷ b) ≡ own_changes tx a ++ own_changes tx (last.c ∷ b) = filter-append (λ (c : Change). c.tx == tx) a (last.c ∷ b) in
    let others : own_changes tx (a ++ b) ≡ own_changes tx a = filter-append (λ (c : Change). c.tx == tx) a b ∙ ap (λ (l : List Change). own_changes tx a ++ l) none ∙ append-nil (own_changes tx a) in
    ap (λ (l : List Change). own_changes tx l) last.split.xs_is ∙ front ∙ ap (λ (l : List Change). own_changes tx a ++ l) (rw (eq-eqb last.c.tx tx last.own, none) refl)
    ∙ ap (λ (l : List Change). l ++ last.c ∷ []) (sym others ∙ ap (λ (l : List Change). own_changes tx l) (sym last.split.ys_is))

pub cut-last : (active : List Active) (c : Change) (xs ys : List Change) → IsInactive c.tx active → IsLastOf c xs ys → IsLastOf c (cut active xs) (cut active ys)
cut-last [] c xs ys not s = s
cut-last (o ∷ active) c xs ys not s = cut-last active c (keep o.tx o.n xs) (keep o.tx o.n ys) not.1
    (IsLastOf-as c (keep o.tx o.n (s.a ++ c ∷ s.b)) (keep o.tx o.n (s.a ++ s.b)) (keep o.tx o.n xs) (keep o.tx o.n ys)
    (ap (λ (l : List Change). keep o.tx o.n l) s.xs_is) (ap (λ (l : List Change). keep o.tx o.n l) s.ys_is)
    (keep-last o.tx o.n c s.a s.b (λ e. not.0 (sym e)) s.none))

-- ---- all that are active would commit
stood_all-ending : (active : List Active) (cs : List Change) → stood_all cs (ending active) ≡ cut active cs
stood_all-ending [] cs = refl
stood_all-ending (o ∷ active) cs = stood_all-ending active (keep o.tx o.n cs)

committed-ending : (active : List Active) (tx : ℕ) → committed (ending active) tx ≡ is_active active tx
committed-ending [] tx = refl
committed-ending (o ∷ active) tx = ap (λ (x : Bool). (o.tx == tx) || x) (committed-ending active tx)

base-ending : (p : ℕ) (active : List Active) (disk : List ℕ) → base p (ending active) disk ≡ disk
base-ending p [] disk = refl
base-ending p (o ∷ active) disk = base-ending p active disk

-- what would be restored then
pub restored-ending : (recs : List Record) (active : List Active) (p : ℕ) (disk : List ℕ) → restored (recs ++ ending active) p disk ≡ over (changes recs active p) (base p recs disk)
restored-ending recs active p disk =
    restored-append recs (ending active) p disk
    ∙ ap (λ (b : List ℕ). over (counting (λ tx. committed recs tx || committed (ending active) tx) p (stood_all (standing recs) (ending active))) (base p recs b)) (base-ending p active disk)
    ∙ ap (λ (cs : List Change). over cs (base p recs disk))
    (counting-agree (λ tx. committed recs tx || committed (ending active) tx) (counts recs active) p (stood_all (standing recs) (ending active)) (λ tx. ap (λ (x : Bool). committed recs tx || x) (committed-ending active tx))
    ∙ ap (λ (cs : List Change). counting (counts recs active) p cs) (stood_all-ending active (standing recs)))

-- ---- the changes that count, after one record more
-- records without a Commit
counting-uncommitted : (recs more : List Record) (active : List Active) (p : ℕ) (cs : List Change) → ((tx : ℕ) → committed more tx ≡ false) → counting (counts (recs ++ more) active) p cs ≡ counting (counts recs active) p cs
counting-uncommitted recs more active p cs none = counting-agree (counts (recs ++ more) active) (counts recs active) p cs
    (λ tx. ap (λ (x : Bool). x || is_active active tx) (committed-append recs more tx ∙ ap (λ (x : Bool). committed recs tx || x) (none tx) ∙ or-false (committed recs tx)))

pub changes-back : (recs : List Record) (o : Active) (rest : List Active) (p : ℕ) → changes (recs ++ Back o.tx o.n ∷ []) (o ∷ rest) p ≡ changes recs (o ∷ rest) p
changes-back recs o rest p =
    counting-uncommitted recs (Back o.tx o.n ∷ []) (o ∷ rest) p (cut (o ∷ rest) (standing (recs ++ Back o.tx o.n ∷ []))) (λ tx. refl)
    ∙ ap (λ (cs : List Change). counting (counts recs (o ∷ rest)) p (cut rest (keep o.tx o.n cs))) (stood_all-append [] recs (Back o.tx o.n ∷ []))
    ∙ ap (λ (cs : List Change). counting (counts recs (o ∷ rest)) p (cut rest cs)) (keep-again o.tx o.n (standing recs))

cut-append : (active : List Active) (cs : List Change) (c : Change) → IsInactive c.tx active → cut active (cs ++ c ∷ []) ≡ cut active cs ++ c ∷ []
cut-append [] cs c not = refl
cut-append (o ∷ active) cs c not = ap (λ (l : List Change). cut active l) (keep-append_other o.tx o.n cs c (λ e. not.0 (sym e))) ∙ cut-append active (keep o.tx o.n cs) c not.1

-- a change is added where its transaction counts, and it is of the page
pub changes-changed : (recs : List Record) (c : Change) (n : ℕ) (rest : List Active) (p : ℕ) → count_of c.tx (standing recs) ≤ n → IsInactive c.tx rest
    → changes (recs ++ Changed c ∷ []) (active_with c.tx (suc n) ∷ rest) p ≡ changes recs (active_with c.tx n ∷ rest) p ++ counting (counts recs (active_with c.tx n ∷ rest)) p (c ∷ [])
changes-changed recs c n rest p few not =
    counting-uncommitted recs (Changed c ∷ []) (active_with c.tx (suc n) ∷ rest) p (cut rest (keep c.tx (suc n) (standing (recs ++ Changed c ∷ [])))) (λ tx. refl)
    ∙ ap (λ (cs : List Change). counting (counts recs (active_with c.tx n ∷ rest)) p (cut rest cs)) kept
    ∙ ap (λ (cs : List Change). counting (counts recs (active_with c.tx n ∷ rest)) p cs) (cut-append rest (standing recs) c not)
    ∙ counting-append (counts recs (active_with c.tx n ∷ rest)) p (cut rest (standing recs)) (c ∷ [])
    ∙ ap (λ (cs : List Change). counting (counts recs (active_with c.tx n ∷ rest)) p (cut rest cs) ++ counting (counts recs (active_with c.tx n ∷ rest)) p (c ∷ [])) (sym (keep-enough c.tx n (standing recs) few))
  where
    kept : keep c.tx (suc n) (standing (recs ++ Changed c ∷ [])) ≡ standing recs ++ c ∷ []
    kept = ap (λ (cs : List Change). keep c.tx (suc n) cs) (stood_all-append [] recs (Changed c ∷ []))
        ∙ keep-enough c.tx (suc n) (standing recs ++ c ∷ []) (omega (arith, few, count_of-append c.tx (standing recs) c))

pub changes-commit : (recs : List Record) (o : Active) (rest : List Active) (p : ℕ) → changes (recs ++ ending (o ∷ [])) rest p ≡ changes recs (o ∷ rest) p
changes-commit recs o rest p =
    counting-agree (counts (recs ++ ending (o ∷ [])) rest) (counts recs (o ∷ rest)) p (cut rest (standing (recs ++ ending (o ∷ []))))
    (λ tx. ap (λ (x : Bool). x || is_active rest tx) (committed-append recs (ending (o ∷ [])) tx) ∙ regroup (committed recs tx) (o.tx == tx) (is_active rest tx))
    ∙ ap (λ (cs : List Change). counting (counts recs (o ∷ rest)) p (cut rest cs)) (stood_all-append [] recs (ending (o ∷ [])))
  where
    regroup : (x y z : Bool) → ((x || (y || false)) || z) ≡ (x || (y || z))
    regroup true y z = refl
    regroup false true z = refl
    regroup false false z = refl

-- ---- the changes that count, of one page
NoneOf-counting : (f : ℕ → Bool) (p tx : ℕ) (cs : List Change) → NoneOf tx cs → NoneOf tx (counting f p cs)
NoneOf-counting f p tx [] none = tt
NoneOf-counting f p tx (k ∷ cs) none = by_test (f k.tx && (k.page == p)) none.0 (NoneOf-counting f p tx cs none.1)
  where
    by_test : (t : Bool) → (k.tx ≡ tx → ⊥) → NoneOf tx (counting f p cs) → NoneOf tx (cond t (k ∷ counting f p cs) (counting f p cs))
    by_test true not more = (not, more)
    by_test false not more = more

-- the last change is undone on its own page, and every other page stays
pub counting-last : (f : ℕ → Bool) (p : ℕ) (c : Change) (xs ys : List Change) → f c.tx ≡ true → c.page ≡ p → IsLastOf c xs ys → IsLastOf c (counting f p xs) (counting f p ys)
counting-last f p c xs ys counts here s = record {
  a = counting f p s.a;
  b = counting f p s.b;
  xs_is = ap (λ (l : List Change). counting f p l) s.xs_is ∙ counting-append f p s.a (c ∷ s.b) ∙ ap (λ (l : List Change). counting f p s.a ++ l) (rw (counts, eq-eqb c.page p here) refl);
  ys_is = ap (λ (l : List Change). counting f p l) s.ys_is ∙ counting-append f p s.a s.b;
  none = NoneOf-counting f p c.tx s.b s.none;
}

pub counting-elsewhere : (f : ℕ → Bool) (p : ℕ) (c : Change) (xs ys : List Change) → (c.page ≡ p → ⊥) → IsLastOf c xs ys → counting f p xs ≡ counting f p ys
counting-elsewhere f p c xs ys there s =
    ap (λ (l : List Change). counting f p l) s.xs_is ∙ counting-append f p s.a (c ∷ s.b)
    ∙ ap (λ (l : List Change). counting f p s.a ++ l) (rw (ne_eqb c.page p there, and-false (f c.tx)) refl)
    ∙ sym (counting-append f p s.a s.b) ∙ sym (ap (λ (l : List Change). counting f p l) s.ys_is)

cut-keep : (active : List Active) (t n : ℕ) (cs : List Change) → IsInactive t active → cut active (keep t n cs) ≡ keep t n (cut active cs)
cut-keep [] t n cs not = refl
cut-keep (o ∷ active) t n cs not = ap (λ (l : List Change). cut active l) (keep-swap o.tx o.n t n cs not.0) ∙ cut-keep active t n (keep o.tx o.n cs) not.1

pub is_active-idle : (tx : ℕ) (active : List Active) → IsInactive tx active → is_active active tx ≡ false
is_active-idle tx [] not = refl
is_active-idle tx (o ∷ active) not = rw (ne_eqb o.tx tx not.0) (is_active-idle tx active not.1)

counting-none_of : (f h : ℕ → Bool) (p tx : ℕ) (cs : List Change) → ((t : ℕ) → (t ≡ tx → ⊥) → f t ≡ h t) → NoneOf tx cs → counting f p cs ≡ counting h p cs
counting-none_of f h p tx [] same none = refl
counting-none_of f h p tx (c ∷ cs) same none = rw (same c.tx none.0) (ap (λ (l : List Change). cond (h c.tx && (c.page == p)) (c ∷ l) l) (counting-none_of f h p tx cs same none.1))

-- a transaction of which no change stands may be active or not
pub changes-drop : (recs : List Record) (tx : ℕ) (rest : List Active) (p : ℕ) → committed recs tx ≡ false → IsInactive tx rest → changes recs (active_with tx 0 ∷ rest) p ≡ changes recs rest p
changes-drop recs tx rest p off not =
    ap (λ (cs : List Change). counting (counts recs (active_with tx 0 ∷ rest)) p cs) (cut-keep rest tx 0 (standing recs) not)
    ∙ counting-none_of (counts recs (active_with tx 0 ∷ rest)) (counts recs rest) p tx (keep tx 0 (cut rest (standing recs))) (λ t other_tx. ap (λ (x : Bool). committed recs t || (x || is_active rest t)) (ne_eqb tx t (λ e. other_tx (sym e)))) (NoneOf-keep_none tx (cut rest (standing recs)))
    ∙ counting-keep (counts recs rest) p tx 0 (cut rest (standing recs)) (rw (off, is_active-idle tx rest not) refl)

-- a record that is no Commit and lets the same changes stand
pub changes-same : (recs : List Record) (r : Record) (active : List Active) (p : ℕ) → ((tx : ℕ) → committed (r ∷ []) tx ≡ false) → ((cs : List Change) → stood cs r ≡ cs) → changes (recs ++ r ∷ []) active p ≡ changes recs active p
changes-same recs r active p none same =
    counting-uncommitted recs (r ∷ []) active p (cut active (standing (recs ++ r ∷ []))) none
    ∙ ap (λ (cs : List Change). counting (counts recs active) p (cut active cs)) (stood_all-append [] recs (r ∷ []) ∙ same (standing recs))

pub NoneOf-counting_off : (f : ℕ → Bool) (p tx : ℕ) (cs : List Change) → f tx ≡ false → NoneOf tx (counting f p cs)
NoneOf-counting_off f p tx [] off = tt
NoneOf-counting_off f p tx (c ∷ cs) off = by_test (f c.tx && (c.page == p)) refl (NoneOf-counting_off f p tx cs off)
  where
    by_test : (t : Bool) → (f c.tx && (c.page == p)) ≡ t → NoneOf tx (counting f p cs) → NoneOf tx (cond t (c ∷ counting f p cs) (counting f p cs))
    by_test true is more = ((λ e. both_ways (f c.tx) (subst (λ (u : ℕ). f u ≡ false) (sym e) off) (and_parts (f c.tx) (c.page == p) is).0), more)
    by_test false is more = more

-- ---- the transactions that are active
committed-more : (recs : List Record) (r : Record) (tx : ℕ) → committed (r ∷ []) tx ≡ false → committed recs tx ≡ false → committed (recs ++ r ∷ []) tx ≡ false
committed-more recs r tx none off = committed-append recs (r ∷ []) tx ∙ rw (off, none) refl

-- a record more that is no Commit
pub AreActive-more : (recs : List Record) (r : Record) (active : List Active) → ((tx : ℕ) → committed (r ∷ []) tx ≡ false) → AreActive recs active → AreActive (recs ++ r ∷ []) active
AreActive-more recs r [] none are = tt
AreActive-more recs r (o ∷ active) none are = (committed-more recs r o.tx (none o.tx) are.0, are.1, AreActive-more recs r active none are.2)

-- one of them commits
pub AreActive-commit : (recs : List Record) (a : Active) (rest : List Active) → IsInactive a.tx rest → AreActive recs rest → AreActive (recs ++ ending (a ∷ [])) rest
AreActive-commit recs a [] idle are = tt
AreActive-commit recs a (b ∷ rest) idle are = (
  committed-append recs (ending (a ∷ [])) b.tx ∙ rw (are.0, ne_eqb a.tx b.tx (λ e. idle.0 (sym e))) refl,
  are.1,
  AreActive-commit recs a rest idle.1 are.2,
)

-- any of them comes to the front, and goes back to its place
IsInactive-front : (tx : ℕ) (before : List Active) (a : Active) (rest : List Active) → IsInactive tx (before ++ a ∷ rest) → IsInactive tx (a ∷ (before ++ rest))
IsInactive-front tx [] a rest idle = idle
IsInactive-front tx (b ∷ before) a rest idle = let front = IsInactive-front tx before a rest idle.1 in (front.0, (idle.0, front.1))

IsInactive-place : (tx : ℕ) (before : List Active) (a : Active) (rest : List Active) → IsInactive tx (a ∷ (before ++ rest)) → IsInactive tx (before ++ a ∷ rest)
IsInactive-place tx [] a rest idle = idle
IsInactive-place tx (b ∷ before) a rest idle = (idle.1.0, IsInactive-place tx before a rest (idle.0, idle.1.1))

pub AreActive-front : (recs : List Record) (before : List Active) (a : Active) (rest : List Active) → AreActive recs (before ++ a ∷ rest) → AreActive recs (a ∷ (before ++ rest))
AreActive-front recs [] a rest are = are
AreActive-front recs (b ∷ before) a rest are =
    let front = AreActive-front recs before a rest are.2 in
    let idle = IsInactive-front b.tx before a rest are.1 in
    (front.0, ((λ e. idle.0 (sym e)), front.1), (are.0, idle.1, front.2))

pub AreActive-place : (recs : List Record) (before : List Active) (a : Active) (rest : List Active) → AreActive recs (a ∷ (before ++ rest)) → AreActive recs (before ++ a ∷ rest)
AreActive-place recs [] a rest are = are
AreActive-place recs (b ∷ before) a rest are =
    (are.2.0, IsInactive-place b.tx before a rest ((λ e. are.1.0 (sym e)), are.2.1), AreActive-place recs before a rest (are.0, are.1.1, are.2.2))

pub is_active-front : (before : List Active) (a : Active) (rest : List Active) (tx : ℕ) → is_active (before ++ a ∷ rest) tx ≡ is_active (a ∷ (before ++ rest)) tx
is_active-front [] a rest tx = refl
is_active-front (b ∷ before) a rest tx = ap (λ (x : Bool). (b.tx == tx) || x) (is_active-front before a rest tx) ∙ or_swap (b.tx == tx) (a.tx == tx) (is_active (before ++ rest) tx)
  where
    or_swap : (x y z : Bool) → (x || (y || z)) ≡ (y || (x || z))
    or_swap true true z = refl
    or_swap true false z = refl
    or_swap false y z = refl

cut-front : (before : List Active) (a : Active) (rest : List Active) (cs : List Change) → IsInactive a.tx (before ++ rest) → cut (before ++ a ∷ rest) cs ≡ cut (a ∷ (before ++ rest)) cs
cut-front [] a rest cs idle = refl
cut-front (b ∷ before) a rest cs idle =
    cut-front before a rest (keep b.tx b.n cs) idle.1 ∙ ap (λ (l : List Change). cut (before ++ rest) l) (keep-swap a.tx a.n b.tx b.n cs (λ e. idle.0 (sym e)))

pub changes-front : (recs : List Record) (before : List Active) (a : Active) (rest : List Active) (p : ℕ) → IsInactive a.tx (before ++ rest)
    → changes recs (before ++ a ∷ rest) p ≡ changes recs (a ∷ (before ++ rest)) p
changes-front recs before a rest p idle =
    counting-agree (counts recs (before ++ a ∷ rest)) (counts recs (a ∷ (before ++ rest))) p (cut (before ++ a ∷ rest) (standing recs))
    (λ tx. ap (λ (x : Bool). committed recs tx || x) (is_active-front before a rest tx))
    ∙ ap (λ (cs : List Change). counting (counts recs (a ∷ (before ++ rest))) p cs) (cut-front before a rest (standing recs) idle)

-- ---- one transaction alone
-- no other one stands in the way of its changes
pub IsFree-alone : (c : Change) (n : ℕ) (cs : List Change) → IsFree (is_active (active_with c.tx n ∷ [])) c cs
IsFree-alone c n [] = tt
IsFree-alone c n (d ∷ cs) = ((λ is. inl (eqb-true c.tx d.tx (sym (or-false (c.tx == d.tx)) ∙ is))), IsFree-alone c n cs)
