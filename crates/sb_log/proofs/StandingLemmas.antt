-- How the changes that stand come of the records.
use Rattle.std.proofs.Common.{◌≡◌, ⊎_elim, ℕ, suc, zero, ◌≤◌, Bool, true, false, cond, ◌||◌, ◌==◌, List, [], ◌∷◌, ◌++◌, take, refl, sym, ◌∙◌, ap, subst, arith, length}
use Rattle.std.proofs.lemmas.Bool.{eqb-true, eqb-false, eq-eqb, ne_eqb, cases_eq}
use Rattle.std.proofs.Math.Bool.{or_assoc}
pub use Rattle.std.proofs.Math.Bool.{or-false as or_false}
use Rattle.std.proofs.lemmas.List.Elements.{filter-append}
use Rattle.std.proofs.lemmas.Grind.{common_steps}
use Rattle.sb_log.specs.Records.{Change, Record, Begin, Image, Changed, Back, Commit}
use Rattle.sb_log.specs.Standing.{keep, stood, stood_all, standing, committed, own_changes, own_stood, own_standing, count_of, NoneOf, IsBelow, AreBelow}

-- Records behind records.
pub stood_all-append : (cs : List Change) (a b : List Record) → stood_all cs (a ++ b) ≡ stood_all (stood_all cs a) b
stood_all-append cs [] b = refl
stood_all-append cs (r ∷ a) b = stood_all-append (stood cs r) a b

pub committed-append : (a b : List Record) (tx : ℕ) → committed (a ++ b) tx ≡ (committed a tx || committed b tx)
committed-append [] b tx = refl
committed-append (Begin t ∷ a) b tx = committed-append a b tx
committed-append (Image page bytes ∷ a) b tx = committed-append a b tx
committed-append (Changed c ∷ a) b tx = committed-append a b tx
committed-append (Back t n ∷ a) b tx = committed-append a b tx
committed-append (Commit t ∷ a) b tx = ap (λ (x : Bool). (t == tx) || x) (committed-append a b tx) ∙ sym (or_assoc (t == tx) (committed a tx) (committed b tx))

-- ---- changes that are kept
-- where there are no more than are kept, all are
pub keep-enough : (tx n : ℕ) (cs : List Change) → count_of tx cs ≤ n → keep tx n cs ≡ cs
keep-enough tx n [] few = refl
keep-enough tx zero (c ∷ cs) few = by_test (c.tx == tx) few (keep-enough tx zero cs)
  where
    by_test : (t : Bool) → cond t (suc (count_of tx cs)) (count_of tx cs) ≤ 0 → (count_of tx cs ≤ 0 → keep tx zero cs ≡ cs) → cond t (keep tx zero cs) (c ∷ keep tx zero cs) ≡ c ∷ cs
    by_test true few more = absurd (omega arith)
    by_test false few more = ap (λ (l : List Change). c ∷ l) (more few)
keep-enough tx (suc n) (c ∷ cs) few = by_test (c.tx == tx) few (keep-enough tx n cs) (keep-enough tx (suc n) cs)
  where
    by_test : (t : Bool) → cond t (suc (count_of tx cs)) (count_of tx cs) ≤ suc n → (count_of tx cs ≤ n → keep tx n cs ≡ cs) → (count_of tx cs ≤ suc n → keep tx (suc n) cs ≡ cs) → cond t (c ∷ keep tx n cs) (c ∷ keep tx (suc n) cs) ≡ c ∷ cs
    by_test true few more less = ap (λ (l : List Change). c ∷ l) (more (omega arith))
    by_test false few more less = ap (λ (l : List Change). c ∷ l) (less few)

pub count_of-keep : (tx n : ℕ) (cs : List Change) → count_of tx (keep tx n cs) ≤ n
count_of-keep tx n [] = omega arith
count_of-keep tx zero (c ∷ cs) = by_test (c.tx == tx) refl (count_of-keep tx zero cs)
  where
    by_test : (t : Bool) → (c.tx == tx) ≡ t → count_of tx (keep tx zero cs) ≤ 0 → count_of tx (cond t (keep tx zero cs) (c ∷ keep tx zero cs)) ≤ 0
    by_test true is more = more
    by_test false is more = rw is more
count_of-keep tx (suc n) (c ∷ cs) = by_test (c.tx == tx) refl (count_of-keep tx n cs) (count_of-keep tx (suc n) cs)
  where
    by_test : (t : Bool) → (c.tx == tx) ≡ t → count_of tx (keep tx n cs) ≤ n → count_of tx (keep tx (suc n) cs) ≤ suc n → count_of tx (cond t (c ∷ keep tx n cs) (c ∷ keep tx (suc n) cs)) ≤ suc n
    by_test true is more less = rw is (omega arith)
    by_test false is more less = rw is less

pub keep-again : (tx n : ℕ) (cs : List Change) → keep tx n (keep tx n cs) ≡ keep tx n cs
keep-again tx n cs = keep-enough tx n (keep tx n cs) (count_of-keep tx n cs)

-- of a change in front: it is one of those kept, or none is kept, or it is of another transaction
pub keep-own : (tx n : ℕ) (c : Change) (cs : List Change) → c.tx ≡ tx → keep tx (suc n) (c ∷ cs) ≡ c ∷ keep tx n cs
keep-own tx n c cs is = rw (eq-eqb c.tx tx is) refl

pub keep-own_none : (tx : ℕ) (c : Change) (cs : List Change) → c.tx ≡ tx → keep tx zero (c ∷ cs) ≡ keep tx zero cs
keep-own_none tx c cs is = rw (eq-eqb c.tx tx is) refl

pub keep-other : (tx n : ℕ) (c : Change) (cs : List Change) → (c.tx ≡ tx → ⊥) → keep tx n (c ∷ cs) ≡ c ∷ keep tx n cs
keep-other tx zero c cs not = rw (ne_eqb c.tx tx not) refl
keep-other tx (suc n) c cs not = rw (ne_eqb c.tx tx not) refl

pub NoneOf-keep : (t tx n : ℕ) (cs : List Change) → NoneOf t cs → NoneOf t (keep tx n cs)
NoneOf-keep t tx n [] none = tt
NoneOf-keep t tx zero (c ∷ cs) none = by_test (c.tx == tx) (NoneOf-keep t tx zero cs none.1)
  where
    by_test : (b : Bool) → NoneOf t (keep tx zero cs) → NoneOf t (cond b (keep tx zero cs) (c ∷ keep tx zero cs))
    by_test true more = more
    by_test false more = (none.0, more)
NoneOf-keep t tx (suc n) (c ∷ cs) none = by_test (c.tx == tx) (NoneOf-keep t tx n cs none.1) (NoneOf-keep t tx (suc n) cs none.1)
  where
    by_test : (b : Bool) → NoneOf t (keep tx n cs) → NoneOf t (keep tx (suc n) cs) → NoneOf t (cond b (c ∷ keep tx n cs) (c ∷ keep tx (suc n) cs))
    by_test true more less = (none.0, more)
    by_test false more less = (none.0, less)

pub NoneOf-keep_none : (tx : ℕ) (cs : List Change) → NoneOf tx (keep tx zero cs)
NoneOf-keep_none tx [] = tt
NoneOf-keep_none tx (c ∷ cs) = by_test (c.tx == tx) refl (NoneOf-keep_none tx cs)
  where
    by_test : (t : Bool) → (c.tx == tx) ≡ t → NoneOf tx (keep tx zero cs) → NoneOf tx (cond t (keep tx zero cs) (c ∷ keep tx zero cs))
    by_test true is more = more
    by_test false is more = ((λ e. eqb-false c.tx tx is e), more)

-- a change behind, of another transaction
pub keep-append_other : (tx n : ℕ) (cs : List Change) (c : Change) → (c.tx ≡ tx → ⊥) → keep tx n (cs ++ c ∷ []) ≡ keep tx n cs ++ c ∷ []
keep-append_other tx n [] c not = keep-other tx n c [] not
keep-append_other tx zero (k ∷ cs) c not = by_test (k.tx == tx) (keep-append_other tx zero cs c not)
  where
    by_test : (t : Bool) → keep tx zero (cs ++ c ∷ []) ≡ keep tx zero cs ++ c ∷ [] → cond t (keep tx zero (cs ++ c ∷ [])) (k ∷ keep tx zero (cs ++ c ∷ [])) ≡ cond t (keep tx zero cs) (k ∷ keep tx zero cs) ++ c ∷ []
    by_test true more = more
    by_test false more = ap (λ (l : List Change). k ∷ l) more
keep-append_other tx (suc n) (k ∷ cs) c not = by_test (k.tx == tx) (keep-append_other tx n cs c not) (keep-append_other tx (suc n) cs c not)
  where
    by_test : (t : Bool) → keep tx n (cs ++ c ∷ []) ≡ keep tx n cs ++ c ∷ [] → keep tx (suc n) (cs ++ c ∷ []) ≡ keep tx (suc n) cs ++ c ∷ []
        → cond t (k ∷ keep tx n (cs ++ c ∷ [])) (k ∷ keep tx (suc n) (cs ++ c ∷ [])) ≡ cond t (k ∷ keep tx n cs) (k ∷ keep tx (suc n) cs) ++ c ∷ []
    by_test true more less = ap (λ (l : List Change). k ∷ l) more
    by_test false more less = ap (λ (l : List Change). k ∷ l) less

pub count_of-append : (tx : ℕ) (cs : List Change) (c : Change) → count_of tx (cs ++ c ∷ []) ≤ suc (count_of tx cs)
count_of-append tx [] c = by_test (c.tx == tx)
  where
    by_test : (t : Bool) → cond t 1 0 ≤ 1
    by_test true = omega arith
    by_test false = omega arith
count_of-append tx (k ∷ cs) c = by_test (k.tx == tx) (count_of-append tx cs c)
  where
    by_test : (t : Bool) → count_of tx (cs ++ c ∷ []) ≤ suc (count_of tx cs) → cond t (suc (count_of tx (cs ++ c ∷ []))) (count_of tx (cs ++ c ∷ [])) ≤ suc (cond t (suc (count_of tx cs)) (count_of tx cs))
    by_test true more = omega arith
    by_test false more = more

-- two transactions are cut back in either order
pub keep-swap : (t m u n : ℕ) (cs : List Change) → (t ≡ u → ⊥) → keep t m (keep u n cs) ≡ keep u n (keep t m cs)
keep-swap t m u n [] not = refl
keep-swap t m u n (c ∷ cs) not = ⊎_elim
    (λ (e : c.tx ≡ t). first m e (λ k. keep-swap t k u n cs not))
    (λ (f : c.tx ≡ t → ⊥). ⊎_elim (λ (e : c.tx ≡ u). second n f e (λ k. keep-swap t m u k cs not)) (λ (h : c.tx ≡ u → ⊥).
    ap (λ (l : List Change). keep t m l) (keep-other u n c cs h) ∙ keep-other t m c (keep u n cs) f ∙ ap (λ (l : List Change). c ∷ l) (keep-swap t m u n cs not) ∙ sym (ap (λ (l : List Change). keep u n l) (keep-other t m c cs f) ∙ keep-other u n c (keep t m cs) h)) (cases_eq c.tx u))
    (cases_eq c.tx t)
  where
    first : (m : ℕ) → c.tx ≡ t → ((k : ℕ) → keep t k (keep u n cs) ≡ keep u n (keep t k cs)) → keep t m (keep u n (c ∷ cs)) ≡ keep u n (keep t m (c ∷ cs))
    first zero e more = ap (λ (l : List Change). keep t zero l) (keep-other u n c cs (λ h. not (sym e ∙ h))) ∙ keep-own_none t c (keep u n cs) e ∙ more zero ∙ sym (ap (λ (l : List Change). keep u n l) (keep-own_none t c cs e))
    first (suc m) e more = ap (λ (l : List Change). keep t (suc m) l) (keep-other u n c cs (λ h. not (sym e ∙ h))) ∙ keep-own t m c (keep u n cs) e ∙ ap (λ (l : List Change). c ∷ l) (more m)
        ∙ sym (ap (λ (l : List Change). keep u n l) (keep-own t m c cs e) ∙ keep-other u n c (keep t m cs) (λ h. not (sym e ∙ h)))

    second : (n : ℕ) → (c.tx ≡ t → ⊥) → c.tx ≡ u → ((k : ℕ) → keep t m (keep u k cs) ≡ keep u k (keep t m cs)) → keep t m (keep u n (c ∷ cs)) ≡ keep u n (keep t m (c ∷ cs))
    second zero f e more = ap (λ (l : List Change). keep t m l) (keep-own_none u c cs e) ∙ more zero ∙ sym (ap (λ (l : List Change). keep u zero l) (keep-other t m c cs f) ∙ keep-own_none u c (keep t m cs) e)
    second (suc n) f e more = ap (λ (l : List Change). keep t m l) (keep-own u n c cs e) ∙ keep-other t m c (keep u n cs) f ∙ ap (λ (l : List Change). c ∷ l) (more n)
        ∙ sym (ap (λ (l : List Change). keep u (suc n) l) (keep-other t m c cs f) ∙ keep-own u n c (keep t m cs) e)

-- ---- the changes of one transaction
-- of its changes the first n
pub own_changes-keep : (tx n : ℕ) (cs : List Change) → own_changes tx (keep tx n cs) ≡ take n (own_changes tx cs)
own_changes-keep tx n [] = grind (arith, common_steps)
own_changes-keep tx zero (c ∷ cs) = by_test (c.tx == tx) refl (own_changes-keep tx zero cs)
  where
    by_test : (t : Bool) → (c.tx == tx) ≡ t → own_changes tx (keep tx zero cs) ≡ take zero (own_changes tx cs) → own_changes tx (cond t (keep tx zero cs) (c ∷ keep tx zero cs)) ≡ take zero (cond t (c ∷ own_changes tx cs) (own_changes tx cs))
    by_test true is more = more
    by_test false is more = rw is more
own_changes-keep tx (suc n) (c ∷ cs) = by_test (c.tx == tx) refl (own_changes-keep tx n cs) (own_changes-keep tx (suc n) cs)
  where
    by_test : (t : Bool) → (c.tx == tx) ≡ t → own_changes tx (keep tx n cs) ≡ take n (own_changes tx cs) → own_changes tx (keep tx (suc n) cs) ≡ take (suc n) (own_changes tx cs)
        → own_changes tx (cond t (c ∷ keep tx n cs) (c ∷ keep tx (suc n) cs)) ≡ take (suc n) (cond t (c ∷ own_changes tx cs) (own_changes tx cs))
    by_test true is more less = rw is (ap (λ (l : List Change). c ∷ l) more)
    by_test false is more less = rw is less

pub own_changes-keep_other : (tx t n : ℕ) (cs : List Change) → (t ≡ tx → ⊥) → own_changes tx (keep t n cs) ≡ own_changes tx cs
own_changes-keep_other tx t n [] not = refl
own_changes-keep_other tx t zero (c ∷ cs) not = by_test (c.tx == t) refl (own_changes-keep_other tx t zero cs not)
  where
    by_test : (b : Bool) → (c.tx == t) ≡ b → own_changes tx (keep t zero cs) ≡ own_changes tx cs → own_changes tx (cond b (keep t zero cs) (c ∷ keep t zero cs)) ≡ own_changes tx (c ∷ cs)
    by_test true is more = rw (ne_eqb c.tx tx (λ e. not (sym (eqb-true c.tx t is) ∙ e))) more
    by_test false is more = ap (λ (l : List Change). cond (c.tx == tx) (c ∷ l) l) more
own_changes-keep_other tx t (suc n) (c ∷ cs) not = by_test (c.tx == t) (own_changes-keep_other tx t n cs not) (own_changes-keep_other tx t (suc n) cs not)
  where
    by_test : (b : Bool) → own_changes tx (keep t n cs) ≡ own_changes tx cs → own_changes tx (keep t (suc n) cs) ≡ own_changes tx cs → own_changes tx (cond b (c ∷ keep t n cs) (c ∷ keep t (suc n) cs)) ≡ own_changes tx (c ∷ cs)
    by_test true more less = ap (λ (l : List Change). cond (c.tx == tx) (c ∷ l) l) more
    by_test false more less = ap (λ (l : List Change). cond (c.tx == tx) (c ∷ l) l) less

own_changes-stood : (tx : ℕ) (cs : List Change) (r : Record) → own_changes tx (stood cs r) ≡ own_stood tx (own_changes tx cs) r
own_changes-stood tx cs (Begin t) = refl
own_changes-stood tx cs (Image page bytes) = refl
own_changes-stood tx cs (Changed c) = filter-append (λ (c : Change). c.tx == tx) cs (c ∷ []) ∙ by_test (c.tx == tx)
  where
    by_test : (t : Bool) → own_changes tx cs ++ cond t (c ∷ []) [] ≡ cond t (own_changes tx cs ++ c ∷ []) (own_changes tx cs)
    by_test true = refl
    by_test false = grind (arith, common_steps)
own_changes-stood tx cs (Back t n) = by_test (t == tx) refl
  where
    by_test : (b : Bool) → (t == tx) ≡ b → own_changes tx (keep t n cs) ≡ cond b (take n (own_changes tx cs)) (own_changes tx cs)
    by_test true is = subst (λ (u : ℕ). own_changes tx (keep u n cs) ≡ take n (own_changes tx cs)) (sym (eqb-true t tx is)) (own_changes-keep tx n cs)
    by_test false is = own_changes-keep_other tx t n cs (eqb-false t tx is)
own_changes-stood tx cs (Commit t) = refl

own_changes-stood_all : (tx : ℕ) (cs : List Change) (rs : List Record) → own_changes tx (stood_all cs rs) ≡ own_standing tx (own_changes tx cs) rs
own_changes-stood_all tx cs [] = refl
own_changes-stood_all tx cs (r ∷ rs) = own_changes-stood_all tx (stood cs r) rs ∙ ap (λ (l : List Change). own_standing tx l rs) (own_changes-stood tx cs r)

-- of what stands, its changes are those that its own records say
pub own_changes-standing : (tx : ℕ) (recs : List Record) → own_changes tx (standing recs) ≡ own_standing tx [] recs
own_changes-standing tx recs = own_changes-stood_all tx [] recs

pub count_of-own : (tx : ℕ) (cs : List Change) → count_of tx cs ≡ length (own_changes tx cs)
count_of-own tx [] = refl
count_of-own tx (c ∷ cs) = by_test (c.tx == tx) (count_of-own tx cs)
  where
    by_test : (t : Bool) → count_of tx cs ≡ length (own_changes tx cs) → cond t (suc (count_of tx cs)) (count_of tx cs) ≡ length (cond t (c ∷ own_changes tx cs) (own_changes tx cs))
    by_test true same = ap suc same ∙ omega arith
    by_test false same = same

-- ---- a transaction with a new number
pub AreBelow-append : (tx : ℕ) (a b : List Record) → AreBelow tx a → AreBelow tx b → AreBelow tx (a ++ b)
AreBelow-append tx [] b first second = second
AreBelow-append tx (r ∷ a) b first second = (first.0, AreBelow-append tx a b first.1 second)

-- they are below each higher number too
pub AreBelow-higher : (tx higher : ℕ) (recs : List Record) → tx ≤ higher → AreBelow tx recs → AreBelow higher recs
AreBelow-higher tx higher [] le below = tt
AreBelow-higher tx higher (r ∷ recs) le below = (one r below.0, AreBelow-higher tx higher recs le below.1)
  where
    one : (r : Record) → IsBelow tx r → IsBelow higher r
    one (Begin t) lt = omega (arith, lt, le)
    one (Image page bytes) lt = tt
    one (Changed c) lt = omega (arith, lt, le)
    one (Back t n) lt = omega (arith, lt, le)
    one (Commit t) lt = omega (arith, lt, le)

-- it isn't committed
pub AreBelow-committed : (tx : ℕ) (recs : List Record) → AreBelow tx recs → committed recs tx ≡ false
AreBelow-committed tx [] below = refl
AreBelow-committed tx (Begin t ∷ recs) below = AreBelow-committed tx recs below.1
AreBelow-committed tx (Image page bytes ∷ recs) below = AreBelow-committed tx recs below.1
AreBelow-committed tx (Changed c ∷ recs) below = AreBelow-committed tx recs below.1
AreBelow-committed tx (Back t n ∷ recs) below = AreBelow-committed tx recs below.1
AreBelow-committed tx (Commit t ∷ recs) below = rw (ne_eqb t tx (λ e. omega (arith, below.0, e))) (AreBelow-committed tx recs below.1)

NoneOf-append : (tx : ℕ) (cs : List Change) (c : Change) → NoneOf tx cs → (c.tx ≡ tx → ⊥) → NoneOf tx (cs ++ c ∷ [])
NoneOf-append tx [] c none not = (not, tt)
NoneOf-append tx (d ∷ cs) c none not = (none.0, NoneOf-append tx cs c none.1 not)

NoneOf-stood_all : (tx : ℕ) (cs : List Change) (recs : List Record) → NoneOf tx cs → AreBelow tx recs → NoneOf tx (stood_all cs recs)
NoneOf-stood_all tx cs [] none below = none
NoneOf-stood_all tx cs (Begin t ∷ recs) none below = NoneOf-stood_all tx cs recs none below.1
NoneOf-stood_all tx cs (Image page bytes ∷ recs) none below = NoneOf-stood_all tx cs recs none below.1
NoneOf-stood_all tx cs (Changed c ∷ recs) none below = NoneOf-stood_all tx (cs ++ c ∷ []) recs (NoneOf-append tx cs c none (λ e. omega (arith, below.0, e))) below.1
NoneOf-stood_all tx cs (Back t n ∷ recs) none below = NoneOf-stood_all tx (keep t n cs) recs (NoneOf-keep tx t n cs none) below.1
NoneOf-stood_all tx cs (Commit t ∷ recs) none below = NoneOf-stood_all tx cs recs none below.1

-- and no change of it stands
pub AreBelow-standing : (tx : ℕ) (recs : List Record) → AreBelow tx recs → NoneOf tx (standing recs)
AreBelow-standing tx recs below = NoneOf-stood_all tx [] recs tt below

pub count_of-none : (tx : ℕ) (cs : List Change) → NoneOf tx cs → count_of tx cs ≡ 0
count_of-none tx [] none = refl
count_of-none tx (c ∷ cs) none = rw (ne_eqb c.tx tx none.0) (count_of-none tx cs none.1)
