-- What one record more makes of the changes that stand.
use Rattle.std.proofs.Common.{◌≡◌, ◌⊎◌, ⊎_elim, ℕ, zero, suc, ◌+◌, ◌<◌, ◌≤◌, Bool, true, false, cond, ◌==◌, nat_lt, ◌-◌, Option, Some, List, [], ◌∷◌, ◌++◌, length, take, get_or, reverse, append_assoc, refl, sym, ◌∙◌, ap, arith}
use Rattle.std.proofs.lemmas.Bool.{cases_Bool, eq-eqb, ne_eqb, lt-ltb, le-ltb, cases_eq, cases_lt, cases_order}
use Rattle.std.proofs.lemmas.List.{take_more, reverse-append}
use Rattle.std.specs.Ordering.{nat_cmp}
use Rattle.std.specs.Cmp.{unsigned_tied}
use Rattle.std.specs.Prelude.{unwrap_or}
use Rattle.std.specs.BTreeMap.{BTreeMap, get, Updates}
use Rattle.sb_log.specs.Records.{Change}
use Rattle.sb_log.specs.Standing.{keep, count_of}
use Rattle.sb_log.proofs.StandingLemmas.{keep-enough, keep-append_other}
use Rattle.sb_recover.specs.declared.change.Change.{Change as Lent}
use Rattle.sb_recover.specs.Changes.{change_of, changes_of, newest_first, limits_of, with_limit, taken, AreNumbered}

-- ---- counts of one transaction
suc_cond : (b : Bool) (n : ℕ) → cond b (suc (suc n)) (suc n) ≡ suc (cond b (suc n) n)
suc_cond true n = refl
suc_cond false n = refl

count_of-own_more : (tx : ℕ) (cs : List Change) (c : Change) → c.tx ≡ tx → count_of tx (cs ++ c ∷ []) ≡ suc (count_of tx cs)
count_of-own_more tx [] c own = ap (λ (b : Bool). cond b 1 0) (eq-eqb c.tx tx own)
count_of-own_more tx (d ∷ cs) c own =
    ap (λ (n : ℕ). cond (d.tx == tx) (suc n) n) (count_of-own_more tx cs c own) ∙ suc_cond (d.tx == tx) (count_of tx cs)

count_of-other_more : (tx : ℕ) (cs : List Change) (c : Change) → (c.tx ≡ tx → ⊥) → count_of tx (cs ++ c ∷ []) ≡ count_of tx cs
count_of-other_more tx [] c other = ap (λ (b : Bool). cond b 1 0) (ne_eqb c.tx tx other)
count_of-other_more tx (d ∷ cs) c other = ap (λ (n : ℕ). cond (d.tx == tx) (suc n) n) (count_of-other_more tx cs c other)

-- a change behind as many as are kept is dropped
keep-last_dropped : (tx n : ℕ) (cs : List Change) (c : Change) → c.tx ≡ tx → n ≤ count_of tx cs → keep tx n (cs ++ c ∷ []) ≡ keep tx n cs
keep-last_dropped tx zero [] c own few = ap (λ (b : Bool). cond b [] (c ∷ [])) (eq-eqb c.tx tx own)
keep-last_dropped tx (suc n) [] c own few = absurd (omega (arith, few))
keep-last_dropped tx zero (d ∷ cs) c own few =
    let rest = keep-last_dropped tx zero cs c own (omega arith) in
    ap (λ (l : List Change). cond (d.tx == tx) l (d ∷ l)) rest
keep-last_dropped tx (suc n) (d ∷ cs) c own few = ⊎_elim
    (λ (e : (d.tx == tx) ≡ true).
    let rest = keep-last_dropped tx n cs c own (let m : suc n ≤ suc (count_of tx cs) = rw e at few in omega (arith, m)) in
    rw e (ap (λ (l : List Change). d ∷ l) rest))
    (λ (e : (d.tx == tx) ≡ false).
    let rest = keep-last_dropped tx (suc n) cs c own (rw e at few) in
    rw e (ap (λ (l : List Change). d ∷ l) rest))
    (cases_Bool (d.tx == tx))

-- ---- limits
limit-here : (f : ℕ → ℕ) (tx n t : ℕ) → tx ≡ t → with_limit f tx n t ≡ n
limit-here f tx n t e = ap (λ (b : Bool). cond b n (f t)) (eq-eqb tx t e)

limit-other : (f : ℕ → ℕ) (tx n t : ℕ) → (tx ≡ t → ⊥) → with_limit f tx n t ≡ f t
limit-other f tx n t e = ap (λ (b : Bool). cond b n (f t)) (ne_eqb tx t e)

cond_fewer : (b : Bool) (n x y : ℕ) → x ≤ y → cond b n x ≤ cond b n y
cond_fewer true n x y less = omega arith
cond_fewer false n x y less = less

with_same : (f h : ℕ → ℕ) (tx n : ℕ) → ((t : ℕ) → f t ≡ h t) → (t : ℕ) → with_limit f tx n t ≡ with_limit h tx n t
with_same f h tx n same t = ap (λ (x : ℕ). cond (tx == t) n x) (same t)

-- limits that are the same at each transaction
pub taken-same : (f h : ℕ → ℕ) (es : List Lent) → ((t : ℕ) → f t ≡ h t) → taken f es ≡ taken h es
taken-same f h [] same = refl
taken-same f h (e ∷ older) same =
    ap (λ (x : ℕ). cond (nat_lt e.index x) (taken (with_limit f e.tx e.index) older ++ change_of e ∷ []) (taken f older)) (same e.tx)
    ∙ ap (λ (x : List Change). cond (nat_lt e.index (h e.tx)) (x ++ change_of e ∷ []) (taken f older)) (taken-same (with_limit f e.tx e.index) (with_limit h e.tx e.index) older (with_same f h e.tx e.index same))
    ∙ ap (λ (x : List Change). cond (nat_lt e.index (h e.tx)) (taken (with_limit h e.tx e.index) older ++ change_of e ∷ []) x) (taken-same f h older same)

-- and lower ones
pub AreNumbered-fewer : (f h : ℕ → ℕ) (es : List Lent) → ((t : ℕ) → h t ≤ f t) → AreNumbered f es → AreNumbered h es
AreNumbered-fewer f h [] less numbered = λ tx. let a = less tx in let b = numbered tx in omega (arith, a, b)
AreNumbered-fewer f h (e ∷ older) less numbered = (
  let a = less e.tx in let b = numbered.0 in omega (arith, a, b),
  AreNumbered-fewer (with_limit f e.tx e.index) (with_limit h e.tx e.index) older (λ t. cond_fewer (e.tx == t) e.index (h t) (f t) (less t)) numbered.1,
)

-- a change that doesn't stand limits nothing
fewer_dead : (f : ℕ → ℕ) (tx n t : ℕ) → f tx ≤ n → f t ≤ with_limit f tx n t
fewer_dead f tx n t few = ⊎_elim
    (λ (e : tx ≡ t). let here = limit-here f tx n t e in let same = ap f e in omega (arith, here, same, few))
    (λ (e : tx ≡ t → ⊥). let other = limit-other f tx n t e in omega (arith, other))
    (cases_eq tx t)

numbered_dead : (f : ℕ → ℕ) (e : Lent) (older : List Lent) → f e.tx ≤ e.index → AreNumbered f (e ∷ older) → AreNumbered f older
numbered_dead f e older few numbered = AreNumbered-fewer (with_limit f e.tx e.index) f older (λ t. fewer_dead f e.tx e.index t few) numbered.1

-- the newest change stands or doesn't
taken_alive : (f : ℕ → ℕ) (e : Lent) (older : List Lent) → e.index < f e.tx → taken f (e ∷ older) ≡ taken (with_limit f e.tx e.index) older ++ change_of e ∷ []
taken_alive f e older is = ap (λ (b : Bool). cond b (taken (with_limit f e.tx e.index) older ++ change_of e ∷ []) (taken f older)) (lt-ltb e.index (f e.tx) is)

taken_dead : (f : ℕ → ℕ) (e : Lent) (older : List Lent) → f e.tx ≤ e.index → taken f (e ∷ older) ≡ taken f older
taken_dead f e older isnt = ap (λ (b : Bool). cond b (taken (with_limit f e.tx e.index) older ++ change_of e ∷ []) (taken f older)) (le-ltb e.index (f e.tx) isnt)

-- as many stand as the limit says
pub count_of-taken : (f : ℕ → ℕ) (es : List Lent) (tx : ℕ) → AreNumbered f es → count_of tx (taken f es) ≡ f tx
count_of-taken f [] tx numbered = sym (numbered tx)
count_of-taken f (e ∷ older) tx numbered = ⊎_elim
    (λ (is : e.index < f e.tx).
    let more : count_of tx (taken f (e ∷ older)) ≡ count_of tx (taken (with_limit f e.tx e.index) older ++ change_of e ∷ []) = ap (λ (l : List Change). count_of tx l) (taken_alive f e older is) in
    let rest = count_of-taken (with_limit f e.tx e.index) older tx numbered.1 in
    ⊎_elim
    (λ (own : e.tx ≡ tx).
    let one = count_of-own_more tx (taken (with_limit f e.tx e.index) older) (change_of e) own in
    let here = limit-here f e.tx e.index tx own in
    let same = ap f own in let most = numbered.0 in
    omega (arith, more, one, rest, here, same, is, most))
    (λ (other : e.tx ≡ tx → ⊥).
    let one = count_of-other_more tx (taken (with_limit f e.tx e.index) older) (change_of e) other in
    let there = limit-other f e.tx e.index tx other in
    omega (arith, more, one, rest, there))
    (cases_eq e.tx tx))
    (λ (isnt : f e.tx ≤ e.index).
    ap (λ (l : List Change). count_of tx l) (taken_dead f e older isnt)
    ∙ count_of-taken f older tx (numbered_dead f e older isnt numbered))
    (cases_lt e.index (f e.tx))

-- no more stand than there are
pub limits-few : (f : ℕ → ℕ) (es : List Lent) (t : ℕ) → AreNumbered f es → f t ≤ length es
limits-few f [] t numbered = let none = numbered t in omega (arith, none)
limits-few f (e ∷ older) t numbered =
    ⊎_elim
    (λ (own : e.tx ≡ t).
    let rest = limits-few (with_limit f e.tx e.index) older t numbered.1 in
    let here = limit-here f e.tx e.index t own in let same = ap f own in let most = numbered.0 in
    omega (arith, rest, here, same, most))
    (λ (other : e.tx ≡ t → ⊥).
    let rest = limits-few (with_limit f e.tx e.index) older t numbered.1 in
    let there = limit-other f e.tx e.index t other in
    omega (arith, rest, there))
    (cases_eq e.tx t)

-- ---- a change more
-- where its transaction has one more
module _ (f h : ℕ → ℕ) (e : Lent) (es : List Lent) (index : e.index ≡ f e.tx) (limits : (t : ℕ) → h t ≡ with_limit f e.tx (e.index + 1) t) where
  limit_more : h e.tx ≡ e.index + 1
  limit_more = limits e.tx ∙ limit-here f e.tx (e.index + 1) e.tx refl

  limit_before : (t : ℕ) → with_limit h e.tx e.index t ≡ f t
  limit_before t = ⊎_elim
      (λ (own : e.tx ≡ t). limit-here h e.tx e.index t own ∙ index ∙ ap f own)
      (λ (other : e.tx ≡ t → ⊥). limit-other h e.tx e.index t other ∙ limits t ∙ limit-other f e.tx (e.index + 1) t other)
      (cases_eq e.tx t)

  pub taken-more : taken h (e ∷ es) ≡ taken f es ++ change_of e ∷ []
  taken-more = taken_alive h e es (let is = limit_more in omega (arith, is)) ∙ ap (λ (l : List Change). l ++ change_of e ∷ []) (taken-same (with_limit h e.tx e.index) f es limit_before)

  pub AreNumbered-more : AreNumbered f es → AreNumbered h (e ∷ es)
  AreNumbered-more numbered = (
    let is = limit_more in omega (arith, is),
    AreNumbered-fewer f (with_limit h e.tx e.index) es (λ t. let is = limit_before t in omega (arith, is)) numbered,
  )

-- ---- a transaction's changes cut back
swap_limits : (f : ℕ → ℕ) (tx n u k t : ℕ) → (u ≡ tx → ⊥) → with_limit (with_limit f u k) tx n t ≡ with_limit (with_limit f tx n) u k t
swap_limits f tx n u k t apart = ⊎_elim
    (λ (here : tx ≡ t).
    limit-here (with_limit f u k) tx n t here ∙ sym (limit-here f tx n t here)
    ∙ sym (limit-other (with_limit f tx n) u k t (λ (e : u ≡ t). apart (e ∙ sym here))))
    (λ (other : tx ≡ t → ⊥).
    limit-other (with_limit f u k) tx n t other ∙ ap (λ (x : ℕ). cond (u == t) k x) (sym (limit-other f tx n t other)))
    (cases_eq tx t)

cover_limits : (f : ℕ → ℕ) (tx n u k t : ℕ) → u ≡ tx → with_limit (with_limit f u k) tx n t ≡ with_limit f tx n t
cover_limits f tx n u k t same = ⊎_elim
    (λ (here : tx ≡ t). limit-here (with_limit f u k) tx n t here ∙ sym (limit-here f tx n t here))
    (λ (other : tx ≡ t → ⊥).
    limit-other (with_limit f u k) tx n t other ∙ limit-other f u k t (λ (e : u ≡ t). other (sym same ∙ e)) ∙ sym (limit-other f tx n t other))
    (cases_eq tx t)

same_limit : (f : ℕ → ℕ) (tx n t : ℕ) → n ≡ f tx → with_limit f tx n t ≡ f t
same_limit f tx n t is = ⊎_elim
    (λ (here : tx ≡ t). limit-here f tx n t here ∙ is ∙ ap f here)
    (λ (other : tx ≡ t → ⊥). limit-other f tx n t other)
    (cases_eq tx t)

-- no fewer than there are
pub taken-all : (f : ℕ → ℕ) (es : List Lent) (tx n : ℕ) → AreNumbered f es → f tx ≤ n → taken f es ≡ keep tx n (taken f es)
taken-all f es tx n numbered few = let count = count_of-taken f es tx numbered in sym (keep-enough tx n (taken f es) (omega (arith, count, few)))

-- the newest change is another transaction's
module _ (f : ℕ → ℕ) (e : Lent) (older : List Lent) (tx n : ℕ) (other : e.tx ≡ tx → ⊥) where
  cut_other_alive : e.index < f e.tx → taken (with_limit (with_limit f e.tx e.index) tx n) older ≡ keep tx n (taken (with_limit f e.tx e.index) older)
      → taken (with_limit f tx n) (e ∷ older) ≡ keep tx n (taken f (e ∷ older))
  cut_other_alive is rest =
      let there : with_limit f tx n e.tx ≡ f e.tx = limit-other f tx n e.tx (λ (same : tx ≡ e.tx). other (sym same)) in
      taken_alive (with_limit f tx n) e older (omega (arith, is, there))
      ∙ ap (λ (l : List Change). l ++ change_of e ∷ []) (sym (taken-same (with_limit (with_limit f e.tx e.index) tx n) (with_limit (with_limit f tx n) e.tx e.index) older (λ t. swap_limits f tx n e.tx e.index t other)) ∙ rest)
      ∙ sym (keep-append_other tx n (taken (with_limit f e.tx e.index) older) (change_of e) other)
      ∙ ap (λ (l : List Change). keep tx n l) (sym (taken_alive f e older is))

  cut_other_dead : f e.tx ≤ e.index → taken (with_limit f tx n) older ≡ keep tx n (taken f older)
      → taken (with_limit f tx n) (e ∷ older) ≡ keep tx n (taken f (e ∷ older))
  cut_other_dead isnt rest =
      let there : with_limit f tx n e.tx ≡ f e.tx = limit-other f tx n e.tx (λ (same : tx ≡ e.tx). other (sym same)) in
      taken_dead (with_limit f tx n) e older (omega (arith, isnt, there)) ∙ rest ∙ ap (λ (l : List Change). keep tx n l) (sym (taken_dead f e older isnt))

-- it is the transaction's own
module _ (f : ℕ → ℕ) (e : Lent) (older : List Lent) (tx n : ℕ) (own : e.tx ≡ tx) (numbered : AreNumbered f (e ∷ older)) (fewer : n < f tx) where
  cut_dead : taken (with_limit f tx n) (e ∷ older) ≡ taken (with_limit f tx n) older
  cut_dead =
      let here : with_limit f tx n e.tx ≡ n = limit-here f tx n e.tx (sym own) in
      let most = numbered.0 in let same = ap f own in
      taken_dead (with_limit f tx n) e older (omega (arith, here, most, same, fewer))

  cut_own_alive : e.index < f e.tx → taken (with_limit (with_limit f e.tx e.index) tx n) older ≡ keep tx n (taken (with_limit f e.tx e.index) older)
      → taken (with_limit f tx n) (e ∷ older) ≡ keep tx n (taken f (e ∷ older))
  cut_own_alive is rest =
      let count = count_of-taken (with_limit f e.tx e.index) older tx numbered.1 in
      let here : with_limit f e.tx e.index tx ≡ e.index = limit-here f e.tx e.index tx own in
      let same = ap f own in let most = numbered.0 in
      cut_dead ∙ sym (taken-same (with_limit (with_limit f e.tx e.index) tx n) (with_limit f tx n) older (λ t. cover_limits f tx n e.tx e.index t own)) ∙ rest
      ∙ sym (keep-last_dropped tx n (taken (with_limit f e.tx e.index) older) (change_of e) own (omega (arith, count, here, same, is, most, fewer)))
      ∙ ap (λ (l : List Change). keep tx n l) (sym (taken_alive f e older is))

  cut_own_dead : f e.tx ≤ e.index → taken (with_limit f tx n) older ≡ keep tx n (taken f older)
      → taken (with_limit f tx n) (e ∷ older) ≡ keep tx n (taken f (e ∷ older))
  cut_own_dead isnt rest = cut_dead ∙ rest ∙ ap (λ (l : List Change). keep tx n l) (sym (taken_dead f e older isnt))

-- As many as are left of a transaction's changes are the first of them.
pub taken-kept : (f : ℕ → ℕ) (es : List Lent) (tx n : ℕ) → AreNumbered f es → n ≤ f tx → taken (with_limit f tx n) es ≡ keep tx n (taken f es)
taken-kept f [] tx n numbered few = refl
taken-kept f (e ∷ older) tx n numbered few = ⊎_elim
    (λ (all : n ≡ f tx). taken-same (with_limit f tx n) f (e ∷ older) (λ t. same_limit f tx n t all) ∙ taken-all f (e ∷ older) tx n numbered (omega (arith, all)))
    (λ (apart : n ≡ f tx → ⊥).
    let fewer : n < f tx = less n (f tx) few apart in
    ⊎_elim
    (λ (is : e.index < f e.tx). ⊎_elim
    (λ (own : e.tx ≡ tx).
    let here = limit-here f e.tx e.index tx own in let same = ap f own in let most = numbered.0 in
    cut_own_alive f e older tx n own numbered fewer is (taken-kept (with_limit f e.tx e.index) older tx n numbered.1 (omega (arith, here, same, is, most, fewer))))
    (λ (other : e.tx ≡ tx → ⊥).
    let there = limit-other f e.tx e.index tx other in
    cut_other_alive f e older tx n other is (taken-kept (with_limit f e.tx e.index) older tx n numbered.1 (omega (arith, there, few))))
    (cases_eq e.tx tx))
    (λ (isnt : f e.tx ≤ e.index).
    let rest = taken-kept f older tx n (numbered_dead f e older isnt numbered) few in
    ⊎_elim
    (λ (own : e.tx ≡ tx). cut_own_dead f e older tx n own numbered fewer isnt rest)
    (λ (other : e.tx ≡ tx → ⊥). cut_other_dead f e older tx n other isnt rest)
    (cases_eq e.tx tx))
    (cases_lt e.index (f e.tx)))
    (cases_eq n (f tx))
  where
    less : (a b : ℕ) → a ≤ b → (a ≡ b → ⊥) → a < b
    less a b most apart = ⊎_elim (λ (e : a ≡ b). absurd (apart e)) (λ (o : (a < b) ⊎ (b < a)). ⊎_elim (λ (lt : a < b). lt) (λ (gt : b < a). absurd (omega (arith, most, gt))) o) (cases_order a b)

-- ---- the loop that goes through them backwards
unwrap_cond : (b : Bool) (k : ℕ) (o : Option ℕ) → unwrap_or (cond b (Some k) o) 0 ≡ cond b k (unwrap_or o 0)
unwrap_cond true k o = refl
unwrap_cond false k o = refl

pub limits_of-updates : (m n : BTreeMap ℕ ℕ) (tx k : ℕ) → Updates nat_cmp m n tx (Some k) → (t : ℕ) → limits_of n t ≡ with_limit (limits_of m) tx k t
limits_of-updates m n tx k up t =
    ap (λ (o : Option ℕ). unwrap_or o 0) (up.0 t) ∙ ap (λ (b : Bool). unwrap_or (cond b (Some k) (get nat_cmp m t)) 0) (unsigned_tied tx t) ∙ unwrap_cond (tx == t) k (get nat_cmp m t)

pub take_last : (cs : List Lent) (n : ℕ) (d : Lent) → 0 < n → n ≤ length cs → take n cs ≡ take (n - 1) cs ++ get_or cs (n - 1) d ∷ []
take_last cs n d some within =
    let e : n ≡ n - 1 + 1 = omega (arith, some) in
    ap (λ (k : ℕ). take k cs) e ∙ take_more cs (n - 1) d (omega (arith, some, within))

pub newest_first-more : (cs : List Lent) (c : Lent) → newest_first (cs ++ c ∷ []) ≡ c ∷ newest_first cs
newest_first-more cs c = reverse-append cs (c ∷ [])

module _ (f : ℕ → ℕ) (all : List Change) (front found : List Lent) (c : Lent) where
  pub taken-next : (h : ℕ → ℕ) → c.index < f c.tx → ((t : ℕ) → h t ≡ with_limit f c.tx c.index t)
      → all ≡ taken f (newest_first (front ++ c ∷ [])) ++ changes_of (reverse found) → all ≡ taken h (newest_first front) ++ changes_of (reverse (found ++ c ∷ []))
  taken-next h alive limits so_far =
      so_far
      ∙ ap (λ (l : List Lent). taken f l ++ changes_of (reverse found)) (newest_first-more front c)
      ∙ ap (λ (l : List Change). l ++ changes_of (reverse found)) (taken_alive f c (newest_first front) alive)
      ∙ append_assoc (taken (with_limit f c.tx c.index) (newest_first front)) (change_of c ∷ []) (changes_of (reverse found))
      ∙ ap (λ (l : List Change). l ++ change_of c ∷ changes_of (reverse found)) (sym (taken-same h (with_limit f c.tx c.index) (newest_first front) limits))
      ∙ ap (λ (l : List Lent). taken h (newest_first front) ++ changes_of l) (sym (newest_first-more found c))

  pub taken-skip : f c.tx ≤ c.index
      → all ≡ taken f (newest_first (front ++ c ∷ [])) ++ changes_of (reverse found) → all ≡ taken f (newest_first front) ++ changes_of (reverse found)
  taken-skip dead so_far =
      so_far
      ∙ ap (λ (l : List Lent). taken f l ++ changes_of (reverse found)) (newest_first-more front c)
      ∙ ap (λ (l : List Change). l ++ changes_of (reverse found)) (taken_dead f c (newest_first front) dead)

-- what a place behind the last has
abbrev pub no_change : Lent
no_change = record { tx = 0; owner = 0; page = 0; offset = 0; before = record { ref_ptr = (0, 0); now = [] }; after = record { ref_ptr = (0, 0); now = [] }; index = 0 }
