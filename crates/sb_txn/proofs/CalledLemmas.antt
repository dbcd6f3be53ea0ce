-- The transaction of a call among the active ones, and the list with another in its place.
use Rattle.std.proofs.Common.{◌≡◌, ℕ, ◌<◌, Bool, true, false, cond, ◌==◌, Option, Some, None, IsSome, List, [], ◌∷◌, ◌++◌, length, refl, sym, ◌∙◌, ap, subst, arith, eq-eqb}
use Rattle.std.proofs.lemmas.Bool.{eqb-true, false≢true}
use Rattle.sb_txn.specs.Book.{ActiveTransaction, transaction_with, IsAmong, others, put_in, IsOnly, standing_of}

-- ---- it is found
-- the one that is found has the number
pub transaction_with-tx : (tx : ℕ) (os : List ActiveTransaction) (o : ActiveTransaction) → transaction_with tx os ≡ Some o → o.tx ≡ tx
transaction_with-tx tx [] o is = absurd (cc)
transaction_with-tx tx (x ∷ os) o is = by_test (x.tx == tx) refl (transaction_with-tx tx os o) is
  where
    by_test : (t : Bool) → (x.tx == tx) ≡ t → (transaction_with tx os ≡ Some o → o.tx ≡ tx) → cond t (Some x) (transaction_with tx os) ≡ Some o → o.tx ≡ tx
    by_test true same more found = let e : x ≡ o = cc in sym (ap (λ (y : ActiveTransaction). y.tx) e) ∙ eqb-true x.tx tx same
    by_test false other more found = more found

-- its changes are those that are counted
pub standing_of-found : (tx : ℕ) (os : List ActiveTransaction) (o : ActiveTransaction) → transaction_with tx os ≡ Some o → standing_of tx os ≡ length o.undos
standing_of-found tx [] o is = absurd (cc)
standing_of-found tx (x ∷ os) o is = by_test (x.tx == tx) (standing_of-found tx os o) is
  where
    by_test : (t : Bool) → (transaction_with tx os ≡ Some o → standing_of tx os ≡ length o.undos) → cond t (Some x) (transaction_with tx os) ≡ Some o → cond t (length x.undos) (standing_of tx os) ≡ length o.undos
    by_test true more found = let e : x ≡ o = cc in ap (λ (y : ActiveTransaction). length y.undos) e
    by_test false more found = more found

-- of one that isn't there none is
pub standing_of-unfound : (tx : ℕ) (os : List ActiveTransaction) → transaction_with tx os ≡ None → standing_of tx os ≡ 0
standing_of-unfound tx [] none = refl
standing_of-unfound tx (o ∷ os) none = by_test (o.tx == tx) (standing_of-unfound tx os) none
  where
    by_test : (t : Bool) → (transaction_with tx os ≡ None → standing_of tx os ≡ 0) → cond t (Some o) (transaction_with tx os) ≡ None → cond t (length o.undos) (standing_of tx os) ≡ 0
    by_test true behind is = absurd (cc)
    by_test false behind is = behind is

-- one of which a change stands is found
pub found_standing : (tx : ℕ) (os : List ActiveTransaction) → 0 < standing_of tx os → (o : ActiveTransaction) × (transaction_with tx os ≡ Some o)
found_standing tx os some = by_option (transaction_with tx os) refl
  where
    by_option : (found : Option ActiveTransaction) → transaction_with tx os ≡ found → (o : ActiveTransaction) × (transaction_with tx os ≡ Some o)
    by_option None is = absurd (let none = standing_of-unfound tx os is in omega arith)
    by_option (Some o) is = (o, is)

pub IsAmong-found : (tx : ℕ) (os : List ActiveTransaction) (o : ActiveTransaction) → transaction_with tx os ≡ Some o → IsAmong tx os
IsAmong-found tx os o is = subst IsSome (sym is) refl

pub IsAmong-standing : (tx : ℕ) (os : List ActiveTransaction) → 0 < standing_of tx os → IsAmong tx os
IsAmong-standing tx os some = let found = found_standing tx os some in IsAmong-found tx os found.0 found.1

-- an active one is found
pub transaction_with-among : (tx : ℕ) (os : List ActiveTransaction) → IsAmong tx os → (o : ActiveTransaction) × (transaction_with tx os ≡ Some o)
transaction_with-among tx os among = by_option (transaction_with tx os) among
  where
    by_option : (found : Option ActiveTransaction) → IsSome found → (o : ActiveTransaction) × (found ≡ Some o)
    by_option None some = absurd (false≢true some)
    by_option (Some o) some = (o, refl)

-- where one is active, it is that one
pub transaction_with-one : (tx : ℕ) (os : List ActiveTransaction) (o : ActiveTransaction) → os ≡ o ∷ [] → IsAmong tx os → transaction_with tx os ≡ Some o
transaction_with-one tx os o one among = subst (λ (l : List ActiveTransaction). transaction_with tx l ≡ Some o) (sym one) (by_test (o.tx == tx) (subst (λ (l : List ActiveTransaction). IsAmong tx l) one among))
  where
    by_test : (t : Bool) → IsSome (cond t (Some o) None) → cond t (Some o) None ≡ Some o
    by_test true some = refl
    by_test false some = absurd (false≢true some)

-- what is so of it is so of each that is found
pub one_found : (P : ActiveTransaction → Type 0) (tx : ℕ) (os : List ActiveTransaction) (o x : ActiveTransaction) → transaction_with tx os ≡ Some o → transaction_with tx os ≡ Some x → P o → P x
one_found P tx os o x is also has = let same : o ≡ x = cc in subst P same has

-- ---- where it stands
-- It stands somewhere in the list, and these are those before it and behind it. There stands what is put in its place.
pub record IsAt (os rest : List ActiveTransaction) (o : ActiveTransaction) : Type 0 where
  pub before : List ActiveTransaction
  pub behind : List ActiveTransaction
  pub is : os ≡ before ++ o ∷ behind
  pub rest_is : rest ≡ before ++ behind
  pub put : (x : ActiveTransaction) → x.tx ≡ o.tx → put_in x os ≡ before ++ x ∷ behind

pub transaction_with-split : (tx : ℕ) (os : List ActiveTransaction) (o : ActiveTransaction) → transaction_with tx os ≡ Some o → IsAt os (others tx os) o
transaction_with-split tx [] o is = absurd (cc)
transaction_with-split tx (x ∷ os) o is = by_test (x.tx == tx) refl (transaction_with-split tx os o) is
  where
    by_test : (t : Bool) → (x.tx == tx) ≡ t → (transaction_with tx os ≡ Some o → IsAt os (others tx os) o) → cond t (Some x) (transaction_with tx os) ≡ Some o → IsAt (x ∷ os) (cond t os (x ∷ others tx os)) o
    by_test true same more found =
        let e : x ≡ o = cc in
        record {
          before = [];
          behind = os;
          is = ap (λ (y : ActiveTransaction). y ∷ os) e;
          rest_is = refl;
          put = λ y own. ap (λ (b : Bool). cond b (y ∷ os) (x ∷ put_in y os)) (eq-eqb x.tx y.tx (ap (λ (z : ActiveTransaction). z.tx) e ∙ sym own));
        }
    by_test false other more found =
        let at = more found in
        record {
          before = x ∷ at.before;
          behind = at.behind;
          is = ap (λ (l : List ActiveTransaction). x ∷ l) at.is;
          rest_is = ap (λ (l : List ActiveTransaction). x ∷ l) at.rest_is;
          put = λ y own.
              ap (λ (b : Bool). cond b (y ∷ os) (x ∷ put_in y os)) (ap (λ (n : ℕ). x.tx == n) (own ∙ transaction_with-tx tx os o found) ∙ other)
              ∙ ap (λ (l : List ActiveTransaction). x ∷ l) (at.put y own);
        }

-- ---- another in its place
transaction_with-put_in : (x : ActiveTransaction) (os : List ActiveTransaction) → IsAmong x.tx os → transaction_with x.tx (put_in x os) ≡ Some x
transaction_with-put_in x [] among = absurd (false≢true among)
transaction_with-put_in x (z ∷ os) among = by_test (z.tx == x.tx) refl (transaction_with-put_in x os) among
  where
    by_test : (t : Bool) → (z.tx == x.tx) ≡ t → (IsAmong x.tx os → transaction_with x.tx (put_in x os) ≡ Some x) → IsSome (cond t (Some z) (transaction_with x.tx os)) → transaction_with x.tx (cond t (x ∷ os) (z ∷ put_in x os)) ≡ Some x
    by_test true same more some = ap (λ (b : Bool). cond b (Some x) (transaction_with x.tx os)) (eq-eqb x.tx x.tx refl)
    by_test false other more some = ap (λ (b : Bool). cond b (Some z) (transaction_with x.tx (put_in x os))) other ∙ more some

others-put_in : (x : ActiveTransaction) (os : List ActiveTransaction) → others x.tx (put_in x os) ≡ others x.tx os
others-put_in x [] = refl
others-put_in x (z ∷ os) = by_test (z.tx == x.tx) refl (others-put_in x os)
  where
    by_test : (t : Bool) → (z.tx == x.tx) ≡ t → others x.tx (put_in x os) ≡ others x.tx os → others x.tx (cond t (x ∷ os) (z ∷ put_in x os)) ≡ cond t os (z ∷ others x.tx os)
    by_test true same more = ap (λ (b : Bool). cond b os (x ∷ others x.tx os)) (eq-eqb x.tx x.tx refl)
    by_test false other more = ap (λ (b : Bool). cond b (put_in x os) (z ∷ others x.tx (put_in x os))) other ∙ ap (λ (l : List ActiveTransaction). z ∷ l) more

-- the last that is put there stands there
pub put_in-again : (x y : ActiveTransaction) (os : List ActiveTransaction) → y.tx ≡ x.tx → put_in y (put_in x os) ≡ put_in y os
put_in-again x y [] own = refl
put_in-again x y (z ∷ os) own = by_test (z.tx == x.tx) refl (put_in-again x y os own)
  where
    by_test : (t : Bool) → (z.tx == x.tx) ≡ t → put_in y (put_in x os) ≡ put_in y os → put_in y (cond t (x ∷ os) (z ∷ put_in x os)) ≡ cond (z.tx == y.tx) (y ∷ os) (z ∷ put_in y os)
    by_test true same more =
        ap (λ (b : Bool). cond b (y ∷ os) (x ∷ put_in y os)) (eq-eqb x.tx y.tx (sym own))
        ∙ sym (ap (λ (b : Bool). cond b (y ∷ os) (z ∷ put_in y os)) (ap (λ (n : ℕ). z.tx == n) own ∙ same))
    by_test false other more =
        let off = ap (λ (n : ℕ). z.tx == n) own ∙ other in
        ap (λ (b : Bool). cond b (y ∷ put_in x os) (z ∷ put_in y (put_in x os))) off
        ∙ ap (λ (l : List ActiveTransaction). z ∷ l) more
        ∙ sym (ap (λ (b : Bool). cond b (y ∷ os) (z ∷ put_in y os)) off)

module _ (tx : ℕ) (os : List ActiveTransaction) (o : ActiveTransaction) (is : transaction_with tx os ≡ Some o) where
  -- the one that stands there
  pub put_in-same : put_in o os ≡ os
  put_in-same = let at = transaction_with-split tx os o is in at.put o refl ∙ sym at.is

  module _ (x : ActiveTransaction) (own : x.tx ≡ o.tx) where
    number : x.tx ≡ tx
    number = own ∙ transaction_with-tx tx os o is

    pub transaction_with-put : transaction_with tx (put_in x os) ≡ Some x
    transaction_with-put = subst (λ (n : ℕ). transaction_with n (put_in x os) ≡ Some x) number
        (transaction_with-put_in x os (subst (λ (n : ℕ). IsAmong n os) (sym number) (IsAmong-found tx os o is)))

    pub others-put : others tx (put_in x os) ≡ others tx os
    others-put = subst (λ (n : ℕ). others n (put_in x os) ≡ others n os) number (others-put_in x os)

    pub standing_of-put : standing_of tx (put_in x os) ≡ length x.undos
    standing_of-put = standing_of-found tx (put_in x os) x transaction_with-put

    -- it is the only one still
    pub IsOnly-put : others tx os ≡ [] → IsOnly tx (put_in x os)
    IsOnly-put none = (IsAmong-found tx (put_in x os) x transaction_with-put, others-put ∙ none)
