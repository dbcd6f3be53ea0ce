-- Where a transaction stands among the active ones.
use Rattle.std.proofs.Common.{◌≡◌, ℕ, zero, suc, ◌+◌, ◌<◌, ◌==◌, nat_lt, not, Bool, true, false, cond, Option, Some, None, is_some, IsSome, List, [], ◌∷◌, length, map, get_or, set, take, drop, position, refl, sym, ◌∙◌, ap, subst, arith, eq-eqb}
use Rattle.std.specs.List.{remove, position_or_len}
use Rattle.std.proofs.Math.ListN.{get_or-map}
use Rattle.std.proofs.lemmas.Bool.{false≢true, lt-ltb}
use Rattle.std.proofs.lemmas.List.{length-map, take-map, drop-map, map-append, map-set}
use Rattle.std.proofs.lemmas.List.Quantifiers.{position-Some}
use Rattle.sb_txn.specs.Book.{ActiveTransaction, transaction_with, IsAmong, others, put_in, IsOnly, standing_of}
use Rattle.sb_txn.proofs.CalledLemmas.{standing_of-unfound}

-- it has this number
abbrev pub has : ℕ → ActiveTransaction → Bool
has tx o = o.tx == tx

-- ---- the first one
module _ (tx : ℕ) (o : ActiveTransaction) (rest : List ActiveTransaction) (is : o.tx ≡ tx) where
  pub transaction_with-first : transaction_with tx (o ∷ rest) ≡ Some o
  transaction_with-first = ap (λ (b : Bool). cond b (Some o) (transaction_with tx rest)) (eq-eqb o.tx tx is)

  pub others-first : others tx (o ∷ rest) ≡ rest
  others-first = ap (λ (b : Bool). cond b rest (o ∷ others tx rest)) (eq-eqb o.tx tx is)

  pub standing_of-first : standing_of tx (o ∷ rest) ≡ length o.undos
  standing_of-first = ap (λ (b : Bool). cond b (length o.undos) (standing_of tx rest)) (eq-eqb o.tx tx is)

-- one that is alone is the only one
pub IsOnly-one : (tx : ℕ) (o : ActiveTransaction) → o.tx ≡ tx → IsOnly tx (o ∷ [])
IsOnly-one tx o is = (subst IsSome (sym (transaction_with-first tx o [] is)) refl, others-first tx o [] is)

-- ---- by its place
-- it stands at the place, and none before it has its number
abbrev StandsAt : ℕ → ActiveTransaction → List ActiveTransaction → ℕ → Type 0
StandsAt tx d actives n = (n < length actives) × (has tx (get_or actives n d) ≡ true) × ((k : ℕ) → k < n → has tx (get_or actives k d) ≡ false)

module _ (tx : ℕ) (d : ActiveTransaction) where
  behind : (o : ActiveTransaction) (os : List ActiveTransaction) (n : ℕ) → StandsAt tx d (o ∷ os) (suc n) → StandsAt tx d os n
  behind o os n at = (omega (arith, at.0), at.1, λ k lt. at.2 (suc k) (omega arith))

  transaction_with-at : (actives : List ActiveTransaction) (n : ℕ) → StandsAt tx d actives n → transaction_with tx actives ≡ Some (get_or actives n d)
  transaction_with-at [] n at = absurd (omega (arith, at.0))
  transaction_with-at (o ∷ os) zero at = ap (λ (b : Bool). cond b (Some o) (transaction_with tx os)) at.1
  transaction_with-at (o ∷ os) (suc n) at = ap (λ (b : Bool). cond b (Some o) (transaction_with tx os)) (at.2 zero (omega arith)) ∙ transaction_with-at os n (behind o os n at)

  others-at : (actives : List ActiveTransaction) (n : ℕ) → StandsAt tx d actives n → others tx actives ≡ remove actives n
  others-at [] n at = absurd (omega (arith, at.0))
  others-at (o ∷ os) zero at = ap (λ (b : Bool). cond b os (o ∷ others tx os)) at.1
  others-at (o ∷ os) (suc n) at = ap (λ (b : Bool). cond b os (o ∷ others tx os)) (at.2 zero (omega arith)) ∙ ap (λ (l : List ActiveTransaction). o ∷ l) (others-at os n (behind o os n at))

  put_in-at : (actives : List ActiveTransaction) (n : ℕ) (x : ActiveTransaction) → x.tx ≡ tx → StandsAt tx d actives n → put_in x actives ≡ set actives n x
  put_in-at [] n x own at = absurd (omega (arith, at.0))
  put_in-at (o ∷ os) zero x own at = ap (λ (b : Bool). cond b (x ∷ os) (o ∷ put_in x os)) (ap (λ (m : ℕ). o.tx == m) own ∙ at.1)
  put_in-at (o ∷ os) (suc n) x own at = ap (λ (b : Bool). cond b (x ∷ os) (o ∷ put_in x os)) (ap (λ (m : ℕ). o.tx == m) own ∙ at.2 zero (omega arith)) ∙ ap (λ (l : List ActiveTransaction). o ∷ l) (put_in-at os n x own (behind o os n at))

-- where an active one stands
place-below : (tx : ℕ) (actives : List ActiveTransaction) → IsAmong tx actives → position_or_len (has tx) actives < length actives
place-below tx [] among = absurd (cc)
place-below tx (o ∷ os) among = by_case (has tx o) (place-below tx os) among
  where
    by_case : (b : Bool) → (IsAmong tx os → position_or_len (has tx) os < length os) → IsSome (cond b (Some o) (transaction_with tx os)) → cond (not b) (1 + position_or_len (has tx) os) 0 < length (o ∷ os)
    by_case true behind is = omega arith
    by_case false behind is = let lt = behind is in omega arith

-- an active one has a place
pub IsSome-place : (tx : ℕ) (actives : List ActiveTransaction) → IsAmong tx actives → IsSome (position (has tx) actives)
IsSome-place tx actives among =
    let place = position_or_len (has tx) actives in
    ap (λ (b : Bool). is_some (cond b (Some place) None)) (lt-ltb place (length actives) (place-below tx actives among))

-- one that has no place has no change
pub standing_of-unplaced : (tx : ℕ) (actives : List ActiveTransaction) → position (has tx) actives ≡ None → standing_of tx actives ≡ 0
standing_of-unplaced tx actives none = by_option (transaction_with tx actives) refl
  where
    by_option : (found : Option ActiveTransaction) → transaction_with tx actives ≡ found → standing_of tx actives ≡ 0
    by_option None is = standing_of-unfound tx actives is
    by_option (Some o) is = absurd (false≢true (ap is_some (sym none) ∙ IsSome-place tx actives (ap is_some is)))

-- ---- where a list stands for the active ones
-- the place in it
position_or_len-map : {X Y : Type 0} (p : Y → Bool) (f : X → Y) (xs : List X) → position_or_len p (map f xs) ≡ position_or_len (λ x. p (f x)) xs
position_or_len-map p f [] = refl
position_or_len-map p f (x ∷ xs) = ap (λ n. cond (not (p (f x))) (1 + n) 0) (position_or_len-map p f xs)

pub position-map : {X Y : Type 0} (p : Y → Bool) (f : X → Y) (xs : List X) → position p (map f xs) ≡ position (λ x. p (f x)) xs
position-map p f xs =
    ap (λ n. cond (nat_lt n (length (map f xs))) (Some n) None) (position_or_len-map p f xs) ∙ ap (λ n. cond (nat_lt (position_or_len (λ x. p (f x)) xs) n) (Some (position_or_len (λ x. p (f x)) xs)) None) (length-map xs f)

-- what is there
module _ {X : Type 0} (f : X → ActiveTransaction) (xs : List X) (x : X) (tx n : ℕ) (is : position (has tx) (map f xs) ≡ Some n) (at : x ≡ get_or xs n x) where
  pub transaction_with-place : transaction_with tx (map f xs) ≡ Some (f x)
  transaction_with-place = transaction_with-at tx (f x) (map f xs) n (position-Some (has tx) (map f xs) n (f x) is) ∙ ap Some (get_or-map f xs n x ∙ ap f (sym at))

  pub others-place : others tx (map f xs) ≡ map f (remove xs n)
  others-place = others-at tx (f x) (map f xs) n (position-Some (has tx) (map f xs) n (f x) is) ∙ rw (take-map f n xs, drop-map f (suc n) xs, map-append f (take n xs) (drop (suc n) xs))

  -- what is put there
  pub put_in-place : (y : X) → (f y).tx ≡ tx → put_in (f y) (map f xs) ≡ map f (set xs n y)
  put_in-place y own = put_in-at tx (f x) (map f xs) n (f y) own (position-Some (has tx) (map f xs) n (f x) is) ∙ sym (map-set f xs n y)
