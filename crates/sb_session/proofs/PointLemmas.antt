-- Savepoints, made and gone back to.
use Rattle.std.proofs.Common.{◌≡◌, ℕ, zero, suc, ◌+◌, ◌<◌, ◌||◌, Bool, true, false, cond, List, [], ◌∷◌, ◌++◌, length, take, get_or, All, Option, Some, is_some, refl, sym, ap, ◌∙◌, subst, arith}
use Rattle.std.proofs.Math.Numerals.{add-one}
use Rattle.std.proofs.lemmas.List.Elements.{All-cons, All-get_or, All-head, All-nil, All-push, All-tail, All-take}
use Rattle.std.specs.List.{list_any, position, position_from}
use Rattle.std.proofs.lemmas.Iterator.Adapters.{position_from-zero}
use Rattle.std.specs.Str.{bytes_eq}
use Rattle.sb_relation.specs.Db.{Name}
use Rattle.sb_fold.specs.Outcome.{Going}
use Rattle.sb_plain.specs.State.{Point as PlainPoint, Transaction as PlainTransaction, is_point, points_to}
use Rattle.sb_plain.specs.Step.{back_to}
use Rattle.sb_registry.specs.Boxes.{Meanings}
use Rattle.sb_drive.specs.Spaces.{Wanted}
use Rattle.sb_transactions.specs.Place.{Place}
use Rattle.sb_txn.specs.Parts.{Parts}
use Rattle.sb_transactions.specs.Work.{Work}
use Rattle.sb_transactions.specs.declared.transactions.Point.{Point}
use Rattle.sb_transactions.specs.Transactions.{IsNotBehind, WasSo}
use Rattle.sb_session.specs.declared.session.Savepoint.{Savepoint}
use Rattle.sb_session.specs.Points.{is_named}
use Rattle.sb_session.specs.Sessions.{AreInOrder, AreSavepoints, IsSavepoint, going_at}
use Rattle.sb_session.proofs.Stepped.{at_point}

-- ---- the order of savepoints
pub IsNotBehind-itself : (point : Point) → IsNotBehind point point
IsNotBehind-itself point = record { changes = omega arith; actions = omega arith; entries = omega arith; gone = omega arith }

-- no point is behind the last of those up to it
pub not_behind : (ones : List Savepoint) (i : ℕ) (d : Savepoint) → i < length ones → AreInOrder ones → All (λ one. IsNotBehind one.point (get_or ones i d).point) (take (i + 1) ones)
not_behind ones i d within order = subst (λ (n : ℕ). All (λ one. IsNotBehind one.point (get_or ones i d).point) (take n ones)) (sym (add-one i)) (up_to ones i d within order)
  where
    up_to : (ones : List Savepoint) (i : ℕ) (d : Savepoint) → i < length ones → AreInOrder ones → All (λ one. IsNotBehind one.point (get_or ones i d).point) (take (suc i) ones)
    up_to [] i d within order = absurd (omega arith)
    up_to (one ∷ ones) zero d within order = All-cons (λ other. IsNotBehind other.point one.point) one [] (IsNotBehind-itself one.point) (All-nil (λ other. IsNotBehind other.point one.point))
    up_to (one ∷ ones) (suc i) d within order =
        let less : i < length ones = omega arith in
        All-cons (λ other. IsNotBehind other.point (get_or ones i d).point) one (take (suc i) ones)
        (All-get_or (λ later. IsNotBehind one.point later.point) ones i d less order.0)
        (up_to ones i d less order.1)

pub AreInOrder-take : (n : ℕ) (ones : List Savepoint) → AreInOrder ones → AreInOrder (take n ones)
AreInOrder-take zero ones order = tt
AreInOrder-take (suc n) [] order = tt
AreInOrder-take (suc n) (one ∷ ones) order = (All-take (λ later. IsNotBehind one.point later.point) n ones order.0, AreInOrder-take n ones order.1)

pub AreInOrder-push : (ones : List Savepoint) (last : Savepoint) → AreInOrder ones → All (λ one. IsNotBehind one.point last.point) ones → AreInOrder (ones ++ last ∷ [])
AreInOrder-push [] last order less = (All-nil (λ later. IsNotBehind last.point later.point), tt)
AreInOrder-push (one ∷ ones) last order less = (
  All-push (λ later. IsNotBehind one.point later.point) ones last order.0 (All-head (λ one. IsNotBehind one.point last.point) one ones less),
  AreInOrder-push ones last order.1 (All-tail (λ one. IsNotBehind one.point last.point) one ones less),
)

-- ---- names
module _ (m : Meanings) (place : Place) (want : Wanted) (tx : ℕ) (p : Parts) (w : Work) (name : Name) where
  same_name : (one : Savepoint) (point : PlainPoint) → IsSavepoint m place want tx p w one point → is_named name one ≡ is_point name point
  same_name one point is = ap (λ (n : Name). bytes_eq n name) is.name

  pub names_known : (ones : List Savepoint) (points : List PlainPoint) → AreSavepoints m place want tx p w ones points → list_any (is_named name) ones ≡ list_any (is_point name) points
  names_known [] [] are = refl
  names_known (one ∷ ones) (point ∷ points) are =
      let first : is_named name one ≡ is_point name point = same_name one point are.0 in
      ap (λ (b : Bool). b || list_any (is_named name) ones) first ∙ ap (λ (b : Bool). is_point name point || b) (names_known ones points are.1)
  names_known [] (point ∷ points) are = absurd are
  names_known (one ∷ ones) [] are = absurd are

  pub same_length : (ones : List Savepoint) (points : List PlainPoint) → AreSavepoints m place want tx p w ones points → length ones ≡ length points
  same_length [] [] are = refl
  same_length (one ∷ ones) (point ∷ points) are = ap suc (same_length ones points are.1)
  same_length [] (point ∷ points) are = absurd are
  same_length (one ∷ ones) [] are = absurd are

  -- ---- the first of a name
  -- the state's point of the name, and what to go back to it makes of a transaction
  pub record Found (one : Savepoint) (left : List Savepoint) (points : List PlainPoint) : Type 0 where
    pub point : PlainPoint
    pub is : IsSavepoint m place want tx p w one point
    pub goes : (u : PlainTransaction) → back_to name points u ≡ at_point name point u
    pub kept : AreSavepoints m place want tx p w left (points_to name points)
    pub known : list_any (is_point name) points ≡ true

  found_at : (ones : List Savepoint) (points : List PlainPoint) (i : ℕ) (d : Savepoint) → AreSavepoints m place want tx p w ones points → i < length ones
      → is_named name (get_or ones i d) ≡ true → ((k : ℕ) → k < i → is_named name (get_or ones k d) ≡ false) → Found (get_or ones i d) (take (suc i) ones) points
  found_at [] points i d are within here before = absurd (omega arith)
  found_at (one ∷ ones) [] i d are within here before = absurd are
  found_at (one ∷ ones) (point ∷ points) zero d are within here before =
      let first : is_point name point ≡ true = sym (same_name one point are.0) ∙ here in
      record {
        point = point;
        is = are.0;
        goes = λ u. ap (λ (b : Bool). elim b as (λ c. PlainTransaction) [ true ↦ at_point name point u | false ↦ back_to name points u ]) first;
        kept = (are.0, subst (λ (b : Bool). AreSavepoints m place want tx p w [] (cond b [] (points_to name points))) (sym first) tt);
        known = ap (λ (b : Bool). b || list_any (is_point name) points) first;
      }
  found_at (one ∷ ones) (point ∷ points) (suc i) d are within here before =
      let first : is_point name point ≡ false = sym (same_name one point are.0) ∙ before 0 (omega arith) in
      let rest = found_at ones points i d are.1 (omega arith) here (λ k less. before (suc k) (omega arith)) in
      record {
        point = rest.point;
        is = rest.is;
        goes = λ u. ap (λ (b : Bool). elim b as (λ c. PlainTransaction) [ true ↦ at_point name point u | false ↦ back_to name points u ]) first ∙ rest.goes u;
        kept = (are.0, subst (λ (b : Bool). AreSavepoints m place want tx p w (take (suc i) ones) (cond b [] (points_to name points))) (sym first) rest.kept);
        known = ap (λ (b : Bool). b || list_any (is_point name) points) first ∙ rest.known;
      }

  pub found : (ones : List Savepoint) (points : List PlainPoint) (i : ℕ) (d : Savepoint) → AreSavepoints m place want tx p w ones points → i < length ones
      → is_named name (get_or ones i d) ≡ true → ((k : ℕ) → k < i → is_named name (get_or ones k d) ≡ false) → Found (get_or ones i d) (take (i + 1) ones) points
  found ones points i d are within here before =
      subst (λ (n : ℕ). Found (get_or ones i d) (take n ones) points) (sym (add-one i)) (found_at ones points i d are within here before)

-- ---- what goes on standing
module _ (m : Meanings) (place : Place) (want : Wanted) (tx : ℕ) (p q : Parts) (v w : Work) (mark : Point)
    (stays : (g : Going) (one : Point) → IsNotBehind one mark → WasSo m place want tx g one p v → WasSo m place want tx g one q w) where
  pub AreSavepoints-back : (ones : List Savepoint) (points : List PlainPoint) → All (λ one. IsNotBehind one.point mark) ones
      → AreSavepoints m place want tx p v ones points → AreSavepoints m place want tx q w ones points
  AreSavepoints-back [] [] less are = tt
  AreSavepoints-back (one ∷ ones) (point ∷ points) less are = (
    record { name = are.0.name; was = stays (going_at point) one.point (All-head (λ one. IsNotBehind one.point mark) one ones less) are.0.was },
    AreSavepoints-back ones points (All-tail (λ one. IsNotBehind one.point mark) one ones less) are.1,
  )
  AreSavepoints-back [] (point ∷ points) less are = absurd are
  AreSavepoints-back (one ∷ ones) [] less are = absurd are

pub AreSavepoints-kept : (m : Meanings) (place : Place) (want : Wanted) (tx : ℕ) (p q : Parts) (v w : Work)
    → ((g : Going) (one : Point) → WasSo m place want tx g one p v → WasSo m place want tx g one q w)
    → (ones : List Savepoint) (points : List PlainPoint) → AreSavepoints m place want tx p v ones points → AreSavepoints m place want tx q w ones points
AreSavepoints-kept m place want tx p q v w stays [] [] are = tt
AreSavepoints-kept m place want tx p q v w stays (one ∷ ones) (point ∷ points) are =
    (record { name = are.0.name; was = stays (going_at point) one.point are.0.was }, AreSavepoints-kept m place want tx p q v w stays ones points are.1)
AreSavepoints-kept m place want tx p q v w stays [] (point ∷ points) are = absurd are
AreSavepoints-kept m place want tx p q v w stays (one ∷ ones) [] are = absurd are

-- one more
pub AreSavepoints-push : (m : Meanings) (place : Place) (want : Wanted) (tx : ℕ) (p : Parts) (w : Work) (ones : List Savepoint) (points : List PlainPoint) (one : Savepoint) (point : PlainPoint)
    → AreSavepoints m place want tx p w ones points → IsSavepoint m place want tx p w one point → AreSavepoints m place want tx p w (ones ++ one ∷ []) (points ++ point ∷ [])
AreSavepoints-push m place want tx p w [] [] one point are is = (is, tt)
AreSavepoints-push m place want tx p w (a ∷ ones) (b ∷ points) one point are is = (are.0, AreSavepoints-push m place want tx p w ones points one point are.1 is)
AreSavepoints-push m place want tx p w [] (b ∷ points) one point are is = absurd are
AreSavepoints-push m place want tx p w (a ∷ ones) [] one point are is = absurd are

-- ---- where a name stands
from_place : {A : Type 0} (test : A → Bool) (i : ℕ) (xs : List A) → is_some (position_from test i xs) ≡ list_any test xs
from_place test i [] = refl
from_place test i (x ∷ xs) = by (test x) (from_place test (i + 1) xs)
  where
    by : (b : Bool) → is_some (position_from test (i + 1) xs) ≡ list_any test xs → is_some (cond b (Some i) (position_from test (i + 1) xs)) ≡ (b || list_any test xs)
    by true rest = refl
    by false rest = rest

-- it stands somewhere where one passes the test
pub place_known : {A : Type 0} (test : A → Bool) (xs ys : List A) (o : Option ℕ) → o ≡ position test xs → xs ≡ ys → is_some o ≡ list_any test ys
place_known test xs ys o is same = ap is_some is ∙ ap is_some (position_from-zero test xs) ∙ from_place test 0 xs ∙ ap (list_any test) same
