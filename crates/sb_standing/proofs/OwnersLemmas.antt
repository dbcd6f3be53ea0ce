-- Owners of instances that are apart.
use Rattle.std.proofs.Common.{◌≡◌, ℕ, inl, inr, Bool, true, false, true≢false, cond, List, [], ◌∷◌, ◌++◌, map, All, Some, bytes_eq, refl, sym, subst, ◌∙◌, arith}
use Rattle.std.proofs.lemmas.List.Elements.{All-nil, All-cons, All-head, All-tail, All-weaker}
use Rattle.std.proofs.lemmas.Option.{same_Some}
use Rattle.sb_relation.specs.Db.{Name}
use Rattle.sb_catalog.specs.declared.descriptor.Attached.{Attached}
use Rattle.sb_standing.specs.Instances.{owners_of}
use Rattle.sb_standing.specs.Standing.{AreApart, IsOwner, IsAmong, owners_in}
use Rattle.sb_standing.specs.Tables.{Kept, kept_at}

-- ---- owners in a list
pub All-among : (P : ℕ → Type 0) (xs : List ℕ) (x : ℕ) → All P xs → IsAmong x xs → P x
All-among P [] x all is = absurd is
All-among P (y ∷ ys) x all (inl same) = subst P (sym same) (All-head P y ys all)
All-among P (y ∷ ys) x all (inr later) = All-among P ys x (All-tail P y ys all) later

pub All-from_among : (P : ℕ → Type 0) (xs : List ℕ) → ((x : ℕ) → IsAmong x xs → P x) → All P xs
All-from_among P [] each = All-nil P
All-from_among P (x ∷ xs) each = All-cons P x xs (each x (inl refl)) (All-from_among P xs (λ y later. each y (inr later)))

pub among_front : (x : ℕ) (xs ys : List ℕ) → IsAmong x xs → IsAmong x (xs ++ ys)
among_front x [] ys is = absurd is
among_front x (y ∷ xs) ys (inl same) = inl same
among_front x (y ∷ xs) ys (inr later) = inr (among_front x xs ys later)

pub among_back : (x : ℕ) (xs ys : List ℕ) → IsAmong x ys → IsAmong x (xs ++ ys)
among_back x [] ys is = is
among_back x (y ∷ xs) ys is = inr (among_back x xs ys is)

-- ---- owners that are apart
pub AreApart-front : (xs ys : List ℕ) → AreApart (xs ++ ys) → AreApart xs
AreApart-front [] ys apart = tt
AreApart-front (x ∷ xs) ys apart = (
  All-from_among (λ o. (o ≡ x) → (o ≡ 0)) xs (λ o is. All-among (λ n. (n ≡ x) → (n ≡ 0)) (xs ++ ys) o apart.0 (among_front o xs ys is)),
  AreApart-front xs ys apart.1,
)

pub AreApart-back : (xs ys : List ℕ) → AreApart (xs ++ ys) → AreApart ys
AreApart-back [] ys apart = apart
AreApart-back (x ∷ xs) ys apart = AreApart-back xs ys apart.1

-- one of the first and one of the others
pub AreApart-across : (xs ys : List ℕ) (x y : ℕ) → AreApart (xs ++ ys) → IsAmong x xs → IsAmong y ys → y ≡ x → y ≡ 0
AreApart-across [] ys x y apart is later = absurd is
AreApart-across (z ∷ xs) ys x y apart (inl same) later = λ e. All-among (λ n. (n ≡ z) → (n ≡ 0)) (xs ++ ys) y apart.0 (among_back y xs ys later) (e ∙ same)
AreApart-across (z ∷ xs) ys x y apart (inr is) later = AreApart-across xs ys x y apart.1 is later

-- the catalogue's owner is none of them
pub catalogue_apart : (o : ℕ) → IsOwner o → ◌≡◌ {A = ℕ} 2 o → ⊥
catalogue_apart o (inl none) same = omega arith
catalogue_apart o (inr above) same = omega arith

-- ---- the owners of a relation's instances
-- that of an attachment
pub attached_among : (ds : List Attached) → All (λ d. IsAmong d.owner (map (λ a. a.owner) ds)) ds
attached_among [] = All-nil (λ (d : Attached). IsAmong d.owner [])
attached_among (d ∷ ds) =
    All-cons (λ (x : Attached). IsAmong x.owner (map (λ a. a.owner) (d ∷ ds))) d ds (inl refl)
    (All-weaker (λ (x : Attached). IsAmong x.owner (map (λ a. a.owner) ds)) (λ (x : Attached). IsAmong x.owner (map (λ a. a.owner) (d ∷ ds))) (λ x is. inr is) ds (attached_among ds))

-- they are among those of all relations
abbrev AreAmong : List ℕ → Kept → Type 0
AreAmong owners k = (o : ℕ) → IsAmong o (owners_of k.descriptor) → IsAmong o owners

pub owners_among : (kept : List Kept) → All (AreAmong (owners_in kept)) kept
owners_among [] = All-nil (AreAmong [])
owners_among (k ∷ kept) =
    All-cons (AreAmong (owners_in (k ∷ kept))) k kept (λ o is. among_front o (owners_of k.descriptor) (owners_in kept) is)
    (All-weaker (AreAmong (owners_in kept)) (AreAmong (owners_in (k ∷ kept))) (λ x within o is. among_back o (owners_of k.descriptor) (owners_in kept) (within o is)) kept (owners_among kept))

-- ---- the relation of a name among them
pub owners_of-among : (kept : List Kept) (name : Name) (k : Kept) (o : ℕ) → kept_at kept name ≡ Some k → IsAmong o (owners_of k.descriptor) → IsAmong o (owners_in kept)
owners_of-among [] name k o at is = absurd (cc)
owners_of-among (x ∷ kept) name k o at is = by (bytes_eq x.name name) (λ later. owners_of-among kept name k o later is) at
  where
    by : (b : Bool) → (kept_at kept name ≡ Some k → IsAmong o (owners_in kept)) → cond b (Some x) (kept_at kept name) ≡ Some k → IsAmong o (owners_in (x ∷ kept))
    by true rest at = among_front o (owners_of x.descriptor) (owners_in kept) (subst (λ (y : Kept). IsAmong o (owners_of y.descriptor)) (sym (same_Some x k at)) is)
    by false rest at = among_back o (owners_of x.descriptor) (owners_in kept) (rest at)

-- its own owners are apart
pub AreApart-within : (kept : List Kept) (name : Name) (k : Kept) → AreApart (owners_in kept) → kept_at kept name ≡ Some k → AreApart (owners_of k.descriptor)
AreApart-within [] name k apart at = absurd (cc)
AreApart-within (x ∷ kept) name k apart at = by (bytes_eq x.name name) (AreApart-within kept name k (AreApart-back (owners_of x.descriptor) (owners_in kept) apart)) at
  where
    by : (b : Bool) → (kept_at kept name ≡ Some k → AreApart (owners_of k.descriptor)) → cond b (Some x) (kept_at kept name) ≡ Some k → AreApart (owners_of k.descriptor)
    by true rest at = subst (λ (y : Kept). AreApart (owners_of y.descriptor)) (same_Some x k at) (AreApart-front (owners_of x.descriptor) (owners_in kept) apart)
    by false rest at = rest at

-- a relation of another name has no instance of this owner
abbrev pub IsApartFrom : ℕ → Kept → Type 0
IsApartFrom owner k = (o : ℕ) → IsAmong o (owners_of k.descriptor) → o ≡ owner → o ≡ 0

abbrev pub IsElsewhere : Name → ℕ → Kept → Type 0
IsElsewhere name owner k = bytes_eq k.name name ≡ false → IsApartFrom owner k

pub AreElsewhere : (kept : List Kept) (name : Name) (k : Kept) (owner : ℕ) → AreApart (owners_in kept) → kept_at kept name ≡ Some k → IsAmong owner (owners_of k.descriptor) → All (IsElsewhere name owner) kept
AreElsewhere [] name k owner apart at is = absurd (cc)
AreElsewhere (x ∷ kept) name k owner apart at is =
    by (bytes_eq x.name name) refl (λ later. AreElsewhere kept name k owner (AreApart-back (owners_of x.descriptor) (owners_in kept) apart) later is) at
  where
    across : (a b : ℕ) → IsAmong a (owners_of x.descriptor) → IsAmong b (owners_in kept) → b ≡ a → b ≡ 0
    across a b = AreApart-across (owners_of x.descriptor) (owners_in kept) a b apart

    by : (b : Bool) → bytes_eq x.name name ≡ b → (kept_at kept name ≡ Some k → All (IsElsewhere name owner) kept) → cond b (Some x) (kept_at kept name) ≡ Some k → All (IsElsewhere name owner) (x ∷ kept)
    by true same rest at =
        let here = subst (λ (y : Kept). IsAmong owner (owners_of y.descriptor)) (sym (same_Some x k at)) is in
        All-cons (IsElsewhere name owner) x kept (λ other. absurd (true≢false (sym same ∙ other)))
        (All-weaker (AreAmong (owners_in kept)) (IsElsewhere name owner) (λ y within other o among. across owner o here (within o among)) kept (owners_among kept))
    by false other rest at =
        let later = owners_of-among kept name k owner at is in
        All-cons (IsElsewhere name owner) x kept (λ _ o among e. e ∙ across o owner among later (sym e)) (rest at)
