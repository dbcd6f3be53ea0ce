-- Owners of instances, by how often each stands in a list.
use Rattle.std.proofs.Common.{◌≡◌, inl, inr, ℕ, zero, suc, ◌+◌, ◌<◌, ◌≤◌, ◌==◌, Bool, true, false, cond, not, T, List, [], ◌∷◌, ◌++◌, All, Option, Some, None, Ordering, Less, Equal, Greater, bytes_eq, refl, sym, ap, subst, ◌∙◌, arith, eqb-true, true≢false}
use Rattle.std.specs.FinMap.Entries.{by_order, below_all, is_sorted}
use Rattle.std.proofs.lemmas.Bool.{eq-eqb}
use Rattle.std.proofs.lemmas.List.Elements.{All-head, All-tail, All-cons, All-nil}
use Rattle.sb_value.specs.Equal.{bytes_same}
use Rattle.sb_value.specs.Order.{bytes_cmp}
use Rattle.sb_relation.specs.Db.{Name}
use Rattle.sb_standing.specs.Tables.{Kept, db_of, kept_at, put_kept, without_kept}
use Rattle.sb_standing.specs.Instances.{owners_of}
use Rattle.sb_standing.specs.Standing.{AreApart, IsAmong, owners_in}
use Rattle.sb_standing.proofs.PutLemmas.{one_name, other_name, turned_name, rising_parts, none_below, without_below, below_less}

-- ---- how often
abbrev pub times : ℕ → List ℕ → ℕ
times o [] = 0
times o (x ∷ xs) = cond (o == x) (suc (times o xs)) (times o xs)

pub times-append : (o : ℕ) (xs ys : List ℕ) → times o (xs ++ ys) ≡ times o xs + times o ys
times-append o [] ys = omega arith
times-append o (x ∷ xs) ys =
    elim (o == x) as (λ b. cond b (suc (times o (xs ++ ys))) (times o (xs ++ ys)) ≡ cond b (suc (times o xs)) (times o xs) + times o ys) [
      | true ↦ let rest = times-append o xs ys in omega (arith, rest)
      | false ↦ times-append o xs ys
    ]

-- ---- whether it is among them
pub times-among : (o : ℕ) (xs : List ℕ) → IsAmong o xs → 0 < times o xs
times-among o [] is = absurd is
times-among o (x ∷ xs) (inl same) = subst (λ b. 0 < cond b (suc (times o xs)) (times o xs)) (sym (eq-eqb o x same)) (omega arith)
times-among o (x ∷ xs) (inr is) =
    let rest = times-among o xs is in
    elim (o == x) as (λ b. 0 < cond b (suc (times o xs)) (times o xs)) [ true ↦ omega arith | false ↦ rest ]

pub among-times : (o : ℕ) (xs : List ℕ) → 0 < times o xs → IsAmong o xs
among-times o [] some = absurd (omega (arith, some))
among-times o (x ∷ xs) some = by (o == x) refl some (among-times o xs)
  where
    by : (b : Bool) → (o == x) ≡ b → 0 < cond b (suc (times o xs)) (times o xs) → (0 < times o xs → IsAmong o xs) → IsAmong o (x ∷ xs)
    by true same some rest = inl (eqb-true o x same)
    by false other some rest = inr (rest some)

pub All-times : (P : ℕ → Type 0) (xs : List ℕ) → All P xs → (o : ℕ) → 0 < times o xs → P o
All-times P [] all o some = absurd (omega (arith, some))
All-times P (x ∷ xs) all o some = by (o == x) refl some (All-times P xs (All-tail P x xs all) o)
  where
    by : (b : Bool) → (o == x) ≡ b → 0 < cond b (suc (times o xs)) (times o xs) → (0 < times o xs → P o) → P o
    by true same some rest = subst P (sym (eqb-true o x same)) (All-head P x xs all)
    by false other some rest = rest some

pub times-All : (P : ℕ → Type 0) (xs : List ℕ) → ((o : ℕ) → 0 < times o xs → P o) → All P xs
times-All P [] each = All-nil P
times-All P (x ∷ xs) each =
    All-cons P x xs (each x (times-among x (x ∷ xs) (inl refl)))
    (times-All P xs (λ o some. each o (times-among o (x ∷ xs) (inr (among-times o xs some)))))

-- ---- whether each is there once
once_more : (b : Bool) (n : ℕ) → n ≤ cond b (suc n) n
once_more true n = omega arith
once_more false n = omega arith

pub apart-times : (xs : List ℕ) → AreApart xs → (o : ℕ) → (o ≡ 0 → ⊥) → times o xs ≤ 1
apart-times [] apart o some = omega arith
apart-times (x ∷ xs) apart o some = by (o == x) refl (apart-times xs apart.1 o some)
  where
    none : (n : ℕ) → times o xs ≡ n → o ≡ x → suc n ≤ 1
    none zero is same = omega arith
    none (suc n) is same = absurd (some (All-times (λ y. (y ≡ x) → (y ≡ 0)) xs apart.0 o (omega (arith, is)) same))

    by : (b : Bool) → (o == x) ≡ b → times o xs ≤ 1 → cond b (suc (times o xs)) (times o xs) ≤ 1
    by true same rest = none (times o xs) refl (eqb-true o x same)
    by false other rest = rest

pub times-apart : (xs : List ℕ) → ((o : ℕ) → (o ≡ 0 → ⊥) → times o xs ≤ 1) → AreApart xs
times-apart [] once = tt
times-apart (x ∷ xs) once = (
  times-All (λ o. (o ≡ x) → (o ≡ 0)) xs (λ o some same. by o some same (o == 0) refl),
  times-apart xs (λ o some. let all = once o some in let less = once_more (o == x) (times o xs) in omega (arith, all, less)),
)
  where
    by : (o : ℕ) → 0 < times o xs → o ≡ x → (b : Bool) → (o == 0) ≡ b → o ≡ 0
    by o some same true is = eqb-true o 0 is
    by o some same false is =
        let all = once o (λ e. true≢false (sym (eq-eqb o 0 e) ∙ is)) in
        let two : suc (times o xs) ≤ 1 = subst (λ b. cond b (suc (times o xs)) (times o xs) ≤ 1) (eq-eqb o x same) all in
        absurd (omega (arith, two, some))

-- ---- a number of each relation, added up
abbrev pub total : (Kept → ℕ) → List Kept → ℕ
total f [] = 0
total f (k ∷ kept) = f k + total f kept

-- that of what is kept under a name, if there is one
abbrev pub of_kept : (Kept → ℕ) → Option Kept → ℕ
of_kept f None = 0
of_kept f (Some k) = f k

pub total-put : (f : Kept → ℕ) (k : Kept) (kept : List Kept) → T (is_sorted bytes_cmp (db_of kept)) → total f (put_kept k kept) + of_kept f (kept_at kept k.name) ≡ f k + total f kept
total-put f k [] rising = omega arith
total-put f k (x ∷ kept) rising = by (bytes_cmp k.name x.name) refl (rising_parts x kept rising).0 (total-put f k kept (rising_parts x kept rising).1)
  where
    there : (b : Bool) (n m : ℕ) → b ≡ true → f k + total f kept + of_kept f (cond b (Some x) (kept_at kept k.name)) ≡ f k + (f x + total f kept)
    there b n m is = subst (λ t. f k + total f kept + of_kept f (cond t (Some x) (kept_at kept k.name)) ≡ f k + (f x + total f kept)) (sym is) (omega arith)

    by : (r : Ordering) → bytes_cmp k.name x.name ≡ r → T (below_all bytes_cmp x.name (db_of kept)) → total f (put_kept k kept) + of_kept f (kept_at kept k.name) ≡ f k + total f kept
        → total f (by_order r (k ∷ x ∷ kept) (k ∷ kept) (x ∷ put_kept k kept)) + of_kept f (kept_at (x ∷ kept) k.name) ≡ f k + (f x + total f kept)
    by Less is below rest =
        subst (λ (o : Option Kept). f k + (f x + total f kept) + of_kept f o ≡ f k + (f x + total f kept))
        (sym (ap (λ t. cond t (Some x) (kept_at kept k.name)) (turned_name k.name x.name (other_name k.name x.name Less refl is)) ∙ none_below k.name kept (below_less k.name x.name kept is below)))
        (omega arith)
    by Equal is below rest = there (bytes_eq x.name k.name) 0 0 ((bytes_same x.name k.name).1 (sym (one_name k.name x.name is)))
    by Greater is below rest =
        subst (λ (o : Option Kept). f x + total f (put_kept k kept) + of_kept f o ≡ f k + (f x + total f kept))
        (sym (ap (λ t. cond t (Some x) (kept_at kept k.name)) (turned_name k.name x.name (other_name k.name x.name Greater refl is))))
        (added (total f (put_kept k kept)) (of_kept f (kept_at kept k.name)) (f k) (total f kept) (f x) rest)
      where
        added : (a b c d e : ℕ) → a + b ≡ c + d → e + a + b ≡ c + (e + d)
        added a b c d e same = omega arith

pub total-without : (f : Kept → ℕ) (name : Name) (kept : List Kept) → T (is_sorted bytes_cmp (db_of kept)) → total f (without_kept name kept) + of_kept f (kept_at kept name) ≡ total f kept
total-without f name [] rising = omega arith
total-without f name (x ∷ kept) rising = by (bytes_eq x.name name) refl (rising_parts x kept rising).0 (total-without f name kept (rising_parts x kept rising).1)
  where
    added : (a b c d : ℕ) → a + b ≡ c → d + a + b ≡ d + c
    added a b c d same = omega arith

    by : (b : Bool) → bytes_eq x.name name ≡ b → T (below_all bytes_cmp x.name (db_of kept)) → total f (without_kept name kept) + of_kept f (kept_at kept name) ≡ total f kept
        → total f (cond (not b) (x ∷ without_kept name kept) (without_kept name kept)) + of_kept f (cond b (Some x) (kept_at kept name)) ≡ f x + total f kept
    by true is below rest =
        let same : without_kept name kept ≡ kept = without_below name kept (subst (λ n. T (below_all bytes_cmp n (db_of kept))) ((bytes_same x.name name).0 is) below) in
        subst (λ (l : List Kept). total f l + f x ≡ f x + total f kept) (sym same) (omega arith)
    by false is below rest = added (total f (without_kept name kept)) (of_kept f (kept_at kept name)) (total f kept) (f x) rest

-- ---- the owners of relations
abbrev pub times_of : ℕ → Kept → ℕ
times_of o k = times o (owners_of k.descriptor)

pub times-in : (o : ℕ) (kept : List Kept) → times o (owners_in kept) ≡ total (times_of o) kept
times-in o [] = refl
times-in o (k ∷ kept) = times-append o (owners_of k.descriptor) (owners_in kept) ∙ ap (λ n. times_of o k + n) (times-in o kept)

pub times-put : (o : ℕ) (k : Kept) (kept : List Kept) → T (is_sorted bytes_cmp (db_of kept)) → times o (owners_in (put_kept k kept)) + of_kept (times_of o) (kept_at kept k.name) ≡ times_of o k + times o (owners_in kept)
times-put o k kept rising = ap (λ n. n + of_kept (times_of o) (kept_at kept k.name)) (times-in o (put_kept k kept)) ∙ total-put (times_of o) k kept rising ∙ ap (λ n. times_of o k + n) (sym (times-in o kept))

pub times-without : (o : ℕ) (name : Name) (kept : List Kept) → T (is_sorted bytes_cmp (db_of kept)) → times o (owners_in (without_kept name kept)) + of_kept (times_of o) (kept_at kept name) ≡ times o (owners_in kept)
times-without o name kept rising = ap (λ n. n + of_kept (times_of o) (kept_at kept name)) (times-in o (without_kept name kept)) ∙ total-without (times_of o) name kept rising ∙ sym (times-in o kept)

-- the owners of a relation are some of all
pub times-one : (o : ℕ) (name : Name) (kept : List Kept) (k : Kept) → T (is_sorted bytes_cmp (db_of kept)) → kept_at kept name ≡ Some k → times_of o k ≤ times o (owners_in kept)
times-one o name kept k rising is =
    let all = times-without o name kept rising in
    let one : of_kept (times_of o) (kept_at kept name) ≡ times_of o k = ap (of_kept (times_of o)) is in
    less (times o (owners_in (without_kept name kept))) (of_kept (times_of o) (kept_at kept name)) (times o (owners_in kept)) (times_of o k) all one
  where
    less : (a b c d : ℕ) → a + b ≡ c → b ≡ d → d ≤ c
    less a b c d all one = omega arith
