-- How many pages a tree has, and how high it is.
use Rattle.std.proofs.Common.{◌≡◌, ℕ, zero, suc, ◌+◌, ◌*◌, ◌/◌, ◌^◌, ◌<◌, ◌≤◌, nat_lt, Bool, true, false, true≢false, List, [], ◌∷◌, length, Option, Some, None, refl, sym, ◌∙◌, arith, length-append}
use Rattle.std.proofs.Math.Nat.{div-add-mod, pow-suc}
use Rattle.std.proofs.lemmas.List.{length-map}
use Rattle.std.proofs.lemmas.Bool.{lt-ltb, ltb-true, ltb-false}
use Rattle.std.proofs.lemmas.Nat.{mod_below, mul-le}
use Rattle.sb_ctx.specs.Costs.{digits_within, digits}
use Rattle.sb_node.specs.Page.{Node}
use Rattle.sb_forms.specs.Tree.{Nodes, Child, child_of, children_of, entries_of, over, items, met, AreChildren, IsFull, IsTree}

abbrev pub IsPart : ℕ → Nodes → ℕ → Type 0
IsPart l N c = IsTree l N c × IsFull N c

-- ---- pages: fewer than twice as many as entries
pub over_few : (N : Nodes) (l : ℕ) (high : Option (List ℕ)) (ks : List Child) → ((c : ℕ) → IsPart l N c → length (met l N c) + 1 ≤ 2 * length (items l N c))
    → AreChildren (IsPart l N) (items l N) high ks → length (over (met l N) ks) + length ks ≤ 2 * length (over (items l N) ks)
over_few N l high [] few are = omega arith
over_few N l high (k ∷ ks) few are =
    omega (arith, few k.1 are.0, over_few N l high ks few are.3, length-append (met l N k.1) (over (met l N) ks), length-append (items l N k.1) (over (items l N) ks))

-- an inner page has two or more children
two_children : (o : Option Node) → 0 < length (entries_of o) → 2 ≤ length (children_of o)
two_children None full = omega (arith, full)
two_children (Some n) full = omega (arith, full, length-map n.entries child_of)

pub met_few : (N : Nodes) (l p : ℕ) → IsPart l N p → length (met l N p) + 1 ≤ 2 * length (items l N p)
met_few N zero p part = omega (arith, part.1)
met_few N (suc l) p part =
    omega (arith, two_children (N p) part.1, over_few N l None (children_of (N p)) (met_few N l) part.0.2)

-- ---- entries: a tree that is higher by one has twice as many
over_many : (N : Nodes) (l most : ℕ) (high : Option (List ℕ)) (ks : List Child) → ((c : ℕ) → IsPart l N c → most ≤ length (items l N c))
    → AreChildren (IsPart l N) (items l N) high ks → length ks * most ≤ length (over (items l N) ks)
over_many N l most high [] many are = omega arith
over_many N l most high (k ∷ ks) many are =
    omega (arith, many k.1 are.0, over_many N l most high ks many are.3, length-append (items l N k.1) (over (items l N) ks), times (length ks) most)
  where
    times : (n m : ℕ) → suc n * m ≡ m + n * m
    times n m = omega arith

pub items_many : (N : Nodes) (l p : ℕ) → IsPart l N p → 2 ^ l ≤ length (items l N p)
items_many N zero p part = omega (arith, part.1)
items_many N (suc l) p part =
    omega (arith, doubled (2 ^ l) (length (children_of (N p))) (two_children (N p) part.1), over_many N l (2 ^ l) None (children_of (N p)) (items_many N l) part.0.2, pow-suc 2 l)
  where
    doubled : (m c : ℕ) → 2 ≤ c → m * 2 ≤ c * m
    doubled m c two = omega (arith, mul-le 2 m c m two (omega arith))

-- ---- digits
some_power : (l : ℕ) → 1 ≤ 2 ^ l
some_power zero = omega arith
some_power (suc l) = omega (arith, some_power l, pow-suc 2 l)

one_more : (most n l : ℕ) → 1 ≤ n → l ≤ digits_within most (n / 2) → l + 1 ≤ digits_within (suc most) n
one_more most n l some rest = by (nat_lt 0 n) refl
  where
    by : (b : Bool) → nat_lt 0 n ≡ b → l + 1 ≤ elim b [ true ↦ digits_within most (n / 2) + 1 | false ↦ 0 ]
    by true is = omega (arith, rest)
    by false is = absurd (true≢false (sym (lt-ltb 0 n some) ∙ is))

pub digits_many : (l most n : ℕ) → n ≤ most → 2 ^ l ≤ n → l + 1 ≤ digits_within most n
digits_many l zero n fits big = absurd (omega (arith, fits, big, some_power l))
digits_many zero (suc most) n fits big = one_more most n 0 big (omega arith)
digits_many (suc l) (suc most) n fits big =
    one_more most n (suc l) (omega (arith, big, some_power (suc l)))
    (omega (arith, digits_many l most (n / 2) (omega (arith, fits, big, div-add-mod n 2, some_power (suc l))) (omega (arith, big, div-add-mod n 2, mod_below n 2 (omega arith), pow-suc 2 l))))

-- a tree of one level and more has so many entries, or is an empty leaf
pub digits_of_tree : (N : Nodes) (l p : ℕ) → IsPart l N p → l + 1 ≤ digits (length (items l N p) + 1)
digits_of_tree N l p part = digits_many l (length (items l N p) + 1) (length (items l N p) + 1) (omega arith) (omega (arith, items_many N l p part))

-- a number below a power of two has no more digits than that
digits_few : (l most n : ℕ) → n < 2 ^ l → digits_within most n ≤ l
digits_few l zero n small = omega arith
digits_few l (suc most) n small = by (nat_lt 0 n) refl (λ k low. digits_few k most (n / 2) low)
  where
    half : (l : ℕ) → 0 < n → n < 2 ^ l → (k : ℕ) × (l ≡ suc k) × (n / 2 < 2 ^ k)
    half zero some low = absurd (omega (arith, some, low))
    half (suc k) some low = (k, refl, omega (arith, low, div-add-mod n 2, pow-suc 2 k))

    by : (b : Bool) → nat_lt 0 n ≡ b → ((k : ℕ) → n / 2 < 2 ^ k → digits_within most (n / 2) ≤ k) → elim b [ true ↦ digits_within most (n / 2) + 1 | false ↦ 0 ] ≤ l
    by true is rest = let h = half l (ltb-true 0 n is) small in omega (arith, h.1, rest h.0 h.2)
    by false is rest = omega arith

-- the next number has at most one digit more
pub digits_next : (n : ℕ) → digits (n + 1) ≤ digits n + 1
digits_next n = let few = digits_few (suc (digits n)) (n + 1) (n + 1) (omega (arith, pow-suc 2 (digits n), below)) in omega (arith, few)
  where
    below : n < 2 ^ digits n
    below = elim (nat_lt n (2 ^ digits n)) as (λ b. nat_lt n (2 ^ digits n) ≡ b → n < 2 ^ digits n) [
      | true ↦ λ is. ltb-true n (2 ^ digits n) is
      | false ↦ λ is. absurd (omega (arith, digits_many (digits n) n n (omega arith) (ltb-false n (2 ^ digits n) is)))
    ] refl
