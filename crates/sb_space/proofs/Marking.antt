-- Owners that are marked as used, and the least of those that aren't.
use Rattle.std.proofs.Common.{◌≡◌, ◌≢◌, ℕ, zero, suc, ◌+◌, ◌<◌, ◌≤◌, nat_lt, ◌==◌, Bool, true, false, cond, Option, Some, None, IfSome, List, [], ◌∷◌, length, get_or, set, inr, refl, sym, ap, ◌∙◌, arith, get_or-set_same, get_or-set_other}
use Rattle.std.proofs.lemmas.Bool.{false≢true, eqb-true, eq-eqb, ltb-true, ltb-false, le-ltb}
use Rattle.std.proofs.lemmas.List.{length-replicate}
use Rattle.std.proofs.lemmas.List.Recursion.{is_count_by}
use Rattle.std.proofs.lemmas.List.Elements.{All-nil}
use Rattle.sb_ctx.specs.View.{nothing}
use Rattle.sb_drive.specs.declared.space.SpaceFault.TheVariants.{DataFull}
use Rattle.sb_drive.specs.declared.turns.Ask.TheVariants.{Fresh}
use Rattle.sb_drive.specs.Instances.{IsLeastOwner, IsLeastFree}
use Rattle.sb_drive.specs.Slots.{Slots, nobodys}
use Rattle.sb_drive.specs.Spaces.{IsFull, Wanted}
use Rattle.sb_txn.specs.Parts.{Parts}
use Rattle.sb_space.specs.Instances.{AreMarked, free_next, IsFirstFree, IsUnmarked, marks_set, unmarked}
use Rattle.sb_space.specs.Table.{owner_at, shown, table_len}
use Rattle.sb_space.specs.Works.{HasPages}
use Rattle.sb_space.proofs.Looking.{below_next, owner-now}

-- ---- how many are marked
abbrev count : List Bool → ℕ
count [] = 0
count (x ∷ xs) = cond x (1 + count xs) (count xs)

count-is : (marks : List Bool) → count marks ≡ marks_set marks
count-is marks = is_count_by count (λ mark. mark) refl (λ x xs. refl) marks

count-set : (marks : List Bool) (i : ℕ) → count (set marks i true) ≤ count marks + 1
count-set [] i = omega arith
count-set (true ∷ xs) zero = omega arith
count-set (false ∷ xs) zero = omega arith
count-set (true ∷ xs) (suc i) = let rest = count-set xs i in omega (arith, rest)
count-set (false ∷ xs) (suc i) = let rest = count-set xs i in omega (arith, rest)

count-cons : (x : Bool) (xs : List Bool) → count xs ≤ count (x ∷ xs)
count-cons true xs = omega arith
count-cons false xs = omega arith

-- where all from one on are marked, so many are
count-from : (marks : List Bool) (first n : ℕ) → n ≤ length marks → ((i : ℕ) → first ≤ i → i < n → get_or marks i false ≡ true) → n ≤ count marks + first
count-from [] first n long all = omega (arith, long)
count-from (x ∷ xs) first zero long all = omega arith
count-from (x ∷ xs) zero (suc n) long all =
    let rest = count-from xs zero n (omega (arith, long)) (λ i from less. all (suc i) (omega arith) (omega (arith, less))) in
    let here : count (x ∷ xs) ≡ 1 + count xs = ap (λ (b : Bool). cond b (1 + count xs) (count xs)) (all zero (omega arith) (omega arith)) in
    omega (arith, rest, here)
count-from (x ∷ xs) (suc first) (suc n) long all =
    let rest = count-from xs first n (omega (arith, long)) (λ i from less. all (suc i) (omega (arith, from)) (omega (arith, less))) in
    let more = count-cons x xs in
    omega (arith, rest, more)

count-unmarked : (n : ℕ) → count (unmarked n) ≡ 0
unfolding unmarked
count-unmarked zero = refl
count-unmarked (suc n) = count-unmarked n

pub marks_set-set : (marks : List Bool) (owner : ℕ) → marks_set (set marks owner true) ≤ marks_set marks + 1
marks_set-set marks owner = let most = count-set marks owner in let old = count-is marks in let new = count-is (set marks owner true) in omega (arith, most, old, new)

pub marks_set-from : (marks : List Bool) (first n : ℕ) → n ≤ length marks → ((i : ℕ) → first ≤ i → i < n → get_or marks i false ≡ true) → n ≤ marks_set marks + first
marks_set-from marks first n long all = let most = count-from marks first n long all in let is = count-is marks in omega (arith, most, is)

pub marks_set-unmarked : (n : ℕ) → marks_set (unmarked n) ≡ 0
marks_set-unmarked n = sym (count-is (unmarked n)) ∙ count-unmarked n

pub length-unmarked : (n : ℕ) → length (unmarked n) ≡ n
unfolding unmarked
length-unmarked n = length-replicate n false

pub get_or-unmarked : (n owner : ℕ) → get_or (unmarked n) owner false ≡ false
unfolding unmarked
get_or-unmarked zero owner = refl
get_or-unmarked (suc n) zero = refl
get_or-unmarked (suc n) (suc owner) = get_or-unmarked n owner

-- ---- what the table says of its own pages and of those that the store hasn't
pub owner-tables : (want : Wanted) (s : Slots) (p : Parts) → HasPages want s p → (n : ℕ) → n < table_len p.store.pool.geometry.pages → (s n).0 ≡ 1
owner-tables want s p has n below = owner-now want s p has n (omega (arith, below)) ∙ has.table.own n below

pub owner-beyond : (want : Wanted) (s : Slots) (p : Parts) → HasPages want s p → (n : ℕ) → p.store.pool.geometry.pages ≤ n → (s n).0 ≡ 0
owner-beyond want s p has n beyond =
    ap (λ (x : Slots). (x n).0) has.slots ∙ ap (λ (d : Bool). (cond d (shown (owner_at has.now n) (has.now n)) nobodys).0) (le-ltb n p.store.pool.geometry.pages beyond)

-- ---- owners are marked, one page after another
pub AreMarked-none : (want : Wanted) (s : Slots) (p : Parts) → HasPages want s p → (n : ℕ) → AreMarked (table_len p.store.pool.geometry.pages) s (unmarked n)
AreMarked-none want s p has n = record {
  used = λ owner set. absurd (false≢true (sym (get_or-unmarked n owner) ∙ set));
  all = λ m below some. let one = owner-tables want s p has m below in absurd (omega (arith, one, some));
}

get_or-marked : (marks : List Bool) (owner o : ℕ) → owner < length marks → get_or marks o false ≡ true → get_or (set marks owner true) o false ≡ true
get_or-marked marks owner o less is = by_case (o == owner) refl
  where
    by_case : (b : Bool) → (o == owner) ≡ b → get_or (set marks owner true) o false ≡ true
    by_case true same = ap (λ (k : ℕ). get_or (set marks owner true) k false) (eqb-true o owner same) ∙ get_or-set_same marks owner true false less
    by_case false other = get_or-set_other marks owner o true false (λ same. false≢true (sym other ∙ eq-eqb o owner same)) ∙ is

pub AreMarked-more : (n : ℕ) (s : Slots) (marks : List Bool) (owner : ℕ) → owner < length marks → owner ≡ (s n).0 → AreMarked n s marks → AreMarked (n + 1) s (set marks owner true)
AreMarked-more n s marks owner less is marked = record {
  used = λ o set. by_case o (o == owner) refl set;
  all = below_next n (λ m. 1 < (s m).0 → get_or (set marks owner true) (s m).0 false ≡ true)
      (λ m below some. get_or-marked marks owner (s m).0 less (marked.all m below some))
      (λ some. ap (λ (k : ℕ). get_or (set marks owner true) k false) (sym is) ∙ get_or-set_same marks owner true false less);
}
  where
    by_case : (o : ℕ) (b : Bool) → (o == owner) ≡ b → get_or (set marks owner true) o false ≡ true → (m : ℕ) × ((s m).0 ≡ o)
    by_case o true same set = (n, sym is ∙ sym (eqb-true o owner same))
    by_case o false other set = marked.used o (sym (get_or-set_other marks owner o true false (λ same. false≢true (sym other ∙ eq-eqb o owner same))) ∙ set)

-- ---- the first page that is nobody's
pub IsFirstFree-none : (want : Wanted) (s : Slots) (p : Parts) → HasPages want s p → IsFirstFree (table_len p.store.pool.geometry.pages) s None
IsFirstFree-none want s p has m below none = let one = owner-tables want s p has m below in omega (arith, one, none)

pub IsFirstFree-more : (n : ℕ) (s : Slots) (found : Option ℕ) (owner : ℕ) → owner ≡ (s n).0 → IsFirstFree n s found → IsFirstFree (n + 1) s (free_next found owner n)
IsFirstFree-more n s (Some k) owner is first = (let less = first.0 in omega (arith, less), first.1, first.2)
IsFirstFree-more n s None owner is first = by_case (owner == 0) refl
  where
    by_case : (b : Bool) → (owner == 0) ≡ b → IsFirstFree (n + 1) s (cond b (Some n) None)
    by_case true none = (omega arith, sym is ∙ eqb-true owner 0 none, first)
    by_case false some = below_next n (λ m. (s m).0 ≢ 0) first (λ none. false≢true (sym some ∙ eq-eqb owner 0 (is ∙ none)))

pub below-more : (n : ℕ) (found : Option ℕ) (owner : ℕ) → IfSome found (λ k. k < n) → IfSome (free_next found owner n) (λ k. k < n + 1)
below-more n (Some k) owner less = omega (arith, less)
below-more n None owner less = by_case (owner == 0)
  where
    by_case : (b : Bool) → IfSome (cond b (Some n) None) (λ k. k < n + 1)
    by_case true = omega arith
    by_case false = tt

-- ---- so the owner and the root of a new instance are the least
pub IsLeastOwner-unmarked : (want : Wanted) (s : Slots) (p : Parts) → HasPages want s p → (marks : List Bool) (owner : ℕ) → AreMarked p.store.pool.geometry.pages s marks → IsUnmarked marks owner → IsLeastOwner s [] owner
IsLeastOwner-unmarked want s p has marks owner marked un = record {
  from = un.from;
  unused = λ n same. by_case n same (nat_lt n p.store.pool.geometry.pages) refl;
  untaken = All-nil (λ o. o ≢ owner);
  least = λ o from less. inr (marked.used o (un.least o from less));
}
  where
    by_case : (n : ℕ) → (s n).0 ≡ owner → (b : Bool) → nat_lt n p.store.pool.geometry.pages ≡ b → ⊥
    by_case n same true less =
        let high = un.from in
        false≢true (sym un.free ∙ ap (λ (o : ℕ). get_or marks o false) (sym same) ∙ marked.all n (ltb-true n p.store.pool.geometry.pages less) (omega (arith, high, same)))
    by_case n same false beyond =
        let high = un.from in
        let none = owner-beyond want s p has n (ltb-false n p.store.pool.geometry.pages beyond) in
        omega (arith, high, same, none)

pub IsLeastFree-first : (total : ℕ) (s : Slots) (root : ℕ) → total ≤ 65536 → IsFirstFree total s (Some root) → IsLeastFree s root
IsLeastFree-first total s root few first = record {
  below = let less = first.0 in omega (arith, few, less);
  free = first.1;
  least = first.2;
}

pub IsFull-none : (total : ℕ) (s : Slots) → IsFirstFree total s None → IsFull true total s nothing Fresh (DataFull total total)
IsFull-none total s first = (refl, record { total_is = refl; all = refl; each = λ m less free. absurd (first m less free) })
