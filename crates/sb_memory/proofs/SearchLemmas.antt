-- What a search by rising numbers has found so far.
use Rattle.std.proofs.Common.{◌≡◌, inl, inr, ℕ, ◌+◌, ◌<◌, ◌≤◌, ◌==◌, Bool, true, false, List, Option, Some, None, refl, sym, subst, ◌∙◌, arith, eqb-true}
use Rattle.std.proofs.lemmas.List.{get_or_default}
use Rattle.std.proofs.lemmas.Bool.Decides.{nat_tests}
use Rattle.sb_forms.specs.Pages.{Pages, IsNext}
use Rattle.sb_drive.specs.Instances.{IsUsed, IsLeastOwner}
use Rattle.sb_drive.specs.Slots.{Slots}
use Rattle.sb_memory.specs.Contents.{IsNextFrom}

-- one number more
pub one-more : (P : ℕ → Type 0) (least n : ℕ) → ((m : ℕ) → least ≤ m → m < n → P m) → P n → (m : ℕ) → least ≤ m → m < n + 1 → P m
one-more P least n before here m from below = by (m == n) refl
  where
    by : (b : Bool) → m == n ≡ b → P m
    by true same = subst P (sym (eqb-true m n same)) here
    by false other = before m from (grind (arith, nat_tests))

-- the next page is the first one from the number behind
pub IsNext-from : (P : Pages) (low : Option ℕ) (n : ℕ) (next : Option ℕ) → low ≡ Some n → IsNextFrom P (n + 1) next → IsNext P low next
IsNext-from P low n next is found = subst (λ (o : Option ℕ). IsNext P o next) (sym is) (by next found)
  where
    by : (o : Option ℕ) → IsNextFrom P (n + 1) o → IsNext P (Some n) o
    by None none = λ m above. none m (omega arith)
    by (Some next) one = (omega (arith, one.0), one.1, λ m above before. one.2 m (omega arith) before)

pub IsNext-first : (P : Pages) (low next : Option ℕ) → low ≡ None → IsNextFrom P 0 next → IsNext P low next
IsNext-first P low next is found = subst (λ (o : Option ℕ). IsNext P o next) (sym is) (by next found)
  where
    by : (o : Option ℕ) → IsNextFrom P 0 o → IsNext P None o
    by None none = λ m above. none m (omega arith)
    by (Some next) one = (tt, one.1, λ m above before. one.2 m (omega arith) before)

-- ---- owners that are used
-- no page is the owner's, and it isn't among those that are taken
pub IsLeastOwner-unused : (s : Slots) (taken : List ℕ) (owner : ℕ) → 3 ≤ owner → (IsUsed s taken owner → ⊥) → ((o : ℕ) → 3 ≤ o → o < owner → IsUsed s taken o) → IsLeastOwner s taken owner
IsLeastOwner-unused s taken owner from unused least = record {
  from = from;
  unused = λ n same. unused (inr (n, same));
  untaken = λ k o within same. unused (inl (k, within, get_or_default taken k owner o within ∙ same));
  least = least;
}
