-- Where no page is left: who has them.
use Rattle.std.proofs.Common.{◌≡◌, ◌≢◌, ◌⊎◌, ℕ, suc, ◌<◌, ◌==◌, cond, List, [], ◌∷◌, ◌++◌, inl, inr, sym, ◌∙◌, refl, arith}
use Rattle.std.specs.List.{Contains}
use Rattle.std.proofs.lemmas.Bool.{cases_eq, cond-false, cond-true, eq-eqb, ne_eqb}
use Rattle.std.proofs.lemmas.List.Sums.{sum_by-cons}
use Rattle.sb_forms.specs.Pages.{page_count}
use Rattle.sb_ctx.specs.View.{nothing}
use Rattle.sb_drive.specs.Slots.{Slots, owned}
use Rattle.sb_room.specs.Owned.{AreOwners}
use Rattle.sb_room.proofs.Owning.{full-is-owned}
use Rattle.sb_standing.specs.Standing.{AreKnown, IsAmong, Own, owners_in}
use Rattle.sb_standing.specs.Tables.{Kept}
use Rattle.sb_weights.specs.Weights.{FullIsNeeded, owners_with}
use Rattle.sb_weights.proofs.Resting.{rest-is-within}

-- ---- owners
-- a number is one of them, or it is not among them
not_first : (o x : ℕ) (xs : List ℕ) → (o ≡ x → ⊥) → (IsAmong o xs → ⊥) → IsAmong o (x ∷ xs) → ⊥
not_first o x xs other none (inl same) = other same
not_first o x xs other none (inr later) = none later

one_or_none : (o : ℕ) (xs : List ℕ) → Contains xs o ⊎ (IsAmong o xs → ⊥)
one_or_none o [] = inr (λ is. is)
one_or_none o (x ∷ xs) = by (cases_eq o x) (one_or_none o xs)
  where
    by : (o ≡ x) ⊎ (o ≡ x → ⊥) → Contains xs o ⊎ (IsAmong o xs → ⊥) → Contains (x ∷ xs) o ⊎ (IsAmong o (x ∷ xs) → ⊥)
    by (inl same) rest = inl (0, omega arith, sym same)
    by (inr other) (inl there) = inl (suc there.0, omega (arith, there.1), there.2)
    by (inr other) (inr none) = inr (not_first o x xs other none)

-- an owner sees the bytes of a page of its own
sees : (s : Slots) (n : ℕ) → (s n).0 ≢ 0 → owned s (s n).0 n ≡ (s n).1
sees s n some =
    cond-false ((s n).0 == 0) [] (cond ((s n).0 == (s n).0) (s n).1 []) (ne_eqb (s n).0 0 some)
    ∙ cond-true ((s n).0 == (s n).0) (s n).1 [] (eq-eqb (s n).0 (s n).0 refl)

-- where no other owner has a page, the space itself, the catalogue and these own all pages with bytes
pub are_owners : (s : Slots) (owners : List ℕ) → AreKnown s owners → AreOwners (1 ∷ 2 ∷ owners) s
are_owners s owners known n some shows = by (one_or_none (s n).0 (1 ∷ 2 ∷ owners))
  where
    by : Contains (1 ∷ 2 ∷ owners) (s n).0 ⊎ (IsAmong (s n).0 (1 ∷ 2 ∷ owners) → ⊥) → Contains (1 ∷ 2 ∷ owners) (s n).0
    by (inl there) = there
    by (inr none) =
        let first : (s n).0 ≢ 1 = λ is. none (inl is) in
        let second : (s n).0 ≢ 2 = λ is. none (inr (inl is)) in
        let above : 2 < (s n).0 = omega (arith, some, first, second) in
        absurd (shows (sym (sees s n some) ∙ known (s n).0 above (λ is. none (inr (inr is))) n))

-- so do they with the instances and those that are gone
pub all_owners : (s : Slots) (kept : List Kept) (gone : List ℕ) → Own s (owners_in kept) gone → AreOwners (1 ∷ owners_with kept gone) s
all_owners s kept gone own = are_owners s (owners_in kept ++ gone) own.known

-- ---- the law
pub full-is-needed : FullIsNeeded
full-is-needed m durable root s gone kept aside spent meant are keeps few total table used of small tabled full =
    let within = rest-is-within m durable root s gone kept aside spent meant are keeps few in
    let owned_by = full-is-owned s nothing total table used of (1 ∷ owners_with kept gone) small tabled (all_owners s kept gone keeps.own) full in
    let first = sum_by-cons (λ o. page_count (owned s o)) 1 (owners_with kept gone) in
    omega (arith, within, owned_by, first)
