-- The pages of all relations, against the need.
use Rattle.std.proofs.Common.{◌≡◌, ℕ, ◌+◌, ◌*◌, ◌≤◌, Bool, true, false, cond, List, [], ◌∷◌, ◌++◌, length, All, Some}
use Rattle.std.proofs.Common.{bytes_eq, sum, sym, subst, arith}
use Rattle.std.specs.List.{sum_by}
use Rattle.std.proofs.lemmas.List.Elements.{All-head, All-tail}
use Rattle.std.proofs.lemmas.List.Sums.{sum_by-append, sum_by-cons}
use Rattle.std.proofs.lemmas.Option.{same_Some}
use Rattle.sb_relation.specs.Db.{Name}
use Rattle.sb_fold.specs.Extensions.{Extensions}
use Rattle.sb_fold.specs.Need.{need}
use Rattle.sb_fold.specs.Outcome.{Reached}
use Rattle.sb_forms.specs.Pages.{page_count}
use Rattle.sb_drive.specs.Slots.{Slots, owned}
use Rattle.sb_room.specs.Owned.{pages_of}
use Rattle.sb_standing.specs.Instances.{owners_of}
use Rattle.sb_standing.specs.Standing.{owners_in}
use Rattle.sb_standing.specs.Tables.{Kept, db_of, kept_at}
use Rattle.sb_weights.specs.Weights.{owners_with}
use Rattle.sb_weights.proofs.Weighing.{Weighs, weight}

-- ---- the owners of instances
-- of a relation, and of those behind it
first_owners : (s : Slots) (k : Kept) (kept : List Kept)
    → pages_of s (owners_in (k ∷ kept)) ≡ pages_of s (owners_of k.descriptor) + pages_of s (owners_in kept)
first_owners s k kept = sum_by-append (λ o. page_count (owned s o)) (owners_of k.descriptor) (owners_in kept)

first_weight : (ext : Extensions) (at : Reached) (k : Kept) (kept : List Kept)
    → sum_by (weight ext at) (db_of (k ∷ kept)) ≡ weight ext at (k.name, k.relation) + sum_by (weight ext at) (db_of kept)
first_weight ext at k kept = sum_by-cons (weight ext at) (k.name, k.relation) (db_of kept)

-- their pages, and two of the catalogue for each relation
pub weighed_sum : (ext : Extensions) (at : Reached) (s : Slots) (kept : List Kept) → All (Weighs ext at s 0) kept
    → pages_of s (owners_in kept) + 2 * length kept ≤ sum_by (weight ext at) (db_of kept)
weighed_sum ext at s [] each = omega arith
weighed_sum ext at s (k ∷ kept) each =
    let here = All-head (Weighs ext at s 0) k kept each in
    let rest = weighed_sum ext at s kept (All-tail (Weighs ext at s 0) k kept each) in
    omega (arith, here.within, rest, first_owners s k kept, first_weight ext at k kept)

-- and so many more, where one of the relations has place for them
pub more_sum : (ext : Extensions) (at : Reached) (s : Slots) (more : ℕ) (name : Name) (one : Kept) (kept : List Kept) → kept_at kept name ≡ Some one
    → Weighs ext at s more one → All (Weighs ext at s 0) kept
    → pages_of s (owners_in kept) + more + 2 * length kept ≤ sum_by (weight ext at) (db_of kept)
more_sum ext at s more name one [] is weighs each = absurd (cc)
more_sum ext at s more name one (k ∷ kept) is weighs each =
    by (bytes_eq k.name name) is (λ later. more_sum ext at s more name one kept later weighs (All-tail (Weighs ext at s 0) k kept each))
  where
    by : (b : Bool) → cond b (Some k) (kept_at kept name) ≡ Some one
        → (kept_at kept name ≡ Some one → pages_of s (owners_in kept) + more + 2 * length kept ≤ sum_by (weight ext at) (db_of kept))
        → pages_of s (owners_in (k ∷ kept)) + more + 2 * length (k ∷ kept) ≤ sum_by (weight ext at) (db_of (k ∷ kept))
    by true here rest =
        let first = subst (Weighs ext at s more) (sym (same_Some k one here)) weighs in
        let others = weighed_sum ext at s kept (All-tail (Weighs ext at s 0) k kept each) in
        omega (arith, first.within, others, first_owners s k kept, first_weight ext at k kept)
    by false later rest =
        let first = All-head (Weighs ext at s 0) k kept each in
        omega (arith, first.within, rest later, first_owners s k kept, first_weight ext at k kept)

-- ---- all owners
-- the catalogue has two pages for each relation and three more, the instances are within what the relations weigh, and so are those that are gone
pub record IsWeighed (ext : Extensions) (at : Reached) (s : Slots) (more : ℕ) (gone : List ℕ) (kept : List Kept) : Type 0 where
  pub catalogue : page_count (owned s 2) ≤ 2 * length kept + 3
  pub each : pages_of s (owners_in kept) + more + 2 * length kept ≤ sum_by (weight ext at) at.after
  pub aside : pages_of s gone ≤ sum at.aside.durable

pub weighed_within : (ext : Extensions) (at : Reached) (s : Slots) (more : ℕ) (gone : List ℕ) (kept : List Kept)
    → IsWeighed ext at s more gone kept → pages_of s (owners_with kept gone) + more ≤ need ext true at
weighed_within ext at s more gone kept weighed =
    let f = λ (o : ℕ). page_count (owned s o) in
    omega (arith, sum_by-cons f 2 (owners_in kept ++ gone), sum_by-append f (owners_in kept) gone, weighed.catalogue, weighed.each, weighed.aside)
