-- Attachments go from a relation: instances and what is to go keep their pages, whoever they are counted to.
use Rattle.std.proofs.Common.{◌≡◌, ℕ, ◌+◌, ◌*◌, Bool, true, false, not, cond, bytes_eq, T, List, [], ◌∷◌, ◌++◌, length, map, Some, All, ap, arith}
use Rattle.std.specs.Prelude.{filter}
use Rattle.std.specs.FinMap.Entries.{is_sorted}
use Rattle.std.proofs.lemmas.List.Sums.{sum_by-append, sum_by-cons}
use Rattle.sb_value.specs.Order.{bytes_cmp}
use Rattle.sb_relation.specs.Db.{Db, Name}
use Rattle.sb_forms.specs.Pages.{page_count}
use Rattle.sb_drive.specs.Slots.{Slots, owned}
use Rattle.sb_drive.specs.Spaces.{Wanted}
use Rattle.sb_registry.specs.Boxes.{Meanings}
use Rattle.sb_catalog.specs.declared.descriptor.Attached.{Attached}
use Rattle.sb_standing.specs.Instances.{owners_of}
use Rattle.sb_standing.specs.Standing.{IsOwner, detached_kept, owners_in, owners_named, without_described}
use Rattle.sb_standing.specs.Tables.{Kept, db_of, kept_at, put_kept}
use Rattle.sb_standing.proofs.TimesLemmas.{of_kept, total, total-put}
use Rattle.sb_engine.specs.Beside.{AreWithin}
use Rattle.sb_engine.specs.Owned.{pages_of}
use Rattle.sb_tables.specs.Keeping.{KeepsDb, KeepsWithin}
use Rattle.sb_tables.proofs.TakenLemmas.{gone-stay}

-- ---- the pages of relations
-- a relation's instances with two pages of the catalogue
abbrev heavy : Slots → Kept → ℕ
heavy s k = pages_of s (owners_of k.descriptor) + 2

heavy_in : (s : Slots) (kept : List Kept) → total (heavy s) kept ≡ pages_of s (owners_in kept) + 2 * length kept
heavy_in s [] = omega arith
heavy_in s (k ∷ kept) =
    omega (arith, heavy_in s kept, sum_by-append (λ o. page_count (owned s o)) (owners_of k.descriptor) (owners_in kept))

-- the attachments of a name, and the others
split : (s : Slots) (label : Name) (ds : List Attached)
    → pages_of s (map (λ a. a.owner) (without_described label ds)) + pages_of s (map (λ a. a.owner) (filter (λ d. bytes_eq d.name label) ds))
    ≡ pages_of s (map (λ a. a.owner) ds)
split s label [] = omega arith
split s label (d ∷ ds) = of_test (bytes_eq d.name label) (split s label ds)
  where
    left : List Attached
    left = without_described label ds

    named : List Attached
    named = filter (λ x. bytes_eq x.name label) ds

    of_test : (b : Bool) → pages_of s (map (λ a. a.owner) left) + pages_of s (map (λ a. a.owner) named) ≡ pages_of s (map (λ a. a.owner) ds)
        → pages_of s (map (λ a. a.owner) (cond (not b) (d ∷ left) left)) + pages_of s (map (λ a. a.owner) (cond b (d ∷ named) named))
        ≡ pages_of s (map (λ a. a.owner) (d ∷ ds))
    of_test true rest =
        omega (
          arith,
          rest,
          sum_by-cons (λ o. page_count (owned s o)) d.owner (map (λ a. a.owner) named),
          sum_by-cons (λ o. page_count (owned s o)) d.owner (map (λ a. a.owner) ds),
        )
    of_test false rest =
        omega (
          arith,
          rest,
          sum_by-cons (λ o. page_count (owned s o)) d.owner (map (λ a. a.owner) left),
          sum_by-cons (λ o. page_count (owned s o)) d.owner (map (λ a. a.owner) ds),
        )

heavy_split : (s : Slots) (label : Name) (k : Kept) → heavy s (detached_kept label k) + pages_of s (owners_named label k.descriptor) ≡ heavy s k
heavy_split s label k =
    omega (
      arith,
      split s label k.descriptor.attachments,
      sum_by-cons (λ o. page_count (owned s o)) k.descriptor.owner (map (λ a. a.owner) k.descriptor.attachments),
      sum_by-cons (λ o. page_count (owned s o)) k.descriptor.owner (map (λ a. a.owner) (without_described label k.descriptor.attachments)),
    )

-- there are as many relations
counted : (kept : List Kept) → total (λ k. 1) kept ≡ length kept
counted [] = omega arith
counted (k ∷ kept) = omega (arith, counted kept)

pub as_many : (kept : List Kept) (new k : Kept) → T (is_sorted bytes_cmp (db_of kept)) → kept_at kept new.name ≡ Some k → length (put_kept new kept) ≡ length kept
as_many kept new k rising there =
    let put = total-put (λ x. 1) new kept rising in
    let one : of_kept (λ x. 1) (kept_at kept new.name) ≡ 1 = ap (of_kept (λ x. 1)) there in
    omega (arith, counted (put_kept new kept), counted kept, put, one)

-- a relation gives instances to what is to go
within_put : (s t : Slots) (gone more : List ℕ) (kept : List Kept) (new k : Kept) (most : ℕ) → T (is_sorted bytes_cmp (db_of kept)) → kept_at kept new.name ≡ Some k
    → heavy s new + pages_of s more ≡ heavy s k → pages_of t (owners_in (put_kept new kept) ++ (gone ++ more)) ≡ pages_of s (owners_in (put_kept new kept) ++ (gone ++ more))
    → AreWithin s kept gone most → AreWithin t (put_kept new kept) (gone ++ more) most
within_put s t gone more kept new k most rising there gives stay within =
    let f = λ (o : ℕ). page_count (owned s o) in
    let put = total-put (heavy s) new kept rising in
    let one : of_kept (heavy s) (kept_at kept new.name) ≡ heavy s k = ap (of_kept (heavy s)) there in
    omega (
      arith,
      within,
      gives,
      stay,
      put,
      one,
      sum_by-append f (owners_in (put_kept new kept)) (gone ++ more),
      sum_by-append f gone more,
      sum_by-append f (owners_in kept) gone,
      heavy_in s kept,
      heavy_in s (put_kept new kept),
      as_many kept new k rising there,
    )

-- so it does with the attachments of a name that are taken off
pub within-detached : (s t : Slots) (gone : List ℕ) (kept : List Kept) (k : Kept) (label : Name) (most : ℕ) → T (is_sorted bytes_cmp (db_of kept))
    → kept_at kept k.name ≡ Some k
    → All IsOwner (owners_in (put_kept (detached_kept label k) kept) ++ (gone ++ owners_named label k.descriptor))
    → ((o : ℕ) → (o ≡ 2 → ⊥) → owned t o ≡ owned s o)
    → AreWithin s kept gone most → AreWithin t (put_kept (detached_kept label k) kept) (gone ++ owners_named label k.descriptor) most
within-detached s t gone kept k label most rising there each others within =
    within_put s t gone (owners_named label k.descriptor) kept (detached_kept label k) k most rising there (heavy_split s label k)
    (gone-stay (λ n. n) s t (owners_in (put_kept (detached_kept label k) kept) ++ (gone ++ owners_named label k.descriptor)) each others) within

-- ---- what an engine keeps
pub within-itself : {S : Type 0} (Has : Wanted → Slots → S → Type 0) (m : Meanings) (root : ℕ) (gone aside : List ℕ) (db : Db) (space : S)
    → (keeps : KeepsDb Has m root gone aside db space)
    → KeepsWithin Has m root gone aside (pages_of keeps.slots (owners_in keeps.kept ++ gone) + 2 * length keeps.kept + 3) db space
within-itself Has m root gone aside db space keeps = record { keeps = keeps; within = omega arith }
