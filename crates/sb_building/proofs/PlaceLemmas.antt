-- Attachments in their places in a descriptor.
use Rattle.std.proofs.Common.{◌≡◌, ℕ, suc, ◌+◌, ◌<◌, ◌≤◌, one-add, le_antisymm, ltb-false, unwrap_or, length, position, nat_lt, nat_le, not, Bool, true, false, cond, List, [], ◌∷◌, insert, All, Some, None, refl, ap, ◌∙◌, arith}
use Rattle.std.specs.List.{position_or_len}
use Rattle.std.proofs.lemmas.Bool.Decides.{nat_tests}
use Rattle.std.proofs.lemmas.List.Elements.{All-cons, All-head, All-tail}
use Rattle.std.proofs.lemmas.List.Sums.{prefix_len-le-length}
use Rattle.sb_tables.specs.Changes.{IsSmall}
use Rattle.sb_catalog.specs.declared.descriptor.Attached.{Attached}
use Rattle.sb_catalog.specs.declared.descriptor.Descriptor.{Descriptor}
use Rattle.sb_catalog.specs.Descriptors.{descriptor_spelling, IsStorableAttached, IsStorableDescriptor}
use Rattle.sb_standing.specs.Standing.{with_described}
use Rattle.sb_building.specs.Attaching.{IsRoomy}

-- ---- the first place of a greater code
pub first_place : {X : Type 0} (p : X → Bool) (xs : List X) → unwrap_or (position p xs) (length xs) ≡ position_or_len p xs
first_place p xs =
    let place = position_or_len p xs in
    elim (nat_lt place (length xs)) as (λ t. nat_lt place (length xs) ≡ t → unwrap_or (cond t (Some place) None) (length xs) ≡ place) [
      | true ↦ λ e. refl
      | false ↦ λ e. le_antisymm (ltb-false place (length xs) e) (prefix_len-le-length (λ x. not (p x)) xs)
    ] refl

pub place_within : {X : Type 0} (p : X → Bool) (xs : List X) → position_or_len p xs ≤ length xs
place_within p xs = prefix_len-le-length (λ x. not (p x)) xs

not_below : (a b : ℕ) → nat_lt a b ≡ not (nat_le b a)
not_below a b = grind (arith, nat_tests)

inserted_later : {X : Type 0} (x y : X) (xs : List X) (n : ℕ) → insert (x ∷ xs) (1 + n) y ≡ x ∷ insert xs n y
inserted_later x y xs n = ap (λ k. insert (x ∷ xs) k y) (one-add n)

pub insert-described : (new : Attached) (ds : List Attached) → insert ds (position_or_len (λ d. nat_lt new.code d.code) ds) new ≡ with_described new ds
insert-described new [] = refl
insert-described new (d ∷ ds) =
    elim (nat_le d.code new.code)
    as (λ t. nat_lt new.code d.code ≡ not t → insert (d ∷ ds) (position_or_len (λ x. nat_lt new.code x.code) (d ∷ ds)) new ≡ cond t (d ∷ with_described new ds) (new ∷ d ∷ ds)) [
      | true ↦ λ e. ap (λ t. insert (d ∷ ds) (cond (not t) (1 + position_or_len (λ x. nat_lt new.code x.code) ds) 0) new) e
          ∙ inserted_later d new ds (position_or_len (λ x. nat_lt new.code x.code) ds) ∙ ap (λ l. d ∷ l) (insert-described new ds)
      | false ↦ λ e. ap (λ t. insert (d ∷ ds) (cond (not t) (1 + position_or_len (λ x. nat_lt new.code x.code) ds) 0) new) e
    ] (not_below new.code d.code)

-- ---- one more
pub length-described : (new : Attached) (ds : List Attached) → length (with_described new ds) ≡ suc (length ds)
length-described new [] = refl
length-described new (d ∷ ds) = elim (nat_le d.code new.code) as (λ t. length (cond t (d ∷ with_described new ds) (new ∷ d ∷ ds)) ≡ suc (suc (length ds))) [
  | true ↦ ap suc (length-described new ds)
  | false ↦ refl
]

pub All-described : (P : Attached → Type 0) (new : Attached) (ds : List Attached) → P new → All P ds → All P (with_described new ds)
All-described P new [] is all = All-cons P new [] is all
All-described P new (d ∷ ds) is all = elim (nat_le d.code new.code) as (λ t. All P (cond t (d ∷ with_described new ds) (new ∷ d ∷ ds))) [
  | true ↦ All-cons P d (with_described new ds) (All-head P d ds all) (All-described P new ds is (All-tail P d ds all))
  | false ↦ All-cons P new (d ∷ ds) is all
]

-- the descriptor can be stored too
pub storable-with : (d : Descriptor) (new : Attached) → length d.attachments < 16 → IsStorableDescriptor d → IsStorableAttached new → IsStorableDescriptor (record d { attachments = with_described new d.attachments })
storable-with d new few storable is = record {
  instance = storable.instance;
  columns = storable.columns;
  key = storable.key;
  attachments = (omega (arith, few, length-described new d.attachments), All-described IsStorableAttached new d.attachments is storable.attachments.1);
}

pub IsSmall-roomy : (name : List ℕ) (d : Descriptor) (new : Attached) → IsRoomy name d new → IsSmall name (descriptor_spelling (record d { attachments = with_described new d.attachments }))
IsSmall-roomy name d new roomy = record { short = omega (arith, roomy.short); both = omega (arith, roomy.short, roomy.small) }
