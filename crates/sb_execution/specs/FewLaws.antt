-- There are fewer relations than owners of pages.
use Rattle.std.specs.Prelude.{◌≡◌, ◌≢◌, ◌||◌, ◌<◌, ◌≤◌, ◌^◌, ℕ, Bool, true, false, List, [], ◌∷◌, ◌++◌, map, All, length}
use Rattle.std.proofs.Common.{refl, sym, subst, inl, eqb, true≢false, eqb-true, ne_eqb, arith}
use Rattle.std.specs.List.{AllByRecursion, IsDistinct, list_any}
use Rattle.std.proofs.lemmas.List.{length-map}
use Rattle.std.proofs.lemmas.List.Elements.{All-head, All-tail, All-weaker}
use Rattle.std.proofs.lemmas.Map.Steps.{length-le_from_distinct_below}
use Rattle.sb_registry.specs.Boxes.{Meanings}
use Rattle.sb_drive.specs.Slots.{Slots}
use Rattle.sb_standing.specs.Instances.{owners_of}
use Rattle.sb_standing.specs.Standing.{AreApart, IsAmong, Keeps, owners_in}
use Rattle.sb_standing.specs.Tables.{Kept, KeepsTable}
use Rattle.sb_standing.proofs.OwnersLemmas.{All-among, AreApart-back, AreApart-front, among_back}

-- the owner of its rows
abbrev owner_of : Kept → ℕ
owner_of k = k.descriptor.owner

-- one that isn't 0, of 16 bits
record Owns (k : Kept) : Type 0 where
  some : owner_of k ≢ 0
  small : owner_of k < 2 ^ 16

-- an owner that is none of a list but for 0 isn't that of their rows
is_other : (o : ℕ) (kept : List Kept) → ((n : ℕ) → IsAmong n (owners_in kept) → n ≡ o → n ≡ 0) → All Owns kept
    → AllByRecursion (λ n. eqb o n ≡ false) (map owner_of kept)
is_other o [] apart all = tt
is_other o (k ∷ kept) apart all = (
  ne_eqb o (owner_of k) (λ same. (All-head Owns k kept all).some (apart (owner_of k) (inl refl) (sym same))),
  is_other o kept (λ n is. apart n (among_back n (owners_of k.descriptor) (owners_in kept) is)) (All-tail Owns k kept all),
)

are_distinct : (kept : List Kept) → AreApart (owners_in kept) → All Owns kept → IsDistinct eqb (map owner_of kept)
unfolding IsDistinct
are_distinct [] apart all = tt
are_distinct (k ∷ kept) apart all =
    let others : List ℕ = map (λ a. a.owner) k.descriptor.attachments in (
      is_other (owner_of k) kept
          (λ n is. All-among (λ m. (m ≡ owner_of k) → (m ≡ 0)) (others ++ owners_in kept) n apart.0 (among_back n others (owners_in kept) is))
          (All-tail Owns k kept all),
      are_distinct kept (AreApart-back (owners_of k.descriptor) (owners_in kept) apart) (All-tail Owns k kept all),
    )

are_small : (kept : List Kept) → All Owns kept → (n : ℕ) → list_any (eqb n) (map owner_of kept) ≡ true → n < 2 ^ 16
are_small [] all n is = absurd (true≢false (sym is))
are_small (k ∷ kept) all n is = by (eqb n (owner_of k)) refl (are_small kept (All-tail Owns k kept all) n) is
  where
    by : (b : Bool) → eqb n (owner_of k) ≡ b → (list_any (eqb n) (map owner_of kept) ≡ true → n < 2 ^ 16)
        → (b || list_any (eqb n) (map owner_of kept)) ≡ true → n < 2 ^ 16
    by true same rest is = subst (λ (m : ℕ). m < 2 ^ 16) (sym (eqb-true n (owner_of k) same)) (All-head Owns k kept all).small
    by false other rest is = rest is

pub few_kept : (m : Meanings) (durable : ℕ → Bool) (root : ℕ) (s : Slots) (gone : List ℕ) (kept : List Kept)
    → Keeps m durable root s gone kept → length kept < 2 ^ 64
few_kept m durable root s gone kept keeps =
    let all : All Owns kept =
    All-weaker (KeepsTable m durable s) Owns
    (λ k table. record { some = table.rows.live.may.owned; small = table.storable.instance.1 }) kept keeps.tables.each in
    let most : length (map owner_of kept) ≤ 2 ^ 16 =
    length-le_from_distinct_below (map owner_of kept) (2 ^ 16)
    (are_distinct kept (AreApart-front (owners_in kept) gone keeps.own.apart) all) (are_small kept all) in
    let same : length (map owner_of kept) ≡ length kept = length-map kept owner_of in
    omega arith
