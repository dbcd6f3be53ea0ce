-- The pages of each owner, where one of them has none.
use Rattle.std.proofs.Common.{◌≡◌, ◌≢◌, ℕ, ◌==◌, Bool, true, false, cond, [], refl, sym, ◌∙◌, eqb-true, eq-eqb, true≢false}
use Rattle.sb_drive.specs.Slots.{Slots, nobodys, bytes_for, owned}
use Rattle.sb_drive.proofs.OwnedLemmas.{bytes_for-other}
use Rattle.sb_drive.proofs.OwnedLemmas.{bytes_for-nobodys}
use Rattle.sb_owners.specs.Instances.{HasNone, without_owner}

-- an owner that no page has
pub HasNone-unused : (s : Slots) (owner : ℕ) → ((n : ℕ) → (s n).0 ≢ owner) → HasNone (owned s owner)
HasNone-unused s owner unused n = bytes_for-other owner (s n) (unused n)

-- an owner whose pages are nobody's
pub HasNone-without : (owner : ℕ) (s : Slots) → HasNone (owned (without_owner owner s) owner)
HasNone-without owner s n = by ((s n).0 == owner) refl
  where
    by : (b : Bool) → ((s n).0 == owner) ≡ b → bytes_for owner (cond b nobodys (s n)) ≡ []
    by true is = bytes_for-nobodys owner
    by false other = bytes_for-other owner (s n) (λ same. true≢false (sym (eq-eqb (s n).0 owner same) ∙ other))

-- and all others
pub owned-without : (owner o : ℕ) (s : Slots) → (o ≡ owner → ⊥) → owned (without_owner owner s) o ≡ owned s o
owned-without owner o s other = λ i n. by n ((s n).0 == owner) refl i
  where
    by : (n : ℕ) (b : Bool) → ((s n).0 == owner) ≡ b → bytes_for o (cond b nobodys (s n)) ≡ bytes_for o (s n)
    by n true is = bytes_for-nobodys o ∙ sym (bytes_for-other o (s n) (λ same. other (sym same ∙ eqb-true (s n).0 owner is)))
    by n false not = refl
