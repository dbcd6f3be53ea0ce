-- The pages of an owner, once some pages of memory are written.
use Rattle.std.proofs.Common.{◌≡◌, ◌≢◌, ℕ, ◌==◌, Bool, true, false, cond, List, [], refl, sym, ap, ◌∙◌, arith, eqb-true, eq-eqb, ne_eqb}
use Rattle.std.proofs.lemmas.Bool.{cond-true, cond-false}
use Rattle.std.proofs.lemmas.Bool.Decides.{nat_tests}
use Rattle.sb_ctx.specs.Pages.{new_pages, zeros}
use Rattle.sb_drive.specs.Instances.{IsLeastOwner}
use Rattle.sb_drive.specs.Slots.{Slot, Slots, nobodys, bytes_for, owned, with_slot}

-- an owner sees the bytes of its own page
pub bytes_for-own : (owner : ℕ) (bytes : List ℕ) → owner ≢ 0 → bytes_for owner (owner, bytes) ≡ bytes
bytes_for-own owner bytes somebody =
    cond-false (owner == 0) [] (cond (owner == owner) bytes []) (ne_eqb owner 0 somebody) ∙ cond-true (owner == owner) bytes [] (eq-eqb owner owner refl)

-- and none of a page that isn't its own
pub bytes_for-other : (owner : ℕ) (slot : Slot) → slot.0 ≢ owner → bytes_for owner slot ≡ []
bytes_for-other owner slot other =
    ap (cond (owner == 0) []) (cond-false (slot.0 == owner) slot.1 [] (ne_eqb slot.0 owner other)) ∙ either (owner == 0)
  where
    either : (b : Bool) → ◌≡◌ {A = List ℕ} (cond b [] []) []
    either true = refl
    either false = refl

pub bytes_for-free : (owner : ℕ) (slot : Slot) → slot.0 ≡ 0 → bytes_for owner slot ≡ []
bytes_for-free owner slot free = by (owner == 0) refl
  where
    by : (b : Bool) → owner == 0 ≡ b → cond b [] (cond (slot.0 == owner) slot.1 []) ≡ []
    by true nobody = refl
    by false somebody = cond-false (slot.0 == owner) slot.1 [] (ne_eqb slot.0 owner (λ same. absurd (grind (arith, nat_tests))))

-- nobody's page has none
pub bytes_for-nobodys : (owner : ℕ) → bytes_for owner nobodys ≡ []
bytes_for-nobodys owner = by (owner == 0) (0 == owner)
  where
    by : (b d : Bool) → ◌≡◌ {A = List ℕ} (cond b [] (cond d [] [])) []
    by true d = refl
    by false true = refl
    by false false = refl

-- ---- a new instance
pub owned-new : (s : Slots) (taken : List ℕ) (owner root : ℕ) → IsLeastOwner s taken owner → owned (with_slot root (owner, zeros) s) owner ≡ new_pages root
owned-new s taken owner root own = λ i n. by n (root == n) refl i
  where
    by : (n : ℕ) (b : Bool) → root == n ≡ b → bytes_for owner (cond b (owner, zeros) (s n)) ≡ cond (n == root) zeros []
    by n true here = bytes_for-own owner zeros (omega (arith, own.from)) ∙ sym (cond-true (n == root) zeros [] (eq-eqb n root (sym (eqb-true root n here))))
    by n false there = bytes_for-other owner (s n) (own.unused n) ∙ sym (cond-false (n == root) zeros [] (ne_eqb n root (λ same. absurd (grind (arith, nat_tests)))))

pub owned-beside : (s : Slots) (owner root o : ℕ) (bytes : List ℕ) → (s root).0 ≡ 0 → (o ≡ owner → ⊥) → owned (with_slot root (owner, bytes) s) o ≡ owned s o
owned-beside s owner root o bytes free other = λ i n. by n (root == n) refl i
  where
    by : (n : ℕ) (b : Bool) → root == n ≡ b → bytes_for o (cond b (owner, bytes) (s n)) ≡ bytes_for o (s n)
    by n true here = bytes_for-other o (owner, bytes) (λ same. other (sym same)) ∙ sym (bytes_for-free o (s n) (ap (λ m. (s m).0) (sym (eqb-true root n here)) ∙ free))
    by n false there = refl
