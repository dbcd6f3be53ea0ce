-- Writes that free the pages of an owner, one page after another.
use Rattle.std.proofs.Common.{◌≡◌, ◌≢◌, ℕ, ◌+◌, ◌<◌, ◌==◌, nat_lt, Bool, true, false, cond, List, [], ◌∷◌, ◌++◌, refl, sym, ap, subst, ◌∙◌, arith, eqb-true, eq-eqb, ne_eqb, true≢false}
use Rattle.std.proofs.lemmas.Bool.{ltb-true, ltb-false, lt-ltb, le-ltb}
use Rattle.std.proofs.lemmas.List.Elements.{All-nil, All-push}
use Rattle.sb_drive.specs.Slots.{Slots, IsPage, nobodys, with_slot}
use Rattle.sb_memory.specs.Writes.{written, AreAmong, ArePagesTo}
use Rattle.sb_memory.specs.declared.slots.Write.{Write}
use Rattle.sb_memory.proofs.WholeLemmas.{IsPage-nobodys}
use Rattle.sb_owners.specs.Instances.{without_owner}

written-append : (xs ys : List Write) (s : Slots) → written (xs ++ ys) s ≡ written ys (written xs s)
written-append [] ys s = refl
written-append (w ∷ xs) ys s = written-append xs ys (with_slot w.number w.slot s)

-- the owner's pages below this number are nobody's
abbrev pub without_below : ℕ → ℕ → Slots → Slots
without_below owner first s m = cond (nat_lt m first) (without_owner owner s m) (s m)

pub record FreesBelow (owner first : ℕ) (s : Slots) (writes : List Write) : Type 0 where
  pub among : AreAmong 16384 writes
  pub whole : ArePagesTo writes
  pub freed : (m : ℕ) → written writes s m ≡ without_below owner first s m

pub FreesBelow-none : (owner : ℕ) (s : Slots) (writes : List Write) → writes ≡ [] → FreesBelow owner 0 s writes
FreesBelow-none owner s writes none = subst (FreesBelow owner 0 s) (sym none) (record {
  among = All-nil (λ (w : Write). w.number < 16384);
  whole = All-nil (λ (w : Write). IsPage w.slot);
  freed = λ m. sym (ap (λ (b : Bool). cond b (without_owner owner s m) (s m)) (le-ltb m 0 (omega arith)));
})

module _ (owner n : ℕ) (s : Slots) (ws : List Write) (below : FreesBelow owner n s ws) where
  -- pages of other numbers stay
  beside : (m : ℕ) → (n == m) ≡ false → written ws s m ≡ without_below owner (n + 1) s m
  beside m other = below.freed m ∙ ap (λ (b : Bool). cond b (without_owner owner s m) (s m)) (by (nat_lt m n) refl)
    where
      apart : n ≢ m
      apart same = true≢false (sym (eq-eqb n m same) ∙ other)

      by : (b : Bool) → nat_lt m n ≡ b → nat_lt m n ≡ nat_lt m (n + 1)
      by true less = let under = ltb-true m n less in less ∙ sym (lt-ltb m (n + 1) (omega (arith, under)))
      by false most = let least = ltb-false m n most in most ∙ sym (le-ltb m (n + 1) (omega (arith, least, apart)))

  -- this page isn't the owner's
  pub FreesBelow-kept : (s n).0 ≢ owner → FreesBelow owner (n + 1) s ws
  FreesBelow-kept other = record { among = below.among; whole = below.whole; freed = λ m. by m (n == m) refl }
    where
      by : (m : ℕ) (b : Bool) → (n == m) ≡ b → written ws s m ≡ without_below owner (n + 1) s m
      by m true here =
          let same : n ≡ m = eqb-true n m here in
          below.freed m
          ∙ ap (λ (b : Bool). cond b (without_owner owner s m) (s m)) (le-ltb m n (omega (arith, same)))
          ∙ sym (ap (λ (b : Bool). cond b nobodys (s m)) (ne_eqb (s m).0 owner (λ is. other (ap (λ (k : ℕ). (s k).0) same ∙ is))))
          ∙ ap (λ (b : Bool). cond b (without_owner owner s m) (s m)) (sym (lt-ltb m (n + 1) (omega (arith, same))))
      by m false there = beside m there

  -- it is, and one write more frees it
  pub FreesBelow-more : (new : List Write) → n < 16384 → (s n).0 ≡ owner → new ≡ ws ++ record { number = n; slot = nobodys } ∷ [] → FreesBelow owner (n + 1) s new
  FreesBelow-more new less is made = subst (FreesBelow owner (n + 1) s) (sym made) (record {
    among = All-push (λ (w : Write). w.number < 16384) ws (record { number = n; slot = nobodys }) below.among less;
    whole = All-push (λ (w : Write). IsPage w.slot) ws (record { number = n; slot = nobodys }) below.whole IsPage-nobodys;
    freed = λ m. ap (λ (f : Slots). f m) (written-append ws (record { number = n; slot = nobodys } ∷ []) s) ∙ by m (n == m) refl;
  })
    where
      by : (m : ℕ) (b : Bool) → (n == m) ≡ b → cond b nobodys (written ws s m) ≡ without_below owner (n + 1) s m
      by m true here =
          let same : n ≡ m = eqb-true n m here in
          sym (ap (λ (b : Bool). cond b nobodys (s m)) (eq-eqb (s m).0 owner (ap (λ (k : ℕ). (s k).0) (sym same) ∙ is)))
          ∙ ap (λ (b : Bool). cond b (without_owner owner s m) (s m)) (sym (lt-ltb m (n + 1) (omega (arith, same))))
      by m false there = beside m there
