-- The number that a relation counts next is the key of no row, since the keys stand in the order of their bytes.
use Rattle.std.proofs.Common.{◌≡◌, ℕ, zero, suc, ◌+◌, ◌*◌, ◌-◌, ◌%◌, ◌/◌, ◌^◌, ◌<◌, ◌≤◌, Bool, true, false, true≢false, cond, T, List, [], ◌∷◌, Some, None, refl, sym, ap, subst, ◌∙◌, arith}
use Rattle.std.specs.Int.{bytes_high_first, byte_at, to_be_bytes, from_be_bytes, w64}
use Rattle.std.specs.declared.cmp.Ordering.{Ordering}
use Rattle.std.specs.declared.cmp.Ordering.TheVariants.{Greater}
use Rattle.std.specs.Ordering.{nat_cmp, ordering_then, is_eq, is_lt, eq_by_cmp}
use Rattle.std.specs.FinMap.Entries.{is_sorted, below_all}
use Rattle.std.proofs.lemmas.Cmp.{ranked, by_ranked}
use Rattle.std.proofs.lemmas.Map.Text.{is_eq-slice_cmp}
use Rattle.std.proofs.lemmas.Nat.{mul-add-lt, from_be_bytes-to_be_bytes_8}
use Rattle.sb_value.specs.Equal.{bytes_same}
use Rattle.sb_value.specs.Order.{bytes_cmp}
use Rattle.sb_relation.specs.Db.{Key, Row, Rows, row_at}
use Rattle.sb_relation.specs.Keys.{greatest}
use Rattle.sb_plain.proofs.UniqueLemmas.{head_of, rest_of}

-- ---- the number that the first bytes are, the highest first
worth : ℕ → List ℕ → ℕ
worth zero bytes = 0
worth (suc k) [] = 0
worth (suc k) (b ∷ bytes) = b * 256 ^ k + worth k bytes

worth-all : (bytes : List ℕ) → from_be_bytes w64 bytes ≡ worth 8 bytes
unfolding worth
worth-all [] = refl
worth-all (a ∷ []) = omega arith
worth-all (a ∷ b ∷ []) = omega arith
worth-all (a ∷ b ∷ c ∷ []) = omega arith
worth-all (a ∷ b ∷ c ∷ d ∷ []) = omega arith
worth-all (a ∷ b ∷ c ∷ d ∷ e ∷ []) = omega arith
worth-all (a ∷ b ∷ c ∷ d ∷ e ∷ f ∷ []) = omega arith
worth-all (a ∷ b ∷ c ∷ d ∷ e ∷ f ∷ g ∷ []) = omega arith
worth-all (a ∷ b ∷ c ∷ d ∷ e ∷ f ∷ g ∷ h ∷ bytes) = omega arith

below : (n : ℕ) → n % 256 < 256
below n = omega arith

byte-below : (k n : ℕ) → byte_at k n < 256
byte-below zero n = below n
byte-below (suc k) n = below (n / 256 ^ suc k)

worth-below : (k n : ℕ) → worth k (bytes_high_first k n) < 256 ^ k
unfolding worth
worth-below zero n = omega arith
worth-below (suc k) n =
    let less = mul-add-lt (byte_at k n) (256 ^ k) (worth k (bytes_high_first k n)) 256 (byte-below k n) (worth-below k n) in omega (arith, less)

-- bytes that the bytes of a number don't come behind are worth as much
least : (k n : ℕ) (bytes : List ℕ) → (bytes_cmp (bytes_high_first k n) bytes ≡ Greater → ⊥) → worth k (bytes_high_first k n) ≤ worth k bytes
unfolding worth
least zero n bytes not_behind = omega arith
least (suc k) n [] not_behind = absurd (not_behind refl)
least (suc k) n (d ∷ bytes) not_behind =
    by_ranked (byte_at k n < d) (byte_at k n ≡ d) (d < byte_at k n) (nat_cmp (byte_at k n) d) (ranked (byte_at k n) d (nat_cmp (byte_at k n) d) refl)
    (λ is less. let more = mul-add-lt (byte_at k n) (256 ^ k) (worth k (bytes_high_first k n)) d less (worth-below k n) in omega (arith, more))
    (λ is same.
    let rest = least k n bytes (λ greater. not_behind (ap (λ (o : Ordering). ordering_then o (bytes_cmp (bytes_high_first k n) bytes)) is ∙ greater)) in omega (arith, ap (λ (b : ℕ). b * 256 ^ k) same, rest))
    (λ is more. absurd (not_behind (ap (λ (o : Ordering). ordering_then o (bytes_cmp (bytes_high_first k n) bytes)) is)))

number-least : (n : ℕ) (bytes : List ℕ) → n < 2 ^ 64 → (bytes_cmp (to_be_bytes w64 n) bytes ≡ Greater → ⊥) → n ≤ from_be_bytes w64 bytes
number-least n bytes small not_behind =
    subst (λ (m : ℕ). m ≤ from_be_bytes w64 bytes) (sym (worth-all (to_be_bytes w64 n)) ∙ from_be_bytes-to_be_bytes_8 n small)
    (subst (λ (m : ℕ). worth 8 (to_be_bytes w64 n) ≤ m) (sym (worth-all bytes)) (least 8 n bytes not_behind))

-- ---- rows in the order of their keys
never : (a b : ℕ) → a < b → b ≤ a → ⊥
never a b less most = omega (arith, less, most)

reached : (n : ℕ) (e : Key × Row) (rows : Rows) → n < 2 ^ 64 → T (below_all bytes_cmp (to_be_bytes w64 n) (e ∷ rows)) → n ≤ greatest (e ∷ rows)
reached n e [] small all =
    number-least n e.0 small
    (λ greater. subst (λ (o : Ordering). T (is_lt o)) greater (head_of (is_lt (bytes_cmp (to_be_bytes w64 n) e.0)) (below_all {X = Row} bytes_cmp (to_be_bytes w64 n) []) all))
reached n e (f ∷ rows) small all = reached n f rows small (rest_of (is_lt (bytes_cmp (to_be_bytes w64 n) e.0)) (below_all bytes_cmp (to_be_bytes w64 n) (f ∷ rows)) all)

greater_free : (n : ℕ) (rows : Rows) → n < 2 ^ 64 → greatest rows < n → T (is_sorted bytes_cmp rows) → row_at rows (to_be_bytes w64 n) ≡ None
greater_free n [] small more rises = refl
greater_free n (e ∷ []) small more rises = by (eq_by_cmp bytes_cmp (to_be_bytes w64 n) e.0) refl
  where
    by : (b : Bool) → eq_by_cmp bytes_cmp (to_be_bytes w64 n) e.0 ≡ b → cond b (Some e.1) (row_at [] (to_be_bytes w64 n)) ≡ None
    by true same = absurd (never (from_be_bytes w64 e.0) n more (number-least n e.0 small (λ greater. true≢false (sym same ∙ ap is_eq greater))))
    by false differs = refl
greater_free n (e ∷ f ∷ rows) small more rises =
    by (eq_by_cmp bytes_cmp (to_be_bytes w64 n) e.0) refl (greater_free n (f ∷ rows) small more (rest_of (below_all bytes_cmp e.0 (f ∷ rows)) (is_sorted bytes_cmp (f ∷ rows)) rises))
  where
    by : (b : Bool) → eq_by_cmp bytes_cmp (to_be_bytes w64 n) e.0 ≡ b → row_at (f ∷ rows) (to_be_bytes w64 n) ≡ None → cond b (Some e.1) (row_at (f ∷ rows) (to_be_bytes w64 n)) ≡ None
    by true same rest =
        let named : to_be_bytes w64 n ≡ e.0 = (bytes_same (to_be_bytes w64 n) e.0).0 (sym (is_eq-slice_cmp (to_be_bytes w64 n) e.0) ∙ same) in
        absurd
        (never (greatest (f ∷ rows)) n more
        (reached n f rows small
        (subst (λ (k : Key). T (below_all bytes_cmp k (f ∷ rows))) (sym named) (head_of (below_all bytes_cmp e.0 (f ∷ rows)) (is_sorted bytes_cmp (f ∷ rows)) rises))))
    by false differs rest = rest

pub next_free : (rows : Rows) → greatest rows < 2 ^ 64 - 1 → T (is_sorted bytes_cmp rows) → row_at rows (to_be_bytes w64 (greatest rows + 1)) ≡ None
next_free rows small rises = greater_free (greatest rows + 1) rows (omega (arith, small)) (omega arith) rises
